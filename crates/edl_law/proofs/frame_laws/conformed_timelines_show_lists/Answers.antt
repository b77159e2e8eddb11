use Rattle.edl_law.proofs.TimelineShows.{timeline_shows_list}
use Rattle.edl_law.proofs.frame_laws.conformed_timelines_show_lists.Goals as goal

pub returns : goal.returns
returns c = timeline_shows_list
