use Rattle.std.proofs.Common.{Some, None}
use Rattle.edl_frames.specs.Channels.{own_key, reel_first}
use Rattle.edl_law.proofs.SideLooks.{knows_listed, knows_reels}
use Rattle.edl_law.proofs.ListShows.{list_shows_timeline}
use Rattle.edl_law.proofs.frame_laws.lists_show_timelines.Goals as goal

pub returns : goal.returns
returns c = record {
  listed = λ t list rows drop wide ch n sound distinct carried i.
      list_shows_timeline own_key t list (Some rows) drop wide ch n sound sound.calm
      (knows_listed rows distinct) carried i;
  reels = λ t list drop wide ch n sound carried i.
      list_shows_timeline reel_first t list None drop wide ch n sound sound.calm knows_reels carried
      i;
}
