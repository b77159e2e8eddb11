use Rattle.edl_law.proofs.WorkedTracks.{tracks_worked, clock_24}
use Rattle.edl_law.proofs.frame_laws.tracks_are_worked.Goals as goal

pub returns : goal.returns
returns c = record { tracks = tracks_worked; clock = clock_24 }
