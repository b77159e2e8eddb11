use Rattle.edl_law.proofs.KeptFrames.{frames_kept, items_few}
use Rattle.edl_law.proofs.written_laws.written_lists_keep_frames.Goals as goal

pub returns : goal.returns
returns c = record { kept = frames_kept; few = items_few }
