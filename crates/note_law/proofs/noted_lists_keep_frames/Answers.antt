use Rattle.note_law.proofs.NotedKept.{noted_frames_kept}
use Rattle.note_law.proofs.noted_lists_keep_frames.Goals as goal

pub returns : goal.returns
returns c = noted_frames_kept
