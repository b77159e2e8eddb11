use Rattle.note_law.proofs.NotedWritable.{noted_writable}
use Rattle.note_law.proofs.noted_timelines_are_writable.Goals as goal

pub returns : goal.returns
returns c = noted_writable
