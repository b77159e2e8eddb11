use Rattle.object_law.proofs.PatchedTimelines.{patched_is_writable}
use Rattle.object_law.proofs.patched_is_writable.Goals as goal

pub returns : goal.returns
returns c = patched_is_writable
