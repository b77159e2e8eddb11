use Rattle.edits_law.proofs.WorkedRows.{reached, pinned}
use Rattle.edits_law.proofs.depth_laws.nests_are_worked.Goals as goal

pub returns : goal.returns
returns c = record { instants = reached; pins = pinned }
