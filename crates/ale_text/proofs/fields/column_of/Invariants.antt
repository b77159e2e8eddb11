use Rattle.std.proofs.Common.{◌≡◌, ◌+◌, ◌≤◌, length}
use Rattle.ale_text.specs.Lines.{column_of}
use Rattle.ale_text.proofs.FieldLemmas.{column_from}
use Rattle.ale_text.proofs.fields.column_of.Given as goal

abbrev pub invariant-names : goal.invariant-names
invariant-names l = (column_from l.name l.index l.rest ≡ column_of l.name l.names)
    × (l.index + length l.rest ≤ length l.names)

abbrev pub decreases-names : goal.decreases-names
decreases-names l = length l.rest
