use Rattle.std.proofs.Common.{◌≡◌, ◌≤◌, [], get_or, length}
use Rattle.media_list.specs.Lines.{tab_fields}
use Rattle.ale_text.proofs.fields.field_at.Given as goal

abbrev pub invariant-fields : goal.invariant-fields
invariant-fields l =
    (get_or (tab_fields l.rest) l.left [] ≡ get_or (tab_fields l.line) l.index [])
    × (length l.rest ≤ length l.line)

abbrev pub decreases-fields : goal.decreases-fields
decreases-fields l = l.left
