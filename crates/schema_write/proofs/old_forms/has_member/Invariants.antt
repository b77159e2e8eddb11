-- No member so far has the name.
use Rattle.std.proofs.Common.{◌≡◌, drop}
use Rattle.schema_write.specs.OldForms.{has_member}
use Rattle.schema_write.proofs.old_forms.has_member.Given as goal

abbrev pub invariant-loop-member : goal.invariant-loop-member
invariant-loop-member l =
    has_member l.name (drop l.member-index l.member-items) ≡ has_member l.name l.members
