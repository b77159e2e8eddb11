-- No marker so far has the member.
use Rattle.std.proofs.Common.{◌≡◌, drop}
use Rattle.std.specs.List.{list_any}
use Rattle.schema_write.specs.OldForms.{has_range}
use Rattle.schema_write.proofs.old_forms.have_range.Given as goal

abbrev pub invariant-loop-marker : goal.invariant-loop-marker
invariant-loop-marker l =
    list_any has_range (drop l.marker-index l.markers) ≡ list_any has_range l.markers
