-- The objects so far have a form.
use Rattle.schema_write.specs.OldForms.{held_at}
use Rattle.schema_write.specs.OldWalk.{AreOldTo}
use Rattle.schema_write.proofs.old_forms.+walk_object.Given as goal

abbrev pub invariant-walk_objects-objects : goal.invariant-walk_objects-objects
invariant-walk_objects-objects l = AreOldTo held_at l.index l.objects
