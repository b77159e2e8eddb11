use Rattle.std.proofs.Common.{ℕ, List, refl, subst}
use Rattle.std.proofs.lemmas.Result.{err_from_is_err_and}
use Rattle.schema_rows.specs.declared.schemas.TheConstants as C
use Rattle.schema_rows.specs.Readings.{object_fields}
use Rattle.schema_rows.specs.Faults.{Refuses_fields, in_child, refused, many}
use Rattle.schema_tab.proofs.Whole.{child_fields}
use Rattle.schema_tab.proofs.root_objects.object_of.Goals as goal

pub returns-in_err-found-clause-fault : goal.returns-in_err-found-clause-fault
returns-in_err-found-clause-fault c =
    let p = err_from_is_err_and c.from_residual.result c.from_residual.ensures.1 in
    rw (p.1, p.2) (λ n. refused (in_child _ _ _ _ C.ROOTS refl
    (subst (λ (place : List ℕ). Refuses_fields place C.ROOTS c.args.value.now c.in_err-found.field-0.0) c.new-place.ensures (c.in_err-found.ensures.fault n))))

pub returns-clause-fault : goal.returns-clause-fault
returns-clause-fault c = λ n. many c.in_ok-object.object (child_fields C.ROOTS c.args.value.now (object_fields c.in_ok-object.object) c.in_ok-object.ensures.value) c.in-None.ensures refl
