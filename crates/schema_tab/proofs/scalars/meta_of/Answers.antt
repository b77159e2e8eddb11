use Rattle.std.proofs.Common.{refl, sym, ◌∙◌}
use Rattle.schema_rows.specs.Rows as R
use Rattle.schema_rows.specs.Rows.{row_of}
use Rattle.schema_rows.specs.Stands.{meta}
use Rattle.schema_tab.proofs.Asking.{wrong_field}
use Rattle.schema_tab.proofs.scalars.meta_of.Goals as goal

pub returns-in-Some-clause-value : goal.returns-in-Some-clause-value
returns-in-Some-clause-value c = λ k. meta _ _ _ _ k (sym c.in-Ok.ensures ∙ c.in-Some.ensures) refl

pub returns-in-None-clause-fault : goal.returns-in-None-clause-fault
returns-in-None-clause-fault c = λ k n.
    wrong_field c.args.place.now (row_of c.args.row.now) c.args.value.now R.meta c.field_fault.result k (λ ms e. c.in-None.ensures ms (c.in-Ok.ensures ∙ e)) c.field_fault.ensures n
