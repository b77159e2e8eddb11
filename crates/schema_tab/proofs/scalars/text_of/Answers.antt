use Rattle.std.proofs.Common.{ap, ◌∙◌}
use Rattle.schema_rows.specs.declared.values.Value.TheVariants as V
use Rattle.schema_rows.specs.Rows as R
use Rattle.schema_rows.specs.Rows.{row_of}
use Rattle.schema_rows.specs.Stands.{text}
use Rattle.schema_tab.proofs.Asking.{wrong_field}
use Rattle.schema_tab.proofs.scalars.text_of.Goals as goal

pub returns-in-Ok-clause-value : goal.returns-in-Ok-clause-value
returns-in-Ok-clause-value c = λ d k. text _ _ _ d _ k c.in-Str.is (ap V.Text (c.in-Ok.ensures ∙ c.as_str.ensures))

pub returns-in_default : goal.returns-in_default
returns-in_default c = record {
  value = λ d k. tt;
  fault = λ d k n. wrong_field c.args.place.now (row_of c.args.row.now) c.args.value.now (R.text d) c.field_fault.result k c.in_default.not-Str c.field_fault.ensures n;
}
