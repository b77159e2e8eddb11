use Rattle.std.proofs.Common.{refl}
use Rattle.schema_rows.specs.Rows as R
use Rattle.schema_rows.specs.Rows.{row_of}
use Rattle.schema_rows.specs.Stands.{flag}
use Rattle.schema_tab.proofs.Asking.{wrong_field}
use Rattle.schema_tab.proofs.scalars.flag_of.Goals as goal

pub returns-in-Bool-clause-value : goal.returns-in-Bool-clause-value
returns-in-Bool-clause-value c = λ k. flag _ _ _ _ k c.in-Bool.is refl

pub returns-in_default : goal.returns-in_default
returns-in_default c = record {
  value = λ k. tt;
  fault = λ k n. wrong_field c.args.place.now (row_of c.args.row.now) c.args.value.now R.flag c.field_fault.result k c.in_default.not-Bool c.field_fault.ensures n;
}
