use Rattle.std.proofs.Common.{refl, inr}
use Rattle.schema_rows.specs.Rows as R
use Rattle.schema_rows.specs.Rows.{row_of}
use Rattle.schema_rows.specs.Stands.{numeral}
use Rattle.schema_rows.specs.Faults.{long}
use Rattle.schema_tab.proofs.Asking.{wrong_field, own_numeral}
use Rattle.schema_tab.proofs.scalars.numeral_of.Goals as goal

pub decimal_of-requires : goal.decimal_of-requires
decimal_of-requires c = own_numeral c.args.value.now _ c.in-Num.is c.requires.numerals

pub returns-in-Some-clause-value : goal.returns-in-Some-clause-value
returns-in-Some-clause-value c = λ k. numeral _ _ _ _ _ k c.in-Num.is c.in-Some.ensures refl

pub returns-in-None-clause-fault : goal.returns-in-None-clause-fault
returns-in-None-clause-fault c = λ k n. long _ _ _ _ _ (inr k) c.in-Num.is c.in-None.ensures (c.range_fault.ensures n)

pub returns-in_default : goal.returns-in_default
returns-in_default c = record {
  value = λ k. tt;
  fault = λ k n. wrong_field c.args.place.now (row_of c.args.row.now) c.args.value.now R.numeral c.field_fault.result k c.in_default.not-Num c.field_fault.ensures n;
}
