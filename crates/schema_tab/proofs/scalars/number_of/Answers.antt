use Rattle.std.proofs.Common.{refl}
use Rattle.schema_rows.specs.Rows as R
use Rattle.schema_rows.specs.Rows.{row_of}
use Rattle.schema_rows.specs.Stands.{number}
use Rattle.schema_rows.specs.Faults.{no_speed}
use Rattle.schema_tab.proofs.Asking.{wrong_field, own_numeral}
use Rattle.schema_tab.proofs.scalars.number_of.Goals as goal

pub speed_of-requires : goal.speed_of-requires
speed_of-requires c = own_numeral c.args.value.now _ c.in-Num.is c.requires.numerals

pub returns-in-Some-clause-value : goal.returns-in-Some-clause-value
returns-in-Some-clause-value c = λ d k. number _ _ _ d _ c.in-Some.ensures.0 _ k c.in-Num.is c.in-Some.ensures.1 c.in-Some.ensures.2 c.in-Some.ensures.3 refl

pub returns-in-None-clause-fault : goal.returns-in-None-clause-fault
returns-in-None-clause-fault c = λ d k n. no_speed _ _ _ _ d _ k c.in-Num.is c.in-None.ensures (c.field_fault.ensures n)

pub returns-in_default : goal.returns-in_default
returns-in_default c = record {
  value = λ d k. tt;
  fault = λ d k n. wrong_field c.args.place.now (row_of c.args.row.now) c.args.value.now (R.number d) c.field_fault-in_default.result k c.in_default.not-Num c.field_fault-in_default.ensures n;
}
