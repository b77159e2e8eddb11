use Rattle.std.proofs.Common.{refl, inl}
use Rattle.schema_rows.specs.Rows as R
use Rattle.schema_rows.specs.Rows.{row_of}
use Rattle.schema_rows.specs.Stands.{rate}
use Rattle.schema_rows.specs.Faults.{long, no_rate}
use Rattle.schema_tab.proofs.Asking.{wrong_field, own_numeral}
use Rattle.schema_tab.proofs.scalars.rate_of.Goals as goal

pub decimal_of-requires : goal.decimal_of-requires
decimal_of-requires c = own_numeral c.args.value.now _ c.in-Num.is c.requires.numerals

pub returns-in-Ok-clause-value : goal.returns-in-Ok-clause-value
returns-in-Ok-clause-value c = λ k. rate _ _ _ _ c.in-Some.decimal _ k c.in-Num.is c.in-Some.ensures c.in-Ok.ensures.rate refl

pub returns-in-Err-clause-fault : goal.returns-in-Err-clause-fault
returns-in-Err-clause-fault c = λ k n. no_rate _ _ _ _ _ k c.in-Num.is (c.in-Some.decimal, c.in-Some.ensures, c.in-Err.ensures.fault.1) (c.rate_fault.ensures n)

pub returns-in-None-clause-fault : goal.returns-in-None-clause-fault
returns-in-None-clause-fault c = λ k n. long _ _ _ _ _ (inl k) c.in-Num.is c.in-None.ensures (c.range_fault.ensures n)

pub returns-in_default : goal.returns-in_default
returns-in_default c = record {
  value = λ k. tt;
  fault = λ k n. wrong_field c.args.place.now (row_of c.args.row.now) c.args.value.now R.rate c.field_fault.result k c.in_default.not-Num c.field_fault.ensures n;
}
