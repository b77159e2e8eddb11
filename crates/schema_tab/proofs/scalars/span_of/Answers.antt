use Rattle.schema_rows.specs.Rows as R
use Rattle.schema_rows.specs.Rows.{row_of, kind_of}
use Rattle.schema_rows.specs.declared.schemas.TheConstants as C
use Rattle.schema_rows.specs.Stands.{Gives_fields}
use Rattle.schema_tab.proofs.Asking.{wrong_field, span_read, span_refused}
use Rattle.schema_tab.proofs.KindLemmas.{range_values}
use Rattle.schema_tab.proofs.scalars.span_of.Goals as goal

pub span_from-requires : goal.span_from-requires
span_from-requires c =
    let g : Gives_fields C.RANGES c.args.value.now c.in-Some.fields = rw c.in-Some.is at c.requires.found in range_values g

pub returns-in-Some : goal.returns-in-Some
returns-in-Some c =
    let g : Gives_fields C.RANGES c.args.value.now c.in-Some.fields = rw c.in-Some.is at c.requires.found in
    record {
      value = λ k. span_read c.span_from.result (kind_of c.args.row.now.kind) c.args.value.now c.in-Some.fields k g c.span_from.ensures.value;
      fault = λ k. span_refused c.span_from.result c.args.place.now (row_of c.args.row.now) c.args.value.now c.in-Some.fields k g c.span_from.ensures.fault;
    }

pub returns-in-None : goal.returns-in-None
returns-in-None c = record {
  value = λ k. tt;
  fault = λ k n. wrong_field c.args.place.now (row_of c.args.row.now) c.args.value.now R.span c.field_fault.result k (rw c.in-None.is at c.requires.found) c.field_fault.ensures n;
}
