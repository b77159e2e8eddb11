use Rattle.schema_rows.specs.declared.faults.SchemaFault.{SchemaFault}
use Rattle.schema_rows.specs.declared.schemas.TheConstants as C
use Rattle.schema_rows.specs.Families.{child}
use Rattle.schema_rows.specs.Stands.{Gives_fields}
use Rattle.schema_rows.specs.Faults.{Refuses_reading}
use Rattle.schema_tab.proofs.Asking.{object_read, memory_only}
use Rattle.schema_tab.proofs.KindLemmas.{fields_among, fields_kinds}
use Rattle.schema_tab.proofs.required_values.root_of.Goals as goal

pub object_from-requires : goal.object_from-requires
object_from-requires c =
    let g : Gives_fields C.ROOTS c.args.value.now c.in-Some.fields = rw c.in-Some.is at c.requires.found in
    record { family = fields_among g; kinds = fields_kinds g }

pub returns-in-Some : goal.returns-in-Some
returns-in-Some c =
    let g : Gives_fields C.ROOTS c.args.value.now c.in-Some.fields = rw c.in-Some.is at c.requires.found in
    record {
      value = object_read c.object_from.result C.ROOTS c.args.value.now c.in-Some.fields g c.object_from.ensures.made;
      fault = memory_only c.object_from.result (λ (f : SchemaFault). Refuses_reading (child C.ROOTS) c.args.place.now c.args.value.now f) c.object_from.ensures.memory;
    }

pub returns-in-None : goal.returns-in-None
returns-in-None c = record { value = tt; fault = λ n. c.stranger_fault.ensures n C.ROOTS (rw c.in-None.is at c.requires.found) }
