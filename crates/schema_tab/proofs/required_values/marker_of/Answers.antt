use Rattle.std.proofs.Common.{refl, ap}
use Rattle.schema_rows.specs.declared.schemas.TheConstants as C
use Rattle.schema_rows.specs.Readings.{kept}
use Rattle.schema_rows.specs.Stands.{Gives_fields, as_member, as_kept}
use Rattle.schema_tab.proofs.KindLemmas.{fields_among, fields_kinds}
use Rattle.schema_tab.proofs.required_values.marker_of.Goals as goal

pub marker_from-requires : goal.marker_from-requires
marker_from-requires c =
    let g : Gives_fields C.MARKERS c.args.value.now c.in-Some.fields = rw c.in-Some.is at c.requires.found in
    record { family = fields_among g; kinds = fields_kinds g }

pub returns-in-Ok : goal.returns-in-Ok
returns-in-Ok c =
    let g : Gives_fields C.MARKERS c.args.value.now c.in-Some.fields = rw c.in-Some.is at c.requires.found in
    record { value = as_member _ _ _ C.MARKERS c.in-Some.fields refl c.in-Ok.ensures g; memory = tt }

pub returns-in-Ok-copy_json : goal.returns-in-Ok-copy_json
returns-in-Ok-copy_json c = record {
  value = as_kept _ _ _ C.MARKERS refl (ap kept c.in-Ok-copy_json.ensures) (rw c.in-None.is at c.requires.found);
  memory = tt;
}
