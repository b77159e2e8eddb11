use Rattle.std.proofs.Common.{refl, ap}
use Rattle.schema_rows.specs.declared.schemas.TheConstants as C
use Rattle.schema_rows.specs.Readings.{kept}
use Rattle.schema_rows.specs.Stands.{Gives_fields, as_member, as_kept, as_medium}
use Rattle.schema_tab.proofs.KindLemmas.{fields_among, fields_kinds}
use Rattle.schema_tab.proofs.required_values.reference_of.Goals as goal

pub medium_from-requires : goal.medium_from-requires
medium_from-requires c =
    let g : Gives_fields C.MEDIA c.args.value.now c.in-Some.fields = rw c.in-Some.is at c.requires.found in
    record { family = fields_among g; kinds = fields_kinds g }

pub returns-in-Some : goal.returns-in-Some
returns-in-Some c =
    let g : Gives_fields C.MEDIA c.args.value.now c.in-Some.fields = rw c.in-Some.is at c.requires.found in
    record { value = as_medium _ _ _ refl c.requires.some (as_member _ _ _ C.MEDIA c.in-Some.fields refl c.medium_from.ensures g); memory = tt }

pub returns-in-Ok : goal.returns-in-Ok
returns-in-Ok c = record {
  value = as_medium _ _ _ refl c.requires.some (as_kept _ _ _ C.MEDIA refl (ap kept c.in-Ok.ensures) (rw c.in-None.is at c.requires.found));
  memory = tt;
}
