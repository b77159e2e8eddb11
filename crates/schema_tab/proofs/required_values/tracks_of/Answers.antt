use Rattle.std.proofs.Common.{◌≡◌, refl, sym, subst}
use Rattle.schema_rows.specs.declared.schemas.TheConstants as C
use Rattle.schema_rows.specs.declared.values.Fields.{Fields}
use Rattle.schema_rows.specs.Readings.{stack_fields}
use Rattle.schema_rows.specs.Stands.{Gives_fields, stack}
use Rattle.schema_tab.proofs.Asking.{fields_are}
use Rattle.schema_tab.proofs.KindLemmas.{stack_schema, stack_kinds}
use Rattle.schema_tab.proofs.required_values.tracks_of.Goals as goal

pub owned_stack-requires : goal.owned_stack-requires
owned_stack-requires c =
    let g : Gives_fields C.STACKS c.args.value.now c.in-Some.fields = rw c.in-Some.is at c.requires.found in stack_kinds g

pub returns-in-Ok : goal.returns-in-Ok
returns-in-Ok c =
    let g : Gives_fields C.STACKS c.args.value.now c.in-Some.fields = rw c.in-Some.is at c.requires.found in
    let same : stack_fields c.in-Ok.stack ≡ c.in-Some.fields =
    fields_are (stack_fields c.in-Ok.stack) c.in-Some.fields (sym (stack_schema g)) c.in-Ok.ensures.values c.in-Ok.ensures.rest in
    record {
      value = stack _ _ _ c.in-Ok.stack refl (subst (λ (f : Fields). Gives_fields C.STACKS c.args.value.now f) (sym same) g) refl;
      fault = tt;
    }

pub returns-in-None : goal.returns-in-None
returns-in-None c = record { value = tt; fault = λ n. c.stranger_fault.ensures n C.STACKS (rw c.in-None.is at c.requires.found) }
