use Rattle.std.proofs.Common.{◌∙◌, sym, arith}
use Rattle.ale_text.proofs.FieldLemmas.{empty_field, next_at, none_at, shorter}
use Rattle.ale_text.proofs.fields.field_at.Goals as goal

pub overflow_add-end : goal.overflow_add-end
overflow_add-end c = omega (arith, c.in-Some.ensures.within, c.fields.invariant.1)

pub returns-in-None : goal.returns-in-None
returns-in-None c =
    empty_field c.after.result.now c.fields.rest.now _ c.after.ensures
    (sym c.fields.invariant.0
    ∙ none_at c.fields.rest.now c.fields.left c.in-None.ensures (omega (arith, c.fields-test.true)))

pub fields-preserved : goal.fields-preserved
fields-preserved c = (
  next_at c.fields.rest.now c.after-rest.result.now c.in-Some.end c.fields.left c.in-Some.ensures
      (omega (arith, c.fields-test.true)) c.after-rest.ensures
      ∙ c.fields.invariant.0,
  omega (
    arith,
    shorter c.fields.rest.now c.after-rest.result.now c.in-Some.end c.in-Some.ensures
        c.after-rest.ensures,
    c.fields.invariant.1,
  ),
)
