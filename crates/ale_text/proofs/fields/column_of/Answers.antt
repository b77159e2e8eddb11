use Rattle.std.proofs.Common.{refl, ◌∙◌, sym, arith}
use Rattle.ale_text.proofs.FieldLemmas.{column_starts, column_next, column_last, shorter}
use Rattle.ale_text.proofs.fields.column_of.Goals as goal

pub names-init : goal.names-init
names-init c = (column_starts c.args.name.now c.args.names.now, omega arith)

pub returns-then-is_text : goal.returns-then-is_text
returns-then-is_text c =
    sym (column_next c.args.name.now c.names.rest.now _ c.before-in-Some.result.now
    c.trim_spaces.result.now c.names.index c.in-Some.end _ c.in-Some.ensures
    c.before-in-Some.ensures c.trim_spaces.ensures refl c.if-is_text.ensures)
    ∙ c.names.invariant.0

pub names-preserved : goal.names-preserved
names-preserved c = (
  sym (column_next c.args.name.now c.names.rest.now c.after-rest.result.now
      c.before-in-Some.result.now c.trim_spaces.result.now c.names.index c.in-Some.end _
      c.in-Some.ensures c.before-in-Some.ensures c.trim_spaces.ensures c.after-rest.ensures
      c.if-is_text.ensures)
      ∙ c.names.invariant.0,
  omega (
    arith,
    shorter c.names.rest.now c.after-rest.result.now c.in-Some.end c.in-Some.ensures
        c.after-rest.ensures,
    c.names.invariant.1,
  ),
)

pub returns-then-is_text-2 : goal.returns-then-is_text-2
returns-then-is_text-2 c =
    sym (column_last c.args.name.now c.names.rest.now c.trim_spaces-2.result.now c.names.index _
    c.in_default.ensures c.trim_spaces-2.ensures c.if-is_text-2.ensures)
    ∙ c.names.invariant.0

pub returns-else-is_text-2 : goal.returns-else-is_text-2
returns-else-is_text-2 c =
    sym (column_last c.args.name.now c.names.rest.now c.trim_spaces-2.result.now c.names.index _
    c.in_default.ensures c.trim_spaces-2.ensures c.if-is_text-2.ensures)
    ∙ c.names.invariant.0
