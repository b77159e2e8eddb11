use Rattle.std.proofs.Common.{arith, refl}
use Rattle.std.proofs.lemmas.Int.{ints}
use Rattle.edit_plans.proofs.Further.{further-quiet, quiet-near}
use Rattle.edit_plans.proofs.touched_children.further.Goals as goal

pub overflow_add-result-2 : goal.overflow_add-result-2
overflow_add-result-2 c =
    let near = quiet-near c.args.children.now _ _ c.args.passed.ticks c.args.passed.count
    c.quiet-quiet.result c.requires.few c.requires.passed c.quiet-quiet.ensures in
    omega (arith, ints, near.0, near.1, near.2)

pub returns : goal.returns
returns c =
    let near = quiet-near c.args.children.now _ _ c.args.passed.ticks c.args.passed.count
    c.quiet-quiet.result c.requires.few c.requires.passed c.quiet-quiet.ensures in
    further-quiet c.args.children.now _ _ c.args.from c.args.to c.args.passed.ticks _
    c.args.passed.count _ c.quiet-quiet.result c.requires.passed c.quiet-quiet.ensures
    (omega (arith, ints, c.ranges.from)) (omega (arith, ints, c.ranges.to)) refl
    (omega (arith, ints, near.0, near.1, near.2))
