use Rattle.std.proofs.Common.{◌<◌, ◌/◌, refl, arith}
use Rattle.std.proofs.lemmas.Bool.Decides.{nat_tests}
use Rattle.tick_time.proofs.Orders.{less_quotient, below_quotient, over_zero, under_zero, same_quotient}
use Rattle.tick_time.proofs.ratios.+at_most.Goals as goal

pub returns-then-left-right : goal.returns-then-left-right
returns-then-left-right t c = (
  λ h. let lt : c.args.a / c.args.b < c.args.c / c.args.d = grind (arith, nat_tests, h) in less_quotient c.args.a c.args.b c.args.c c.args.d c.requires.left c.requires.right lt,
  λ h. let lt = below_quotient c.args.a c.args.b c.args.c c.args.d c.requires.left c.requires.right c.if-left-right.true h in grind (arith, nat_tests, lt),
)

pub returns-then-over-eq0 : goal.returns-then-over-eq0
returns-then-over-eq0 t c = (λ _. over_zero c.args.a c.args.b c.args.c c.args.d c.requires.left c.requires.right c.if-left-right.false c.if-over-eq0.true, λ _. refl)

pub returns-then-under-eq0 : goal.returns-then-under-eq0
returns-then-under-eq0 t c = (
  λ h. cc h,
  λ h. absurd (under_zero c.args.a c.args.b c.args.c c.args.d c.requires.left c.requires.right c.if-left-right.false c.if-over-eq0.false c.if-under-eq0.true h),
)

pub returns : goal.returns
returns t c =
    let same = same_quotient c.args.a c.args.b c.args.c c.args.d c.requires.left c.requires.right c.if-left-right.false in (
      λ h. omega (arith, c.at_most.ensures.0 h, same),
      λ h. c.at_most.ensures.1 (omega (arith, h, same)),
    )
