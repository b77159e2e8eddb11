use Rattle.std.proofs.Common.{◌≡◌, ◌<◌, length, arith}
use Rattle.std.proofs.lemmas.Bool.Decides.{nat_tests}
use Rattle.tick_time.proofs.Joins.{rest_test, no_digits}
use Rattle.tick_time.proofs.forms.are_some_digits.Goals as goal

pub returns-then-not-is_empty : goal.returns-then-not-is_empty
returns-then-not-is_empty c =
    let some : 0 < length c.split_digits.result.0.now = grind (arith, nat_tests, c.is_empty.ensures, c.if-not-is_empty.true) in
    rest_test _ _ _ _ c.is_empty-then-not-is_empty.ensures c.split_digits.ensures.joined some c.split_digits.ensures.digits c.split_digits.ensures.parts

pub returns-else-not-is_empty : goal.returns-else-not-is_empty
returns-else-not-is_empty c =
    let none : length c.split_digits.result.0.now ≡ 0 = grind (arith, nat_tests, c.is_empty.ensures, c.if-not-is_empty.false) in
    no_digits _ _ _ _ c.if-not-is_empty.false none c.split_digits.ensures.parts
