use Rattle.std.proofs.Common.{◌≡◌, false}
use Rattle.tick_time.proofs.Joins.{numeral_joined, numeral_parted}
use Rattle.tick_time.proofs.forms.is_numeral.Goals as goal

pub returns-then-is_int : goal.returns-then-is_int
returns-then-is_int c = (
  λ yes. numeral_joined _ _ _ _ _ c.split_minus.ensures.joined c.split_digits.ensures.joined (c.is_int.ensures.0 c.if-is_int.true) (c.is_tail.ensures.0 yes),
  λ n. c.is_tail.ensures.1 (numeral_parted _ _ _ _ _ c.split_minus.ensures.parts c.split_digits.ensures.parts n).1,
)

pub returns-else-is_int : goal.returns-else-is_int
returns-else-is_int c = (
  λ yes. let no : c.is_int.result ≡ false = c.if-is_int.false in absurd (cc),
  λ n. c.is_int.ensures.1 (numeral_parted _ _ _ _ _ c.split_minus.ensures.parts c.split_digits.ensures.parts n).0,
)
