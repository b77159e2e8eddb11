use Rattle.std.proofs.Common.{◌≡◌, ◌<◌, length, slice_index, ◌∙◌, ap, ◌∷◌, rules, arith}
use Rattle.std.proofs.lemmas.Bool.Decides.{nat_tests}
use Rattle.tick_time.proofs.Joins.{first_off, tail_point, point_tail, point_none}
use Rattle.tick_time.proofs.forms.is_tail.Goals as goal

pub returns-then-not-is_empty : goal.returns-then-not-is_empty
returns-then-not-is_empty c =
    let point : slice_index c.args.text.now 0 ≡ 46 = search rules in
    let e = first_off c.args.text.now 46 c.in-46.len_at_least point in
    let some : 0 < length c.split_digits.result.0.now = grind (arith, nat_tests, c.is_empty.ensures, c.if-not-is_empty.true) in (
      λ yes. tail_point _ _ _ (e ∙ ap (λ t. 46 ∷ t) c.split_digits.ensures.joined) some c.split_digits.ensures.digits (c.is_exponent.ensures.0 yes),
      λ h. c.is_exponent.ensures.1 (point_tail _ _ _ _ e c.split_digits.ensures.parts h).1,
    )

pub returns-else-not-is_empty : goal.returns-else-not-is_empty
returns-else-not-is_empty c =
    let point : slice_index c.args.text.now 0 ≡ 46 = search rules in
    let e = first_off c.args.text.now 46 c.in-46.len_at_least point in
    let none : length c.split_digits.result.0.now ≡ 0 = grind (arith, nat_tests, c.is_empty.ensures, c.if-not-is_empty.false) in
    point_none _ _ _ _ _ c.if-not-is_empty.false none e c.split_digits.ensures.parts
