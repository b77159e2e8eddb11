use Rattle.std.proofs.Common.{◌≡◌, ◌⊎◌, slice_index, refl, rules}
use Rattle.tick_time.proofs.Joins.{exponent_none, first_off, signed_exponent, exponent_signed}
use Rattle.tick_time.proofs.forms.is_exponent.Goals as goal

pub returns-in-empty : goal.returns-in-empty
returns-in-empty c = (λ yes. exponent_none c.args.text.now c.in-empty.len_below, λ _. refl)

pub returns-in-101 : goal.returns-in-101
returns-in-101 c =
    let letter : (slice_index c.args.text.now 0 ≡ 101) ⊎ (slice_index c.args.text.now 0 ≡ 69) = search rules in
    let e = first_off c.args.text.now _ c.in-101.len_at_least refl in (
      λ yes. signed_exponent _ _ _ letter e (c.is_signed.ensures.0 yes),
      λ h. c.is_signed.ensures.1 (exponent_signed _ _ _ e h),
    )
