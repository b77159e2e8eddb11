use Rattle.std.proofs.Common.{◌≡◌, ◌⊎◌, slice_index, refl, rules}
use Rattle.tick_time.specs.Numerals.{behind}
use Rattle.tick_time.proofs.Joins.{first_off, sign_off}
use Rattle.tick_time.proofs.forms.is_signed.Goals as goal

pub returns-in-43 : goal.returns-in-43
returns-in-43 c =
    let sign : (slice_index c.args.text.now 0 ≡ 43) ⊎ (slice_index c.args.text.now 0 ≡ 45) = search rules in
    let e = first_off c.args.text.now _ c.in-43.len_at_least refl in (
      λ yes. behind _ _ sign e (c.are_some_digits.ensures.0 yes),
      λ h. c.are_some_digits.ensures.1 (sign_off _ _ _ sign e h),
    )
