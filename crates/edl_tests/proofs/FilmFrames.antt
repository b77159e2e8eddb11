-- Frame numbers at 24 frames a second, for tests.
use Rattle.std.proofs.Common.{◌≡◌, ◌<◌, ℕ, ℤ, pos, false, Some, Ok, unwrap_or, option_map, length, sym, ap, subst, ◌∙◌, refl, arith}
use Rattle.std.proofs.lemmas.Int.{ints}
use Rattle.tick_time.specs.declared.rates.Rate.{Rate}
use Rattle.smpte_tc.specs.Modes.{mode, plain_mode, IsMode}
use Rattle.smpte_tc.specs.Day.{counted_of}
use Rattle.smpte_tc.specs.Answers.{WritesAt}
use Rattle.smpte_tc.proofs.Labels.{labels_there}
use Rattle.smpte_tc.proofs.Dropping.{day_count}
use Rattle.edl_list.specs.Formed.{IsFrame}
use Rattle.edl_list.specs.Speeds.{day_of}
use Rattle.edl_list.specs.Labelled.{IsBelowDay}

-- at 24 frames a second
pub record Is24 (rate : Rate) : Type 0 where
  pub num : rate.num ≡ pos 24
  pub den : rate.den ≡ pos 1

day_24 : length (counted_of (mode 24 0)) ≡ 2073600
day_24 = omega (arith, day_count (mode 24 0) (omega arith) (omega arith))

mode_24 : (num den : ℤ) → num ≡ pos 24 → den ≡ pos 1 → plain_mode num den ≡ Some (mode 24 0)
mode_24 num den e f = rw (e, f) refl

day_is : (rate : Rate) → Is24 rate → day_of rate ≡ 2073600
day_is rate h = ap (λ o. unwrap_or (option_map (λ m. length (counted_of m)) o) 0) (mode_24 rate.num rate.den h.num h.den) ∙ day_24

-- a frame number of the day
pub frame_24 : (rate : Rate) (n : ℕ) → Is24 rate → n < 2073600 → IsFrame (day_of rate) (pos n)
frame_24 rate n h small = let day = day_is rate h in record { low = omega (arith, ints); high = omega (arith, ints, day) }

-- and one that has a label
pub below_24 : (rate : Rate) (n : ℕ) → Is24 rate → n < 2073600 → IsBelowDay rate false (pos n)
below_24 rate n h small =
    let fair : IsMode (mode 24 0) = record { some = omega arith; small = omega arith; fewer = omega arith } in
    let label = labels_there (mode 24 0) fair n (omega (arith, day_24)) in
    record { label = label.0; written = subst (λ o. WritesAt o (pos n) (Ok label.0)) (sym (mode_24 rate.num rate.den h.num h.den)) (n, refl, label.1) }
