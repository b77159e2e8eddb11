-- Speeds, as they are written and read.
use Rattle.std.proofs.Common.{◌≡◌, ◌≤◌, ◌==◌, ◌+◌, ◌*◌, ◌/◌, ◌%◌, ℕ, ℤ, Bool, true, false, not, cond, nat_lt, Some, None, Option, option_map, unwrap_or, length, refl, sym, ap, ◌∙◌, arith}
use Rattle.std.proofs.lemmas.Int.{ints}
use Rattle.std.proofs.Math.Nat.{mul-div_cancel, mul-mod_left}
use Rattle.tick_time.specs.declared.rates.Rate.{Rate}
use Rattle.smpte_tc.specs.declared.modes.Mode.{Mode}
use Rattle.smpte_tc.specs.Modes.{mode_of, IsMode}
use Rattle.smpte_tc.specs.Day.{counted_of}
use Rattle.smpte_tc.proofs.WrittenLabels.{mode_fair}
use Rattle.edl_list.specs.declared.list.Side.{Side}
use Rattle.edl_list.specs.Formed.{IsFrame, IsSpeed}
use Rattle.edl_list.specs.Laws.{IsCount}
use Rattle.edl_list.specs.Speeds.{count_of, day_of, half_even, speed_of, side_speed}
use Rattle.edl_text.specs.Rows.{written_tenths, has_speed}
use Rattle.edl_law.proofs.TestLemmas.{number_is, is_less}

count_by : (o : Option Mode) (n : ℤ) → ((m : Mode) → o ≡ Some m → IsMode m) → IsFrame (unwrap_or (option_map (λ mode. length (counted_of mode)) o) 0) n
    → IsCount (unwrap_or (option_map (λ mode. mode.nominal) o) 0)
count_by None n fair h = let low = h.low in let high = h.high in absurd (omega (arith, ints, low, high))
count_by (Some mode) n fair h = let m = fair mode refl in record { some = m.some; small = m.small }

-- where a day has a frame, a second has one
pub count_some : (rate : Rate) (n : ℤ) → IsFrame (day_of rate) n → IsCount (count_of rate)
count_some rate n h = count_by (mode_of rate false) n (mode_fair rate false) h

own_by : (count q r : ℕ) → 1 ≤ count → q ≡ 1000000 → r ≡ 0 → q + cond (nat_lt (2 * r) count) 0 (cond (nat_lt count (2 * r)) 1 (q % 2)) ≡ 1000000
own_by count q r some e f =
    let less : nat_lt (2 * r) count ≡ true = is_less (2 * r) count (omega (arith, f)) in
    rw less (omega (arith, e))

-- the rate's own speed in tenths is 10 ^ 6 millionths
pub own_speed : (count : ℕ) → 1 ≤ count → half_even (10 * count * 100000) count ≡ 1000000
own_speed count some =
    let top : 10 * count * 100000 ≡ 1000000 * count = omega arith in
    ap (λ t. half_even t count) top ∙ own_by count (1000000 * count / count) (1000000 * count % count) some (mul-div_cancel 1000000 some) (mul-mod_left 1000000 count)

written_by : (count : ℕ) (speed : Option ℕ) → 1 ≤ count → speed_of count speed ≡ half_even (unwrap_or speed (10 * count) * 100000) count
written_by count None some = sym (own_speed count some)
written_by count (Some tenths) some = refl

own_by_test : (n : ℕ) (t : Bool) → (n == 1000000) ≡ t → not t ≡ false → n ≡ 1000000
own_by_test n true e h = number_is n 1000000 e
own_by_test n false e h = cc

-- a side whose speed isn't the rate's own has that speed where its line is read, and any other has it too
pub speed_back : (rate : Rate) (side : Side) (line : Bool) → 1 ≤ count_of rate → (line ≡ false → has_speed rate side ≡ false)
    → side_speed rate side ≡ speed_of (count_of rate) (cond line (Some (written_tenths rate side)) None)
speed_back rate side true some needless = written_by (count_of rate) side.speed some
speed_back rate side false some needless = own_by_test (side_speed rate side) (side_speed rate side == 1000000) refl (needless refl)

tenths_by : (count : ℕ) (speed : Option ℕ) → IsSpeed speed → count ≤ 60 → unwrap_or speed (10 * count) ≤ 9999
tenths_by count None h small = omega arith
tenths_by count (Some tenths) h small = h

-- the tenths that are written have at most four digits
pub tenths_small : (rate : Rate) (side : Side) → IsSpeed side.speed → count_of rate ≤ 60 → written_tenths rate side ≤ 9999
tenths_small rate side h small = tenths_by (count_of rate) side.speed h small
