-- From a frame number to its minute and its time address.
use Rattle.std.proofs.Common.{◌≡◌, ◌==◌, ◌⊎◌, inl, inr, ℕ, ◌+◌, ◌-◌, ◌*◌, ◌/◌, ◌%◌, ◌<◌, ◌≤◌, Bool, true, false, not, ◌&&◌, nat_lt, length, slice_get, Some, refl, sym, ap, arith, div-add-mod', mul-le-mul_left, mul-le-mul_right}
use Rattle.std.proofs.lemmas.Nat.{div_below, mod_below}
use Rattle.std.proofs.lemmas.Bool.Decides.{nat_tests}
use Rattle.smpte_tc.specs.declared.address.TimeAddress.{TimeAddress}
use Rattle.smpte_tc.specs.declared.modes.Mode.{Mode}
use Rattle.smpte_tc.specs.Day.{address, is_left_out, counted_of}
use Rattle.smpte_tc.specs.Modes.{IsMode}
use Rattle.smpte_tc.specs.Spelling.{IsInDay}
use Rattle.smpte_tc.proofs.Counting.{place_of}
use Rattle.smpte_tc.proofs.Dropping.{IsCountedAt, counted_at, day_count}

-- the first minute of ten
pub whole_minute : (n d nominal short tens rest : ℕ) → short + d ≡ 60 * nominal → n ≡ tens * (60 * nominal + 9 * short) + rest
    → n + d * (10 * tens - 10 * tens / 10) ≡ 10 * tens * (60 * nominal) + rest
whole_minute n d nominal short tens rest full split =
    let nine : 10 * tens - 10 * tens / 10 ≡ 9 * tens = omega arith in
    let each = ap (λ x. d * x) nine in
    let all = ap (λ x. tens * x) full in
    omega (arith, each, all, split)

-- a later minute of ten
pub later_minute : (n d nominal short tens rest past which frame : ℕ) → short + d ≡ 60 * nominal → n ≡ tens * (60 * nominal + 9 * short) + rest → rest ≡ 60 * nominal + past
    → past ≡ which * short + frame → which < 9
    → n + d * (10 * tens + 1 + which - (10 * tens + 1 + which) / 10) ≡ (10 * tens + 1 + which) * (60 * nominal) + (frame + d)
later_minute n d nominal short tens rest past which frame full split later within below =
    let nine : 10 * tens + 1 + which - (10 * tens + 1 + which) / 10 ≡ 9 * tens + 1 + which = omega arith in
    let each = ap (λ x. d * x) nine in
    let all = ap (λ x. tens * x) full in
    let some = ap (λ x. which * x) full in
    omega (arith, each, all, some, split, later, within)

-- the tens of minutes lie within a day
pub tens_below : (n d nominal short count : ℕ) → 1 ≤ nominal → d ≤ nominal → short + d ≡ 60 * nominal → count + 1296 * d ≡ 86400 * nominal → n < count → n / (60 * nominal + 9 * short) < 144
tens_below n d nominal short count some fewer full whole within =
    div_below n (60 * nominal + 9 * short) 144 (omega arith) (omega (arith, full, whole))

pub later_below : (past short : ℕ) → 0 < short → past < 9 * short → past / short < 9
later_below past short some below = div_below past short 9 some below

-- the address of a frame of a minute
pub at_minute : (mode : Mode) (n minute frame : ℕ) → 1 ≤ mode.nominal → mode.dropped ≤ mode.nominal
    → n + mode.dropped * (minute - minute / 10) ≡ minute * (60 * mode.nominal) + frame → minute < 1440 → frame < 60 * mode.nominal → (minute % 10 ≡ 0) ⊎ (mode.dropped ≤ frame)
    → IsCountedAt mode n (address (minute / 60) (minute % 60) (frame / mode.nominal) (frame % mode.nominal))
at_minute mode n minute frame some fewer place day within counted =
    let whole : minute / 60 * 60 + minute % 60 ≡ minute = omega arith in
    let split : frame / mode.nominal * mode.nominal + frame % mode.nominal ≡ frame = div-add-mod' frame mode.nominal in
    let lost = ap (λ x. mode.dropped * (x - x / 10)) whole in
    let all = ap (λ x. (x * 60 + frame / mode.nominal) * mode.nominal + frame % mode.nominal) whole in
    record {
      inside = record { hours = omega arith; minutes = omega arith; seconds = div_below frame mode.nominal 60 some within; frames = mod_below frame mode.nominal some };
      counted = kept (frame / mode.nominal == 0) (nat_lt (frame % mode.nominal) mode.dropped) (minute % 60 % 10 == 0) (λ first low. high counted (zero_is (frame / mode.nominal) first) (low_is (frame % mode.nominal) mode.dropped low));
      place = omega (arith, lost, all, split, place);
    }
  where
    kept : (first low tenth : Bool) → (first ≡ true → low ≡ true → tenth ≡ true) → not ((first && low) && not tenth) ≡ true
    kept true true tenth h = let e : tenth ≡ true = h refl refl in ap (λ b. not (not b)) e
    kept true false tenth h = refl
    kept false low tenth h = refl

    zero_is : (q : ℕ) → (q == 0) ≡ true → q ≡ 0
    zero_is q e = grind (arith, nat_tests)

    low_is : (f d : ℕ) → nat_lt f d ≡ true → f < d
    low_is f d e = grind (arith, nat_tests)

    tenth_is : (m : ℕ) → m % 10 ≡ 0 → (m % 60 % 10 == 0) ≡ true
    tenth_is m e = let z : m % 60 % 10 ≡ 0 = omega (arith, e) in ap (λ x. x == 0) z

    high : (minute % 10 ≡ 0) ⊎ (mode.dropped ≤ frame) → frame / mode.nominal ≡ 0 → frame % mode.nominal < mode.dropped → (minute % 60 % 10 == 0) ≡ true
    high (inl e) first low = tenth_is minute e
    high (inr e) first low = absurd (let split = div-add-mod' frame mode.nominal in let none = ap (λ q. q * mode.nominal) first in omega (arith, split, none, low, e))

-- so the address stands at the number
pub address_there : (mode : Mode) (n minute frame : ℕ) → 1 ≤ mode.nominal → mode.dropped ≤ mode.nominal
    → n + mode.dropped * (minute - minute / 10) ≡ minute * (60 * mode.nominal) + frame → minute < 1440 → frame < 60 * mode.nominal → (minute % 10 ≡ 0) ⊎ (mode.dropped ≤ frame)
    → slice_get (counted_of mode) n ≡ Some (address (minute / 60) (minute % 60) (frame / mode.nominal) (frame % mode.nominal))
address_there mode n minute frame some fewer place day within counted =
    counted_at mode n (address (minute / 60) (minute % 60) (frame / mode.nominal) (frame % mode.nominal)) some fewer (at_minute mode n minute frame some fewer place day within counted)

-- what is left out before an address is no more than its place
lost_fits : (mode : Mode) (a : TimeAddress) → mode.dropped ≤ mode.nominal → mode.dropped * ((a.hours * 60 + a.minutes) - (a.hours * 60 + a.minutes) / 10) ≤ place_of mode.nominal a
lost_fits mode a fewer =
    let minute = a.hours * 60 + a.minutes in
    let more : mode.dropped * (minute - minute / 10) ≤ mode.dropped * minute = mul-le-mul_left mode.dropped (omega arith) in
    let each : mode.dropped * minute ≤ mode.nominal * minute = mul-le-mul_right minute fewer in
    omega (arith, more, each)

-- the number of an address, by subtraction
pub number_there : (mode : Mode) (a : TimeAddress) → 1 ≤ mode.nominal → mode.dropped ≤ mode.nominal → IsInDay mode.nominal a → is_left_out mode a ≡ false
    → slice_get (counted_of mode) (place_of mode.nominal a - mode.dropped * ((a.hours * 60 + a.minutes) - (a.hours * 60 + a.minutes) / 10)) ≡ Some a
number_there mode a some fewer inside counted =
    let fits = lost_fits mode a fewer in
    counted_at mode (place_of mode.nominal a - mode.dropped * ((a.hours * 60 + a.minutes) - (a.hours * 60 + a.minutes) / 10)) a some fewer
    (record { inside = inside; counted = ap not counted; place = omega (arith, fits) })

-- ten minutes of a mode: a whole one, and nine from which numbers are left out
abbrev pub short_of : Mode → ℕ
short_of mode = 60 * mode.nominal - mode.dropped

abbrev pub ten_of : Mode → ℕ
ten_of mode = 60 * mode.nominal + 9 * short_of mode

short_is : (mode : Mode) → IsMode mode → short_of mode + mode.dropped ≡ 60 * mode.nominal
short_is mode fair = omega (arith, fair.fewer)

split_is : (n w : ℕ) → n ≡ n / w * w + n % w
split_is n w = sym (div-add-mod' n w)

tens_of_day : (mode : Mode) (n : ℕ) → IsMode mode → n < length (counted_of mode) → n / ten_of mode < 144
tens_of_day mode n fair within =
    tens_below n mode.dropped mode.nominal (short_of mode) (length (counted_of mode)) fair.some fair.fewer (short_is mode fair) (day_count mode fair.some fair.fewer) within

-- the parts of a later minute of ten
past_below : (mode : Mode) (n : ℕ) → IsMode mode → 60 * mode.nominal ≤ n % ten_of mode → (n % ten_of mode - 60 * mode.nominal) / short_of mode < 9
past_below mode n fair later =
    let some : 0 < ten_of mode = omega (arith, fair.some) in
    let rest : n % ten_of mode < ten_of mode = mod_below n (ten_of mode) some in
    div_below (n % ten_of mode - 60 * mode.nominal) (short_of mode) 9 (omega (arith, fair.some, fair.fewer)) (omega (arith, rest))

pub first_place : (mode : Mode) (n : ℕ) → IsMode mode
    → n + mode.dropped * (10 * (n / ten_of mode) - 10 * (n / ten_of mode) / 10) ≡ 10 * (n / ten_of mode) * (60 * mode.nominal) + n % ten_of mode
first_place mode n fair = whole_minute n mode.dropped mode.nominal (short_of mode) (n / ten_of mode) (n % ten_of mode) (short_is mode fair) (split_is n (ten_of mode))

pub first_day : (mode : Mode) (n : ℕ) → IsMode mode → n < length (counted_of mode) → 10 * (n / ten_of mode) < 1440
first_day mode n fair within = let h = tens_of_day mode n fair within in omega (arith, h)

pub later_place : (mode : Mode) (n : ℕ) → IsMode mode → 60 * mode.nominal ≤ n % ten_of mode
    → n + mode.dropped * (10 * (n / ten_of mode) + 1 + (n % ten_of mode - 60 * mode.nominal) / short_of mode - (10 * (n / ten_of mode) + 1 + (n % ten_of mode - 60 * mode.nominal) / short_of mode) / 10)
    ≡ (10 * (n / ten_of mode) + 1 + (n % ten_of mode - 60 * mode.nominal) / short_of mode) * (60 * mode.nominal) + ((n % ten_of mode - 60 * mode.nominal) % short_of mode + mode.dropped)
later_place mode n fair later =
    let past = n % ten_of mode - 60 * mode.nominal in
    later_minute n mode.dropped mode.nominal (short_of mode) (n / ten_of mode) (n % ten_of mode) past (past / short_of mode) (past % short_of mode)
    (short_is mode fair) (split_is n (ten_of mode)) (omega (arith, later)) (split_is past (short_of mode)) (past_below mode n fair later)

pub later_day : (mode : Mode) (n : ℕ) → IsMode mode → n < length (counted_of mode) → 60 * mode.nominal ≤ n % ten_of mode
    → 10 * (n / ten_of mode) + 1 + (n % ten_of mode - 60 * mode.nominal) / short_of mode < 1440
later_day mode n fair within later =
    let h = tens_of_day mode n fair within in
    let k = past_below mode n fair later in
    omega (arith, h, k)
