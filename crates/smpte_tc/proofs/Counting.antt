-- Where a time address stands in a day of which nothing is left out.
use Rattle.std.proofs.Common.{◌≡◌, ℕ, ◌+◌, ◌*◌, ◌<◌, length, slice_get, Some, option_map, sym, ap, ◌∙◌, arith, zero-add, subst}
use Rattle.std.proofs.lemmas.Option.{slice_get-map, slice_get-get_or, slice_get_within}
use Rattle.std.proofs.lemmas.Nat.{mul-add-lt}
use Rattle.std.proofs.lemmas.List.FromFn.{length-map-range_with_len, length-range_with_len, get_or-range_with_len}
use Rattle.std.specs.List.{range_with_len}
use Rattle.smpte_tc.specs.declared.address.TimeAddress.{TimeAddress}
use Rattle.smpte_tc.specs.Day.{below, address, second_of, minute_of, hour_of, day_of}
use Rattle.smpte_tc.specs.Spelling.{IsInDay}
use Rattle.smpte_tc.proofs.Lists.{length-pieces, slice_get-pieces, piece_of, option_from_map}

-- the numbers of the day before a time address
abbrev pub place_of : ℕ → TimeAddress → ℕ
place_of nominal a = ((a.hours * 60 + a.minutes) * 60 + a.seconds) * nominal + a.frames

pub length-second : (nominal h m s : ℕ) → length (second_of nominal h m s) ≡ nominal
unfolding second_of below
length-second nominal h m s = length-map-range_with_len (address h m s) 0 nominal

pub length-minute : (nominal h m : ℕ) → length (minute_of nominal h m) ≡ 60 * nominal
unfolding minute_of below
length-minute nominal h m = length-pieces (second_of nominal h m) nominal 0 60 (length-second nominal h m)

pub length-hour : (nominal h : ℕ) → length (hour_of nominal h) ≡ 60 * (60 * nominal)
unfolding hour_of below
length-hour nominal h = length-pieces (minute_of nominal h) (60 * nominal) 0 60 (length-minute nominal h)

pub length-day : (nominal : ℕ) → length (day_of nominal) ≡ 24 * (60 * (60 * nominal))
unfolding day_of below
length-day nominal = length-pieces (hour_of nominal) (60 * (60 * nominal)) 0 24 (length-hour nominal)

number_at : (n i : ℕ) → i < n → slice_get (range_with_len 0 n) i ≡ Some i
number_at n i h =
    let short : i < length (range_with_len 0 n) = omega (arith, length-range_with_len 0 n) in
    slice_get-get_or (range_with_len 0 n) i 0 short ∙ ap Some (get_or-range_with_len 0 n i 0 h ∙ zero-add i)

-- an address in the day stands at its place
pub day_at : (nominal : ℕ) (a : TimeAddress) → IsInDay nominal a → slice_get (day_of nominal) (place_of nominal a) ≡ Some a
unfolding day_of hour_of minute_of second_of below
day_at nominal a inside =
    let order : place_of nominal a ≡ a.hours * (60 * (60 * nominal)) + (a.minutes * (60 * nominal) + (a.seconds * nominal + a.frames)) = omega arith in
    let second : a.seconds * nominal + a.frames < 60 * nominal = omega (arith, mul-add-lt a.seconds nominal a.frames 60 inside.seconds inside.frames) in
    let minute : a.minutes * (60 * nominal) + (a.seconds * nominal + a.frames) < 60 * (60 * nominal) = omega (arith, mul-add-lt a.minutes (60 * nominal) (a.seconds * nominal + a.frames) 60 inside.minutes second) in
    ap (slice_get (day_of nominal)) order
    ∙ slice_get-pieces (hour_of nominal) (60 * (60 * nominal)) 0 24 a.hours (a.minutes * (60 * nominal) + (a.seconds * nominal + a.frames)) (length-hour nominal) inside.hours minute
    ∙ ap (λ h. slice_get (hour_of nominal h) (a.minutes * (60 * nominal) + (a.seconds * nominal + a.frames))) (zero-add a.hours)
    ∙ slice_get-pieces (minute_of nominal a.hours) (60 * nominal) 0 60 a.minutes (a.seconds * nominal + a.frames) (length-minute nominal a.hours) inside.minutes second
    ∙ ap (λ m. slice_get (minute_of nominal a.hours m) (a.seconds * nominal + a.frames)) (zero-add a.minutes)
    ∙ slice_get-pieces (second_of nominal a.hours a.minutes) nominal 0 60 a.seconds a.frames (length-second nominal a.hours a.minutes) inside.seconds inside.frames
    ∙ ap (λ s. slice_get (second_of nominal a.hours a.minutes s) a.frames) (zero-add a.seconds)
    ∙ slice_get-map (address a.hours a.minutes a.seconds) (range_with_len 0 nominal) a.frames
    ∙ ap (option_map (address a.hours a.minutes a.seconds)) (number_at nominal a.frames inside.frames)

-- where an address stands, and that it lies in the day
pub record StandsAt (nominal t : ℕ) (a : TimeAddress) : Type 0 where
  pub inside : IsInDay nominal a
  pub place : t ≡ place_of nominal a

second_from : (nominal h m s j : ℕ) (a : TimeAddress) → slice_get (second_of nominal h m s) j ≡ Some a → (j < nominal) × (address h m s j ≡ a)
unfolding second_of below
second_from nominal h m s j a e =
    let found = option_from_map (address h m s) (slice_get (range_with_len 0 nominal) j) a (sym (slice_get-map (address h m s) (range_with_len 0 nominal) j) ∙ e) in
    let short : j < length (range_with_len 0 nominal) = slice_get_within (range_with_len 0 nominal) j found.0 found.1 in
    let below : j < nominal = omega (arith, short, length-range_with_len 0 nominal) in
    let same : Some found.0 ≡ Some j = sym found.1 ∙ number_at nominal j below in
    let number : found.0 ≡ j = cc in
    (below, sym (found.2 ∙ ap (address h m s) number))

pub day_from : (nominal t : ℕ) (a : TimeAddress) → slice_get (day_of nominal) t ≡ Some a → StandsAt nominal t a
unfolding day_of hour_of minute_of below
day_from nominal t a e =
    let in_day = piece_of (hour_of nominal) (60 * (60 * nominal)) 24 t a (length-hour nominal) e in
    let in_hour = piece_of (minute_of nominal in_day.0) (60 * nominal) 60 in_day.1 a (length-minute nominal in_day.0) in_day.2.there in
    let in_minute = piece_of (second_of nominal in_day.0 in_hour.0) nominal 60 in_hour.1 a (length-second nominal in_day.0 in_hour.0) in_hour.2.there in
    let in_second = second_from nominal in_day.0 in_hour.0 in_minute.0 in_minute.1 a in_minute.2.there in
    let order : t ≡ place_of nominal (address in_day.0 in_hour.0 in_minute.0 in_minute.1) = omega (arith, in_day.2.place, in_hour.2.place, in_minute.2.place) in
    let is : address in_day.0 in_hour.0 in_minute.0 in_minute.1 ≡ a = in_second.1 in
    let found : StandsAt nominal t (address in_day.0 in_hour.0 in_minute.0 in_minute.1) = record {
      inside = record { hours = in_day.2.which; minutes = in_hour.2.which; seconds = in_minute.2.which; frames = in_second.0 };
      place = order;
    } in
    subst (StandsAt nominal t) is found
