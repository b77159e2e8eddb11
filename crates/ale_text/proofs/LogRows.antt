-- The rows of a log are rows of a media list: their tapes are distinct, and their media lie in
-- range.
use Rattle.std.proofs.Common.{◌≡◌, ◌≢◌, ◌≤◌, ◌-◌, ◌||◌, ◌*ℤ◌, ℕ, ℤ, pos, Bool, true, false, All, List, [], ◌∷◌, ◌++◌, Option, Some, None, IsSome, option_map, map, codes, drop, unsigned_abs, refl, sym, ap, arith}
use Rattle.std.specs.Str.{bytes_eq}
use Rattle.std.proofs.lemmas.Bool.{false≢true}
use Rattle.std.proofs.lemmas.Int.{ints}
use Rattle.std.proofs.lemmas.List.Elements.{All-head, All-tail, All-nil, All-cons}
use Rattle.std.proofs.lemmas.List.Kept.{AllPairs-cons}
use Rattle.tick_time.specs.Rates.{frame, nominal}
use Rattle.tick_time.specs.Times.{IsInRange}
use Rattle.tick_time.specs.declared.rates.Rate.{Rate}
use Rattle.smpte_tc.specs.Modes.{mode, mode_of}
use Rattle.edl_list.specs.Speeds.{day_of}
use Rattle.edl_list.proofs.DayLemmas.{frames_timed}
use Rattle.media_rows.specs.Rows.{AreOther, AreRows, IsRowInRange}
use Rattle.ale_text.specs.Lines.{Taking}
use Rattle.ale_text.specs.Logs.{firsts, greatest, least, of_tape, row_of, log_rows}
use Rattle.ale_text.specs.Tables.{HasTimecode, IsSound}
use Rattle.ale_text.proofs.FirstLemmas.{among, AreApart, firsts_apart, other_name}
use Rattle.ale_text.proofs.Gathering.{tapes_of, starts_of, ends_of, sound_of, least_below}

same_tail : (front a b : List ℕ) → front ++ a ≡ front ++ b → a ≡ b
same_tail [] a b e = e
same_tail (x ∷ front) a b e = same_tail front a b (ap (drop 1) e)

-- rows of two tapes
rows_other : (rate : Rate) (takings : List Taking) (a b : List ℕ) → a ≢ b
    → AreOther (row_of rate takings a) (row_of rate takings b)
rows_other rate takings a b other = (other, λ same. other (same_tail (codes "tape:") a b same))

others_by : (rate : Rate) (takings : List Taking) (a : List ℕ) (names : List (List ℕ))
    → among a names ≡ false
    → All (AreOther (row_of rate takings a)) (map (row_of rate takings) names)
others_by rate takings a [] none = All-nil (AreOther (row_of rate takings a))
others_by rate takings a (b ∷ names) none =
    by (bytes_eq a b) refl none (others_by rate takings a names)
  where
    by : (t : Bool) → bytes_eq a b ≡ t → (t || among a names) ≡ false
        → (among a names ≡ false
        → All (AreOther (row_of rate takings a)) (map (row_of rate takings) names))
        → All (AreOther (row_of rate takings a))
        (row_of rate takings b ∷ map (row_of rate takings) names)
    by true e n rest = absurd (false≢true (sym n))
    by false e n rest =
        All-cons (AreOther (row_of rate takings a)) (row_of rate takings b)
        (map (row_of rate takings) names) (rows_other rate takings a b (other_name a b e)) (rest n)

apart_by : (rate : Rate) (takings : List Taking) (names : List (List ℕ)) → AreApart names
    → AreRows (map (row_of rate takings) names)
apart_by rate takings [] apart = λ i j d low within. absurd (omega (arith, within))
apart_by rate takings (a ∷ names) apart =
    AllPairs-cons AreOther (row_of rate takings a) (map (row_of rate takings) names)
    (others_by rate takings a names apart.0) (apart_by rate takings names apart.1)

-- no reel and no URL stands twice
pub rows_apart : (rate : Rate) (takings : List Taking) → AreRows (log_rows rate takings)
rows_apart rate takings =
    apart_by rate takings (firsts (tapes_of takings)) (firsts_apart (tapes_of takings))

-- the rate has timecode without drop-frame where it has a nominal count
pub has_mode : (rate : Rate) → HasTimecode rate → IsSome (mode_of rate false)
has_mode rate h = by (nominal rate.num rate.den) h
  where
    by : (o : Option ℤ) → IsSome o
        → IsSome (option_map (λ count. mode (unsigned_abs count) 0) o)
    by None h = absurd (cc h)
    by (Some n) h = refl

-- frames of a day of sound takings lie in the day
pub greatest_in_day : (rate : Rate) (takings : List Taking) → All (IsSound rate) takings
    → greatest (ends_of takings) ≤ day_of rate
unfolding greatest
greatest_in_day rate [] sound = omega arith
greatest_in_day rate (t ∷ takings) sound =
    let here = All-head (IsSound rate) t takings sound in
    let rest = greatest_in_day rate takings (All-tail (IsSound rate) t takings sound) in
    omega (arith, here.day, rest)

pub in_day : (rate : Rate) (n : ℕ) → HasTimecode rate → n ≤ day_of rate
    → IsInRange (pos n *ℤ pos (frame rate.num rate.den))
in_day rate n h low =
    (frames_timed rate (has_mode rate h) (pos n) (omega (arith, ints)) (omega (arith, ints, low))).range

row_in_range : (rate : Rate) (takings : List Taking) (tape : List ℕ) → HasTimecode rate
    → All (IsSound rate) takings → IsRowInRange (row_of rate takings tape)
row_in_range rate takings tape timecode sound =
    let own = sound_of rate tape takings sound in
    let high = greatest_in_day rate (of_tape tape takings) own in
    let low = least_below rate (of_tape tape takings) own in
    record {
      some = omega (arith, ints);
      starts = in_day rate (least (starts_of (of_tape tape takings))) timecode
          (omega (arith, high, low));
      lasts = in_day rate (greatest (ends_of (of_tape tape takings))
          - least (starts_of (of_tape tape takings))) timecode
          (omega (arith, high, low));
    }

ranged_by : (rate : Rate) (takings : List Taking) (names : List (List ℕ)) → HasTimecode rate
    → All (IsSound rate) takings → All IsRowInRange (map (row_of rate takings) names)
ranged_by rate takings [] timecode sound = All-nil IsRowInRange
ranged_by rate takings (a ∷ names) timecode sound =
    All-cons IsRowInRange (row_of rate takings a) (map (row_of rate takings) names)
    (row_in_range rate takings a timecode sound) (ranged_by rate takings names timecode sound)

-- the media of each row lie in range
pub rows_in_range : (rate : Rate) (takings : List Taking) → HasTimecode rate
    → All (IsSound rate) takings → All IsRowInRange (log_rows rate takings)
rows_in_range rate takings timecode sound =
    ranged_by rate takings (firsts (tapes_of takings)) timecode sound
