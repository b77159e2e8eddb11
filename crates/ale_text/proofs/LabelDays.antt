-- The frame that a label names lies in the day.
use Rattle.std.proofs.Common.{◌≡◌, ◌≤◌, ◌<◌, ◌==◌, ℕ, Bool, true, false, cond, List, [], Option, Some, None, option_map, unwrap_or, length, map, bytes_eq, unsigned_abs, refl, ap, arith}
use Rattle.std.specs.List.{position}
use Rattle.std.proofs.lemmas.List.{length-map}
use Rattle.std.proofs.lemmas.List.Quantifiers.{position-Some}
use Rattle.tick_time.specs.declared.rates.Rate.{Rate}
use Rattle.smpte_tc.specs.declared.modes.Mode.{Mode}
use Rattle.smpte_tc.specs.Answers.{ninth, means_drop}
use Rattle.smpte_tc.specs.Day.{counted_of, labels_with, spelled}
use Rattle.smpte_tc.specs.Frames.{index_by, is_mark, label_frame_at, label_index}
use Rattle.smpte_tc.specs.Modes.{mode_of}
use Rattle.smpte_tc.proofs.Dropping.{day_count}
use Rattle.smpte_tc.proofs.WrittenLabels.{mode_fair}
use Rattle.edl_list.specs.Speeds.{count_of, day_of}
use Rattle.edl_list.proofs.DayLemmas.{day_paced, dropped_mode}
use Rattle.ale_text.specs.Lines.{frame_of}
use Rattle.ale_text.specs.Tables.{HasTimecode}
use Rattle.ale_text.proofs.LogRows.{has_mode}

-- fewer labels of the day come before one than the day has
index_below : (m : Mode) (label : List ℕ) (n : ℕ) → label_index m label ≡ Some n
    → n < length (counted_of m)
unfolding label_index labels_with
index_below m label n e = by (is_mark (ninth label)) e
  where
    by : (b : Bool)
        → cond b (position (bytes_eq label) (map (spelled (ninth label)) (counted_of m))) None
        ≡ Some n
        → n < length (counted_of m)
    by true f =
        let at = position-Some (bytes_eq label) (map (spelled (ninth label)) (counted_of m)) n [] f in
        omega (arith, at.0, length-map (counted_of m) (spelled (ninth label)))
    by false f = absurd (cc f)

-- the count of a second is that of the mode, with drop-frame or without
count_by : (rate : Rate) (drop : Bool) (m : Mode) → mode_of rate drop ≡ Some m
    → count_of rate ≡ m.nominal
count_by rate false m e = ap (λ o. unwrap_or (option_map (λ (k : Mode). k.nominal) o) 0) e
count_by rate true m e =
    let plain = dropped_mode rate.num rate.den (unsigned_abs rate.den == 1001)
    (unsigned_abs rate.num == 30000) (unsigned_abs rate.num == 60000) m refl refl refl e in
    ap (λ o. unwrap_or (option_map (λ (k : Mode). k.nominal) o) 0) plain

below_day : (rate : Rate) (drop : Bool) (label : List ℕ) (n : ℕ) (o : Option Mode)
    → HasTimecode rate → mode_of rate drop ≡ o → index_by o label ≡ Some n → n ≤ day_of rate
below_day rate drop label n None timecode e f = absurd (cc f)
below_day rate drop label n (Some m) timecode e f =
    let fair = mode_fair rate drop m e in
    let some = fair.some in
    let fewer = fair.fewer in
    let all = day_count m (omega (arith, some)) fewer in
    let low = index_below m label n f in
    let day = (day_paced rate (has_mode rate timecode)).day in
    let count = count_by rate drop m e in
    omega (arith, all, low, day, count)

-- a frame that a label names is one of the day without drop-frame
pub frame_in_day : (rate : Rate) (label : List ℕ) (n : ℕ) → HasTimecode rate
    → frame_of rate label ≡ Some n → n ≤ day_of rate
unfolding label_frame_at
frame_in_day rate label n timecode e =
    below_day rate (means_drop label false) label n (mode_of rate (means_drop label false)) timecode
    refl e
