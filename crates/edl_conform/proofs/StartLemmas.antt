-- The job of a timeline.
use Rattle.std.proofs.Common.{◌≡◌, refl, sym, ap, ◌∙◌, ◌*◌, ◌≤◌, ◌==◌, ℤ, pos, Bool, true, false, Option, Some, None, length, option_map, unsigned_abs, arith}
use Rattle.std.specs.Int.{int_div_euclid}
use Rattle.std.proofs.lemmas.Int.{ints}
use Rattle.tick_time.specs.declared.rates.Rate.{Rate}
use Rattle.tick_time.specs.declared.times.Time.{Time}
use Rattle.tick_time.specs.Rates.{frame, nominal}
use Rattle.tick_time.proofs.Units.{unit_positive}
use Rattle.smpte_tc.specs.declared.modes.Mode.{Mode}
use Rattle.smpte_tc.specs.Modes.{mode, mode_of, plain_mode, drop_mode}
use Rattle.smpte_tc.specs.Day.{counted_of}
use Rattle.smpte_tc.proofs.Dropping.{day_count}
use Rattle.smpte_tc.proofs.WrittenLabels.{mode_fair}
use Rattle.edl_list.proofs.DayLemmas.{dropped_mode}
use Rattle.otio_model.specs.declared.timelines.Timeline.{Timeline}
use Rattle.coord.specs.Keys.{frame_rate}
use Rattle.coord.specs.Programs.{start_frame, frame_ticks}
use Rattle.edl_frames.specs.Jobs.{mode_in, day_in, count_in}
use Rattle.edl_conform.specs.Ranges.{IsNear}
use Rattle.edl_conform.proofs.FrameLemmas.{quotient_near, frame_long}

-- without a count there is no mode
plain_none : (num den : ℤ) → nominal num den ≡ None → plain_mode num den ≡ None
plain_none num den e = ap (option_map (λ count. mode (unsigned_abs count) 0)) e

drop_none : (num den : ℤ) (o : Option Mode) → drop_mode num den ≡ o → plain_mode num den ≡ None
    → o ≡ None
drop_none num den None e n = refl
drop_none num den (Some m) e n =
    let p = dropped_mode num den (unsigned_abs den == 1001) (unsigned_abs num == 30000)
    (unsigned_abs num == 60000) m refl refl refl e in
    absurd (cc (sym p ∙ n))

pub mode_none : (rate : Rate) (drop : Bool) → nominal rate.num rate.den ≡ None
    → mode_of rate drop ≡ None
mode_none rate true e =
    drop_none rate.num rate.den (drop_mode rate.num rate.den) refl (plain_none rate.num rate.den e)
mode_none rate false e = plain_none rate.num rate.den e

plain_by : (o : Option ℤ) (m : Mode)
    → option_map (λ count. mode (unsigned_abs count) 0) o ≡ Some m
    → option_map (λ count. mode (unsigned_abs count) 0) o ≡ Some (mode m.nominal 0)
plain_by None m e = absurd (cc e)
plain_by (Some n) m e =
    let same : mode (unsigned_abs n) 0 ≡ m = cc e in
    ap (λ (k : Mode). Some (mode k.nominal 0)) same

-- a rate that has a mode has one of its count without drop-frame
plain_of : (rate : Rate) (drop : Bool) (m : Mode) → mode_of rate drop ≡ Some m
    → mode_of rate false ≡ Some (mode m.nominal 0)
plain_of rate true m e =
    dropped_mode rate.num rate.den (unsigned_abs rate.den == 1001) (unsigned_abs rate.num == 30000)
    (unsigned_abs rate.num == 60000) m refl refl refl e
plain_of rate false m e = plain_by (nominal rate.num rate.den) m e

long_by : (rate : Rate) (drop : Bool) (m : Mode) → mode_of rate drop ≡ Some m → (o : Option ℤ)
    → nominal rate.num rate.den ≡ o → 11760000000000000 ≤ frame rate.num rate.den
long_by rate drop m e None n = absurd (cc (sym (mode_none rate drop n) ∙ e))
long_by rate drop m e (Some k) n =
    let p = rate.positive in
    let q = rate.at_least_one in
    frame_long rate.num rate.den k n (omega (arith, ints, p, q))

count_by : (o : Option Mode) (m : Mode) → o ≡ Some m → m.nominal ≡ count_in o
count_by None m e = absurd (cc e)
count_by (Some k) m e = let same : k ≡ m = cc e in sym (ap (λ (n : Mode). n.nominal) same)

day_by : (o : Option Mode) (m : Mode) → o ≡ Some m → length (counted_of m) ≡ day_in o
day_by None m e = absurd (cc e)
day_by (Some k) m e = let same : k ≡ m = cc e in sym (ap (λ (n : Mode). length (counted_of n)) same)

-- what is known once a run of a rate and its mode
pub record IsRun (rate : Rate) (drop : Bool) (m : Mode) : Type 0 where
  pub long : 11760000000000000 ≤ frame rate.num rate.den
  pub count_is : m.nominal ≡ count_in (mode_in (frame_rate rate) false)
  pub counted : 1 ≤ m.nominal
  pub few : m.nominal ≤ 60
  pub day_is : length (counted_of m) ≡ day_in (mode_in (frame_rate rate) drop)
  pub short : length (counted_of m) ≤ 5184000

pub mode_run : (rate : Rate) (drop : Bool) (m : Mode) → mode_of rate drop ≡ Some m
    → IsRun rate drop m
mode_run rate drop m is =
    let fair = mode_fair rate drop m is in
    let few = fair.small in
    let all = day_count m fair.some fair.fewer in
    record {
      long = long_by rate drop m is (nominal rate.num rate.den) refl;
      count_is = count_by (mode_of rate false) (mode m.nominal 0) (plain_of rate drop m is);
      counted = fair.some;
      few = few;
      day_is = day_by (mode_of rate drop) m is;
      short = omega (arith, all, few);
    }

-- ---- the first record frame

time_near : (time : Time)
    → IsNear 1000000000000000000
    (int_div_euclid time.ticks (pos (frame time.rate.num time.rate.den)))
time_near time =
    let p = time.rate.positive in
    let q = time.rate.at_least_one in
    let s = time.rate.small_num in
    let one = unit_positive time.rate.num time.rate.den p (omega (arith, ints, p, q)) s in
    let low = time.low in
    let high = time.high in
    let near : IsNear (1000000 * 999999999999999999) time.ticks =
    record { low = omega (arith, ints, low); high = omega (arith, ints, high) } in
    quotient_near 1000000 999999999999999999 time.ticks (pos (frame time.rate.num time.rate.den))
    (omega arith)
    (omega (arith, ints, one)) near

abbrev started : Option Time → ℤ
started o =
    elim o [
      | None ↦ pos 0
      | Some start ↦ int_div_euclid start.ticks
          (pos (frame_ticks (frame_rate start.rate)))
    ]

started_near : (o : Option Time) → IsNear 1000000000000000000 (started o)
started_near None = record { low = omega (arith, ints); high = omega (arith, ints) }
started_near (Some time) = time_near time

pub start_near : (t : Timeline) → IsNear 1000000000000000000 (start_frame t)
start_near t = started_near t.global_start_time
