-- Record frames in ticks.
use Rattle.std.proofs.Common.{◌≡◌, refl, sym, subst, ap, ◌∙◌, ℕ, suc, ◌*◌, ◌≤◌, ℤ, pos, negsuc, ◌+ℤ◌, ◌-ℤ◌, ◌*ℤ◌, ◌≤ℤ◌, ◌<ℤ◌, ◌&&◌, Bool, true, false, Option, Some, None, arith}
use Rattle.std.specs.Prelude.{IfSome, unsigned_abs, unwrap_or, option_and_then}
use Rattle.std.specs.Int.{int_div_euclid}
use Rattle.std.proofs.lemmas.Int.{ints, unsigned_abs-mul}
use Rattle.std.proofs.Math.Nat.{mul-le-mul_left}
use Rattle.limits.specs.Limits.{most_ticks}
use Rattle.tick_time.specs.declared.rates.Rate.{Rate}
use Rattle.tick_time.specs.declared.times.Time.{Time}
use Rattle.tick_time.specs.Rates.{frame}
use Rattle.tick_time.specs.Times.{IsInRange, IsWhole}
use Rattle.tick_time.proofs.Wholes.{units_of, count-product}
use Rattle.tick_time.proofs.Units.{unit_positive}
use Rattle.otio_model.specs.declared.timelines.Timeline.{Timeline}
use Rattle.coord.specs.Keys.{frame_rate}
use Rattle.coord.specs.Programs.{start_frame, frame_ticks, first_clip}
use Rattle.coord.specs.Soundness.{StartsOnFrame}
use Rattle.edits.specs.Finest.{in_range, rate_24}
use Rattle.edits_law.proofs.Pieces.{sum-times}
use Rattle.edits.specs.After.{clip_rate, rate_of, frame_of}
use Rattle.flat.specs.Windowed.{from_start, is_window}
use Rattle.limits.proofs.IntegerSums.{multiple-from_zero}
use Rattle.edits_law.proofs.EditShown.{frame_low}
use Rattle.flat_stack.specs.Ends.{first_ticks, IsZone}
use Rattle.limits.proofs.IntegerTests.{above-int_lt, below-int_lt, above-int_le, below-int_le}
use Rattle.pieces.proofs.SameTimes.{range_yes}

-- ---- a timeline that starts on a frame

first_by : (s : Time) → IsWhole s.ticks (frame s.rate.num s.rate.den)
    → int_div_euclid s.ticks (pos (frame s.rate.num s.rate.den)) *ℤ pos (frame s.rate.num s.rate.den)
    ≡ s.ticks
first_by s h =
    let f = frame s.rate.num s.rate.den in
    let low = frame_low s.rate in
    let u = units_of s.ticks f (omega (arith, low)) h in
    ap (λ z. int_div_euclid z (pos f) *ℤ pos f) u.1
    ∙ ap (λ z. z *ℤ pos f) (count-product u.0 (pos f) (omega (arith, ints, low))) ∙ sym u.1

none_first : (f : ℕ) → pos 0 *ℤ pos f ≡ pos 0
none_first f = omega (arith, ints)

abbrev first_in : Option Time → ℤ
first_in o = elim o [
  | None ↦ pos 0
  | Some start ↦ int_div_euclid start.ticks (pos (frame_ticks (frame_rate start.rate)))
]

abbrev rate_in : Rate → Option Time → Rate
rate_in none o = elim o [ None ↦ none | Some start ↦ start.rate ]

abbrev ticks_in : Option Time → ℤ
ticks_in o = elim o [ None ↦ pos 0 | Some start ↦ start.ticks ]

first_of : (none : Rate) (o : Option Time)
    → IfSome o (λ s. IsWhole s.ticks (frame s.rate.num s.rate.den))
    → first_in o *ℤ pos (frame (rate_in none o).num (rate_in none o).den) ≡ ticks_in o
first_of none None k = none_first (frame none.num none.den)
first_of none (Some s) k = first_by s k

first_is : (t : Timeline) → StartsOnFrame t → start_frame t *ℤ frame_of t ≡ first_ticks t
first_is t h =
    first_of (unwrap_or (option_and_then clip_rate (first_clip t.tracks.children)) rate_24)
    t.global_start_time h

-- an instant, from the time of its frame
pub from_is : (t : Timeline) (n ticks first : ℤ) → StartsOnFrame t → ticks ≡ n *ℤ frame_of t
    → first ≡ first_ticks t → ticks -ℤ first ≡ from_start t n
from_is t n ticks first h e f =
    let g = first_is t h in
    let s : n *ℤ frame_of t ≡ ((n -ℤ start_frame t) *ℤ frame_of t) +ℤ (start_frame t *ℤ frame_of t) =
    ap (λ z. z *ℤ frame_of t) (let k : n ≡ (n -ℤ start_frame t) +ℤ start_frame t = omega (arith, ints) in k)
    ∙ sum-times (n -ℤ start_frame t) (start_frame t) (frame_of t) in
    omega (arith, ints, e, f, g, s)

pub first_near : (t : Timeline) → ((pos 0 -ℤ pos 705600000000000000000000) ≤ℤ first_ticks t)
    × (first_ticks t ≤ℤ pos 705600000000000000000000)
first_near t = of t.global_start_time
  where
    of : (o : Option Time) → ((pos 0 -ℤ pos 705600000000000000000000)
        ≤ℤ elim o [ None ↦ pos 0 | Some start ↦ start.ticks ])
        × (elim o [ None ↦ pos 0 | Some start ↦ start.ticks ] ≤ℤ pos 705600000000000000000000)
    of None = (omega (arith, ints), omega (arith, ints))
    of (Some s) = (s.low, s.high)

-- ---- frames out of range

out_of : (z : ℤ) → (IsInRange z → ⊥) → in_range z ≡ false
out_of z h = by (in_range z) refl
  where
    low : (y : ℤ) → in_range y ≡ true → (pos 0 -ℤ pos most_ticks) ≤ℤ y
    low y f = grind (arith, ints)

    high : (y : ℤ) → in_range y ≡ true → y ≤ℤ pos most_ticks
    high y f = grind (arith, ints)

    by : (b : Bool) → in_range z ≡ b → in_range z ≡ false
    by true e = absurd (h (record { low = low z e; high = high z e }))
    by false e = e

beyond : (z : ℤ) → pos most_ticks <ℤ z → in_range z ≡ false
beyond z h = out_of z (λ r. let k = r.high in omega (arith, ints, h, k))

before : (z : ℤ) → z <ℤ (pos 0 -ℤ pos most_ticks) → in_range z ≡ false
before z h = out_of z (λ r. let k = r.low in omega (arith, ints, h, k))

-- so many frames are at least so many million ticks
frames_least : (n : ℕ) (r : Rate) → n * 1000000 ≤ n * frame r.num r.den
frames_least n r =
    let a = r.positive in let b = r.at_least_one in
    let e = unit_positive r.num r.den r.positive (omega (arith, ints)) r.small_num in
    mul-le-mul_left n (omega (arith, e))

pub far_frame : (n : ℤ) (r : Rate) → pos 1000000000000000000 <ℤ n
    → in_range (n *ℤ pos (frame r.num r.den)) ≡ false
far_frame (pos n) r h =
    let k = frames_least n r in
    beyond (pos n *ℤ pos (frame r.num r.den)) (omega (arith, ints, h, k))
far_frame (negsuc n) r h = absurd (omega (arith, ints, h))

pub early_frame : (n : ℤ) (r : Rate) → n <ℤ (pos 0 -ℤ pos 1000000000000000000)
    → in_range (n *ℤ pos (frame r.num r.den)) ≡ false
early_frame (pos n) r h = absurd (omega (arith, ints, h))
early_frame (negsuc n) r h =
    let k = frames_least (suc n) r in
    let m : unsigned_abs (negsuc n *ℤ pos (frame r.num r.den)) ≡ suc n * frame r.num r.den =
    unsigned_abs-mul (negsuc n) (pos (frame r.num r.den)) in
    before (negsuc n *ℤ pos (frame r.num r.den)) (omega (arith, ints, h, k, m))

pub frame_out : (n : ℤ) (r : Rate) → (IsInRange (n *ℤ pos (frame r.num r.den)) → ⊥)
    → in_range (n *ℤ pos (frame r.num r.den)) ≡ false
frame_out n r h = out_of (n *ℤ pos (frame r.num r.den)) h

-- ---- what is no window, and what is one

second_no : (a b : Bool) → b ≡ false → (a && b) ≡ false
second_no true b e = e
second_no false b e = refl

first_no : (a b : Bool) → a ≡ false → (a && b) ≡ false
first_no a b e = rw e refl

both_yes : (a b : Bool) → a ≡ true → b ≡ true → (a && b) ≡ true
both_yes a b e f = rw (e, f) refl

pub no_order : (t : Timeline) (a b : ℤ) → b ≤ℤ a → is_window t a b ≡ false
no_order t a b h = first_no _ _ (first_no _ _ (above-int_lt a b h))

pub no_start : (t : Timeline) (a b g : ℤ) → g ≡ start_frame t → a <ℤ g → is_window t a b ≡ false
no_start t a b g e h =
    first_no _ _ (second_no _ _ (above-int_le (start_frame t) a (subst (λ z. a <ℤ z) e h)))

pub no_first : (t : Timeline) (a b : ℤ) (r : Rate) → r ≡ rate_of t
    → in_range (a *ℤ pos (frame r.num r.den)) ≡ false → is_window t a b ≡ false
no_first t a b r e f = second_no _ _ (first_no _ _
    (ap (λ (q : Rate). in_range (a *ℤ pos (frame q.num q.den))) (sym e) ∙ f))

pub no_last : (t : Timeline) (a b : ℤ) (r : Rate) → r ≡ rate_of t
    → in_range (b *ℤ pos (frame r.num r.den)) ≡ false → is_window t a b ≡ false
no_last t a b r e f = second_no _ _ (second_no _ _
    (ap (λ (q : Rate). in_range (b *ℤ pos (frame q.num q.den))) (sym e) ∙ f))

frames_apart : (t : Timeline) (a b : ℤ) → a <ℤ b → (a *ℤ frame_of t) <ℤ (b *ℤ frame_of t)
frames_apart t a b h = of (b -ℤ a) refl
  where
    f : ℕ
    f = frame (rate_of t).num (rate_of t).den

    of : (d : ℤ) → d ≡ b -ℤ a → (a *ℤ frame_of t) <ℤ (b *ℤ frame_of t)
    of (negsuc d) e = absurd (omega (arith, ints, e, h))
    of (pos d) e =
        let low = frame_low (rate_of t) in
        let s : b *ℤ pos f ≡ (pos d *ℤ pos f) +ℤ (a *ℤ pos f) =
        ap (λ z. z *ℤ pos f) (let k : b ≡ pos d +ℤ a = omega (arith, ints, e) in k) ∙ sum-times (pos d) a (pos f) in
        let m : d * 1 ≤ d * f = mul-le-mul_left d (omega (arith, low)) in
        omega (arith, ints, s, m, e, h)

pub zone_is : (t : Timeline) (a b first g : ℤ) (r : Rate) (start end : Time) → StartsOnFrame t
    → r ≡ rate_of t → g ≡ start_frame t → first ≡ first_ticks t → a <ℤ b → g ≤ℤ a
    → start.ticks ≡ a *ℤ pos (frame r.num r.den) → start.rate ≡ r
    → end.ticks ≡ b *ℤ pos (frame r.num r.den)
    → IsZone t a b start (start.ticks -ℤ first) (end.ticks -ℤ first)
zone_is t a b first g r start end h e k f order begins s q n =
    let at : start.ticks ≡ a *ℤ frame_of t = s ∙ ap (λ (z : Rate). a *ℤ pos (frame z.num z.den)) e in
    let to : end.ticks ≡ b *ℤ frame_of t = n ∙ ap (λ (z : Rate). b *ℤ pos (frame z.num z.den)) e in
    let from_a = from_is t a start.ticks first h at f in
    let from_b = from_is t b end.ticks first h to f in
    let apart = frames_apart t a b order in
    let near = first_near t in
    let low = start.low in let high = start.high in let last = end.low in let most = end.high in
    record {
      window = both_yes _ _
          (both_yes _ _ (below-int_lt a b order) (below-int_le (start_frame t) a (subst (λ z. z ≤ℤ a) k begins)))
          (both_yes _ _ (range_yes (a *ℤ frame_of t) (omega (arith, ints, at, low)) (omega (arith, ints, at, high)))
          (range_yes (b *ℤ frame_of t) (omega (arith, ints, to, last)) (omega (arith, ints, to, most))));
      ticks = at;
      rate = q ∙ e;
      from_is = from_a;
      to_is = from_b;
      low = subst (λ z. pos 0 ≤ℤ z) (sym from_a) (multiple-from_zero (a -ℤ start_frame t) (frame (rate_of t).num (rate_of t).den) (let m = subst (λ z. z ≤ℤ a) k begins in omega (arith, ints, m)));
      wide = omega (arith, ints, at, to, apart);
      high = omega (arith, ints, most, near.0, f);
    }
