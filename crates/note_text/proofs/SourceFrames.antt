-- Source frames that sides show, in numbers that fit.
use Rattle.std.proofs.Common.{◌≡◌, refl, sym, ap, subst, ◌∙◌, ℕ, ◌*◌, ◌≤◌, ℤ, pos, negsuc, ◌*ℤ◌, ◌≤ℤ◌, ◌<ℤ◌, FitsSigned, w64, to_z, of_z, Option, Some, None, IsSome, option_map, unwrap_or, false, arith}
use Rattle.std.specs.Prelude.{int_le, int_lt, ◌&&◌, Bool, true, IfOk, IfErr, Result, Ok, Err, ◌-ℤ◌}
use Rattle.std.specs.Result.{is_ok}
use Rattle.std.specs.Int.{int_div_euclid}
use Rattle.std.specs.Int.Signed.{quot_z, le_z, lt_z}
use Rattle.std.proofs.lemmas.Int.{ints, to_z-of_z}
use Rattle.std.proofs.lemmas.Nat.{mul-le}
use Rattle.std.proofs.Math.Nat.{mul-div-le}
use Rattle.limits.proofs.IntegerSums.{multiple-from_zero}
use Rattle.tick_time.specs.declared.rates.Rate.{Rate}
use Rattle.smpte_tc.specs.declared.modes.Mode.{Mode}
use Rattle.smpte_tc.specs.Modes.{mode_of}
use Rattle.edl_list.specs.declared.list.Side.{Side}
use Rattle.tick_time.specs.declared.times.Time.{Time}
use Rattle.tick_time.specs.Times.{IsInRange}
use Rattle.limits.specs.Limits.{most_ticks}
use Rattle.otio_model.specs.Overlaps.{within}
use Rattle.edl_list.specs.Formed.{IsSide, IsFrame}
use Rattle.edl_list.specs.Speeds.{count_of, day_of, side_speed}
use Rattle.edl_list.proofs.DayLemmas.{side_slow, day_paced}
use Rattle.edl_frames.specs.Shown.{source_frame}

some_mode : (m : Option Mode) → 1 ≤ unwrap_or (option_map (λ (mode : Mode). mode.nominal) m) 0 → IsSome m
some_mode None h = absurd (omega (arith, h))
some_mode (Some m) h = refl

-- a rate that counts frames has timecode
pub has_timecode : (rate : Rate) → 1 ≤ count_of rate → IsSome (mode_of rate false)
has_timecode rate h = some_mode (mode_of rate false) h

-- no side is faster than a thousand times the rate's own speed
pub slow : (rate : Rate) (side : Side) → 1 ≤ count_of rate → IsSide (day_of rate) side → side_speed rate side ≤ 1000000000
slow rate side h s = let f = side_slow rate (has_timecode rate h) side s in omega (arith, f)

-- a day has at most so many frames
pub short_day : (rate : Rate) → 1 ≤ count_of rate → day_of rate ≤ 5184000
short_day rate h = let p = day_paced rate (has_timecode rate h) in let d = p.day in let s = p.small in omega (arith, d, s)

-- what is shown k frames on, in plain numbers
pub record IsAhead (k : ℤ) (speed : ℕ) : Type 0 where
  pub product : FitsSigned w64 (k *ℤ pos speed)
  pub low : pos 0 ≤ℤ quot_z (k *ℤ pos speed) (pos 1000000)
  pub high : quot_z (k *ℤ pos speed) (pos 1000000) ≤ℤ pos 5184000000
  pub same : quot_z (k *ℤ pos speed) (pos 1000000) ≡ int_div_euclid (k *ℤ pos speed) (pos 1000000)

pub is_ahead : (k : ℤ) (speed : ℕ) → pos 0 ≤ℤ k → k <ℤ pos 5184000 → speed ≤ 1000000000 → IsAhead k speed
is_ahead (negsuc n) speed low high small = absurd (omega (arith, ints, low))
is_ahead (pos n) speed low high small =
    let few : n ≤ 5184000 = omega (arith, ints, high) in
    let most = mul-le n speed 5184000 1000000000 few small in
    let part = mul-div-le (n * speed) 1000000 in
    record {
      product = omega (arith, ints, most);
      low = omega (arith, ints);
      high = omega (arith, ints, most, part);
      same = refl;
    }

pub kept : (z : ℤ) (n : ℕ) → z ≡ pos n → n ≤ 1000000000000 → to_z w64 (of_z w64 z) ≡ pos n
kept z n e h = ap (λ k. to_z w64 (of_z w64 k)) e ∙ to_z-of_z w64 (pos n) (let f : FitsSigned w64 (pos n) = omega (arith, ints, h) in f)

-- a side shows no frame before the start of the day
pub shown_low : (rate : Rate) (side : Side) (k : ℤ) → 1 ≤ count_of rate → IsSide (day_of rate) side → pos 0 ≤ℤ k → k <ℤ pos 5184000 → pos 0 ≤ℤ source_frame rate side k
shown_low rate side k h s low high =
    let a = is_ahead k (side_speed rate side) low high (slow rate side h s) in
    let same = a.same in let more = a.low in
    let src = s.src_in in let from = src.low in
    omega (arith, ints, same, more, from)

-- a product of frames that isn't negative makes a time exactly where it is small enough
pub timed : {E : Type 0} (X : E → Type 0) (r : Result Time E) (z : ℤ) (n : ℕ) → pos 0 ≤ℤ z
    → IfOk r (λ time. time.ticks ≡ z *ℤ pos n)
    → IfErr r (λ fault. X fault × (IsInRange (z *ℤ pos n) → ⊥))
    → is_ok r ≡ int_le (z *ℤ pos n) (pos most_ticks)
timed X (Ok time) z n low ok err =
    let high = time.high in
    let f : (z *ℤ pos n) ≤ℤ pos most_ticks = subst (λ t. t ≤ℤ pos most_ticks) ok high in
    let g : int_le (z *ℤ pos n) (pos most_ticks) ≡ true = grind (arith, ints, f) in sym g
timed X (Err fault) z n low ok err = by (int_le (z *ℤ pos n) (pos most_ticks)) refl
  where
    by : (b : Bool) → int_le (z *ℤ pos n) (pos most_ticks) ≡ b → false ≡ b
    by false e = refl
    by true e =
        let h : (z *ℤ pos n) ≤ℤ pos most_ticks = grind (arith, ints, e) in
        let l = multiple-from_zero z n low in
        absurd (err.1 (record { low = omega (arith, ints, l); high = h }))

-- the frame lies in a span
pub lies : (a b w : ℤ) → a ≤ℤ w → w <ℤ b → (t : Bool) → (within a b w && t) ≡ t
lies a b w low high t =
    let f : int_le a w ≡ true = grind (arith, ints, low) in
    let g : int_lt w b ≡ true = grind (arith, ints, high) in
    rw (f, g) refl

-- the frame of a day is one of 64 bits
pub field : (day : ℕ) (z : ℤ) → day ≤ 5184000 → IsFrame day z → to_z w64 (of_z w64 z) ≡ z
field day z small f = let low = f.low in let high = f.high in
    to_z-of_z w64 z (let g : FitsSigned w64 z = omega (arith, ints, low, high, small) in g)

-- the frame lies in the span, and how far
pub record IsWithin (a b w : ℤ) : Type 0 where
  pub is : to_z w64 (of_z w64 (to_z w64 (of_z w64 w) -ℤ to_z w64 (of_z w64 a))) ≡ w -ℤ a
  pub from : a ≤ℤ w
  pub to : w <ℤ b
  pub low : pos 0 ≤ℤ (w -ℤ a)
  pub short : (w -ℤ a) <ℤ pos 5184000

pub span : (a b w : ℤ) (day : ℕ) → day ≤ 5184000 → IsFrame day a → IsFrame day b → FitsSigned w64 w
    → lt_z (to_z w64 (of_z w64 w)) (to_z w64 (of_z w64 a)) ≡ false
    → le_z (to_z w64 (of_z w64 b)) (to_z w64 (of_z w64 w)) ≡ false
    → IsWithin a b w
span a b w day small fa fb fits less more =
    let x = to_z-of_z w64 w fits in
    let y = field day a small fa in
    let z = field day b small fb in
    let low = fa.low in let high = fb.high in
    let p : a ≤ℤ w = let e = rw (x, y) at less in grind (arith, ints, e) in
    let q : w <ℤ b = let e = rw (x, z) at more in grind (arith, ints, e) in
    record {
      is = rw (x, y) (to_z-of_z w64 (w -ℤ a) (let g : FitsSigned w64 (w -ℤ a) = omega (arith, ints, low, high, small, p, q) in g));
      from = p;
      to = q;
      low = omega (arith, ints, p);
      short = omega (arith, ints, low, high, small, p, q);
    }
