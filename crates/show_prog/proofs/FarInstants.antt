-- Instants that don't fit 128 bits lie outside every sound timeline.
use Rattle.std.proofs.Common.{◌≡◌, refl, sym, ◌∙◌, ℕ, ◌+◌, ◌≤◌, ℤ, pos, negsuc, ◌*ℤ◌, ◌≤ℤ◌, Bool, true, false, FitsSigned, arith}
use Rattle.std.specs.Prelude.{unsigned_abs, Option, Some, None, SomeIff}
use Rattle.limits.specs.Limits.{most_ticks}
use Rattle.otio_model.specs.Overlaps.{within}
use Rattle.show_prog.specs.Walk.{IsInstant}
use Rattle.std.specs.Int.{w128}
use Rattle.std.proofs.lemmas.Int.{ints, unsigned_abs-mul, fits_signed_from_abs}
use Rattle.std.proofs.lemmas.Nat.{mul-le}
use Rattle.coord.proofs.Within.{within_is}

small_fits : (z : ℤ) → unsigned_abs z ≤ most_ticks → FitsSigned w128 z
small_fits z h = fits_signed_from_abs w128 z (omega (arith, h))

by : (z : ℤ) (t : Bool) → within (pos 0) (pos (most_ticks + 1)) z ≡ t → ((unsigned_abs z ≤ most_ticks) → ⊥) → t ≡ false
by z false e h = refl
by z true e h = let w = within_is (pos 0) (pos (most_ticks + 1)) z e in let a = w.0 in let b = w.1 in absurd (h (omega (arith, ints)))

pub far : (z : ℤ) → (FitsSigned w128 z → ⊥) → within (pos 0) (pos (most_ticks + 1)) z ≡ false
far z h = by z (within (pos 0) (pos (most_ticks + 1)) z) refl (λ s. h (small_fits z s))

smaller : (d : ℤ) (f : ℕ) → 1 ≤ f → unsigned_abs (d *ℤ pos f) ≤ most_ticks → unsigned_abs d ≤ most_ticks
smaller d f h s = let e = unsigned_abs-mul d (pos f) in let m = mul-le (unsigned_abs d) 1 (unsigned_abs d) f (omega arith) h in omega (arith, e, m, s)

pub far_offset : (d : ℤ) (f : ℕ) → 1 ≤ f → (FitsSigned w128 d → ⊥) → within (pos 0) (pos (most_ticks + 1)) (d *ℤ pos f) ≡ false
far_offset d f h n = by (d *ℤ pos f) (within (pos 0) (pos (most_ticks + 1)) (d *ℤ pos f)) refl (λ s. n (small_fits d (smaller d f h s)))

-- the checked product of an offset and a frame's ticks
pub instant_by : (o : Option ℤ) (z w : ℤ) → SomeIff o (FitsSigned w128 z) z → z ≡ w → IsInstant w o
instant_by None z w h e = far w (λ f. h (rw e f))
instant_by (Some u) z w h e = h.1 ∙ e

pub none_by : (o : Option ℤ) (d w : ℤ) (f : ℕ) → SomeIff o (FitsSigned w128 d) d → o ≡ None → 1 ≤ f → w ≡ d *ℤ pos f → IsInstant w None
none_by None d w f h e p q = rw q (far_offset d f p h)
none_by (Some u) d w f h e p q = absurd (cc e)

-- the same with the ticks as a whole number
pub none_by_ticks : (o : Option ℤ) (d w k : ℤ) → SomeIff o (FitsSigned w128 d) d → o ≡ None
    → pos 1 ≤ℤ k → w ≡ d *ℤ k → IsInstant w None
none_by_ticks o d w (pos f) h e p q = none_by o d w f h e (omega (arith, ints)) q
none_by_ticks o d w (negsuc f) h e p q = absurd (omega (arith, ints))

pub value_by : (P : Type 0) (o : Option ℤ) (u d : ℤ) → SomeIff o P d → o ≡ Some u → u ≡ d
value_by P None u d h e = absurd (cc e)
value_by P (Some v) u d h e = let same : v ≡ u = cc e in sym same ∙ h.1
