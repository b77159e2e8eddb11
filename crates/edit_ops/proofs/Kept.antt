-- Instants and lengths, as they are kept in words.
use Rattle.std.proofs.Common.{◌≡◌, ◌∙◌, sym, subst, ℕ, ℤ, pos, ◌≤ℤ◌, Bool, FitsSigned, List, to_z, of_z, arith}
use mir.Syntax.{w64, w128}
use Rattle.std.proofs.lemmas.Int.{ints}
use Rattle.tick_time.specs.declared.rates.Rate.{Rate}
use Rattle.otio_model.specs.declared.timelines.Timeline.{Timeline}
use Rattle.edit_ops.specs.Begun.{IsBegun, IsTaken}
use Rattle.edit_ops.specs.Zoned.{IsTrackAt}

-- a word of 128 bits keeps an instant
pub word-kept : (z : ℤ) → pos 0 ≤ℤ z → z ≤ℤ pos 10000000000000000000000000000000000000
    → to_z w128 (of_z w128 z) ≡ z
word-kept z low high = omega (arith, ints, low, high)

pub begun-kept : (t : Timeline) (p : List ℕ) (at : ℤ) (r : Rate) (w : ℤ) → IsBegun t p at r w
    → IsBegun t p at r (to_z w128 (of_z w128 w))
begun-kept t p at r w b = subst (IsBegun t p at r) (sym (word-kept w b.low b.high)) b

-- the frame of an edit comes as a word of 64 bits
frame-kept : (at : ℤ) → FitsSigned w64 at → to_z w64 (of_z w64 at) ≡ at
frame-kept at fits = omega (arith, ints, fits)

pub begun-at_frame : {t : Timeline} {p : List ℕ} {r : Rate} {w : ℤ} (at : ℤ) → FitsSigned w64 at
    → IsBegun t p (to_z w64 (of_z w64 at)) r w → IsBegun t p at r w
begun-at_frame {t} {p} {r} {w} at fits b =
    subst (λ z. IsBegun t p z r w) (frame-kept at fits) b

pub taken-at_frame : {t : Timeline} {p : List ℕ} {r : Rate} {w a n : ℤ} {gap : Bool} (at : ℤ)
    → FitsSigned w64 at → IsTaken t p (to_z w64 (of_z w64 at)) r w a n gap
    → IsTaken t p at r w a n gap
taken-at_frame {t} {p} {r} {w} {a} {n} {gap} at fits h =
    subst (λ z. IsTaken t p z r w a n gap) (frame-kept at fits) h

-- the track on which an edit is begun, and its record rate
pub track-begun : {t : Timeline} {p : List ℕ} {at w : ℤ} {r q : Rate} → q ≡ r → IsBegun t p at r w
    → IsTrackAt t p q
track-begun e b = record { there = b.there; counts = e ∙ b.counts }
