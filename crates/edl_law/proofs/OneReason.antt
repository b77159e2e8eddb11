-- A timeline has one reason at most for which it has no list.
use Rattle.std.proofs.Common.{◌≡◌, ◌≢◌, refl, sym, ap, ap₂, ◌∙◌, ℕ, Bool, List, Some, None}
use Rattle.otio_model.specs.declared.timelines.Timeline.{Timeline}
use Rattle.media_rows.specs.Rows.{MediaRows}
use Rattle.edl_frames.specs.declared.reasons.Why.{Why}
use Rattle.edl_frames.specs.declared.reasons.NotCarried.{NotCarried}
use Rattle.edl_frames.specs.declared.reasons.NotCarried.TheVariants.{At, Memory}
use Rattle.edl_frames.specs.Carried.{not_carried, IsNotCarried}

pub one_reason : (t : Timeline) (media : MediaRows) (drop wide : Bool) (a b : NotCarried)
    → IsNotCarried t media drop wide a → IsNotCarried t media drop wide b → a ≢ Memory
    → b ≢ Memory → a ≡ b
one_reason t media drop wide (At p v) (At q w) i j some other =
    let same = pair (p, v) (q, w) (sym i ∙ j) in
    ap₂ At (ap (λ (z : List ℕ × Why). z.0) same) (ap (λ (z : List ℕ × Why). z.1) same)
  where
    pair : (a b : List ℕ × Why) → Some a ≡ Some b → a ≡ b
    pair a b e = cc e
one_reason t media drop wide (At p v) Memory i j some other = absurd (other refl)
one_reason t media drop wide Memory b i j some other = absurd (some refl)

pub no_reason : (t : Timeline) (media : MediaRows) (drop wide : Bool) (a : NotCarried)
    → IsNotCarried t media drop wide a → a ≢ Memory → not_carried t media drop wide ≡ None → ⊥
no_reason t media drop wide (At p v) i some carried = cc (sym carried ∙ i)
no_reason t media drop wide Memory i some carried = some refl
