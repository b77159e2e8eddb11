-- A list of one item that has no fault can be cut.
use Rattle.std.proofs.Common.{◌≡◌, refl, sym, subst, ap, ◌∙◌, ℕ, zero, suc, ◌<◌, ◌^◌, ◌*◌, pos, Some, List, [], ◌∷◌, length, arith}
use Rattle.std.proofs.lemmas.Int.{ints}
use Rattle.std.specs.Prelude.{◌≤ℤ◌, slice_get}
use Rattle.otio_model.specs.declared.compositions.ItemOf.{ItemOf}
use Rattle.otio_model.specs.declared.compositions.Listed.{Listed}
use Rattle.otio_model.specs.Counts.{count_of}
use Rattle.coord.specs.Soundness.{IsFaultlessItem}
use Rattle.coord.proofs.Members.{same_some}
use Rattle.edits.specs.Edges.{added}
use Rattle.pieces.specs.Short.{AreCuttable, AreFew, AreShort, IsCuttable}
use Rattle.pieces.proofs.Faultless.{faultless_is_short}
use Rattle.pieces.proofs.StripLemmas.{short_together}

pub one_cuttable : (l : List (ItemOf Listed)) (x : ItemOf Listed) → l ≡ x ∷ []
    → count_of x < 2 ^ 32 → IsFaultlessItem x → AreCuttable l
one_cuttable l x e few sound i y f = by i (ap (λ m. slice_get m i) (sym e) ∙ f)
  where
    by : (k : ℕ) → slice_get (x ∷ []) k ≡ Some y → IsCuttable y
    by zero g = subst IsCuttable (same_some x y g) (record { few = few; sound = sound [] x refl })
    by (suc k) g = absurd (cc g)

pub one_short : (l : List (ItemOf Listed)) (x : ItemOf Listed) → l ≡ x ∷ []
    → count_of x < 2 ^ 32 → IsFaultlessItem x → AreShort l
one_short l x e few sound i y f = faultless_is_short y (one_cuttable l x e few sound i y f)

pub one_few : (l : List (ItemOf Listed)) (x : ItemOf Listed) → l ≡ x ∷ []
    → count_of x < 2 ^ 32 → IsFaultlessItem x → AreFew l
one_few l x e few sound i y f = (one_short l x e few sound i y f).few

pub one_long : (l : List (ItemOf Listed)) (x : ItemOf Listed) → l ≡ x ∷ []
    → count_of x < 2 ^ 32 → IsFaultlessItem x
    → added l ≤ℤ pos 100000000000000000000000000000000000000
one_long l x e few sound =
    let one : length l ≡ 1 = ap length e in
    let long : added l ≤ℤ pos (1 * 705600000000000000000000) =
    subst (λ (n : ℕ). added l ≤ℤ pos (n * 705600000000000000000000)) one
    (short_together l (one_short l x e few sound)) in
    omega (arith, ints, long)
