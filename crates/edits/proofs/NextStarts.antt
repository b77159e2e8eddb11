-- How long children are together, and where the next one starts.
use Rattle.std.proofs.Common.{◌≡◌, ap, ◌∙◌, ℕ, zero, suc, ◌+◌, pos, ◌+ℤ◌, ◌≤ℤ◌, Some, List, [], ◌∷◌, take, arith}
use Rattle.std.specs.Prelude.{slice_get}
use Rattle.std.proofs.lemmas.Int.{ints}
use Rattle.otio_model.specs.declared.compositions.ItemOf.{ItemOf}
use Rattle.otio_model.specs.declared.compositions.Listed.{Listed}
use Rattle.coord.proofs.Members.{same_some}
use Rattle.edits.specs.Children.{ticks}
use Rattle.edits.specs.Edges.{added}

pub added_low : (l : List (ItemOf Listed)) → pos 0 ≤ℤ added l
added_low [] = omega (arith, ints)
added_low (x ∷ l) = let t = added_low l in omega (arith, ints)

added_more : (l : List (ItemOf Listed)) (i : ℕ) (x : ItemOf Listed) → slice_get l i ≡ Some x
    → added (take (suc i) l) ≡ added (take i l) +ℤ ticks x
added_more [] zero x e = absurd (cc e)
added_more [] (suc i) x e = absurd (cc e)
added_more (y ∷ l) zero x e =
    ap (λ z. ticks z +ℤ pos 0) (same_some y x e) ∙ (let k : ticks x +ℤ pos 0 ≡ pos 0 +ℤ ticks x = omega (arith, ints) in k)
added_more (y ∷ l) (suc i) x e = let h = added_more l i x e in omega (arith, ints, h)

pub added_next : (l : List (ItemOf Listed)) (i : ℕ) (x : ItemOf Listed) → slice_get l i ≡ Some x
    → added (take (i + 1) l) ≡ added (take i l) +ℤ ticks x
added_next l i x e =
    ap (λ n. added (take n l)) (let k : i + 1 ≡ suc i = omega arith in k) ∙ added_more l i x e
