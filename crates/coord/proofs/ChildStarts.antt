-- Where children start: the lengths before them, added up.
use Rattle.std.proofs.Common.{◌≡◌, refl, ap, sym, ◌∙◌, ℕ, zero, suc, ◌+◌, List, [], ◌∷◌, map, Option, Some, None, take, slice_get, add-one, arith}
use Rattle.std.specs.Prelude.{option_map}
use Rattle.otio_model.specs.declared.compositions.ItemOf.{ItemOf}
use Rattle.otio_model.specs.declared.compositions.Listed.{Listed}
use Rattle.otio_model.specs.Trees.{items_of}
use Rattle.otio_model.specs.Lengths.{added, lengths, length_of, start_of, or_zero}
use Rattle.coord.proofs.SightLemmas.{lengths-items}

-- one more length
pub added_more : (o : Option ℕ) (ns : List (Option ℕ)) → added (o ∷ ns) ≡ or_zero o + added ns
added_more None ns = omega arith
added_more (Some n) ns = refl

pub added_take : (os : List (Option ℕ)) (i : ℕ) (o : Option ℕ) → slice_get os i ≡ Some o
    → added (take (suc i) os) ≡ added (take i os) + or_zero o
added_take [] zero o e = absurd (cc e)
added_take [] (suc i) o e = absurd (cc e)
added_take (p ∷ os) zero o e =
    let same : p ≡ o = cc e in
    let f = ap or_zero same in
    let g = added_more p [] in
    omega (arith, f, g)
added_take (p ∷ os) (suc i) o e =
    let rest = added_take os i o e in
    let f = added_more p (take (suc i) os) in
    let g = added_more p (take i os) in
    omega (arith, rest, f, g)

get_mapped : (xs : List (ItemOf Listed)) (i : ℕ) (x : ItemOf Listed) → slice_get xs i ≡ Some x
    → slice_get (map length_of xs) i ≡ Some (length_of x)
get_mapped [] zero x e = absurd (cc e)
get_mapped [] (suc i) x e = absurd (cc e)
get_mapped (y ∷ xs) zero x e = ap (option_map length_of) e
get_mapped (y ∷ xs) (suc i) x e = get_mapped xs i x e

-- where the child after one starts
pub start_next : (l : Listed) (i : ℕ) (x : ItemOf Listed) → slice_get (items_of l) i ≡ Some x
    → start_of l (i + 1) ≡ start_of l i + or_zero (length_of x)
start_next l i x e =
    ap (λ n. added (take n (lengths l))) (add-one i)
    ∙ added_take (lengths l) i (length_of x)
    (ap (λ os. slice_get os i) (sym (lengths-items l)) ∙ get_mapped (items_of l) i x e)
