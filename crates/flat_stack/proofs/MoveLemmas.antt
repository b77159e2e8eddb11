-- Lists that move, one member after another, and the root children of inputs that are taken out.
use Rattle.std.proofs.Common.{◌≡◌, ◌<◌, get_or, refl, sym, subst, ap, ◌∙◌, ℕ, zero, suc, Option, Some, None, List, [], ◌∷◌, ◌++◌, length, append_assoc, arith}
use Rattle.std.specs.Prelude.{IfSome, option_and_then, slice_get}
use Rattle.std.proofs.Math.ListN.{set}
use Rattle.std.specs.declared.alloc.Global.{Global}
use Rattle.std.specs.declared.vec.Vec.{Vec}
use Rattle.std.proofs.lemmas.List.{append-nil}
use Rattle.otio_model.specs.declared.compositions.ItemOf.{ItemOf}
use Rattle.otio_model.specs.declared.compositions.Listed.{Listed}
use Rattle.otio_model.specs.declared.timelines.Timeline.{Timeline}
use Rattle.flat.specs.Roots.{roots}
use Rattle.flat_stack.specs.Portions.{AreRoots, all_there, flat, left_at, root_at}

-- ---- what has moved, before what is left, is the whole

pub done_first : {B : Type 0} (done rest whole : List B) → done ≡ [] → rest ≡ whole
    → done ++ rest ≡ whole
done_first done rest whole e r = ap (λ z. z ++ rest) e ∙ r

pub done_more : {B : Type 0} (done new part rest all whole : List B) → new ≡ done ++ part
    → all ≡ part ++ rest → done ++ all ≡ whole → new ++ rest ≡ whole
done_more done new part rest all whole n e k =
    ap (λ z. z ++ rest) n ∙ append_assoc done part rest ∙ ap (λ z. done ++ z) (sym e) ∙ k

pub done_all : {B : Type 0} (done rest whole : List B) → rest ≡ [] → done ++ rest ≡ whole
    → done ≡ whole
done_all done rest whole e k = sym (append-nil done) ∙ ap (λ z. done ++ z) (sym e) ∙ k

-- ---- root children that are all there

there_at : (l : List (ItemOf Listed)) (i : ℕ) → flat (slice_get (all_there l) i) ≡ slice_get l i
there_at [] zero = refl
there_at [] (suc i) = refl
there_at (x ∷ l) zero = refl
there_at (x ∷ l) (suc i) = there_at l i

-- of each input all root children are there
abbrev AreOf : List (Vec (Option (ItemOf Listed)) Global) → List Timeline → Type 0
AreOf [] [] = Unit {0}
AreOf [] (t ∷ inputs) = ⊥
AreOf (v ∷ all) [] = ⊥
AreOf (v ∷ all) (t ∷ inputs) = (v.items ≡ all_there (roots t)) × AreOf all inputs

of_more : (all : List (Vec (Option (ItemOf Listed)) Global)) (done : List Timeline)
    (v : Vec (Option (ItemOf Listed)) Global) (t : Timeline) → AreOf all done
    → v.items ≡ all_there (roots t) → AreOf (all ++ v ∷ []) (done ++ t ∷ [])
of_more [] [] v t a e = (e, tt)
of_more [] (u ∷ done) v t a e = absurd a
of_more (w ∷ all) [] v t a e = absurd a
of_more (w ∷ all) (u ∷ done) v t a e = (a.0, of_more all done v t a.1 e)

of_roots : (all : List (Vec (Option (ItemOf Listed)) Global)) (inputs : List Timeline)
    → AreOf all inputs → AreRoots all inputs
of_roots [] [] a zero c x e = absurd (cc e)
of_roots [] [] a (suc i) c x e = absurd (cc e)
of_roots [] (t ∷ inputs) a i c x e = absurd a
of_roots (v ∷ all) [] a i c x e = absurd a
of_roots (v ∷ all) (t ∷ inputs) a zero c x e =
    sym (there_at (roots t) c) ∙ ap (λ l. flat (slice_get l c)) (sym a.0) ∙ e
of_roots (v ∷ all) (t ∷ inputs) a (suc i) c x e = of_roots all inputs a.1 i c x e

-- ---- one that is taken

got_here : (all : List (Vec (Option (ItemOf Listed)) Global)) (i : ℕ)
    (v : Vec (Option (ItemOf Listed)) Global) → i < length all → v ≡ get_or all i v
    → slice_get all i ≡ Some v
got_here [] i v h e = absurd (omega (arith, h))
got_here (w ∷ all) zero v h e = ap Some (sym e)
got_here (w ∷ all) (suc i) v h e = got_here all i v (omega (arith, h)) e

-- it is what it was
pub root_taken : (all : List (Vec (Option (ItemOf Listed)) Global)) (i c : ℕ)
    (v : Vec (Option (ItemOf Listed)) Global) (o : Option (ItemOf Listed)) (inputs : List Timeline)
    → i < length all → v ≡ get_or all i v → o ≡ flat (slice_get v.items c) → AreRoots all inputs
    → IfSome o (λ x. root_at inputs i c ≡ Some x)
root_taken all i c v None inputs h e f a = tt
root_taken all i c v (Some x) inputs h e f a =
    a i c x (ap (option_and_then (λ (w : Vec (Option (ItemOf Listed)) Global). flat (slice_get w.items c)))
    (got_here all i v h e) ∙ sym f)

left_before : (all : List (Vec (Option (ItemOf Listed)) Global)) (i : ℕ)
    (v w : Vec (Option (ItemOf Listed)) Global) → i < length all → v ≡ get_or all i v
    → ((c : ℕ) (x : ItemOf Listed) → flat (slice_get w.items c) ≡ Some x
    → flat (slice_get v.items c) ≡ Some x)
    → (j c : ℕ) (x : ItemOf Listed) → left_at (set all i w) j c ≡ Some x → left_at all j c ≡ Some x
left_before [] i v w h e f j c x g = absurd (omega (arith, h))
left_before (u ∷ all) zero v w h e f zero c x g =
    ap (λ (z : Vec (Option (ItemOf Listed)) Global). flat (slice_get z.items c)) (sym e) ∙ f c x g
left_before (u ∷ all) zero v w h e f (suc j) c x g = g
left_before (u ∷ all) (suc i) v w h e f zero c x g = g
left_before (u ∷ all) (suc i) v w h e f (suc j) c x g =
    left_before all i v w (omega (arith, h)) e f j c x g

-- and the others stay as they were
pub root_left : (all : List (Vec (Option (ItemOf Listed)) Global)) (i : ℕ)
    (v w : Vec (Option (ItemOf Listed)) Global) (inputs : List Timeline) → i < length all
    → v ≡ get_or all i v
    → ((c : ℕ) (x : ItemOf Listed) → flat (slice_get w.items c) ≡ Some x
    → flat (slice_get v.items c) ≡ Some x)
    → AreRoots all inputs → AreRoots (set all i w) inputs
root_left all i v w inputs h e f a j c x g = a j c x (left_before all i v w h e f j c x g)

-- ---- the loop over inputs

pub record IsOpen (all : List (Vec (Option (ItemOf Listed)) Global)) (left inputs : List Timeline)
    : Type 0 where
  pub done : List Timeline
  pub are : AreOf all done
  pub is : inputs ≡ done ++ left

pub opened_first : (none all : List (Vec (Option (ItemOf Listed)) Global)) (left inputs : List Timeline)
    (v : Vec (Option (ItemOf Listed)) Global) (t : Timeline) → none ≡ [] → all ≡ none ++ v ∷ []
    → v.items ≡ all_there (roots t) → inputs ≡ t ∷ left → IsOpen all left inputs
opened_first none all left inputs v t e n h is = record {
  done = t ∷ [];
  are = subst (λ z. AreOf z (t ∷ [])) (sym (n ∙ ap (λ z. z ++ v ∷ []) e)) (h, tt);
  is = is;
}

pub opened_more : (all new : List (Vec (Option (ItemOf Listed)) Global))
    (left rest inputs : List Timeline) (v : Vec (Option (ItemOf Listed)) Global) (t : Timeline)
    → IsOpen all left inputs → left ≡ t ∷ rest → new ≡ all ++ v ∷ []
    → v.items ≡ all_there (roots t) → IsOpen new rest inputs
opened_more all new left rest inputs v t o e n h = record {
  done = o.done ++ t ∷ [];
  are = subst (λ z. AreOf z (o.done ++ t ∷ [])) (sym n) (of_more all o.done v t o.are h);
  is = o.is ∙ ap (λ z. o.done ++ z) e ∙ sym (append_assoc o.done (t ∷ []) rest);
}

pub opened_roots : (all : List (Vec (Option (ItemOf Listed)) Global)) (left inputs : List Timeline)
    → IsOpen all left inputs → left ≡ [] → AreRoots all inputs
opened_roots all left inputs o e =
    subst (AreRoots all) (sym (o.is ∙ ap (λ z. o.done ++ z) e ∙ append-nil o.done))
    (of_roots all o.done o.are)
