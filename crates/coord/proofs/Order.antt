-- Document order, and the first fault in it.
use Rattle.std.proofs.Common.{◌≡◌, refl, sym, ap, ◌∙◌, ℕ, zero, suc, ◌<◌, ◌⊎◌, inl, inr, List, [], ◌∷◌, Some, arith}
use Rattle.otio_model.specs.declared.compositions.ItemOf.{ItemOf}
use Rattle.otio_model.specs.declared.compositions.Listed.{Listed}
use Rattle.otio_model.specs.Trees.{item_at}
use Rattle.coord.specs.declared.faults.ItemFault.{ItemFault}
use Rattle.coord.specs.Soundness.{fault_of, Precedes, IsFirstFault}

-- two places are one, or one of them comes before the other
pub data Compared (p q : List ℕ) : Type 0 where
  same : p ≡ q → Compared p q
  before : Precedes p q → Compared p q
  behind : Precedes q p → Compared p q

under : (i : ℕ) (p q : List ℕ) → Compared p q → Compared (i ∷ p) (i ∷ q)
under i p q (same e) = same (ap (λ l. i ∷ l) e)
under i p q (before h) = before (inr (refl, h))
under i p q (behind h) = behind (inr (refl, h))

by_order : (i j : ℕ) → (i < j) ⊎ ((j < i) ⊎ (i ≡ j))
by_order zero zero = inr (inr refl)
by_order zero (suc j) = inl (omega arith)
by_order (suc i) zero = inr (inl (omega arith))
by_order (suc i) (suc j) = elim (by_order i j) [
  | inl h ↦ inl (omega (arith, h))
  | inr r ↦ elim r [ inl h ↦ inr (inl (omega (arith, h))) | inr e ↦ inr (inr (omega (arith, e))) ]
]

pub compared : (p q : List ℕ) → Compared p q
compared [] [] = same refl
compared [] (j ∷ q) = before tt
compared (i ∷ p) [] = behind tt
compared (i ∷ p) (j ∷ q) = elim (by_order i j) [
  | inl h ↦ before (inl h)
  | inr r ↦ elim r [ inl h ↦ behind (inl h) | inr e ↦ rw e (under j p q (compared p q)) ]
]

at_one : (l : Listed) (p q : List ℕ) (f g : ItemFault) (x y : ItemOf Listed) → p ≡ q → item_at p l ≡ Some x → item_at q l ≡ Some y → fault_of x ≡ Some f → fault_of y ≡ Some g → f ≡ g
at_one l p q f g x y e a b h k =
    let is : x ≡ y = cc (sym a ∙ ap (λ r. item_at r l) e ∙ b) in
    let both : Some f ≡ Some g = sym h ∙ ap fault_of is ∙ k in cc both

-- there is one first fault at most
pub one_first : (l : Listed) (p q : List ℕ) (f g : ItemFault) → IsFirstFault l p f → IsFirstFault l q g → (p ≡ q) × (f ≡ g)
one_first l p q f g a b = elim (compared p q) [
  | same e ↦ (e, at_one l p q f g a.item b.item e a.there b.there a.has b.has)
  | before h ↦ absurd (cc (a.has, b.first p a.item h a.there))
  | behind h ↦ absurd (cc (b.has, a.first q b.item h b.there))
]
