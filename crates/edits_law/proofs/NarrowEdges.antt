-- An edit of edges changes no child outside those that the zone touches.
use Rattle.std.proofs.Common.{◌≡◌, refl, sym, ap, ap₂, ◌∙◌, inl, inr, ℤ, pos, ◌+ℤ◌, ◌-ℤ◌, ◌≤ℤ◌, List, [], ◌∷◌, ◌++◌, arith, append_assoc}
use Rattle.std.proofs.lemmas.Int.{ints}
use Rattle.otio_model.specs.declared.compositions.ItemOf.{ItemOf}
use Rattle.otio_model.specs.declared.compositions.Listed.{Listed}
use Rattle.edits.specs.Children.{Child}
use Rattle.edits.specs.Cuts.{strip, olds}
use Rattle.edits.specs.Edges.{added, last_changed, first_changed, last_item, first_item}
use Rattle.edits.specs.Narrow.{ahead, onward, up_to_met, past_met}
use Rattle.edits_law.proofs.Parted.{added_strip, olds_append}
use Rattle.edits_law.proofs.Beside.{strip_append, Ending, bare, last, ending, last_put, Opening, nothing, first, opening, first_put}
use Rattle.edits_law.proofs.Touched.{ahead_kept, ahead_early, ahead_onward, up_past, past_kept, past_strict}

-- ---- before the item

-- the list before an item that ends in the zone, in two parts
before_split : (l : List (ItemOf Listed)) (a b : ℤ) → strip l a b ≡ ahead l a b ++ strip (onward l a b) (a -ℤ added (ahead l a b)) (b -ℤ added (ahead l a b))
before_split l a b =
    ap (λ m. strip m a b) (sym (ahead_onward l a b)) ∙ strip_append (ahead l a b) (onward l a b) a b
    ∙ ap (λ m. m ++ strip (onward l a b) (a -ℤ added (ahead l a b)) (b -ℤ added (ahead l a b))) (ahead_kept l a b)

pub added_split : (l : List (ItemOf Listed)) (a b : ℤ) → added l ≡ added (ahead l a b) +ℤ added (onward l a b)
added_split l a b = ap added (sym (ahead_onward l a b)) ∙ added_join (ahead l a b) (onward l a b)
  where
    added_join : (m n : List (ItemOf Listed)) → added (m ++ n) ≡ added m +ℤ added n
    added_join [] n = omega (arith, ints)
    added_join (x ∷ m) n = let e = added_join m n in omega (arith, ints)

pub olds_before : (l : List (ItemOf Listed)) (a b : ℤ) → olds (strip l a b) ≡ olds (ahead l a b) ++ olds (strip (onward l a b) (a -ℤ added (ahead l a b)) (b -ℤ added (ahead l a b)))
olds_before l a b = ap olds (before_split l a b) ∙ olds_append (ahead l a b) _

pub last_before : (f : ItemOf Listed → List Child) (l : List (ItemOf Listed)) (a b : ℤ) → a ≤ℤ b → pos 0 ≤ℤ b → a ≤ℤ added l → added l ≤ℤ b
    → last_changed f (strip l a b) ≡ olds (ahead l a b) ++ last_changed f (strip (onward l a b) (a -ℤ added (ahead l a b)) (b -ℤ added (ahead l a b)))
last_before f l a b z n h k =
    let s = added_split l a b in
    with_end (ending (onward l a b) (a -ℤ added (ahead l a b)) (b -ℤ added (ahead l a b)) (omega (arith, ints, s)) (omega (arith, ints, s)))
  where
    m : List (ItemOf Listed)
    m = strip (onward l a b) (a -ℤ added (ahead l a b)) (b -ℤ added (ahead l a b))

    with_end : Ending (strip (onward l a b) (a -ℤ added (ahead l a b)) (b -ℤ added (ahead l a b))) (last_item (onward l a b))
        → last_changed f (strip l a b) ≡ olds (ahead l a b) ++ last_changed f (strip (onward l a b) (a -ℤ added (ahead l a b)) (b -ℤ added (ahead l a b)))
    with_end (bare e g) =
        let s = added_split l a b in
        let r : added (onward l a b) ≡ pos 0 = sym (added_strip (onward l a b) (a -ℤ added (ahead l a b)) (b -ℤ added (ahead l a b))) ∙ ap added g in
        let none : ahead l a b ≡ [] = elim (ahead_early l a b z n) [ inl i ↦ i | inr i ↦ absurd (omega (arith, ints, s, r)) ] in
        ap (last_changed f) (before_split l a b ∙ ap₂ (λ p q. p ++ q) none g)
        ∙ sym (ap₂ (λ p q. olds p ++ last_changed f q) none g)
    with_end (last p y e t u g) =
        ap (last_changed f) (before_split l a b ∙ ap (λ q. ahead l a b ++ q) g ∙ sym (append_assoc (ahead l a b) p (y ∷ [])))
        ∙ last_put f (ahead l a b ++ p) y u
        ∙ ap (λ q. q ++ (f y ++ [])) (olds_append (ahead l a b) p)
        ∙ append_assoc (olds (ahead l a b)) (olds p) (f y ++ [])
        ∙ ap (λ q. olds (ahead l a b) ++ q) (sym (ap (last_changed f) g ∙ last_put f p y u))

-- ---- after the item

behind_split : (l : List (ItemOf Listed)) (a b : ℤ) → strip l a b ≡ strip (up_to_met l a b) a b ++ past_met l a b
behind_split l a b =
    ap (λ m. strip m a b) (sym (up_past l a b)) ∙ strip_append (up_to_met l a b) (past_met l a b) a b
    ∙ ap (λ m. strip (up_to_met l a b) a b ++ m) (past_kept l a b _ _ refl refl)

pub olds_behind : (l : List (ItemOf Listed)) (a b : ℤ) → olds (strip l a b) ≡ olds (strip (up_to_met l a b) a b) ++ olds (past_met l a b)
olds_behind l a b = ap olds (behind_split l a b) ∙ olds_append (strip (up_to_met l a b) a b) (past_met l a b)

pub first_behind : (f : ItemOf Listed → List Child) (l : List (ItemOf Listed)) (a b : ℤ) → a ≤ℤ pos 0 → pos 0 ≤ℤ b
    → first_changed f (strip l a b) ≡ first_changed f (strip (up_to_met l a b) a b) ++ olds (past_met l a b)
first_behind f l a b h k = with_start (opening (up_to_met l a b) a b h k)
  where
    with_start : Opening (strip (up_to_met l a b) a b) (first_item (up_to_met l a b)) → first_changed f (strip l a b) ≡ first_changed f (strip (up_to_met l a b) a b) ++ olds (past_met l a b)
    with_start (nothing e g) =
        let r : added (up_to_met l a b) ≡ pos 0 = sym (added_strip (up_to_met l a b) a b) ∙ ap added g in
        let none : past_met l a b ≡ [] = elim (past_strict l a b (omega (arith, ints))) [ inl i ↦ i | inr i ↦ absurd (omega (arith, ints, r)) ] in
        ap (first_changed f) (behind_split l a b ∙ ap₂ (λ p q. p ++ q) g none)
        ∙ sym (ap₂ (λ p q. first_changed f p ++ olds q) g none)
    with_start (first z p e t u g) =
        ap (first_changed f) (behind_split l a b ∙ ap (λ q. q ++ past_met l a b) g)
        ∙ first_put f z (p ++ past_met l a b) u
        ∙ ap (λ q. f z ++ q) (olds_append p (past_met l a b))
        ∙ sym (append_assoc (f z) (olds p) (olds (past_met l a b)))
        ∙ ap (λ q. q ++ olds (past_met l a b)) (sym (ap (first_changed f) g ∙ first_put f z p u))
