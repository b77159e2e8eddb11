-- Pieces that are made one after another.
use Rattle.std.proofs.Common.{◌≡◌, ℕ, ◌<◌, ◌+◌, ◌*◌, ◌≤◌, zero, suc, List, [], ◌∷◌, ◌++◌, ◌⊎◌, inl}
use Rattle.std.proofs.Common.{inr, refl, ap, sym, ◌∙◌, length, take, drop, get_or, subst, arith}
use Rattle.std.proofs.Common.{length-append, append_assoc, append-nil}
use Rattle.std.specs.Prelude.{reverse}
use Rattle.std.specs.Vec.{vec_capacity}
use Rattle.std.proofs.lemmas.List.{take_more, take-append-drop, reverse-append}
use Rattle.otio_model.specs.declared.compositions.ItemOf.{ItemOf}
use Rattle.otio_model.specs.declared.compositions.Listed.{Listed}
use Rattle.otio_model.specs.declared.lists.Piece.{Piece}
use Rattle.otio_model.specs.Pieces.{all_items, AllPieces, IsPiece, AllFull, IsFresh, AllFresh}

pub all_items-append : (ps qs : List Piece) → all_items (ps ++ qs) ≡ all_items ps ++ all_items qs
all_items-append [] qs = refl
all_items-append (p ∷ ps) qs = ap (λ l. p.items.items ++ l) (all_items-append ps qs)
    ∙ sym (append_assoc p.items.items (all_items ps) (all_items qs))

pub all_items-last : (ps : List Piece) (p : Piece)
    → all_items (ps ++ p ∷ []) ≡ all_items ps ++ p.items.items
all_items-last ps p = all_items-append ps (p ∷ [])
    ∙ ap (λ l. all_items ps ++ l) (append-nil p.items.items)

pub length_more : (ps : List Piece) (i : ℕ) (p : Piece) → i < length ps → p ≡ get_or ps i p
    → length (all_items (take (i + 1) ps)) ≡ length (all_items (take i ps)) + length p.items.items
length_more ps i p h e =
    ap (λ l. length (all_items l)) (take_more ps i p h ∙ ap (λ y. take i ps ++ y ∷ []) (sym e))
    ∙ ap length (all_items-last (take i ps) p)
    ∙ length-append (all_items (take i ps)) p.items.items

last-fresh : (ps : List Piece) (p : Piece) → AllFresh (ps ++ p ∷ []) → IsFresh p × AllFresh ps
last-fresh [] p a = (a.0, tt)
last-fresh (q ∷ ps) p a = let r = last-fresh ps p a.1 in (r.0, (a.0, r.1))

pub fresh_last : (old new : List Piece) (p : Piece) → old ≡ new ++ p ∷ [] → AllFresh old
    → IsFresh p × AllFresh new
fresh_last old new p e a = last-fresh new p (subst AllFresh e a)

-- one more piece is made before the others, which stand in the other order
turned_next : (made new : List Piece) (p : Piece) → new ≡ made ++ p ∷ []
    → p ∷ reverse made ≡ reverse new
turned_next made new p e = sym (ap reverse e ∙ reverse-append made (p ∷ []))

pub items_next : (xs mid rest got : List (ItemOf Listed)) (made new : List Piece) (p : Piece) (n : ℕ)
    → xs ≡ mid ++ all_items (reverse made) → rest ≡ take n mid → got ≡ drop n mid
    → p.items.items ≡ got → new ≡ made ++ p ∷ [] → xs ≡ rest ++ all_items (reverse new)
items_next xs mid rest got made new p n e f g h k =
    let both : mid ≡ rest ++ p.items.items = sym (take-append-drop n mid)
    ∙ ap (λ l. l ++ drop n mid) (sym f) ∙ ap (λ l. rest ++ l) (sym (h ∙ g)) in
    e
    ∙ ap (λ l. l ++ all_items (reverse made)) both
    ∙ append_assoc rest p.items.items (all_items (reverse made))
    ∙ ap (λ l. rest ++ all_items l) (turned_next made new p k)

pub all_next : (made new : List Piece) (p : Piece) → new ≡ made ++ p ∷ []
    → AllPieces (reverse made) → IsPiece p → AllPieces (reverse new)
all_next made new p e a h = subst AllPieces (turned_next made new p e) (h, a)

pub full_next : (made new : List Piece) (p : Piece) → new ≡ made ++ p ∷ []
    → AllFull (reverse made) → 32 ≤ length p.items.items → AllFull (reverse new)
full_next made new p e a h = subst AllFull (turned_next made new p e) (h, a)

pub rest_after : (mid count left : ℕ) → left + count ≡ mid → (mid ≡ 0) ⊎ (32 ≤ mid)
    → (32 ≤ mid → count < mid → 32 + count ≤ mid) → (left ≡ 0) ⊎ (32 ≤ left)
rest_after mid count zero e h f = inl refl
rest_after mid count (suc left) e (inl h) f = absurd (omega arith)
rest_after mid count (suc left) e (inr h) f = let k = f h (omega arith) in inr (omega (arith, k))

pub enough_after : (mid count left fresh : ℕ) → left + count ≡ mid → mid ≤ 32 * (fresh + 1)
    → (mid ≤ 64 → count ≡ mid) → (32 ≤ mid → 32 ≤ count) → left ≤ 32 * fresh
enough_after mid count zero fresh e h f g = omega arith
enough_after mid count (suc left) fresh e h f g = grind arith

last-more : (ps : List Piece) (p : Piece) → AllFresh ps → IsFresh p → AllFresh (ps ++ p ∷ [])
last-more [] p a h = (h, tt)
last-more (q ∷ ps) p a h = (a.0, last-more ps p a.1 h)

pub fresh_more : (old new : List Piece) (p : Piece) → new ≡ old ++ p ∷ [] → AllFresh old
    → p.items.items ≡ [] → 64 ≤ vec_capacity p.items → AllFresh new
fresh_more old new p e a h r =
    subst AllFresh (sym e) (last-more old p a (record { empty = h; room = r }))

pub same_default : {A : Type 0} (xs : List A) (i : ℕ) (a b : A) → i < length xs
    → get_or xs i a ≡ get_or xs i b
same_default [] i a b h = absurd (omega arith)
same_default (x ∷ xs) zero a b h = refl
same_default (x ∷ xs) (suc i) a b h = same_default xs i a b (omega arith)
