-- The first transition from an index on, in parts and in the whole.
use Rattle.std.proofs.Common.{◌≡◌, ℕ, zero, suc, ◌+◌, ◌-◌, ◌≤◌, ◌<◌, List, [], ◌∷◌, ◌++◌, take}
use Rattle.std.proofs.Common.{drop, length, get_or, refl, ap, sym, ◌∙◌, arith, subst, length-append}
use Rattle.std.specs.Prelude.{IsSomeAnd, slice_get, pos}
use Rattle.std.proofs.lemmas.List.{take_more, take-append-le}
use Rattle.std.proofs.Math.Seq.{take-append-add}
use Rattle.otio_model.specs.declared.compositions.ItemOf.{ItemOf}
use Rattle.otio_model.specs.declared.compositions.ItemOf.TheVariants.{Clip, Gap, Transition, Stack}
use Rattle.otio_model.specs.declared.compositions.ItemOf.TheVariants.{Track}
use Rattle.otio_model.specs.declared.compositions.Listed.{Listed}
use Rattle.otio_model.specs.declared.lists.Piece.{Piece}
use Rattle.otio_model.specs.declared.piece_summary.Kept.{Kept}
use Rattle.otio_model.specs.declared.seeks.Seat.{Seat}
use Rattle.otio_model.specs.Trees.{items_of}
use Rattle.otio_model.specs.Kept.{capped_count, IsTransition, one_transition, transitions_in}
use Rattle.otio_model.specs.Pieces.{all_items, IsPiece}
use Rattle.otio_model.specs.Seats.{HasNoMore, IsNextTransition}
use Rattle.otio_model.specs.Seeks.{HasNone, IsNext, IsRead, lens, total}
use Rattle.otio_model.proofs.Cuts.{all_items-last}
use Rattle.otio_model.proofs.KeptLemmas.{taken_all, transitions-append}
use Rattle.otio_model.proofs.SeekLemmas.{lens-append, length-lens, split-at, start-total}
use Rattle.otio_model.proofs.SeekLemmas.{total-append, total-take_le}
use Rattle.otio_model.proofs.Spots.{get_front, get_past}
use Rattle.otio_model.proofs.Ways.{get_at}

transition_is : (x : ItemOf Listed) → one_transition x ≡ 1 → IsTransition x
transition_is (Clip c) e = absurd (omega (arith, e))
transition_is (Gap c) e = absurd (omega (arith, e))
transition_is (Transition c) e = refl
transition_is (Stack c) e = absurd (omega (arith, e))
transition_is (Track c) e = absurd (omega (arith, e))

not_transition : (x : ItemOf Listed) → (one_transition x ≡ 1 → ⊥) → one_transition x ≡ 0
not_transition (Clip c) e = refl
not_transition (Gap c) e = refl
not_transition (Transition c) e = absurd (e refl)
not_transition (Stack c) e = refl
not_transition (Track c) e = refl

-- a transition that stands at an index
pub stands : (xs : List (ItemOf Listed)) (i : ℕ) (x : ItemOf Listed) → i < length xs
    → x ≡ get_or xs i x → one_transition x ≡ 1 → IsSomeAnd (slice_get xs i) IsTransition
stands xs i x h e k =
    subst (λ o. IsSomeAnd o IsTransition) (sym (get_at xs i x h e)) (transition_is x k)

-- one more item that isn't a transition
pub passed_by : (xs : List (ItemOf Listed)) (i : ℕ) (x : ItemOf Listed) → i < length xs
    → x ≡ get_or xs i x → (one_transition x ≡ 1 → ⊥)
    → transitions_in (take (i + 1) xs) ≡ transitions_in (take i xs)
passed_by xs i x h e k =
    ap transitions_in (take_more xs i x h ∙ ap (λ y. take i xs ++ y ∷ []) (sym e))
    ∙ transitions-append (take i xs) (x ∷ [])
    ∙ omega (arith, not_transition x k)

taken_few : (xs : List (ItemOf Listed)) (i : ℕ) → transitions_in (take i xs) ≤ transitions_in xs
taken_few [] zero = omega arith
taken_few [] (suc i) = omega arith
taken_few (x ∷ xs) zero = omega arith
taken_few (x ∷ xs) (suc i) = omega (arith, taken_few xs i)

-- a piece without transitions has none
pub none_kept : (p : Piece) (from : ℕ) → IsPiece p → p.kept.transitions ≡ 0
    → HasNone p.items.items from
none_kept p from k e =
    record {
      same = omega (
        arith,
        taken_few p.items.items from,
        ap (λ (x : Kept). x.transitions) k.keeps,
        e,
      );
    }

-- a list that keeps no transition has none
pub no_more : (l : Listed) (n from : ℕ) → n ≡ capped_count (transitions_in (items_of l)) → n ≡ 0
    → HasNoMore l from
no_more l n from e z = omega (arith, e, z, taken_few (items_of l) from)

pub none_behind : (xs : List (ItemOf Listed)) (from : ℕ) → length xs ≤ from → HasNone xs from
none_behind xs from h = record { same = ap transitions_in (sym (taken_all xs from h)) }

take_append : {A : Type 0} (a b : List A) (n : ℕ)
    → take n (a ++ b) ≡ take n a ++ take (n - length a) b
take_append [] b zero = refl
take_append [] b (suc n) = let e : suc n - 0 ≡ suc n = omega arith in ap (λ k. take k b) (sym e)
take_append (x ∷ a) b zero = let e : 0 - length (x ∷ a) ≡ 0 = omega arith in
    ap (λ k. take k b) (sym e)
take_append (x ∷ a) b (suc n) = let e : suc n - length (x ∷ a) ≡ n - length a = omega arith in
    ap (λ l. x ∷ l) (take_append a b n) ∙ ap (λ k. x ∷ (take n a ++ take k b)) (sym e)

-- none in two lists, none in both together
none_in : (a p : List (ItemOf Listed)) (from : ℕ) → HasNone a from → HasNone p (from - length a)
    → HasNone (a ++ p) from
none_in a p from h k = record {
  same = omega (
    arith,
    transitions-append a p,
    ap transitions_in (take_append a p from),
    transitions-append (take from a) (take (from - length a) p),
    h.same,
    k.same,
  );
}

next_within : (a p c : List (ItemOf Listed)) (from index start : ℕ) → HasNone a from
    → IsNext p (from - length a) index start
    → IsNext (a ++ (p ++ c)) from (length a + index) (total (lens a) + start)
next_within a p c from index start h k = record {
  later = omega (arith, k.later);
  within = omega (arith, k.within, length-append a (p ++ c), length-append p c);
  there = subst (λ o. IsSomeAnd o IsTransition)
      (sym (get_past a (p ++ c) index ∙ get_front p c index k.within)) k.there;
  between = omega (
    arith,
    h.same,
    k.between,
    ap transitions_in (take-append-add a (p ++ c) index),
    transitions-append a (take index (p ++ c)),
    ap transitions_in (take-append-le index p c (omega (arith, k.within))),
    ap transitions_in (take_append a (p ++ c) from),
    transitions-append (take from a) (take (from - length a) (p ++ c)),
    ap transitions_in (take-append-le (from - length a) p c (omega (arith, k.within, k.later))),
  );
  starts = omega (
    arith,
    k.starts,
    ap (λ ns. total (take (length a + index) ns)) (lens-append a (p ++ c)),
    ap (λ n. total (take (n + index) (lens a ++ lens (p ++ c)))) (sym (length-lens a)),
    ap total (take-append-add (lens a) (lens (p ++ c)) index),
    total-append (lens a) (take index (lens (p ++ c))),
    ap (λ ns. total (take index ns)) (lens-append p c),
    ap total (take-append-le index (lens p) (lens c) (omega (arith, k.within, length-lens p))),
  );
}

-- what is known of a search that goes on
pub none_next : {ps : List Piece} {i from less : ℕ} {p : Piece} → IsRead ps i p
    → less ≡ from - p.start.items → HasNone (all_items (take i ps)) from
    → HasNone p.items.items less → HasNone (all_items (take (i + 1) ps)) from
none_next {ps = ps} {i = i} {from = from} {p = p} f l n k =
    let m : all_items (take (i + 1) ps) ≡ all_items (take i ps) ++ p.items.items =
    ap all_items (take_more ps i p f.there ∙ ap (λ y. take i ps ++ y ∷ []) (sym f.read))
    ∙ all_items-last (take i ps) p in
    subst (λ xs. HasNone xs from) (sym m)
    (none_in (all_items (take i ps)) p.items.items from n
    (subst (HasNone p.items.items) (l ∙ ap (λ n. from - n) f.before) k))

-- what is found in a piece is found in all
pub next_at : {ps : List Piece} {i from less index inner : ℕ} {p : Piece} → IsRead ps i p
    → less ≡ from - p.start.items → HasNone (all_items (take i ps)) from
    → IsNext p.items.items less index inner
    → IsNext (all_items ps) from (p.start.items + index) (p.start.ticks + inner)
next_at {ps = ps} {i = i} {from = from} {index = index} {inner = inner} {p = p} f l n k =
    let a = all_items (take i ps) in
    let c = all_items (drop (i + 1) ps) in
    let w : all_items ps ≡ a ++ (p.items.items ++ c) = split-at ps i p f.there
    ∙ ap (λ (x : Piece). a ++ (x.items.items ++ c)) (sym f.read) in
    let there = next_within a p.items.items c from index inner n
    (subst (λ m. IsNext p.items.items m index inner) (l ∙ ap (λ n. from - n) f.before) k) in
    rw (f.before, f.start, w) there

-- what was found in natural numbers, as a seat
pub next_seated : (l : Listed) (xs : List (ItemOf Listed)) (from index start : ℕ) (s : Seat)
    → items_of l ≡ xs → IsNext xs from index start → s.index ≡ index → s.start ≡ pos start
    → IsNextTransition l from s
next_seated l xs from index start s e k i h =
    let n : IsNext (items_of l) from s.index start =
    subst (λ j. IsNext (items_of l) from j start) (sym i)
    (subst (λ ys. IsNext ys from index start) (sym e) k) in
    record {
      later = n.later;
      there = n.there;
      none_between = n.between;
      starts = h
          ∙ ap pos (n.starts ∙ sym (start-total l s.index));
    }

-- where it starts is at most the whole
pub next_short : {xs : List (ItemOf Listed)} {from index start : ℕ} → IsNext xs from index start
    → start ≤ total (lens xs)
next_short {xs = xs} {index = index} k = omega (arith, k.starts, total-take_le (lens xs) index)

-- none in the pieces, none in the children
pub none_seated : (l : Listed) (xs : List (ItemOf Listed)) (from : ℕ) → items_of l ≡ xs
    → HasNone xs from → transitions_in (items_of l) ≡ transitions_in (take from (items_of l))
none_seated l xs from e k =
    subst (λ ys. transitions_in ys ≡ transitions_in (take from ys)) (sym e) k.same
