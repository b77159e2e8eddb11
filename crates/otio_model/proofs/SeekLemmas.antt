-- Lengths of items in pieces.
use Rattle.std.proofs.Common.{◌≡◌, ℕ, zero, suc, ◌+◌, ◌-◌, ◌≤◌, ◌<◌, ◌^◌, List, [], ◌∷◌, ◌++◌}
use Rattle.std.proofs.Common.{Option, Some, None, map, take, drop, length, get_or, refl, ap, sym}
use Rattle.std.proofs.Common.{◌∙◌, arith, append_assoc, length-append, subst}
use Rattle.std.specs.Prelude.{ℤ, option_map, pos, negsuc, ◌≤ℤ◌, slice_index, unsigned_abs}
use Rattle.std.proofs.lemmas.Int.{ints}
use Rattle.std.proofs.lemmas.List.{take_more}
use Rattle.std.proofs.Math.Seq.{take-append-add}
use Rattle.std.proofs.lemmas.List.{take-append-le}
use Rattle.otio_model.specs.declared.compositions.ItemOf.{ItemOf}
use Rattle.otio_model.specs.declared.compositions.Listed.{Listed}
use Rattle.otio_model.specs.declared.lists.Piece.{Piece}
use Rattle.otio_model.specs.declared.seeks.Seat.{Seat}
use Rattle.otio_model.specs.Seats.{IsSeat}
use Rattle.otio_model.specs.declared.piece_numbers.PieceStart.{PieceStart}
use Rattle.otio_model.specs.Seeks.{total, Holds, IsAround, IsRead, lens}
use Rattle.otio_model.specs.Pieces.{all_items, AllPieces, AreNumbered, ArePieces, front, IsPiece}
use Rattle.otio_model.specs.Pieces.{start_past, start_past_all}
use Rattle.otio_model.specs.declared.piece_summary.Kept.{Kept}
use Rattle.otio_model.specs.Trees.{items_of}
use Rattle.otio_model.specs.Sums.{capped}
use Rattle.otio_model.specs.Lengths.{added, lengths, length_of, or_zero, start_of}
use Rattle.otio_model.proofs.Views.{listed-items}
use Rattle.otio_model.proofs.Adding.{lengths-listed}
use Rattle.otio_model.proofs.Windows.{few}
use Rattle.otio_model.proofs.Cuts.{all_items-last}
use Rattle.otio_model.proofs.KeptLemmas.{piece_at, taken_all}
use Rattle.otio_model.proofs.PieceNumbers.{items_at, ticks_at}

pub lens-append : (xs ys : List (ItemOf Listed)) → lens (xs ++ ys) ≡ lens xs ++ lens ys
lens-append [] ys = refl
lens-append (x ∷ xs) ys = ap (λ l. or_zero (length_of x) ∷ l) (lens-append xs ys)

pub length-lens : (xs : List (ItemOf Listed)) → length (lens xs) ≡ length xs
length-lens [] = refl
length-lens (x ∷ xs) = ap suc (length-lens xs)

first_added : (o : Option ℕ) (ns : List (Option ℕ)) (n : ℕ) → added ns ≡ n
    → added (o ∷ ns) ≡ or_zero o + n
first_added None ns n e = omega (arith, e)
first_added (Some k) ns n e = omega (arith, e)

-- lengths added up, as options and as numbers
pub added-total : (xs : List (ItemOf Listed)) → added (map length_of xs) ≡ total (lens xs)
added-total [] = refl
added-total (x ∷ xs) =
    first_added (length_of x) (map length_of xs) (total (lens xs)) (added-total xs)

added-taken : (xs : List (ItemOf Listed)) (i : ℕ)
    → added (take i (map length_of xs)) ≡ total (take i (lens xs))
added-taken [] zero = refl
added-taken [] (suc i) = refl
added-taken (x ∷ xs) zero = refl
added-taken (x ∷ xs) (suc i) =
    first_added (length_of x) (take i (map length_of xs)) (total (take i (lens xs)))
    (added-taken xs i)

lengths_listed : (l : Listed) → lengths l ≡ map length_of (items_of l)
lengths_listed l = ap lengths (sym (listed-items l)) ∙ lengths-listed (items_of l)

-- where a child starts, and how long all are
pub start-total : (l : Listed) (i : ℕ) → start_of l i ≡ total (take i (lens (items_of l)))
start-total l i = ap (λ ns. added (take i ns)) (lengths_listed l) ∙ added-taken (items_of l) i

pub all-total : (l : Listed) → added (lengths l) ≡ total (lens (items_of l))
all-total l = ap added (lengths_listed l) ∙ added-total (items_of l)

pub total-append : (xs ys : List ℕ) → total (xs ++ ys) ≡ total xs + total ys
total-append [] ys = omega arith
total-append (x ∷ xs) ys = omega (arith, total-append xs ys)

pub total-take_more : (xs : List ℕ) (i : ℕ) → i < length xs
    → total (take (i + 1) xs) ≡ total (take i xs) + get_or xs i 0
total-take_more xs i h =
    rw (take_more xs i 0 h) (omega (arith, total-append (take i xs) (get_or xs i 0 ∷ [])))

pub total-take_le : (xs : List ℕ) (i : ℕ) → total (take i xs) ≤ total xs
total-take_le [] zero = omega arith
total-take_le [] (suc i) = omega arith
total-take_le (x ∷ xs) zero = omega arith
total-take_le (x ∷ xs) (suc i) = omega (arith, total-take_le xs i)

pub get_le : (xs : List ℕ) (i : ℕ) → get_or xs i 0 ≤ total xs
get_le [] i = omega arith
get_le (x ∷ xs) zero = omega arith
get_le (x ∷ xs) (suc i) = omega (arith, get_le xs i)

-- where an item starts fits where all fit
pub start_fits : (ns : List ℕ) (i first start : ℕ) → start ≡ total (take i ns)
    → first + total ns < 2 ^ 127 → first + start < 2 ^ 127
start_fits ns i first start e h = omega (arith, e, h, total-take_le ns i)

get-lens : (xs : List (ItemOf Listed)) (i : ℕ) (d : ItemOf Listed) → i < length xs
    → get_or (lens xs) i 0 ≡ or_zero (length_of (get_or xs i d))
get-lens [] i d h = absurd (omega arith)
get-lens (x ∷ xs) zero d h = refl
get-lens (x ∷ xs) (suc i) d h = get-lens xs i d (omega arith)

pub length_read : (xs : List (ItemOf Listed)) (i : ℕ) (x : ItemOf Listed) → i < length xs
    → x ≡ get_or xs i x → slice_index (lens xs) i ≡ or_zero (length_of x)
length_read xs i x h e = get-lens xs i x h ∙ ap (λ y. or_zero (length_of y)) (sym e)

pub ruleset sums = (total-take_more, total-take_le, get_le, length-lens)

pub split-at : (ps : List Piece) (i : ℕ) (d : Piece) → i < length ps
    → all_items ps ≡ all_items (take i ps)
    ++ ((get_or ps i d).items.items ++ all_items (drop (i + 1) ps))
split-at [] i d h = absurd (omega arith)
split-at (p ∷ ps) zero d h = refl
split-at (p ∷ ps) (suc i) d h =
    let e : suc i + 1 ≡ suc (i + 1) = omega arith in
    rw e (ap (λ l. p.items.items ++ l) (split-at ps i d (omega arith))
    ∙ sym (append_assoc p.items.items (all_items (take i ps)) ((get_or ps i d).items.items
    ++ all_items (drop (i + 1) ps))))

-- what a piece keeps of its lengths
pub kept_ticks : (p : Piece) → IsPiece p
    → p.kept.lengths.ticks ≡ capped (total (lens p.items.items))
kept_ticks p k = ap (λ (x : Kept). x.lengths.ticks) k.keeps ∙ ap capped (added-total p.items.items)

-- how long the items before a piece are together, as pieces keep it
past_ticks : (ps : List Piece) (s : PieceStart) → AllPieces ps → s.ticks ≡ capped s.ticks
    → (start_past_all s ps).ticks ≡ capped (s.ticks + total (lens (all_items ps)))
past_ticks [] s a h = omega (arith, h)
past_ticks (p ∷ ps) s a h =
    omega (
      arith,
      h,
      kept_ticks p a.0,
      past_ticks ps (start_past s p) a.1 (omega arith),
      ap total (lens-append p.items.items (all_items ps)),
      total-append (lens p.items.items) (lens (all_items ps)),
    )

taken_pieces : (ps : List Piece) (i : ℕ) → AllPieces ps → AllPieces (take i ps)
taken_pieces [] zero a = tt
taken_pieces [] (suc i) a = tt
taken_pieces (p ∷ ps) zero a = tt
taken_pieces (p ∷ ps) (suc i) a = (a.0, taken_pieces ps i a.1)

-- pieces from the front are no longer than all together
pub taken_total : (ps : List Piece) (i : ℕ)
    → total (lens (all_items (take i ps))) ≤ total (lens (all_items ps))
taken_total [] zero = omega arith
taken_total [] (suc i) = omega arith
taken_total (p ∷ ps) zero = omega arith
taken_total (p ∷ ps) (suc i) =
    omega (
      arith,
      taken_total ps i,
      ap total (lens-append p.items.items (all_items ps)),
      total-append (lens p.items.items) (lens (all_items ps)),
      ap total (lens-append p.items.items (all_items (take i ps))),
      total-append (lens p.items.items) (lens (all_items (take i ps))),
    )

placed : (ps : List Piece) (i : ℕ) (p : Piece) → i < length ps → p ≡ get_or ps i p
    → ArePieces ps → AreNumbered front ps → total (lens (all_items ps)) < 2 ^ 127
    → p.start.ticks ≡ total (lens (all_items (take i ps)))
placed ps i p h e a n f =
    omega (
      arith,
      ticks_at ps i p h e n,
      past_ticks (take i ps) front (taken_pieces ps i a.all) refl,
      taken_total ps i,
      f,
    )

-- the bounds of the last piece that starts at or before an instant, at first
pub around_all : (ps : List Piece) (at : ℕ) → 1 ≤ length ps → IsAround ps at 0 (length ps)
around_all [] at h = absurd (omega (arith, h))
around_all (p ∷ ps) at h =
    record {
      order = omega arith;
      within = omega arith;
      not_before = omega arith;
      not_behind = λ k. absurd (omega (arith, k));
    }

pub read : (ps : List Piece) (i : ℕ) (p : Piece) → i < length ps → p ≡ get_or ps i p
    → ArePieces ps → AreNumbered front ps → total (lens (all_items ps)) < 2 ^ 127 → IsRead ps i p
read ps i p h e a n t =
    let k = piece_at ps i p h e a.all in
    let a0 = all_items (take i ps) in
    let c0 = all_items (drop (i + 1) ps) in
    let items_same : p.items.items ≡ (get_or ps i p).items.items =
    ap (λ (x : Piece). x.items.items) e in
    let w : all_items ps ≡ a0 ++ (p.items.items ++ c0) = split-at ps i p h
    ∙ ap (λ x. a0 ++ (x ++ c0)) (sym items_same) in
    let s : lens (all_items ps) ≡ lens a0 ++ (lens p.items.items ++ lens c0) = ap lens w
    ∙ lens-append a0 (p.items.items ++ c0)
    ∙ ap (λ l. lens a0 ++ l) (lens-append p.items.items c0) in
    let m : all_items (take (i + 1) ps) ≡ a0 ++ p.items.items =
    ap all_items (take_more ps i p h ∙ ap (λ y. take i ps ++ y ∷ []) (sym e))
    ∙ all_items-last (take i ps) p in
    record {
      is = k;
      there = h;
      read = e;
      before = items_at ps i p h e n;
      start = placed ps i p h e a n t;
      next = ap (λ l. total (lens l)) m ∙ ap total (lens-append a0 p.items.items)
          ∙ total-append (lens a0) (lens p.items.items);
      within = omega (
        arith,
        ap total s,
        total-append (lens a0) (lens p.items.items ++ lens c0),
        total-append (lens p.items.items) (lens c0),
      );
      fits = omega (
        arith,
        ap length w,
        length-append a0 (p.items.items ++ c0),
        length-append p.items.items c0,
      );
      split = s;
      few = few ps a;
    }

get_past : (a b : List ℕ) (i : ℕ) → get_or (a ++ b) (length a + i) 0 ≡ get_or b i 0
get_past [] b i = let e : 0 + i ≡ i = omega arith in ap (λ k. get_or b k 0) e
get_past (x ∷ a) b i = let e : suc (length a) + i ≡ suc (length a + i) = omega arith in
    rw e (get_past a b i)

get_front : (a b : List ℕ) (i : ℕ) → i < length a → get_or (a ++ b) i 0 ≡ get_or a i 0
get_front [] b i h = absurd (omega arith)
get_front (x ∷ a) b zero h = refl
get_front (x ∷ a) b (suc i) h = get_front a b i (omega arith)

-- what holds in a part holds in the whole
holds_in : (a b c : List ℕ) (at index start : ℕ) → total a ≤ at → Holds b (at - total a) index start
    → Holds (a ++ (b ++ c)) at (length a + index) (total a + start)
holds_in a b c at index start low h = record {
  within = omega (arith, h.within, length-append a (b ++ c), length-append b c);
  starts = omega (
    arith,
    h.starts,
    ap total (take-append-add a (b ++ c) index),
    total-append a (take index (b ++ c)),
    ap total (take-append-le index b c (omega (arith, h.within))),
  );
  not_before = omega (arith, h.not_before);
  not_behind = omega (
    arith,
    h.not_behind,
    h.not_before,
    get_past a (b ++ c) index,
    get_front b c index h.within,
  );
}

-- what is found in a piece is found in all
pub holds_at : {ps : List Piece} {i : ℕ} {p : Piece} {at index inner : ℕ} → IsRead ps i p
    → p.start.ticks ≤ at → Holds (lens p.items.items) (at - p.start.ticks) index inner
    → Holds (lens (all_items ps)) at (p.start.items + index) (p.start.ticks + inner)
holds_at {ps = ps} {i = i} {p = p} {at = at} {index = index} {inner = inner} f low h =
    let a = lens (all_items (take i ps)) in
    let c = lens (all_items (drop (i + 1) ps)) in
    let l = lens p.items.items in
    let inside : Holds l (at - total a) index inner =
    subst (λ s. Holds l (at - s) index inner) f.start h in
    let whole : Holds (a ++ (l ++ c)) at (length a + index) (total a + inner) =
    holds_in a l c at index inner (omega (arith, f.start, low)) inside in
    let there : Holds (lens (all_items ps)) at (length a + index) (total a + inner) =
    subst (λ l. Holds l at (length a + index) (total a + inner)) (sym f.split) whole in
    rw (f.before, f.start, ← length-lens (all_items (take i ps))) there

-- where the last piece that starts at or before an instant doesn't have it, no piece has it
pub none_at : {ps : List Piece} {i : ℕ} {p : Piece} {at : ℕ} → IsRead ps i p
    → IsAround ps at i (i + 1) → total (lens p.items.items) ≤ at - p.start.ticks
    → total (lens (all_items ps)) ≤ at
none_at {ps = ps} {i = i} {at = at} f a h =
    let next : total (lens (all_items (take (i + 1) ps))) ≤ at =
    omega (arith, f.next, f.start, a.not_before, h) in
    let last : length ps ≤ i + 1 = grind (arith, a.not_behind, next) in
    subst (λ qs. total (lens (all_items qs)) ≤ at) (taken_all ps (i + 1) last) next

-- what is found in natural numbers holds in whole ones
pub seated : (l : Listed) (ticks : ℤ) (index start : ℕ) (s : Seat) → pos 0 ≤ℤ ticks
    → Holds (lens (items_of l)) (unsigned_abs ticks) index start → s.index ≡ index
    → s.start ≡ pos start → IsSeat l ticks s
seated l (negsuc n) index start s low h i k = absurd (omega (arith, ints, low))
seated l (pos n) index start s low h i k =
    let xs = lens (items_of l) in
    let starts : start_of l s.index ≡ start = ap (start_of l) i ∙ start-total l index
    ∙ sym h.starts in
    let next : start_of l (s.index + 1) ≡ start + get_or xs index 0 = ap (λ j. start_of l (j + 1)) i
    ∙ start-total l (index + 1) ∙ total-take_more xs index h.within
    ∙ ap (λ m. m + get_or xs index 0) (sym h.starts) in
    record {
      within = omega (arith, h.within, i, length-lens (items_of l));
      starts = k ∙ ap pos (sym starts);
      not_before = omega (arith, ints, k, h.not_before);
      not_behind = omega (arith, ints, next, h.not_behind);
    }

-- what none of them holds is outside
pub outside : (l : Listed) (ticks : ℤ) (at : ℕ) → at ≡ unsigned_abs ticks
    → total (lens (items_of l)) ≤ at → pos 0 ≤ℤ ticks → pos (added (lengths l)) ≤ℤ ticks
outside l (negsuc n) at e h low = absurd (omega (arith, ints, low))
outside l (pos n) at e h low = omega (arith, ints, e, h, all-total l)

-- a length that was read is the item's, where all fit together
pub length_whole : (xs : List (ItemOf Listed)) (i : ℕ) (x : ItemOf Listed) → i < length xs
    → x ≡ get_or xs i x → total (lens xs) < 2 ^ 127
    → or_zero (option_map capped (length_of x)) ≡ slice_index (lens xs) i
length_whole xs i x h e f = at (length_of x) (length_read xs i x h e)
  where
    at : (o : Option ℕ) → slice_index (lens xs) i ≡ or_zero o
        → or_zero (option_map capped o) ≡ slice_index (lens xs) i
    at None k = sym k
    at (Some n) k = omega (arith, k, f, get_le (lens xs) i)
