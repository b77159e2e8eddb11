-- Items that a zone doesn't reach, in parts and in the whole.
use Rattle.std.proofs.Common.{◌≡◌, ℕ, zero, suc, ◌+◌, ◌-◌, ◌≤◌, ◌<◌, List, [], ◌∷◌, ◌++◌}
use Rattle.std.proofs.Common.{ℤ, pos, ◌-ℤ◌, ◌<ℤ◌, Bool, false, ◌&&◌, take, drop, length}
use Rattle.std.proofs.Common.{refl, ap, ap₂, sym, ◌∙◌, arith, subst, length-append, take-add}
use Rattle.std.specs.Prelude.{◌||◌, int_le, int_lt}
use Rattle.std.proofs.lemmas.Bool.{and_left, and_right}
use Rattle.std.proofs.lemmas.Int.{ints}
use Rattle.limits.proofs.IntegerTests.{above-int_le, above-int_lt}
use Rattle.otio_model.specs.declared.compositions.ItemOf.{ItemOf}
use Rattle.otio_model.specs.declared.compositions.ItemOf.TheVariants.{Clip, Gap, Transition, Stack}
use Rattle.otio_model.specs.declared.compositions.ItemOf.TheVariants.{Track}
use Rattle.otio_model.specs.declared.compositions.Listed.{Listed}
use Rattle.otio_model.specs.declared.lists.Piece.{Piece}
use Rattle.otio_model.specs.declared.piece_summary.Kept.{Kept}
use Rattle.otio_model.specs.declared.quiet.Quiet.{Quiet}
use Rattle.otio_model.specs.Kept.{after_in, after_of, before_in, before_of}
use Rattle.otio_model.specs.Lengths.{length_of, or_zero, start_of}
use Rattle.otio_model.specs.Overlaps.{offset_of}
use Rattle.otio_model.specs.Passes.{IsPassed, IsPassing}
use Rattle.otio_model.specs.Pieces.{IsPiece, all_items, part}
use Rattle.otio_model.specs.Seeks.{IsRead, lens, total}
use Rattle.otio_model.specs.Trees.{items_of}
use Rattle.otio_model.specs.Zones.{IsQuiet, NoneReached, crosses, is_reached}
use Rattle.otio_model.proofs.Cuts.{all_items-append}
use Rattle.otio_model.proofs.OverLemmas.{lens-take, offset_near}
use Rattle.otio_model.proofs.SeekLemmas.{added-total, lens-append, start-total}
use Rattle.otio_model.proofs.SeekLemmas.{total-append, total-take_le}
use Rattle.otio_model.proofs.Windows.{one_more_poured, three}

or_none : (p q : Bool) → p ≡ false → q ≡ false → (p || q) ≡ false
or_none p q e f = rw (e, f) refl

-- a zone that begins after an item and its overlap, or ends before them, doesn't reach it
late_crosses : (x : ItemOf Listed) (a b : ℤ) → pos (after_of x) <ℤ a → crosses x a b ≡ false
late_crosses (Clip c) a b h = refl
late_crosses (Gap g) a b h = refl
late_crosses (Transition t) a b h =
    let n = offset_near t.out_offset in
    and_right (int_lt (pos 0 -ℤ offset_of t.in_offset) b) (int_lt a (offset_of t.out_offset))
    (above-int_lt a (offset_of t.out_offset) (omega (arith, ints, h, n)))
late_crosses (Stack s) a b h = refl
late_crosses (Track t) a b h = refl

early_crosses : (x : ItemOf Listed) (a b : ℤ) → b <ℤ (pos 0 -ℤ pos (before_of x))
    → crosses x a b ≡ false
early_crosses (Clip c) a b h = refl
early_crosses (Gap g) a b h = refl
early_crosses (Transition t) a b h =
    let n = offset_near t.in_offset in
    and_left (int_lt (pos 0 -ℤ offset_of t.in_offset) b) (int_lt a (offset_of t.out_offset))
    (above-int_lt (pos 0 -ℤ offset_of t.in_offset) b (omega (arith, ints, h, n)))
early_crosses (Stack s) a b h = refl
early_crosses (Track t) a b h = refl

late_unreached : (x : ItemOf Listed) (a b : ℤ) → pos (after_of x) <ℤ a
    → pos (or_zero (length_of x)) <ℤ a → is_reached x a b ≡ false
late_unreached x a b h k =
    or_none (crosses x a b) (int_le (pos 0) b && int_le a (pos (or_zero (length_of x))))
    (late_crosses x a b h)
    (and_right (int_le (pos 0) b) (int_le a (pos (or_zero (length_of x))))
    (above-int_le a (pos (or_zero (length_of x))) k))

early_unreached : (x : ItemOf Listed) (a b : ℤ) → b <ℤ (pos 0 -ℤ pos (before_of x))
    → is_reached x a b ≡ false
early_unreached x a b h =
    or_none (crosses x a b) (int_le (pos 0) b && int_le a (pos (or_zero (length_of x))))
    (early_crosses x a b h)
    (and_left (int_le (pos 0) b) (int_le a (pos (or_zero (length_of x))))
    (above-int_le (pos 0) b (omega (arith, ints, h))))

none_late : (xs : List (ItemOf Listed)) (a b : ℤ) → pos (total (lens xs) + after_in xs) <ℤ a
    → NoneReached xs a b
none_late [] a b h = tt
none_late (x ∷ xs) a b h = (
  late_unreached x a b (omega (arith, ints, h, added-total (x ∷ xs))) (omega (arith, ints, h)),
  none_late xs (a -ℤ pos (or_zero (length_of x))) (b -ℤ pos (or_zero (length_of x)))
      (omega (arith, ints, h)),
)

none_early : (xs : List (ItemOf Listed)) (a b : ℤ) → b <ℤ (pos 0 -ℤ pos (before_in xs))
    → NoneReached xs a b
none_early [] a b h = tt
none_early (x ∷ xs) a b h = (
  early_unreached x a b (omega (arith, ints, h)),
  none_early xs (a -ℤ pos (or_zero (length_of x))) (b -ℤ pos (or_zero (length_of x)))
      (omega (arith, ints, h)),
)

-- a piece that ends before the zone, or begins after it
pub piece_late : (p : Piece) (first from to : ℕ) → IsPiece p
    → first + total (lens p.items.items) + p.kept.after < from
    → NoneReached p.items.items (pos from -ℤ pos first) (pos to -ℤ pos first)
piece_late p first from to k h =
    none_late p.items.items _ _ (omega (arith, ints, h, ap (λ (x : Kept). x.after) k.keeps))

pub piece_early : (p : Piece) (first from to : ℕ) → IsPiece p → to + p.kept.before < first
    → NoneReached p.items.items (pos from -ℤ pos first) (pos to -ℤ pos first)
piece_early p first from to k h =
    none_early p.items.items _ _ (omega (arith, ints, h, ap (λ (x : Kept). x.before) k.keeps))

reached-append : (xs ys : List (ItemOf Listed)) (a b : ℤ) → NoneReached xs a b
    → NoneReached ys (a -ℤ pos (total (lens xs))) (b -ℤ pos (total (lens xs)))
    → NoneReached (xs ++ ys) a b
reached-append [] ys a b h k =
    let e : a -ℤ pos 0 ≡ a = omega (arith, ints) in
    let f : b -ℤ pos 0 ≡ b = omega (arith, ints) in
    subst (λ c. NoneReached ys c b) e (subst (λ d. NoneReached ys (a -ℤ pos 0) d) f k)
reached-append (x ∷ xs) ys a b h k =
    let n = or_zero (length_of x) in
    let m = total (lens xs) in
    let e : a -ℤ pos (n + m) ≡ (a -ℤ pos n) -ℤ pos m = omega (arith, ints) in
    let f : b -ℤ pos (n + m) ≡ (b -ℤ pos n) -ℤ pos m = omega (arith, ints) in (
      h.0,
      reached-append xs ys (a -ℤ pos n) (b -ℤ pos n) h.1
          (subst (λ c. NoneReached ys c ((b -ℤ pos n) -ℤ pos m)) e
          (subst (λ d. NoneReached ys (a -ℤ pos (n + m)) d) f k)),
    )

-- how long the items before a piece are, from another piece on
part_ticks : (ps : List Piece) (first i : ℕ) → first ≤ i
    → total (lens (all_items (take i ps)))
    ≡ total (lens (all_items (take first ps))) + total (lens (all_items (part first i ps)))
part_ticks ps first i h =
    let n : i ≡ first + (i - first) = omega (arith, h) in
    ap (λ k. total (lens (all_items (take k ps)))) n
    ∙ ap (λ l. total (lens (all_items l))) (take-add first (i - first) ps)
    ∙ ap (λ l. total (lens l)) (all_items-append (take first ps) (part first i ps))
    ∙ ap total (lens-append (all_items (take first ps)) (all_items (part first i ps)))
    ∙ total-append (lens (all_items (take first ps))) (lens (all_items (part first i ps)))

part_count : (ps : List Piece) (first i : ℕ) → first ≤ i
    → length (all_items (take i ps))
    ≡ length (all_items (take first ps)) + length (all_items (part first i ps))
part_count ps first i h =
    let n : i ≡ first + (i - first) = omega (arith, h) in
    ap (λ k. length (all_items (take k ps))) n
    ∙ ap (λ l. length (all_items l)) (take-add first (i - first) ps)
    ∙ ap length (all_items-append (take first ps) (part first i ps))
    ∙ length-append (all_items (take first ps)) (all_items (part first i ps))

-- what is passed with one more piece is no more than all
pub passing_fits : {ps : List Piece} {first from to i count ticks : ℕ} {p : Piece}
    → IsRead ps i p → IsPassing ps first from to i count ticks
    → (count + length p.items.items ≤ length (all_items ps))
    × (ticks + total (lens p.items.items) ≤ total (lens (all_items ps)))
passing_fits {ps = ps} {first = first} {i = i} f h = (
  omega (arith, h.counted, part_count ps first i h.order, f.fits),
  omega (arith, h.long, part_ticks ps first i h.order, f.within),
)

pub passing_as : {ps : List Piece} {first from to i count ticks : ℕ} (m n : ℕ)
    → IsPassing ps first from to i count ticks → m ≡ count → n ≡ ticks
    → IsPassing ps first from to i m n
passing_as m n h e f = record {
  order = h.order;
  counted = e ∙ h.counted;
  long = f ∙ h.long;
  none = h.none;
}

-- nothing is passed at first
pub passing_none : (ps : List Piece) (first from to : ℕ) → IsPassing ps first from to first 0 0
passing_none ps first from to =
    let n : first - first ≡ zero = omega arith in
    let none : part first first ps ≡ [] = ap (λ k. take k (drop first ps)) n
    ∙ taken_none (drop first ps) in
    record {
      order = omega arith;
      counted = ap (λ l. length (all_items l)) (sym none);
      long = ap (λ l. total (lens (all_items l))) (sym none);
      none = subst (λ l. NoneReached (all_items l)
          (pos from -ℤ pos (total (lens (all_items (take first ps)))))
          (pos to -ℤ pos (total (lens (all_items (take first ps)))))) (sym none) tt;
    }
  where
    taken_none : (qs : List Piece) → take zero qs ≡ []
    taken_none [] = refl
    taken_none (q ∷ qs) = refl

-- one more piece is passed
pub passing_next : {ps : List Piece} {first from to i count ticks : ℕ} {p : Piece}
    → IsRead ps i p → IsPassing ps first from to i count ticks
    → NoneReached p.items.items (pos from -ℤ pos p.start.ticks) (pos to -ℤ pos p.start.ticks)
    → IsPassing ps first from to (i + 1) (count + length p.items.items)
    (ticks + total (lens p.items.items))
passing_next {ps = ps} {first = first} {from = from} {to = to} {i = i} {p = p} f h k =
    let more = one_more_poured ps ps first i (length ps) p h.order f.there (omega arith) refl f.read in
    let b = all_items (part first i ps) in
    let start = total (lens (all_items (take first ps))) in
    let at = part_ticks ps first i h.order in
    let e : pos from -ℤ pos p.start.ticks ≡ (pos from -ℤ pos start) -ℤ pos (total (lens b)) =
    omega (arith, ints, f.start, at) in
    let g : pos to -ℤ pos p.start.ticks ≡ (pos to -ℤ pos start) -ℤ pos (total (lens b)) =
    omega (arith, ints, f.start, at) in
    record {
      order = omega (arith, h.order);
      counted = omega (arith, h.counted, ap length more.items, length-append b p.items.items);
      long = omega (
        arith,
        h.long,
        ap (λ l. total (lens l)) more.items,
        ap total (lens-append b p.items.items),
        total-append (lens b) (lens p.items.items),
      );
      none = subst (λ l. NoneReached l (pos from -ℤ pos start) (pos to -ℤ pos start))
          (sym more.items)
          (reached-append b p.items.items (pos from -ℤ pos start) (pos to -ℤ pos start) h.none
          (subst (λ c. NoneReached p.items.items c
          ((pos to -ℤ pos start) -ℤ pos (total (lens b)))) e
          (subst (λ d. NoneReached p.items.items (pos from -ℤ pos p.start.ticks) d) g k)));
    }

take_all : {A : Type 0} (b c : List A) → take (length b) (b ++ c) ≡ b
take_all [] [] = refl
take_all [] (y ∷ c) = refl
take_all (x ∷ b) c = ap (λ l. x ∷ l) (take_all b c)

drop_front : {A : Type 0} (a b : List A) → drop (length a) (a ++ b) ≡ b
drop_front [] b = refl
drop_front (x ∷ a) b = drop_front a b

-- what was passed, of all items
pub passed_whole : {ps : List Piece} {first from to i count ticks : ℕ}
    → IsPassing ps first from to i count ticks
    → IsPassed (all_items ps) (length (all_items (take first ps))) from to count ticks
passed_whole {ps = ps} {first = first} {from = from} {to = to} {i = i} {count = count} h =
    let a = all_items (take first ps) in
    let b = all_items (part first i ps) in
    let c = all_items (drop i ps) in
    let w : all_items ps ≡ a ++ (b ++ c) = (three first i ps h.order).items in
    let rest : drop (length a) (all_items ps) ≡ b ++ c = ap (drop (length a)) w
    ∙ drop_front a (b ++ c) in
    let got : take count (drop (length a) (all_items ps)) ≡ b = ap₂ take h.counted rest
    ∙ take_all b c in
    let lead : take (length a) (lens (all_items ps)) ≡ lens a =
    sym (lens-take (all_items ps) (length a)) ∙ ap (λ l. lens (take (length a) l)) w
    ∙ ap lens (take_all a (b ++ c)) in
    record {
      within = omega (arith, h.counted, ap length rest, length-append b c);
      long = h.long ∙ ap (λ l. total (lens l)) (sym got);
      none = rw (got, lead) h.none;
    }

-- no children at all
pub quiet_none : (l : Listed) (index : ℕ) (from to : ℤ) (q : Quiet) → q.count ≡ 0
    → q.ticks ≡ pos 0 → IsQuiet l index from to q
quiet_none l index from to q e f =
    let none : take q.count (drop index (items_of l)) ≡ [] =
    ap (λ n. take n (drop index (items_of l))) e ∙ taken_none (drop index (items_of l)) in
    record {
      within = omega (arith, e);
      ticks = f ∙ ap (λ xs. pos (total (lens xs))) (sym none);
      none = subst (λ xs. NoneReached xs (from -ℤ pos (start_of l index))
          (to -ℤ pos (start_of l index))) (sym none) tt;
    }
  where
    taken_none : (xs : List (ItemOf Listed)) → take zero xs ≡ []
    taken_none [] = refl
    taken_none (x ∷ xs) = refl

-- what was passed in natural numbers, in whole ones
pub quiet_passed : {index from to count ticks : ℕ} (l : Listed) (xs : List (ItemOf Listed))
    (a b : ℤ) (q : Quiet) → items_of l ≡ xs → IsPassed xs index from to count ticks
    → pos from ≡ a → pos to ≡ b → q.count ≡ count → q.ticks ≡ pos ticks → IsQuiet l index a b q
quiet_passed {index = index} {from = from} {to = to} {count = count} {ticks = ticks} l xs a b q e h
    f g c t =
    let k : IsPassed (items_of l) index from to count ticks =
    subst (λ ys. IsPassed ys index from to count ticks) (sym e) h in
    let s = start-total l index in
    record {
      within = omega (arith, k.within, c);
      ticks = t ∙ ap (λ n. pos n) k.long
          ∙ ap (λ n. pos (total (lens (take n (drop index (items_of l)))))) (sym c);
      none = rw (c, s, ← f, ← g) k.none;
    }

total_dropped : (xs : List (ItemOf Listed)) (i : ℕ) → total (lens (drop i xs)) ≤ total (lens xs)
total_dropped xs zero = omega arith
total_dropped [] (suc i) = omega arith
total_dropped (x ∷ xs) (suc i) = omega (arith, total_dropped xs i)

-- what was passed is no longer than all items
pub passed_short : {xs : List (ItemOf Listed)} {index from to count ticks : ℕ}
    → IsPassed xs index from to count ticks → ticks ≤ total (lens xs)
passed_short {xs = xs} {index = index} {count = count} h =
    omega (
      arith,
      h.long,
      ap total (lens-take (drop index xs) count),
      total-take_le (lens (drop index xs)) count,
      total_dropped xs index,
    )
