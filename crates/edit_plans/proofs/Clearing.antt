-- Children that no zone touches, since they end too early or begin too late.
use Rattle.std.proofs.Common.{◌≡◌, refl, sym, ap, ap₂, ◌∙◌, ℕ, zero, suc, ◌<◌, ◌≤◌}
use Rattle.std.proofs.Common.{ℤ, pos, ◌+ℤ◌, ◌-ℤ◌, ◌≤ℤ◌, ◌<ℤ◌, Bool, true, false}
use Rattle.std.proofs.Common.{List, [], ◌∷◌, ◌++◌, Option, Some, None, take, drop, length, arith}
use Rattle.std.specs.Prelude.{int_lt, int_le, negsuc, unsigned_abs, ◌&&◌, ◌||◌}
use Rattle.std.proofs.lemmas.Int.{ints}
use Rattle.limits.proofs.IntegerSums.{minus-zero as from_zero, minus-minus as less_more}
use Rattle.tick_time.specs.declared.times.Time.{Time}
use Rattle.otio_model.specs.declared.compositions.ItemOf.{ItemOf}
use Rattle.otio_model.specs.declared.compositions.ItemOf.TheVariants.{Clip, Gap, Transition}
use Rattle.otio_model.specs.declared.compositions.ItemOf.TheVariants.{Stack, Track}
use Rattle.otio_model.specs.declared.compositions.Listed.{Listed}
use Rattle.otio_model.specs.Kept.{offset_reach, reach_of, reach_in}
use Rattle.otio_model.specs.Lengths.{added as added_up, lengths}
use Rattle.otio_model.specs.Overlaps.{offset_of}
use Rattle.otio_model.specs.Seats.{IsOutside, IsSeat}
use Rattle.otio_model.specs.Trees.{items_of}
use Rattle.otio_model.specs.declared.seeks.Seat.{Seat}
use Rattle.otio_model.proofs.KeptLemmas.{taken_all}
use Rattle.coord.specs.Sights.{overlap_of}
use Rattle.edits.specs.Children.{ticks}
use Rattle.edits.specs.Splices.{is_stripped}
use Rattle.edits.specs.Edges.{added}
use Rattle.edits.specs.Narrow.{is_met, any_met, ahead}
use Rattle.edits_law.proofs.Parted.{added_low}
use Rattle.pieces.proofs.Tests.{lt_no, le_no}
use Rattle.edit_plans.specs.Parts.{IsClear}
use Rattle.edit_plans.proofs.Holding.{all_ticks, start_ticks}

-- ---- how far overlaps reach

size_short : (z : ℤ) → (pos 0 -ℤ pos 705600000000000000000000) ≤ℤ z
    → z ≤ℤ pos 705600000000000000000000 → unsigned_abs z ≤ 705600000000000000000000
size_short (pos n) h k = omega (arith, ints, k)
size_short (negsuc n) h k = omega (arith, ints, h)

offset_short : (o : Option Time) → offset_reach o ≤ 705600000000000000000000
offset_short None = omega arith
offset_short (Some t) = size_short t.ticks t.low t.high

one_short : (x : ItemOf Listed) → reach_of x ≤ 705600000000000000000000
one_short (Clip c) = omega arith
one_short (Gap g) = omega arith
one_short (Transition t) =
    let a = offset_short t.in_offset in
    let b = offset_short t.out_offset in
    omega (arith, a, b)
one_short (Stack s) = omega arith
one_short (Track t) = omega arith

all_short : (l : List (ItemOf Listed)) → reach_in l ≤ 705600000000000000000000
all_short [] = omega arith
all_short (x ∷ l) = let a = one_short x in let b = all_short l in omega (arith, a, b)

pub reach_short : (l : List (ItemOf Listed)) (n : ℕ) → n ≡ reach_in l
    → n ≤ 705600000000000000000000
reach_short l n e = let h = all_short l in omega (arith, h, e)

pub reach_drop : (l : List (ItemOf Listed)) (i : ℕ) → reach_in (drop i l) ≤ reach_in l
reach_drop l zero = omega arith
reach_drop [] (suc i) = omega arith
reach_drop (x ∷ l) (suc i) = let h = reach_drop l i in omega (arith, h)

below_size : (z : ℤ) → z ≤ℤ pos (unsigned_abs z)
below_size (pos n) = omega (arith, ints)
below_size (negsuc n) = omega (arith, ints)

within_reach : (o : Option Time) → offset_of o ≤ℤ pos (offset_reach o)
within_reach None = omega (arith, ints)
within_reach (Some t) = below_size t.ticks

-- ---- what isn't met

second_no : (p q r s : Bool) → q ≡ false → r ≡ false → ((p && q) || (r && s)) ≡ false
second_no true q r s e f = rw (e, f) refl
second_no false q r s e f = rw f refl

first_no : (p q r s : Bool) → p ≡ false → s ≡ false → ((p && q) || (r && s)) ≡ false
first_no p q true s e f = rw (e, f) refl
first_no p q false s e f = rw e refl

-- an overlap that ends before the zone, or begins after it, isn't stripped
early_kept : (x : ItemOf Listed) (a b : ℤ) (far : ℕ) → reach_of x ≤ far → pos far <ℤ a
    → is_stripped a b (overlap_of x) ≡ false
early_kept (Clip c) a b far h k = refl
early_kept (Gap g) a b far h k = refl
early_kept (Transition t) a b far h k =
    let w = within_reach t.out_offset in
    second_no (int_lt (pos 0 -ℤ offset_of t.in_offset) b) (int_lt a (offset_of t.out_offset))
    (int_le a (pos 0)) (int_le (pos 0) b)
    (lt_no a (offset_of t.out_offset) (omega (arith, ints, h, k, w)))
    (le_no a (pos 0) (omega (arith, ints, k)))
early_kept (Stack s) a b far h k = refl
early_kept (Track t) a b far h k = refl

late_kept : (x : ItemOf Listed) (a b : ℤ) (far : ℕ) → reach_of x ≤ far → (b +ℤ pos far) <ℤ pos 0
    → is_stripped a b (overlap_of x) ≡ false
late_kept (Clip c) a b far h k = refl
late_kept (Gap g) a b far h k = refl
late_kept (Transition t) a b far h k =
    let w = within_reach t.in_offset in
    first_no (int_lt (pos 0 -ℤ offset_of t.in_offset) b) (int_lt a (offset_of t.out_offset))
    (int_le a (pos 0)) (int_le (pos 0) b)
    (lt_no (pos 0 -ℤ offset_of t.in_offset) b (omega (arith, ints, h, k, w)))
    (le_no (pos 0) b (omega (arith, ints, k)))
late_kept (Stack s) a b far h k = refl
late_kept (Track t) a b far h k = refl

neither : (s p q : Bool) → s ≡ false → (p ≡ false) → (s || (p && q)) ≡ false
neither s p q e f = rw (e, f) refl

neither_end : (s p q : Bool) → s ≡ false → (q ≡ false) → (s || (p && q)) ≡ false
neither_end s true q e f = rw (e, f) refl
neither_end s false q e f = rw e refl

early_unmet : (x : ItemOf Listed) (a b : ℤ) (far : ℕ) → reach_of x ≤ far
    → (ticks x +ℤ pos far) <ℤ a → is_met x a b ≡ false
early_unmet x a b far h k =
    neither_end (is_stripped a b (overlap_of x)) (int_le (pos 0) b) (int_le a (ticks x))
    (early_kept x a b far h (omega (arith, ints, k)))
    (le_no a (ticks x) (omega (arith, ints, k)))

late_unmet : (x : ItemOf Listed) (a b : ℤ) (far : ℕ) → reach_of x ≤ far → (b +ℤ pos far) <ℤ pos 0
    → is_met x a b ≡ false
late_unmet x a b far h k =
    neither (is_stripped a b (overlap_of x)) (int_le (pos 0) b) (int_le a (ticks x))
    (late_kept x a b far h k) (le_no (pos 0) b (omega (arith, ints, k)))

either_no : (p q : Bool) → p ≡ false → q ≡ false → (p || q) ≡ false
either_no p q e f = rw (e, f) refl

-- none of a list that begins too late is met
pub late_none : (l : List (ItemOf Listed)) (a b : ℤ) (far : ℕ) → reach_in l ≤ far → a ≤ℤ b
    → (b +ℤ pos far) <ℤ pos 0 → any_met l a b ≡ false
late_none [] a b far h z k = lt_no (pos 0) a (omega (arith, ints, z, k))
late_none (x ∷ l) a b far h z k =
    either_no (is_met x a b) (any_met l (a -ℤ ticks x) (b -ℤ ticks x))
    (late_unmet x a b far (omega (arith, h)) k)
    (late_none l (a -ℤ ticks x) (b -ℤ ticks x) far (omega (arith, h)) (omega (arith, ints, z))
    (omega (arith, ints, k)))

-- those that end too early stand ahead
pub clear_ahead : (l : List (ItemOf Listed)) (i : ℕ) (a b : ℤ) (far : ℕ) → reach_in l ≤ far
    → (0 < i → (added (take i l) +ℤ pos far) <ℤ a) → ahead l a b
    ≡ take i l ++ ahead (drop i l) (a -ℤ added (take i l)) (b -ℤ added (take i l))
clear_ahead l zero a b far h k = ap₂ (ahead l) (from_zero a) (from_zero b)
clear_ahead [] (suc i) a b far h k = refl
clear_ahead (x ∷ l) (suc i) a b far h k =
    let here : ((ticks x +ℤ added (take i l)) +ℤ pos far) <ℤ a = k (omega arith) in
    let low = added_low (take i l) in
    let no : is_met x a b ≡ false =
    early_unmet x a b far (omega (arith, h)) (omega (arith, ints, here, low)) in
    let rest = clear_ahead l i (a -ℤ ticks x) (b -ℤ ticks x) far (omega (arith, h))
    (λ _. omega (arith, ints, here)) in
    rw no (ap (λ q. x ∷ q) (rest ∙ ap₂ (λ c d. take i l ++ ahead (drop i l) c d)
    (less_more a (ticks x) (added (take i l))) (less_more b (ticks x) (added (take i l)))))

-- ---- where they end

pub is_beyond : (a b : ℤ) → int_le a b ≡ false → b <ℤ a
is_beyond a b e = grind (arith, ints)

-- the children before the one that holds an instant so far before the zone, or all of them
pub clear_seat : (l : Listed) (w from at : ℤ) (s : Seat) → IsSeat l w s
    → w ≡ (from -ℤ pos (reach_in (items_of l))) -ℤ pos 1 → at ≡ s.start
    → IsClear (items_of l) from s.index at
clear_seat l w from at s h e f =
    let there = h.within in
    let after = h.not_before in
    record {
      within = omega (arith, there);
      long = f ∙ h.starts ∙ start_ticks l s.index;
      early = λ _. omega (arith, ints, after, e, f);
    }

pub clear_all : (l : Listed) (w from at : ℤ) (n : ℕ) → IsOutside l w
    → w ≡ (from -ℤ pos (reach_in (items_of l))) -ℤ pos 1 → pos 0 ≤ℤ w
    → n ≡ length (items_of l) → at ≡ pos (added_up (lengths l)) → IsClear (items_of l) from n at
clear_all l w from at n h e low k f =
    let past = h low in
    record {
      within = omega (arith, k);
      long = f ∙ all_ticks l
          ∙ ap added (sym (taken_all (items_of l) n (omega (arith, k))));
      early = λ _. omega (arith, ints, past, e, f);
    }
