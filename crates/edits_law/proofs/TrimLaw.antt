-- What lists show after a trim.
use Rattle.std.proofs.Common.{◌≡◌, refl, sym, subst, ap, ap₂, ◌∙◌, ℤ, pos, ◌+ℤ◌, ◌-ℤ◌, ◌≤ℤ◌, ◌<ℤ◌, ◌||◌, Bool, true, false, Option, Some, None, List, [], ◌∷◌, ◌++◌, arith}
use Rattle.std.specs.Prelude.{int_lt}
use Rattle.std.proofs.lemmas.Int.{ints, by_lt_z, clamps}
use Rattle.otio_model.specs.declared.compositions.ItemOf.{ItemOf}
use Rattle.otio_model.specs.declared.compositions.ItemOf.TheVariants.{Clip, Gap, Transition, Stack, Track}
use Rattle.otio_model.specs.declared.compositions.Listed.{Listed}
use Rattle.coord.specs.Looks.{Show, Look, list_shows, total, from_end, blank}
use Rattle.otio_model.specs.Overlaps.{within}
use Rattle.coord.specs.Sights.{View, sight, seen, looks, overlap_of}
use Rattle.otio_model.specs.Lengths.{trimmed_start}
use Rattle.otio_model.specs.Trees.{is_transition}
use Rattle.edits.specs.Splices.{AreGood, empty}
use Rattle.edits.specs.Children.{Child, Old, Ranged, ticks, seen_child, child_looks, new_gap}
use Rattle.edits.specs.Cuts.{olds}
use Rattle.edits.specs.Edges.{Held, start, end, Moves, left_before, left_behind, moves_zone, last_item, first_item, trimmed, trimmed_before, trimmed_behind, grown, gap_of, gap_ticks, is_gap, is_zero, last_changed, first_changed}
use Rattle.edits.specs.Laws.{trim_law}
use Rattle.edits.specs.Good.{IsHeld, IsMoved, IsTrimmedBefore, IsTrimmedBehind}
use Rattle.coord.proofs.LookSteps.{missed_before, missed_behind, is_within}
use Rattle.edits_law.proofs.Splice.{AreClear, cases}
use Rattle.edits_law.proofs.Seams.{items_clear}
use Rattle.edits_law.proofs.Pieces.{looks_append, append_looks, olds_look}
use Rattle.edits_law.proofs.Shaped.{longer, shifted, clear_earlier, clear_later, clear_first, good_first, total_join, later_clear}
use Rattle.edits_law.proofs.Rolls.{Heads, Tails}
use Rattle.edits_law.proofs.Ends.{head_item, head_gone, head_new, head_none, tail_item, tail_gone, tail_new, tail_none, tail_end, empty_item}
use Rattle.edits_law.proofs.Beside.{total_strip, Ending, bare, last, ending, last_put, Opening, nothing, first, opening, first_put}
use Rattle.edits_law.proofs.EdgeLaws.{zero_is, thing_item, before_good, behind_good, before_clear, behind_clear}
use Rattle.edits_law.proofs.RollLaws.{NewBefore, NewBehind, zone_ordered, Facts, facts}

-- a gap shows nothing
gap_blank : (v : View) (y : ItemOf Listed) → is_gap y ≡ true → (sight y).shows v ≡ blank
gap_blank v (Clip c) e = absurd (cc e)
gap_blank v (Gap g) e = refl
gap_blank v (Transition t) e = absurd (cc e)
gap_blank v (Stack k) e = absurd (cc e)
gap_blank v (Track t) e = absurd (cc e)

gap_thing : (y : ItemOf Listed) → is_gap y ≡ true → overlap_of y ≡ None
gap_thing (Clip c) e = absurd (cc e)
gap_thing (Gap g) e = refl
gap_thing (Transition t) e = absurd (cc e)
gap_thing (Stack k) e = absurd (cc e)
gap_thing (Track t) e = absurd (cc e)

look_is : (x : Look) (n : ℤ) (f : ℤ → Show) → x.length ≡ n → x.shows ≡ f → x.overlap ≡ None → Path Look x (record { length = n; shows = f; overlap = None })
look_is x n f e g h = λ i. record { length = e i; shows = g i; overlap = h i }

-- a gap whose length changes, as looks
grown_old : (v : View) (y : ItemOf Listed) (n : ℤ) → is_gap y ≡ true → n ≡ pos 0 → seen v (sight y) ≡ empty (ticks y +ℤ n)
grown_old v y n e z = look_is (seen v (sight y)) _ _ (omega (arith, ints)) (gap_blank v y e) (gap_thing y e)

gap_ranged : (v : View) (y : ItemOf Listed) (s n : ℤ) → is_gap y ≡ true → seen_child v (Ranged y s n) ≡ empty n
gap_ranged v (Clip c) s n e = absurd (cc e)
gap_ranged v (Gap g) s n e = refl
gap_ranged v (Transition t) s n e = absurd (cc e)
gap_ranged v (Stack k) s n e = absurd (cc e)
gap_ranged v (Track t) s n e = absurd (cc e)

-- a gap that is n longer: as it was, of another length, or gone
data Grown (v : View) (y : ItemOf Listed) (n : ℤ) : Type 0 where
  left : (c : Child) → grown n y ≡ c ∷ [] → seen_child v c ≡ empty (ticks y +ℤ n) → Grown v y n
  gone : grown n y ≡ [] → ticks y +ℤ n ≡ pos 0 → Grown v y n

grown_by : (v : View) (y : ItemOf Listed) (n : ℤ) → is_gap y ≡ true → pos 0 ≤ℤ (ticks y +ℤ n) → Grown v y n
grown_by v y n e k = cases (is_zero n)
    (λ s. left (Old y) (rw s refl) (grown_old v y n e (zero_is n s)))
    (λ s. by_lt_z (pos 0) (ticks y +ℤ n)
    (λ t. let f : int_lt (pos 0) (ticks y +ℤ n) ≡ true = grind (arith, ints) in left (Ranged y (trimmed_start y) (ticks y +ℤ n)) (rw (s, f) refl) (gap_ranged v y _ _ e))
    (λ t. let f : int_lt (pos 0) (ticks y +ℤ n) ≡ false = grind (arith, ints) in gone (rw (s, f) refl) (omega (arith, ints))))

-- a new gap, or none
data GapOf (v : View) (n : ℤ) : Type 0 where
  some : gap_of n ≡ new_gap n ∷ [] → pos 0 <ℤ n → GapOf v n
  none : gap_of n ≡ [] → n ≤ℤ pos 0 → GapOf v n

gap_by : (v : View) (n : ℤ) → GapOf v n
gap_by v n = by_lt_z (pos 0) n
    (λ t. let f : int_lt (pos 0) n ≡ true = grind (arith, ints) in some (rw f refl) t)
    (λ t. let f : int_lt (pos 0) n ≡ false = grind (arith, ints) in none (rw f refl) t)

-- ---- before the item

gap_ticks_is : (y : ItemOf Listed) → is_gap y ≡ true → gap_ticks y ≡ ticks y
gap_ticks_is y e = rw e refl

no_gap_ticks : (y : ItemOf Listed) → is_gap y ≡ false → gap_ticks y ≡ pos 0
no_gap_ticks y e = rw e refl

head_as : (l : List Look) (y : Look) (h : ℤ) → y.shows ≡ blank → y.overlap ≡ None → Heads l (y ∷ []) (longer y h ∷ []) h (from_end y) → Heads l (y ∷ []) (empty (y.length +ℤ h) ∷ []) h blank
head_as l y h e f k = subst (λ (g : ℤ → Show). Heads l (y ∷ []) ((record { length = y.length +ℤ h; shows = g; overlap = None }) ∷ []) h (λ u. g (u +ℤ y.length))) e k

olds_before : (v : View) (l : List (ItemOf Listed)) (h : Held) (m : Moves) → IsHeld l h → pos 0 ≤ℤ m.head → NewBefore v h m (olds (left_before h (moves_zone h m)) ++ gap_of m.head) blank
olds_before v l h m k i =
    let long = total_strip v h.before (moves_zone h m).from (moves_zone h m).to in
    let gb = before_good v l h (moves_zone h m) k in
    let cb = before_clear v l h (moves_zone h m) k (zone_ordered h m) in
    let seam = clear_earlier (looks v (left_before h (moves_zone h m))) _ _ (total (looks v (left_before h (moves_zone h m)))) (total (looks v (left_before h (moves_zone h m)))) gb cb (omega (arith, ints, clamps, long)) (omega (arith, ints, clamps, long)) in
    elim (gap_by v m.head) [
      | some e t ↦ record {
        list = looks v (left_before h (moves_zone h m));
        was = [];
        now = empty m.head ∷ [];
        old = sym (none_more (looks v (left_before h (moves_zone h m))));
        new = append_looks v (olds (left_before h (moves_zone h m))) _ ∙ ap₂ (λ a b. a ++ b) (olds_look v (left_before h (moves_zone h m))) (ap (child_looks v) e);
        heads = head_new _ m.head gb seam i;
        good = gb;
        clear = cb;
      }
      | none e t ↦ record {
        list = looks v (left_before h (moves_zone h m));
        was = [];
        now = [];
        old = sym (none_more (looks v (left_before h (moves_zone h m))));
        new = append_looks v (olds (left_before h (moves_zone h m))) _ ∙ ap₂ (λ a b. a ++ b) (olds_look v (left_before h (moves_zone h m))) (ap (child_looks v) e);
        heads = head_none _ m.head blank gb seam (omega (arith, ints));
        good = gb;
        clear = cb;
      }
    ]
  where
    none_more : (r : List Look) → r ++ [] ≡ r
    none_more [] = refl
    none_more (x ∷ r) = ap (λ q. x ∷ q) (none_more r)

gap_before : (v : View) (l : List (ItemOf Listed)) (h : Held) (m : Moves) (y : ItemOf Listed) → IsHeld l h → last_item h.before ≡ Some y → is_gap y ≡ true → pos 0 ≤ℤ (ticks y +ℤ m.head)
    → NewBefore v h m (last_changed (grown m.head) (left_before h (moves_zone h m))) blank
gap_before v l h m y k e q i = with_end (ending h.before (moves_zone h m).from (moves_zone h m).to (omega (arith, ints, clamps)) (omega (arith, ints, clamps)))
  where
    with_end : Ending (left_before h (moves_zone h m)) (last_item h.before) → NewBefore v h m (last_changed (grown m.head) (left_before h (moves_zone h m))) blank
    with_end (bare f g) = absurd (cc (sym e ∙ f))
    with_end (last n y2 f t u g) =
        let same : y2 ≡ y = cc (sym f ∙ e) in
        let iy = thing_item v y (gap_thing y q) in
        let split : looks v (left_before h (moves_zone h m)) ≡ looks v n ++ (seen v (sight y) ∷ []) = ap (looks v) g ∙ looks_append v n (y2 ∷ []) ∙ ap (λ z. looks v n ++ (seen v (sight z) ∷ [])) same in
        let long : total (looks v n) +ℤ (ticks y +ℤ pos 0) ≡ start h = sym (total_join (looks v n) (seen v (sight y) ∷ [])) ∙ ap total (sym split) ∙ total_strip v h.before _ _ in
        let gb = good_first (looks v n) _ (subst AreGood split (before_good v l h (moves_zone h m) k)) in
        let cb = clear_first (looks v n) _ _ _ (subst (AreClear (moves_zone h m).from (moves_zone h m).to) split (before_clear v l h (moves_zone h m) k (zone_ordered h m))) in
        let put : last_changed (grown m.head) (left_before h (moves_zone h m)) ≡ olds n ++ (grown m.head y ++ []) =
        ap (last_changed (grown m.head)) g ∙ last_put (grown m.head) n y2 u ∙ ap (λ z. olds n ++ (grown m.head z ++ [])) same in
        elim (grown_by v y m.head q i) [
          | left c a b ↦ record {
            list = looks v n;
            was = seen v (sight y) ∷ [];
            now = empty (ticks y +ℤ m.head) ∷ [];
            old = split;
            new = ap (child_looks v) put ∙ ap (λ r. child_looks v (olds n ++ (r ++ []))) a ∙ append_looks v (olds n) (c ∷ []) ∙ ap₂ (λ r s. r ++ (s ∷ [])) (olds_look v n) b;
            heads = head_as (looks v n) (seen v (sight y)) m.head (gap_blank v y q) (gap_thing y q) (head_item (looks v n) (seen v (sight y)) m.head gb iy i);
            good = gb;
            clear = cb;
          }
          | gone a b ↦ record {
            list = looks v n;
            was = seen v (sight y) ∷ [];
            now = [];
            old = split;
            new = ap (child_looks v) put ∙ ap (λ r. child_looks v (olds n ++ (r ++ []))) a ∙ append_looks v (olds n) [] ∙ ap (λ r. r ++ []) (olds_look v n);
            heads = head_gone (looks v n) (seen v (sight y)) m.head blank gb iy (clear_earlier (looks v n) _ _ _ _ gb cb (omega (arith, ints, clamps, long)) (omega (arith, ints, clamps, long))) b;
            good = gb;
            clear = cb;
          }
        ]

pub trim_new_before : (v : View) (l : List (ItemOf Listed)) (h : Held) (m : Moves) → IsHeld l h → IsTrimmedBefore (last_item h.before) m.head → NewBefore v h m (trimmed_before h m) blank
trim_new_before v l h m k i = of (last_item h.before) refl
  where
    of : (o : Option (ItemOf Listed)) → last_item h.before ≡ o → NewBefore v h m (trimmed_before h m) blank
    of None e = rw e (olds_before v l h m k (subst (λ o. IsTrimmedBefore o m.head) e i))
    of (Some y) e = let r = subst (λ o. IsTrimmedBefore o m.head) e i in cases (is_gap y)
        (λ s. let t = gap_ticks_is y s in rw (e, s) (gap_before v l h m y k e s (omega (arith, ints, r))))
        (λ s. let t = no_gap_ticks y s in rw (e, s) (olds_before v l h m k (omega (arith, ints, r))))

-- ---- after the item

-- what stands after, with nothing or a new gap before it
tail_clear : (v : View) (l : List (ItemOf Listed)) (h : Held) (m : Moves) → IsHeld l h → AreClear ((moves_zone h m).from -ℤ end h) ((moves_zone h m).to -ℤ end h) (looks v (left_behind h (moves_zone h m)))
tail_clear v l h m k = behind_clear v l h (moves_zone h m) k (zone_ordered h m)

olds_behind : (v : View) (l : List (ItemOf Listed)) (h : Held) (m : Moves) → IsHeld l h → IsMoved h.item m → m.tail ≤ℤ pos 0 → NewBehind v h m (gap_of (pos 0 -ℤ m.tail) ++ olds (left_behind h (moves_zone h m))) blank
olds_behind v l h m k j i =
    let left = j.left in
    let gb = behind_good v l h (moves_zone h m) k in
    let cb = tail_clear v l h m k in
    let later = later_clear (looks v (left_behind h (moves_zone h m))) _ _ gb cb (omega (arith, ints, clamps)) (omega (arith, ints, clamps)) in
    elim (gap_by v (pos 0 -ℤ m.tail)) [
      | some e t ↦ record {
        now = empty (pos 0 -ℤ m.tail) ∷ looks v (left_behind h (moves_zone h m));
        new = append_looks v (gap_of (pos 0 -ℤ m.tail)) _ ∙ ap₂ (λ a b. a ++ b) (ap (child_looks v) e) (olds_look v (left_behind h (moves_zone h m)));
        tails = tail_new _ m.tail gb later i;
        clear = (
          (items_clear (empty (pos 0 -ℤ m.tail) ∷ []) _ _ (empty_item (pos 0 -ℤ m.tail) (omega (arith, ints)), tt)).0,
          clear_later (looks v (left_behind h (moves_zone h m))) _ _ _ _ gb cb (omega (arith, ints, clamps)) (omega (arith, ints)),
        );
      }
      | none e t ↦ record {
        now = looks v (left_behind h (moves_zone h m));
        new = append_looks v (gap_of (pos 0 -ℤ m.tail)) _ ∙ ap₂ (λ a b. a ++ b) (ap (child_looks v) e) (olds_look v (left_behind h (moves_zone h m)));
        tails = tail_none _ m.tail blank gb (omega (arith, ints));
        clear = clear_later (looks v (left_behind h (moves_zone h m))) _ _ _ _ gb cb (omega (arith, ints, clamps)) (omega (arith, ints));
      }
    ]

-- nothing stands after
end_behind : (v : View) (l : List (ItemOf Listed)) (h : Held) (m : Moves) → IsHeld l h → IsMoved h.item m → first_item h.behind ≡ None → NewBehind v h m (gap_of (pos 0 -ℤ m.tail) ++ olds (left_behind h (moves_zone h m))) blank
end_behind v l h m k j e = by_lt_z (pos 0) m.tail
    (λ t. with_start t (opening h.behind ((moves_zone h m).from -ℤ end h) ((moves_zone h m).to -ℤ end h) (omega (arith, ints, clamps)) (omega (arith, ints, clamps))))
    (λ t. olds_behind v l h m k j t)
  where
    with_start : pos 0 <ℤ m.tail → Opening (left_behind h (moves_zone h m)) (first_item h.behind) → NewBehind v h m (gap_of (pos 0 -ℤ m.tail) ++ olds (left_behind h (moves_zone h m))) blank
    with_start t (nothing f g) = elim (gap_by v (pos 0 -ℤ m.tail)) [
      | some a b ↦ absurd (omega (arith, ints))
      | none a b ↦ record {
        now = [];
        new = ap₂ (λ p q. child_looks v (p ++ olds q)) a g;
        tails = subst (λ r. Tails (looks v r) [] m.tail blank) (sym g) (tail_end m.tail blank (omega (arith, ints)));
        clear = tt;
      }
    ]
    with_start t (first z n f o u g) = absurd (cc (sym e ∙ f))

tail_as : (z : Look) (r : List Look) (t : ℤ) → z.shows ≡ blank → Tails (z ∷ r) (shifted z t (pos 0) ∷ r) t z.shows → Tails (z ∷ r) (empty (z.length -ℤ t) ∷ r) t blank
tail_as z r t e k =
    let long : (z.length -ℤ t) +ℤ pos 0 ≡ z.length -ℤ t = omega (arith, ints) in
    subst (λ n. Tails (z ∷ r) (empty n ∷ r) t blank) long
    (subst (λ (g : ℤ → Show). Tails (z ∷ r) ((record { length = (z.length -ℤ t) +ℤ pos 0; shows = λ u. g (u +ℤ t); overlap = None }) ∷ r) t g) e k)

gap_behind : (v : View) (l : List (ItemOf Listed)) (h : Held) (m : Moves) (z : ItemOf Listed) → IsHeld l h → IsMoved h.item m → first_item h.behind ≡ Some z → is_gap z ≡ true → pos 0 ≤ℤ (ticks z -ℤ m.tail)
    → NewBehind v h m (first_changed (grown (pos 0 -ℤ m.tail)) (left_behind h (moves_zone h m))) blank
gap_behind v l h m z k j e q i = with_start (opening h.behind ((moves_zone h m).from -ℤ end h) ((moves_zone h m).to -ℤ end h) (omega (arith, ints, clamps)) (omega (arith, ints, clamps)))
  where
    with_start : Opening (left_behind h (moves_zone h m)) (first_item h.behind) → NewBehind v h m (first_changed (grown (pos 0 -ℤ m.tail)) (left_behind h (moves_zone h m))) blank
    with_start (nothing f g) = absurd (cc (sym e ∙ f))
    with_start (first z2 n f t u g) =
        let same : z2 ≡ z = cc (sym f ∙ e) in
        let left_over = j.left in
        let split : left_behind h (moves_zone h m) ≡ z ∷ n = g ∙ ap (λ y. y ∷ n) same in
        let iz = thing_item v z (gap_thing z q) in
        let gb = subst (λ r. AreGood (looks v r)) split (behind_good v l h (moves_zone h m) k) in
        let cb = subst (λ r. AreClear ((moves_zone h m).from -ℤ end h) ((moves_zone h m).to -ℤ end h) (looks v r)) split (tail_clear v l h m k) in
        let put : first_changed (grown (pos 0 -ℤ m.tail)) (left_behind h (moves_zone h m)) ≡ grown (pos 0 -ℤ m.tail) z ++ olds n =
        ap (first_changed (grown (pos 0 -ℤ m.tail))) split ∙ first_put (grown (pos 0 -ℤ m.tail)) z n (subst (λ y. is_transition y ≡ false) same u) in
        elim (grown_by v z (pos 0 -ℤ m.tail) q (omega (arith, ints))) [
          | left c a b ↦
              let long : ticks z +ℤ (pos 0 -ℤ m.tail) ≡ ticks z -ℤ m.tail = omega (arith, ints) in
              record {
                now = empty (ticks z -ℤ m.tail) ∷ looks v n;
                new = ap (child_looks v) put ∙ ap (λ r. child_looks v (r ++ olds n)) a ∙ ap₂ (λ r s. r ∷ s) (b ∙ ap empty long) (olds_look v n);
                tails = subst (λ r. Tails (looks v r) (empty (ticks z -ℤ m.tail) ∷ looks v n) m.tail blank) (sym split)
                    (tail_as (seen v (sight z)) (looks v n) m.tail (gap_blank v z q) (tail_item (seen v (sight z)) (looks v n) m.tail gb.1 iz i));
                clear = (
                  (items_clear (empty (ticks z -ℤ m.tail) ∷ []) _ _ (empty_item (ticks z -ℤ m.tail) i, tt)).0,
                  clear_later (looks v n) _ _ _ _ gb.1 cb.1 (omega (arith, ints, clamps)) (omega (arith, ints)),
                );
              }
          | gone a b ↦
              let later = later_clear (looks v n) _ _ gb.1 cb.1 (omega (arith, ints, clamps)) (omega (arith, ints, clamps)) in
              record {
                now = looks v n;
                new = ap (child_looks v) put ∙ ap (λ r. child_looks v (r ++ olds n)) a ∙ olds_look v n;
                tails = subst (λ r. Tails (looks v r) (looks v n) m.tail blank) (sym split)
                    (tail_gone (seen v (sight z)) (looks v n) m.tail blank gb.1 iz later (omega (arith, ints)));
                clear = clear_later (looks v n) _ _ _ _ gb.1 cb.1 (omega (arith, ints, clamps)) (omega (arith, ints));
              }
        ]

trim_new_behind : (v : View) (l : List (ItemOf Listed)) (h : Held) (m : Moves) → IsHeld l h → IsMoved h.item m → IsTrimmedBehind (first_item h.behind) m.tail → NewBehind v h m (trimmed_behind h m) blank
trim_new_behind v l h m k j i = of (first_item h.behind) refl
  where
    of : (o : Option (ItemOf Listed)) → first_item h.behind ≡ o → NewBehind v h m (trimmed_behind h m) blank
    of None e = let k2 = end_behind v l h m k j e in rw e k2
    of (Some z) e = let r = subst (λ o. IsTrimmedBehind o m.tail) e i in cases (is_gap z)
        (λ s. let t = gap_ticks_is z s in let k2 = gap_behind v l h m z k j e s (omega (arith, ints, r)) in rw (e, s) k2)
        (λ s. let t = no_gap_ticks z s in let k2 = olds_behind v l h m k j (omega (arith, ints, r)) in rw (e, s) k2)

last_false : (t : Bool) → (t || false) ≡ t
last_false true = refl
last_false false = refl

always : (t : Bool) → (t || true) ≡ true
always true = refl
always false = refl

pub trim_shows : (v : View) (l : List (ItemOf Listed)) (h : Held) (m : Moves) (w : ℤ) → IsHeld l h → IsMoved h.item m → IsTrimmedBefore (last_item h.before) m.head → IsTrimmedBehind (first_item h.behind) m.tail
    → list_shows (child_looks v (trimmed h m)) w ≡ trim_law v l h m w
trim_shows v l h m w k i b e =
    let left = i.left in
    let f : Facts v l h m (trimmed_before h m) (trimmed_behind h m) blank blank = facts v l h m _ _ _ _ k i (trim_new_before v l h m k b) (trim_new_behind v l h m k i e) in
    by_lt_z w (moves_zone h m).from
    (λ s. rw (missed_before (start h +ℤ m.head) (end h +ℤ m.tail) w (omega (arith, ints, clamps)), missed_before (start h) (start h +ℤ m.head) w (omega (arith, ints, clamps)), missed_before (end h +ℤ m.tail) (end h) w (omega (arith, ints, clamps))) (f.before w s))
    (λ s. by_lt_z w (moves_zone h m).to
    (λ t. by_lt_z w (start h +ℤ m.head)
    (λ n. rw (missed_before (start h +ℤ m.head) (end h +ℤ m.tail) w n, is_within (start h) (start h +ℤ m.head) w (omega (arith, ints, clamps)) n) (f.head w (omega (arith, ints, clamps)) n))
    (λ n. by_lt_z w (end h +ℤ m.tail)
    (λ o. rw (is_within (start h +ℤ m.head) (end h +ℤ m.tail) w n o) (f.middle w n o))
    (λ o. rw (missed_behind (start h +ℤ m.head) (end h +ℤ m.tail) w o, is_within (end h +ℤ m.tail) (end h) w o (omega (arith, ints, clamps)), always (within (start h) (start h +ℤ m.head) w)) (f.tail w o (omega (arith, ints, clamps))))))
    (λ t. rw (missed_behind (start h +ℤ m.head) (end h +ℤ m.tail) w (omega (arith, ints, clamps)), missed_behind (start h) (start h +ℤ m.head) w (omega (arith, ints, clamps)), missed_behind (end h +ℤ m.tail) (end h) w (omega (arith, ints, clamps))) (f.behind w t)))
