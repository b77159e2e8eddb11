-- What lists show after a slide and a slip.
use Rattle.std.proofs.Common.{◌≡◌, refl, sym, subst, ap, ap₂, ◌∙◌, ℤ, pos, ◌+ℤ◌, ◌-ℤ◌, ◌≤ℤ◌, true, false, Some, None, cond, List, [], ◌∷◌, ◌++◌, arith, append_assoc}
use Rattle.std.specs.Prelude.{int_lt}
use Rattle.std.specs.Int.{int_min, int_max}
use Rattle.std.proofs.lemmas.Int.{ints, by_lt_z, clamps}
use Rattle.otio_model.specs.declared.compositions.ItemOf.{ItemOf}
use Rattle.otio_model.specs.declared.compositions.Listed.{Listed}
use Rattle.coord.specs.Looks.{Look, list_shows, total}
use Rattle.coord.specs.Sights.{View, sight, seen, looks, overlap_of}
use Rattle.edits.specs.Splices.{AreGood, IsItem}
use Rattle.edits.specs.Children.{Old, ticks, seen_child, child_looks}
use Rattle.edits.specs.Cuts.{strip, olds}
use Rattle.edits.specs.Edges.{Held, start, moved, left_before, left_behind, slide_zone, last_item, slid, slipped, slip_by, slipped_item, one, last_changed}
use Rattle.edits.specs.Laws.{item_at, slide_law, slip_law}
use Rattle.edits.specs.Good.{IsHeld}
use Rattle.coord.proofs.LookSteps.{item_hit}
use Rattle.edits_law.proofs.Splice.{AreClear}
use Rattle.edits_law.proofs.Seams.{items_good, items_clear, item_append}
use Rattle.edits_law.proofs.Pieces.{looks_append, append_looks, olds_look}
use Rattle.edits_law.proofs.Shaped.{longer, longer_item, same_to, clear_earlier, clear_later, clear_join, clear_first, good_join, good_first, later_clear, zone_shows, total_join}
use Rattle.edits_law.proofs.Rolls.{parts_behind}
use Rattle.edits_law.proofs.Beside.{total_strip, Ending, bare, last, ending, last_put}
use Rattle.edits_law.proofs.EdgeLaws.{tail_look, thing_item, held_looks, before_good, behind_good, before_clear, behind_clear}

-- a list in parts, of which the first item's tail moves by d
pub slide_parts : (l : List Look) (y x : Look) (r : List Look) (d a b p w : ℤ) → AreGood l → AreClear a b l → IsItem y → IsItem x → AreGood r → AreClear (a -ℤ p) (b -ℤ p) (x ∷ r)
    → p ≡ (total l +ℤ y.length) → a ≡ int_min p (p +ℤ d) → b ≡ int_max p (p +ℤ d) → pos 0 ≤ℤ (y.length +ℤ d)
    → list_shows (l ++ (longer y d ∷ x ∷ r)) w ≡ cond (int_lt w (int_min p (p +ℤ d))) (list_shows (l ++ (y ∷ x ∷ r)) w) (cond (int_lt w (p +ℤ d)) (y.shows (w -ℤ total l)) (list_shows (l ++ (y ∷ x ∷ r)) (w -ℤ d)))
slide_parts l y x r d a b p w g k iy ix gr kr e from to left =
    let len = iy.whole in
    let gx : AreGood (x ∷ r) = ((items_good (x ∷ []) (ix, tt)).0, gr) in
    let later = later_clear (x ∷ r) (a -ℤ p) (b -ℤ p) gx kr (omega (arith, ints, clamps)) (omega (arith, ints, clamps)) in
    let iz = longer_item y d left in
    by_lt_z w (int_min p (p +ℤ d))
    (λ s. let f : int_lt w (int_min p (p +ℤ d)) ≡ true = grind (arith, ints) in rw f
    (same_to l (longer y d) y (x ∷ r) (x ∷ r) w g iz iy (λ u. refl) later later (omega (arith, ints, clamps)) (omega (arith, ints, clamps))))
    (λ s. let f : int_lt w (int_min p (p +ℤ d)) ≡ false = grind (arith, ints) in by_lt_z w (p +ℤ d)
    (λ t. let h : int_lt w (p +ℤ d) ≡ true = grind (arith, ints) in rw (f, h)
    (zone_shows (l ++ (longer y d ∷ x ∷ r)) p (p +ℤ d) w
    (good_join l _ g ((items_good (longer y d ∷ []) (iz, tt)).0, gx))
    (clear_join l _ p (p +ℤ d) (clear_earlier l a b p (p +ℤ d) g k (omega (arith, ints, clamps)) (omega (arith, ints, clamps))) (
      (items_clear (longer y d ∷ []) (p -ℤ total l) ((p +ℤ d) -ℤ total l) (iz, tt)).0,
      clear_later (x ∷ r) (a -ℤ p) (b -ℤ p) _ _ gx kr (omega (arith, ints, clamps)) (omega (arith, ints, clamps)),
    ))
    (omega (arith, ints, clamps)) t
    ∙ item_append l (longer y d ∷ x ∷ r) w g (omega (arith, ints, clamps))
    ∙ item_hit (longer y d) (x ∷ r) (w -ℤ total l) (omega (arith, ints, clamps)) (omega (arith, ints, clamps))))
    (λ t. let h : int_lt w (p +ℤ d) ≡ false = grind (arith, ints) in rw (f, h)
    (parts_behind l (longer y d ∷ []) (x ∷ r) a b w g k (omega (arith, ints, clamps)) (iz, tt) (omega (arith, ints, clamps)) later (omega (arith, ints, clamps))
    ∙ ap (list_shows (x ∷ r)) (omega (arith, ints))
    ∙ sym (parts_behind l (y ∷ []) (x ∷ r) a b (w -ℤ d) g k (omega (arith, ints, clamps)) (iy, tt) (omega (arith, ints, clamps)) later (omega (arith, ints, clamps))))))

pub slide_shows : (v : View) (l : List (ItemOf Listed)) (h : Held) (y : ItemOf Listed) (d w : ℤ) → IsHeld l h → last_item h.before ≡ Some y → pos 0 ≤ℤ (ticks y +ℤ d) → list_shows (child_looks v (slid h d)) w ≡ slide_law v l h y d w
slide_shows v l h y d w k e left =
    let zone : int_min (start h) (start h +ℤ d) ≤ℤ int_max (start h) (start h +ℤ d) = omega (arith, ints, clamps) in
    with_end (ending h.before (int_min (start h) (start h +ℤ d)) (int_max (start h) (start h +ℤ d)) (omega (arith, ints, clamps)) (omega (arith, ints, clamps)))
  where
    with_end : Ending (left_before h (slide_zone h d)) (last_item h.before) → list_shows (child_looks v (slid h d)) w ≡ slide_law v l h y d w
    with_end (bare f g) = absurd (cc (sym e ∙ f))
    with_end (last m y2 f i u g) =
        let same : y2 ≡ y = cc (sym f ∙ e) in
        let iy : overlap_of y ≡ None = subst (λ z. overlap_of z ≡ None) same i in
        let c : List Look = looks v (left_behind h (slide_zone h d)) in
        let zone : int_min (start h) (start h +ℤ d) ≤ℤ int_max (start h) (start h +ℤ d) = omega (arith, ints, clamps) in
        let split : looks v (left_before h (slide_zone h d)) ≡ looks v m ++ (seen v (sight y) ∷ []) = ap (looks v) g ∙ looks_append v m (y2 ∷ []) ∙ ap (λ z. looks v m ++ (seen v (sight z) ∷ [])) same in
        let long : total (looks v m) +ℤ (ticks y +ℤ pos 0) ≡ start h = sym (total_join (looks v m) (seen v (sight y) ∷ [])) ∙ ap total (sym split) ∙ total_strip v h.before _ _ in
        let gb = subst AreGood split (before_good v l h (slide_zone h d) k) in
        let cb = subst (AreClear (int_min (start h) (start h +ℤ d)) (int_max (start h) (start h +ℤ d))) split (before_clear v l h (slide_zone h d) k zone) in
        let gc = behind_good v l h (slide_zone h d) k in
        let cc1 = behind_clear v l h (slide_zone h d) k zone in
        let ix = thing_item v h.item k.thing in
        let from : AreClear (int_min (start h) (start h +ℤ d) -ℤ start h) (int_max (start h) (start h +ℤ d) -ℤ start h) (seen v (sight h.item) ∷ looks v (left_behind h (slide_zone h d))) =
        ((items_clear (seen v (sight h.item) ∷ []) _ _ (ix, tt)).0, clear_later (looks v (left_behind h (slide_zone h d))) _ _ _ _ gc cc1 (omega (arith, ints, clamps)) (omega (arith, ints))) in
        let put : last_changed (λ z. one (moved (pos 0) d z)) (left_before h (slide_zone h d)) ≡ olds m ++ (moved (pos 0) d y ∷ []) =
        ap (last_changed (λ z. one (moved (pos 0) d z))) g ∙ last_put (λ z. one (moved (pos 0) d z)) m y2 u ∙ ap (λ z. olds m ++ (moved (pos 0) d z ∷ [])) same in
        let new : child_looks v (slid h d) ≡ looks v m ++ (longer (seen v (sight y)) d ∷ seen v (sight h.item) ∷ looks v (left_behind h (slide_zone h d))) =
        ap (λ z. child_looks v (z ++ (Old h.item ∷ olds (left_behind h (slide_zone h d))))) put
        ∙ ap (child_looks v) (append_assoc (olds m) (moved (pos 0) d y ∷ []) (Old h.item ∷ olds (left_behind h (slide_zone h d))))
        ∙ append_looks v (olds m) _
        ∙ ap₂ (λ a b. a ++ b) (olds_look v m) (ap₂ (λ a b. a ∷ seen v (sight h.item) ∷ b) (tail_look v y d iy) (olds_look v (left_behind h (slide_zone h d)))) in
        let old : looks v (strip l (int_min (start h) (start h +ℤ d)) (int_max (start h) (start h +ℤ d))) ≡ looks v m ++ (seen v (sight y) ∷ seen v (sight h.item) ∷ looks v (left_behind h (slide_zone h d))) =
        held_looks v l h (slide_zone h d) k
        ∙ ap (λ z. z ++ (seen v (sight h.item) ∷ looks v (left_behind h (slide_zone h d)))) split
        ∙ append_assoc (looks v m) (seen v (sight y) ∷ []) (seen v (sight h.item) ∷ looks v (left_behind h (slide_zone h d))) in
        rw (new, old)
        (slide_parts (looks v m) (seen v (sight y)) (seen v (sight h.item)) (looks v (left_behind h (slide_zone h d))) d _ _ (start h) w (good_first (looks v m) _ gb) (clear_first (looks v m) _ _ _ cb) (thing_item v y iy) ix gc from (omega (arith, ints, long)) refl refl left
        ∙ ap (λ o. cond (int_lt w (int_min (start h) (start h +ℤ d))) (list_shows (looks v m ++ (seen v (sight y) ∷ seen v (sight h.item) ∷ looks v (left_behind h (slide_zone h d)))) w) (cond (int_lt w (start h +ℤ d)) (item_at v y o) (list_shows (looks v m ++ (seen v (sight y) ∷ seen v (sight h.item) ∷ looks v (left_behind h (slide_zone h d)))) (w -ℤ d))))
        (omega (arith, ints, long)))

pub slip_shows : (v : View) (f by w : ℤ) (h : Held) → list_shows (child_looks v (slipped f h by)) w ≡ slip_law (slip_by f h by) v h w
slip_shows v f by w h = ap (λ l. list_shows l w) (append_looks v (olds h.before) _ ∙ ap₂ (λ a b. a ++ (seen_child v (slipped_item (slip_by f h by) h.item) ∷ b)) (olds_look v h.before) (olds_look v h.behind))
