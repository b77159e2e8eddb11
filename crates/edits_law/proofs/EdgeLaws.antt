-- What lists show after edits of edges.
use mathlib.Core.Path.{fun_ext}
use Rattle.std.proofs.Common.{◌≡◌, refl, sym, ap, ap₂, ◌∙◌, ℤ, pos, negsuc, ◌+ℤ◌, ◌-ℤ◌, ◌*ℤ◌, ◌≤ℤ◌, ◌&&◌, true, false, Option, None, List, [], ◌∷◌, ◌++◌, arith}
use Rattle.std.specs.Prelude.{int_lt}
use Rattle.std.proofs.lemmas.Int.{ints, by_lt_z}
use Rattle.std.proofs.lemmas.Bool.{and_parts as both_true}
use Rattle.otio_model.specs.declared.compositions.ItemOf.{ItemOf}
use Rattle.otio_model.specs.declared.compositions.Listed.{Listed}
use Rattle.coord.specs.Looks.{Show, Look, Overlap, list_shows, total}
use Rattle.coord.specs.Speeds.{speed_of}
use Rattle.coord.specs.Sights.{View, sight, sights, seen, looks, overlap_of, shows_inside}
use Rattle.otio_model.specs.Lengths.{trimmed_start}
use Rattle.edits.specs.Splices.{AreGood, IsItem}
use Rattle.edits.specs.Children.{seen_child, child_looks}
use Rattle.edits.specs.Cuts.{strip, olds, is_whole_at}
use Rattle.edits.specs.Edges.{Held, start, end, Zone, Moves, moved, is_zero, left_before, left_behind, item_zone, rippled}
use Rattle.edits.specs.Laws.{ripple_law}
use Rattle.edits.specs.Good.{IsHeld, IsMoved}
use Rattle.coord.proofs.LookSteps.{item_hit}
use Rattle.edits_law.proofs.Splice.{AreClear, good_strip, clear_strip, cases}
use Rattle.edits_law.proofs.Seams.{seam_before, seam_behind, items_later, items_show}
use Rattle.edits_law.proofs.Pieces.{media_sum, whole_rest, strip_looks, looks_append, append_looks, olds_look}
use Rattle.edits_law.proofs.ListLaws.{good_looks}
use Rattle.edits_law.proofs.Shaped.{longer, shifted, shifted_item, clear_earlier, later_clear}
use Rattle.edits_law.proofs.Rolls.{parts_behind}
use Rattle.edits_law.proofs.Beside.{strip_append, total_strip}
use Rattle.edits_law.proofs.Sorts.{strip_thing}

-- ---- moved items

pub zero_is : (z : ℤ) → is_zero z ≡ true → z ≡ pos 0
zero_is z e = grind (arith, ints)

same_look : (m n : ℤ) (f g : ℤ → Show) (o : Option Overlap) → m ≡ n → ((u : ℤ) → f u ≡ g u) → o ≡ None → Path Look (record { length = m; shows = f; overlap = o }) (record { length = n; shows = g; overlap = None })
same_look m n f g o d h e = λ i. record { length = d i; shows = fun_ext h i; overlap = e i }

pub moved_look : (v : View) (x : ItemOf Listed) (h t : ℤ) → overlap_of x ≡ None → is_whole_at x h ≡ true → seen_child v (moved h t x) ≡ shifted (seen v (sight x)) h t
moved_look v x h t e k = cases (is_zero h && is_zero t)
    (λ s. let z = both_true (is_zero h) (is_zero t) s in
    let a = zero_is h z.0 in let b = zero_is t z.1 in
    rw s (same_look _ _ _ _ _ (omega (arith, ints)) (λ u. ap ((sight x).shows v) (omega (arith, ints))) e))
    (λ s. rw s (same_look _ _ _ _ _ refl (λ u. ap (shows_inside sights x v) (media_sum (trimmed_start x) (speed_of x) h u (whole_rest x h k))) e))

none_times : (s : ℤ) → pos 0 *ℤ s ≡ pos 0
none_times (pos n) = omega (arith, ints)
none_times (negsuc n) = omega (arith, ints)

zero_whole : (x : ItemOf Listed) → is_whole_at x (pos 0) ≡ true
zero_whole x = rw (none_times (speed_of x)) refl

pub tail_look : (v : View) (x : ItemOf Listed) (t : ℤ) → overlap_of x ≡ None → seen_child v (moved (pos 0) t x) ≡ longer (seen v (sight x)) t
tail_look v x t e = moved_look v x (pos 0) t e (zero_whole x) ∙ same_look _ _ _ _ _ (omega (arith, ints)) (λ u. ap ((sight x).shows v) (omega (arith, ints))) refl

pub thing_item : (v : View) (x : ItemOf Listed) → overlap_of x ≡ None → IsItem (seen v (sight x))
thing_item v x e = record { whole = omega (arith, ints); item = e }

-- ---- what is left round the item

pub held_looks : (v : View) (l : List (ItemOf Listed)) (h : Held) (z : Zone) → IsHeld l h → looks v (strip l z.from z.to) ≡ looks v (left_before h z) ++ (seen v (sight h.item) ∷ looks v (left_behind h z))
held_looks v l h z k =
    ap (λ m. looks v (strip m z.from z.to)) k.parts
    ∙ ap (looks v) (strip_append h.before (h.item ∷ h.behind) z.from z.to)
    ∙ looks_append v (left_before h z) _
    ∙ ap (λ m. looks v (left_before h z) ++ looks v m) (strip_thing h.item h.behind _ _ k.thing)
    ∙ ap₂ (λ a b. looks v (left_before h z) ++ (seen v (sight h.item) ∷ looks v (strip h.behind a b))) (omega (arith, ints)) (omega (arith, ints))

pub before_good : (v : View) (l : List (ItemOf Listed)) (h : Held) (z : Zone) → IsHeld l h → AreGood (looks v (left_before h z))
before_good v l h z k = rw (strip_looks v h.before z.from z.to) (good_strip (looks v h.before) z.from z.to (good_looks v h.before k.before))

pub behind_good : (v : View) (l : List (ItemOf Listed)) (h : Held) (z : Zone) → IsHeld l h → AreGood (looks v (left_behind h z))
behind_good v l h z k = rw (strip_looks v h.behind (z.from -ℤ end h) (z.to -ℤ end h)) (good_strip (looks v h.behind) _ _ (good_looks v h.behind k.behind))

pub before_clear : (v : View) (l : List (ItemOf Listed)) (h : Held) (z : Zone) → IsHeld l h → z.from ≤ℤ z.to → AreClear z.from z.to (looks v (left_before h z))
before_clear v l h z k e = rw (strip_looks v h.before z.from z.to) (clear_strip (looks v h.before) z.from z.to (good_looks v h.before k.before) e)

pub behind_clear : (v : View) (l : List (ItemOf Listed)) (h : Held) (z : Zone) → IsHeld l h → z.from ≤ℤ z.to → AreClear (z.from -ℤ end h) (z.to -ℤ end h) (looks v (left_behind h z))
behind_clear v l h z k e = rw (strip_looks v h.behind (z.from -ℤ end h) (z.to -ℤ end h)) (clear_strip (looks v h.behind) _ _ (good_looks v h.behind k.behind) (omega (arith, ints)))

-- ---- ripple

pub ripple_shows : (v : View) (l : List (ItemOf Listed)) (h : Held) (m : Moves) (w : ℤ) → IsHeld l h → IsMoved h.item m → list_shows (child_looks v (rippled h m)) w ≡ ripple_law v l h m w
ripple_shows v l h m w k i =
    let z : Zone = item_zone h in
    let b : List Look = looks v (left_before h (item_zone h)) in
    let c : List Look = looks v (left_behind h (item_zone h)) in
    let x : Look = seen v (sight h.item) in
    let y : Look = shifted (seen v (sight h.item)) m.head m.tail in
    let zone : start h ≤ℤ end h = omega (arith, ints) in
    let left = i.left in
    let long = total_strip v h.before (start h) (end h) in
    let gb = before_good v l h (item_zone h) k in
    let gc = behind_good v l h (item_zone h) k in
    let cb = before_clear v l h (item_zone h) k zone in
    let later = later_clear (looks v (left_behind h (item_zone h))) _ _ gc (behind_clear v l h (item_zone h) k zone) (omega (arith, ints)) (omega (arith, ints)) in
    let ix = thing_item v h.item k.thing in
    let iy = shifted_item (seen v (sight h.item)) m.head m.tail left in
    let seam = clear_earlier (looks v (left_before h (item_zone h))) _ _ (total (looks v (left_before h (item_zone h)))) (total (looks v (left_before h (item_zone h)))) gb cb (omega (arith, ints, long)) (omega (arith, ints, long)) in
    let new : child_looks v (rippled h m) ≡ looks v (left_before h (item_zone h)) ++ (shifted (seen v (sight h.item)) m.head m.tail ∷ looks v (left_behind h (item_zone h))) =
    append_looks v (olds (left_before h (item_zone h))) _
    ∙ ap₂ (λ p q. p ++ q) (olds_look v (left_before h (item_zone h))) (ap₂ (λ p q. p ∷ q) (moved_look v h.item m.head m.tail k.thing i.whole) (olds_look v (left_behind h (item_zone h)))) in
    let old = held_looks v l h (item_zone h) k in
    rw new (by_lt_z w (start h)
    (λ s. let g : int_lt w (start h) ≡ true = grind (arith, ints) in rw g
    (seam_before b (shifted (seen v (sight h.item)) m.head m.tail ∷ c) (x ∷ c) w gb seam (items_later (shifted (seen v (sight h.item)) m.head m.tail ∷ []) c (iy, tt) later) (items_later (x ∷ []) c (ix, tt) later) (omega (arith, ints, long))
    ∙ ap (λ q. list_shows q w) (sym old)))
    (λ s. let g : int_lt w (start h) ≡ false = grind (arith, ints) in by_lt_z w ((end h -ℤ m.head) +ℤ m.tail)
    (λ t. let f : int_lt w ((end h -ℤ m.head) +ℤ m.tail) ≡ true = grind (arith, ints) in rw (g, f)
    (seam_behind b (shifted (seen v (sight h.item)) m.head m.tail ∷ c) w gb seam (items_later (shifted (seen v (sight h.item)) m.head m.tail ∷ []) c (iy, tt) later) (omega (arith, ints, long))
    ∙ items_show (shifted (seen v (sight h.item)) m.head m.tail ∷ []) c (w -ℤ total b) (iy, tt) later (omega (arith, ints, long))
    ∙ item_hit (shifted (seen v (sight h.item)) m.head m.tail) [] (w -ℤ total b) (omega (arith, ints, long)) (omega (arith, ints, long))
    ∙ ap ((sight h.item).shows v) (omega (arith, ints, long))))
    (λ t. let f : int_lt w ((end h -ℤ m.head) +ℤ m.tail) ≡ false = grind (arith, ints) in rw (g, f)
    (parts_behind b (shifted (seen v (sight h.item)) m.head m.tail ∷ []) c (start h) (end h) w gb cb (omega (arith, ints, long)) (iy, tt) (omega (arith, ints, long)) later (omega (arith, ints, long))
    ∙ ap (list_shows c) (omega (arith, ints, long))
    ∙ sym (parts_behind b (x ∷ []) c (start h) (end h) ((w +ℤ m.head) -ℤ m.tail) gb cb (omega (arith, ints, long)) (ix, tt) (omega (arith, ints, long)) later (omega (arith, ints, long)))
    ∙ ap (λ q. list_shows q ((w +ℤ m.head) -ℤ m.tail)) (sym old)))))
