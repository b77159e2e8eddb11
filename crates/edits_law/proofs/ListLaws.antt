-- What lists show after the five edits of lists.
use Rattle.std.proofs.Common.{◌≡◌, refl, sym, ap, ◌∙◌, ℤ, pos, ◌+ℤ◌, ◌-ℤ◌, ◌≤ℤ◌, ◌<ℤ◌, true, false, List, [], ◌∷◌, Some, arith}
use Rattle.std.specs.Prelude.{int_lt, int_le}
use Rattle.std.proofs.lemmas.Int.{ints, by_lt_z}
use Rattle.otio_model.specs.declared.compositions.ItemOf.{ItemOf}
use Rattle.otio_model.specs.declared.compositions.ItemOf.TheVariants.{Clip, Gap, Transition, Stack, Track}
use Rattle.otio_model.specs.declared.compositions.Listed.{Listed}
use Rattle.otio_model.specs.declared.edit_types.RemoveMode.{RemoveMode}
use Rattle.otio_model.specs.declared.edit_types.RemoveMode.TheVariants as R
use Rattle.coord.specs.Looks.{Overlap, list_shows, item_shows, total}
use Rattle.coord.specs.Sights.{View, sight, seen, looks, overlap_of}
use Rattle.edits.specs.Children.{Child, Old, Ranged, ticks, child_ticks, seen_child, child_looks, new_gap}
use Rattle.edits.specs.Splices as L
use Rattle.edits.specs.Splices.{IsGood, AreGood, IsItem, AreItems}
use Rattle.edits.specs.Cuts.{strip, cuts_whole, put_between}
use Rattle.edits.specs.Edges.{Held, start, end}
use Rattle.edits.specs.Edits.{overwritten, inserted, sliced, removed}
use Rattle.edits.specs.Laws.{child_at, stripped, overwrite_law, insert_law, remove_law}
use Rattle.edits.specs.Good.{IsFair, AreFair, IsPut, AllPut}
use Rattle.coord.proofs.LookSteps.{item_hit}
use Rattle.edits_law.proofs.Seams.{IsReady, ready, spliced_before, spliced_in, spliced_behind}
use Rattle.edits_law.proofs.Pieces.{strip_looks, between_looks}

-- ---- good lists

point : (x : ItemOf Listed) (o : Overlap) → overlap_of x ≡ Some o → ticks x ≡ pos 0
point (Clip c) o e = absurd (cc e)
point (Gap n) o e = absurd (cc e)
point (Transition t) o e = refl
point (Track n) o e = absurd (cc e)
point (Stack n) o e = absurd (cc e)

pub good_look : (v : View) (x : ItemOf Listed) → IsFair x → IsGood (seen v (sight x))
good_look v x f = record { whole = omega (arith, ints); point = point x; before = f.before; after = f.after }

pub good_looks : (v : View) (l : List (ItemOf Listed)) → AreFair l → AreGood (looks v l)
good_looks v [] f = tt
good_looks v (x ∷ l) f = (good_look v x f.0, good_looks v l f.1)

item_look : (v : View) (c : Child) → IsPut c → IsItem (seen_child v c)
item_look v (Old x) p = record { whole = p.whole; item = p.item }
item_look v (Ranged x s n) p = record { whole = p.whole; item = p.item }

pub items_look : (v : View) (n : List Child) → AllPut n → AreItems (child_looks v n)
items_look v [] p = tt
items_look v (c ∷ n) p = (item_look v c p.0, items_look v n p.1)

-- ---- what stands between two cuts

record Between (l : List (ItemOf Listed)) (a : ℤ) (n : List Child) (b : ℤ) : Type 0 where
  pub fair : AreFair l
  pub put : AllPut n
  pub from_start : pos 0 ≤ℤ a
  pub zone : a ≤ℤ b
  pub whole : cuts_whole (strip l a b) b ≡ true

looks_ready : (v : View) (l : List (ItemOf Listed)) (a : ℤ) (n : List Child) (b : ℤ) → Between l a n b → IsReady (L.strip (looks v l) a b) a b
looks_ready v l a n b k = ready (looks v l) a b (good_looks v l k.fair) k.from_start k.zone

same_looks : (v : View) (l : List (ItemOf Listed)) (a : ℤ) (n : List Child) (b : ℤ) → Between l a n b
    → child_looks v (put_between (strip l a b) a n b) ≡ L.spliced (L.strip (looks v l) a b) a (child_looks v n) b
same_looks v l a n b k = between_looks v (strip l a b) a n b k.whole ∙ ap (λ s. L.spliced s a (child_looks v n) b) (strip_looks v l a b)

same_stripped : (v : View) (l : List (ItemOf Listed)) (a b w : ℤ) → list_shows (L.strip (looks v l) a b) w ≡ stripped v l a b w
same_stripped v l a b w = ap (λ s. list_shows s w) (sym (strip_looks v l a b))

before_zone : (v : View) (l : List (ItemOf Listed)) (a : ℤ) (n : List Child) (b w : ℤ) → Between l a n b → w <ℤ a
    → list_shows (child_looks v (put_between (strip l a b) a n b)) w ≡ stripped v l a b w
before_zone v l a n b w k h =
    ap (λ s. list_shows s w) (same_looks v l a n b k)
    ∙ spliced_before (L.strip (looks v l) a b) a b (child_looks v n) w (looks_ready v l a n b k) (items_look v n k.put) h
    ∙ same_stripped v l a b w

in_zone : (v : View) (l : List (ItemOf Listed)) (a : ℤ) (n : List Child) (b w : ℤ) → Between l a n b → a ≤ℤ w → w <ℤ (a +ℤ total (child_looks v n))
    → list_shows (child_looks v (put_between (strip l a b) a n b)) w ≡ item_shows (child_looks v n) (w -ℤ a)
in_zone v l a n b w k h m =
    ap (λ s. list_shows s w) (same_looks v l a n b k)
    ∙ spliced_in (L.strip (looks v l) a b) a b (child_looks v n) w (looks_ready v l a n b k) (items_look v n k.put) h m

behind_zone : (v : View) (l : List (ItemOf Listed)) (a : ℤ) (n : List Child) (b w u : ℤ) → Between l a n b → (a +ℤ total (child_looks v n)) ≤ℤ w → u ≡ ((w -ℤ (a +ℤ total (child_looks v n))) +ℤ b)
    → list_shows (child_looks v (put_between (strip l a b) a n b)) w ≡ stripped v l a b u
behind_zone v l a n b w u k h e =
    ap (λ s. list_shows s w) (same_looks v l a n b k)
    ∙ spliced_behind (L.strip (looks v l) a b) a b (child_looks v n) w u (looks_ready v l a n b k) (items_look v n k.put) h e
    ∙ same_stripped v l a b u

-- ---- the five edits

one_long : (v : View) (c : Child) → total (child_looks v (c ∷ [])) ≡ child_ticks c
one_long v (Old x) = omega (arith, ints)
one_long v (Ranged x s n) = omega (arith, ints)

one_shows : (v : View) (c : Child) (u : ℤ) → pos 0 ≤ℤ u → u <ℤ child_ticks c → item_shows (child_looks v (c ∷ [])) u ≡ child_at v c u
one_shows v (Old x) u h k = item_hit (seen v (sight x)) [] u h k
one_shows v (Ranged x s n) u h k = item_hit (seen_child v (Ranged x s n)) [] u h k

-- a child over what stands there
pub overwrite_shows : (v : View) (l : List (ItemOf Listed)) (a : ℤ) (c : Child) (w : ℤ) → AreFair l → IsPut c → pos 0 ≤ℤ a
    → cuts_whole (strip l a (a +ℤ child_ticks c)) (a +ℤ child_ticks c) ≡ true
    → list_shows (child_looks v (overwritten l a c)) w ≡ overwrite_law v l a c w
overwrite_shows v l a c w f p n e =
    let i = p.whole in
    let t = one_long v c in
    let b : ℤ = a +ℤ child_ticks c in
    let k : Between l a (c ∷ []) (a +ℤ child_ticks c) = record { fair = f; put = (p, tt); from_start = n; zone = omega (arith, ints); whole = e } in
    by_lt_z w a
    (λ h. let g : int_le a w ≡ false = grind (arith, ints) in rw g (before_zone v l a (c ∷ []) (a +ℤ child_ticks c) w k h))
    (λ h. let g : int_le a w ≡ true = grind (arith, ints) in by_lt_z w (a +ℤ child_ticks c)
    (λ m. let q : int_lt w (a +ℤ child_ticks c) ≡ true = grind (arith, ints) in
    rw (g, q) (in_zone v l a (c ∷ []) (a +ℤ child_ticks c) w k h (omega (arith, ints, t)) ∙ one_shows v c (w -ℤ a) (omega (arith, ints)) (omega (arith, ints))))
    (λ m. let q : int_lt w (a +ℤ child_ticks c) ≡ false = grind (arith, ints) in
    rw (g, q) (behind_zone v l a (c ∷ []) (a +ℤ child_ticks c) w w k (omega (arith, ints, t)) (omega (arith, ints, t)))))

-- an item between what stands there
pub insert_shows : (v : View) (l : List (ItemOf Listed)) (a : ℤ) (x : ItemOf Listed) (w : ℤ) → AreFair l → IsPut (Old x) → pos 0 ≤ℤ a
    → cuts_whole (strip l a a) a ≡ true
    → list_shows (child_looks v (inserted l a x)) w ≡ insert_law v l a x w
insert_shows v l a x w f p n e =
    let i = p.whole in
    let t = one_long v (Old x) in
    let k : Between l a (Old x ∷ []) a = record { fair = f; put = (p, tt); from_start = n; zone = omega (arith, ints); whole = e } in
    by_lt_z w a
    (λ h. let g : int_lt w a ≡ true = grind (arith, ints) in rw g (before_zone v l a (Old x ∷ []) a w k h))
    (λ h. let g : int_lt w a ≡ false = grind (arith, ints) in by_lt_z w (a +ℤ ticks x)
    (λ m. let q : int_lt w (a +ℤ ticks x) ≡ true = grind (arith, ints) in
    rw (g, q) (in_zone v l a (Old x ∷ []) a w k h (omega (arith, ints, t)) ∙ one_shows v (Old x) (w -ℤ a) (omega (arith, ints)) (omega (arith, ints))))
    (λ m. let q : int_lt w (a +ℤ ticks x) ≡ false = grind (arith, ints) in
    rw (g, q) (behind_zone v l a (Old x ∷ []) a w (w -ℤ ticks x) k (omega (arith, ints, t)) (omega (arith, ints, t)))))

-- a cut
pub slice_shows : (v : View) (l : List (ItemOf Listed)) (a w : ℤ) → AreFair l → pos 0 ≤ℤ a → cuts_whole (strip l a a) a ≡ true
    → list_shows (child_looks v (sliced l a)) w ≡ stripped v l a a w
slice_shows v l a w f n e =
    let k : Between l a [] a = record { fair = f; put = tt; from_start = n; zone = omega (arith, ints); whole = e } in
    by_lt_z w a
    (λ h. before_zone v l a [] a w k h)
    (λ h. behind_zone v l a [] a w w k (omega (arith, ints)) (omega (arith, ints)))

-- a child less
pub remove_shows : (mode : RemoveMode) (v : View) (l : List (ItemOf Listed)) (h : Held) (w : ℤ) → AreFair l → pos 0 ≤ℤ start h
    → cuts_whole (strip l (start h) (end h)) (end h) ≡ true
    → list_shows (child_looks v (removed mode l h)) w ≡ remove_law mode v l h w
remove_shows R.Gap v l h w f n e =
    let t = one_long v (new_gap (ticks h.item)) in
    let k : Between l (start h) (new_gap (ticks h.item) ∷ []) (end h) = record { fair = f; put = (record { whole = omega (arith, ints); item = refl }, tt); from_start = n; zone = omega (arith, ints); whole = e } in
    by_lt_z w (start h)
    (λ m. let g : int_le (start h) w ≡ false = grind (arith, ints) in rw g (before_zone v l (start h) _ (end h) w k m))
    (λ m. let g : int_le (start h) w ≡ true = grind (arith, ints) in by_lt_z w (end h)
    (λ o. let q : int_lt w (end h) ≡ true = grind (arith, ints) in
    rw (g, q) (in_zone v l (start h) _ (end h) w k m (omega (arith, ints, t)) ∙ one_shows v (new_gap (ticks h.item)) (w -ℤ start h) (omega (arith, ints)) (omega (arith, ints))))
    (λ o. let q : int_lt w (end h) ≡ false = grind (arith, ints) in
    rw (g, q) (behind_zone v l (start h) _ (end h) w w k (omega (arith, ints, t)) (omega (arith, ints, t)))))
remove_shows R.Close v l h w f n e =
    let k : Between l (start h) [] (end h) = record { fair = f; put = tt; from_start = n; zone = omega (arith, ints); whole = e } in
    by_lt_z w (start h)
    (λ m. let g : int_lt w (start h) ≡ true = grind (arith, ints) in rw g (before_zone v l (start h) [] (end h) w k m))
    (λ m. let g : int_lt w (start h) ≡ false = grind (arith, ints) in
    rw g (behind_zone v l (start h) [] (end h) w (w +ℤ ticks h.item) k (omega (arith, ints)) (omega (arith, ints))))
