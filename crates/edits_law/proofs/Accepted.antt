-- What an accepted edit shows.
use Rattle.std.proofs.Common.{◌≡◌, refl, sym, subst, ap, ◌∙◌, ℕ, ℤ, pos, negsuc, ◌+ℤ◌, ◌-ℤ◌, ◌*ℤ◌, ◌≤ℤ◌, ◌<ℤ◌, ◌&&◌, Bool, true, false, Option, Some, None, List, [], ◌∷◌, ◌++◌, arith, append_assoc}
use Rattle.std.specs.Prelude.{int_lt, int_le, option_map, is_none, not}
use Rattle.std.proofs.lemmas.Int.{ints, by_lt_z}
use Rattle.std.proofs.lemmas.Bool.{and_parts as both_true}
pub use Rattle.std.proofs.lemmas.Bool.{not-false as not_false}
pub use Rattle.limits.proofs.IntegerTests.{int_lt-false as lt_no}
use Rattle.limits.proofs.IntegerTests.{int_le-true as le_is, int_lt-true as lt_is}
use Rattle.otio_model.specs.declared.compositions.ItemOf.{ItemOf}
use Rattle.otio_model.specs.declared.compositions.Listed.{Listed}
use Rattle.otio_model.specs.declared.timelines.Timeline.{Timeline}
use Rattle.otio_model.specs.declared.edit_types.Edit.{Edit}
use Rattle.otio_model.specs.declared.edit_types.EditFault.{EditFault}
use Rattle.otio_model.specs.Overlaps.{within}
use Rattle.coord.specs.Sights.{overlap_of}
use Rattle.edits.specs.Children.{Old, ticks}
use Rattle.edits.specs.Cuts.{strip, cuts_whole}
use Rattle.edits.specs.Edges.{Held, held_at, held_behind, start, end, added}
use Rattle.edits.specs.Good.{AreFair, IsPut, IsHeld}
use Rattle.edits.specs.After.{at_of}
use Rattle.otio_model.specs.declared.edit_types.EditFault.TheVariants as F
use Rattle.edits.specs.Refusals.{first_fault, test, list_fault, pin_fault, asks_item, has_no_neighbour, is_filled_item, is_empty, is_wrong_speed, is_phased}
use Rattle.edits_law.proofs.Parted.{added_low, added_strip, lt_yes, le_yes}
use Rattle.edits_law.proofs.Beside.{strip_append}
use Rattle.edits_law.proofs.Sorts.{point, thing, sort, strip_thing}

-- ---- the held item

pub record Found (l : List (ItemOf Listed)) (w : ℤ) (h : Held) : Type 0 where
  pub parts : l ≡ h.before ++ (h.item ∷ h.behind)
  pub from : start h ≤ℤ w
  pub to : w <ℤ end h

mapped : (x : ItemOf Listed) (o : Option Held) (h : Held) → option_map (held_behind x) o ≡ Some h → (k : Held) × (o ≡ Some k) × (held_behind x k ≡ h)
mapped x None h e = absurd (cc e)
mapped x (Some k) h e = (k, refl, cc e)

pub found : (l : List (ItemOf Listed)) (w : ℤ) (h : Held) → held_at l w ≡ Some h → Found l w h
found [] w h e = absurd (cc e)
found (x ∷ l) w h e = by (within (pos 0) (ticks x) w) refl (found l (w -ℤ ticks x))
  where
    by : (t : Bool) → within (pos 0) (ticks x) w ≡ t → ((k : Held) → held_at l (w -ℤ ticks x) ≡ Some k → Found l (w -ℤ ticks x) k) → Found (x ∷ l) w h
    by true s next =
        let b = both_true (int_le (pos 0) w) (int_lt w (ticks x)) s in
        let low = le_is (pos 0) w b.0 in
        let high = lt_is w (ticks x) b.1 in
        let same : record { before = []; item = x; behind = l } ≡ h = cc (rw s at e) in
        subst (Found (x ∷ l) w) same (record { parts = refl; from = omega (arith, ints); to = omega (arith, ints) })
    by false s next =
        let m = mapped x (held_at l (w -ℤ ticks x)) h (rw s at e) in
        let f = next m.0 m.1 in
        let from = f.from in let to = f.to in
        subst (Found (x ∷ l) w) m.2 (record { parts = ap (λ r. x ∷ r) f.parts; from = omega (arith, ints); to = omega (arith, ints) })

fair_first : (l r : List (ItemOf Listed)) → AreFair (l ++ r) → AreFair l
fair_first [] r f = tt
fair_first (x ∷ l) r f = (f.0, fair_first l r f.1)

fair_second : (l r : List (ItemOf Listed)) → AreFair (l ++ r) → AreFair r
fair_second [] r f = f
fair_second (x ∷ l) r f = fair_second l r f.1

pub is_held : (l : List (ItemOf Listed)) (w : ℤ) (h : Held) → AreFair l → Found l w h → IsHeld l h
is_held l w h f k =
    let g = subst AreFair k.parts f in
    let from = k.from in let to = k.to in
    record {
      parts = k.parts;
      thing = elim (sort h.item) [ point o t e z ↦ absurd (omega (arith, ints)) | thing t e ↦ e ];
      before = fair_first h.before _ g;
      behind = (fair_second h.before (h.item ∷ h.behind) g).1;
    }

-- ---- what the tests leave

rest_of : (b : Bool) (fault : EditFault) (o : Option EditFault) → test b fault o ≡ None → (b ≡ false) × (o ≡ None)
rest_of true fault o e = absurd (cc e)
rest_of false fault o e = (refl, e)

-- after no fault there is none
pub later : (o p : Option EditFault) → first_fault o p ≡ None → p ≡ None
later None p e = e
later (Some fault) p e = absurd (cc e)

-- an edit that passed the tests
pub record Passed (t : Timeline) (e : Edit) (f : ℤ) (l : List (ItemOf Listed)) (h : Option Held) : Type 0 where
  pub at : int_lt (at_of e) (pos 0) ≡ false
  pub item : (asks_item e && is_none h) ≡ false
  pub neighbour : has_no_neighbour e h ≡ false
  pub speed : is_wrong_speed e h ≡ false
  pub phase : is_phased f e l ≡ true

pub passed : (t : Timeline) (e : Edit) (f : ℤ) (l : List (ItemOf Listed)) (h : Option Held) → list_fault t e f l h ≡ None → Passed t e f l h
passed t e f l h k =
    let p : Option EditFault = pin_fault t e in
    let o7 : Option EditFault = test (not (is_phased f e l)) F.Phase (pin_fault t e) in
    let o6 : Option EditFault = test (is_wrong_speed e h) F.Speed o7 in
    let o5 : Option EditFault = test (has_no_neighbour e h) F.NoNeighbour o6 in
    let o4 : Option EditFault = test (is_empty e) F.Empty o5 in
    let o3 : Option EditFault = test (is_filled_item e h) F.NotGap o4 in
    let o2 : Option EditFault = test (asks_item e && is_none h) F.NoItem o3 in
    let a = rest_of (int_lt (at_of e) (pos 0)) F.Negative o2 k in
    let b = rest_of (asks_item e && is_none h) F.NoItem o3 a.1 in
    let c = rest_of (is_filled_item e h) F.NotGap o4 b.1 in
    let d = rest_of (is_empty e) F.Empty o5 c.1 in
    let g = rest_of (has_no_neighbour e h) F.NoNeighbour o6 d.1 in
    let i = rest_of (is_wrong_speed e h) F.Speed o7 g.1 in
    let j = rest_of (not (is_phased f e l)) F.Phase p i.1 in
    record { at = a.0; item = b.0; neighbour = g.0; speed = i.0; phase = not_false (is_phased f e l) j.0 }

-- ---- each edit

pub times_low : (a : ℤ) (n : ℕ) → pos 0 ≤ℤ a → pos 0 ≤ℤ (a *ℤ pos n)
times_low (pos m) n h = omega (arith, ints)
times_low (negsuc m) n h = absurd (omega (arith, ints))

pub put_old : (x : ItemOf Listed) → overlap_of x ≡ None → IsPut (Old x)
put_old x e = record { whole = omega (arith, ints); item = e }

pub both_of : (a b : Bool) → (a && b) ≡ true → b ≡ true
both_of a b e = (both_true a b e).1

-- no child is cut where one begins
cuts_at_start : (l r : List (ItemOf Listed)) (t : ℤ) → t ≡ added l → cuts_whole (l ++ r) t ≡ true
cuts_at_start [] [] t e = refl
cuts_at_start [] (x ∷ r) t e = let f : int_lt (pos 0) t ≡ false = grind (arith, ints) in rw f refl
cuts_at_start (x ∷ l) r t e = let k = added_low l in by_lt_z (pos 0) t
    (λ s. let f : int_lt (pos 0) t ≡ true = lt_yes (pos 0) t s in
    let g : int_le (ticks x) t ≡ true = le_yes (ticks x) t (omega (arith, ints)) in
    rw (f, g) (cuts_at_start l r (t -ℤ ticks x) (omega (arith, ints))))
    (λ s. let f : int_lt (pos 0) t ≡ false = grind (arith, ints) in rw f refl)

-- the end of a held item is no cut either
pub cuts_end : (l : List (ItemOf Listed)) (h : Held) → IsHeld l h → cuts_whole (strip l (start h) (end h)) (end h) ≡ true
cuts_end l h k =
    let a : ℤ = start h in
    let p = added_strip h.before (start h) (end h) in
    let q : strip l (start h) (end h) ≡ (strip h.before (start h) (end h) ++ (h.item ∷ [])) ++ strip h.behind ((start h -ℤ added h.before) -ℤ ticks h.item) ((end h -ℤ added h.before) -ℤ ticks h.item) =
    ap (λ m. strip m (start h) (end h)) k.parts ∙ strip_append h.before (h.item ∷ h.behind) (start h) (end h)
    ∙ ap (λ m. strip h.before (start h) (end h) ++ m) (strip_thing h.item h.behind _ _ k.thing)
    ∙ sym (append_assoc (strip h.before (start h) (end h)) (h.item ∷ []) _) in
    let r = added_join (strip h.before (start h) (end h)) (h.item ∷ []) in
    rw q (cuts_at_start (strip h.before (start h) (end h) ++ (h.item ∷ [])) _ (end h) (omega (arith, ints)))
  where
    added_join : (m n : List (ItemOf Listed)) → added (m ++ n) ≡ added m +ℤ added n
    added_join [] n = omega (arith, ints)
    added_join (x ∷ m) n = let e = added_join m n in omega (arith, ints)
