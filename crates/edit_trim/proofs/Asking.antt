-- The motions of the code, by equations of their numbers.
use Rattle.std.proofs.Common.{◌≡◌, refl, sym, subst, ap, ap₂, ◌∙◌, ℕ, ℤ, pos, ◌+ℤ◌, ◌-ℤ◌, ◌*ℤ◌}
use Rattle.std.proofs.Common.{◌≤ℤ◌, ◌<ℤ◌, Bool, Option, Some, arith}
use Rattle.std.specs.Int.{int_max, int_min}
use Rattle.std.proofs.lemmas.Int.{ints, clamps}
use Rattle.otio_model.specs.declared.compositions.ItemOf.{ItemOf}
use Rattle.otio_model.specs.declared.compositions.Listed.{Listed}
use Rattle.edits.specs.Children.{ticks}
use Rattle.edits.specs.Edges.{Held, end, first_item, is_gap_at, last_item, ripple_by, roll_by}
use Rattle.edits.specs.Edges.{slide_by, slip_by, start, trim_by}
use Rattle.edits.specs.Edges as edges
use Rattle.edits.specs.Edits.{in_ticks}
use Rattle.edit_plans.specs.Bounds.{IsMove}
use Rattle.edit_plans.specs.Meanings.{moves_of}
use Rattle.edit_plans.specs.declared.moves.Moves.{Moves}
use Rattle.edit_trim.specs.Motions.{IsMotion, trim_growth}
use Rattle.edit_trim.specs.Seats.{IsInstant, ripple_shape, roll_shape, slide_shape, trim_shape}
use Rattle.edit_trim.specs.declared.edge_edits.EdgeEdit.{EdgeEdit}
use Rattle.edit_trim.specs.declared.edge_edits.EdgeEdit.TheVariants as M
use Rattle.edit_trim.specs.declared.edge_moves.Motion.TheVariants as W
use Rattle.edit_trim.specs.declared.replacements.Shape.{Shape}
use Rattle.edit_trim.specs.declared.replacements.Interval.{Interval}
use Rattle.edit_trim.proofs.MotionLemmas.{ripple_is, roll_is, slide_is, slip_is}
use Rattle.edit_trim.proofs.TrimLemmas.{trim_is}

as_is : (f : ℤ) (m : EdgeEdit) (h : Held) (z : Interval) (s k : Shape) (g i : ℤ) → s ≡ k → g ≡ i
    → IsMotion f m h (W.Edges z k i) → IsMotion f m h (W.Edges z s g)
as_is f m h z s k g i e j w =
    subst (λ q. IsMotion f m h (W.Edges z q g)) (sym e)
    (subst (λ q. IsMotion f m h (W.Edges z k q)) (sym j) w)

-- a zone of the code is this one
pub record IsZone (z : Interval) (first by last on : ℤ) : Type 0 where
  pub from : z.from ≡ int_min first (first +ℤ by)
  pub to : z.to ≡ int_max last (last +ℤ on)
  pub near_from : IsInstant z.from
  pub near_to : IsInstant z.to

pub zone-is : {z : Interval} {first by last on : ℤ} → z.from ≡ int_min first (first +ℤ by)
    → z.to ≡ int_max last (last +ℤ on) → IsInstant z.from → IsInstant z.to
    → IsZone z first by last on
zone-is e f g h = record { from = e; to = f; near_from = g; near_to = h }

pub slip_as : (f by b d : ℤ) (x : ItemOf Listed) → b ≡ (by *ℤ f)
    → ((h : Held) → h.item ≡ x → d ≡ slip_by f h b) → IsMove d
    → (n : ℕ) (h : Held) → f ≡ pos n → h.item ≡ x → IsMotion (pos n) (M.Slip by) h (W.Media d)
slip_as f by b d x e g m n h k i = slip_is n by h d
    (g h i ∙ ap (slip_by f h) e ∙ ap (λ q. slip_by q h (by *ℤ q)) k) m

pub slide_as : (f at by b d g : ℤ) (y : ItemOf Listed) (z : Interval) (s : Shape) → pos 1 ≤ℤ f
    → b ≡ (by *ℤ f) → d ≡ slide_by f y b → IsMove d → IsZone z at d at d → s ≡ slide_shape d → g ≡ d
    → (n : ℕ) (h : Held) → f ≡ pos n → at ≡ start h → last_item h.before ≡ Some y
    → IsMotion (pos n) (M.Slide by) h (W.Edges z s g)
slide_as f at by b d g y z s low e i m w j k n h o p q =
    let from = w.from in let to = w.to in
    as_is (pos n) (M.Slide by) h z s (slide_shape d) g d j k
    (slide_is n by h y z d (omega (arith, ints, low, o)) q
    (i ∙ ap (slide_by f y) e ∙ ap (λ r. slide_by r y (by *ℤ r)) o) m
    (from ∙ ap (λ r. int_min r (r +ℤ d)) p) (to ∙ ap (λ r. int_max r (r +ℤ d)) p) w.near_from
    w.near_to)

pub ripple_as : (f at head tail bh bt g last : ℤ) (x : ItemOf Listed) (m : Moves) (z : Interval)
    (s : Shape) → pos 1 ≤ℤ f → bh ≡ (head *ℤ f) → bt ≡ (tail *ℤ f)
    → moves_of m ≡ ripple_by f x (record { head = bh; tail = bt }) → IsMove m.head → IsMove m.tail
    → IsZone z at (pos 0) last (pos 0) → last ≡ (at +ℤ ticks x) → s ≡ ripple_shape m.head m.tail
    → g ≡ (m.tail -ℤ m.head)
    → (n : ℕ) (h : Held) → f ≡ pos n → at ≡ start h → h.item ≡ x → pos 0 <ℤ ticks h.item
    → IsMotion (pos n) (M.Ripple head tail) h (W.Edges z s g)
ripple_as f at head tail bh bt g last x m z s low e1 e2 i mh mt w l j k n h o p q t =
    let from = w.from in let to = w.to in
    let long : ticks h.item ≡ ticks x = ap ticks q in
    as_is (pos n) (M.Ripple head tail) h z s (ripple_shape m.head m.tail) g (m.tail -ℤ m.head) j k
    (ripple_is n head tail h z (moves_of m) (omega (arith, ints, low, o)) t
    (i ∙ ap₂ (λ u v. let r : edges.Moves = record { head = u; tail = v } in ripple_by f x r) e1 e2
    ∙ ap₂ (λ r y. ripple_by r y (in_ticks r head tail)) o (sym q)) mh mt
    (omega (arith, ints, clamps, from, p)) (omega (arith, ints, clamps, to, p, l, long)) w.near_from
    w.near_to)

pub roll_as : (f at head tail bh bt last : ℤ) (o p : Option (ItemOf Listed)) (x : ItemOf Listed)
    (m : Moves) (z : Interval) (s : Shape) → pos 1 ≤ℤ f → bh ≡ (head *ℤ f) → bt ≡ (tail *ℤ f)
    → ((h : Held) → last_item h.before ≡ o → h.item ≡ x → first_item h.behind ≡ p
    → moves_of m ≡ roll_by f h (record { head = bh; tail = bt }))
    → IsMove m.head → IsMove m.tail → IsZone z at m.head last m.tail → last ≡ (at +ℤ ticks x)
    → s ≡ roll_shape m.head m.tail
    → (n : ℕ) (h : Held) → f ≡ pos n → at ≡ start h → last_item h.before ≡ o → h.item ≡ x
    → first_item h.behind ≡ p → pos 0 <ℤ ticks h.item
    → IsMotion (pos n) (M.Roll head tail) h (W.Edges z s (pos 0))
roll_as f at head tail bh bt last o p x m z s low e1 e2 i mh mt w l j n h k a b c d t =
    let from = w.from in let to = w.to in
    let ends : last ≡ end h = let long = ap ticks c in omega (arith, ints, l, a, long) in
    as_is (pos n) (M.Roll head tail) h z s (roll_shape m.head m.tail) (pos 0) (pos 0) j refl
    (roll_is n head tail h z (moves_of m) (omega (arith, ints, low, k)) t
    (i h b c d ∙ ap₂ (λ u v. let r : edges.Moves = record { head = u; tail = v } in roll_by f h r)
    e1 e2 ∙ ap (λ r. roll_by r h (in_ticks r head tail)) k) mh mt
    (from ∙ ap (λ r. int_min r (r +ℤ m.head)) a) (to ∙ ap (λ r. int_max r (r +ℤ m.tail)) ends)
    w.near_from w.near_to)

pub trim_as : (f at head tail bh bt last g : ℤ) (o p : Option (ItemOf Listed)) (x : ItemOf Listed)
    (m : Moves) (z : Interval) (s : Shape) (u v : Bool) → pos 1 ≤ℤ f → bh ≡ (head *ℤ f)
    → bt ≡ (tail *ℤ f)
    → ((h : Held) → last_item h.before ≡ o → h.item ≡ x → first_item h.behind ≡ p
    → moves_of m ≡ trim_by f h (record { head = bh; tail = bt }))
    → IsMove m.head → IsMove m.tail → IsZone z at m.head last m.tail → last ≡ (at +ℤ ticks x)
    → s ≡ trim_shape u v m.head m.tail → u ≡ is_gap_at o → v ≡ is_gap_at p
    → g ≡ trim_growth p m.tail
    → (n : ℕ) (h : Held) → f ≡ pos n → at ≡ start h → last_item h.before ≡ o → h.item ≡ x
    → first_item h.behind ≡ p → pos 0 <ℤ ticks h.item
    → IsMotion (pos n) (M.Trim head tail) h (W.Edges z s g)
trim_as f at head tail bh bt last g o p x m z s u v low e1 e2 i mh mt w l j eu ev eg n h k a b c d
    t =
    let from = w.from in let to = w.to in
    let ends : last ≡ end h = let long = ap ticks c in omega (arith, ints, l, a, long) in
    as_is (pos n) (M.Trim head tail) h z s (trim_shape u v m.head m.tail) g g j refl
    (trim_is n head tail h z (moves_of m) u v g (omega (arith, ints, low, k)) t
    (i h b c d ∙ ap₂ (λ y q. let r : edges.Moves = record { head = y; tail = q } in trim_by f h r)
    e1 e2 ∙ ap (λ r. trim_by r h (in_ticks r head tail)) k)
    (ap is_gap_at b ∙ sym eu) (ap is_gap_at d ∙ sym ev)
    (eg ∙ ap (λ q. trim_growth q m.tail) (sym d)) mh mt
    (from ∙ ap (λ r. int_min r (r +ℤ m.head)) a) (to ∙ ap (λ r. int_max r (r +ℤ m.tail)) ends)
    w.near_from w.near_to)
