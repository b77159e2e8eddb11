-- Each accepted edit shows what its law says.
use Rattle.std.proofs.Common.{◌≡◌, refl, sym, subst, ap, ℕ, ◌*◌, ◌<◌, ℤ, pos, ◌+ℤ◌, ◌-ℤ◌, ◌*ℤ◌, ◌≤ℤ◌, ◌<ℤ◌, ◌&&◌, Bool, true, false, Option, Some, None, List, arith}
use Rattle.std.specs.Prelude.{int_lt, is_none, not, option_map}
use Rattle.std.proofs.lemmas.Int.{ints}
use Rattle.otio_model.specs.declared.compositions.ItemOf.{ItemOf}
use Rattle.otio_model.specs.declared.compositions.ItemOf.TheVariants.{Clip, Gap, Transition, Stack, Track}
use Rattle.otio_model.specs.declared.compositions.Listed.{Listed}
use Rattle.otio_model.specs.declared.timelines.Timeline.{Timeline}
use Rattle.otio_model.specs.declared.effect_types.Effect.{Effect}
use Rattle.otio_model.specs.declared.edit_types.Edit.{Edit}
use Rattle.otio_model.specs.declared.edit_types.Edit.TheVariants as A
use Rattle.otio_model.specs.declared.edit_types.FillMode.{FillMode}
use Rattle.otio_model.specs.declared.edit_types.FillMode.TheVariants as M
use Rattle.coord.specs.Looks.{Show, list_shows}
use Rattle.coord.specs.Sights.{View, overlap_of}
use Rattle.edits.specs.Children.{Child, Old, ticks, child_looks}
use Rattle.edits.specs.Cuts.{is_whole_at}
use Rattle.edits.specs.Edges.{Held, held_at, start, Moves, clamped, whole_frames, whole_limit, lesser, head_room, tail_room, slide_by, slid, ripple_by, trim_by, roll_head, roll_tail, gap_before, gap_behind, gap_ticks, is_gap, last_item, first_item, is_zero}
use Rattle.edits.specs.Edits.{edited, at_held, beside, filling, in_ticks, with_effect}
use Rattle.edits.specs.Laws.{law, law_held, law_beside, slide_law}
use Rattle.edits.specs.Good.{AreFair, IsPut, IsHeld, IsMoved, IsBefore, IsBehind, IsTrimmedBefore, IsTrimmedBehind, Suits}
use Rattle.edits.specs.After.{at_of}
use Rattle.edits.specs.Refusals.{cuts_fill, of_held}
use Rattle.edits_law.proofs.Splice.{cases}
use Rattle.edits_law.proofs.Parted.{added_low}
use Rattle.edits_law.proofs.ListLaws.{overwrite_shows, insert_shows, slice_shows, remove_shows}
use Rattle.edits_law.proofs.EdgeLaws.{ripple_shows}
use Rattle.edits_law.proofs.SlideLaw.{slide_shows, slip_shows}
use Rattle.edits_law.proofs.RollLaws.{roll_shows}
use Rattle.edits_law.proofs.TrimLaw.{trim_shows}
use Rattle.edits_law.proofs.Clamps.{Whole, times_whole, down_limit, downs_limit, lesser_limit, clamped_whole, clamped_low, clamped_high, down_high, down_one, down_less, low_first, low_second, high_first, high_second, whole_at, none_whole}
use Rattle.edits_law.proofs.Accepted.{found, is_held, Passed, cuts_end, both_of, times_low, lt_no, put_old}

-- what holds of each held item, where there is one
with_held : (v : View) (l : List (ItemOf Listed)) (a w : ℤ) (g : Held → List Child) (s : Held → Show) → is_none (held_at l a) ≡ false
    → ((h : Held) → held_at l a ≡ Some h → list_shows (child_looks v (g h)) w ≡ s h) → list_shows (child_looks v (at_held l a g)) w ≡ law_held l a s
with_held v l a w g s n k = by (held_at l a) refl
  where
    by : (o : Option Held) → held_at l a ≡ o → list_shows (child_looks v (at_held l a g)) w ≡ law_held l a s
    by None e = absurd (cc (rw e at n))
    by (Some h) e = rw (e, at_held, law_held) (k h e)

held : (l : List (ItemOf Listed)) (a : ℤ) (h : Held) → AreFair l → held_at l a ≡ Some h → IsHeld l h
held l a h f e = is_held l a h f (found l a h e)

some_ticks : (l : List (ItemOf Listed)) (a : ℤ) (h : Held) → held_at l a ≡ Some h → pos 0 <ℤ ticks h.item
some_ticks l a h e = let k = found l a h e in let from = k.from in let to = k.to in omega (arith, ints)

-- what fills a gap is an item
pub with_thing : (e : Effect) (x : ItemOf Listed) → overlap_of x ≡ None → overlap_of (with_effect e x) ≡ None
with_thing e (Clip c) h = refl
with_thing e (Gap g) h = refl
with_thing e (Transition t) h = absurd (cc h)
with_thing e (Stack k) h = refl
with_thing e (Track t) h = refl

put_filling : (mode : FillMode) (x : ItemOf Listed) (room : ℤ) → pos 0 ≤ℤ room → overlap_of x ≡ None → IsPut (filling mode x room)
put_filling M.Source x room h e = put_old x e
put_filling M.Sequence x room h e = cases (int_lt room (ticks x)) (λ s. rw s (record { whole = h; item = e })) (λ s. rw s (put_old x e))
put_filling M.Fit x room h e = record { whole = h; item = with_thing _ x e }

-- ---- the moves of each edge edit

slide_left : (n : ℕ) (y : ItemOf Listed) (by : ℤ) → 0 < n → pos 0 ≤ℤ (ticks y +ℤ slide_by (pos n) y by)
slide_left n y by h =
    let a = clamped_low n (whole_frames (pos n) (ticks y -ℤ pos 1)) (whole_limit (pos n) (tail_room y)) by (down_limit n (ticks y -ℤ pos 1) h) (downs_limit n (tail_room y) h) in
    let b = down_one n (ticks y) h (omega (arith, ints)) in
    omega (arith, ints, a, b)

-- moves that leave a length, in whole frames
left_over : (n : ℕ) (x : ItemOf Listed) (head tail : ℤ) → 0 < n → head <ℤ ticks x → (pos 0 -ℤ whole_frames (pos n) ((ticks x -ℤ head) -ℤ pos 1)) ≤ℤ tail → pos 0 ≤ℤ ((ticks x -ℤ head) +ℤ tail)
left_over n x head tail h k m = let e = down_less n (ticks x -ℤ head) h (omega (arith, ints)) in omega (arith, ints, e)

whole_move : (n u : ℕ) (x : ItemOf Listed) (z : ℤ) → n ≡ 1000000 * u → Whole n z → is_whole_at x z ≡ true
whole_move n u x z e w = whole_at x u z (subst (λ k. Whole k z) e w)

ripple_moved : (n u : ℕ) (x : ItemOf Listed) (head tail : ℤ) → n ≡ 1000000 * u → 0 < n → pos 0 <ℤ ticks x → IsMoved x (ripple_by (pos n) x (in_ticks (pos n) head tail))
ripple_moved n u x head tail e h k =
    by (clamped (whole_limit (pos n) (head_room x)) (Some (whole_frames (pos n) (ticks x -ℤ pos 1))) (head *ℤ pos n)) refl
  where
    by : (m : ℤ) → clamped (whole_limit (pos n) (head_room x)) (Some (whole_frames (pos n) (ticks x -ℤ pos 1))) (head *ℤ pos n) ≡ m → IsMoved x (ripple_by (pos n) x (in_ticks (pos n) head tail))
    by m s =
        let high = clamped_high (whole_limit (pos n) (head_room x)) (whole_frames (pos n) (ticks x -ℤ pos 1)) (head *ℤ pos n) in
        let less = down_less n (ticks x) h k in
        let low = clamped_low n (whole_frames (pos n) ((ticks x -ℤ m) -ℤ pos 1)) (whole_limit (pos n) (tail_room x)) (tail *ℤ pos n) (down_limit n ((ticks x -ℤ m) -ℤ pos 1) h) (downs_limit n (tail_room x) h) in
        let below : m <ℤ ticks x = omega (arith, ints, high, less, s) in
        let whole = clamped_whole n (whole_limit (pos n) (head_room x)) (Some (whole_frames (pos n) (ticks x -ℤ pos 1))) (head *ℤ pos n) (downs_limit n (head_room x) h) (down_limit n (ticks x -ℤ pos 1) h) (times_whole n head) in
        record {
          left = rw s (left_over n x m (clamped (Some (whole_frames (pos n) ((ticks x -ℤ m) -ℤ pos 1))) (whole_limit (pos n) (tail_room x)) (tail *ℤ pos n)) h below low);
          whole = whole_move n u x _ e whole;
        }

-- ---- trim

pub gap_low : (y : ItemOf Listed) → pos 0 ≤ℤ gap_ticks y
gap_low y = cases (is_gap y) (λ s. rw s (omega (arith, ints))) (λ s. rw s (omega (arith, ints)))

pub before_low : (h : Held) → pos 0 ≤ℤ gap_before h
before_low h = by (last_item h.before)
  where
    by : (o : Option (ItemOf Listed)) → pos 0 ≤ℤ (elim o [ None ↦ pos 0 | Some y ↦ gap_ticks y ])
    by None = omega (arith, ints)
    by (Some y) = gap_low y

pub head_gap : (h : Held) (o : Option (ItemOf Listed)) (m : ℤ) → last_item h.before ≡ o → (pos 0 -ℤ gap_before h) ≤ℤ m → IsTrimmedBefore o m
head_gap h None m e g =
    let k : gap_before h ≡ pos 0 = ap (λ (p : Option (ItemOf Listed)). elim p [ None ↦ pos 0 | Some y ↦ gap_ticks y ]) e in omega (arith, ints)
head_gap h (Some z) m e g =
    let k : gap_before h ≡ gap_ticks z = ap (λ (p : Option (ItemOf Listed)). elim p [ None ↦ pos 0 | Some y ↦ gap_ticks y ]) e in omega (arith, ints)

pub tail_gap : (n : ℕ) (h : Held) (o : Option (ItemOf Listed)) (z : ℤ) (below room : Option ℤ) → 0 < n → first_item h.behind ≡ o → IsTrimmedBehind o (clamped below (lesser (whole_limit (pos n) (gap_behind h)) room) z)
tail_gap n h None z below room k e = tt
tail_gap n h (Some y) z below room k e =
    let g : gap_behind h ≡ Some (gap_ticks y) = ap (option_map gap_ticks) e in
    let a = high_first below (whole_frames (pos n) (gap_ticks y)) room z in
    let b = down_high n (gap_ticks y) k (gap_low y) in
    subst (λ q. pos 0 ≤ℤ (gap_ticks y -ℤ clamped below (lesser (whole_limit (pos n) q) room) z)) (sym g) (omega (arith, ints, a, b))

record Trims (h : Held) (m : Moves) : Type 0 where
  moved : IsMoved h.item m
  before : IsTrimmedBefore (last_item h.before) m.head
  behind : IsTrimmedBehind (first_item h.behind) m.tail

trims : (n u : ℕ) (h : Held) (head tail : ℤ) → n ≡ 1000000 * u → 0 < n → pos 0 <ℤ ticks h.item → Trims h (trim_by (pos n) h (in_ticks (pos n) head tail))
trims n u h head tail e k z =
    by (clamped (lesser (Some (whole_frames (pos n) (gap_before h))) (whole_limit (pos n) (head_room h.item))) (Some (whole_frames (pos n) (ticks h.item -ℤ pos 1))) (head *ℤ pos n)) refl
  where
    by : (m : ℤ) → clamped (lesser (Some (whole_frames (pos n) (gap_before h))) (whole_limit (pos n) (head_room h.item))) (Some (whole_frames (pos n) (ticks h.item -ℤ pos 1))) (head *ℤ pos n) ≡ m → Trims h (trim_by (pos n) h (in_ticks (pos n) head tail))
    by m s =
        let high = clamped_high (lesser (Some (whole_frames (pos n) (gap_before h))) (whole_limit (pos n) (head_room h.item))) (whole_frames (pos n) (ticks h.item -ℤ pos 1)) (head *ℤ pos n) in
        let less = down_less n (ticks h.item) k z in
        let o = down_limit n (gap_before h) k in
        let q = downs_limit n (head_room h.item) k in
        let r = down_limit n (ticks h.item -ℤ pos 1) k in
        let low_head = low_first n (whole_frames (pos n) (gap_before h)) (whole_limit (pos n) (head_room h.item)) (Some (whole_frames (pos n) (ticks h.item -ℤ pos 1))) (head *ℤ pos n) o q r in
        let gap = down_high n (gap_before h) k (before_low h) in
        let tails = lesser_limit n (whole_limit (pos n) (gap_behind h)) (whole_limit (pos n) (tail_room h.item)) (downs_limit n (gap_behind h) k) (downs_limit n (tail_room h.item) k) in
        let low = clamped_low n (whole_frames (pos n) ((ticks h.item -ℤ m) -ℤ pos 1)) (lesser (whole_limit (pos n) (gap_behind h)) (whole_limit (pos n) (tail_room h.item))) (tail *ℤ pos n) (down_limit n ((ticks h.item -ℤ m) -ℤ pos 1) k) tails in
        let below : m <ℤ ticks h.item = omega (arith, ints, high, less, s) in
        let whole = clamped_whole n (lesser (Some (whole_frames (pos n) (gap_before h))) (whole_limit (pos n) (head_room h.item))) (Some (whole_frames (pos n) (ticks h.item -ℤ pos 1))) (head *ℤ pos n) (lesser_limit n (Some (whole_frames (pos n) (gap_before h))) (whole_limit (pos n) (head_room h.item)) o q) r (times_whole n head) in
        record {
          moved = record {
            left = rw s (left_over n h.item m (clamped (Some (whole_frames (pos n) ((ticks h.item -ℤ m) -ℤ pos 1))) (lesser (whole_limit (pos n) (gap_behind h)) (whole_limit (pos n) (tail_room h.item))) (tail *ℤ pos n)) k below low);
            whole = whole_move n u h.item _ e whole;
          };
          before = head_gap h (last_item h.before) _ refl (omega (arith, ints, low_head, gap));
          behind = tail_gap n h (first_item h.behind) (tail *ℤ pos n) (Some (whole_frames (pos n) ((ticks h.item -ℤ clamped (lesser (Some (whole_frames (pos n) (gap_before h))) (whole_limit (pos n) (head_room h.item))) (Some (whole_frames (pos n) (ticks h.item -ℤ pos 1))) (head *ℤ pos n)) -ℤ pos 1))) (whole_limit (pos n) (tail_room h.item)) k refl;
        }

-- ---- roll

-- a roll of the head leaves what it has to
record RollsHead (n : ℕ) (h : Held) (m : ℤ) : Type 0 where
  whole : Whole n m
  below : m <ℤ ticks h.item
  before : IsBefore (last_item h.before) m

rolls_head : (n : ℕ) (h : Held) (head : ℤ) → 0 < n → pos 0 <ℤ ticks h.item → RollsHead n h (roll_head (pos n) h (head *ℤ pos n))
rolls_head n h head k z = by (last_item h.before) refl
  where
    by : (o : Option (ItemOf Listed)) → last_item h.before ≡ o → RollsHead n h (roll_head (pos n) h (head *ℤ pos n))
    by None e =
        let g : roll_head (pos n) h (head *ℤ pos n) ≡ pos 0 = rw (e, roll_head) refl in
        rw g (record { whole = none_whole n; below = z; before = rw e refl })
    by (Some y) e = cases (is_zero (head *ℤ pos n))
        (λ s. let g : roll_head (pos n) h (head *ℤ pos n) ≡ pos 0 = rw (e, roll_head, s) refl in
        rw g (record { whole = none_whole n; below = z; before = rw e (omega (arith, ints)) }))
        (λ s.
        let a : Option ℤ = lesser (whole_limit (pos n) (head_room h.item)) (Some (whole_frames (pos n) (ticks y -ℤ pos 1))) in
        let g : roll_head (pos n) h (head *ℤ pos n) ≡ clamped (lesser (whole_limit (pos n) (head_room h.item)) (Some (whole_frames (pos n) (ticks y -ℤ pos 1)))) (lesser (Some (whole_frames (pos n) (ticks h.item -ℤ pos 1))) (whole_limit (pos n) (tail_room y))) (head *ℤ pos n) = rw (e, roll_head, s) refl in
        let o = downs_limit n (head_room h.item) k in
        let q = down_limit n (ticks y -ℤ pos 1) k in
        let r = down_limit n (ticks h.item -ℤ pos 1) k in
        let t = downs_limit n (tail_room y) k in
        let above = lesser_limit n (Some (whole_frames (pos n) (ticks h.item -ℤ pos 1))) (whole_limit (pos n) (tail_room y)) r t in
        let low = low_second n (whole_limit (pos n) (head_room h.item)) (whole_frames (pos n) (ticks y -ℤ pos 1)) (lesser (Some (whole_frames (pos n) (ticks h.item -ℤ pos 1))) (whole_limit (pos n) (tail_room y))) (head *ℤ pos n) o q above in
        let one = down_one n (ticks y) k (omega (arith, ints)) in
        let high = high_first (lesser (whole_limit (pos n) (head_room h.item)) (Some (whole_frames (pos n) (ticks y -ℤ pos 1)))) (whole_frames (pos n) (ticks h.item -ℤ pos 1)) (whole_limit (pos n) (tail_room y)) (head *ℤ pos n) in
        let less = down_less n (ticks h.item) k z in
        let whole = clamped_whole n (lesser (whole_limit (pos n) (head_room h.item)) (Some (whole_frames (pos n) (ticks y -ℤ pos 1)))) (lesser (Some (whole_frames (pos n) (ticks h.item -ℤ pos 1))) (whole_limit (pos n) (tail_room y))) (head *ℤ pos n)
        (lesser_limit n (whole_limit (pos n) (head_room h.item)) (Some (whole_frames (pos n) (ticks y -ℤ pos 1))) o q) above (times_whole n head) in
        rw g (record { whole = whole; below = omega (arith, ints, high, less); before = rw e (omega (arith, ints, low, one)) }))

record RollsTail (n : ℕ) (h : Held) (head m : ℤ) : Type 0 where
  whole : Whole n m
  left : pos 0 ≤ℤ ((ticks h.item -ℤ head) +ℤ m)
  behind : (u : ℕ) → n ≡ 1000000 * u → IsBehind (first_item h.behind) m

rolls_tail : (n : ℕ) (h : Held) (head tail : ℤ) → 0 < n → head <ℤ ticks h.item → RollsTail n h head (roll_tail (pos n) h head (tail *ℤ pos n))
rolls_tail n h head tail k z = by (first_item h.behind) refl
  where
    by : (o : Option (ItemOf Listed)) → first_item h.behind ≡ o → RollsTail n h head (roll_tail (pos n) h head (tail *ℤ pos n))
    by None e =
        let g : roll_tail (pos n) h head (tail *ℤ pos n) ≡ pos 0 = rw (e, roll_tail) refl in
        rw g (record { whole = none_whole n; left = omega (arith, ints); behind = λ u f. rw e refl })
    by (Some y) e = cases (is_zero (tail *ℤ pos n))
        (λ s. let g : roll_tail (pos n) h head (tail *ℤ pos n) ≡ pos 0 = rw (e, roll_tail, s) refl in
        rw g (record { whole = none_whole n; left = omega (arith, ints); behind = λ u f. rw e (omega (arith, ints), whole_move n u y (pos 0) f (none_whole n)) }))
        (λ s.
        let g : roll_tail (pos n) h head (tail *ℤ pos n) ≡ clamped (lesser (Some (whole_frames (pos n) ((ticks h.item -ℤ head) -ℤ pos 1))) (whole_limit (pos n) (head_room y))) (lesser (whole_limit (pos n) (tail_room h.item)) (Some (whole_frames (pos n) (ticks y -ℤ pos 1)))) (tail *ℤ pos n) = rw (e, roll_tail, s) refl in
        let o = down_limit n ((ticks h.item -ℤ head) -ℤ pos 1) k in
        let q = downs_limit n (head_room y) k in
        let r = downs_limit n (tail_room h.item) k in
        let t = down_limit n (ticks y -ℤ pos 1) k in
        let above = lesser_limit n (whole_limit (pos n) (tail_room h.item)) (Some (whole_frames (pos n) (ticks y -ℤ pos 1))) r t in
        let low = low_first n (whole_frames (pos n) ((ticks h.item -ℤ head) -ℤ pos 1)) (whole_limit (pos n) (head_room y)) (lesser (whole_limit (pos n) (tail_room h.item)) (Some (whole_frames (pos n) (ticks y -ℤ pos 1)))) (tail *ℤ pos n) o q above in
        let one = down_one n (ticks y) k (omega (arith, ints)) in
        let high = high_second (lesser (Some (whole_frames (pos n) ((ticks h.item -ℤ head) -ℤ pos 1))) (whole_limit (pos n) (head_room y))) (whole_limit (pos n) (tail_room h.item)) (whole_frames (pos n) (ticks y -ℤ pos 1)) (tail *ℤ pos n) in
        let whole = clamped_whole n (lesser (Some (whole_frames (pos n) ((ticks h.item -ℤ head) -ℤ pos 1))) (whole_limit (pos n) (head_room y))) (lesser (whole_limit (pos n) (tail_room h.item)) (Some (whole_frames (pos n) (ticks y -ℤ pos 1)))) (tail *ℤ pos n)
        (lesser_limit n (Some (whole_frames (pos n) ((ticks h.item -ℤ head) -ℤ pos 1))) (whole_limit (pos n) (head_room y)) o q) above (times_whole n tail) in
        rw g (record {
          whole = whole;
          left = left_over n h.item head _ k z low;
          behind = λ u f. rw e (omega (arith, ints, high, one), whole_move n u y _ f whole);
        }))

-- ---- all ten

not_none : (b : Bool) (o : Bool) → (b && o) ≡ false → b ≡ true → o ≡ false
not_none true o e f = e
not_none false o e f = absurd (cc f)

pub accepted : (v : View) (t : Timeline) (e : Edit) (n u : ℕ) (l : List (ItemOf Listed)) (w : ℤ) → n ≡ 1000000 * u → 0 < n → AreFair l → Suits e → Passed t e (pos n) l (held_at l (at_of e *ℤ pos n))
    → list_shows (child_looks v (edited (pos n) e l)) w ≡ law v (pos n) e l w
accepted v t (A.Overwrite place at x) n u l w d k f s p = overwrite_shows v l (at *ℤ pos n) (Old x) w f (put_old x s) (times_low at n (lt_no at (pos 0) p.at)) (both_of _ _ p.phase)
accepted v t (A.Insert place at x) n u l w d k f s p = insert_shows v l (at *ℤ pos n) x w f (put_old x s) (times_low at n (lt_no at (pos 0) p.at)) (both_of _ _ p.phase)
accepted v t (A.Slice place at) n u l w d k f s p = slice_shows v l (at *ℤ pos n) w f (times_low at n (lt_no at (pos 0) p.at)) (both_of _ _ p.phase)
accepted v t (A.Fill place at mode x) n u l w d k f s p = with_held v l (at *ℤ pos n) w _ _ p.item (λ h e.
    overwrite_shows v l (start h) (filling mode x (ticks h.item)) w f (put_filling mode x (ticks h.item) (omega (arith, ints)) s) (added_low h.before)
    (both_of _ _ (both_of _ _ (fill_phase h e))))
  where
    fill_phase : (h : Held) → held_at l (at *ℤ pos n) ≡ Some h → cuts_fill mode x l h ≡ true
    fill_phase h e = twice (cuts_fill mode x l h) (subst (λ o. not (of_held (λ i. not (cuts_fill mode x l i)) o) ≡ true) e p.phase)
      where
        twice : (b : Bool) → not (not b) ≡ true → b ≡ true
        twice true r = refl
        twice false r = r
accepted v t (A.Remove place at mode) n u l w d k f s p = with_held v l (at *ℤ pos n) w _ _ p.item (λ h e. remove_shows mode v l h w f (added_low h.before) (cuts_end l h (held l _ h f e)))
accepted v t (A.Trim place at head tail) n u l w d k f s p = with_held v l (at *ℤ pos n) w _ _ p.item (λ h e.
    let r = trims n u h head tail d k (some_ticks l _ h e) in
    trim_shows v l h _ w (held l _ h f e) r.moved r.before r.behind)
accepted v t (A.Slip place at by) n u l w d k f s p = with_held v l (at *ℤ pos n) w _ _ p.item (λ h e. slip_shows v (pos n) (by *ℤ pos n) w h)
accepted v t (A.Slide place at by) n u l w d k f s p = with_held v l (at *ℤ pos n) w _ _ p.item (λ h e. besides h e (last_item h.before) refl)
  where
    besides : (h : Held) → held_at l (at *ℤ pos n) ≡ Some h → (o : Option (ItemOf Listed)) → last_item h.before ≡ o
        → list_shows (child_looks v (beside h (λ y. slid h (slide_by (pos n) y (by *ℤ pos n))))) w ≡ law_beside h (λ y. slide_law v l h y (slide_by (pos n) y (by *ℤ pos n)) w)
    besides h e None g = absurd (cc (rw g at (subst (λ o. of_held (λ i. is_none (last_item i.before)) o ≡ false) e p.neighbour)))
    besides h e (Some y) g = rw (g, beside, law_beside) (slide_shows v l h y (slide_by (pos n) y (by *ℤ pos n)) w (held l _ h f e) g (slide_left n y (by *ℤ pos n) k))
accepted v t (A.Ripple place at head tail) n u l w d k f s p = with_held v l (at *ℤ pos n) w _ _ p.item (λ h e.
    ripple_shows v l h _ w (held l _ h f e) (ripple_moved n u h.item head tail d k (some_ticks l _ h e)))
accepted v t (A.Roll place at head tail) n u l w d k f s p = with_held v l (at *ℤ pos n) w _ _ p.item (λ h e.
    let a = rolls_head n h head k (some_ticks l _ h e) in
    let b = rolls_tail n h (roll_head (pos n) h (head *ℤ pos n)) tail k a.below in
    roll_shows v l h _ w (held l _ h f e) (record { left = b.left; whole = whole_move n u h.item _ d a.whole }) a.before (b.behind u d))
