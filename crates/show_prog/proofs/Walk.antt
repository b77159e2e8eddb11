-- Steps of the walks over a list.
use mathlib.Core.Path.{fun_ext}
use Rattle.std.proofs.Common.{◌≡◌, refl, sym, ap, ap₂, ◌∙◌, subst, ℕ, ◌+◌, ◌<◌, ◌≤◌, ℤ, pos, ◌+ℤ◌, ◌-ℤ◌, ◌≤ℤ◌, ◌<ℤ◌, true, false, List, [], ◌∷◌, map, Option, Some, None, drop, slice_get, arith}
use Rattle.std.specs.Prelude.{IfSome, length}
use Rattle.std.proofs.lemmas.Int.{ints}
use Rattle.limits.specs.Limits.{most_ticks}
use Rattle.otio_model.specs.declared.compositions.Transition.{Transition as TransitionRow}
use Rattle.otio_model.specs.declared.compositions.ItemOf.{ItemOf}
use Rattle.otio_model.specs.declared.compositions.ItemOf.TheVariants.{Clip, Gap, Transition, Stack, Track}
use Rattle.otio_model.specs.declared.compositions.Listed.{Listed}
use Rattle.otio_model.specs.Trees.{items_of}
use Rattle.otio_model.specs.Lengths.{added, lengths, length_of, or_zero}
use Rattle.otio_model.specs.Overlaps.{within, offset_of}
use Rattle.coord.specs.Looks.{Show, total, mixed, item_shows, next_shows, mix_shows, blank}
use Rattle.coord.specs.Sights.{View, sight, seen, looks}
use Rattle.show_prog.specs.Walk.{side, IsActive, IsHolder}
use Rattle.show_prog.specs.declared.item_at.ActiveTransition.{ActiveTransition}
use Rattle.show_prog.specs.declared.item_at.Held.{Held}
use Rattle.coord.proofs.Members.{next, none_left}
use Rattle.coord.proofs.SightLemmas.{look_length}
use Rattle.coord.proofs.ChildStarts.{added_more}
use Rattle.show_prog.proofs.SoundnessFacts.{Here, left_from, left_all, left_none}
use Rattle.coord.proofs.LookSteps.{item_hit, item_past, mix_item, mix_miss, side_item, is_within, missed_before, missed_behind}
use Rattle.coord.proofs.Within.{within_is}

-- an item that is no transition has no overlap
pub no_overlap : (x : ItemOf Listed) → ((w : TransitionRow) → x ≡ Transition w → ⊥) → (sight x).overlap ≡ None
no_overlap (Clip c) n = refl
no_overlap (Gap k) n = refl
no_overlap (Transition w) n = absurd (n w refl)
no_overlap (Track t) n = refl
no_overlap (Stack t) n = refl

-- ---- the next item that is no transition

pub next_past : (v : View) (u : ℤ) (l : List (ItemOf Listed)) (i : ℕ) (x : ItemOf Listed) (w : TransitionRow) (all : Show) → slice_get l i ≡ Some x → x ≡ Transition w
    → all ≡ next_shows (looks v (drop i l)) u → all ≡ next_shows (looks v (drop (i + 1) l)) u
next_past v u l i x w all get is same = same ∙ ap (λ m. next_shows (looks v m) u) (next l i x get) ∙ ap (λ y. next_shows (looks v (y ∷ drop (i + 1) l)) u) is

pub next_here : (v : View) (u : ℤ) (l : List (ItemOf Listed)) (i : ℕ) (x : ItemOf Listed) (all : Show) → slice_get l i ≡ Some x → ((w : TransitionRow) → x ≡ Transition w → ⊥)
    → all ≡ next_shows (looks v (drop i l)) u → all ≡ side v l (Some i) u
next_here v u l i x all get n same =
    same ∙ ap (λ m. next_shows (looks v m) u) (next l i x get) ∙ side_item (seen v (sight x)) (looks v (drop (i + 1) l)) u (no_overlap x n) ∙ rw get refl

-- ---- the item that holds an instant

sum_length : (v : View) (l : List (ItemOf Listed)) → total (looks v l) ≡ pos (added (map length_of l))
sum_length v [] = refl
sum_length v (x ∷ l) = let e = look_length v x (or_zero (length_of x)) refl in let f = sum_length v l in let g = added_more (length_of x) (map length_of l) in omega (arith, ints, e, f, g)

-- what is available of a list is the sum of its looks' lengths
pub total_is : (v : View) (l : Listed) → total (looks v (items_of l)) ≡ pos (added (lengths l))
total_is v l = sum_length v (items_of l) ∙ ap (λ n. pos n) (left_all l)

-- where the walk for the holder stands before item i
pub record Passed (l : Listed) (at : ℤ) (i : ℕ) (start : ℤ) : Type 0 where
  pub low : pos 0 ≤ℤ start
  pub passed : start ≤ℤ at
  pub sum : start +ℤ pos (left_from l i) ≡ pos (added (lengths l))
  pub same : (v : View) → item_shows (looks v (items_of l)) at ≡ item_shows (looks v (drop i (items_of l))) (at -ℤ start)

pub passed_begins : (l : Listed) (at start : ℤ) → start ≡ pos 0 → pos 0 ≤ℤ at → Passed l at 0 start
passed_begins l at start e h = let a = left_all l in record {
  low = omega (arith, ints);
  passed = omega (arith, ints);
  sum = omega (arith, ints);
  same = λ v. ap (item_shows (looks v (items_of l))) (omega (arith, ints));
}

pub passed_next : (l : Listed) (at : ℤ) (i : ℕ) (x : ItemOf Listed) (start after : ℤ) → Passed l at i start → Here l i x → after ≡ start +ℤ pos (or_zero (length_of x)) → after ≤ℤ at → Passed l at (i + 1) after
passed_next l at i x start after p h e past = let a = p.low in let b = p.passed in let c = p.sum in let d = h.sum in record {
  low = omega (arith, ints);
  passed = past;
  sum = omega (arith, ints);
  same = λ v. let n = look_length v x (or_zero (length_of x)) refl in
      p.same v ∙ ap (λ m. item_shows (looks v m) (at -ℤ start)) h.next
      ∙ item_past (seen v (sight x)) (looks v (drop (i + 1) (items_of l))) (at -ℤ start) (omega (arith, ints))
      ∙ ap (item_shows (looks v (drop (i + 1) (items_of l)))) (omega (arith, ints));
}

pub passed_here : (l : Listed) (at : ℤ) (i : ℕ) (x : ItemOf Listed) (start : ℤ) (held : Held) → Passed l at i start → Here l i x → i < length (items_of l) → at <ℤ (start +ℤ pos (or_zero (length_of x)))
    → held.index ≡ i → held.ticks ≡ at -ℤ start → IsHolder l at held
passed_here l at i x start held p h index hit e f = let a = p.low in let b = p.passed in let c = p.sum in let d = h.sum in let n = h.ticks in record {
  inside = is_within (pos 0) (pos (added (lengths l))) at (omega (arith, ints)) (omega (arith, ints));
  index = rw e index;
  low = omega (arith, ints);
  high = omega (arith, ints);
  shows = λ v. let k = look_length v x (or_zero (length_of x)) refl in
      p.same v ∙ ap (λ m. item_shows (looks v m) (at -ℤ start)) h.next
      ∙ item_hit (seen v (sight x)) (looks v (drop (i + 1) (items_of l))) (at -ℤ start) (omega (arith, ints)) (omega (arith, ints))
      ∙ rw (e, h.get) (ap ((sight x).shows v) (sym f));
}

pub passed_all : (l : Listed) (at : ℤ) (i : ℕ) (start : ℤ) → Passed l at i start → length (items_of l) ≤ i → within (pos 0) (pos (added (lengths l))) at ≡ false
passed_all l at i start p h = let a = p.low in let b = p.passed in let c = p.sum in let e = left_none l i h in missed_behind (pos 0) (pos (added (lengths l))) at (omega (arith, ints))

pub none_before : (l : Listed) (at : ℤ) → at <ℤ pos 0 → within (pos 0) (pos (added (lengths l))) at ≡ false
none_before l at h = missed_before (pos 0) (pos (added (lengths l))) at h

-- ---- the overlap that holds an instant

-- where the walk for an overlap stands before item i
pub record Walked (l : Listed) (at : ℤ) (i : ℕ) (start since : ℤ) (before : Option ℕ) : Type 0 where
  pub low : pos 0 ≤ℤ start
  pub sum : start +ℤ pos (left_from l i) ≡ pos (added (lengths l))
  pub since_low : pos 0 ≤ℤ since
  pub since_high : since ≤ℤ pos most_ticks
  pub earlier : IfSome before (λ j. j < i)
  pub same : (v : View) → mix_shows blank (looks v (items_of l)) at ≡ mix_shows (λ z. side v (items_of l) before (z +ℤ since)) (looks v (drop i (items_of l))) (at -ℤ start)

pub later : (o : Option ℕ) (m n : ℕ) → m ≤ n → IfSome o (λ j. j < m) → IfSome o (λ j. j < n)
later None m n h k = tt
later (Some j) m n h k = omega (arith, h, k)

pub walk_begins : (l : Listed) (at start since : ℤ) (before : Option ℕ) → start ≡ pos 0 → since ≡ pos 0 → before ≡ None → Walked l at 0 start since before
walk_begins l at start since before e f g = let a = left_all l in record {
  low = omega (arith, ints);
  sum = omega (arith, ints);
  since_low = omega (arith, ints);
  since_high = omega (arith, ints);
  earlier = rw g tt;
  same = λ v. rw g (ap (mix_shows blank (looks v (items_of l))) (omega (arith, ints)));
}

mix_past_item : (v : View) (l : Listed) (i : ℕ) (x : ItemOf Listed) (before : ℤ → Show) (at start after since : ℤ) → Here l i x → (sight x).overlap ≡ None
    → mix_shows blank (looks v (items_of l)) at ≡ mix_shows before (looks v (drop i (items_of l))) (at -ℤ start) → after ≡ start +ℤ pos (or_zero (length_of x)) → since ≡ pos (or_zero (length_of x))
    → mix_shows blank (looks v (items_of l)) at ≡ mix_shows (λ z. side v (items_of l) (Some i) (z +ℤ since)) (looks v (drop (i + 1) (items_of l))) (at -ℤ after)
mix_past_item v l i x before at start after since h none same e f =
    let n = look_length v x (or_zero (length_of x)) refl in
    let g : since ≡ (seen v (sight x)).length = f ∙ sym n in
    same ∙ ap (λ m. mix_shows before (looks v m) (at -ℤ start)) h.next
    ∙ mix_item before (seen v (sight x)) (looks v (drop (i + 1) (items_of l))) (at -ℤ start) none
    ∙ ap₂ (λ p w. mix_shows p (looks v (drop (i + 1) (items_of l))) w)
    (fun_ext (λ z. rw h.get (ap (λ n. (sight x).shows v (z +ℤ n)) (sym g))))
    (omega (arith, ints))

pub walk_item : (l : Listed) (at : ℤ) (i : ℕ) (x : ItemOf Listed) (start since next_start next_since : ℤ) (before next_before : Option ℕ) → Walked l at i start since before → Here l i x
    → ((w : TransitionRow) → x ≡ Transition w → ⊥)
    → next_start ≡ start +ℤ pos (or_zero (length_of x)) → next_since ≡ pos (or_zero (length_of x)) → next_before ≡ Some i → Walked l at (i + 1) next_start next_since next_before
walk_item l at i x start since next_start next_since before next_before s h n e f g = let t = h.ticks in let k = s.low in let m = s.sum in let j = h.sum in record {
  low = omega (arith, ints);
  sum = omega (arith, ints);
  since_low = omega (arith, ints);
  since_high = omega (arith, ints);
  earlier = rw g (omega arith);
  same = λ v. rw g (mix_past_item v l i x (λ z. side v (items_of l) before (z +ℤ since)) at start next_start next_since h (no_overlap x n) (s.same v) e f);
}

pub walk_transition : (l : Listed) (at : ℤ) (i : ℕ) (x : ItemOf Listed) (w : TransitionRow) (start since next_start next_since : ℤ) (before next_before : Option ℕ) → Walked l at i start since before → Here l i x → x ≡ Transition w
    → (u : ℤ) → false ≡ within (pos 0 -ℤ offset_of w.in_offset) (offset_of w.out_offset) u → u ≡ at -ℤ start → next_start ≡ start → next_since ≡ since → next_before ≡ before → Walked l at (i + 1) next_start next_since next_before
walk_transition l at i x w start since next_start next_since before next_before s h is u missed same e f g =
    let miss = ap (within (pos 0 -ℤ offset_of w.in_offset) (offset_of w.out_offset)) (sym same) ∙ sym missed in
    let t = subst (Here l i) is h in let j = t.sum in let m = s.sum in let k = s.low in let a = s.since_low in let b = s.since_high in record {
      low = omega (arith, ints);
      sum = omega (arith, ints);
      since_low = omega (arith, ints);
      since_high = omega (arith, ints);
      earlier = rw g (later before i (i + 1) (omega arith) s.earlier);
      same = λ v. rw (e, f, g) (s.same v ∙ ap (λ m. mix_shows (λ z. side v (items_of l) before (z +ℤ since)) (looks v m) (at -ℤ start)) t.next
          ∙ mix_miss (λ z. side v (items_of l) before (z +ℤ since)) (seen v (sight (Transition w))) _ (looks v (drop (i + 1) (items_of l))) (at -ℤ start) refl miss);
    }

pub walk_here : (v : View) (l : Listed) (at : ℤ) (i : ℕ) (x : ItemOf Listed) (w : TransitionRow) (start since from_u to_u num den : ℤ) (before to : Option ℕ) → Walked l at i start since before → Here l i x → x ≡ Transition w
    → (u : ℤ) → true ≡ within (pos 0 -ℤ offset_of w.in_offset) (offset_of w.out_offset) u → u ≡ at -ℤ start
    → ((k : View) (u : ℤ) → next_shows (looks k (drop (i + 1) (items_of l))) u ≡ side k (items_of l) to u)
    → from_u ≡ (at -ℤ start) +ℤ since → to_u ≡ at -ℤ start → num ≡ (at -ℤ start) +ℤ offset_of w.in_offset → den ≡ offset_of w.in_offset +ℤ offset_of w.out_offset
    → mix_shows blank (looks v (items_of l)) at ≡ Some (mixed w.transition_type (side v (items_of l) before from_u) (side v (items_of l) to to_u) num den)
walk_here v l at i x w start since from_u to_u num den before to s h is u held same next e f g k =
    let hit : within (pos 0 -ℤ offset_of w.in_offset) (offset_of w.out_offset) (at -ℤ start) ≡ true = ap (within (pos 0 -ℤ offset_of w.in_offset) (offset_of w.out_offset)) (sym same) ∙ sym held in
    let t = subst (Here l i) is h in
    s.same v ∙ ap (λ m. mix_shows (λ z. side v (items_of l) before (z +ℤ since)) (looks v m) (at -ℤ start)) t.next
    ∙ rw hit
    (λ j. Some (mixed w.transition_type (side v (items_of l) before (sym e j)) ((next v (at -ℤ start) ∙ ap (side v (items_of l) to) (sym f)) j) (sym g j) (sym k j)))

pub walk_end : (v : View) (l : Listed) (at : ℤ) (i : ℕ) (start since : ℤ) (before : Option ℕ) → Walked l at i start since before → length (items_of l) ≤ i → mix_shows blank (looks v (items_of l)) at ≡ None
walk_end v l at i start since before s h = s.same v ∙ ap (λ m. mix_shows (λ z. side v (items_of l) before (z +ℤ since)) (looks v m) (at -ℤ start)) (none_left (items_of l) i h)

pub active_within : (l : Listed) (at : ℤ) (i n : ℕ) (w : TransitionRow) (start since : ℤ) (before : Option ℕ) (c : ActiveTransition) → Walked l at i start since before → i ≤ n
    → pos 0 ≤ℤ at → at ≤ℤ pos most_ticks → start ≤ℤ pos most_ticks
    → (u : ℤ) → true ≡ within (pos 0 -ℤ offset_of w.in_offset) (offset_of w.out_offset) u → u ≡ at -ℤ start
    → c.from ≡ before → IfSome c.to (λ j. j < n) → c.from_ticks ≡ (at -ℤ start) +ℤ since → c.to_ticks ≡ at -ℤ start
    → c.part ≡ (at -ℤ start) +ℤ offset_of w.in_offset → c.whole ≡ offset_of w.in_offset +ℤ offset_of w.out_offset → IsActive n c
active_within l at i n w start since before c s h low high past u held same e to f g p q =
    let a = s.low in let b = s.since_low in let d = s.since_high in
    let k = within_is (pos 0 -ℤ offset_of w.in_offset) (offset_of w.out_offset) u (sym held) in
    let k_low = k.0 in let k_high = k.1 in
    record {
      from = rw e (later before i n h s.earlier);
      to = to;
      from_low = omega (arith, ints);
      from_high = omega (arith, ints);
      to_low = omega (arith, ints);
      to_high = omega (arith, ints);
      part = omega (arith, ints);
      whole = omega (arith, ints);
    }
