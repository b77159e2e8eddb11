-- Clamped moves leave what they have to.
use Rattle.std.proofs.Common.{◌≡◌, refl, ℕ, ◌<◌, ℤ, pos, ◌+ℤ◌, ◌-ℤ◌, ◌≤ℤ◌, ◌<ℤ◌}
use Rattle.std.proofs.Common.{Option, Some, None, arith}
use Rattle.std.proofs.lemmas.Int.{ints}
use Rattle.otio_model.specs.declared.compositions.ItemOf.{ItemOf}
use Rattle.otio_model.specs.declared.compositions.Listed.{Listed}
use Rattle.edits_law.proofs.AllLaws.{before_low, head_gap, tail_gap}
use Rattle.edits.specs.Children.{ticks}
use Rattle.edits.specs.Edges.{Held, Moves, clamped, first_item, gap_before, gap_behind}
use Rattle.edits.specs.Edges.{head_room, is_zero, last_item, lesser, ripple_by, roll_by}
use Rattle.edits.specs.Edges.{roll_head, roll_tail, slide_by, tail_room, trim_by, whole_frames}
use Rattle.edits.specs.Edges.{whole_limit}
use Rattle.edits.specs.Good.{IsTrimmedBefore, IsTrimmedBehind}
use Rattle.edits_law.proofs.Splice.{cases}
use Rattle.edits_law.proofs.Clamps.{clamped_high, clamped_low, down_high, down_less, down_limit}
use Rattle.edits_law.proofs.Clamps.{down_one, downs_limit, high_first, high_second, lesser_limit}
use Rattle.edits_law.proofs.Clamps.{low_first, low_second}

pub slide_left : (n : ℕ) (y : ItemOf Listed) (by : ℤ) → 0 < n
    → pos 0 ≤ℤ (ticks y +ℤ slide_by (pos n) y by)
slide_left n y by h =
    let a = clamped_low n (whole_frames (pos n) (ticks y -ℤ pos 1))
    (whole_limit (pos n) (tail_room y)) by (down_limit n (ticks y -ℤ pos 1) h)
    (downs_limit n (tail_room y) h) in
    let b = down_one n (ticks y) h (omega (arith, ints)) in
    omega (arith, ints, a, b)

-- a tail that is held by what the head leaves
left_over : (n : ℕ) (x : ItemOf Listed) (head tail : ℤ) → 0 < n → head <ℤ ticks x
    → (pos 0 -ℤ whole_frames (pos n) ((ticks x -ℤ head) -ℤ pos 1)) ≤ℤ tail
    → pos 0 ≤ℤ ((ticks x -ℤ head) +ℤ tail)
left_over n x head tail h k m = let e = down_less n (ticks x -ℤ head) h (omega (arith, ints)) in
    omega (arith, ints, e)

-- a head that is held by the item's own length
head_less : (n : ℕ) (x : ItemOf Listed) (below : Option ℤ) (z : ℤ) → 0 < n → pos 0 <ℤ ticks x
    → clamped below (Some (whole_frames (pos n) (ticks x -ℤ pos 1))) z <ℤ ticks x
head_less n x below z h k =
    let high = clamped_high below (whole_frames (pos n) (ticks x -ℤ pos 1)) z in
    let less = down_less n (ticks x) h k in
    omega (arith, ints, high, less)

pub ripple_left : (n : ℕ) (x : ItemOf Listed) (by : Moves) → 0 < n → pos 0 <ℤ ticks x
    → pos 0 ≤ℤ ((ticks x -ℤ (ripple_by (pos n) x by).head) +ℤ (ripple_by (pos n) x by).tail)
ripple_left n x by h k =
    left_over n x (clamped (whole_limit (pos n) (head_room x))
    (Some (whole_frames (pos n) (ticks x -ℤ pos 1))) by.head) _ h
    (head_less n x (whole_limit (pos n) (head_room x)) by.head h k)
    (clamped_low n (whole_frames (pos n) ((ticks x
    -ℤ clamped (whole_limit (pos n) (head_room x))
    (Some (whole_frames (pos n) (ticks x -ℤ pos 1))) by.head) -ℤ pos 1))
    (whole_limit (pos n) (tail_room x)) by.tail (down_limit n
    ((ticks x -ℤ clamped (whole_limit (pos n) (head_room x))
    (Some (whole_frames (pos n) (ticks x -ℤ pos 1))) by.head) -ℤ pos 1) h)
    (downs_limit n (tail_room x) h))

-- ---- trim

pub record TrimLeaves (h : Held) (m : Moves) : Type 0 where
  pub left : pos 0 ≤ℤ ((ticks h.item -ℤ m.head) +ℤ m.tail)
  pub before : IsTrimmedBefore (last_item h.before) m.head
  pub behind : IsTrimmedBehind (first_item h.behind) m.tail

pub trims : (n : ℕ) (h : Held) (by : Moves) → 0 < n → pos 0 <ℤ ticks h.item
    → TrimLeaves h (trim_by (pos n) h by)
trims n h by k z =
    let o = down_limit n (gap_before h) k in
    let q = downs_limit n (head_room h.item) k in
    let r = down_limit n (ticks h.item -ℤ pos 1) k in
    let low_head = low_first n (whole_frames (pos n) (gap_before h))
    (whole_limit (pos n) (head_room h.item)) (Some
    (whole_frames (pos n) (ticks h.item -ℤ pos 1))) by.head o q r in
    let gap = down_high n (gap_before h) k (before_low h) in
    let tails = lesser_limit n (whole_limit (pos n) (gap_behind h))
    (whole_limit (pos n) (tail_room h.item)) (downs_limit n (gap_behind h) k)
    (downs_limit n (tail_room h.item) k) in
    record {
      left = left_over n h.item (clamped (lesser (Some (whole_frames (pos n) (gap_before h)))
          (whole_limit (pos n) (head_room h.item)))
          (Some (whole_frames (pos n) (ticks h.item -ℤ pos 1))) by.head) _ k
          (head_less n h.item (lesser (Some (whole_frames (pos n) (gap_before h)))
          (whole_limit (pos n) (head_room h.item))) by.head k z)
          (clamped_low n (whole_frames (pos n) ((ticks h.item
          -ℤ clamped (lesser (Some (whole_frames (pos n) (gap_before h)))
          (whole_limit (pos n) (head_room h.item)))
          (Some (whole_frames (pos n) (ticks h.item -ℤ pos 1))) by.head) -ℤ pos 1))
          (lesser (whole_limit (pos n) (gap_behind h)) (whole_limit (pos n) (tail_room h.item)))
          by.tail (down_limit n ((ticks h.item
          -ℤ clamped (lesser (Some (whole_frames (pos n) (gap_before h)))
          (whole_limit (pos n) (head_room h.item)))
          (Some (whole_frames (pos n) (ticks h.item -ℤ pos 1))) by.head) -ℤ pos 1) k)
          tails);
      before = head_gap h (last_item h.before) _ refl (omega (arith, ints, low_head, gap));
      behind = tail_gap n h (first_item h.behind) by.tail
          (Some (whole_frames (pos n) ((ticks h.item
          -ℤ clamped (lesser (Some (whole_frames (pos n) (gap_before h)))
          (whole_limit (pos n) (head_room h.item)))
          (Some (whole_frames (pos n) (ticks h.item -ℤ pos 1))) by.head) -ℤ pos 1)))
          (whole_limit (pos n) (tail_room h.item)) k refl;
    }

-- ---- roll

-- what stands beside a rolled item gives way, or isn't asked to
abbrev pub GivesBefore : Option (ItemOf Listed) → ℤ → Type 0
GivesBefore None m = m ≡ pos 0
GivesBefore (Some y) m = pos 0 ≤ℤ (ticks y +ℤ m)

abbrev pub GivesBehind : Option (ItemOf Listed) → ℤ → Type 0
GivesBehind None m = m ≡ pos 0
GivesBehind (Some y) m = pos 0 ≤ℤ (ticks y -ℤ m)

record RollsHead (h : Held) (m : ℤ) : Type 0 where
  below : m <ℤ ticks h.item
  before : GivesBefore (last_item h.before) m

rolls_head : (n : ℕ) (h : Held) (z : ℤ) → 0 < n → pos 0 <ℤ ticks h.item
    → RollsHead h (roll_head (pos n) h z)
rolls_head n h z k t = by (last_item h.before) refl
  where
    by : (o : Option (ItemOf Listed)) → last_item h.before ≡ o → RollsHead h (roll_head (pos n) h z)
    by None e =
        let g : roll_head (pos n) h z ≡ pos 0 = rw (e, roll_head) refl in
        rw g (record { below = t; before = rw e refl })
    by (Some y) e = cases (is_zero z)
        (λ s.
        let g : roll_head (pos n) h z ≡ pos 0 = rw (e, roll_head, s) refl in
        rw g (record { below = t; before = rw e (omega (arith, ints)) }))
        (λ s.
        let g : roll_head (pos n) h z ≡ clamped (lesser (whole_limit (pos n) (head_room h.item))
        (Some (whole_frames (pos n) (ticks y -ℤ pos 1))))
        (lesser (Some (whole_frames (pos n) (ticks h.item -ℤ pos 1)))
        (whole_limit (pos n) (tail_room y))) z = rw (e, roll_head, s) refl in
        let o = downs_limit n (head_room h.item) k in
        let q = down_limit n (ticks y -ℤ pos 1) k in
        let above = lesser_limit n (Some (whole_frames (pos n) (ticks h.item -ℤ pos 1)))
        (whole_limit (pos n) (tail_room y)) (down_limit n (ticks h.item -ℤ pos 1) k)
        (downs_limit n (tail_room y) k) in
        let low = low_second n (whole_limit (pos n) (head_room h.item))
        (whole_frames (pos n) (ticks y -ℤ pos 1))
        (lesser (Some (whole_frames (pos n) (ticks h.item -ℤ pos 1)))
        (whole_limit (pos n) (tail_room y))) z o q above in
        let one = down_one n (ticks y) k (omega (arith, ints)) in
        let high = high_first (lesser (whole_limit (pos n) (head_room h.item))
        (Some (whole_frames (pos n) (ticks y -ℤ pos 1))))
        (whole_frames (pos n) (ticks h.item -ℤ pos 1)) (whole_limit (pos n) (tail_room y)) z
        in
        let less = down_less n (ticks h.item) k t in
        rw g (record {
          below = omega (arith, ints, high, less);
          before =
              rw e (omega (arith, ints, low, one));
        }))

record RollsTail (h : Held) (head m : ℤ) : Type 0 where
  left : pos 0 ≤ℤ ((ticks h.item -ℤ head) +ℤ m)
  behind : GivesBehind (first_item h.behind) m

rolls_tail : (n : ℕ) (h : Held) (head z : ℤ) → 0 < n → head <ℤ ticks h.item
    → RollsTail h head (roll_tail (pos n) h head z)
rolls_tail n h head z k t = by (first_item h.behind) refl
  where
    by : (o : Option (ItemOf Listed)) → first_item h.behind ≡ o
        → RollsTail h head (roll_tail (pos n) h head z)
    by None e =
        let g : roll_tail (pos n) h head z ≡ pos 0 = rw (e, roll_tail) refl in
        rw g (record { left = omega (arith, ints); behind = rw e refl })
    by (Some y) e = cases (is_zero z)
        (λ s.
        let g : roll_tail (pos n) h head z ≡ pos 0 = rw (e, roll_tail, s) refl in
        rw g (record { left = omega (arith, ints); behind = rw e (omega (arith, ints)) }))
        (λ s.
        let g : roll_tail (pos n) h head z ≡ clamped
        (lesser (Some (whole_frames (pos n) ((ticks h.item -ℤ head) -ℤ pos 1)))
        (whole_limit (pos n) (head_room y)))
        (lesser (whole_limit (pos n) (tail_room h.item))
        (Some (whole_frames (pos n) (ticks y -ℤ pos 1)))) z =
        rw (e, roll_tail, s) refl in
        let above = lesser_limit n (whole_limit (pos n) (tail_room h.item))
        (Some (whole_frames (pos n) (ticks y -ℤ pos 1))) (downs_limit n (tail_room h.item) k)
        (down_limit n (ticks y -ℤ pos 1) k) in
        let low = low_first n (whole_frames (pos n) ((ticks h.item -ℤ head) -ℤ pos 1))
        (whole_limit (pos n) (head_room y)) (lesser (whole_limit (pos n) (tail_room h.item))
        (Some (whole_frames (pos n) (ticks y -ℤ pos 1)))) z
        (down_limit n ((ticks h.item -ℤ head) -ℤ pos 1) k)
        (downs_limit n (head_room y) k) above in
        let one = down_one n (ticks y) k (omega (arith, ints)) in
        let high = high_second (lesser (Some (whole_frames (pos n)
        ((ticks h.item -ℤ head) -ℤ pos 1))) (whole_limit (pos n) (head_room y)))
        (whole_limit (pos n) (tail_room h.item)) (whole_frames (pos n) (ticks y -ℤ pos 1)) z
        in
        rw g (record {
          left = left_over n h.item head _ k t low;
          behind =
              rw e (omega (arith, ints, high, one));
        }))

pub record Rolls (h : Held) (m : Moves) : Type 0 where
  pub left : pos 0 ≤ℤ ((ticks h.item -ℤ m.head) +ℤ m.tail)
  pub before : GivesBefore (last_item h.before) m.head
  pub behind : GivesBehind (first_item h.behind) m.tail

pub rolls : (n : ℕ) (h : Held) (by : Moves) → 0 < n → pos 0 <ℤ ticks h.item
    → Rolls h (roll_by (pos n) h by)
rolls n h by k t =
    let a = rolls_head n h by.head k t in
    let b = rolls_tail n h (roll_head (pos n) h by.head) by.tail k a.below in
    record { left = b.left; before = a.before; behind = b.behind }
