-- The touched children of a shape, by the numbers of the code.
use Rattle.std.proofs.Common.{◌≡◌, sym, subst, ap, ap₂, ◌∙◌, ℕ, ◌+◌, ◌-◌, ◌≤◌, ℤ, pos, ◌+ℤ◌, ◌-ℤ◌}
use Rattle.std.proofs.Common.{◌≤ℤ◌, true, Some, List, ◌++◌, take, drop, length, arith}
use Rattle.std.specs.Prelude.{slice_get}
use Rattle.std.proofs.lemmas.Int.{ints}
use Rattle.tick_time.specs.declared.rates.Rate.{Rate}
use Rattle.otio_model.specs.declared.compositions.ItemOf.{ItemOf}
use Rattle.otio_model.specs.declared.compositions.Listed.{Listed}
use Rattle.otio_model.specs.declared.seeks.Seat.{Seat}
use Rattle.otio_model.specs.Edits.{replaced}
use Rattle.edits.specs.Children.{all_made, has_far, ticks}
use Rattle.edits.specs.Cuts.{olds, strip}
use Rattle.edits.specs.Edges.{Held, added, end}
use Rattle.edits.specs.Narrow.{ahead, past_met, touched}
use Rattle.edits_law.proofs.Parted.{added_low, strip_few}
use Rattle.edits_law.proofs.NarrowEdges.{added_split}
use Rattle.edits_law.proofs.TouchedHeld.{ahead_is}
use Rattle.edit_trim.specs.Changes.{parts, reshaped}
use Rattle.edit_trim.specs.Seats.{IsAt, IsShaped, LeavesAll, zone_of}
use Rattle.edit_trim.specs.declared.replacements.Shape.{Shape}
use Rattle.edit_trim.specs.declared.replacements.Interval.{Interval}
use Rattle.edit_plans.proofs.ZoneLemmas.{far_left, far_right}
use Rattle.edit_trim.proofs.Seated.{index_is, leaves_near, one_held, parts_are}
use Rattle.edit_trim.proofs.Whole.{Counts, Within, before_is, behind_is, counted, middle}
use Rattle.edit_trim.proofs.Whole.{near_before, near_behind, passed, split, whole_made, within}

-- what is counted of the touched children
pub record Reckoned (l : List (ItemOf Listed)) (z : Interval) (at : ℕ) (gone : ℤ) (count : ℕ) : Type
    0 where
  pub first : at ≡ length (ahead l z.from z.to)
  pub long : gone ≡ added (ahead l z.from z.to)
  pub many : count ≡ length (touched l z.from z.to)

pub counts : (l : List (ItemOf Listed)) (s : Seat) (z : Interval) (k : Shape) (at count : ℕ)
    (gone : ℤ) → (w : IsShaped l s z k) → Reckoned l z at gone count → Counts l w.held z at count
counts l s z k at count gone w r = counted l w.held z k at count (parts_are l s w.held w.seat)
    w.round r.first r.many

gone_is : (l : List (ItemOf Listed)) (s : Seat) (z : Interval) (k : Shape) (at count : ℕ) (gone : ℤ)
    → (w : IsShaped l s z k) → Reckoned l z at gone count → gone ≡ passed w.held (zone_of z)
gone_is l s z k at count gone w r =
    let low = w.round.from in let high = w.round.to in
    r.long ∙ ap (λ q. added (ahead q z.from z.to)) (parts_are l s w.held w.seat)
    ∙ ap added (ahead_is w.held.before w.held.item w.held.behind z.from z.to high
    (omega (arith, ints, low)))

-- the indexes
pub inside : (l : List (ItemOf Listed)) (s : Seat) (z : Interval) (k : Shape) (at count : ℕ)
    (gone : ℤ) → IsShaped l s z k → Reckoned l z at gone count → Within l at count s.index
inside l s z k at count gone w r = within l w.held z at count s.index
    (counts l s z k at count gone w r) (index_is l s w.held w.seat)

-- the copies are those of the touched children
pub before_items : (l : List (ItemOf Listed)) (s : Seat) (z : Interval) (k : Shape) (at count n : ℕ)
    (gone u v : ℤ) (p : List (ItemOf Listed)) → (w : IsShaped l s z k) → Reckoned l z at gone count
    → n ≡ s.index - at → u ≡ (z.from -ℤ gone) → v ≡ (z.to -ℤ gone)
    → p ≡ strip (take n (drop at l)) u v
    → p ≡ strip (near_before w.held (zone_of z)) (z.from -ℤ passed w.held (zone_of z))
    (z.to -ℤ passed w.held (zone_of z))
before_items l s z k at count n gone u v p w r e f g h =
    let same = gone_is l s z k at count gone w r in
    h ∙ ap (λ q. strip q u v) (before_is l w.held z at count s.index n
    (counts l s z k at count gone w r) w.seat.before (index_is l s w.held w.seat) e)
    ∙ ap₂ (strip (near_before w.held (zone_of z))) (f ∙ ap (λ q. z.from -ℤ q) same)
    (g ∙ ap (λ q. z.to -ℤ q) same)

pub behind_items : (l : List (ItemOf Listed)) (s : Seat) (z : Interval) (k : Shape) (at count n : ℕ)
    (gone last u v : ℤ) (x : ItemOf Listed) (p : List (ItemOf Listed)) → (w : IsShaped l s z k)
    → Reckoned l z at gone count
    → slice_get l s.index ≡ Some x → last ≡ (s.start +ℤ ticks x) → n ≡ ((at + count) - s.index) - 1
    → u ≡ (z.from -ℤ last) → v ≡ (z.to -ℤ last) → p ≡ strip (take n (drop (s.index + 1) l)) u v
    → p ≡ strip (near_behind w.held (zone_of z)) (z.from -ℤ end w.held) (z.to -ℤ end w.held)
behind_items l s z k at count n gone last u v x p w r i j e f g h =
    let item : x ≡ w.held.item = cc (sym i ∙ w.seat.item) in
    let same : last ≡ end w.held = j ∙ ap₂ (λ a b. a +ℤ ticks b) w.seat.start item in
    h ∙ ap (λ q. strip q u v) (behind_is l w.held z at count s.index n
    (counts l s z k at count gone w r) w.seat.behind (index_is l s w.held w.seat) e)
    ∙ ap₂ (strip (near_behind w.held (zone_of z))) (f ∙ ap (λ q. z.from -ℤ q) same)
    (g ∙ ap (λ q. z.to -ℤ q) same)

-- what the copies are
pub record Copied (l : List (ItemOf Listed)) (s : Seat) (z : Interval) (k : Shape)
    (w : IsShaped l s z k) (x : ItemOf Listed) (p q : List (ItemOf Listed)) : Type 0 where
  pub item : slice_get l s.index ≡ Some x
  pub before : p ≡ strip (near_before w.held (zone_of z)) (z.from -ℤ passed w.held (zone_of z))
      (z.to -ℤ passed w.held (zone_of z))
  pub behind : q ≡ strip (near_behind w.held (zone_of z)) (z.from -ℤ end w.held)
      (z.to -ℤ end w.held)

held_is : (l : List (ItemOf Listed)) (s : Seat) (z : Interval) (k : Shape) (w : IsShaped l s z k)
    (x : ItemOf Listed) (p q : List (ItemOf Listed)) → Copied l s z k w x p q
    → parts k p x q ≡ middle w.held (zone_of z) k
held_is l s z k w x p q c =
    let item : x ≡ w.held.item = cc (sym c.item ∙ w.seat.item) in
    ap₂ (λ a b. parts k a x b) c.before c.behind
    ∙ ap (λ y. parts k (strip (near_before w.held (zone_of z)) (z.from -ℤ passed w.held (zone_of z))
    (z.to -ℤ passed w.held (zone_of z))) y
    (strip (near_behind w.held (zone_of z)) (z.from -ℤ end w.held) (z.to -ℤ end w.held))) item

pub leaves : (l : List (ItemOf Listed)) (s : Seat) (z : Interval) (k : Shape) (w : IsShaped l s z k)
    (x : ItemOf Listed) (p q : List (ItemOf Listed)) → Copied l s z k w x p q → LeavesAll k p x q
leaves l s z k w x p q c =
    let item : x ≡ w.held.item = cc (sym c.item ∙ w.seat.item) in
    let near = leaves_near k w.held z.from z.to (z.from -ℤ end w.held) (z.to -ℤ end w.held)
    (z.from -ℤ passed w.held (zone_of z)) (z.to -ℤ passed w.held (zone_of z))
    (z.from -ℤ end w.held) (z.to -ℤ end w.held) w.leaves in
    let P : List (ItemOf Listed) = strip (near_before w.held (zone_of z))
    (z.from -ℤ passed w.held (zone_of z)) (z.to -ℤ passed w.held (zone_of z)) in
    let Q : List (ItemOf Listed) = strip (near_behind w.held (zone_of z)) (z.from -ℤ end w.held)
    (z.to -ℤ end w.held) in
    subst (λ a. LeavesAll k a x q) (sym c.before) (subst (λ b. LeavesAll k P x b) (sym c.behind)
    (subst (λ y. LeavesAll k P y Q) (sym item) near))

pub made : (r : Rate) (l : List (ItemOf Listed)) (s : Seat) (z : Interval) (k : Shape) (at count : ℕ)
    (gone : ℤ) (w : IsShaped l s z k) (x : ItemOf Listed) (p q put : List (ItemOf Listed))
    → Reckoned l z at gone count → Copied l s z k w x p q
    → all_made r (parts k p x q) ≡ Some put → (h : Held) → IsAt l s h
    → all_made r (reshaped h (zone_of z) k) ≡ Some (replaced at count put l)
made r l s z k at count gone w x p q put n c e h i =
    ap (λ y. all_made r (reshaped y (zone_of z) k)) (one_held l s h w.held i w.seat)
    ∙ whole_made r l w.held z k at count put w.round (counts l s z k at count gone w n)
    (ap (all_made r) (sym (held_is l s z k w x p q c)) ∙ e)

pub far : (l : List (ItemOf Listed)) (s : Seat) (z : Interval) (k : Shape) (w : IsShaped l s z k)
    (x : ItemOf Listed) (p q : List (ItemOf Listed)) → Copied l s z k w x p q
    → has_far (parts k p x q) ≡ true → (h : Held) → IsAt l s h
    → has_far (reshaped h (zone_of z) k) ≡ true
far l s z k w x p q c e h i =
    ap (λ y. has_far (reshaped y (zone_of z) k)) (one_held l s h w.held i w.seat)
    ∙ ap has_far (split w.held z k w.round)
    ∙ far_right (olds (ahead w.held.before z.from z.to))
    (middle w.held (zone_of z) k ++ olds (past_met w.held.behind (z.from -ℤ end w.held)
    (z.to -ℤ end w.held)))
    (far_left (middle w.held (zone_of z) k) (olds (past_met w.held.behind (z.from -ℤ end w.held)
    (z.to -ℤ end w.held))) (ap has_far (sym (held_is l s z k w x p q c)) ∙ e))

pub few : (l : List (ItemOf Listed)) (s : Seat) (z : Interval) (k : Shape) (at count : ℕ) (gone : ℤ)
    (w : IsShaped l s z k) (x : ItemOf Listed) (p q put : List (ItemOf Listed))
    → Reckoned l z at gone count → Copied l s z k w x p q
    → length put ≤ length p + 3 + length q → length put ≤ length (touched l z.from z.to) + 2
few l s z k at count gone w x p q put n c e =
    let m = counts l s z k at count gone w n in
    let a = ap length c.before in
    let b = ap length c.behind in
    let f = strip_few (near_before w.held (zone_of z)) (z.from -ℤ passed w.held (zone_of z))
    (z.to -ℤ passed w.held (zone_of z)) in
    let g = strip_few (near_behind w.held (zone_of z)) (z.from -ℤ end w.held) (z.to -ℤ end w.held)
    in
    let i = m.count_is in
    let j = n.many in
    omega (arith, e, a, b, f, g, i, j)

-- what stands before the item ends before it
pub gone_within : (l : List (ItemOf Listed)) (s : Seat) (z : Interval) (k : Shape) (at count : ℕ)
    (gone : ℤ) → IsShaped l s z k → Reckoned l z at gone count → (pos 0 ≤ℤ gone) × (gone ≤ℤ s.start)
gone_within l s z k at count gone w r =
    let e = gone_is l s z k at count gone w r in
    let low = added_low (ahead w.held.before z.from z.to) in
    let rest = added_low (near_before w.held (zone_of z)) in
    let sum = added_split w.held.before z.from z.to in
    let at_start = w.seat.start in
    (omega (arith, ints, e, low), omega (arith, ints, e, rest, sum, at_start))
