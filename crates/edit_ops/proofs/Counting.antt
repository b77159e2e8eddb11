-- What the edits of lists put between two instants, as the code counts.
use Rattle.std.proofs.Common.{◌≡◌, refl, sym, ap, ap₂, subst, ◌∙◌, ℕ, ◌≤◌, ℤ, pos, ◌+ℤ◌, ◌≤ℤ◌, Bool, true, false, not, cond, List, [], ◌∷◌, Some, length, to_z, of_z, arith}
use mir.Syntax.{w128}
use Rattle.std.proofs.lemmas.Bool.{not-false, not-true}
use Rattle.std.proofs.lemmas.Int.{ints}
use Rattle.limits.specs.Limits.{most_ticks}
use Rattle.tick_time.specs.declared.rates.Rate.{Rate}
use Rattle.otio_model.specs.declared.compositions.ItemOf.{ItemOf}
use Rattle.otio_model.specs.declared.compositions.Listed.{Listed}
use Rattle.otio_model.specs.declared.timelines.Timeline.{Timeline}
use Rattle.otio_model.specs.declared.edit_types.Edit.TheVariants as A
use Rattle.otio_model.specs.declared.edit_types.EditFault.{EditFault}
use Rattle.otio_model.specs.declared.edit_types.EditFault.TheVariants as F
use Rattle.otio_model.specs.declared.edit_types.FillMode.{FillMode}
use Rattle.otio_model.specs.declared.edit_types.RemoveMode.{RemoveMode}
use Rattle.edits.specs.Children.{Old, all_made, child_ticks, ticks}
use Rattle.edits_law.specs.Editable.{IsEditItem}
use Rattle.edits.specs.Edges.{is_zero}
use Rattle.edits.specs.Edits.{filling}
use Rattle.edits.specs.Refusals.{cuts_filling, early_fault, pin_fault}
use Rattle.edit_plans.specs.Filled.{is_wrong}
use Rattle.edit_ops.specs.Answered.{put_edit}
use Rattle.edit_ops.specs.Begun.{IsBegun, IsHolding, IsTaken}
use Rattle.edit_ops.specs.Zoned.{IsZoned, cuts_then, in_place, in_place_ticks, misfit}
use Rattle.edits.specs.After.{list_of}
use Rattle.edit_ops.proofs.Kept.{begun-kept, word-kept}
use Rattle.edit_ops.proofs.Steps.{fill_empty, fill_misfit, fill_other, fill_zone, put_zoned, remove_zone, slice_held}

ticks-kept : (n : ℤ) → pos 0 ≤ℤ n → n ≤ℤ pos most_ticks → to_z w128 (of_z w128 n) ≡ n
ticks-kept n low high = word-kept n low (omega (arith, ints, high))

pub put-counted : (over : Bool) (t : Timeline) (p : List ℕ) (at : ℤ) (x : ItemOf Listed) (r : Rate)
    (w n q a to k : ℤ) (b : Bool) (put : List (ItemOf Listed)) → IsEditItem x → IsBegun t p at r w
    → b ≡ is_zero (ticks x) → b ≡ false → n ≡ ticks x → pos 0 ≤ℤ n → n ≤ℤ pos most_ticks
    → q ≡ cond over (to_z w128 (of_z w128 n)) (pos 0) → pos 0 ≤ℤ q → q ≤ℤ pos most_ticks
    → a ≡ to_z w128 (of_z w128 w) → to ≡ to_z w128 (of_z w128 w) +ℤ to_z w128 (of_z w128 q)
    → k ≡ to_z w128 (of_z w128 n) → put ≡ x ∷ []
    → IsZoned t (put_edit over p at x) p a to (Old x ∷ []) put k
    (cuts_then t (put_edit over p at x) a to)
put-counted over t p at x r w n q a to k b put own h e f g low high i few many j l m o =
    let stands = word-kept w h.low h.high in
    let long = ticks-kept n low high ∙ g in
    let taken = ticks-kept q few many ∙ i ∙ ap (λ z. cond over z (pos 0)) long in
    put_zoned over t p at x r w a k to b put own h e f (j ∙ stands) (m ∙ long)
    (l ∙ ap₂ (λ y z. y +ℤ z) stands taken) o

-- ---- edits of the item that holds the instant

slice-first : (w z : ℤ) → z ≡ w +ℤ pos 0 → z ≡ w
slice-first w z e = omega (arith, ints, e)

pub slice-counted : (t : Timeline) (p : List ℕ) (at : ℤ) (r : Rate) (w from n a to k : ℤ)
    (gap : Bool) (put : List (ItemOf Listed)) → IsTaken t p at r w from n gap
    → a ≡ to_z w128 (of_z w128 w) → to ≡ to_z w128 (of_z w128 w) +ℤ pos 0 → k ≡ pos 0 → put ≡ []
    → IsZoned t (A.Slice p at) p a to [] put k (cuts_then t (A.Slice p at) a to)
slice-counted t p at r w from n a to k gap put h e f g i =
    let stands = word-kept w h.begun.low h.begun.high in
    slice_held t p at r w a to k put from n gap h.begun (h.holding (A.Slice p at) refl)
    (e ∙ stands) (slice-first _ to f ∙ stands) g i

-- the numbers of the held item
from-kept : (t : Timeline) (p : List ℕ) (at : ℤ) (r : Rate) (w a n : ℤ) (gap : Bool)
    (l : List (ItemOf Listed)) → IsBegun t p at r w → IsHolding l w a n gap
    → to_z w128 (of_z w128 a) ≡ a
from-kept t p at r w a n gap l b h =
    let most = b.high in let high = h.high in
    word-kept a h.low (omega (arith, ints, most, high))

held-kept : (l : List (ItemOf Listed)) (w a n : ℤ) (gap : Bool) → IsHolding l w a n gap
    → to_z w128 (of_z w128 n) ≡ n
held-kept l w a n gap h = let some = h.some in ticks-kept n (omega (arith, ints, some)) h.short

-- the same, where its numbers are kept in words
pub taken-kept : (t : Timeline) (p : List ℕ) (at : ℤ) (r : Rate) (w a n : ℤ) (gap : Bool)
    → IsTaken t p at r w a n gap → IsTaken t p at r (to_z w128 (of_z w128 w))
    (to_z w128 (of_z w128 a)) (to_z w128 (of_z w128 n)) gap
taken-kept t p at r w a n gap h = record {
  begun = begun-kept t p at r w h.begun;
  holding = λ e s.
      let i = h.holding e s in
      let l = list_of t e in
      subst (λ z. IsHolding l z (to_z w128 (of_z w128 a)) (to_z w128 (of_z w128 n)) gap)
      (sym (word-kept w h.begun.low h.begun.high))
      (subst (λ z. IsHolding l w z (to_z w128 (of_z w128 n)) gap)
      (sym (from-kept t p at r w a n gap l h.begun i))
      (subst (λ z. IsHolding l w a z gap) (sym (held-kept l w a n gap i)) i));
}

pub remove-counted : (t : Timeline) (p : List ℕ) (at : ℤ) (mode : RemoveMode) (r : Rate)
    (w from n j a to k : ℤ) (gap : Bool) (put : List (ItemOf Listed))
    → IsTaken t p at r w from n gap → j ≡ in_place_ticks mode (to_z w128 (of_z w128 n))
    → pos 0 ≤ℤ j → j ≤ℤ to_z w128 (of_z w128 n) → a ≡ to_z w128 (of_z w128 from)
    → to ≡ to_z w128 (of_z w128 from) +ℤ to_z w128 (of_z w128 n) → k ≡ to_z w128 (of_z w128 j)
    → all_made r (in_place mode (to_z w128 (of_z w128 n))) ≡ Some put → length put ≤ 1
    → IsZoned t (A.Remove p at mode) p a to (in_place mode n) put k
    (pin_fault t (A.Remove p at mode))
remove-counted t p at mode r w from n j a to k gap put h e low high f g i made few =
    let held = h.holding (A.Remove p at mode) refl in
    let first = from-kept t p at r w from n gap _ h.begun held in
    let long = held-kept _ w from n gap held in
    let short = held.short in
    let left = ticks-kept j low (omega (arith, ints, high, long, short)) in
    remove_zone t p at mode r w from n a (to_z w128 (of_z w128 n)) to k gap put h.begun held
    (f ∙ first) long (g ∙ ap₂ (λ y z. y +ℤ z) first long)
    (i ∙ left ∙ e ∙ ap (in_place_ticks mode) long) made few

pub fill-not_gap : (t : Timeline) (p : List ℕ) (at : ℤ) (mode : FillMode) (x : ItemOf Listed)
    (r : Rate) (w from n : ℤ) (gap : Bool) → IsTaken t p at r w from n gap → not gap ≡ true
    → early_fault t (A.Fill p at mode x) ≡ Some F.NotGap
fill-not_gap t p at mode x r w from n gap h e =
    fill_other t p at mode x r w from n gap h.begun (h.holding (A.Fill p at mode x) refl)
    (not-true gap e)

gap-held : (l : List (ItemOf Listed)) (w a n : ℤ) (gap : Bool) → not gap ≡ false
    → IsHolding l w a n gap → IsHolding l w a n true
gap-held l w a n gap e h = subst (λ g. IsHolding l w a n g) (not-false gap e) h

pub fill-of_nothing : (t : Timeline) (p : List ℕ) (at : ℤ) (mode : FillMode) (x : ItemOf Listed)
    (r : Rate) (w from n : ℤ) (gap z : Bool) → IsTaken t p at r w from n gap → not gap ≡ false
    → z ≡ is_zero (ticks x) → z ≡ true → early_fault t (A.Fill p at mode x) ≡ Some F.Empty
fill-of_nothing t p at mode x r w from n gap z h e f g =
    fill_empty t p at mode x r w from n z h.begun
    (gap-held _ w from n gap e (h.holding (A.Fill p at mode x) refl)) f g

pub fill-unfit : (t : Timeline) (p : List ℕ) (at : ℤ) (mode : FillMode) (x : ItemOf Listed)
    (r : Rate) (w from n : ℤ) (gap z : Bool) (fault : EditFault) → IsTaken t p at r w from n gap
    → not gap ≡ false → z ≡ is_zero (ticks x) → z ≡ false → (fault ≡ F.Memory → ⊥)
    → misfit mode x (to_z w128 (of_z w128 n)) (Some F.Memory) ≡ Some fault
    → early_fault t (A.Fill p at mode x) ≡ Some fault
fill-unfit t p at mode x r w from n gap z fault h e f g free i =
    let held = gap-held _ w from n gap e (h.holding (A.Fill p at mode x) refl) in
    fill_misfit t p at mode x r w from n (to_z w128 (of_z w128 n)) z fault h.begun held f g
    (held-kept _ w from n true held) free i

pub fill-counted : (t : Timeline) (p : List ℕ) (at : ℤ) (mode : FillMode) (x : ItemOf Listed)
    (r : Rate) (w from n j a to k : ℤ) (gap z : Bool) (put : List (ItemOf Listed)) → IsEditItem x
    → IsTaken t p at r w from n gap → not gap ≡ false → z ≡ is_zero (ticks x) → z ≡ false
    → j ≡ child_ticks (filling mode x (to_z w128 (of_z w128 n))) → pos 0 ≤ℤ j
    → j ≤ℤ pos most_ticks → a ≡ to_z w128 (of_z w128 from)
    → to ≡ to_z w128 (of_z w128 from) +ℤ to_z w128 (of_z w128 j) → k ≡ to_z w128 (of_z w128 j)
    → is_wrong mode x (to_z w128 (of_z w128 n)) ≡ false
    → cuts_filling mode x (to_z w128 (of_z w128 n)) ≡ true
    → all_made r (filling mode x (to_z w128 (of_z w128 n)) ∷ []) ≡ Some put → length put ≡ 1
    → IsZoned t (A.Fill p at mode x) p a to (filling mode x n ∷ []) put k
    (cuts_then t (A.Fill p at mode x) a to)
fill-counted t p at mode x r w from n j a to k gap z put own h e f g i low high l m o s u made few =
    let held = gap-held _ w from n gap e (h.holding (A.Fill p at mode x) refl) in
    let first = from-kept t p at r w from n true _ h.begun held in
    let long = ticks-kept j low high in
    fill_zone t p at mode x r w from n a (to_z w128 (of_z w128 n)) k to z put own h.begun held f g
    (l ∙ first) (held-kept _ w from n true held) (o ∙ long ∙ i)
    (m ∙ ap₂ (λ y z. y +ℤ z) first (sym o)) s u made few
