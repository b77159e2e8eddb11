-- Outside the overlaps that are stripped a list shows what it did.
use Rattle.std.proofs.Common.{◌≡◌, refl, sym, subst, ap, ap₂, ◌∙◌, ℤ, pos, ◌-ℤ◌, true, false, cond, List, [], ◌∷◌, arith}
use Rattle.std.proofs.lemmas.Int.{ints}
use Rattle.otio_model.specs.declared.compositions.ItemOf.{ItemOf}
use Rattle.otio_model.specs.declared.compositions.Listed.{Listed}
use Rattle.coord.specs.Looks.{Show, item_shows, next_shows, from_end, mix_shows, blank, list_shows}
use Rattle.otio_model.specs.Overlaps.{within}
use Rattle.coord.specs.Sights.{View, sight, seen, looks, overlap_of}
use Rattle.edits.specs.Splices.{is_stripped}
use Rattle.edits.specs.Children.{ticks}
use Rattle.edits.specs.Cuts.{strip}
use Rattle.edits.specs.Outside.{IsOutside}
use Rattle.coord.proofs.LookSteps.{mix_item, mix_miss, side_item, no_hold}
use Rattle.edits_law.proofs.Splice.{cases, mix_step, side_transition, shows_same}
use Rattle.edits_law.proofs.Sorts.{point, thing, sort, strip_thing}

strip_skip : (x : ItemOf Listed) (l : List (ItemOf Listed)) (a b : ℤ) → is_stripped a b (overlap_of x) ≡ true → strip (x ∷ l) a b ≡ strip l a b
strip_skip x l a b e = rw e refl

strip_keep : (x : ItemOf Listed) (l : List (ItemOf Listed)) (a b : ℤ) → is_stripped a b (overlap_of x) ≡ false → strip (x ∷ l) a b ≡ x ∷ strip l (a -ℤ ticks x) (b -ℤ ticks x)
strip_keep x l a b e = rw e refl

same_zone : (l : List (ItemOf Listed)) (a b n : ℤ) → n ≡ pos 0 → strip l a b ≡ strip l (a -ℤ n) (b -ℤ n)
same_zone l a b n e = ap₂ (strip l) (omega (arith, ints)) (omega (arith, ints))

next_strip : (v : View) (l : List (ItemOf Listed)) (a b w : ℤ) → next_shows (looks v (strip l a b)) w ≡ next_shows (looks v l) w
next_strip v [] a b w = refl
next_strip v (x ∷ l) a b w = elim (sort x) [
  | point o t e z ↦ cases (is_stripped a b (overlap_of x))
      (λ s. ap (λ m. next_shows (looks v m) w) (strip_skip x l a b s) ∙ next_strip v l a b w ∙ sym (side_transition (seen v (sight x)) o (looks v l) w e))
      (λ s. ap (λ m. next_shows (looks v m) w) (strip_keep x l a b s) ∙ side_transition (seen v (sight x)) o (looks v (strip l (a -ℤ ticks x) (b -ℤ ticks x))) w e
      ∙ next_strip v l (a -ℤ ticks x) (b -ℤ ticks x) w ∙ sym (side_transition (seen v (sight x)) o (looks v l) w e))
  | thing t e ↦ ap (λ m. next_shows (looks v m) w) (strip_thing x l a b e) ∙ side_item (seen v (sight x)) (looks v (strip l (a -ℤ ticks x) (b -ℤ ticks x))) w e ∙ sym (side_item (seen v (sight x)) (looks v l) w e)
]

mix_strip : (v : View) (p : ℤ → Show) (l : List (ItemOf Listed)) (a b w : ℤ) → IsOutside l a b w → mix_shows p (looks v (strip l a b)) w ≡ mix_shows p (looks v l) w
mix_strip v p [] a b w k = refl
mix_strip v p (x ∷ l) a b w k = elim (sort x) [
  | point o t e z ↦
      let shift : IsOutside l (a -ℤ ticks x) (b -ℤ ticks x) w = subst (λ u. IsOutside l (a -ℤ ticks x) (b -ℤ ticks x) u) (let f : w -ℤ ticks x ≡ w = omega (arith, ints) in f) k.1 in
      cases (is_stripped a b (overlap_of x))
      (λ s. ap (λ m. mix_shows p (looks v m) w) (strip_skip x l a b s ∙ same_zone l a b (ticks x) z)
      ∙ mix_strip v p l (a -ℤ ticks x) (b -ℤ ticks x) w shift
      ∙ sym (mix_miss p (seen v (sight x)) o (looks v l) w e (rw e at (k.0 s))))
      (λ s. ap (λ m. mix_shows p (looks v m) w) (strip_keep x l a b s)
      ∙ mix_step p (seen v (sight x)) o (looks v (strip l (a -ℤ ticks x) (b -ℤ ticks x))) (looks v l) w e (next_strip v l (a -ℤ ticks x) (b -ℤ ticks x) w) (mix_strip v p l (a -ℤ ticks x) (b -ℤ ticks x) w shift))
  | thing t e ↦ ap (λ m. mix_shows p (looks v m) w) (strip_thing x l a b e)
      ∙ mix_item p (seen v (sight x)) (looks v (strip l (a -ℤ ticks x) (b -ℤ ticks x))) w e
      ∙ mix_strip v (from_end (seen v (sight x))) l (a -ℤ ticks x) (b -ℤ ticks x) (w -ℤ ticks x) k.1
      ∙ sym (mix_item p (seen v (sight x)) (looks v l) w e)
]

item_strip : (v : View) (l : List (ItemOf Listed)) (a b w : ℤ) → item_shows (looks v (strip l a b)) w ≡ item_shows (looks v l) w
item_strip v [] a b w = refl
item_strip v (x ∷ l) a b w = elim (sort x) [
  | point o t e z ↦ cases (is_stripped a b (overlap_of x))
      (λ s. ap (λ m. item_shows (looks v m) w) (strip_skip x l a b s) ∙ item_strip v l a b w ∙ sym (no_hold (seen v (sight x)) (looks v l) w z))
      (λ s. ap (λ m. item_shows (looks v m) w) (strip_keep x l a b s) ∙ no_hold (seen v (sight x)) _ w z ∙ item_strip v l (a -ℤ ticks x) (b -ℤ ticks x) w ∙ sym (no_hold (seen v (sight x)) (looks v l) w z))
  | thing t e ↦ ap (λ m. item_shows (looks v m) w) (strip_thing x l a b e)
      ∙ ap (cond (within (pos 0) (ticks x) w) ((sight x).shows v w)) (item_strip v l (a -ℤ ticks x) (b -ℤ ticks x) (w -ℤ ticks x))
]

pub strip_shows : (v : View) (l : List (ItemOf Listed)) (a b w : ℤ) → IsOutside l a b w → list_shows (looks v (strip l a b)) w ≡ list_shows (looks v l) w
strip_shows v l a b w k = shows_same (looks v (strip l a b)) (looks v l) w w (mix_strip v blank l a b w k) (item_strip v l a b w)
