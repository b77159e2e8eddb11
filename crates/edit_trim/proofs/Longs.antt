-- How long lists are in which edges moved.
use Rattle.std.proofs.Common.{◌≡◌, refl, ap, ◌∙◌, ℤ, pos, ◌+ℤ◌, ◌-ℤ◌, ◌≤ℤ◌, Bool, true, false, ◌&&◌}
use Rattle.std.proofs.Common.{Option, Some, None, List, [], ◌∷◌, arith}
use Rattle.std.specs.Prelude.{int_lt}
use Rattle.std.specs.Int.{int_max}
use Rattle.std.proofs.lemmas.Bool.{and_parts}
use Rattle.std.proofs.lemmas.Int.{ints, by_lt_z, clamps}
use Rattle.otio_model.specs.declared.compositions.ItemOf.{ItemOf}
use Rattle.otio_model.specs.declared.compositions.Listed.{Listed}
use Rattle.otio_model.specs.Trees.{is_transition}
use Rattle.edits.specs.Children.{Child, ticks}
use Rattle.edits.specs.Cuts.{olds}
use Rattle.edits_law.proofs.EdgeLaws.{zero_is}
use Rattle.edits.specs.Edges.{added, first_changed, first_item, gap_of, grown, is_zero}
use Rattle.edits.specs.Edges.{last_changed, last_item, moved, one}
use Rattle.edits.specs.Refusals.{long}
use Rattle.edits_law.proofs.Splice.{cases}
use Rattle.edit_trim.specs.Changes.{changed, parts}
use Rattle.edit_trim.specs.declared.replacements.Shape.{Shape}
use Rattle.edit_plans.proofs.LongLemmas.{long_olds, long_both}

both_zero : (a b : ℤ) → (is_zero a && is_zero b) ≡ true → (a ≡ pos 0) × (b ≡ pos 0)
both_zero a b e =
    let k = and_parts (is_zero a) (is_zero b) e in (zero_is a k.0, zero_is b k.1)

pub long_moved : (h t : ℤ) (x : ItemOf Listed) → long (one (moved h t x)) ≡ ((ticks x -ℤ h) +ℤ t)
long_moved h t x = cases (is_zero h && is_zero t)
    (λ s. let z = both_zero h t s in rw s (omega (arith, ints, z.0, z.1)))
    (λ s. rw s (omega (arith, ints)))

pub long_grown : (n : ℤ) (x : ItemOf Listed) → pos 0 ≤ℤ (ticks x +ℤ n)
    → long (grown n x) ≡ (ticks x +ℤ n)
long_grown n x k = cases (is_zero n)
    (λ s. let z = zero_is n s in rw s (omega (arith, ints, z)))
    (λ s. by_lt_z (pos 0) (ticks x +ℤ n)
    (λ t. let f : int_lt (pos 0) (ticks x +ℤ n) ≡ true = grind (arith, ints) in
    rw (s, f) (omega (arith, ints)))
    (λ t. let f : int_lt (pos 0) (ticks x +ℤ n) ≡ false = grind (arith, ints) in
    rw (s, f) (omega (arith, ints, k, t))))

pub long_gap : (n : ℤ) → long (gap_of n) ≡ int_max (pos 0) n
long_gap n = by_lt_z (pos 0) n
    (λ t. let f : int_lt (pos 0) n ≡ true = grind (arith, ints) in
    rw f (omega (arith, ints, clamps, t)))
    (λ t. let f : int_lt (pos 0) n ≡ false = grind (arith, ints) in
    rw f (omega (arith, ints, clamps, t)))

pub long_last : (f : ItemOf Listed → List Child) (l : List (ItemOf Listed)) (y : ItemOf Listed)
    → last_item l ≡ Some y → long (last_changed f l) ≡ ((added l -ℤ ticks y) +ℤ long (f y))
long_last f [] y e = absurd (cc e)
long_last f (x ∷ l) y e = by (last_item l) refl (is_transition x) refl (λ g. long_last f l y g)
  where
    by : (o : Option (ItemOf Listed)) → last_item l ≡ o → (t : Bool) → is_transition x ≡ t
        → (last_item l ≡ Some y → long (last_changed f l) ≡ ((added l -ℤ ticks y) +ℤ long (f y)))
        → long (last_changed f (x ∷ l)) ≡ ((added (x ∷ l) -ℤ ticks y) +ℤ long (f y))
    by (Some z) g t u next = let k = next (g ∙ (rw g at e)) in rw g (omega (arith, ints, k))
    by None g true u next = absurd (cc (rw (g, u) at e))
    by None g false u next =
        let same : x ≡ y = cc (rw (g, u) at e) in
        let b = long_both (f x) (olds l) in
        let o = long_olds l in
        let p : long (f x) ≡ long (f y) = ap (λ q. long (f q)) same in
        let r : ticks x ≡ ticks y = ap ticks same in
        rw (g, u) (omega (arith, ints, b, o, p, r))

pub long_first : (f : ItemOf Listed → List Child) (l : List (ItemOf Listed)) (y : ItemOf Listed)
    → first_item l ≡ Some y → long (first_changed f l) ≡ ((added l -ℤ ticks y) +ℤ long (f y))
long_first f [] y e = absurd (cc e)
long_first f (x ∷ l) y e = by (is_transition x) refl (λ g. long_first f l y g)
  where
    by : (t : Bool) → is_transition x ≡ t → (first_item l ≡ Some y
        → long (first_changed f l) ≡ ((added l -ℤ ticks y) +ℤ long (f y)))
        → long (first_changed f (x ∷ l)) ≡ ((added (x ∷ l) -ℤ ticks y) +ℤ long (f y))
    by true u next = let k = next (rw u at e) in rw u (omega (arith, ints, k))
    by false u next =
        let same : x ≡ y = cc (rw u at e) in
        let b = long_both (f x) (olds l) in
        let o = long_olds l in
        let p : long (f x) ≡ long (f y) = ap (λ q. long (f q)) same in
        let r : ticks x ≡ ticks y = ap ticks same in
        rw u (omega (arith, ints, b, o, p, r))

pub long_parts : (s : Shape) (l : List (ItemOf Listed)) (x : ItemOf Listed)
    (r : List (ItemOf Listed))
    → long (parts s l x r) ≡ (long (last_changed (changed s.before) l)
    +ℤ (long (gap_of s.gap_before) +ℤ (long (changed s.item x)
    +ℤ (long (gap_of s.gap_behind) +ℤ long (first_changed (changed s.behind) r)))))
long_parts s l x r =
    long_both (last_changed (changed s.before) l) _
    ∙ ap (λ z. long (last_changed (changed s.before) l) +ℤ z) (long_both (gap_of s.gap_before) _
    ∙ ap (λ z. long (gap_of s.gap_before) +ℤ z) (long_both (changed s.item x) _
    ∙ ap (λ z. long (changed s.item x) +ℤ z) (long_both (gap_of s.gap_behind) _)))
