-- What changed items are, and when their times are out of range.
use Rattle.std.proofs.Common.{◌≡◌, refl, sym, subst, ap, ap₂, ◌∙◌, ℤ, pos, negsuc, ◌+ℤ◌, ◌-ℤ◌, ◌≤ℤ◌, ◌<ℤ◌}
use Rattle.std.proofs.Common.{◌&&◌, ◌||◌, true, false, Some, List, [], ◌∷◌, FitsSigned, arith}
use mir.Syntax.{w128}
use Rattle.std.specs.Prelude.{IfErr, IfOk, Result, int_le, int_lt}
use Rattle.std.specs.Int.{int_div_euclid}
use Rattle.std.proofs.lemmas.Bool.{and_right}
use Rattle.std.proofs.lemmas.Int.{ints, by_lt_z}
use Rattle.limits.specs.Limits.{most_ticks}
use Rattle.tick_time.specs.declared.rates.Rate.{Rate}
use Rattle.otio_model.specs.declared.compositions.ItemOf.{ItemOf}
use Rattle.otio_model.specs.declared.compositions.Listed.{Listed}
use Rattle.otio_model.specs.Lengths.{trimmed_start}
use Rattle.coord.specs.Speeds.{media_at, speed_of}
use Rattle.edits.specs.Children.{Child, Ranged, all_made, has_far, is_far, made, new_gap, ticks}
use Rattle.edits.specs.Children.{with_first}
use Rattle.edits.specs.Finest.{in_range}
use Rattle.pieces.specs.declared.new_ranges.RangedFault.{RangedFault}
use Rattle.pieces.specs.declared.new_ranges.RangedFault.TheVariants.{Range}
use Rattle.edits.specs.Edges.{gap_of, grown, is_gap, is_zero, moved, one, slipped_item}

quotient_above : (p : ℤ) → pos 100000000000000000000000000000000000000 <ℤ p
    → pos 10000000000000000000000000000000 <ℤ int_div_euclid p (pos 1000000)
quotient_above (pos a) h = omega (arith, ints, h)
quotient_above (negsuc a) h = absurd (omega (arith, ints, h))

quotient_below : (p : ℤ) → p <ℤ (pos 0 -ℤ pos 100000000000000000000000000000000000000)
    → int_div_euclid p (pos 1000000) <ℤ (pos 0 -ℤ pos 10000000000000000000000000000000)
quotient_below (pos a) h = absurd (omega (arith, ints, h))
quotient_below (negsuc a) h = omega (arith, ints, h)

-- what passes 128 bits in millionths passes a million seconds
pub far_media : (s p : ℤ) → (pos 0 -ℤ pos most_ticks) ≤ℤ s → s ≤ℤ pos most_ticks
    → (FitsSigned w128 p → ⊥) → in_range (s +ℤ int_div_euclid p (pos 1000000)) ≡ false
far_media s p low high unfit = by_lt_z p (pos 0 -ℤ pos 100000000000000000000000000000000000000)
    (λ k. rw (below k) refl)
    (λ k. by_lt_z (pos 100000000000000000000000000000000000000) p
    (λ m. and_right (int_le (pos 0 -ℤ pos most_ticks) (s +ℤ int_div_euclid p (pos 1000000))) _
    (above m))
    (λ m. absurd (unfit (omega (arith, ints, k, m)))))
  where
    below : p <ℤ (pos 0 -ℤ pos 100000000000000000000000000000000000000)
        → int_le (pos 0 -ℤ pos most_ticks) (s +ℤ int_div_euclid p (pos 1000000)) ≡ false
    below k = let q : (s +ℤ int_div_euclid p (pos 1000000)) <ℤ (pos 0 -ℤ pos most_ticks) = let n =
        quotient_below p k in omega (arith, ints, n, high) in grind (arith, ints)

    above : pos 100000000000000000000000000000000000000 <ℤ p
        → int_le (s +ℤ int_div_euclid p (pos 1000000)) (pos most_ticks) ≡ false
    above k = let q : pos most_ticks <ℤ (s +ℤ int_div_euclid p (pos 1000000)) = let n =
        quotient_above p k in omega (arith, ints, n, low) in grind (arith, ints)

-- ---- what the changed items are

pub moved_is : (h t s n m : ℤ) (x : ItemOf Listed) → (is_zero h && is_zero t) ≡ false
    → s ≡ media_at (trimmed_start x) (speed_of x) h → m ≡ ticks x → n ≡ ((m -ℤ h) +ℤ t)
    → moved h t x ≡ Ranged x s n
moved_is h t s n m x e k l j = rw e (ap₂ (λ p q. Ranged x p q) (sym k)
    (sym (j ∙ ap (λ q. (q -ℤ h) +ℤ t) l)))

pub slipped_is : (n s m k : ℤ) (x : ItemOf Listed) → (is_zero n || is_gap x) ≡ false → s ≡ (m +ℤ n)
    → m ≡ trimmed_start x → k ≡ ticks x → slipped_item n x ≡ Ranged x s k
slipped_is n s m k x e i j l = rw e (ap₂ (λ p q. Ranged x p q) (sym (i ∙ ap (λ z. z +ℤ n) j))
    (sym l))

pub grown_is : (n s m k : ℤ) (x : ItemOf Listed) → is_zero n ≡ false → pos 0 <ℤ m → m ≡ (k +ℤ n)
    → k ≡ ticks x → s ≡ trimmed_start x → grown n x ≡ one (Ranged x s m)
grown_is n s m k x e h i j f =
    let w : m ≡ (ticks x +ℤ n) = i ∙ ap (λ z. z +ℤ n) j in
    let t : int_lt (pos 0) (ticks x +ℤ n) ≡ true = let v : pos 0 <ℤ (ticks x +ℤ n) =
    omega (arith, ints, h, w) in grind (arith, ints) in
    rw (e, t) (ap₂ (λ p z. one (Ranged x p z)) (sym f) (sym w))

pub gone_is : (n m k : ℤ) (x : ItemOf Listed) → is_zero n ≡ false → m ≤ℤ pos 0 → m ≡ (k +ℤ n)
    → k ≡ ticks x → grown n x ≡ []
gone_is n m k x e h i j =
    let w : m ≡ (ticks x +ℤ n) = i ∙ ap (λ z. z +ℤ n) j in
    let t : int_lt (pos 0) (ticks x +ℤ n) ≡ false = let v : (ticks x +ℤ n) ≤ℤ pos 0 =
    omega (arith, ints, h, w) in grind (arith, ints) in
    rw (e, t) refl

-- what is said of an item that is made from another draft is said of the equal one
pub made-as : {F : Type 0} {x y : Child} (r : Rate) (res : Result (ItemOf Listed) F) → x ≡ y
    → IfOk res (λ new. made r y ≡ Some new) → IfOk res (λ new. made r x ≡ Some new)
made-as r res e h = subst (λ z. IfOk res (λ new. made r z ≡ Some new)) (sym e) h

pub far-as : {T : Type 0} {x y : Child} (res : Result T RangedFault) → x ≡ y
    → IfErr res (λ fault. fault ≡ Range → is_far y ≡ true)
    → IfErr res (λ fault. fault ≡ Range → is_far x ≡ true)
far-as res e h = subst (λ z. IfErr res (λ fault. fault ≡ Range → is_far z ≡ true)) (sym e) h

-- ---- lists of one item

pub one_made : (r : Rate) (c : Child) (y : ItemOf Listed) (l : List (ItemOf Listed))
    → made r c ≡ Some y → l ≡ y ∷ [] → all_made r (one c) ≡ Some l
one_made r c y l e k = ap (λ o. with_first o (Some [])) e ∙ ap Some (sym k)

pub one_far : (c : Child) → is_far c ≡ true → has_far (one c) ≡ true
one_far c e = rw e refl

pub gap_is : (n : ℤ) → pos 0 <ℤ n → gap_of n ≡ one (new_gap n)
gap_is n h = let t : int_lt (pos 0) n ≡ true = grind (arith, ints) in rw t refl
