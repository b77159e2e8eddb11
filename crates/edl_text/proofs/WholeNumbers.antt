-- Comparing whole numbers.
use Rattle.std.proofs.Common.{◌≡◌, ◌⊎◌, inl, inr, Bool, true, false, cond, ℤ, ◌<ℤ◌, ◌≤ℤ◌, int_lt, refl, sym, ap, ◌∙◌, arith}
use Rattle.std.specs.Ordering.{MatchOrdering, int_cmp}
use Rattle.std.specs.declared.cmp.Ordering.{Ordering}
use Rattle.std.specs.declared.cmp.Ordering.TheVariants.{Less, Equal, Greater}
use Rattle.std.proofs.lemmas.Cmp.{int_ranked}
use Rattle.std.proofs.lemmas.Int.{ints}

-- below, equal or above
pub which : (x y : ℤ) → (x <ℤ y) ⊎ ((x ≡ y) ⊎ (y <ℤ x))
which x y = by (int_cmp x y) (int_ranked x y (int_cmp x y) refl)
  where
    by : (o : Ordering) → MatchOrdering o (x <ℤ y) (x ≡ y) (y <ℤ x) → (x <ℤ y) ⊎ ((x ≡ y) ⊎ (y <ℤ x))
    by Less h = inl h
    by Equal h = inr (inl h)
    by Greater h = inr (inr h)

-- below, or not
pub below_or_not : (x y : ℤ) → (x <ℤ y) ⊎ (y ≤ℤ x)
below_or_not x y = by (which x y)
  where
    by : (x <ℤ y) ⊎ ((x ≡ y) ⊎ (y <ℤ x)) → (x <ℤ y) ⊎ (y ≤ℤ x)
    by (inl h) = inl h
    by (inr (inl h)) = inr (omega (arith, ints, h))
    by (inr (inr h)) = inr (omega (arith, ints, h))

pub is_below : (x y : ℤ) → int_lt x y ≡ true → x <ℤ y
is_below x y e = int_ranked x y Less (sym (ap (λ t. cond t Less (cond (int_lt y x) Greater Equal)) e))

not_below_by : (x y : ℤ) (t : Bool) → int_lt y x ≡ t → int_lt x y ≡ false → y ≤ℤ x
not_below_by x y true f e = let h = is_below y x f in omega (arith, ints, h)
not_below_by x y false f e =
    let c : int_cmp x y ≡ Equal = ap (λ t. cond t Less (cond (int_lt y x) Greater Equal)) e ∙ ap (λ t. cond t Greater Equal) f in
    let h : x ≡ y = int_ranked x y Equal (sym c) in
    omega (arith, ints, h)

pub not_below : (x y : ℤ) → int_lt x y ≡ false → y ≤ℤ x
not_below x y e = not_below_by x y (int_lt y x) refl e
