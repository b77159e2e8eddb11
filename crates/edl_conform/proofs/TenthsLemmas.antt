-- The tenths that give a speed are the nearest ones, or there are none.
use Rattle.std.proofs.Common.{◌≡◌, refl, ap, sym, ◌∙◌, ℕ, zero, suc, ◌+◌, ◌*◌, ◌/◌, ◌%◌, ◌<◌, ◌≤◌, ℤ, pos, negsuc, ◌<ℤ◌, ◌≤ℤ◌, unsigned_abs, Bool, true, false, cond, nat_lt, Option, Some, None, arith}
use Rattle.std.specs.Prelude.{find}
use Rattle.std.specs.List.{range_with_len}
use Rattle.std.specs.Ordering.{int_eq}
use Rattle.std.proofs.lemmas.Int.{ints}
use Rattle.std.proofs.lemmas.Nat.{mul-le, div-add-mod'}
use Rattle.std.proofs.lemmas.Bool.Decides.{Decides-int_eq}
use Rattle.std.proofs.Math.Nat.{add-mul, mod-lt}
use Rattle.edl_list.specs.Speeds.{half_even}
use Rattle.edl_list.proofs.SpeedLemmas.{one_more}
use Rattle.edl_frames.specs.Jobs.{tenths_of}
use Rattle.edl_conform.specs.Tenths.{nearest_tenths}

-- ---- a search among numbers of which one at most is found

found_by : (t : Bool) (a v : ℕ) (rest : Option ℕ) → (t ≡ true → a ≡ v)
    → (t ≡ false → rest ≡ Some v) → cond t (Some a) rest ≡ Some v
found_by true a v rest one later = ap (λ n. Some n) (one refl)
found_by false a v rest one later = later refl

found_at : (p : ℕ → Bool) (a n v : ℕ) → a ≤ v → v < a + n → p v ≡ true
    → ((w : ℕ) → p w ≡ true → w ≡ v) → find p (range_with_len a n) ≡ Some v
found_at p a zero v low high e one = absurd (omega arith)
found_at p a (suc n) v low high e one =
    found_by (p a) a v (find p (range_with_len (a + 1) n)) (one a)
    (λ f. found_at p (a + 1) n v (not_here f) (omega (arith, high)) e one)
  where
    apart : a ≡ v → p a ≡ false → ⊥
    apart same f = let t : p a ≡ true = ap p same ∙ e in absurd (cc (sym t ∙ f))

    not_here : p a ≡ false → a + 1 ≤ v
    not_here f = let other : a ≡ v → ⊥ = λ same. apart same f in omega (arith, low, other)

none_by : (t : Bool) (a : ℕ) (rest : Option ℕ) → t ≡ false → rest ≡ None
    → cond t (Some a) rest ≡ None
none_by true a rest e later = absurd (cc e)
none_by false a rest e later = later

none_found : (p : ℕ → Bool) (a n : ℕ) → ((w : ℕ) → w < a + n → p w ≡ false)
    → find p (range_with_len a n) ≡ None
none_found p a zero h = refl
none_found p a (suc n) h =
    none_by (p a) a (find p (range_with_len (a + 1) n)) (h a (omega arith))
    (none_found p (a + 1) n (λ w less. h w (omega (arith, less))))

-- ---- rounding

-- a rounded quotient is near its numerator
near_high : (a c : ℕ) → 1 ≤ c → half_even a c * c ≤ a + c
near_high a c some =
    let more = one_more (nat_lt (2 * (a % c)) c) (nat_lt c (2 * (a % c))) (a / c) in
    let high : half_even a c ≤ a / c + 1 = omega (arith, more) in
    let below = mul-le (half_even a c) c (a / c + 1) c high (omega arith) in
    let next : (a / c + 1) * c ≡ a / c * c + 1 * c = add-mul (a / c) 1 c in
    omega (arith, below, next, div-add-mod' a c)

near_low : (a c : ℕ) → 1 ≤ c → a ≤ half_even a c * c + c
near_low a c some =
    let low : a / c ≤ half_even a c = omega arith in
    let below = mul-le (a / c) c (half_even a c) c low (omega arith) in
    omega (arith, below, div-add-mod' a c, mod-lt a some)

-- what gives the speed is the nearest
nearest_is : (count speed v : ℕ) → 1 ≤ count → count ≤ 60
    → half_even (v * 100000) count ≡ speed → v ≡ nearest_tenths count speed
nearest_is count speed v some few e =
    let f = ap (λ n. n * count) e in
    omega (arith, f, near_high (v * 100000) count some, near_low (v * 100000) count some, few)

gives : (v count speed : ℕ) → int_eq (pos (half_even (v * 100000) count)) (pos speed) ≡ true
    → half_even (v * 100000) count ≡ speed
gives v count speed e = let f =
    (Decides-int_eq (pos (half_even (v * 100000) count)) (pos speed)).0 e in cc f

is_given : (v count speed : ℕ) → half_even (v * 100000) count ≡ speed
    → int_eq (pos (half_even (v * 100000) count)) (pos speed) ≡ true
is_given v count speed e =
    (Decides-int_eq (pos (half_even (v * 100000) count)) (pos speed)).1 (ap pos e)

-- ---- the tenths that give a speed

pub tenths_some : (count speed v : ℕ) → 1 ≤ count → count ≤ 60 → v ≤ 9999
    → half_even (v * 100000) count ≡ speed → tenths_of count (pos speed) ≡ Some v
unfolding tenths_of
tenths_some count speed v some few low e =
    found_at (λ w. int_eq (pos (half_even (w * 100000) count)) (pos speed)) 0 10000 v (omega arith)
    (omega (arith, low)) (is_given v count speed e)
    (λ w f. nearest_is count speed w some few (gives w count speed f)
    ∙ sym (nearest_is count speed v some few e))

refuse : (t : Bool) → (t ≡ true → ⊥) → t ≡ false
refuse true h = absurd (h refl)
refuse false h = refl

-- nothing gives it where the nearest doesn't
pub tenths_none : (count speed : ℕ) → 1 ≤ count → count ≤ 60
    → (nearest_tenths count speed ≤ 9999
    → half_even (nearest_tenths count speed * 100000) count ≡ speed → ⊥)
    → tenths_of count (pos speed) ≡ None
unfolding tenths_of
tenths_none count speed some few h =
    none_found (λ w. int_eq (pos (half_even (w * 100000) count)) (pos speed)) 0 10000
    (λ w less. refuse (int_eq (pos (half_even (w * 100000) count)) (pos speed))
    (λ e. no_other w less (gives w count speed e)))
  where
    no_other : (w : ℕ) → w < 0 + 10000 → half_even (w * 100000) count ≡ speed → ⊥
    no_other w less e =
        let is = nearest_is count speed w some few e in
        h (omega (arith, is, less)) (ap (λ n. half_even (n * 100000) count) (sym is) ∙ e)

-- nor is a speed below 0 given
pub tenths_below : (count k : ℕ) → tenths_of count (negsuc k) ≡ None
unfolding tenths_of
tenths_below count k =
    none_found (λ w. int_eq (pos (half_even (w * 100000) count)) (negsuc k)) 0 10000
    (λ w less. refl)

-- the same of a speed with a sign, from what was found
pub found_some : (count : ℕ) (speed raw : ℤ) (v : ℕ) → raw ≡ speed → pos 0 ≤ℤ speed → 1 ≤ count
    → count ≤ 60 → v ≤ 9999 → half_even (v * 100000) count ≡ unsigned_abs raw
    → Some v ≡ tenths_of count speed
found_some count (pos s) raw v is up some few low e =
    sym (tenths_some count s v some few low (e ∙ ap unsigned_abs is))
found_some count (negsuc k) raw v is up some few low e = absurd (omega (arith, ints, up))

pub found_none : (count : ℕ) (speed raw : ℤ) (v : ℕ) → raw ≡ speed → pos 0 ≤ℤ speed → 1 ≤ count
    → count ≤ 60 → v ≡ nearest_tenths count (unsigned_abs raw)
    → (v ≤ 9999 → half_even (v * 100000) count ≡ unsigned_abs raw → ⊥)
    → None ≡ tenths_of count speed
found_none count (pos s) raw v is up some few same h =
    let near : v ≡ nearest_tenths count s =
    same ∙ ap (λ z. nearest_tenths count (unsigned_abs z)) is in
    sym (tenths_none count s some few
    (λ low e. h (omega (arith, near, low))
    (ap (λ n. half_even (n * 100000) count) near ∙ e ∙ sym (ap unsigned_abs is))))
found_none count (negsuc k) raw v is up some few same h = absurd (omega (arith, ints, up))

pub found_below : (count : ℕ) (speed : ℤ) → speed <ℤ pos 0 → None ≡ tenths_of count speed
found_below count (pos s) h = absurd (omega (arith, ints, h))
found_below count (negsuc k) h = sym (tenths_below count k)
