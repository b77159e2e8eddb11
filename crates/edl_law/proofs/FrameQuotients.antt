-- Quotients rounded down, by any divisor.
use Rattle.std.proofs.Common.{◌≡◌, true, sym, ap, ap₂, ◌∙◌, ℕ, suc, ◌+◌, ◌-◌, ◌*◌, ◌/◌, ◌%◌, ◌<◌, ℤ, pos, negsuc, ◌+ℤ◌, ◌*ℤ◌, arith}
use Rattle.std.proofs.lemmas.Int.{ints}
use Rattle.std.proofs.lemmas.Nat.{div-mul-add, mod_below, div-add-mod'}
use Rattle.std.proofs.Math.Nat.{mul_comm}
use borrow.Author.Differences.{same_in, sum_is_lem, product_is}
use Rattle.std.specs.Int.{int_div_euclid}
use Rattle.std.specs.Ordering.{int_eq}
use Rattle.std.proofs.lemmas.Bool.Decides.{Decides-int_eq}

pub same_is : (a b : ℤ) → int_eq a b ≡ true → a ≡ b
same_is a b = (Decides-int_eq a b).0

-- a product of three
pub times-times : (q : ℤ) (c d : ℕ) → (q *ℤ pos c) *ℤ pos d ≡ q *ℤ pos (c * d)
times-times q c d =
    let e = product_is q (pos c) in
    let f = ap (λ n. n * d) e.0 in
    let k = ap (λ n. n * d) e.1 in
    let g = product_is (q *ℤ pos c) (pos d) in
    let h = product_is q (pos (c * d)) in
    same_in _ _ (omega (arith, e, f, k, g, h))

-- a product of a sum
pub sum-times : (a b : ℤ) (d : ℕ) → (a +ℤ b) *ℤ pos d ≡ (a *ℤ pos d) +ℤ (b *ℤ pos d)
sum-times a b d =
    let e = sum_is_lem a b in
    let f = ap (λ n. n * d) e in
    same_in _ _
    (omega (
      arith,
      f,
      product_is (a +ℤ b) (pos d),
      product_is a (pos d),
      product_is b (pos d),
      sum_is_lem (a *ℤ pos d) (b *ℤ pos d),
    ))

below_last : (a d r x : ℕ) → r < d → x + 1 + r ≡ suc a * d → x / d ≡ a
below_last a d r x h e =
    let f : x ≡ a * d + (d - 1 - r) = omega (arith, e, h) in
    rw f (div-mul-add a d (d - 1 - r) (omega (arith, h)))

-- the quotient by what is left
pub quotient_is : (z q : ℤ) (d r : ℕ) → r < d → z ≡ (q *ℤ pos d) +ℤ pos r
    → int_div_euclid z (pos d) ≡ q
quotient_is (pos z) (pos a) d r h e = let f : z ≡ a * d + r = omega (arith, ints, e) in
    ap pos (rw f (div-mul-add a d r h))
quotient_is (negsuc z) (pos a) d r h e = absurd (omega (arith, ints, e))
quotient_is (pos z) (negsuc a) d r h e = absurd (omega (arith, ints, e, h))
quotient_is (negsuc z) (negsuc a) d r h e = let f : z + 1 + r ≡ suc a * d =
    omega (arith, ints, e) in ap negsuc (below_last a d r z h f)

-- a quotient with what is left
pub record Floor (z : ℤ) (d : ℕ) : Type 0 where
  pub rest : ℕ
  pub low : rest < d
  pub whole : z ≡ (int_div_euclid z (pos d) *ℤ pos d) +ℤ pos rest

pub floor : (z : ℤ) (d : ℕ) → 0 < d → Floor z d
floor (pos a) d h = record {
  rest = a % d;
  low = mod_below a d h;
  whole = let e =
      div-add-mod' a d in omega (arith, ints, e);
}
floor (negsuc a) d h = record {
  rest = d - 1 - a % d;
  low = omega (arith, h);
  whole = let e = div-add-mod' a d in let l = mod_below a d h in omega (arith, ints, e, l);
}

-- a frame is a million units of u ticks: at a speed of s millionths, k frames are k * u * s ticks
pub played : (k : ℤ) (u s : ℕ) → int_div_euclid ((k *ℤ pos (1000000 * u)) *ℤ pos s) (pos 1000000) ≡
    k *ℤ pos (u * s)
played k u s =
    quotient_is ((k *ℤ pos (1000000 * u)) *ℤ pos s) (k *ℤ pos (u * s)) 1000000 0 (omega arith)
    (let e = times-times k (1000000 * u) s in let f = times-times k (u * s) 1000000 in
    let g : 1000000 * u * s ≡ u * s * 1000000 = omega arith in
    let i = ap (λ n. k *ℤ pos n) g in
    omega (arith, ints, e, f, i))

-- the number of the frame that is reached by k frames from the start of the frame a, at a speed of
-- s millionths
pub gone : (a k : ℤ) (u s : ℕ) → 0 < u
    → int_div_euclid ((a *ℤ pos (1000000 * u)) +ℤ (k *ℤ pos (u * s))) (pos (1000000 * u)) ≡ a +ℤ
    int_div_euclid (k *ℤ pos s) (pos 1000000)
gone a k u s h =
    let f = floor (k *ℤ pos s) 1000000 (omega arith) in
    let q = int_div_euclid (k *ℤ pos s) (pos 1000000) in
    let low = mul_low u f.rest f.low h in
    quotient_is ((a *ℤ pos (1000000 * u)) +ℤ (k *ℤ pos (u * s))) (a +ℤ q) (1000000 * u) (f.rest * u)
    low (whole q f.rest f.whole)
  where
    mul_low : (u r : ℕ) → r < 1000000 → 0 < u → r * u < 1000000 * u
    mul_low u r l h =
        let e : r + 1 + (999999 - r) ≡ 1000000 = omega (arith, l) in
        let g = ap (λ n. n * u) e in omega (arith, g, h)

    whole : (q : ℤ) (r : ℕ) → k *ℤ pos s ≡ (q *ℤ pos 1000000) +ℤ pos r → (a *ℤ pos (1000000 * u)) +ℤ
        (k *ℤ pos (u * s)) ≡ ((a +ℤ q) *ℤ pos (1000000 * u)) +ℤ pos (r * u)
    whole q r e =
        let b = ap (λ z. z *ℤ pos u) e in
        let c = times-times k s u in
        let d = sum-times (q *ℤ pos 1000000) (pos r) u in
        let g = times-times q 1000000 u in
        let i = sum-times a q (1000000 * u) in
        let j = ap (λ n. k *ℤ pos n) (mul_comm s u) in
        omega (arith, ints, b, c, d, g, i, j)

pub reached : (a k : ℤ) (u s : ℕ) → 0 < u
    → int_div_euclid ((a *ℤ pos (1000000 * u)) +ℤ int_div_euclid ((k *ℤ pos (1000000 * u)) *ℤ pos s)
    (pos 1000000)) (pos (1000000 * u)) ≡ a +ℤ int_div_euclid (k *ℤ pos s) (pos 1000000)
reached a k u s h =
    ap (λ m. int_div_euclid ((a *ℤ pos (1000000 * u)) +ℤ m) (pos (1000000 * u))) (played k u s)
    ∙ gone a k u s h

-- a quotient, where whole divisors are added
pub moved : (z k : ℤ) (d : ℕ) → 0 < d → int_div_euclid (z +ℤ (k *ℤ pos d)) (pos d) ≡ int_div_euclid
    z (pos d) +ℤ k
moved z k d h =
    let f = floor z d h in
    let s = sum-times (int_div_euclid z (pos d)) k d in
    quotient_is (z +ℤ (k *ℤ pos d)) (int_div_euclid z (pos d) +ℤ k) d f.rest f.low
    (let w = f.whole in omega (arith, ints, w, s))

-- where a position stands on a frame, k frames on are counted from there; at its own speed it
-- may stand anywhere
pub phase_whole : (start b k : ℤ) (u s : ℕ) (q : ℤ) → 0 < u → (start *ℤ pos 1000000) +ℤ
    ((b *ℤ pos (1000000 * u)) *ℤ pos s) ≡ q *ℤ pos (1000000 * u * 1000000)
    → int_div_euclid (start +ℤ int_div_euclid (((b +ℤ k) *ℤ pos (1000000 * u)) *ℤ pos s)
    (pos 1000000)) (pos (1000000 * u))
    ≡ int_div_euclid (start +ℤ int_div_euclid ((b *ℤ pos (1000000 * u)) *ℤ pos s) (pos 1000000))
    (pos (1000000 * u)) +ℤ int_div_euclid (k *ℤ pos s) (pos 1000000)
phase_whole start b k u s q h e =
    let here : start +ℤ (b *ℤ pos (u * s)) ≡ q *ℤ pos (1000000 * u) =
    (let a = times-times b (1000000 * u) s in let c = times-times q (1000000 * u) 1000000 in
    let d = times-times b (u * s) 1000000 in let g : 1000000 * u * s ≡ u * s * 1000000 =
    omega arith in let i = ap (λ n. b *ℤ pos n) g in
    omega (arith, ints, e, a, c, d, i)) in
    let there : start +ℤ ((b +ℤ k) *ℤ pos (u * s)) ≡ (q *ℤ pos (1000000 * u)) +ℤ
    (k *ℤ pos (u * s)) = (let t = sum-times b k (u * s) in omega (arith, ints, here, t)) in
    ap (λ m. int_div_euclid (start +ℤ m) (pos (1000000 * u))) (played (b +ℤ k) u s)
    ∙ ap (λ m. int_div_euclid m (pos (1000000 * u))) there
    ∙ gone q k u s h
    ∙ ap (λ m. m +ℤ int_div_euclid (k *ℤ pos s) (pos 1000000))
    (sym (ap (λ m. int_div_euclid (start +ℤ m) (pos (1000000 * u))) (played b u s)
    ∙ ap (λ m. int_div_euclid m (pos (1000000 * u))) (here ∙ none_more (q *ℤ pos (1000000 * u)))
    ∙ gone q (pos 0) u s h ∙ last q))
  where
    none_more : (z : ℤ) → z ≡ z +ℤ (pos 0 *ℤ pos (u * s))
    none_more z = omega (arith, ints)

    last : (q : ℤ) → q +ℤ int_div_euclid (pos 0 *ℤ pos s) (pos 1000000) ≡ q
    last q = let z : pos 0 *ℤ pos s ≡ pos 0 = omega (arith, ints) in let e =
        ap (λ m. q +ℤ int_div_euclid m (pos 1000000)) z in e ∙ omega (arith, ints)

pub phase_own : (start b k : ℤ) (u : ℕ) → 0 < u
    → int_div_euclid (start +ℤ int_div_euclid (((b +ℤ k) *ℤ pos (1000000 * u)) *ℤ pos 1000000)
    (pos 1000000)) (pos (1000000 * u))
    ≡ int_div_euclid (start +ℤ int_div_euclid ((b *ℤ pos (1000000 * u)) *ℤ pos 1000000)
    (pos 1000000)) (pos (1000000 * u)) +ℤ int_div_euclid (k *ℤ pos 1000000) (pos 1000000)
phase_own start b k u h =
    let there : start +ℤ ((b +ℤ k) *ℤ pos (u * 1000000)) ≡ (start +ℤ (b *ℤ pos (u * 1000000))) +ℤ
    (k *ℤ pos (1000000 * u)) =
    (let t = sum-times b k (u * 1000000) in let c = ap (λ n. k *ℤ pos n) (mul_comm u 1000000) in
    omega (arith, ints, t, c)) in
    let own : k ≡ int_div_euclid (k *ℤ pos 1000000) (pos 1000000) =
    sym (quotient_is (k *ℤ pos 1000000) k 1000000 0 (omega arith) (omega (arith, ints))) in
    ap (λ m. int_div_euclid (start +ℤ m) (pos (1000000 * u))) (played (b +ℤ k) u 1000000)
    ∙ ap (λ m. int_div_euclid m (pos (1000000 * u))) there
    ∙ moved (start +ℤ (b *ℤ pos (u * 1000000))) k (1000000 * u) (omega (arith, h))
    ∙ ap₂ (λ m n. m +ℤ n)
    (sym (ap (λ m. int_div_euclid (start +ℤ m) (pos (1000000 * u))) (played b u 1000000))) own
