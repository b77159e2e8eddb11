-- Places in joined lists.
use Rattle.std.proofs.Common.{◌≡◌, ℕ, zero, suc, ◌+◌, ◌*◌, ◌/◌, ◌%◌, ◌<◌, Bool, true, false, take, Option, Some, None, List, [], ◌∷◌, ◌++◌, length, get_or, slice_get, flat_map, filter, cond, option_map, refl, sym, ap, ◌∙◌, arith, suc-add, zero-add, add-zero, zero-mul, length-append, div-add-mod'}
use Rattle.std.proofs.lemmas.Option.{slice_get_within}
use Rattle.std.proofs.lemmas.Nat.{div_below, mod_below}
use Rattle.std.specs.List.{range_with_len}

pub slice_get-front : {X : Type 0} (xs ys : List X) (i : ℕ) → i < length xs → slice_get (xs ++ ys) i ≡ slice_get xs i
slice_get-front [] ys i h = absurd (omega arith)
slice_get-front (x ∷ xs) ys zero h = refl
slice_get-front (x ∷ xs) ys (suc i) h = slice_get-front xs ys i (omega arith)

pub slice_get-back : {X : Type 0} (xs ys : List X) (i : ℕ) → slice_get (xs ++ ys) (length xs + i) ≡ slice_get ys i
slice_get-back [] ys i = ap (slice_get ys) (zero-add i)
slice_get-back (x ∷ xs) ys i = ap (slice_get (x ∷ (xs ++ ys))) (suc-add (length xs) i) ∙ slice_get-back xs ys i

-- lists of one length, joined: how long they are, and the j-th element of the i-th of them
pub length-pieces : {X : Type 0} (f : ℕ → List X) (w a n : ℕ) → ((k : ℕ) → length (f k) ≡ w) → length (flat_map f (range_with_len a n)) ≡ n * w
length-pieces f w a zero long = sym (zero-mul w)
length-pieces f w a (suc n) long =
    let here : length (f a) ≡ w = long a in
    let rest : length (flat_map f (range_with_len (a + 1) n)) ≡ n * w = length-pieces f w (a + 1) n long in
    length-append (f a) (flat_map f (range_with_len (a + 1) n)) ∙ omega (arith, here, rest)

pub slice_get-pieces : {X : Type 0} (f : ℕ → List X) (w a n i j : ℕ) → ((k : ℕ) → length (f k) ≡ w) → i < n → j < w
    → slice_get (flat_map f (range_with_len a n)) (i * w + j) ≡ slice_get (f (a + i)) j
slice_get-pieces f w a zero i j long hi hj = absurd (omega arith)
slice_get-pieces f w a (suc n) zero j long hi hj =
    let here : length (f a) ≡ w = long a in
    let start : 0 * w + j ≡ j = omega arith in
    ap (slice_get (f a ++ flat_map f (range_with_len (a + 1) n))) start
    ∙ slice_get-front (f a) (flat_map f (range_with_len (a + 1) n)) j (omega (arith, here))
    ∙ ap (λ k. slice_get (f k) j) (sym (add-zero a))
slice_get-pieces f w a (suc n) (suc i) j long hi hj =
    let here : length (f a) ≡ w = long a in
    let later : suc i * w + j ≡ length (f a) + (i * w + j) = omega (arith, here) in
    let next : a + 1 + i ≡ a + suc i = omega arith in
    ap (slice_get (f a ++ flat_map f (range_with_len (a + 1) n))) later
    ∙ slice_get-back (f a) (flat_map f (range_with_len (a + 1) n)) (i * w + j)
    ∙ slice_get-pieces f w (a + 1) n i j long (omega arith) hj
    ∙ ap (λ k. slice_get (f k) j) next

-- where an element of joined lists of one length stands
pub record IsPiece {X : Type 0} (f : ℕ → List X) (w n t : ℕ) (x : X) (i j : ℕ) : Type 0 where
  pub which : i < n
  pub within : j < w
  pub place : t ≡ i * w + j
  pub there : slice_get (f i) j ≡ Some x

pub piece_of : {X : Type 0} (f : ℕ → List X) (w n t : ℕ) (x : X) → ((k : ℕ) → length (f k) ≡ w)
    → slice_get (flat_map f (range_with_len 0 n)) t ≡ Some x → (i : ℕ) × (j : ℕ) × IsPiece f w n t x i j
piece_of f w n t x long e =
    let inside : t < length (flat_map f (range_with_len 0 n)) = slice_get_within (flat_map f (range_with_len 0 n)) t x e in
    let whole : length (flat_map f (range_with_len 0 n)) ≡ n * w = length-pieces f w 0 n long in
    let below : t < n * w = omega (arith, inside, whole) in
    let some : 0 < w = positive n w below in
    let split : t / w * w + t % w ≡ t = div-add-mod' t w in
    let which : t / w < n = div_below t w n some below in
    let within : t % w < w = mod_below t w some in (
      t / w,
      t % w,
      record {
        which = which;
        within = within;
        place = sym split;
        there = sym (ap (λ k. slice_get (f k) (t % w)) (zero-add (t / w)))
            ∙ sym (slice_get-pieces f w 0 n (t / w) (t % w) long which within)
            ∙ ap (slice_get (flat_map f (range_with_len 0 n))) split
            ∙ e;
      },
    )
  where
    positive : (n w : ℕ) {t : ℕ} → t < n * w → 0 < w
    positive n zero h = absurd (omega arith)
    positive n (suc w) h = omega arith

-- what passes a test stands, among all that passes it, after as many as pass it before
pub filter_at : {X : Type 0} (p : X → Bool) (xs : List X) (t : ℕ) (x : X) → slice_get xs t ≡ Some x → p x ≡ true → slice_get (filter p xs) (length (filter p (take t xs))) ≡ Some x
filter_at p [] t x e passes = cc
filter_at p (y ∷ xs) zero x e passes =
    let same : y ≡ x = cc in
    let here : p y ≡ true = ap p same ∙ passes in
    ap (λ b. slice_get (cond b (y ∷ filter p xs) (filter p xs)) 0) here ∙ e
filter_at p (y ∷ xs) (suc t) x e passes = skip (p y) y (filter p xs) (filter p (take t xs)) ∙ filter_at p xs t x e passes
  where
    skip : {X : Type 0} (b : Bool) (y : X) (all some : List X) → slice_get (cond b (y ∷ all) all) (length (cond b (y ∷ some) some)) ≡ slice_get all (length some)
    skip true y all some = refl
    skip false y all some = refl

-- where an element of a filtered list comes from
pub record IsKept {X : Type 0} (p : X → Bool) (xs : List X) (k : ℕ) (x : X) (t : ℕ) : Type 0 where
  pub there : slice_get xs t ≡ Some x
  pub passes : p x ≡ true
  pub count : k ≡ length (filter p (take t xs))

kept_step : {X : Type 0} (p : X → Bool) (y : X) (xs : List X) (x : X) → ((k : ℕ) → slice_get (filter p xs) k ≡ Some x → (t : ℕ) × IsKept p xs k x t)
    → (b : Bool) → p y ≡ b → (k : ℕ) → slice_get (cond b (y ∷ filter p xs) (filter p xs)) k ≡ Some x → (t : ℕ) × IsKept p (y ∷ xs) k x t
kept_step p y xs x before true e zero h =
    let same : y ≡ x = cc in
    (0, record { there = h; passes = sym (ap p same) ∙ e; count = refl })
kept_step p y xs x before true e (suc k) h =
    let found = before k h in (
      suc found.0,
      record {
        there = found.1.there;
        passes = found.1.passes;
        count = ap (λ n. suc n) found.1.count ∙ ap (λ b. length (cond b (y ∷ filter p (take found.0 xs)) (filter p (take found.0 xs)))) (sym e);
      },
    )
kept_step p y xs x before false e k h =
    let found = before k h in (
      suc found.0,
      record {
        there = found.1.there;
        passes = found.1.passes;
        count = found.1.count ∙ ap (λ b. length (cond b (y ∷ filter p (take found.0 xs)) (filter p (take found.0 xs)))) (sym e);
      },
    )

pub filter_from : {X : Type 0} (p : X → Bool) (xs : List X) (k : ℕ) (x : X) → slice_get (filter p xs) k ≡ Some x → (t : ℕ) × IsKept p xs k x t
filter_from p [] k x e = cc
filter_from p (y ∷ xs) k x e = kept_step p y xs x (λ k h. filter_from p xs k x h) (p y) refl k e

-- what a map's element is made of
pub option_from_map : {X Y : Type 0} (f : X → Y) (o : Option X) (y : Y) → option_map f o ≡ Some y → (x : X) × (o ≡ Some x) × (y ≡ f x)
option_from_map f None y e = cc
option_from_map f (Some x) y e = (x, refl, cc)

-- a list of eleven numbers, written out
pub eleven : (xs : List ℕ) → length xs ≡ 11
    → xs ≡ get_or xs 0 0 ∷ get_or xs 1 0 ∷ get_or xs 2 0 ∷ get_or xs 3 0 ∷ get_or xs 4 0 ∷ get_or xs 5 0 ∷ get_or xs 6 0 ∷ get_or xs 7 0 ∷ get_or xs 8 0 ∷ get_or xs 9 0 ∷ get_or xs 10 0 ∷ []
eleven (a ∷ b ∷ c ∷ d ∷ e ∷ f ∷ g ∷ h ∷ i ∷ j ∷ k ∷ []) l = refl
eleven (a ∷ b ∷ c ∷ d ∷ e ∷ f ∷ g ∷ h ∷ i ∷ j ∷ k ∷ l ∷ m) n = absurd (omega arith)
eleven _ l = absurd (omega arith)
