-- What stands in a JSON string for bytes, run by run.
use Rattle.std.proofs.Common.{◌≡◌, ◌<◌, ◌≤◌, ◌+◌, ◌-◌, ◌⊎◌, inl, inr, ℕ, zero, suc, true, false, cond, List, [], ◌∷◌, ◌++◌, Some, None, take, drop, length, position, get_or, refl, sym, ap, ap₂, ◌∙◌, subst, append-nil, take-append-drop, arith}
use Rattle.std.specs.Prelude.{nat_lt}
use Rattle.std.proofs.lemmas.List.{get_or-drop, get_or-take, length-drop, length-take, take_more}
use Rattle.std.proofs.lemmas.Grind.{common_steps, flat_map-append}
use Rattle.std.proofs.lemmas.Bool.Decides.{nat_tests}
use Rattle.std.specs.List.{position_or_len}
use Rattle.std.proofs.lemmas.List.Quantifiers.{position-Some}
use Rattle.std.proofs.lemmas.List.Sums.{fails_before_first, position_or_len_is}
use Rattle.json_text.specs.StringTexts.{IsPlain, escape, escaped, needs_escape}
use Rattle.json_text.proofs.Utf8Lemmas.{order}

-- a byte that needs no escape stands as it is
pub escape_plain : (b : ℕ) → needs_escape b ≡ false → escape b ≡ b ∷ []
escape_plain b h = grind (arith, nat_tests)

-- so many bytes that need no escape stand as they are
plain_front : (bytes : List ℕ) (i : ℕ) → i < length bytes → ((k : ℕ) → k < i → needs_escape (get_or bytes k 0) ≡ false)
    → escaped bytes ≡ take i bytes ++ escaped (drop i bytes)
plain_front [] i h plain = absurd (omega arith)
plain_front (b ∷ bytes) zero h plain = refl
plain_front (b ∷ bytes) (suc i) h plain =
    ap₂ (λ x y. x ++ y) (escape_plain b (plain 0 (omega arith)))
    (plain_front bytes i (omega arith) (λ k below. plain (suc k) (omega arith)))

-- the bytes before the first that needs an escape, and those from it on
pub escaped-Some : (bytes : List ℕ) (i : ℕ) → Some i ≡ position needs_escape bytes
    → (i < length bytes) × (escaped bytes ≡ take i bytes ++ escaped (drop i bytes))
escaped-Some bytes i h =
    let p = position-Some needs_escape bytes i 0 (sym h) in
    (p.0, plain_front bytes i p.0 p.2)

-- so many bytes, and the others
pub escaped-parts : (bytes : List ℕ) (n : ℕ)
    → escaped bytes ≡ escaped (take n bytes) ++ escaped (drop n bytes)
escaped-parts bytes n =
    ap (λ (x : List ℕ). escaped x) (sym (take-append-drop n bytes))
    ∙ flat_map-append escape (take n bytes) (drop n bytes)

-- one byte more
pub escaped-next : (bytes : List ℕ) (i : ℕ) → i < length bytes
    → escaped (take (i + 1) bytes) ≡ escaped (take i bytes) ++ escape (get_or bytes i 0)
escaped-next bytes i h =
    ap (λ (x : List ℕ). escaped x) (take_more bytes i 0 h)
    ∙ flat_map-append escape (take i bytes) (get_or bytes i 0 ∷ [])
    ∙ ap (λ x. escaped (take i bytes) ++ x) (append-nil (escape (get_or bytes i 0)))

all_plain : (bytes : List ℕ) → ((k : ℕ) → k < length bytes → needs_escape (get_or bytes k 0) ≡ false) → escaped bytes ≡ bytes
all_plain [] plain = refl
all_plain (b ∷ bytes) plain = ap₂ (λ x y. x ++ y) (escape_plain b (plain 0 (omega arith))) (all_plain bytes (λ k below. plain (suc k) (omega arith)))

pub escaped-None : (bytes : List ℕ) → None ≡ position needs_escape bytes → escaped bytes ≡ bytes
escaped-None bytes h =
    let past : length bytes ≤ position_or_len needs_escape bytes = grind (arith, common_steps, h) in
    all_plain bytes (λ k below. fails_before_first needs_escape bytes k 0 (omega (arith, past, below)))

-- ---- blocks without escapes

-- one byte more
pub more_plain : (bytes : List ℕ) (i : ℕ) → IsPlain i bytes → needs_escape (get_or bytes i 0) ≡ false
    → IsPlain (i + 1) bytes
more_plain bytes i h e = λ k below. by k (order k i) below
  where
    by : (k : ℕ) → (k < i) ⊎ (i ≤ k) → k < i + 1 → needs_escape (get_or bytes k 0) ≡ false
    by k (inl l) below = h k l
    by k (inr m) below =
        let same : k ≡ i = omega arith in rw same e

-- all bytes
pub whole_plain : (bytes : List ℕ) (i : ℕ) → length bytes ≤ i → IsPlain i bytes
    → IsPlain (length bytes) bytes
whole_plain bytes i h f = λ k below. f k (omega arith)

-- a block more
pub block_plain : (bytes block : List ℕ) (at n : ℕ) → block ≡ take n (drop at bytes)
    → at + n ≤ length bytes → IsPlain at bytes → IsPlain (length block) block
    → IsPlain (at + n) bytes
block_plain bytes block at n e h f g = λ k below. by k (order k at) below
  where
    long : length block ≡ n
    long = omega (arith, ap length e, length-take n (drop at bytes), length-drop at bytes)

    by : (k : ℕ) → (k < at) ⊎ (at ≤ k) → k < at + n → needs_escape (get_or bytes k 0) ≡ false
    by k (inl l) below = f k l
    by k (inr m) below =
        let j = k - at in
        let small : j < n = omega arith in
        let sum : at + j ≡ k = omega arith in
        let within : j < length block = omega (arith, long, small) in
        let here = g j within in
        let there : get_or block j 0 ≡ get_or bytes k 0 =
        ap (λ x. get_or x j 0) e ∙ get_or-take n (drop at bytes) j 0 small
        ∙ get_or-drop at bytes j 0 ∙ ap (λ x. get_or bytes x 0) sum in
        subst (λ (x : ℕ). needs_escape x ≡ false) there here

-- the first byte that needs an escape, behind some that don't
pub past-Some : (bytes rest : List ℕ) (n i : ℕ) → rest ≡ drop n bytes → n ≤ length bytes
    → IsPlain n bytes → Some i ≡ position needs_escape rest
    → Some (n + i) ≡ position needs_escape bytes
past-Some bytes rest n i d h plain e =
    let p = position-Some needs_escape rest i 0 (sym e) in
    let within : n + i < length bytes =
    omega (arith, h, p.0, ap length d, length-drop n bytes) in
    let here : needs_escape (get_or bytes (n + i) 0) ≡ true =
    sym (ap needs_escape (ap (λ x. get_or x i 0) d ∙ get_or-drop n bytes i 0)) ∙ p.1 in
    let place : position_or_len needs_escape bytes ≡ n + i =
    position_or_len_is needs_escape bytes (n + i) 0 (omega (arith, within))
    (λ k below. by k p.2 (order k n) below) (λ _. here) in
    let low : nat_lt (n + i) (length bytes) ≡ true = grind (arith, nat_tests, within) in
    sym (ap (λ x. cond (nat_lt x (length bytes)) (Some x) None) place
    ∙ ap (λ b. cond b (Some (n + i)) None) low)
  where
    by : (k : ℕ) → ((j : ℕ) → j < i → needs_escape (get_or rest j 0) ≡ false)
        → (k < n) ⊎ (n ≤ k) → k < n + i → needs_escape (get_or bytes k 0) ≡ false
    by k first (inl l) below = plain k l
    by k first (inr m) below =
        let j = k - n in
        let small : j < i = omega arith in
        let sum : n + j ≡ k = omega arith in
        subst (λ (x : ℕ). needs_escape x ≡ false)
        (ap (λ x. get_or x j 0) d ∙ get_or-drop n bytes j 0 ∙ ap (λ x. get_or bytes x 0) sum)
        (first j small)

pub past-None : (bytes rest : List ℕ) (n : ℕ) → rest ≡ drop n bytes → n ≤ length bytes
    → IsPlain n bytes → None ≡ position needs_escape rest → None ≡ position needs_escape bytes
past-None bytes rest n d h plain e =
    let past : length rest ≤ position_or_len needs_escape rest = grind (arith, common_steps, e) in
    let place : position_or_len needs_escape bytes ≡ length bytes =
    position_or_len_is needs_escape bytes (length bytes) 0 (omega arith)
    (λ k below. by k past (order k n) below) (λ below. absurd (omega (arith, below))) in
    let low : nat_lt (length bytes) (length bytes) ≡ false = grind (arith, nat_tests) in
    sym (ap (λ x. cond (nat_lt x (length bytes)) (Some x) None) place
    ∙ ap (λ b. cond b (Some (length bytes)) None) low)
  where
    by : (k : ℕ) → length rest ≤ position_or_len needs_escape rest → (k < n) ⊎ (n ≤ k)
        → k < length bytes → needs_escape (get_or bytes k 0) ≡ false
    by k past (inl l) below = plain k l
    by k past (inr m) below =
        let j = k - n in
        let sum : n + j ≡ k = omega arith in
        let small : j < length rest = omega (arith, ap length d, length-drop n bytes) in
        subst (λ (x : ℕ). needs_escape x ≡ false)
        (ap (λ x. get_or x j 0) d ∙ get_or-drop n bytes j 0 ∙ ap (λ x. get_or bytes x 0) sum)
        (fails_before_first needs_escape rest j 0 (omega (arith, past, small)))
