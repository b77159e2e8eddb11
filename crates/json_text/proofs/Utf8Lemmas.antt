-- Characters of several bytes, by their first byte.
use Rattle.std.proofs.Common.{◌≡◌, ℕ, ◌+◌, ◌-◌, ◌*◌, ◌/◌, ◌<◌, ◌≤◌, List, [], ◌∷◌, Bool, true, false, refl, sym, ap, ◌∙◌, arith, subst, cond, ◌⊎◌, inl, inr}
use Rattle.std.proofs.lemmas.Bool.Decides.{nat_tests}
use Rattle.std.specs.Prelude.{◌==◌, nat_lt}
use Rattle.std.specs.Int.{is_in_range}
use Rattle.std.specs.Char.{IsScalar, encode_utf8}
use lib.Utf8.{next, encode, low_scalar, scalar_cases}
use Rattle.json_text.specs.State.Machine.{tails}
use Rattle.json_text.proofs.Basics.{is_byte, is_other, other_is, is_below, is_least, below_is, least_is}

pub order : (m n : ℕ) → (m < n) ⊎ (n ≤ m)
order m n = by (nat_lt m n) refl
  where
    by : (y : Bool) → nat_lt m n ≡ y → (m < n) ⊎ (n ≤ m)
    by true e = inl (is_below m n e)
    by false e = inr (is_least m n e)

pub high_scalar : (c : ℕ) → 57344 ≤ c → c < 1114112 → IsScalar c
high_scalar c l h = grind (arith, nat_tests)

pub two : (c : ℕ) → 128 ≤ c → c < 2048 → encode_utf8 c ≡ (192 + c / 64) ∷ next c ∷ []
unfolding encode
two c l h =
    let p : nat_lt c 128 ≡ false = least_is c 128 l in
    let q : nat_lt c 2048 ≡ true = below_is c 2048 h in
    rw (p, q) refl

pub three : (c : ℕ) → 2048 ≤ c → c < 65536 → encode_utf8 c ≡ (224 + c / 4096) ∷ next (c / 64) ∷ next c ∷ []
unfolding encode
three c l h =
    let p : nat_lt c 128 ≡ false = least_is c 128 (omega arith) in
    let q : nat_lt c 2048 ≡ false = least_is c 2048 l in
    let r : nat_lt c 65536 ≡ true = below_is c 65536 h in
    rw (p, q, r) refl

pub four : (c : ℕ) → 65536 ≤ c → encode_utf8 c ≡ (240 + c / 262144) ∷ next (c / 4096) ∷ next (c / 64) ∷ next c ∷ []
unfolding encode
four c l =
    let p : nat_lt c 128 ≡ false = least_is c 128 (omega arith) in
    let q : nat_lt c 2048 ≡ false = least_is c 2048 (omega arith) in
    let r : nat_lt c 65536 ≡ false = least_is c 65536 l in
    rw (p, q, r) refl

-- each byte stands in its range
abbrev pub Within : List (ℕ × ℕ) → List ℕ → Type 0
Within [] [] = Unit {0}
Within [] (b ∷ w) = ⊥
Within (r ∷ rs) [] = ⊥
Within (r ∷ rs) (b ∷ w) = (is_in_range r.0 r.1 b ≡ true) × Within rs w

-- the character is a first byte and bytes in the ranges of that
pub record IsWide (c : ℕ) : Type 0 where
  pub lead : ℕ
  pub first : ℕ × ℕ
  pub others : List (ℕ × ℕ)
  pub bytes : List ℕ
  pub is : encode_utf8 c ≡ lead ∷ bytes
  pub ranges : tails lead ≡ first ∷ others
  pub within : Within (first ∷ others) bytes
  pub high : 128 ≤ lead

follows : (b : ℕ) → 128 ≤ b → b < 192 → is_in_range 128 191 b ≡ true
follows b l h = grind (arith, nat_tests)

ranged : (lo hi b : ℕ) → lo ≤ b → b ≤ hi → is_in_range lo hi b ≡ true
ranged lo hi b l h = grind (arith, nat_tests)

range_lo : (lo hi b : ℕ) → is_in_range lo hi b ≡ true → lo ≤ b
range_lo lo hi b e = grind (arith, nat_tests)

range_hi : (lo hi b : ℕ) → is_in_range lo hi b ≡ true → b ≤ hi
range_hi lo hi b e = grind (arith, nat_tests)

tails-two : (a : ℕ) → 194 ≤ a → a < 224 → tails a ≡ (128, 191) ∷ []
tails-two a l h = let p : nat_lt a 194 ≡ false = least_is a 194 l in let q : nat_lt a 224 ≡ true = below_is a 224 h in rw (p, q) refl

tails-three : (a : ℕ) → 224 < a → a < 240 → (a ≡ 237 → ⊥) → tails a ≡ (128, 191) ∷ (128, 191) ∷ []
tails-three a l h n =
    let p : nat_lt a 194 ≡ false = least_is a 194 (omega arith) in
    let q : nat_lt a 224 ≡ false = least_is a 224 (omega arith) in
    let r : (a == 224) ≡ false = other_is a 224 (omega arith) in
    let s : (a == 237) ≡ false = other_is a 237 n in
    let t : nat_lt a 240 ≡ true = below_is a 240 h in
    rw (p, q, r, s, t) refl

tails-four : (a : ℕ) → 240 < a → a < 244 → tails a ≡ (128, 191) ∷ (128, 191) ∷ (128, 191) ∷ []
tails-four a l h =
    let p : nat_lt a 194 ≡ false = least_is a 194 (omega arith) in
    let q : nat_lt a 224 ≡ false = least_is a 224 (omega arith) in
    let r : (a == 224) ≡ false = other_is a 224 (omega arith) in
    let s : (a == 237) ≡ false = other_is a 237 (omega arith) in
    let t : nat_lt a 240 ≡ false = least_is a 240 (omega arith) in
    let u : (a == 240) ≡ false = other_is a 240 (omega arith) in
    let w : nat_lt a 244 ≡ true = below_is a 244 h in
    rw (p, q, r, s, t, u, w) refl

tails-same : (a d : ℕ) (rs : List (ℕ × ℕ)) → tails d ≡ rs → a ≡ d → tails a ≡ rs
tails-same a d rs e h = ap tails h ∙ e

pub wide_of : (c : ℕ) → IsScalar c → 128 ≤ c → IsWide c
wide_of c s l = by (order c 2048) (order c 65536) (scalar_cases c s)
  where
    in_three : (a b d : ℕ) → 224 ≤ a → a < 240 → (128 ≤ b) × (b < 192) → (128 ≤ d) × (d < 192) → c + 925824 ≡ a * 4096 + b * 64 + d → 2048 ≤ c → encode_utf8 c ≡ a ∷ b ∷ d ∷ []
        → (c < 55296) ⊎ ((57344 ≤ c) × (c < 1114112)) → (p q : Bool) → (a == 224) ≡ p → (a == 237) ≡ q → IsWide c
    in_three a b d la ha fb fd e lo is k true q x y =
        let n : a ≡ 224 = is_byte a 224 x in
        record { lead = a; first = (160, 191); others = (128, 191) ∷ []; bytes = b ∷ d ∷ []; is = is; ranges = tails-same a 224 _ refl n; within = (ranged 160 191 b (omega arith) (omega arith), (follows d fd.0 fd.1, tt)); high = omega arith }
    in_three a b d la ha fb fd e lo is (inl k) false true x y =
        let n : a ≡ 237 = is_byte a 237 y in
        record { lead = a; first = (128, 159); others = (128, 191) ∷ []; bytes = b ∷ d ∷ []; is = is; ranges = tails-same a 237 _ refl n; within = (ranged 128 159 b (omega arith) (omega arith), (follows d fd.0 fd.1, tt)); high = omega arith }
    in_three a b d la ha fb fd e lo is (inr k) false true x y = let n : a ≡ 237 = is_byte a 237 y in absurd (omega arith)
    in_three a b d la ha fb fd e lo is k false false x y =
        let n = is_other a 224 x in
        record { lead = a; first = (128, 191); others = (128, 191) ∷ []; bytes = b ∷ d ∷ []; is = is; ranges = tails-three a (omega arith) ha (is_other a 237 y); within = (follows b fb.0 fb.1, (follows d fd.0 fd.1, tt)); high = omega arith }

    in_four : (a b d f : ℕ) → 240 ≤ a → a < 248 → (128 ≤ b) × (b < 192) → (128 ≤ d) × (d < 192) → (128 ≤ f) × (f < 192) → c + 63447168 ≡ a * 262144 + b * 4096 + d * 64 + f → 65536 ≤ c → c < 1114112 → encode_utf8 c ≡ a ∷ b ∷ d ∷ f ∷ []
        → (p q : Bool) → (a == 240) ≡ p → (a == 244) ≡ q → IsWide c
    in_four a b d f la ha fb fd ff e lo hi is true q x y =
        let n : a ≡ 240 = is_byte a 240 x in
        record { lead = a; first = (144, 191); others = (128, 191) ∷ (128, 191) ∷ []; bytes = b ∷ d ∷ f ∷ []; is = is; ranges = tails-same a 240 _ refl n; within = (ranged 144 191 b (omega arith) (omega arith), (follows d fd.0 fd.1, (follows f ff.0 ff.1, tt))); high = omega arith }
    in_four a b d f la ha fb fd ff e lo hi is false true x y =
        let n : a ≡ 244 = is_byte a 244 y in
        record { lead = a; first = (128, 143); others = (128, 191) ∷ (128, 191) ∷ []; bytes = b ∷ d ∷ f ∷ []; is = is; ranges = tails-same a 244 _ refl n; within = (ranged 128 143 b (omega arith) (omega arith), (follows d fd.0 fd.1, (follows f ff.0 ff.1, tt))); high = omega arith }
    in_four a b d f la ha fb fd ff e lo hi is false false x y =
        let n = is_other a 240 x in
        let m = is_other a 244 y in
        record { lead = a; first = (128, 191); others = (128, 191) ∷ (128, 191) ∷ []; bytes = b ∷ d ∷ f ∷ []; is = is; ranges = tails-four a (omega arith) (omega arith); within = (follows b fb.0 fb.1, (follows d fd.0 fd.1, (follows f ff.0 ff.1, tt))); high = omega arith }

    below : (c < 55296) ⊎ ((57344 ≤ c) × (c < 1114112)) → c < 1114112
    below (inl k) = omega arith
    below (inr k) = k.1

    fits : (x : ℕ) → (128 ≤ next x) × (next x < 192)
    fits x = (omega arith, omega arith)

    by : (c < 2048) ⊎ (2048 ≤ c) → (c < 65536) ⊎ (65536 ≤ c) → (c < 55296) ⊎ ((57344 ≤ c) × (c < 1114112)) → IsWide c
    by (inl h) j k =
        record { lead = 192 + c / 64; first = (128, 191); others = []; bytes = next c ∷ []; is = two c l h; ranges = tails-two (192 + c / 64) (omega arith) (omega arith); within = (follows (next c) (fits c).0 (fits c).1, tt); high = omega arith }
    by (inr i) (inl h) k =
        in_three (224 + c / 4096) (next (c / 64)) (next c) (omega arith) (omega arith) (fits (c / 64)) (fits c) (omega arith) i (three c i h) k (224 + c / 4096 == 224) (224 + c / 4096 == 237) refl refl
    by (inr i) (inr h) k =
        let top = below k in
        in_four (240 + c / 262144) (next (c / 4096)) (next (c / 64)) (next c) (omega arith) (omega arith) (fits (c / 4096)) (fits (c / 64)) (fits c) (omega arith) h top (four c h) (240 + c / 262144 == 240) (240 + c / 262144 == 244) refl refl

-- a character whose bytes are these
abbrev pub IsOf : ℕ → List ℕ → Type 0
IsOf lead bytes = (c : ℕ) × IsScalar c × (128 ≤ c) × (encode_utf8 c ≡ lead ∷ bytes)

of_two : (a b : ℕ) → 194 ≤ a → a < 224 → is_in_range 128 191 b ≡ true → IsOf a (b ∷ [])
of_two a b l h r =
    let x = range_lo 128 191 b r in
    let y = range_hi 128 191 b r in
    let c = (a - 192) * 64 + (b - 128) in
    let p : a ≡ 192 + c / 64 = omega arith in
    let q : b ≡ next c = omega arith in
    (c, low_scalar c (omega arith), omega arith, two c (omega arith) (omega arith) ∙ sym (λ k. p k ∷ q k ∷ []))

abbrev code_three : ℕ → ℕ → ℕ → ℕ
code_three a b d = (a - 224) * 4096 + (b - 128) * 64 + (d - 128)

of_three : (a b d : ℕ) → 224 ≤ a → a < 240 → (128 ≤ b) × (b ≤ 191) → is_in_range 128 191 d ≡ true → 2048 ≤ code_three a b d → (code_three a b d < 55296) ⊎ (57344 ≤ code_three a b d) → IsOf a (b ∷ d ∷ [])
of_three a b d l h r s least fits =
    let x = r.0 in
    let y = r.1 in
    let z = range_lo 128 191 d s in
    let w = range_hi 128 191 d s in
    let c = (a - 224) * 4096 + (b - 128) * 64 + (d - 128) in
    let p : a ≡ 224 + c / 4096 = omega arith in
    let q : b ≡ next (c / 64) = omega arith in
    let t : d ≡ next c = omega arith in
    (c, by fits, omega arith, three c least (omega arith) ∙ sym (λ k. p k ∷ q k ∷ t k ∷ []))
  where
    by : (code_three a b d < 55296) ⊎ (57344 ≤ code_three a b d) → IsScalar (code_three a b d)
    by (inl k) = low_scalar (code_three a b d) k
    by (inr k) = let x = r.1 in let w = range_hi 128 191 d s in high_scalar (code_three a b d) k (omega arith)

of_four : (a b d f : ℕ) → 240 ≤ a → (128 ≤ b) × (b ≤ 191) → is_in_range 128 191 d ≡ true → is_in_range 128 191 f ≡ true → 16 ≤ (a - 240) * 64 + (b - 128) → (a - 240) * 64 + (b - 128) < 272 → IsOf a (b ∷ d ∷ f ∷ [])
of_four a b d f l r s t least most =
    let x = r.0 in
    let y = r.1 in
    let z = range_lo 128 191 d s in
    let w = range_hi 128 191 d s in
    let u = range_lo 128 191 f t in
    let v = range_hi 128 191 f t in
    let c = (a - 240) * 262144 + (b - 128) * 4096 + (d - 128) * 64 + (f - 128) in
    let p : a ≡ 240 + c / 262144 = omega arith in
    let q : b ≡ next (c / 4096) = omega arith in
    let e : c / 64 ≡ (a - 240) * 4096 + (b - 128) * 64 + (d - 128) = omega arith in
    let g : d ≡ next (c / 64) = subst (λ (m : ℕ). d ≡ next m) (sym e) (omega arith) in
    let j : f ≡ next c = omega arith in
    let low : 65536 ≤ c = omega arith in
    (c, high_scalar c (omega arith) (omega arith), omega arith, four c low ∙ sym (λ k. p k ∷ q k ∷ g k ∷ j k ∷ []))

from_two : (a : ℕ) → 194 ≤ a → a < 224 → (w : List ℕ) → Within ((128, 191) ∷ []) w → IsOf a w
from_two a l h [] k = absurd k
from_two a l h (b ∷ []) k = of_two a b l h k.0
from_two a l h (b ∷ d ∷ w) k = absurd k.1

from_three : (a lo hi : ℕ) → 224 ≤ a → a < 240 → ((b d : ℕ) → lo ≤ b → b ≤ hi → 128 ≤ d → d ≤ 191 → (128 ≤ b) × (b ≤ 191) × (2048 ≤ code_three a b d) × ((code_three a b d < 55296) ⊎ (57344 ≤ code_three a b d)))
    → (w : List ℕ) → Within ((lo, hi) ∷ (128, 191) ∷ []) w → IsOf a w
from_three a lo hi l h f [] k = absurd k
from_three a lo hi l h f (b ∷ []) k = absurd k.1
from_three a lo hi l h f (b ∷ d ∷ []) k =
    let g = f b d (range_lo lo hi b k.0) (range_hi lo hi b k.0) (range_lo 128 191 d k.1.0) (range_hi 128 191 d k.1.0) in of_three a b d l h (g.0, g.1) k.1.0 g.2 g.3
from_three a lo hi l h f (b ∷ d ∷ e ∷ w) k = absurd k.1.1

from_four : (a lo hi : ℕ) → 240 ≤ a → ((b : ℕ) → lo ≤ b → b ≤ hi → (128 ≤ b) × (b ≤ 191) × (16 ≤ (a - 240) * 64 + (b - 128)) × ((a - 240) * 64 + (b - 128) < 272))
    → (w : List ℕ) → Within ((lo, hi) ∷ (128, 191) ∷ (128, 191) ∷ []) w → IsOf a w
from_four a lo hi l f [] k = absurd k
from_four a lo hi l f (b ∷ []) k = absurd k.1
from_four a lo hi l f (b ∷ d ∷ []) k = absurd k.1.1
from_four a lo hi l f (b ∷ d ∷ e ∷ []) k =
    let g = f b (range_lo lo hi b k.0) (range_hi lo hi b k.0) in of_four a b d e l (g.0, g.1) k.1.0 k.1.1.0 g.2 g.3
from_four a lo hi l f (b ∷ d ∷ e ∷ g ∷ w) k = absurd k.1.1.1

-- the character of a first byte and bytes in its ranges
pub of_wide : (a : ℕ) (r : ℕ × ℕ) (rs : List (ℕ × ℕ)) (w : List ℕ) → tails a ≡ r ∷ rs → Within (r ∷ rs) w → IsOf a w
of_wide a r rs w = by (nat_lt a 0xC2) (nat_lt a 0xE0) (a == 0xE0) (a == 0xED) (nat_lt a 0xF0) (a == 0xF0) (nat_lt a 0xF4) (a == 0xF4) refl refl refl refl refl refl refl refl
  where
    at : (ts : List (ℕ × ℕ)) → ts ≡ r ∷ rs → Within (r ∷ rs) w → Within ts w
    at ts e h = subst (λ (l : List (ℕ × ℕ)). Within l w) (sym e) h

    by : (p q s t u v x y : Bool) → nat_lt a 0xC2 ≡ p → nat_lt a 0xE0 ≡ q → (a == 0xE0) ≡ s → (a == 0xED) ≡ t → nat_lt a 0xF0 ≡ u → (a == 0xF0) ≡ v → nat_lt a 0xF4 ≡ x → (a == 0xF4) ≡ y
        → cond p [] (cond q ((0x80, 0xBF) ∷ []) (cond s ((0xA0, 0xBF) ∷ (0x80, 0xBF) ∷ []) (cond t ((0x80, 0x9F) ∷ (0x80, 0xBF) ∷ []) (cond u ((0x80, 0xBF) ∷ (0x80, 0xBF) ∷ [])
        (cond v ((0x90, 0xBF) ∷ (0x80, 0xBF) ∷ (0x80, 0xBF) ∷ []) (cond x ((0x80, 0xBF) ∷ (0x80, 0xBF) ∷ (0x80, 0xBF) ∷ []) (cond y ((0x80, 0x8F) ∷ (0x80, 0xBF) ∷ (0x80, 0xBF) ∷ []) []))))))) ≡ r ∷ rs
        → Within (r ∷ rs) w → IsOf a w
    by true q s t u v x y e₁ e₂ e₃ e₄ e₅ e₆ e₇ e₈ e h = cc e
    by false true s t u v x y e₁ e₂ e₃ e₄ e₅ e₆ e₇ e₈ e h = from_two a (is_least a 194 e₁) (is_below a 224 e₂) w (at _ e h)
    by false false true t u v x y e₁ e₂ e₃ e₄ e₅ e₆ e₇ e₈ e h =
        let n : a ≡ 224 = is_byte a 224 e₃ in
        from_three a 160 191 (omega arith) (omega arith) (λ b d i j k l. (omega arith, omega arith, omega arith, inl (omega arith))) w (at _ e h)
    by false false false true u v x y e₁ e₂ e₃ e₄ e₅ e₆ e₇ e₈ e h =
        let n : a ≡ 237 = is_byte a 237 e₄ in
        from_three a 128 159 (omega arith) (omega arith) (λ b d i j k l. (omega arith, omega arith, omega arith, inl (omega arith))) w (at _ e h)
    by false false false false true v x y e₁ e₂ e₃ e₄ e₅ e₆ e₇ e₈ e h =
        let m = is_least a 224 e₂ in
        let n = is_other a 224 e₃ in
        let o = is_other a 237 e₄ in
        let p = is_below a 240 e₅ in
        from_three a 128 191 m p (λ b d i j k l. (i, j, omega arith, high_or_low b d i j k l (order a 237))) w (at _ e h)
      where
        high_or_low : (b d : ℕ) → 128 ≤ b → b ≤ 191 → 128 ≤ d → d ≤ 191 → (a < 237) ⊎ (237 ≤ a) → (code_three a b d < 55296) ⊎ (57344 ≤ code_three a b d)
        high_or_low b d i j k l (inl z) = inl (omega arith)
        high_or_low b d i j k l (inr z) = let o = is_other a 237 e₄ in let zz : 238 ≤ a = omega arith in inr (omega arith)
    by false false false false false true x y e₁ e₂ e₃ e₄ e₅ e₆ e₇ e₈ e h =
        let n : a ≡ 240 = is_byte a 240 e₆ in from_four a 144 191 (omega arith) (λ b i j. (omega arith, omega arith, omega arith, omega arith)) w (at _ e h)
    by false false false false false false true y e₁ e₂ e₃ e₄ e₅ e₆ e₇ e₈ e h =
        let m = is_least a 240 e₅ in
        let n = is_other a 240 e₆ in
        let o = is_below a 244 e₇ in
        from_four a 128 191 m (λ b i j. (omega arith, omega arith, omega arith, omega arith)) w (at _ e h)
    by false false false false false false false true e₁ e₂ e₃ e₄ e₅ e₆ e₇ e₈ e h =
        let n : a ≡ 244 = is_byte a 244 e₈ in from_four a 128 143 (omega arith) (λ b i j. (omega arith, omega arith, omega arith, omega arith)) w (at _ e h)
    by false false false false false false false false e₁ e₂ e₃ e₄ e₅ e₆ e₇ e₈ e h = cc e
