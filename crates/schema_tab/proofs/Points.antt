-- A text around its first point.
use Rattle.std.proofs.Common.{◌≡◌, ◌≢◌, ◌⊎◌, inl, inr, subst, ◌<◌, ◌≤◌, ℕ, zero, suc, List, [], ◌∷◌, ◌++◌, length, take, get_or, refl, sym, ap, ◌∙◌, arith, length-take}
use Rattle.std.specs.Str.Parse.{AllDigits, digits_value}
use Rattle.std.proofs.lemmas.Int.Digits.{digits_value-lt}
use Rattle.std.proofs.Math.Nat.{pow-le-pow_right}
use Rattle.schema_rows.specs.Schemas.{IsSchemaText}

-- two cuts of one text at a point, with none before it, are the same
pub cut_once : (xs ys zs bs : List ℕ) → xs ++ (46 ∷ ys) ≡ zs ++ (46 ∷ bs) → ((i : ℕ) → i < length xs → get_or xs i 0 ≢ 46) → ((i : ℕ) → i < length zs → get_or zs i 0 ≢ 46)
    → (xs ≡ zs) × (ys ≡ bs)
cut_once [] ys [] bs e h k = (refl, cc)
cut_once [] ys (a ∷ zs) bs e h k = absurd (k 0 (omega arith) (ap (λ (l : List ℕ). get_or l 0 0) (sym e)))
cut_once (x ∷ xs) ys [] bs e h k = absurd (h 0 (omega arith) (ap (λ (l : List ℕ). get_or l 0 0) e))
cut_once (x ∷ xs) ys (a ∷ zs) bs e h k =
    let head : x ≡ a = cc in
    let tail : xs ++ (46 ∷ ys) ≡ zs ++ (46 ∷ bs) = cc in
    let below = cut_once xs ys zs bs tail (λ i b. h (suc i) (omega arith)) (λ i b. k (suc i) (omega arith)) in
    (cc, below.1)

-- a text that begins with these digits after its point has them for its version
pub parts_are : (text before behind name : List ℕ) (version : ℕ) → text ≡ before ++ (46 ∷ behind) → ((i : ℕ) → i < length before → get_or before i 0 ≢ 46)
    → (h : IsSchemaText text name version) → (before ≡ name) × (behind ≡ h.digits)
parts_are text before behind name version e plain h = cut_once before behind name h.digits (sym e ∙ h.spelled) plain h.no_point

-- the point stands in the text
pub has_point : (text name : List ℕ) (version : ℕ) → ((i : ℕ) → i < length text → get_or text i 0 ≢ 46) → IsSchemaText text name version → ⊥
has_point text name version none h = none (length name) (at name h.digits h.spelled).0 (at name h.digits h.spelled).1 where
  at : (xs ys : List ℕ) → text ≡ xs ++ (46 ∷ ys) → (length xs < length text) × (get_or text (length xs) 0 ≡ 46)
  at xs ys e = rw e (behind xs ys) where
    behind : (xs ys : List ℕ) → (length xs < length (xs ++ (46 ∷ ys))) × (get_or (xs ++ (46 ∷ ys)) (length xs) 0 ≡ 46)
    behind [] ys = (omega arith, refl)
    behind (x ∷ xs) ys = let below = behind xs ys in (omega (arith, below.0), below.1)

take_digits : (digits : List ℕ) (i : ℕ) → AllDigits 10 digits → AllDigits 10 (take i digits)
take_digits [] zero all = tt
take_digits [] (suc i) all = tt
take_digits (d ∷ digits) zero all = tt
take_digits (d ∷ digits) (suc i) all = (all.0, take_digits digits i all.1)

-- a prefix of at most 9 digits that is not the whole
pub prefix_small : (digits : List ℕ) (i : ℕ) → AllDigits 10 digits → i < length digits → length digits ≤ 9 → digits_value 10 (take i digits) < 100000000
prefix_small digits i all lt few =
    let part : AllDigits 10 (take i digits) = take_digits digits i all in
    omega (arith, digits_value-lt 10 (take i digits) part, pow-le-pow_right {n = 10} (omega arith) {i = length (take i digits)} {j = 8} (omega (arith, length-take i digits)))

-- a text around its first point that is no schema's
pub record IsNoSchema (before behind : List ℕ) : Type 0 where
  pub why : (length before ≡ 0) ⊎ ((length behind ≡ 0) ⊎ ((9 < length behind) ⊎ (AllDigits 10 behind → ⊥)))

pub no_parts : (text before behind : List ℕ) → text ≡ before ++ (46 ∷ behind) → ((i : ℕ) → i < length before → get_or before i 0 ≢ 46) → IsNoSchema before behind
    → (name : List ℕ) (version : ℕ) → IsSchemaText text name version → ⊥
no_parts text before behind e plain w name version h =
    let p = parts_are text before behind name version e plain h in by w.why p.0 p.1 where
      by : (length before ≡ 0) ⊎ ((length behind ≡ 0) ⊎ ((9 < length behind) ⊎ (AllDigits 10 behind → ⊥))) → before ≡ name → behind ≡ h.digits → ⊥
      by (inl none) p q = omega (arith, ap length p, h.some_name)
      by (inr (inl none)) p q = omega (arith, ap length q, h.some_digits)
      by (inr (inr (inl long))) p q = omega (arith, ap length q, h.few_digits)
      by (inr (inr (inr other))) p q = other (subst (AllDigits 10) (sym q) h.all_digits)
