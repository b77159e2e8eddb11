-- Bytes above the space, and bytes from the space on.
use Rattle.std.proofs.Common.{◌≡◌, ◌≢◌, ◌≤◌, ◌+◌, ◌/◌, ◌%◌, ℕ, zero, suc, Bool, true, false, ◌&&◌, nat_lt, ◌==◌, List, [], ◌∷◌, ◌++◌, All, reverse, refl, sym, ap, subst, ◌∙◌, arith}
use Rattle.std.proofs.lemmas.Bool.Decides.{nat_tests}
use Rattle.std.proofs.lemmas.List.{reverse-append, reverse-reverse}
use Rattle.std.proofs.lemmas.List.Elements.{All-cons, All-head, All-tail}
use Rattle.text_lines.specs.First.{is_blank, begins_with_blank, HasNoBlank, HasNone}
use Rattle.text_lines.specs.Lines.{trimmed}
use Rattle.text_lines.proofs.Places.{blank_is}
use Rattle.text_lines.proofs.Trimming.{tight_where}
use Rattle.edl_text.specs.Columns.{digits, spaces}

-- each byte is above the space
abbrev pub solid : List ℕ → Bool
solid [] = true
solid (b ∷ bytes) = nat_lt 32 b && solid bytes

-- each byte is the space or above it
abbrev pub shown : List ℕ → Bool
shown [] = true
shown (b ∷ bytes) = nat_lt 31 b && shown bytes

pub both : (a b : Bool) → a ≡ true → b ≡ true → (a && b) ≡ true
both true b p q = q
both false b p q = p

pub first_of : (a b : Bool) → (a && b) ≡ true → a ≡ true
first_of true b p = refl
first_of false b p = p

pub second_of : (a b : Bool) → (a && b) ≡ true → b ≡ true
second_of true b p = p
second_of false b p = cc

pub solid_append : (xs ys : List ℕ) → solid xs ≡ true → solid ys ≡ true → solid (xs ++ ys) ≡ true
solid_append [] ys p q = q
solid_append (b ∷ xs) ys p q = both (nat_lt 32 b) (solid (xs ++ ys)) (first_of _ (solid xs) p) (solid_append xs ys (second_of (nat_lt 32 b) _ p) q)

pub shown_append : (xs ys : List ℕ) → shown xs ≡ true → shown ys ≡ true → shown (xs ++ ys) ≡ true
shown_append [] ys p q = q
shown_append (b ∷ xs) ys p q = both (nat_lt 31 b) (shown (xs ++ ys)) (first_of _ (shown xs) p) (shown_append xs ys (second_of (nat_lt 31 b) _ p) q)

shown_back : (xs ys : List ℕ) → shown (xs ++ ys) ≡ true → shown ys ≡ true
shown_back [] ys p = p
shown_back (b ∷ xs) ys p = shown_back xs ys (second_of (nat_lt 31 b) _ p)

shown_by : (b : ℕ) → nat_lt 32 b ≡ true → nat_lt 31 b ≡ true
shown_by b h = grind (arith, nat_tests)

pub shown_solid : (xs : List ℕ) → solid xs ≡ true → shown xs ≡ true
shown_solid [] p = refl
shown_solid (b ∷ xs) p = both (nat_lt 31 b) (shown xs) (shown_by b (first_of _ (solid xs) p)) (shown_solid xs (second_of (nat_lt 32 b) _ p))

pub shown_spaces : (n : ℕ) → shown (spaces n) ≡ true
shown_spaces zero = refl
shown_spaces (suc n) = shown_spaces n

above : (b : ℕ) → 33 ≤ b → nat_lt 32 b ≡ true
above b h = grind (arith, nat_tests)

-- bytes that are each above the space
pub solid_where : (P : ℕ → Type 0) → ((b : ℕ) → P b → 33 ≤ b) → (xs : List ℕ) → All P xs → solid xs ≡ true
solid_where P above_space [] h = refl
solid_where P above_space (b ∷ xs) h = both (nat_lt 32 b) (solid xs) (above b (above_space b (All-head P b xs h))) (solid_where P above_space xs (All-tail P b xs h))

no_blank : (b : ℕ) → nat_lt 32 b ≡ true → is_blank b ≡ false
no_blank b h = rw (blank_is b) (grind (arith, nat_tests))

pub solid_blank : (xs : List ℕ) → solid xs ≡ true → HasNoBlank xs
solid_blank [] p = λ k d h. absurd (omega arith)
solid_blank (b ∷ xs) p = All-cons (λ x. is_blank x ≡ false) b xs (no_blank b (first_of _ (solid xs) p)) (solid_blank xs (second_of (nat_lt 32 b) _ p))

no_feed : (b : ℕ) → nat_lt 31 b ≡ true → (b == 10) ≡ false
no_feed b h = grind (arith, nat_tests)

pub shown_feed : (xs : List ℕ) → shown xs ≡ true → HasNone 10 xs
shown_feed [] p = λ k d h. absurd (omega arith)
shown_feed (b ∷ xs) p = All-cons (λ x. (x == 10) ≡ false) b xs (no_feed b (first_of _ (shown xs) p)) (shown_feed xs (second_of (nat_lt 31 b) _ p))

pub shown_return : (xs : List ℕ) → shown xs ≡ true → (front : List ℕ) → xs ≡ front ++ 13 ∷ [] → ⊥
shown_return xs p front e =
    let back : false ≡ true = shown_back front (13 ∷ []) (sym (ap shown e) ∙ p) in
    absurd (cc)

digit_solid : (n : ℕ) → nat_lt 32 (48 + n % 10) ≡ true
digit_solid n = grind (arith, nat_tests)

-- a digit is no blank
pub digit_begins : (n : ℕ) → is_blank (48 + n % 10) ≡ false
digit_begins n = no_blank (48 + n % 10) (digit_solid n)

pub solid_digits : (width n : ℕ) → solid (digits width n) ≡ true
solid_digits zero n = refl
solid_digits (suc width) n = solid_append (digits width (n / 10)) ((48 + n % 10) ∷ []) (solid_digits width (n / 10)) (both _ true (digit_solid n) refl)

-- a byte above the space is no blank
pub begins_solid : (xs ys : List ℕ) → xs ≢ [] → solid xs ≡ true → begins_with_blank (xs ++ ys) ≡ false
begins_solid [] ys some p = absurd (some refl)
begins_solid (b ∷ xs) ys some p = no_blank b (first_of _ (solid xs) p)

solid_reverse : (xs : List ℕ) → solid xs ≡ true → solid (reverse xs) ≡ true
solid_reverse [] p = refl
solid_reverse (b ∷ xs) p =
    subst (λ l. solid l ≡ true) (sym (reverse-append (b ∷ []) xs))
    (solid_append (reverse xs) (b ∷ []) (solid_reverse xs (second_of (nat_lt 32 b) _ p)) (both _ true (first_of _ (solid xs) p) refl))

-- a line whose first and last bytes are above the space has no blanks to trim
pub line_tight : (line front back : List ℕ) → begins_with_blank line ≡ false → line ≡ front ++ back → back ≢ [] → solid back ≡ true → trimmed line ≡ line
line_tight line front back begins e some p =
    let ends : begins_with_blank (reverse back ++ reverse front) ≡ false =
    begins_solid (reverse back) (reverse front) (λ none. some (sym (reverse-reverse back) ∙ ap reverse none)) (solid_reverse back p) in
    tight_where line begins (ap (λ l. begins_with_blank (reverse l)) e ∙ ap begins_with_blank (reverse-append front back) ∙ ends)
