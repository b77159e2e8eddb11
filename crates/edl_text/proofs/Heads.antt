-- The byte with which a line of each kind begins.
use Rattle.std.proofs.Common.{◌≡◌, ◌≤◌, ◌⊎◌, inl, inr, ℕ, Bool, true, false, List, [], ◌∷◌, codes, refl, sym, ap, subst, ◌∙◌, arith}
use Rattle.std.specs.Str.Parse.{IsNumeral}
use Rattle.std.proofs.lemmas.Bool.Decides.{nat_tests}
use Rattle.std.proofs.lemmas.Str.Parse.{digit_from_value}
use Rattle.text_lines.specs.First.{begins_with_blank}
use Rattle.text_lines.specs.Lines.{fields_of}
use Rattle.text_lines.proofs.Splitting.{fields_none, fields_begin}
use Rattle.edl_text.specs.Statements.{EventLine, SpeedLine}
use Rattle.edl_text.specs.EventForms.{IsEvent}
use Rattle.edl_text.specs.Speeds.{IsSpeed}
use Rattle.edl_text.specs.Notes.{IsNote}
use Rattle.edl_text.specs.Saying.{begins_with_digit, begins_remark, first_of, IsTitle, IsMode, IsSplit}

-- the first byte, and 0 where there is none
abbrev pub lead : List ℕ → ℕ
lead [] = 0
lead (b ∷ line) = b

-- the first field begins with the first byte of a line that begins with no blank
pub first_lead : (line : List ℕ) → begins_with_blank line ≡ false → lead (first_of (fields_of line)) ≡ lead line
first_lead [] h = ap (λ l. lead (first_of l)) (fields_none [] refl)
first_lead (b ∷ line) h = ap (λ l. lead (first_of l)) (fields_begin b line h).2

pub title_lead : (line title : List ℕ) → IsTitle line title → lead line ≡ 84
title_lead line title p = ap lead p.is

pub mode_lead : (line : List ℕ) → begins_with_blank line ≡ false → (drop : Bool) → IsMode (fields_of line) drop → lead line ≡ 70
mode_lead line tight true p = sym (first_lead line tight) ∙ ap (λ l. lead (first_of l)) p
mode_lead line tight false (inl p) = sym (first_lead line tight) ∙ ap (λ l. lead (first_of l)) p
mode_lead line tight false (inr p) = sym (first_lead line tight) ∙ ap (λ l. lead (first_of l)) p

-- the byte is a digit
pub record IsDigit (b : ℕ) : Type 0 where
  pub low : 48 ≤ b
  pub high : b ≤ 57

numeral_lead : (field : List ℕ) → IsNumeral 10 field → IsDigit (lead field)
numeral_lead [] h = absurd (omega (arith, h.0))
numeral_lead (b ∷ field) h = let range = digit_from_value b h.1.0 in record { low = range.0; high = range.1 }

pub event_lead : (line : List ℕ) → begins_with_blank line ≡ false → (event : EventLine) → IsEvent (fields_of line) event → IsDigit (lead line)
event_lead line tight event p =
    let e : lead p.number ≡ lead line = sym (ap (λ l. lead (first_of l)) p.are) ∙ first_lead line tight in
    subst IsDigit e (numeral_lead p.number p.is_number.digits)

pub speed_first : (fields : List (List ℕ)) (speed : SpeedLine) → IsSpeed fields speed → first_of fields ≡ codes "M2"
speed_first fields speed p = ap first_of p.are

pub m2_lead : (line : List ℕ) → begins_with_blank line ≡ false → first_of (fields_of line) ≡ codes "M2" → lead line ≡ 77
m2_lead line tight p = sym (first_lead line tight) ∙ ap lead p

pub note_lead : (side line text : List ℕ) → IsNote side line text → lead line ≡ 42
note_lead side line text n = ap lead n.star.is

pub split_lead : (line : List ℕ) → begins_with_blank line ≡ false → IsSplit line → (lead line ≡ 65) ⊎ (lead line ≡ 83)
split_lead line tight (inl p) = inl (sym (first_lead line tight) ∙ ap lead p)
split_lead line tight (inr (inl p)) = inr (sym (first_lead line tight) ∙ ap lead p)
split_lead line tight (inr (inr p)) = inr (sym (first_lead line tight) ∙ ap lead p)

pub digit_lead : (line : List ℕ) → begins_with_digit line ≡ true → IsDigit (lead line)
digit_lead [] h = cc
digit_lead (b ∷ line) h = record { low = grind (arith, nat_tests); high = grind (arith, nat_tests) }

pub lead_digit : (line : List ℕ) → IsDigit (lead line) → begins_with_digit line ≡ true
lead_digit [] h = absurd (omega (arith, h.low))
lead_digit (b ∷ line) h = let low = h.low in let high = h.high in grind (arith, nat_tests)

-- a remark begins with no digit
pub remark_lead : (line : List ℕ) → begins_remark line ≡ true → IsDigit (lead line) → ⊥
remark_lead [] h d = omega (arith, d.low)
remark_lead (b ∷ line) h d = let low = d.low in let high = d.high in grind (arith, nat_tests)
