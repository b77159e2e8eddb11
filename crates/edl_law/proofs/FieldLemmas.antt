-- The fields of written lines.
use Rattle.std.proofs.Common.{◌≡◌, ◌≢◌, ◌≤◌, ◌-◌, ℕ, zero, suc, true, List, [], ◌∷◌, ◌++◌, codes, length, refl, sym, ap, ◌∙◌, append_assoc, append-nil, ◌/◌, ◌%◌, ◌+◌, arith}
use Rattle.text_lines.specs.First.{is_blank}
use Rattle.text_lines.specs.Lines.{fields_of}
use Rattle.text_lines.proofs.Places.{blank_is}
use Rattle.text_lines.proofs.Splitting.{fields_at, fields_end, fields_skip}
use Rattle.edl_list.specs.declared.layout.Layout.{Layout}
use Rattle.edl_list.specs.declared.list.Cross.{Cross}
use Rattle.edl_list.specs.declared.list.Cross.TheVariants.{Cut, Dissolve, Wipe}
use Rattle.edl_list.specs.declared.list.Channel.{Channel}
use Rattle.edl_list.specs.declared.list.Channel.TheVariants.{V, A, A2}
use Rattle.edl_text.specs.Columns.{spaces, column, digits, code_width, kind_column, duration_column, channel_text, channel_width}
use Rattle.edl_text.specs.Rows.{event_line}
use Rattle.edl_law.proofs.SolidTexts.{solid, solid_blank, solid_digits}

space_blank : is_blank 32 ≡ true
space_blank = blank_is 32

-- one space more in front
pub fields_space : (rest : List ℕ) → fields_of (32 ∷ rest) ≡ fields_of rest
fields_space rest = sym (fields_skip (32 ∷ rest) space_blank)

pub fields_spaces : (n : ℕ) (rest : List ℕ) → fields_of (spaces n ++ rest) ≡ fields_of rest
fields_spaces zero rest = refl
fields_spaces (suc n) rest = fields_space (spaces n ++ rest) ∙ fields_spaces n rest

-- a field and the spaces behind it
pub fields_pad : (field : List ℕ) (n : ℕ) (rest : List ℕ) → field ≢ [] → solid field ≡ true → fields_of (field ++ (spaces n ++ 32 ∷ rest)) ≡ field ∷ fields_of rest
fields_pad field zero rest some p = fields_at field rest 32 some (solid_blank field p) space_blank
fields_pad field (suc n) rest some p =
    fields_at field (spaces n ++ 32 ∷ rest) 32 some (solid_blank field p) space_blank ∙ ap (λ l. field ∷ l) (fields_spaces n (32 ∷ rest) ∙ fields_space rest)

pub fields_column : (width : ℕ) (field rest : List ℕ) → field ≢ [] → solid field ≡ true → fields_of (column width field ++ 32 ∷ rest) ≡ field ∷ fields_of rest
fields_column width field rest some p =
    ap fields_of (append_assoc field (spaces (width - length field)) (32 ∷ rest)) ∙ fields_pad field (width - length field) rest some p

-- labels with spaces between
abbrev pub labels_text : List ℕ → List ℕ → List ℕ → List ℕ → List ℕ
labels_text a b c d = a ++ 32 ∷ (b ++ 32 ∷ (c ++ 32 ∷ (d ++ [])))

-- a field: it isn't empty, and each byte is above the space
pub record IsField (field : List ℕ) : Type 0 where
  pub some : field ≢ []
  pub above : solid field ≡ true

pub field_at : (field rest : List ℕ) → IsField field → fields_of (field ++ 32 ∷ rest) ≡ field ∷ fields_of rest
field_at field rest h = fields_at field rest 32 h.some (solid_blank field h.above) space_blank

pub field_end : (field : List ℕ) → IsField field → fields_of (field ++ []) ≡ field ∷ []
field_end field h = ap fields_of (append-nil field) ∙ fields_end field h.some (solid_blank field h.above)

pub fields_labels : (a b c d : List ℕ) → IsField a → IsField b → IsField c → IsField d → fields_of (labels_text a b c d) ≡ a ∷ b ∷ c ∷ d ∷ []
fields_labels a b c d p q r s =
    field_at a _ p ∙ ap (λ l. a ∷ l) (field_at b _ q ∙ ap (λ l. b ∷ l) (field_at c _ r ∙ ap (λ l. c ∷ l) (field_end d s)))

pub append_some : (xs : List ℕ) (b : ℕ) (ys : List ℕ) → xs ++ b ∷ ys ≢ []
append_some [] b ys = λ e. absurd (cc)
append_some (x ∷ xs) b ys = λ e. absurd (cc)

pub digits_field : (width n : ℕ) → IsField (digits (suc width) n)
digits_field width n = record { some = append_some (digits width (n / 10)) (48 + n % 10) []; above = solid_digits (suc width) n }

pub number_field : (width n : ℕ) → 1 ≤ width → IsField (digits width n)
number_field zero n some = absurd (omega (arith, some))
number_field (suc width) n some = digits_field width n

-- the fields of the type and the duration
abbrev pub kind_fields : Cross → List (List ℕ)
kind_fields Cut = codes "C" ∷ []
kind_fields (Dissolve frames from) = codes "D" ∷ digits 3 frames ∷ []
kind_fields (Wipe code frames from) = (codes "W" ++ digits code_width code) ∷ digits 3 frames ∷ []

letter_field : (b : ℕ) → solid (b ∷ []) ≡ true → IsField (b ∷ [])
letter_field b p = record { some = append_some [] b []; above = p }

pub fields_kind : (cross : Cross) (rest : List ℕ) → fields_of (kind_column cross ++ 32 ∷ (duration_column cross ++ 32 ∷ rest)) ≡ kind_fields cross ++ fields_of rest
fields_kind Cut rest = fields_column 4 (codes "C") (spaces 3 ++ 32 ∷ rest) (append_some [] 67 []) refl ∙ ap (λ l. codes "C" ∷ l) (fields_spaces 3 (32 ∷ rest) ∙ fields_space rest)
fields_kind (Dissolve frames from) rest =
    fields_column 4 (codes "D") (digits 3 frames ++ 32 ∷ rest) (append_some [] 68 []) refl ∙ ap (λ l. codes "D" ∷ l) (field_at (digits 3 frames) rest (digits_field 2 frames))
fields_kind (Wipe code frames from) rest =
    let kind : IsField (codes "W" ++ digits code_width code) = record { some = append_some [] 87 (digits 3 code); above = solid_digits 3 code } in
    field_at (codes "W" ++ digits code_width code) (digits 3 frames ++ 32 ∷ rest) kind ∙ ap (λ l. (codes "W" ++ digits code_width code) ∷ l) (field_at (digits 3 frames) rest (digits_field 2 frames))

pub channel_field : (channel : Channel) → IsField (channel_text channel)
channel_field V = letter_field 86 refl
channel_field A = letter_field 65 refl
channel_field A2 = record { some = append_some [] 65 (50 ∷ []); above = refl }

-- the fields of an event line
pub fields_event : (layout : Layout) (number : ℕ) (reel : List ℕ) (channel : Channel) (cross : Cross) (a b c d : List ℕ) → 1 ≤ layout.number_width → IsField reel → IsField a → IsField b → IsField c → IsField d
    → fields_of (event_line layout number reel channel (kind_column cross) (duration_column cross) a b c d)
    ≡ digits layout.number_width number ∷ reel ∷ channel_text channel ∷ (kind_fields cross ++ a ∷ b ∷ c ∷ d ∷ [])
fields_event layout number reel channel cross a b c d some r p q s t =
    let name = channel_field channel in
    field_at (digits layout.number_width number) _ (number_field layout.number_width number some) ∙ ap (λ l. digits layout.number_width number ∷ l) (fields_space _
    ∙ fields_column layout.reel_width reel _ r.some r.above ∙ ap (λ l. reel ∷ l) (fields_column channel_width (channel_text channel) _ name.some name.above
    ∙ ap (λ l. channel_text channel ∷ l) (fields_kind cross (labels_text a b c d) ∙ ap (λ l. kind_fields cross ++ l) (fields_labels a b c d p q s t))))
