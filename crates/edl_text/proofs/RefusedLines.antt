-- Lines that say nothing a list may say.
use Rattle.std.proofs.Common.{◌≡◌, inl, inr, ℕ, true, false, List, codes, IsUtf8, sym, ap, ◌∙◌, arith}
use Rattle.text_lines.specs.Lines.{fields_of, trimmed}
use Rattle.edl_text.specs.Statements.{Statement, Nothing, Title, Mode, Event, Speed, FromName, ToName, EventLine, SpeedLine}
use Rattle.edl_text.specs.EventForms.{IsEvent}
use Rattle.edl_text.specs.Speeds.{IsSpeed}
use Rattle.edl_text.specs.Notes.{IsNote}
use Rattle.edl_text.specs.Saying.{begins_with_digit, begins_remark, first_of, fourth_of, IsKeyWord, IsSplit, IsFree, SaysTight, IsOther}
use Rattle.edl_text.specs.StateLines.{IsWordy}
use Rattle.edl_text.proofs.Heads.{IsDigit, lead, title_lead, mode_lead, event_lead, speed_first, m2_lead, note_lead, digit_lead, lead_digit, remark_lead}
use Rattle.edl_text.proofs.NoteTexts.{no_text, one_side}
use Rattle.edl_text.proofs.OneStatement.{Tight, split_digit, split_other}

-- a line that begins with a digit
digit_silent : (line : List ℕ) → Tight line → IsDigit (lead line) → ((e : EventLine) → IsEvent (fields_of line) e → ⊥) → (a : Statement) → SaysTight line a → ⊥
digit_silent line tight d none Nothing (inl e) = omega (arith, ap lead e, d.low)
digit_silent line tight d none Nothing (inr h) = remark_lead line h.begins d
digit_silent line tight d none (Title t) p = omega (arith, d.high, title_lead line t p)
digit_silent line tight d none (Mode m) p = omega (arith, d.high, mode_lead line tight m p)
digit_silent line tight d none (Event e) p = none e p
digit_silent line tight d none (Speed s) p = omega (arith, d.high, m2_lead line tight (speed_first (fields_of line) s p))
digit_silent line tight d none (FromName n) p = omega (arith, d.low, note_lead (codes "FROM") line p.text p.note)
digit_silent line tight d none (ToName n) p = omega (arith, d.low, note_lead (codes "TO") line p.text p.note)

pub event_form : (line : List ℕ) → Tight line → begins_with_digit line ≡ true → (IsKeyWord (fourth_of (fields_of line)) → ⊥) → ((e : EventLine) → IsEvent (fields_of line) e → ⊥) → IsOther line
event_form line tight digit no_key none =
    let d = digit_lead line digit in
    record { silent = digit_silent line tight d none; no_key = λ k. no_key k.kind; no_split = λ s. split_digit line tight s d }

-- a line that begins with `*`
note_digit : (line : List ℕ) → lead line ≡ 42 → begins_with_digit line ≡ true → ⊥
note_digit line e digit = let d = digit_lead line digit in omega (arith, e, d.low)

from_silent : (line text : List ℕ) → Tight line → IsNote (codes "FROM") line text → (IsUtf8 (trimmed text) → ⊥) → (a : Statement) → SaysTight line a → ⊥
from_silent line text tight note bad Nothing (inl e) = omega (arith, ap lead e, note_lead (codes "FROM") line text note)
from_silent line text tight note bad Nothing (inr h) = h.free.no_from text note
from_silent line text tight note bad (Title t) p = omega (arith, note_lead (codes "FROM") line text note, title_lead line t p)
from_silent line text tight note bad (Mode m) p = omega (arith, note_lead (codes "FROM") line text note, mode_lead line tight m p)
from_silent line text tight note bad (Event e) p = let d = event_lead line tight e p in omega (arith, note_lead (codes "FROM") line text note, d.low)
from_silent line text tight note bad (Speed s) p = omega (arith, note_lead (codes "FROM") line text note, m2_lead line tight (speed_first (fields_of line) s p))
from_silent line text tight note bad (FromName n) p = no_text (codes "FROM") line text note bad n p
from_silent line text tight note bad (ToName n) p = one_side line text p.text note p.note

pub from_form : (line text : List ℕ) → Tight line → IsNote (codes "FROM") line text → (IsUtf8 (trimmed text) → ⊥) → IsOther line
from_form line text tight note bad =
    let e = note_lead (codes "FROM") line text note in
    record { silent = from_silent line text tight note bad; no_key = λ k. note_digit line e k.digit; no_split = λ s. split_other line tight s 42 e (omega arith) (omega arith) }

to_silent : (line text : List ℕ) → Tight line → IsNote (codes "TO") line text → (IsUtf8 (trimmed text) → ⊥) → (a : Statement) → SaysTight line a → ⊥
to_silent line text tight note bad Nothing (inl e) = omega (arith, ap lead e, note_lead (codes "TO") line text note)
to_silent line text tight note bad Nothing (inr h) = h.free.no_to text note
to_silent line text tight note bad (Title t) p = omega (arith, note_lead (codes "TO") line text note, title_lead line t p)
to_silent line text tight note bad (Mode m) p = omega (arith, note_lead (codes "TO") line text note, mode_lead line tight m p)
to_silent line text tight note bad (Event e) p = let d = event_lead line tight e p in omega (arith, note_lead (codes "TO") line text note, d.low)
to_silent line text tight note bad (Speed s) p = omega (arith, note_lead (codes "TO") line text note, m2_lead line tight (speed_first (fields_of line) s p))
to_silent line text tight note bad (FromName n) p = one_side line p.text text p.note note
to_silent line text tight note bad (ToName n) p = no_text (codes "TO") line text note bad n p

pub to_form : (line text : List ℕ) → Tight line → IsNote (codes "TO") line text → (IsUtf8 (trimmed text) → ⊥) → IsOther line
to_form line text tight note bad =
    let e = note_lead (codes "TO") line text note in
    record { silent = to_silent line text tight note bad; no_key = λ k. note_digit line e k.digit; no_split = λ s. split_other line tight s 42 e (omega arith) (omega arith) }

-- a line whose first field is `M2`
speed_silent : (line : List ℕ) → Tight line → first_of (fields_of line) ≡ codes "M2" → ((s : SpeedLine) → IsSpeed (fields_of line) s → ⊥) → (a : Statement) → SaysTight line a → ⊥
speed_silent line tight first none Nothing (inl e) = omega (arith, ap lead e, m2_lead line tight first)
speed_silent line tight first none Nothing (inr h) = h.free.no_speed first
speed_silent line tight first none (Title t) p = omega (arith, m2_lead line tight first, title_lead line t p)
speed_silent line tight first none (Mode m) p = omega (arith, m2_lead line tight first, mode_lead line tight m p)
speed_silent line tight first none (Event e) p = let d = event_lead line tight e p in omega (arith, m2_lead line tight first, d.high)
speed_silent line tight first none (Speed s) p = none s p
speed_silent line tight first none (FromName n) p = omega (arith, m2_lead line tight first, note_lead (codes "FROM") line p.text p.note)
speed_silent line tight first none (ToName n) p = omega (arith, m2_lead line tight first, note_lead (codes "TO") line p.text p.note)

m2_digit : (line : List ℕ) → lead line ≡ 77 → begins_with_digit line ≡ true → ⊥
m2_digit line e digit = let d = digit_lead line digit in omega (arith, e, d.high)

pub speed_form : (line : List ℕ) → Tight line → first_of (fields_of line) ≡ codes "M2" → ((s : SpeedLine) → IsSpeed (fields_of line) s → ⊥) → IsOther line
speed_form line tight first none =
    let e = m2_lead line tight first in
    record { silent = speed_silent line tight first none; no_key = λ k. m2_digit line e k.digit; no_split = λ s. split_other line tight s 77 e (omega arith) (omega arith) }

-- a line that is none of these and no remark
other_silent : (line : List ℕ) → Tight line → IsWordy line → IsFree line → begins_remark line ≡ false → (a : Statement) → SaysTight line a → ⊥
other_silent line tight w f other Nothing (inl e) = w.some e
other_silent line tight w f other Nothing (inr h) = let e : true ≡ false = sym h.begins ∙ other in cc
other_silent line tight w f other (Title t) p = w.no_title p.text p.is
other_silent line tight w f other (Mode m) p = f.no_mode m p
other_silent line tight w f other (Event e) p = let g : true ≡ false = sym (lead_digit line (event_lead line tight e p)) ∙ w.no_digit in cc
other_silent line tight w f other (Speed s) p = f.no_speed (speed_first (fields_of line) s p)
other_silent line tight w f other (FromName n) p = f.no_from p.text p.note
other_silent line tight w f other (ToName n) p = f.no_to p.text p.note

pub other_form : (line : List ℕ) → Tight line → IsWordy line → IsFree line → (IsSplit line → ⊥) → begins_remark line ≡ false → IsOther line
other_form line tight w f no_split other = record {
  silent = other_silent line tight w f other;
  no_key = λ k. let e : true ≡ false = sym k.digit ∙ w.no_digit in cc;
  no_split = no_split;
}
