-- A line says one statement or has one fault, and never both.
use Rattle.std.proofs.Common.{◌≡◌, ◌≢◌, ◌⊎◌, inl, inr, ℕ, Bool, true, false, List, [], ◌++◌, codes, get_or, refl, sym, ap, ◌∙◌, arith}
use Rattle.std.proofs.lemmas.List.{append_cancel_left}
use Rattle.text_lines.specs.First.{begins_with_blank}
use Rattle.text_lines.specs.Lines.{fields_of, trimmed}
use Rattle.text_lines.proofs.Trimming.{trimmed_begins}
use Rattle.edl_text.specs.Statements.{Statement, Nothing, Title, Mode, Event, Speed, FromName, ToName, EventLine, SpeedLine, labels_of}
use Rattle.edl_text.specs.EventForms.{IsEvent}
use Rattle.edl_text.specs.Speeds.{IsSpeed}
use Rattle.edl_text.specs.Notes.{IsName}
use Rattle.edl_text.specs.Saying.{first_of, fourth_of, IsTitle, IsMode, IsKey, IsSplit, IsIgnored, SaysTight, Says, FaultTight, HasFault}
use Rattle.edl_text.specs.declared.statement_types.LineFault.{LineFault}
use Rattle.edl_text.specs.declared.statement_types.LineFault.TheVariants.{Key, Split, Form}
use Rattle.edl_text.proofs.Heads.{lead, IsDigit, title_lead, mode_lead, event_lead, speed_first, m2_lead, note_lead, split_lead, digit_lead, remark_lead}
use Rattle.edl_text.proofs.NoteTexts.{one_side, name_unique}
use Rattle.edl_text.proofs.EventParts.{event_unique, kind_lead}
use Rattle.edl_text.proofs.SpeedParts.{speed_unique}

-- a line without blanks at its front
abbrev pub Tight : List ℕ → Type 0
Tight line = begins_with_blank line ≡ false

speed_lead : (line : List ℕ) → Tight line → (speed : SpeedLine) → IsSpeed (fields_of line) speed → lead line ≡ 77
speed_lead line tight speed p = m2_lead line tight (speed_first (fields_of line) speed p)

title_unique : (line a b : List ℕ) → IsTitle line a → IsTitle line b → a ≡ b
title_unique line a b p q = p.trims ∙ ap trimmed (append_cancel_left (codes "TITLE:") p.text q.text (sym p.is ∙ q.is)) ∙ sym q.trims

modes_apart : (fields : List (List ℕ)) → IsMode fields true → IsMode fields false → ⊥
modes_apart fields p (inl q) = let e : 68 ≡ 78 = ap (λ l. lead (get_or l 1 [])) (sym p ∙ q) in omega (arith, e)
modes_apart fields p (inr q) = let e : 68 ≡ 78 = ap (λ l. lead (get_or l 1 [])) (sym p ∙ q) in omega (arith, e)

mode_unique : (fields : List (List ℕ)) (a b : Bool) → IsMode fields a → IsMode fields b → a ≡ b
mode_unique fields true true p q = refl
mode_unique fields true false p q = absurd (modes_apart fields p q)
mode_unique fields false true p q = absurd (modes_apart fields q p)
mode_unique fields false false p q = refl

-- a line that is empty or ignored says nothing else
abbrev IsSilent : List ℕ → Type 0
IsSilent line = (line ≡ []) ⊎ IsIgnored line

silent_title : (line title : List ℕ) → IsSilent line → IsTitle line title → ⊥
silent_title line title (inl e) p = omega (arith, ap lead e, title_lead line title p)
silent_title line title (inr h) p = h.no_title p.text p.is

silent_mode : (line : List ℕ) → Tight line → (drop : Bool) → IsSilent line → IsMode (fields_of line) drop → ⊥
silent_mode line tight drop (inl e) p = omega (arith, ap lead e, mode_lead line tight drop p)
silent_mode line tight drop (inr h) p = h.free.no_mode drop p

silent_digit : (line : List ℕ) → IsSilent line → IsDigit (lead line) → ⊥
silent_digit line (inl e) d = omega (arith, ap lead e, d.low)
silent_digit line (inr h) d = remark_lead line h.begins d

silent_speed : (line : List ℕ) → Tight line → (speed : SpeedLine) → IsSilent line → IsSpeed (fields_of line) speed → ⊥
silent_speed line tight speed (inl e) p = omega (arith, ap lead e, speed_lead line tight speed p)
silent_speed line tight speed (inr h) p = h.free.no_speed (speed_first (fields_of line) speed p)

silent_from : (line name : List ℕ) → IsSilent line → IsName (codes "FROM") line name → ⊥
silent_from line name (inl e) p = omega (arith, ap lead e, note_lead (codes "FROM") line p.text p.note)
silent_from line name (inr h) p = h.free.no_from p.text p.note

silent_to : (line name : List ℕ) → IsSilent line → IsName (codes "TO") line name → ⊥
silent_to line name (inl e) p = omega (arith, ap lead e, note_lead (codes "TO") line p.text p.note)
silent_to line name (inr h) p = h.free.no_to p.text p.note

name_lead : (side line name : List ℕ) → IsName side line name → lead line ≡ 42
name_lead side line name p = note_lead side line p.text p.note

-- a title, a mode, an event, a speed and a name begin with different bytes
title_mode : (line title : List ℕ) → Tight line → (drop : Bool) → IsTitle line title → IsMode (fields_of line) drop → ⊥
title_mode line title tight drop p q = omega (arith, title_lead line title p, mode_lead line tight drop q)

title_event : (line title : List ℕ) → Tight line → (event : EventLine) → IsTitle line title → IsEvent (fields_of line) event → ⊥
title_event line title tight event p q = let d = event_lead line tight event q in omega (arith, title_lead line title p, d.high)

title_speed : (line title : List ℕ) → Tight line → (speed : SpeedLine) → IsTitle line title → IsSpeed (fields_of line) speed → ⊥
title_speed line title tight speed p q = omega (arith, title_lead line title p, speed_lead line tight speed q)

title_name : (line title side name : List ℕ) → IsTitle line title → IsName side line name → ⊥
title_name line title side name p q = omega (arith, title_lead line title p, name_lead side line name q)

mode_event : (line : List ℕ) → Tight line → (drop : Bool) (event : EventLine) → IsMode (fields_of line) drop → IsEvent (fields_of line) event → ⊥
mode_event line tight drop event p q = let d = event_lead line tight event q in omega (arith, mode_lead line tight drop p, d.high)

mode_speed : (line : List ℕ) → Tight line → (drop : Bool) (speed : SpeedLine) → IsMode (fields_of line) drop → IsSpeed (fields_of line) speed → ⊥
mode_speed line tight drop speed p q = omega (arith, mode_lead line tight drop p, speed_lead line tight speed q)

mode_name : (line side name : List ℕ) → Tight line → (drop : Bool) → IsMode (fields_of line) drop → IsName side line name → ⊥
mode_name line side name tight drop p q = omega (arith, mode_lead line tight drop p, name_lead side line name q)

event_speed : (line : List ℕ) → Tight line → (event : EventLine) (speed : SpeedLine) → IsEvent (fields_of line) event → IsSpeed (fields_of line) speed → ⊥
event_speed line tight event speed p q = let d = event_lead line tight event p in omega (arith, d.high, speed_lead line tight speed q)

event_name : (line side name : List ℕ) → Tight line → (event : EventLine) → IsEvent (fields_of line) event → IsName side line name → ⊥
event_name line side name tight event p q = let d = event_lead line tight event p in omega (arith, d.low, name_lead side line name q)

speed_name : (line side name : List ℕ) → Tight line → (speed : SpeedLine) → IsSpeed (fields_of line) speed → IsName side line name → ⊥
speed_name line side name tight speed p q = omega (arith, speed_lead line tight speed p, name_lead side line name q)

-- a line says one statement at most
tight_unique : (line : List ℕ) → Tight line → (a b : Statement) → SaysTight line a → SaysTight line b → a ≡ b
tight_unique line tight Nothing Nothing p q = refl
tight_unique line tight Nothing (Title t) p q = absurd (silent_title line t p q)
tight_unique line tight Nothing (Mode d) p q = absurd (silent_mode line tight d p q)
tight_unique line tight Nothing (Event e) p q = absurd (silent_digit line p (event_lead line tight e q))
tight_unique line tight Nothing (Speed s) p q = absurd (silent_speed line tight s p q)
tight_unique line tight Nothing (FromName n) p q = absurd (silent_from line n p q)
tight_unique line tight Nothing (ToName n) p q = absurd (silent_to line n p q)
tight_unique line tight (Title t) Nothing p q = absurd (silent_title line t q p)
tight_unique line tight (Title t) (Title u) p q = ap Title (title_unique line t u p q)
tight_unique line tight (Title t) (Mode d) p q = absurd (title_mode line t tight d p q)
tight_unique line tight (Title t) (Event e) p q = absurd (title_event line t tight e p q)
tight_unique line tight (Title t) (Speed s) p q = absurd (title_speed line t tight s p q)
tight_unique line tight (Title t) (FromName n) p q = absurd (title_name line t (codes "FROM") n p q)
tight_unique line tight (Title t) (ToName n) p q = absurd (title_name line t (codes "TO") n p q)
tight_unique line tight (Mode d) Nothing p q = absurd (silent_mode line tight d q p)
tight_unique line tight (Mode d) (Title t) p q = absurd (title_mode line t tight d q p)
tight_unique line tight (Mode d) (Mode e) p q = ap Mode (mode_unique (fields_of line) d e p q)
tight_unique line tight (Mode d) (Event e) p q = absurd (mode_event line tight d e p q)
tight_unique line tight (Mode d) (Speed s) p q = absurd (mode_speed line tight d s p q)
tight_unique line tight (Mode d) (FromName n) p q = absurd (mode_name line (codes "FROM") n tight d p q)
tight_unique line tight (Mode d) (ToName n) p q = absurd (mode_name line (codes "TO") n tight d p q)
tight_unique line tight (Event e) Nothing p q = absurd (silent_digit line q (event_lead line tight e p))
tight_unique line tight (Event e) (Title t) p q = absurd (title_event line t tight e q p)
tight_unique line tight (Event e) (Mode d) p q = absurd (mode_event line tight d e q p)
tight_unique line tight (Event e) (Event f) p q = ap Event (event_unique (fields_of line) e f p q)
tight_unique line tight (Event e) (Speed s) p q = absurd (event_speed line tight e s p q)
tight_unique line tight (Event e) (FromName n) p q = absurd (event_name line (codes "FROM") n tight e p q)
tight_unique line tight (Event e) (ToName n) p q = absurd (event_name line (codes "TO") n tight e p q)
tight_unique line tight (Speed s) Nothing p q = absurd (silent_speed line tight s q p)
tight_unique line tight (Speed s) (Title t) p q = absurd (title_speed line t tight s q p)
tight_unique line tight (Speed s) (Mode d) p q = absurd (mode_speed line tight d s q p)
tight_unique line tight (Speed s) (Event e) p q = absurd (event_speed line tight e s q p)
tight_unique line tight (Speed s) (Speed t) p q = ap Speed (speed_unique (fields_of line) s t p q)
tight_unique line tight (Speed s) (FromName n) p q = absurd (speed_name line (codes "FROM") n tight s p q)
tight_unique line tight (Speed s) (ToName n) p q = absurd (speed_name line (codes "TO") n tight s p q)
tight_unique line tight (FromName n) Nothing p q = absurd (silent_from line n q p)
tight_unique line tight (FromName n) (Title t) p q = absurd (title_name line t (codes "FROM") n q p)
tight_unique line tight (FromName n) (Mode d) p q = absurd (mode_name line (codes "FROM") n tight d q p)
tight_unique line tight (FromName n) (Event e) p q = absurd (event_name line (codes "FROM") n tight e q p)
tight_unique line tight (FromName n) (Speed s) p q = absurd (speed_name line (codes "FROM") n tight s q p)
tight_unique line tight (FromName n) (FromName m) p q = ap FromName (name_unique (codes "FROM") line n m p q)
tight_unique line tight (FromName n) (ToName m) p q = absurd (one_side line p.text q.text p.note q.note)
tight_unique line tight (ToName n) Nothing p q = absurd (silent_to line n q p)
tight_unique line tight (ToName n) (Title t) p q = absurd (title_name line t (codes "TO") n q p)
tight_unique line tight (ToName n) (Mode d) p q = absurd (mode_name line (codes "TO") n tight d q p)
tight_unique line tight (ToName n) (Event e) p q = absurd (event_name line (codes "TO") n tight e q p)
tight_unique line tight (ToName n) (Speed s) p q = absurd (speed_name line (codes "TO") n tight s q p)
tight_unique line tight (ToName n) (FromName m) p q = absurd (one_side line q.text p.text q.note p.note)
tight_unique line tight (ToName n) (ToName m) p q = ap ToName (name_unique (codes "TO") line n m p q)

pub says_unique : (line : List ℕ) (a b : Statement) → Says line a → Says line b → a ≡ b
says_unique line a b p q = tight_unique (trimmed line) (trimmed_begins line) a b p q

-- a key event says nothing
key_event : (line : List ℕ) (event : EventLine) → IsKey line → IsEvent (fields_of line) event → ⊥
key_event line event k p =
    let e : fourth_of (fields_of line) ≡ first_of (p.kind ++ labels_of event) = ap fourth_of p.are in
    kind_lead p.kind (labels_of event) event.kind p.is_kind (ap lead (sym e ∙ k.kind.1))

pub key_silent : (line : List ℕ) → Tight line → IsKey line → (a : Statement) → SaysTight line a → ⊥
key_silent line tight k Nothing p = silent_digit line p (digit_lead line k.digit)
key_silent line tight k (Title t) p = let d = digit_lead line k.digit in omega (arith, d.high, title_lead line t p)
key_silent line tight k (Mode m) p = let d = digit_lead line k.digit in omega (arith, d.high, mode_lead line tight m p)
key_silent line tight k (Event e) p = key_event line e k p
key_silent line tight k (Speed s) p = let d = digit_lead line k.digit in omega (arith, d.high, speed_lead line tight s p)
key_silent line tight k (FromName n) p = let d = digit_lead line k.digit in omega (arith, d.low, name_lead (codes "FROM") line n p)
key_silent line tight k (ToName n) p = let d = digit_lead line k.digit in omega (arith, d.low, name_lead (codes "TO") line n p)

pub split_other : (line : List ℕ) → Tight line → IsSplit line → (b : ℕ) → lead line ≡ b → b ≢ 65 → b ≢ 83 → ⊥
split_other line tight s b e f g = by (split_lead line tight s)
  where
    by : (lead line ≡ 65) ⊎ (lead line ≡ 83) → ⊥
    by (inl h) = f (sym e ∙ h)
    by (inr h) = g (sym e ∙ h)

pub split_digit : (line : List ℕ) → Tight line → IsSplit line → IsDigit (lead line) → ⊥
split_digit line tight s d = split_other line tight s (lead line) refl (let h = d.high in omega (arith, h)) (let h = d.high in omega (arith, h))

split_empty : (line : List ℕ) → Tight line → IsSplit line → (line ≡ []) ⊎ IsIgnored line → ⊥
split_empty line tight s (inl e) = split_other line tight s 0 (ap lead e) (omega arith) (omega arith)
split_empty line tight s (inr h) = h.no_split s

-- a split edit says nothing
split_silent : (line : List ℕ) → Tight line → IsSplit line → (a : Statement) → SaysTight line a → ⊥
split_silent line tight s Nothing p = split_empty line tight s p
split_silent line tight s (Title t) p = split_other line tight s 84 (title_lead line t p) (omega arith) (omega arith)
split_silent line tight s (Mode m) p = split_other line tight s 70 (mode_lead line tight m p) (omega arith) (omega arith)
split_silent line tight s (Event e) p = split_digit line tight s (event_lead line tight e p)
split_silent line tight s (Speed v) p = split_other line tight s 77 (speed_lead line tight v p) (omega arith) (omega arith)
split_silent line tight s (FromName n) p = split_other line tight s 42 (name_lead (codes "FROM") line n p) (omega arith) (omega arith)
split_silent line tight s (ToName n) p = split_other line tight s 42 (name_lead (codes "TO") line n p) (omega arith) (omega arith)

tight_apart : (line : List ℕ) → Tight line → (a : Statement) (f : LineFault) → SaysTight line a → FaultTight line f → ⊥
tight_apart line tight a Key p q = key_silent line tight q a p
tight_apart line tight a Split p q = split_silent line tight q a p
tight_apart line tight a Form p q = q.silent a p

pub says_or_fault : (line : List ℕ) (a : Statement) (f : LineFault) → Says line a → HasFault line f → ⊥
says_or_fault line a f p q = tight_apart (trimmed line) (trimmed_begins line) a f p q

key_split : (line : List ℕ) → Tight line → IsKey line → IsSplit line → ⊥
key_split line tight k s = split_digit line tight s (digit_lead line k.digit)

tight_fault : (line : List ℕ) → Tight line → (a b : LineFault) → FaultTight line a → FaultTight line b → a ≡ b
tight_fault line tight Key Key p q = refl
tight_fault line tight Key Split p q = absurd (key_split line tight p q)
tight_fault line tight Key Form p q = absurd (q.no_key p)
tight_fault line tight Split Key p q = absurd (key_split line tight q p)
tight_fault line tight Split Split p q = refl
tight_fault line tight Split Form p q = absurd (q.no_split p)
tight_fault line tight Form Key p q = absurd (p.no_key q)
tight_fault line tight Form Split p q = absurd (p.no_split q)
tight_fault line tight Form Form p q = refl

pub fault_unique : (line : List ℕ) (a b : LineFault) → HasFault line a → HasFault line b → a ≡ b
fault_unique line a b p q = tight_fault (trimmed line) (trimmed_begins line) a b p q
