-- What a reader that was fed gives at the end.
use Rattle.std.proofs.Common.{◌≡◌, ◌⊎◌, ℕ, ◌≤◌, List, [], ◌∷◌, length, Ok, inl, inr, refl, subst, ◌∙◌}
use Rattle.text_lines.specs.Lines.{lines_of, ended_lines, last_line}
use Rattle.tick_time.specs.declared.rates.Rate.{Rate}
use Rattle.edl_text.specs.Statements.{Statement}
use Rattle.edl_list.specs.declared.list.EventList.{EventList}
use Rattle.edl_text.specs.declared.faults.EdlFault.{EdlFault}
use Rattle.edl_text.specs.declared.faults.EdlFault.TheVariants.{Memory}
use Rattle.edl_text.specs.declared.reader.EdlReader.{EdlReader}
use Rattle.edl_text.specs.Lines.{IsSound, IsFaulty, AreSound}
use Rattle.edl_text.specs.Late.{IsLateFault}
use Rattle.edl_text.specs.Lists.{events_in, IsList, IsFault}
use Rattle.limits.specs.Limits.{most_bytes}
use Rattle.edl_text.specs.Reader.{HasRead}
use Rattle.edl_text.specs.StateSaid.{AreSaid, Gives}
use Rattle.edl_text.proofs.Reading.{sound_append, fault_append}
use Rattle.edl_text.proofs.LineByLine.{sound_said}

-- all lines, once the last was taken
pub all_sound : (rate : Rate) (bytes line : List ℕ) (reader : EdlReader) (statement : Statement) (h : HasRead rate bytes reader) → line ≡ reader.held.items → IsSound rate h.past line statement
    → AreSound rate [] (lines_of bytes) (statement ∷ h.past)
all_sound rate bytes line reader statement h e sound =
    sound_append rate [] h.past (statement ∷ h.past) (ended_lines bytes) (last_line bytes ∷ []) h.ended (statement, subst (λ l. IsSound rate h.past l statement) (e ∙ h.held) sound, refl)

pub all_said : (rate : Rate) (bytes : List ℕ) (past : List Statement) → AreSound rate [] (lines_of bytes) past → AreSaid rate past
all_said rate bytes past h = sound_said rate [] past (lines_of bytes) h tt

pub last_refused : (rate : Rate) (bytes line : List ℕ) (reader : EdlReader) (fault : EdlFault) (h : HasRead rate bytes reader) → length bytes ≤ most_bytes → line ≡ reader.held.items
    → (fault ≡ Memory) ⊎ IsFaulty rate h.past line fault → (fault ≡ Memory) ⊎ IsFault rate bytes fault
last_refused rate bytes line reader fault h small e (inl m) = inl m
last_refused rate bytes line reader fault h small e (inr k) = inr (inr (record {
  small = small;
  which = inl (fault_append rate [] h.past (ended_lines bytes) (last_line bytes ∷ []) fault h.ended (inl (subst (λ l. IsFaulty rate h.past l fault) (e ∙ h.held) k)));
}))

pub list_refused : (rate : Rate) (bytes : List ℕ) (past : List Statement) (fault : EdlFault) → length bytes ≤ most_bytes → AreSound rate [] (lines_of bytes) past
    → (fault ≡ Memory) ⊎ IsLateFault (events_in rate past) fault → (fault ≡ Memory) ⊎ IsFault rate bytes fault
list_refused rate bytes past fault small sound (inl m) = inl m
list_refused rate bytes past fault small sound (inr k) = inr (inr (record { small = small; which = inr (past, sound, k) }))

pub list_given : (rate : Rate) (bytes : List ℕ) (past : List Statement) (list : EventList) → length bytes ≤ most_bytes → AreSound rate [] (lines_of bytes) past → Gives (Ok list) rate past → IsList rate bytes list
list_given rate bytes past list small sound h = record { small = small; past = past; sound = sound; fine = h.0; says = h.1 }
