-- What the lines of a list with notes say as notes.
use Rattle.std.proofs.Common.{◌≡◌, ◌≤◌, ◌+◌, ◌^◌, ◌==◌, ℕ, Bool, true, false, List, [], ◌∷◌, ◌++◌, All, length, map, refl, sym, ap, subst, ◌∙◌, append_assoc, arith}
use Rattle.std.proofs.lemmas.List.Elements.{All-head, All-tail, All-cons}
use Rattle.tick_time.specs.declared.rates.Rate.{Rate}
use Rattle.text_lines.specs.Lines.{trimmed}
use Rattle.edl_text.specs.Statements as said
use Rattle.edl_text.specs.Statements.{Statement}
use Rattle.edl_list.specs.declared.list.Event.{Event}
use Rattle.edl_list.specs.declared.layout.Layout.{Layout}
use Rattle.edl_list.specs.Formed.{IsEvent}
use Rattle.edl_list.specs.Speeds.{day_of}
use Rattle.edl_list.specs.Labelled.{IsLabelled}
use Rattle.edl_text.specs.Columns.{AreWidths}
use Rattle.edl_text.specs.Rows.{event_lines}
use Rattle.edl_text.specs.Past.{Block, blocks_in, mode_in, noted}
use Rattle.edl_law.specs.Law.{HasNames}
use Rattle.edl_law.proofs.EventSteps.{step}
use Rattle.edl_law.proofs.NumberLemmas.{IsNumbered}
use Rattle.note_text.specs.Belonging.{own_notes}
use Rattle.note_text.specs.Forms.{IsNote}
use Rattle.note_text.specs.NotedSpelling.{note_line, own_lines, noted_lines_from}
use Rattle.note_text.specs.Heard.{AreHeard, note}
use Rattle.note_text.specs.declared.notes.Note.{Note}
use Rattle.note_text.specs.declared.notes.Heard.{Heard}
use Rattle.note_law.specs.Law.{IsSpelled, IsClean}
use Rattle.note_law.proofs.NoteLines.{note_says}
use Rattle.note_law.proofs.NoteForms.{note_noted}
use Rattle.note_law.proofs.LoudLines.{loud_event, loud_heard}
use Rattle.note_law.proofs.NotedTexts.{AllSpelled, own_spelled, hush, walk}

-- the names of the notes are as they are written
abbrev pub AllClean : List Note → Type 0
AllClean notes = All (λ note. IsClean note.said) notes

clean_by : (index : ℕ) (n : Note) (notes : List Note) (t : Bool) → n.event == index ≡ t → IsClean n.said → AllClean (own_notes index notes) → AllClean (own_notes index (n ∷ notes))
clean_by index n notes true e h more = rw e (All-cons (λ (m : Note). IsClean m.said) n (own_notes index notes) h more)
clean_by index n notes false e h more = rw e more

own_clean : (index : ℕ) (notes : List Note) → AllClean notes → AllClean (own_notes index notes)
own_clean index [] h = h
own_clean index (n ∷ notes) h =
    clean_by index n notes (n.event == index) refl (All-head (λ (m : Note). IsClean m.said) n notes h) (own_clean index notes (All-tail (λ (m : Note). IsClean m.said) n notes h))

-- notes as they are heard after an event line
abbrev pub heard_at : ℕ → List Note → List Heard
heard_at line notes = map (λ (n : Note). record { line = line; said = n.said }) notes

-- the notes after an event line are heard there
notes_heard : (rate : Rate) (drop : Bool) (line : ℕ) (notes : List Note) (past : List Statement) (latest : Block) (before : List Block) → (spelled : AllSpelled rate drop notes) → AllClean notes
    → mode_in past ≡ drop → blocks_in past ≡ latest ∷ before → latest.line ≡ line → (more : List (List ℕ)) (others : List Heard)
    → AreHeard rate (hush rate drop notes past spelled).now more others
    → AreHeard rate past (map (λ (n : Note). note_line rate drop n.said) notes ++ more) (heard_at line notes ++ others)
unfolding hush
notes_heard rate drop line [] past latest before spelled clean mode is at more others h = h
notes_heard rate drop line (n ∷ notes) past latest before spelled clean mode is at more others h =
    let one = All-head (λ (m : Note). IsSpelled rate drop m.said) n notes spelled in
    let pure = All-head (λ (m : Note). IsClean m.said) n notes clean in
    note past (note_line rate drop n.said) (map (λ (m : Note). note_line rate drop m.said) notes ++ more) (record { line = line; said = n.said }) (heard_at line notes ++ others)
    (note_says rate drop n.said one)
    (record { block = latest; before = before; latest = is; line_is = sym at; note = subst (λ m. IsNote rate m (trimmed (note_line rate drop n.said)) n.said) (sym mode) (note_noted rate drop n.said one pure) })
    (notes_heard rate drop line notes (said.Nothing ∷ past) (record latest { notes = said.Nothing ∷ latest.notes }) before (All-tail (λ (m : Note). IsSpelled rate drop m.said) n notes spelled)
    (All-tail (λ (m : Note). IsClean m.said) n notes clean) mode (ap (noted said.Nothing) is) at more others h)

-- what events and their notes are heard as, by the lines of the events that are read
abbrev pub heard_by : ℕ → List Event → List Note → List Heard
heard_by index [] notes = []
heard_by index (e ∷ events) notes = heard_at e.line (own_notes index notes) ++ heard_by (index + 1) events notes

-- the lines of events with their notes are heard so
pub walk_heard : (rate : Rate) (drop : Bool) (layout : Layout) (notes : List Note) (index : ℕ) (events : List Event) (past : List Statement) → (spelled : AllSpelled rate drop notes)
    → (is : All (IsEvent (day_of rate)) events) → (labels : All (IsLabelled rate drop) events) → (names : All HasNames events)
    → (widths : AreWidths layout) → (few : index + 1 + length events ≤ 10 ^ layout.number_width) → (mode : mode_in past ≡ drop) → AllClean notes
    → (more : List (List ℕ)) (others : List Heard) → let w = walk rate drop layout notes index events past spelled is labels names widths few mode in
    AreHeard rate w.now more others → AreHeard rate past (noted_lines_from rate drop layout index events notes ++ more) (heard_by index w.read notes ++ others)
unfolding walk
walk_heard rate drop layout notes index [] past spelled is labels names widths few mode clean more others h = h
walk_heard rate drop layout notes index (event ∷ events) past spelled is labels names widths few mode clean more others h =
    let is_one = All-head (IsEvent (day_of rate)) event events is in
    let label = All-head (IsLabelled rate drop) event events labels in
    let name = All-head HasNames event events names in
    let numbered : IsNumbered layout (index + 1) = record { some = widths.some; few = widths.few; below = omega (arith, few) } in
    let one = step rate drop layout (index + 1) event past is_one label name numbered mode in
    let own = own_notes index notes in
    let own_are = own_spelled rate drop index notes spelled in
    let still = hush rate drop own one.now own_are in
    let rest = walk rate drop layout notes (index + 1) events still.now spelled (All-tail (IsEvent (day_of rate)) event events is) (All-tail (IsLabelled rate drop) event events labels) (All-tail HasNames event events names)
    widths (omega (arith, few)) (still.mode ∙ one.mode) in
    let behind = noted_lines_from rate drop layout (index + 1) events notes in
    let later = walk_heard rate drop layout notes (index + 1) events still.now spelled (All-tail (IsEvent (day_of rate)) event events is) (All-tail (IsLabelled rate drop) event events labels) (All-tail HasNames event events names)
    widths (omega (arith, few)) (still.mode ∙ one.mode) clean more others h in
    let noted_part = notes_heard rate drop one.read.line own one.now one.latest one.before own_are (own_clean index notes clean) one.mode one.latest_is one.line (behind ++ more) (heard_by (index + 1) rest.read notes ++ others) later in
    let whole = loud_heard rate (event_lines rate drop layout (index + 1) event) past one.now one.sound (loud_event rate drop layout (index + 1) event is_one label name numbered)
    (own_lines rate drop index notes ++ (behind ++ more)) (heard_at one.read.line own ++ (heard_by (index + 1) rest.read notes ++ others)) noted_part in
    subst (λ l. AreHeard rate past l ((heard_at one.read.line own ++ heard_by (index + 1) rest.read notes) ++ others))
    (sym (append_assoc (event_lines rate drop layout (index + 1) event) (own_lines rate drop index notes ++ behind) more ∙ ap (λ l. event_lines rate drop layout (index + 1) event ++ l) (append_assoc (own_lines rate drop index notes) behind more)))
    (subst (λ l. AreHeard rate past (event_lines rate drop layout (index + 1) event ++ (own_lines rate drop index notes ++ (behind ++ more))) l)
    (sym (append_assoc (heard_at one.read.line own) (heard_by (index + 1) rest.read notes) others)) whole)
