-- The text of a list with notes is read as the same list.
use Rattle.std.proofs.Common.{◌≡◌, ◌≤◌, ◌+◌, ◌^◌, ◌==◌, ℕ, Bool, true, false, List, [], ◌∷◌, ◌++◌, All, length, map, unwrap_or, refl, sym, ap, subst, ◌∙◌, append_assoc, append-nil, arith}
use Rattle.std.proofs.lemmas.List.Elements.{All-head, All-tail, All-cons}
use Rattle.edl_law.proofs.RoundTrip.{titled, quiet, numbered, list_read}
use Rattle.tick_time.specs.declared.rates.Rate.{Rate}
use Rattle.edl_text.specs.Statements as said
use Rattle.edl_text.specs.Statements.{Statement}
use Rattle.edl_list.specs.declared.list.Event.{Event}
use Rattle.edl_list.specs.declared.list.EventList.{EventList}
use Rattle.edl_list.specs.declared.layout.Layout.{Layout}
use Rattle.edl_list.specs.Formed.{IsEvent}
use Rattle.edl_list.specs.Speeds.{day_of}
use Rattle.edl_list.specs.Alike.{IsSame}
use Rattle.edl_list.specs.Labelled.{IsLabelled}
use Rattle.edl_list.specs.Layouts.{layout_of}
use Rattle.edl_text.specs.Columns.{AreWidths, cleaned}
use Rattle.edl_text.specs.Rows.{event_lines}
use Rattle.edl_text.specs.Spelling.{title_lines, mode_line, head_lines}
use Rattle.edl_text.specs.Past.{blocks_in, mode_in, noted, title_in, first_mode_in}
use Rattle.edl_text.specs.Events.{events_of}
use Rattle.edl_text.specs.Lines.{AreSound}
use Rattle.edl_text.specs.Lists.{IsList, events_in}
use Rattle.edl_text.proofs.Widths.{widths_of}
use Rattle.edl_text.proofs.OneList.{one_list}
use Rattle.edl_law.specs.Law.{HasNames}
use Rattle.edl_law.proofs.LineLemmas.{AreShown, shown_lines, lines_written}
use Rattle.edl_law.proofs.LineForms.{mode_says, nothing_says}
use Rattle.edl_law.proofs.NoteLemmas.{sound_append}
use Rattle.edl_law.proofs.EventSteps.{step}
use Rattle.edl_law.proofs.EventLists.{AreRising, AreMatched, matched_same, rising_from}
use Rattle.edl_law.proofs.LineReadings.{shown_title, shown_mode, shown_events}
use Rattle.note_text.specs.Belonging.{own_notes}
use Rattle.note_text.specs.NotedSpelling.{note_line, own_lines, noted_lines_from, noted_lines_in, noted_spelling}
use Rattle.note_text.specs.declared.notes.Note.{Note}
use Rattle.note_law.specs.Law.{IsSpelled, HasNotedText, IsReadAgain}
use Rattle.note_law.proofs.NoteLines.{note_says, note_shown}

-- the notes that each have a text
abbrev pub AllSpelled : Rate → Bool → List Note → Type 0
AllSpelled rate drop notes = All (λ note. IsSpelled rate drop note.said) notes

own_by : (rate : Rate) (drop : Bool) (index : ℕ) (note : Note) (notes : List Note) (t : Bool) → note.event == index ≡ t → IsSpelled rate drop note.said → AllSpelled rate drop (own_notes index notes)
    → AllSpelled rate drop (own_notes index (note ∷ notes))
own_by rate drop index note notes true e h more = rw e (All-cons (λ (n : Note). IsSpelled rate drop n.said) note (own_notes index notes) h more)
own_by rate drop index note notes false e h more = rw e more

pub own_spelled : (rate : Rate) (drop : Bool) (index : ℕ) (notes : List Note) → AllSpelled rate drop notes → AllSpelled rate drop (own_notes index notes)
own_spelled rate drop index [] h = h
own_spelled rate drop index (note ∷ notes) h =
    own_by rate drop index note notes (note.event == index) refl (All-head (λ (n : Note). IsSpelled rate drop n.said) note notes h) (own_spelled rate drop index notes (All-tail (λ (n : Note). IsSpelled rate drop n.said) note notes h))

-- the lines of notes, after those before: they say nothing
pub record Quiet (rate : Rate) (drop : Bool) (past : List Statement) (notes : List Note) : Type 0 where
  pub now : List Statement
  pub sound : AreSound rate past (map (λ (note : Note). note_line rate drop note.said) notes) now
  pub mode : mode_in now ≡ mode_in past
  pub events : events_of rate (blocks_in now) ≡ events_of rate (blocks_in past)
  pub later : length past ≤ length now

unfoldable pub hush : (rate : Rate) (drop : Bool) (notes : List Note) (past : List Statement) → AllSpelled rate drop notes → Quiet rate drop past notes
hush rate drop [] past h = record { now = past; sound = refl; mode = refl; events = refl; later = omega arith }
hush rate drop (note ∷ notes) past h =
    let says = note_says rate drop note.said (All-head (λ (n : Note). IsSpelled rate drop n.said) note notes h) in
    let rest = hush rate drop notes (said.Nothing ∷ past) (All-tail (λ (n : Note). IsSpelled rate drop n.said) note notes h) in
    record {
      now = rest.now;
      sound = (said.Nothing, record { says = says; sound = refl }, rest.sound);
      mode = rest.mode;
      events = rest.events ∙ quiet rate (blocks_in past);
      later = omega (arith, rest.later);
    }

-- what the lines of events with their notes say after those before
pub record Walk (rate : Rate) (drop : Bool) (layout : Layout) (index : ℕ) (past : List Statement) (events : List Event) (notes : List Note) : Type 0 where
  pub now : List Statement
  pub read : List Event
  pub sound : AreSound rate past (noted_lines_from rate drop layout index events notes) now
  pub mode : mode_in now ≡ drop
  pub events_are : events_of rate (blocks_in now) ≡ events_of rate (blocks_in past) ++ read
  pub rising : AreRising (length past) read
  pub matched : AreMatched rate events read

unfoldable pub walk : (rate : Rate) (drop : Bool) (layout : Layout) (notes : List Note) (index : ℕ) (events : List Event) (past : List Statement) → AllSpelled rate drop notes
    → All (IsEvent (day_of rate)) events → All (IsLabelled rate drop) events → All HasNames events
    → AreWidths layout → index + 1 + length events ≤ 10 ^ layout.number_width → mode_in past ≡ drop → Walk rate drop layout index past events notes
walk rate drop layout notes index [] past spelled is labels names widths few mode = record {
  now = past;
  read = [];
  sound = refl;
  mode = mode;
  events_are = sym (append-nil (events_of rate (blocks_in past)));
  rising = tt;
  matched = tt;
}
walk rate drop layout notes index (event ∷ events) past spelled is labels names widths few mode =
    let one = step rate drop layout (index + 1) event past (All-head (IsEvent (day_of rate)) event events is) (All-head (IsLabelled rate drop) event events labels) (All-head HasNames event events names)
    (record { some = widths.some; few = widths.few; below = omega (arith, few) }) mode in
    let own = own_notes index notes in
    let still = hush rate drop own one.now (own_spelled rate drop index notes spelled) in
    let rest = walk rate drop layout notes (index + 1) events still.now spelled (All-tail (IsEvent (day_of rate)) event events is) (All-tail (IsLabelled rate drop) event events labels) (All-tail HasNames event events names)
    widths (omega (arith, few)) (still.mode ∙ one.mode) in
    let behind = noted_lines_from rate drop layout (index + 1) events notes in
    record {
      now = rest.now;
      read = one.read ∷ rest.read;
      sound = sound_append rate (event_lines rate drop layout (index + 1) event) (own_lines rate drop index notes ++ behind) past one.now rest.now one.sound
          (sound_append rate (own_lines rate drop index notes) behind one.now still.now rest.now still.sound rest.sound);
      mode = rest.mode;
      events_are = rest.events_are ∙ ap (λ l. l ++ rest.read) (still.events ∙ one.events) ∙ append_assoc (events_of rate (blocks_in past)) (one.read ∷ []) rest.read;
      rising = (one.after, rising_from one.read.line (length still.now) rest.read (omega (arith, one.within, still.later)) rest.rising);
      matched = (one.matches, rest.matched);
    }

shown_notes : (rate : Rate) (drop : Bool) (notes : List Note) → AllSpelled rate drop notes → AreShown (map (λ (note : Note). note_line rate drop note.said) notes)
shown_notes rate drop [] h = tt
shown_notes rate drop (note ∷ notes) h =
    (note_shown rate drop note.said (All-head (λ (n : Note). IsSpelled rate drop n.said) note notes h), shown_notes rate drop notes (All-tail (λ (n : Note). IsSpelled rate drop n.said) note notes h))

one_shown : (rate : Rate) (drop : Bool) (layout : Layout) (number : ℕ) (event : Event) → IsEvent (day_of rate) event → IsLabelled rate drop event → AreShown (event_lines rate drop layout number event)
one_shown rate drop layout number event is label =
    subst AreShown (append-nil (event_lines rate drop layout number event))
    (shown_events rate drop layout number (event ∷ []) (All-cons (IsEvent (day_of rate)) event [] is (λ k d h. absurd (omega arith))) (All-cons (IsLabelled rate drop) event [] label (λ k d h. absurd (omega arith))))

shown_noted : (rate : Rate) (drop : Bool) (layout : Layout) (notes : List Note) (index : ℕ) (events : List Event) → AllSpelled rate drop notes → All (IsEvent (day_of rate)) events → All (IsLabelled rate drop) events
    → AreShown (noted_lines_from rate drop layout index events notes)
shown_noted rate drop layout notes index [] spelled is labels = tt
shown_noted rate drop layout notes index (event ∷ events) spelled is labels =
    shown_lines (event_lines rate drop layout (index + 1) event) (own_lines rate drop index notes ++ noted_lines_from rate drop layout (index + 1) events notes)
    (one_shown rate drop layout (index + 1) event (All-head (IsEvent (day_of rate)) event events is) (All-head (IsLabelled rate drop) event events labels))
    (shown_lines (own_lines rate drop index notes) (noted_lines_from rate drop layout (index + 1) events notes) (shown_notes rate drop (own_notes index notes) (own_spelled rate drop index notes spelled))
    (shown_noted rate drop layout notes (index + 1) events spelled (All-tail (IsEvent (day_of rate)) event events is) (All-tail (IsLabelled rate drop) event events labels)))

-- the walk over the lines of a list's events and their notes
abbrev pub path_of : (list : EventList) (notes : List Note) (drop wide : Bool) (h : HasNotedText list notes drop wide) (start : List Statement) → mode_in start ≡ drop
    → Walk list.rate drop (layout_of wide) 0 start list.events notes
path_of list notes drop wide h start mode =
    walk list.rate drop (layout_of wide) notes 0 list.events start h.notes_are h.formed.events h.labels h.names (widths_of wide) (numbered wide (length list.events) h.fits.few) mode

-- what is read of the text of a list with notes
pub record NotedReading (list : EventList) (notes : List Note) (drop wide : Bool) (h : HasNotedText list notes drop wide) : Type 0 where
  pub start : List Statement
  pub mode : mode_in start ≡ drop
  pub first : AreSound list.rate [] (head_lines list drop) start
  pub shown : AreShown (noted_lines_in list notes drop (layout_of wide))
  pub read : EventList
  pub reads : IsList list.rate (noted_spelling list notes drop wide) read
  pub same : IsSame list read
  pub events : read.events ≡ (path_of list notes drop wide h start mode).read
  pub counted : read.rate ≡ list.rate

pub noted_reading : (list : EventList) (notes : List Note) (drop wide : Bool) (h : HasNotedText list notes drop wide) → NotedReading list notes drop wide h
noted_reading list notes drop wide h =
    let layout = layout_of wide in
    let rate = list.rate in
    let head = titled rate list.title (cleaned list.title) h.title refl in
    let start = said.Mode drop ∷ head.now in
    let path = path_of list notes drop wide h start refl in
    let past = said.Nothing ∷ path.now in
    let none : events_of rate (blocks_in start) ≡ [] = ap (λ b. events_of rate (noted (said.Mode drop) b)) head.blocks in
    let events : events_in rate past ≡ path.read = quiet rate (blocks_in path.now) ∙ path.events_are ∙ ap (λ l. l ++ path.read) none in
    let body = noted_lines_from rate drop layout 0 list.events notes in
    let lines = noted_lines_in list notes drop layout in
    let first : AreSound rate [] (head_lines list drop) start =
    sound_append rate (title_lines list.title) (mode_line drop ∷ []) [] head.now start head.sound (said.Mode drop, record { says = mode_says drop; sound = refl }, refl) in
    let last : AreSound rate path.now ([] ∷ []) past = (said.Nothing, record { says = nothing_says; sound = refl }, refl) in
    let shown : AreShown lines = shown_lines (head_lines list drop) body (shown_lines (title_lines list.title) (mode_line drop ∷ []) (shown_title list.title) (shown_mode drop, tt))
    (shown_noted rate drop layout notes 0 list.events h.notes_are h.formed.events h.labels) in
    let whole : AreSound rate [] (lines ++ [] ∷ []) past =
    sound_append rate lines ([] ∷ []) [] path.now past (sound_append rate (head_lines list drop) body [] start path.now first path.sound) last in
    record {
      start = start;
      mode = refl;
      first = first;
      shown = shown;
      read = record { title = unwrap_or (title_in past) []; rate = rate; drop = unwrap_or (first_mode_in past) false; events = path.read };
      reads = list_read list (noted_spelling list notes drop wide) (length start) past path.read h.small h.formed h.even
          (subst (λ l. AreSound rate [] l past) (sym (lines_written lines shown)) whole) events path.matched path.rising;
      same = record { rate = refl; events = matched_same rate list.events path.read path.matched };
      events = refl;
      counted = refl;
    }

pub read_again : (list : EventList) (notes : List Note) (drop wide : Bool) → HasNotedText list notes drop wide → IsReadAgain list notes drop wide
read_again list notes drop wide h =
    let r = noted_reading list notes drop wide h in
    record { read = r.read; reads = r.reads; same = r.same; only = λ other is. one_list list.rate _ other r.read is r.reads }
