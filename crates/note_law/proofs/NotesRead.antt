-- The text of a list with notes has these notes.
use Rattle.std.proofs.Common.{◌≡◌, Bool, List, [], ◌∷◌, ◌++◌, All, length, refl, sym, ap, subst, ◌∙◌, append_assoc, append-nil, arith}
use Rattle.std.proofs.lemmas.List.Elements.{All-head, All-tail, All-cons}
use Rattle.tick_time.specs.declared.rates.Rate.{Rate}
use Rattle.text_lines.specs.Lines.{lines_of}
use Rattle.text_lines.proofs.Trimming.{trimmed_empty}
use Rattle.edl_text.specs.Statements as said
use Rattle.edl_text.specs.Statements.{Statement}
use Rattle.edl_text.specs.Columns.{cleaned}
use Rattle.edl_text.specs.Spelling.{title_lines, mode_line, head_lines}
use Rattle.edl_text.proofs.OneList.{one_list}
use Rattle.edl_list.specs.declared.list.EventList.{EventList}
use Rattle.edl_list.specs.Layouts.{layout_of}
use Rattle.edl_text.proofs.Widths.{widths_of}
use Rattle.edl_law.proofs.LineLemmas.{lines_written}
use Rattle.edl_law.proofs.LineForms.{mode_says, nothing_says}
use Rattle.note_text.specs.Belonging.{AreNotes, notes_said}
use Rattle.note_text.specs.Heard.{AreHeard, end}
use Rattle.note_text.specs.NotedSpelling.{noted_lines_from, noted_lines_in, noted_spelling}
use Rattle.note_text.specs.declared.notes.Note.{Note}
use Rattle.note_law.specs.Law.{IsOwn, IsClean, AreOwn, HasNotedText, HasNotesAgain}
use Rattle.note_law.proofs.LoudLines.{AreLoud, Loud, loud_append, loud_heard, loud_title, loud_mode, plain}
use Rattle.edl_law.proofs.RoundTrip.{numbered}
use Rattle.note_law.proofs.NotedTexts.{noted_reading, path_of}
use Rattle.note_law.proofs.NotedHeard.{AllClean, heard_by, walk_heard}
use Rattle.note_law.proofs.NotesBack.{notes_back}

all_clean : (list : EventList) (notes : List Note) → All (IsOwn list) notes → AllClean notes
all_clean list [] h = λ k d x. absurd (omega arith)
all_clean list (n ∷ notes) h = All-cons (λ (m : Note). IsClean m.said) n notes (All-head (IsOwn list) n notes h).clean (all_clean list notes (All-tail (IsOwn list) n notes h))

loud_head : (list : EventList) (drop : Bool) → AreLoud (head_lines list drop)
loud_head list drop = loud_append (title_lines list.title) (mode_line drop ∷ []) (loud_title list.title (cleaned list.title) refl) (loud_mode drop (mode_line drop) (mode_says drop), tt)

-- an empty line is no note
loud_nothing : Loud []
loud_nothing = plain (λ rate drop n h. let e = sym trimmed_empty ∙ h.star.is in absurd (cc))

last_heard : (rate : Rate) (past : List Statement) → AreHeard rate past ([] ∷ []) []
last_heard rate past = loud_heard rate ([] ∷ []) past (said.Nothing ∷ past) (said.Nothing, record { says = nothing_says; sound = refl }, refl) (loud_nothing, tt) [] [] (end (said.Nothing ∷ past))

pub has_notes : (list : EventList) (notes : List Note) (drop wide : Bool) → HasNotedText list notes drop wide → AreOwn list notes → HasNotesAgain list notes drop wide
has_notes list notes drop wide h own = record {
  has = λ read is.
      let r = noted_reading list notes drop wide h in
      let rate = list.rate in
      let layout = layout_of wide in
      let path = path_of list notes drop wide h r.start r.mode in
      let heard = heard_by 0 path.read notes in
      let body = noted_lines_from rate drop layout 0 list.events notes in
      let events : AreHeard rate r.start (body ++ [] ∷ []) (heard ++ []) =
      walk_heard rate drop layout notes 0 list.events r.start h.notes_are h.formed.events h.labels h.names (widths_of wide) (numbered wide (length list.events) h.fits.few) r.mode (all_clean list notes own.each)
      ([] ∷ []) [] (last_heard rate path.now) in
      let whole : AreHeard rate [] (head_lines list drop ++ (body ++ [] ∷ [])) (heard ++ []) =
      loud_heard rate (head_lines list drop) [] r.start r.first (loud_head list drop) (body ++ [] ∷ []) (heard ++ []) events in
      let lines : head_lines list drop ++ (body ++ [] ∷ []) ≡ lines_of (noted_spelling list notes drop wide) =
      sym (append_assoc (head_lines list drop) body ([] ∷ [])) ∙ sym (lines_written (noted_lines_in list notes drop layout) r.shown) in
      let here : AreHeard rate [] (lines_of (noted_spelling list notes drop wide)) heard =
      subst (λ l. AreHeard rate [] l heard) lines (subst (λ l. AreHeard rate [] (head_lines list drop ++ (body ++ [] ∷ [])) l) (append-nil heard) whole) in
      let are : notes ≡ notes_said rate r.read.events heard =
      sym (ap (λ l. notes_said rate l heard) r.events ∙ notes_back list path.read (length r.start) notes path.rising path.matched own.order own.each) in
      let first : AreNotes (noted_spelling list notes drop wide) r.read notes = record {
        heard = heard;
        said = subst (λ z. AreHeard z [] (lines_of (noted_spelling list notes drop wide)) heard) (sym r.counted) here;
        are = are ∙ ap (λ z. notes_said z r.read.events heard) (sym r.counted);
      } in
      subst (λ l. AreNotes (noted_spelling list notes drop wide) l notes) (one_list rate _ r.read read r.reads is) first;
}
