-- A timeline that is written as a list keeps its frames.
use Rattle.std.proofs.Common.{◌≡◌, ◌++◌, ℕ, Bool, List, [], ◌∷◌, Option, Some, None, refl, sym, ap, subst, ◌∙◌}
use Rattle.dev_io.specs.Handed.{Handed}
use Rattle.otio_model.specs.declared.timelines.Timeline.{Timeline}
use Rattle.media_rows.specs.Rows.{MediaRows}
use Rattle.edl_law.specs.Premises.{AreInRange, AreListed}
use Rattle.source_files.specs.HandedFiles.{HandsOver, GivesAll}
use Rattle.source_files.specs.Order.{EachIs}
use Rattle.source_files.specs.Formats.{IsTimeline}
use Rattle.source_files.specs.Contents.{Content, Film}
use Rattle.source_files.proofs.HandedLemmas.{hands_as}
use Rattle.source_files.proofs.KnownFiles.{IsHeld, all_held}
use Rattle.command_words.specs.Asked.{Ask, OtherNames}
use Rattle.command_words.proofs.Drilling.{not_both as never_drill}
use Rattle.command_words.specs.declared.requests.Command.TheVariants.{TimelineToList}
use Rattle.otio_tools.specs.Asked.{Asked, asked_for, files_of, is_log, media_source, script_source}
use Rattle.otio_tools.specs.Forms.{Answer}
use Rattle.otio_tools.specs.Carried.{AnswersCarried, NotSound, Left, Carried}
use Rattle.otio_tools.specs.Answer.{AnswersHeld}
use Rattle.otio_tools.specs.Plan.{media_content}
use Rattle.otio_tools.specs.Run.{Streams, Sends, Directs}
use Rattle.otio_tools.specs.Served.{AnswersCalls, ByContents, ByAbsence, ByFault, AnswersGiven, AskedNothing, AskedFiles, AskedDrill, Serves, Answered, CallFailed, RanOut}
use Rattle.otio_tools.specs.Kept.{SendsFrames, KeepsGiven}
use Rattle.otio_tools.specs.declared.Status.{Status}
use Rattle.otio_tools.specs.declared.Status.TheVariants.{Done, Usage, Refused, Input, Output, Memory}
use Rattle.otio_tools.proofs.RunEnds.{asks_once, asks_for}
use Rattle.otio_tools.proofs.HeldContents.{timeline_held, rows_held_as, rows_apart_as}
use Rattle.otio_tools.proofs.PlanLemmas.{media_is}
use Rattle.otio_tools.proofs.CalmTimelines.{read_is_calm}
use Rattle.otio_tools.proofs.RangedRows.{rows_ranged_as}
use Rattle.otio_tools.proofs.WrittenLists.{text_keeps}

-- ---- what was read

-- the rows of the media list that was read, where one is named
record AreRowsOf (more : List Content) : Type 0 where
  rows : MediaRows
  are : more ≡ media_content rows
  listed : AreListed rows
  ranged : AreInRange rows

rows_of : (media : Option (List ℕ)) (more : List Content)
    → EachIs IsHeld (media_source media) more → AreRowsOf more
rows_of None [] p = record { rows = None; are = refl; listed = tt; ranged = tt }
rows_of None (c ∷ more) p = absurd p
rows_of (Some name) [] p = absurd p
rows_of (Some name) (c ∷ x ∷ more) p = absurd p.1
rows_of (Some name) (c ∷ []) p =
    let v = rows_held_as (is_log name) p.0.0 c p.0.1 in
    record {
      rows = Some v.0;
      are = ap (λ (x : Content). x ∷ []) v.1;
      listed = rows_apart_as (is_log name) p.0.0 v.0 v.2;
      ranged = rows_ranged_as (is_log name) p.0.0 v.0 v.2;
    }

-- the media list is all that was read after a file where no script is named
rows_alone : (script media : Option (List ℕ)) (more : List Content) → script ≡ None
    → EachIs IsHeld (script_source script ++ media_source media) more
    → EachIs IsHeld (media_source media) more
rows_alone None media more e p = p
rows_alone (Some name) media more e p = absurd (cc e)

-- ---- what was sent of it

-- the answer to a timeline that is written as a list, where it is done
carried_kept : (AreHeld : List Content → Type 0) (notes drop wide : Bool) (name bytes : List ℕ)
    (target : Option (List ℕ)) (rows : MediaRows) (t : Timeline) (answer : Answer) (d : Streams)
    → AreHeld (Film t ∷ media_content rows) → IsTimeline bytes t → AreListed rows → AreInRange rows
    → AnswersCarried notes drop wide name rows target t answer → answer.status ≡ Done
    → Sends (Directs answer.target answer.output) d → SendsFrames AreHeld wide target d
carried_kept AreHeld notes drop wide name bytes target rows t answer d held is
    listed ranged (NotSound f n p e) s o =
    absurd (let k : Refused ≡ Done = sym (ap (λ (a : Answer). a.status) e) ∙ s in cc)
carried_kept AreHeld notes drop wide name bytes target rows t answer d held is
    listed ranged (Left c f n p e) s o =
    absurd (let k : Refused ≡ Done = sym (ap (λ (a : Answer). a.status) e) ∙ s in cc)
carried_kept AreHeld notes drop wide name bytes target rows t answer d held is
    listed ranged (Carried sound none list i texts text spelled e) s o = record {
      timeline = t;
      rows = rows;
      held = held;
      ranged = ranged;
      text = text;
      sent = subst (λ (a : Answer). Sends (Directs a.target a.output) d) e o;
      keeps = text_keeps notes t rows drop wide list text sound (read_is_calm bytes t is) listed
          none i texts spelled;
    }

-- what a timeline and the media list after it are
contents_kept : (AreHeld : List Content → Type 0) (notes drop wide : Bool) (name : List ℕ)
    (others : OtherNames) (target : Option (List ℕ)) (contents : List Content) (answer : Answer)
    (d : Streams) → others.script ≡ None
    → EachIs IsHeld (files_of (TimelineToList drop wide notes) name others) contents
    → AreHeld contents
    → AnswersHeld (TimelineToList drop wide notes)
    (files_of (TimelineToList drop wide notes) name others) target contents answer
    → answer.status ≡ Done → Sends (Directs answer.target answer.output) d
    → SendsFrames AreHeld wide target d
contents_kept AreHeld notes drop wide name others target [] answer d alone each held a s o =
    absurd each
contents_kept AreHeld notes drop wide name others target (c ∷ more) answer d alone each held a s o =
    let command = TimelineToList drop wide notes in
    let files = files_of command name others in
    let film = timeline_held each.0.0 c each.0.1 in
    let rest = rows_of others.media more (rows_alone others.script others.media more alone each.1) in
    let known : AnswersHeld command files target (Film film.0 ∷ media_content rest.rows) answer =
    subst (λ (l : List Content). AnswersHeld command files target (Film film.0 ∷ l) answer) rest.are
    (subst (λ (x : Content). AnswersHeld command files target (x ∷ more) answer) film.1 a) in
    carried_kept AreHeld notes drop wide name each.0.0 target rest.rows film.0 answer d
    (subst (λ (l : List Content). AreHeld (Film film.0 ∷ l)) rest.are
    (subst (λ (x : Content). AreHeld (x ∷ more)) film.1 held)) film.2 rest.listed rest.ranged
    (subst (λ (m : MediaRows). AnswersCarried notes drop wide name m target film.0 answer)
    (media_is rest.rows) known) s o

-- ---- what a run has sent

asked_kept : (notes drop wide : Bool) (name : List ℕ) (others : OtherNames)
    (target : Option (List ℕ)) (answer : Answer) (d : Streams) (calls : List Handed)
    → others.script ≡ None
    → AnswersCalls (asked_for (TimelineToList drop wide notes) name others target) calls answer
    → answer.status ≡ Done → Sends (Directs answer.target answer.output) d
    → SendsFrames (λ contents. GivesAll (files_of (TimelineToList drop wide notes) name others)
    contents calls) wide target d
asked_kept notes drop wide name others target answer d calls alone (ByContents contents g a) s o =
    let files = files_of (TimelineToList drop wide notes) name others in
    contents_kept (λ l. GivesAll files l calls) notes drop wide name others target contents answer d
    alone (all_held files contents calls g) g a s o
asked_kept notes drop wide name others target answer d calls alone (ByAbsence gone g e) s o =
    absurd (let k : Input ≡ Done = sym (ap (λ (a : Answer). a.status) e) ∙ s in cc)
asked_kept notes drop wide name others target answer d calls alone (ByFault faulty reason g e) s o =
    absurd (let k : Refused ≡ Done = sym (ap (λ (a : Answer). a.status) e) ∙ s in cc)

given_kept : (words : List (List ℕ)) (notes drop wide : Bool) (name : List ℕ)
    (others : OtherNames) (target : Option (List ℕ)) (answer : Answer) (d : Streams)
    (calls : List Handed) → Ask words (TimelineToList drop wide notes) name others target
    → AnswersGiven words calls answer → answer.status ≡ Done
    → Sends (Directs answer.target answer.output) d
    → SendsFrames (λ contents. GivesAll (files_of (TimelineToList drop wide notes) name others)
    contents calls) wide target d
given_kept words notes drop wide name others target answer d calls ask (AskedNothing none n e) s o =
    absurd (none.no_command (TimelineToList drop wide notes) name others target ask)
given_kept words notes drop wide name others target answer d calls ask
    (AskedDrill seed count aim w n h) s o =
    absurd (never_drill words (TimelineToList drop wide notes) name others seed count target aim
    ask w)
given_kept words notes drop wide name others target answer d calls ask (AskedFiles asked asks a)
    s o =
    let same = asks_once words asked (asked_for (TimelineToList drop wide notes) name others
    target) asks (asks_for words (TimelineToList drop wide notes) name others target ask) in
    asked_kept notes drop wide name others target answer d calls ask.is.script_is
    (subst (λ (x : Asked). AnswersCalls x calls answer) same a) s o

keeps_by : (words : List (List ℕ)) (before now : ℕ) (d : Streams) (result : Status)
    (calls : List Handed) → Serves words before now d result calls
    → KeepsGiven words d result calls
keeps_by words before now d Done calls (Answered answer g r s) =
    λ drop wide notes name others target ask.
    given_kept words notes drop wide name others target answer d calls ask g s.0 s.1
keeps_by words before now d Done calls (CallFailed asked asks name g r e o m) = absurd (cc e)
keeps_by words before now d Done calls (RanOut some r e o m) = absurd (cc e)
keeps_by words before now d Usage calls s = tt
keeps_by words before now d Refused calls s = tt
keeps_by words before now d Input calls s = tt
keeps_by words before now d Output calls s = tt
keeps_by words before now d Memory calls s = tt

-- what a run has sent of a timeline that is written as a list keeps its frames
pub keeps : (words : List (List ℕ)) (before now : ℕ) (d : Streams) (result : Status)
    (old new : List Handed) → HandsOver (Serves words before now d result) old new
    → HandsOver (KeepsGiven words d result) old new
keeps words before now d result old new h =
    hands_as (Serves words before now d result) (KeepsGiven words d result) old new
    (λ calls s. keeps_by words before now d result calls s) h
