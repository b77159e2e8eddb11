-- From what the calls of the files gave to runs over files whose content is known.
use Rattle.std.proofs.Common.{◌≡◌, ◌∙◌, ◌∷◌, ℕ, List, Option, Some, None, ap, IfSome, inl, inr}
use Rattle.dev_io.specs.Calls.{Tells}
use Rattle.dev_io.specs.Handed.{Handed}
use Rattle.dev_io.specs.Known.{KnownFiles}
use Rattle.source_files.specs.Following.{AreKnownAtLast, FollowsAtLast}
use Rattle.source_files.specs.HandedFiles.{HandsOver}
use Rattle.source_files.specs.Reading.{IsRead, IsStopped}
use Rattle.source_files.specs.Reasons.{reason_text}
use Rattle.source_files.specs.declared.read_faults.Refusal.TheVariants.{Broken}
use Rattle.source_files.specs.declared.read_faults.ReadFault.TheVariants as fault
use Rattle.source_files.specs.Contents.{Film}
use Rattle.source_files.proofs.HandedLemmas.{hands_both}
use Rattle.source_files.proofs.KnownFiles.{all_known, stop_known}
use Rattle.source_files.proofs.Order.{first_for}
use Rattle.command_words.specs.declared.requests.Command.TheVariants.{TimelineToList}
use Rattle.otio_tools.specs.Answer.{Answers, NoCommand, OnFiles, ByDrill, AnswersAsked, Unread, Judged, AnswersUnread, Gone, Faulty}
use Rattle.otio_tools.specs.Asked.{Asked, files_of}
use Rattle.otio_tools.specs.Ends.{Completes, Ends}
use Rattle.otio_tools.specs.Forms.{Answer, absent, refused}
use Rattle.otio_tools.specs.Kept.{KeepsGiven, KeepsKnown}
use Rattle.otio_tools.specs.Plan.{media_content}
use Rattle.otio_tools.specs.Run.{Streams}
use Rattle.otio_tools.specs.Served.{AnswersCalls, ByContents, ByAbsence, ByFault, AnswersGiven, AskedNothing, AskedFiles, AskedDrill, SendsAnswer, Serves, Answered, CallFailed, RanOut}
use Rattle.otio_tools.specs.Worked.{LeavesGiven, LeavesKnown}
use Rattle.otio_tools.specs.declared.Desk.{Desk}
use Rattle.otio_tools.specs.declared.Status.{Status}
use Rattle.otio_tools.specs.declared.Status.TheVariants.{Done, Usage, Refused, Input, Output, Memory}
use Rattle.otio_tools.proofs.OneAnswer.{completes}

-- ---- the answer

asked_known : (asked : Asked) (calls : List Handed) (answer : Answer) (old new : KnownFiles)
    → AnswersCalls asked calls answer → AreKnownAtLast calls old new
    → AnswersAsked asked old.held answer
asked_known asked calls answer old new (ByContents contents g a) k =
    Judged contents (all_known asked.files contents calls old new g k) a
asked_known asked calls answer old new (ByAbsence name g e) k =
    Unread (first_for (IsRead old.held) (IsStopped old.held new.last fault.Absent)
    (AnswersUnread old.held) asked.files name answer
    (λ file s. Gone s.1 (e ∙ ap absent s.0))
    (stop_known asked.files name fault.Absent calls old new g k))
asked_known asked calls answer old new (ByFault name reason g e) k =
    Unread (first_for (IsRead old.held)
    (IsStopped old.held new.last (fault.Refused (Broken reason))) (AnswersUnread old.held)
    asked.files name answer
    (λ file s. Faulty (reason_text reason) s.1 (e ∙ ap (λ n. refused n (reason_text reason)) s.0))
    (stop_known asked.files name (fault.Refused (Broken reason)) calls old new g k))

-- the answer to what the calls gave is that to what the files hold
answer_known : (words : List (List ℕ)) (calls : List Handed) (answer : Answer)
    (old new : KnownFiles) → AnswersGiven words calls answer → AreKnownAtLast calls old new
    → Answers words old.held answer
answer_known words calls answer old new (AskedNothing none n e) k = NoCommand none e
answer_known words calls answer old new (AskedFiles asked asks a) k =
    OnFiles asked asks (asked_known asked calls answer old new a k)
answer_known words calls answer old new (AskedDrill seed count target w n a) k =
    ByDrill seed count target w a

-- ---- the end

sent_known : (words : List (List ℕ)) (before now : ℕ) (d : Streams) (answer : Answer)
    (result : Status) (old new : KnownFiles) → Answers words old.held answer → now ≡ before
    → SendsAnswer words answer d result → Ends words before now d result old new
sent_known words before now d answer Done old new a r s =
    record { answer = answer; owed = a; status = s.0; output = s.1; message = s.2 }
sent_known words before now d answer Usage old new a r s =
    record { answer = answer; owed = a; status = s.0; output = s.1; message = s.2 }
sent_known words before now d answer Refused old new a r s =
    record { answer = answer; owed = a; status = s.0; output = s.1; message = s.2 }
sent_known words before now d answer Input old new a r s = inl (
  record { answer = answer; owed = a; status = s.0; output = s.1; message = s.2 },
  r,
)
sent_known words before now d answer Output old new a r s = record {
  answer = answer;
  owed = a;
  status = s.0;
  failed = s.1;
  output = s.2;
  message = s.3;
}
sent_known words before now d answer Memory old new a r s = (
  inr (record {
    frames = s.1;
    answer = answer;
    owed = a;
    status = s.0;
    mixed = s.2;
    output = s.3;
  }),
  s.4,
)

ends_by : (words : List (List ℕ)) (before now : ℕ) (d : Streams) (result : Status)
    (calls : List Handed) (old new : KnownFiles) → Serves words before now d result calls
    → AreKnownAtLast calls old new → Ends words before now d result old new
ends_by words before now d result calls old new (Answered answer g r s) k =
    sent_known words before now d answer result old new
    (answer_known words calls answer old new g k) r s
ends_by words before now d result calls old new (CallFailed asked asks name g r e o m) k =
    rw e (inr (record {
      asked = asked;
      asks = asks;
      name = name;
      first = stop_known asked.files name fault.Failed calls old new g k;
      failed = r;
      output = o;
      message = m;
    }))
ends_by words before now d result calls old new (RanOut some r e o m) k = rw e (inl o, m)

ends_if : (words : List (List ℕ)) (before now : ℕ) (d : Streams) (result : Status)
    (calls : List Handed) (old new : Option KnownFiles)
    → Serves words before now d result calls → Tells (AreKnownAtLast calls) old new
    → Tells (Ends words before now d result) old new
ends_if words before now d result calls None new s k = tt
ends_if words before now d result calls (Some old) None s k = absurd k
ends_if words before now d result calls (Some old) (Some new) s k =
    ends_by words before now d result calls old new s k

-- a run whose calls gave what is known ends right over what is known
pub ends_known : (words : List (List ℕ)) (before now : ℕ) (d : Streams) (result : Status)
    (old new : Option KnownFiles) (start stop : List Handed)
    → HandsOver (Serves words before now d result) start stop
    → FollowsAtLast old new start stop → Tells (Ends words before now d result) old new
ends_known words before now d result old new start stop h k =
    let both = hands_both (Serves words before now d result)
    (λ calls. Tells (AreKnownAtLast calls) old new) start stop h k in
    ends_if words before now d result both.0 old new both.1 both.2

pub completes_known : (words : List (List ℕ)) (before now : ℕ) (d : Streams) (result : Status)
    (old new : Option KnownFiles) (start stop : List Handed)
    → HandsOver (Serves words before now d result) start stop
    → FollowsAtLast old new start stop → IfSome old (Completes words before now d result)
completes_known words before now d result old new start stop h k =
    completes words old new before now d result
    (ends_known words before now d result old new start stop h k)

-- ---- frames that are kept

keeps_by : (words : List (List ℕ)) (d : Streams) (result : Status) (calls : List Handed)
    (old new : KnownFiles) → KeepsGiven words d result calls → AreKnownAtLast calls old new
    → KeepsKnown words d result old
keeps_by words d Done calls old new s k = λ drop wide notes name others target ask.
    let f = s drop wide notes name others target ask in record {
      timeline = f.timeline;
      rows = f.rows;
      held = all_known (files_of (TimelineToList drop wide notes) name others)
          (Film f.timeline ∷ media_content f.rows) calls old new f.held k;
      ranged = f.ranged;
      text = f.text;
      sent = f.sent;
      keeps = f.keeps;
    }
keeps_by words d Usage calls old new s k = tt
keeps_by words d Refused calls old new s k = tt
keeps_by words d Input calls old new s k = tt
keeps_by words d Output calls old new s k = tt
keeps_by words d Memory calls old new s k = tt

keeps_if : (words : List (List ℕ)) (d : Streams) (result : Status) (calls : List Handed)
    (old new : Option KnownFiles) → KeepsGiven words d result calls
    → Tells (AreKnownAtLast calls) old new → IfSome old (KeepsKnown words d result)
keeps_if words d result calls None new s k = tt
keeps_if words d result calls (Some old) None s k = absurd k
keeps_if words d result calls (Some old) (Some new) s k = keeps_by words d result calls old new s k

pub keeps_known : (words : List (List ℕ)) (d : Streams) (result : Status)
    (old new : Option KnownFiles) (start stop : List Handed)
    → HandsOver (KeepsGiven words d result) start stop → FollowsAtLast old new start stop
    → IfSome old (KeepsKnown words d result)
keeps_known words d result old new start stop h k =
    let both = hands_both (KeepsGiven words d result)
    (λ calls. Tells (AreKnownAtLast calls) old new) start stop h k in
    keeps_if words d result both.0 old new both.1 both.2

-- ---- what is left on the desk

works_by : (words : List (List ℕ)) (result : Status) (on_desk : Option Desk)
    (calls : List Handed) (old new : KnownFiles) → LeavesGiven words result on_desk calls
    → AreKnownAtLast calls old new → LeavesKnown words result on_desk old
works_by words Done on_desk calls old new s k = λ command name others target edits ask.
    let w = s command name others target edits ask in record {
      contents = w.contents;
      held = all_known (files_of command name others) w.contents calls old new w.held k;
      desk = w.desk;
      is = w.is;
      work = w.work;
    }
works_by words Output on_desk calls old new s k = λ command name others target edits ask.
    let w = s command name others target edits ask in record {
      contents = w.contents;
      held = all_known (files_of command name others) w.contents calls old new w.held k;
      desk = w.desk;
      is = w.is;
      work = w.work;
    }
works_by words Usage on_desk calls old new s k = tt
works_by words Refused on_desk calls old new s k = tt
works_by words Input on_desk calls old new s k = tt
works_by words Memory on_desk calls old new s k = tt

works_if : (words : List (List ℕ)) (result : Status) (on_desk : Option Desk)
    (calls : List Handed) (old new : Option KnownFiles)
    → LeavesGiven words result on_desk calls → Tells (AreKnownAtLast calls) old new
    → IfSome old (LeavesKnown words result on_desk)
works_if words result on_desk calls None new s k = tt
works_if words result on_desk calls (Some old) None s k = absurd k
works_if words result on_desk calls (Some old) (Some new) s k =
    works_by words result on_desk calls old new s k

pub works_known : (words : List (List ℕ)) (result : Status) (on_desk : Option Desk)
    (old new : Option KnownFiles) (start stop : List Handed)
    → HandsOver (LeavesGiven words result on_desk) start stop → FollowsAtLast old new start stop
    → IfSome old (LeavesKnown words result on_desk)
works_known words result on_desk old new start stop h k =
    let both = hands_both (LeavesGiven words result on_desk)
    (λ calls. Tells (AreKnownAtLast calls) old new) start stop h k in
    works_if words result on_desk both.0 old new both.1 both.2
