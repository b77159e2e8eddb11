-- From a plan to the end of a run.
use Rattle.std.proofs.Common.{◌≡◌, ◌≢◌, ℕ, List, [], Some, None, Result, Ok, Err, refl, sym, subst, ap, ◌∙◌, IfOk, inl, inr, append-nil}
use Rattle.std.specs.declared.option.Option.{Option}
use Rattle.dev_io.specs.Known.{KnownOut}
use Rattle.dev_io.specs.Calls.{Tells, Adds, AddsPrefix, SendsAll, Aims}
use Rattle.dev_io.specs.OutputCauses.{HasOutputCause, IsOutputCause}
use Rattle.dev_io.specs.declared.output_faults.OutputFault.{OutputFault}
use Rattle.dev_io.specs.declared.output_faults.OutputFault.TheVariants.{Sink, Memory as NoMemory}
use Rattle.source_files.specs.Reading.{RaisedAt, RaisedBy}
use Rattle.source_files.specs.declared.read_faults.Refusal.TheVariants.{Broken, Memory as WantOfMemory}
use Rattle.source_files.specs.declared.read_faults.ReadFault.{ReadFault}
use Rattle.source_files.specs.declared.read_faults.ReadFault.TheVariants as fault
use Rattle.source_files.specs.declared.read_faults.SourceFault.{SourceFault}
use Rattle.command_words.specs.Asked.{Ask, AskNothing, NoRequest, OtherNames}
use Rattle.command_words.specs.declared.faults.WordsFault.{WordsFault}
use Rattle.command_words.specs.declared.requests.Command.{Command}
use Rattle.command_words.proofs.Asking.{ask_once}
use Rattle.otio_tools.specs.Asked.{Asked, Asks, ListsFrames, asked_for}
use Rattle.otio_tools.specs.Run.{Streams, SendsNothing, Directs, HasMixedRows, Message, AsksFrames, KeepsStill}
use Rattle.otio_tools.specs.Plan.{AreMixedRows, AreRows, IsFor, Carries, Complains, Writes, WritesTo, text_planned, status_unsent, message_unsent}
use Rattle.otio_tools.specs.declared.Status.{Status}
use Rattle.otio_tools.specs.declared.Status.TheVariants.{Done, Usage, Refused, Input, Output, Memory}
use Rattle.otio_tools.specs.declared.planning.Planned.{Planned}
use Rattle.otio_tools.specs.declared.planning.Planned.TheVariants.{Events, Noted, Value, Root, OldRoot, Rows, Edited, Listed, Text, Media}

-- sending nothing sends no bytes
pub nothing_added : (a b : Option KnownOut) → Tells SendsNothing a b → Tells (Directs None []) a b
nothing_added None b h = tt
nothing_added (Some a) None h = absurd h
nothing_added (Some a) (Some b) h =
    h ∙ ap (λ (s : List ℕ). record a { sent = s }) (sym (append-nil a.sent))

-- what is asked for with all of its parts
pub whole : (words : List (List ℕ)) (asked : Asked) (p : Asks words asked)
    → asked ≡ asked_for asked.command p.name p.others asked.target
whole words asked p = ap (λ files. record {
  command = asked.command;
  files = files;
  target =
      asked.target;
}) p.files

same_parts : (c d : Command) (n m : List ℕ) (k l : OtherNames) (s t : Option (List ℕ)) → c ≡ d
    → n ≡ m → k ≡ l
    → s ≡ t → asked_for c n k s ≡ asked_for d m l t
same_parts c d n m k l s t e f g h =
    ap (λ x. asked_for x n k s) e ∙ ap (λ y. asked_for d y k s) f ∙ ap (λ z. asked_for d m z s) g
    ∙ ap (asked_for d m l) h

-- words ask for at most one thing
pub asks_once : (words : List (List ℕ)) (a b : Asked) → Asks words a → Asks words b → a ≡ b
asks_once words a b p q =
    let same = ask_once words a.command b.command p.name q.name p.others q.others a.target b.target
    p.ask q.ask in
    whole words a p ∙ same_parts a.command b.command p.name q.name p.others q.others a.target
    b.target same.0 same.1 same.2 same.3 ∙ sym (whole words b q)

pub asks_for : (words : List (List ℕ)) (command : Command) (name : List ℕ)
    (others : OtherNames) (target : Option (List ℕ)) → Ask words command name others target
    → Asks words (asked_for command name others target)
asks_for words command name others target w =
    record { name = name; others = others; ask = w; files = refl }

-- a command of frames that was asked for
asks_frames : (words : List (List ℕ)) (command : Command) (name : List ℕ)
    (others : OtherNames) (target : Option (List ℕ)) → Ask words command name others target
    → ListsFrames command → AsksFrames words
asks_frames words command name others target w lists = record {
  command = command;
  lists = lists;
  name = name;
  others = others;
  target = target;
  ask = w;
}

-- words without a request ask for nothing, but where memory ran out
pub asks_nothing : (words : List (List ℕ)) (why : WordsFault) → why ≡ WordsFault.Usage
    → NoRequest words why → AskNothing words
asks_nothing words why e h = subst (NoRequest words) e h

-- rows that show a mix are rows
pub mixed_rows : (planned : Planned) → AreMixedRows planned → AreRows planned
mixed_rows (Events list drop wide) m = m
mixed_rows (Noted list notes drop wide) m = m
mixed_rows (Value value) m = m
mixed_rows (Root object) m = m
mixed_rows (OldRoot object) m = m
mixed_rows (Rows timeline listing) m = tt
mixed_rows (Edited desk) m = m
mixed_rows (Listed timeline asked) m = m
mixed_rows (Text text) m = m
mixed_rows (Media list) m = m

-- so is the text of them
pub rows_mixed : (planned : Planned) → AreMixedRows planned → HasMixedRows (text_planned planned)
rows_mixed (Events list drop wide) m = absurd m
rows_mixed (Noted list notes drop wide) m = absurd m
rows_mixed (Value value) m = absurd m
rows_mixed (Root object) m = absurd m
rows_mixed (OldRoot object) m = absurd m
rows_mixed (Rows timeline listing) m =
    record { timeline = timeline; listing = listing; is = refl; mix = m }
rows_mixed (Edited desk) m = absurd m
rows_mixed (Listed timeline asked) m = absurd m
rows_mixed (Text text) m = absurd m
rows_mixed (Media list) m = absurd m

-- memory runs out over rows only where one of them shows a mix
pub mixed_cause : (may : Type 0) (before now : ℕ) (result : Result (Unit {0}) OutputFault)
    → HasOutputCause (Unit {0}) before now result → (result ≡ Err NoMemory → may)
    → HasOutputCause may before now result
mixed_cause may before now (Ok u) h m = record { later = h.later; failed = tt }
mixed_cause may before now (Err Sink) h m = record { later = h.later; failed = h.failed }
mixed_cause may before now (Err NoMemory) h m = record { later = h.later; failed = m refl }

fault_calm : (name : List ℕ) (before now : ℕ) (d : Streams) (why : ReadFault) (status : Status)
    → RaisedBy why before now
    → Complains name why d status → status ≢ Input → now ≡ before
fault_calm name before now d fault.Absent status r c e = r
fault_calm name before now d fault.Failed status r c e = absurd (e c.status)
fault_calm name before now d (fault.Refused refusal) status r c e = r

-- under every status but Input no call of the files failed
pub carried_calm : (target : Option (List ℕ)) (before now : ℕ) (d : Streams)
    (plan : Result Planned SourceFault) (status : Status)
    → RaisedAt plan before now → Carries target plan d status → status ≢ Input → now ≡ before
carried_calm target before now d (Ok planned) status r c e = r
carried_calm target before now d (Err stop) status r c e =
    fault_calm stop.name.now before now d stop.fault status r c e

fault_still : (words : List (List ℕ)) (name : List ℕ) (d : Streams) (why : ReadFault)
    (status : Status) → Complains name why d status
    → (status ≢ Usage) × KeepsStill words d status
fault_still words name d fault.Absent status c =
    (λ u. let f : Input ≡ Usage = sym c.status ∙ u in cc, rw c.status c.output)
fault_still words name d fault.Failed status c =
    (λ u. let f : Input ≡ Usage = sym c.status ∙ u in cc, rw c.status c.output)
fault_still words name d (fault.Refused (Broken reason)) status c =
    (λ u. let f : Refused ≡ Usage = sym c.status ∙ u in cc, rw c.status c.output)
fault_still words name d (fault.Refused WantOfMemory) status c =
    (λ u. let f : Memory ≡ Usage = sym c.status ∙ u in cc, rw c.status (inl c.output))

-- what is not sent stays unsent
pub carried_still : (words : List (List ℕ)) (command : Command) (name : List ℕ)
    (others : OtherNames) (target : Option (List ℕ)) (d : Streams)
    (plan : Result Planned SourceFault) (status : Status) → Ask words command name others target
    → IfOk plan (λ planned. IsFor command planned)
    → Carries target plan d status → KeepsStill words d status
carried_still words command name others target d (Ok planned) Done w k c = tt
carried_still words command name others target d (Ok planned) Output w k c = c.0
carried_still words command name others target d (Ok planned) Usage w k c = absurd c
carried_still words command name others target d (Ok planned) Refused w k c = absurd c
carried_still words command name others target d (Ok planned) Input w k c = absurd c
carried_still words command name others target d (Ok planned) Memory w k c =
    inr (asks_frames words command name others target w (k (mixed_rows planned c.0)))
carried_still words command name others target d (Err stop) status w k c =
    (fault_still words stop.name.now d stop.fault status c).1

-- no plan ends in usage
pub never_usage : (target : Option (List ℕ)) (d : Streams) (plan : Result Planned SourceFault)
    (status : Status)
    → Carries target plan d status → status ≢ Usage
never_usage target d (Ok planned) Done c = λ u. cc
never_usage target d (Ok planned) Output c = λ u. cc
never_usage target d (Ok planned) Usage c = absurd c
never_usage target d (Ok planned) Refused c = absurd c
never_usage target d (Ok planned) Input c = absurd c
never_usage target d (Ok planned) Memory c = λ u. cc
never_usage target d (Err stop) status c = (fault_still [] stop.name.now d stop.fault status c).0

-- what is written where the stream writes goes there
pub written_here : (text : List ℕ) (result : Result (Unit {0}) OutputFault) (old new : Option KnownOut)
    → Tells (SendsAll text result) old new → Tells (WritesTo None text result) old new
written_here text result None new h = tt
written_here text result (Some old) None h = absurd h
written_here text (Ok u) (Some old) (Some new) h = h
written_here text (Err Sink) (Some old) (Some new) h = inr h
written_here text (Err NoMemory) (Some old) (Some new) h = h

-- what is written after an aim goes to the file of that name
pub written_there : (F : Type 0) (name text : List ℕ) (u : Unit {0})
    (result : Result (Unit {0}) OutputFault) (old mid new : Option KnownOut)
    → Tells (Aims {E = F} name (Ok u)) old mid
    → Tells (SendsAll text result) mid new → Tells (WritesTo (Some name) text result) old new
written_there F name text u result None mid new a h = tt
written_there F name text u result (Some old) None new a h = absurd a
written_there F name text u result (Some old) (Some mid) None a h = absurd h
written_there F name text u (Ok v) (Some old) (Some mid) (Some new) a h =
    subst (λ (k : KnownOut). Adds text k new) a h
written_there F name text u (Err Sink) (Some old) (Some mid) (Some new) a h =
    inr (subst (λ (k : KnownOut). AddsPrefix text k new) a h)
written_there F name text u (Err NoMemory) (Some old) (Some mid) (Some new) a h =
    subst (λ (k : KnownOut). AddsPrefix text k new) a h

-- where the aim failed, nothing was written
pub unwritten : (F : Type 0) (name text : List ℕ) (e : F) (old new : Option KnownOut)
    → Tells (Aims name (Err e)) old new
    → Tells (WritesTo {T = Unit {0}} (Some name) text (Err Sink)) old new
unwritten F name text e None new a = tt
unwritten F name text e (Some old) None a = absurd a
unwritten F name text e (Some old) (Some new) a = inl a

-- an output that isn't whole, and its message
pub unsent : (target : Option (List ℕ)) (planned : Planned) (d : Streams) (fault : OutputFault)
    (status : Status) → IsOutputCause (AreMixedRows planned) d.out_before d.out_now fault
    → Tells (WritesTo {T = Unit {0}} target (text_planned planned) (Err fault)) d.out_old d.out_new
    → status ≡ status_unsent fault → Message (message_unsent fault) d
    → Writes target planned d status
unsent target planned d Sink status c t s m = rw s (c, t, m)
unsent target planned d NoMemory status c t s m = rw s (c, t, m)
