-- The messages of a run, whatever is known of its devices.
use Rattle.std.proofs.Common.{◌≡◌, ◌≢◌, ◌⊎◌, ℕ, zero, suc, List, [], ◌∷◌, ◌++◌, Some, None, Result, Ok, Err, refl, subst, ap, ◌∙◌, IfErr, inl, inr, map, get_or, true}
use Rattle.std.specs.declared.option.Option.{Option}
use denote.Ref.{Bor}
use Rattle.media_rows.specs.Rows.{MediaRows}
use Rattle.source_files.specs.Order.{FirstIsNot, IsAmong}
use Rattle.source_files.specs.Reading.{RaisedAt, RaisedBy, Source, names_of}
use Rattle.source_files.specs.Contents.{Content}
use Rattle.source_files.specs.declared.read_faults.Refusal.TheVariants.{Broken, Memory as NoMemory}
use Rattle.source_files.specs.declared.read_faults.ReadFault.{ReadFault}
use Rattle.source_files.specs.declared.read_faults.ReadFault.TheVariants as fault
use Rattle.source_files.specs.declared.read_faults.SourceFault.{SourceFault}
use Rattle.command_words.specs.Asked.{Ask, OtherNames}
use Rattle.command_words.specs.declared.requests.Command.{Command}
use Rattle.otio_tools.specs.Asked.{IsScripted, files_alone, files_of, input_named, media_source, takes_several}
use Rattle.otio_tools.specs.Drilled.{EndsDrill}
use Rattle.otio_tools.specs.Opened.{IsOpenedInput}
use Rattle.otio_tools.specs.Plan.{Carries, Complains}
use Rattle.otio_tools.specs.Reported.{AsksFor, IsToldOf, Reports}
use Rattle.otio_tools.specs.Run.{Streams}
use Rattle.otio_tools.specs.Several.{StopsOpening, named_inputs, names_now}
use Rattle.otio_tools.specs.Tools.{name_at}
use Rattle.otio_tools.specs.declared.Desk.{Desk}
use Rattle.otio_tools.specs.declared.Status.{Status}
use Rattle.otio_tools.specs.declared.Status.TheVariants.{Done, Usage, Refused, Input, Output, Memory}
use Rattle.otio_tools.specs.declared.planning.Planned.{Planned}
use Rattle.otio_tools.proofs.RunEnds.{asks_for}
use Rattle.otio_tools.proofs.SeveralFiles.{files_several, no_script_several}

-- ---- the names of files

-- names in front of others
among_front : (names more : List (List ℕ)) (name : List ℕ) → IsAmong names name
    → IsAmong (names ++ more) name
among_front [] more name a = absurd a
among_front (n ∷ names) more name (inl e) = inl e
among_front (n ∷ names) more name (inr a) = inr (among_front names more name a)

-- the names of inputs
among_inputs : (command : Command) (names : List (List ℕ)) (more : List Source) (name : List ℕ)
    → IsAmong names name → IsAmong (names_of (map (input_named command) names ++ more)) name
among_inputs command [] more name a = absurd a
among_inputs command (n ∷ names) more name (inl e) = inl e
among_inputs command (n ∷ names) more name (inr a) =
    inr (among_inputs command names more name a)

-- a file of several is told of under a name that is asked for
several_among : (command : Command) (name : List ℕ) (others : OtherNames) (told : List ℕ)
    → takes_several command ≡ true → IsScripted command others.script
    → IsAmong (names_of (map (input_named command) (name ∷ others.more) ++ media_source others.media))
    told
    → IsAmong (names_of (files_of command name others)) told
several_among command name others told e s a =
    subst (λ (files : List Source). IsAmong (names_of files) told)
    (files_several command name others e (no_script_several command others.script e s)) a

pub several_named : (command : Command) (name : List ℕ) (others : OtherNames)
    (names : List (List ℕ)) (result : Result Planned SourceFault) → takes_several command ≡ true
    → IsScripted command others.script → names ≡ name ∷ others.more
    → IfErr result (λ stop. IsAmong names stop.name.now)
    → IfErr result (λ stop. IsAmong (names_of (files_of command name others)) stop.name.now)
several_named command name others names (Ok planned) e s n a = tt
several_named command name others names (Err stop) e s n a =
    several_among command name others stop.name.now e s
    (among_inputs command (name ∷ others.more) (media_source others.media) stop.name.now
    (subst (λ (l : List (List ℕ)). IsAmong l stop.name.now) n a))

pub several_unread : (command : Command) (name : List ℕ) (others : OtherNames)
    (sources : List Source) (names : List (List ℕ)) (told : List ℕ)
    → takes_several command ≡ true → IsScripted command others.script
    → sources ≡ map (input_named command) names ++ media_source others.media
    → names ≡ name ∷ others.more → IsAmong (names_of sources) told
    → IsAmong (names_of (files_of command name others)) told
several_unread command name others sources names told e s f n a =
    several_among command name others told e s
    (subst (λ (files : List Source). IsAmong (names_of files) told) (f
    ∙ ap (λ (l : List (List ℕ)). map (input_named command) l ++ media_source others.media) n) a)

-- an input that isn't opened is told of under its name
pub unopened_among : (media : MediaRows) (names : List (List ℕ)) (contents : List Content)
    (stop : SourceFault)
    → FirstIsNot (IsOpenedInput media) (StopsOpening media) (named_inputs names contents) stop
    → IsAmong names stop.name.now
unopened_among media [] contents stop p = absurd p
unopened_among media (n ∷ names) [] stop p = absurd p
unopened_among media (n ∷ names) (c ∷ contents) stop (inl p) = inl p.0
unopened_among media (n ∷ names) (c ∷ contents) stop (inr p) =
    inr (unopened_among media names contents stop p.2)

get_among : (names : List (Bor (List ℕ))) (index : ℕ) (other : List ℕ)
    → (get_or (names_now names) index other ≡ other)
    ⊎ IsAmong (names_now names) (get_or (names_now names) index other)
get_among [] index other = inl refl
get_among (n ∷ names) zero other = inr (inl refl)
get_among (n ∷ names) (suc index) other = by (get_among names index other)
  where
    by : (get_or (names_now names) index other ≡ other)
        ⊎ IsAmong (names_now names) (get_or (names_now names) index other)
        → (get_or (names_now names) index other ≡ other)
        ⊎ IsAmong (names_now (n ∷ names)) (get_or (names_now names) index other)
    by (inl e) = inl e
    by (inr a) = inr (inr a)

-- the name of an input, or of the first, is among the names
pub name_at_among : (names : List (Bor (List ℕ))) (index : ℕ) → names ≢ []
    → IsAmong (names_now names) (name_at (names_now names) index)
name_at_among [] index some = absurd (some refl)
name_at_among (n ∷ names) index some = by (get_among (n ∷ names) index n.now)
  where
    by : (get_or (names_now (n ∷ names)) index n.now ≡ n.now)
        ⊎ IsAmong (names_now (n ∷ names)) (get_or (names_now (n ∷ names)) index n.now)
        → IsAmong (names_now (n ∷ names)) (get_or (names_now (n ∷ names)) index n.now)
    by (inl e) = inl e
    by (inr a) = a

-- the file or the script is among the files of a command on one file
told_among : (command : Command) (name : List ℕ) (script media : Option (List ℕ)) (told : List ℕ)
    → IsToldOf name script told
    → IsAmong (names_of (files_alone command name script media)) told
told_among command name None media told e = inl e
told_among command name (Some script) media told (inl e) = inl e
told_among command name (Some script) media told (inr e) = inr (inl e)

pub alone_named : (command : Command) (name : List ℕ) (script media : Option (List ℕ))
    (result : Result Planned SourceFault)
    → IfErr result (λ stop. IsToldOf name script stop.name.now)
    → IfErr result (λ stop. IsAmong (names_of (files_alone command name script media)) stop.name.now)
alone_named command name script media (Ok planned) t = tt
alone_named command name script media (Err stop) t =
    told_among command name script media stop.name.now t

-- ---- messages

fault_reported : (words : List (List ℕ)) (name : List ℕ) (before now : ℕ) (d : Streams)
    (why : ReadFault) (status : Status) → AsksFor words name → RaisedBy why before now
    → Complains name why d status → Reports words before now d status
fault_reported words name before now d fault.Absent status a r c =
    rw c.status (name, a, inl (r, c.message))
fault_reported words name before now d fault.Failed status a r c =
    rw c.status (name, a, inr (r, c.message))
fault_reported words name before now d (fault.Refused (Broken reason)) status a r c =
    rw c.status (name, reason, a, c.message)
fault_reported words name before now d (fault.Refused NoMemory) status a r c =
    rw c.status c.message

-- what is planned is carried out with the message of its status
pub carried_reported : (words : List (List ℕ)) (command : Command) (name : List ℕ)
    (others : OtherNames) (target : Option (List ℕ)) (before now : ℕ) (d : Streams)
    (plan : Result Planned SourceFault) (status : Status) → Ask words command name others target
    → IfErr plan (λ stop. IsAmong (names_of (files_of command name others)) stop.name.now)
    → RaisedAt plan before now → Carries target plan d status → Reports words before now d status
carried_reported words command name others target before now d (Ok planned) Done w n r c = c.1
carried_reported words command name others target before now d (Ok planned) Output w n r c = c.2
carried_reported words command name others target before now d (Ok planned) Usage w n r c = absurd c
carried_reported words command name others target before now d (Ok planned) Refused w n r c =
    absurd c
carried_reported words command name others target before now d (Ok planned) Input w n r c = absurd c
carried_reported words command name others target before now d (Ok planned) Memory w n r c = c.2
carried_reported words command name others target before now d (Err stop) status w n r c =
    fault_reported words stop.name.now before now d stop.fault status
    (record { asked = _; asks = asks_for words command name others target w; among = n }) r c

-- so is a drill
pub drill_reported : (words : List (List ℕ)) (seed count : ℕ) (target : Option (List ℕ))
    (before now : ℕ) (d : Streams) (status : Status) (desk : Option Desk)
    → EndsDrill seed count target d status desk → Reports words before now d status
drill_reported words seed count target before now d Done desk e = e.sent.1
drill_reported words seed count target before now d Output desk e = e.sent.2
drill_reported words seed count target before now d Usage desk e = absurd e
drill_reported words seed count target before now d Refused desk e = absurd e
drill_reported words seed count target before now d Input desk e = absurd e
drill_reported words seed count target before now d Memory desk e = e.message
