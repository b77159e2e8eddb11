-- Media lists of the same rows lead to the same answer.
use Rattle.std.proofs.Common.{◌≡◌, ◌++◌, ℕ, Bool, true, false, cond, Option, List, [], ◌∷◌, Some, map, refl, sym, ap, subst, ◌∙◌, inl, inr, append_assoc}
use Rattle.media_rows.specs.declared.row.MediaRow.{MediaRow}
use Rattle.source_files.specs.Order.{FirstIsNot}
use Rattle.source_files.specs.Formats.{Holds}
use Rattle.source_files.specs.Reading.{Held, Source, IsRead, AreRead, read_as}
use Rattle.source_files.specs.Kinds as kinds
use Rattle.source_files.specs.Contents.{Content, Value, Root, Film, Events, Noted, Rows, Commands}
use Rattle.source_files.proofs.Order.{each_more}
use Rattle.command_words.specs.Asked.{OtherNames}
use Rattle.command_words.proofs.Drilling.{not_both as never_drill}
use Rattle.command_words.specs.declared.requests.Command.{Command}
use Rattle.command_words.specs.declared.requests.Command.TheVariants.{ListToList, ListToObjects, TimelineToList, ToObjects, ToJson, Frames, ListFrames, Edit, ListEdit}
use Rattle.command_words.specs.declared.requests.Command.TheVariants.{Cat, ListCat, Stat, ListStat, Tool, ListTool, Pull, ListPull, LogToMedia}
use Rattle.otio_tools.specs.Alike.{AreAlike, with_media}
use Rattle.otio_tools.specs.Asked.{Asked, asked_for, files_of, input_named, is_log, media_kind, media_source, script_source, takes_several}
use Rattle.otio_tools.specs.Answer.{Answers, NoCommand, OnFiles, ByDrill, AnswersHeld, AnswersUnread, AnswersAsked, Unread, Judged}
use Rattle.otio_tools.specs.Forms.{Answer}
use Rattle.otio_tools.specs.Kept.{AreRowsAs, HoldsRows}
use Rattle.otio_tools.specs.Opened.{AnswersOpened, inputs_in, media_behind}
use Rattle.otio_tools.specs.Tools.{AnswersJoined, AnswersTool}
use Rattle.otio_tools.proofs.HeldContents.{rows_held_as, same_rows_as, there_once}
use Rattle.otio_tools.proofs.OneAnswer.{read_or_unread}
use Rattle.otio_tools.proofs.RunEnds.{asks_once, asks_for}

-- ---- what a media list of these rows is read as

held_rows : (log : Bool) (bytes : List ℕ) (rows : List MediaRow) → AreRowsAs log bytes rows
    → Holds (cond log kinds.Log kinds.Media) bytes (Rows rows)
held_rows true bytes rows h = h
held_rows false bytes rows h = h

reads_rows : (held : Held) (name : List ℕ) (rows : List MediaRow)
    → HoldsRows held (Some name) (Some rows)
    → IsRead held (read_as name (media_kind name)) (Rows rows)
reads_rows held name rows h = record {
  bytes = h.0;
  there = h.1;
  holds = held_rows (is_log name) h.0 rows h.2;
}

only_rows : (held : Held) (name : List ℕ) (rows : List MediaRow) (c : Content)
    → HoldsRows held (Some name) (Some rows) → IsRead held (read_as name (media_kind name)) c
    → c ≡ Rows rows
only_rows held name rows c h r =
    let v = rows_held_as (is_log name) r.bytes c r.holds in
    v.1 ∙ ap Rows (same_rows_as (is_log name) r.bytes v.0 rows v.2
    (subst (λ bytes. AreRowsAs (is_log name) bytes rows)
    (there_once h.0 r.bytes (held name) h.1 r.there) h.2))

-- ---- files of which the last is another

-- the last of the files that are read, and those before it
last_read : (held : Held) (front : List Source) (s : Source) (contents : List Content)
    → AreRead held (front ++ s ∷ []) contents
    → (cs : List Content) × (c : Content) × (contents ≡ cs ++ c ∷ []) × AreRead held front cs
    × IsRead held s c
last_read held [] s [] e = absurd e
last_read held [] s (c ∷ []) e = ([], c, refl, tt, e.0)
last_read held [] s (c ∷ d ∷ more) e = absurd e.1
last_read held (f ∷ front) s [] e = absurd e
last_read held (f ∷ front) s (c ∷ more) e =
    let v = last_read held front s more e.1 in
    (c ∷ v.0, v.1, ap (λ l. c ∷ l) v.2, (e.0, v.3), v.4)

swap_first : (held : Held) (front : List Source) (s t : Source) (c : Content) (answer : Answer)
    → IsRead held s c
    → FirstIsNot (IsRead held) (AnswersUnread held) (front ++ s ∷ []) answer
    → FirstIsNot (IsRead held) (AnswersUnread held) (front ++ t ∷ []) answer
swap_first held [] s t c answer r (inl u) = absurd (read_or_unread held s c answer r u)
swap_first held [] s t c answer r (inr p) = absurd p.2
swap_first held (f ∷ front) s t c answer r (inl u) = inl u
swap_first held (f ∷ front) s t c answer r (inr p) =
    inr (p.0, p.1, swap_first held front s t c answer r p.2)

-- a media list is no input
swap_inputs : (held : Held) (front : List Source) (s t : Source) (cs : List Content)
    (rows : List MediaRow) → AreRead held front cs
    → inputs_in (front ++ s ∷ []) (cs ++ Rows rows ∷ [])
    ≡ inputs_in (front ++ t ∷ []) (cs ++ Rows rows ∷ [])
swap_inputs held [] s t [] rows e = refl
swap_inputs held [] s t (c ∷ cs) rows e = absurd e
swap_inputs held (f ∷ front) s t [] rows e = absurd e
swap_inputs held (f ∷ front) s t (Film timeline ∷ cs) rows e =
    ap (λ l. record { name = f.name; content = Film timeline } ∷ l)
    (swap_inputs held front s t cs rows e.1)
swap_inputs held (f ∷ front) s t (Events list ∷ cs) rows e =
    ap (λ l. record { name = f.name; content = Events list } ∷ l)
    (swap_inputs held front s t cs rows e.1)
swap_inputs held (f ∷ front) s t (Value value ∷ cs) rows e = refl
swap_inputs held (f ∷ front) s t (Root object ∷ cs) rows e = refl
swap_inputs held (f ∷ front) s t (Noted noted said ∷ cs) rows e = refl
swap_inputs held (f ∷ front) s t (Rows said ∷ cs) rows e = refl
swap_inputs held (f ∷ front) s t (Commands commands ∷ cs) rows e = refl

-- the answer to what files hold isn't told of a media list
swap_held : (command : Command) (held : Held) (file : Source) (front : List Source) (s t : Source)
    (c : Content) (cs : List Content) (rows : List MediaRow) (target : Option (List ℕ))
    (answer : Answer) → AreRead held (file ∷ front) (c ∷ cs)
    → AnswersHeld command (file ∷ (front ++ s ∷ [])) target (c ∷ (cs ++ Rows rows ∷ [])) answer
    → AnswersHeld command (file ∷ (front ++ t ∷ [])) target (c ∷ (cs ++ Rows rows ∷ [])) answer
swap_held ToJson held file front s t (Value value) cs rows target answer e h =
    h
swap_held ToJson held file front s t (Root object) cs rows target answer e h =
    absurd h
swap_held ToJson held file front s t (Film timeline) cs rows target answer e h =
    absurd h
swap_held ToJson held file front s t (Events list) cs rows target answer e h =
    absurd h
swap_held ToJson held file front s t (Rows said) cs rows target answer e h =
    absurd h
swap_held ToJson held file front s t (Noted noted said) cs rows target answer e h =
    absurd h
swap_held ToJson held file front s t (Commands commands) cs rows target answer e h =
    absurd h
swap_held LogToMedia held file front s t (Value value) cs rows target answer e h =
    absurd h
swap_held LogToMedia held file front s t (Root object) cs rows target answer e h =
    absurd h
swap_held LogToMedia held file front s t (Film timeline) cs rows target answer e h =
    absurd h
swap_held LogToMedia held file front s t (Events list) cs rows target answer e h =
    absurd h
swap_held LogToMedia held file front s t (Rows said) cs rows target answer e h =
    h
swap_held LogToMedia held file front s t (Noted noted said) cs rows target answer e h =
    absurd h
swap_held LogToMedia held file front s t (Commands commands) cs rows target answer e h =
    absurd h
swap_held (ToObjects older) held file front s t (Value value) cs rows target answer e h =
    absurd h
swap_held (ToObjects older) held file front s t (Root object) cs rows target answer e h =
    h
swap_held (ToObjects older) held file front s t (Film timeline) cs rows target answer e h =
    absurd h
swap_held (ToObjects older) held file front s t (Events list) cs rows target answer e h =
    absurd h
swap_held (ToObjects older) held file front s t (Rows said) cs rows target answer e h =
    absurd h
swap_held (ToObjects older) held file front s t (Noted noted said) cs rows target answer e h =
    absurd h
swap_held (ToObjects older) held file front s t (Commands commands) cs rows target answer e h =
    absurd h
swap_held (ListToList rate drop wide notes) held file front s t (Value value) cs rows target
    answer e h =
    absurd h
swap_held (ListToList rate drop wide notes) held file front s t (Root object) cs rows target
    answer e h =
    absurd h
swap_held (ListToList rate drop wide notes) held file front s t (Film timeline) cs rows
    target answer e h =
    absurd h
swap_held (ListToList rate drop wide notes) held file front s t (Events list) cs rows target
    answer e h =
    h
swap_held (ListToList rate drop wide notes) held file front s t (Rows said) cs rows target answer
    e h =
    absurd h
swap_held (ListToList rate drop wide notes) held file front s t (Noted list said) cs rows target
    answer e h =
    h
swap_held (ListToList rate drop wide notes) held file front s t (Commands commands) cs rows
    target answer e h =
    absurd h
swap_held (ListToObjects rate older notes) held file front s t (Value value) cs rows target
    answer e h =
    absurd h
swap_held (ListToObjects rate older notes) held file front s t (Root object) cs rows target
    answer e h =
    absurd h
swap_held (ListToObjects rate older notes) held file front s t (Film timeline) cs rows target
    answer e h =
    absurd h
swap_held (ListToObjects rate older notes) held file front s t (Events list) cs rows target
    answer e h =
    h
swap_held (ListToObjects rate older notes) held file front s t (Rows said) cs rows target answer
    e h =
    absurd h
swap_held (ListToObjects rate older notes) held file front s t (Noted list said) cs rows target
    answer e h =
    h
swap_held (ListToObjects rate older notes) held file front s t (Commands commands) cs rows target
    answer e h =
    absurd h
swap_held (TimelineToList drop wide notes) held file front s t (Value value) cs rows target
    answer e h =
    absurd h
swap_held (TimelineToList drop wide notes) held file front s t (Root object) cs rows target
    answer e h =
    absurd h
swap_held (TimelineToList drop wide notes) held file front s t (Film timeline) cs rows target
    answer e h =
    h
swap_held (TimelineToList drop wide notes) held file front s t (Events list) cs rows target
    answer e h =
    absurd h
swap_held (TimelineToList drop wide notes) held file front s t (Rows said) cs rows target answer
    e h =
    absurd h
swap_held (TimelineToList drop wide notes) held file front s t (Noted noted said) cs rows target
    answer e h =
    absurd h
swap_held (TimelineToList drop wide notes) held file front s t (Commands commands) cs rows target
    answer e h =
    absurd h
swap_held (Frames asked) held file front s t (Value value) cs rows target answer e h =
    absurd h
swap_held (Frames asked) held file front s t (Root object) cs rows target answer e h =
    absurd h
swap_held (Frames asked) held file front s t (Film timeline) cs rows target answer e h =
    h
swap_held (Frames asked) held file front s t (Events list) cs rows target answer e h =
    absurd h
swap_held (Frames asked) held file front s t (Rows said) cs rows target answer e h =
    absurd h
swap_held (Frames asked) held file front s t (Noted noted said) cs rows target answer e h =
    absurd h
swap_held (Frames asked) held file front s t (Commands commands) cs rows target answer e h =
    absurd h
swap_held (ListFrames rate asked) held file front s t (Value value) cs rows target answer e h =
    absurd h
swap_held (ListFrames rate asked) held file front s t (Root object) cs rows target answer e h =
    absurd h
swap_held (ListFrames rate asked) held file front s t (Film timeline) cs rows target answer e h =
    absurd h
swap_held (ListFrames rate asked) held file front s t (Events list) cs rows target answer e h =
    h
swap_held (ListFrames rate asked) held file front s t (Rows said) cs rows target answer e h =
    absurd h
swap_held (ListFrames rate asked) held file front s t (Noted noted said) cs rows target answer e h =
    absurd h
swap_held (ListFrames rate asked) held file front s t (Commands commands) cs rows target answer e
    h =
    absurd h
swap_held Stat held file front s t (Value value) cs rows target answer e h =
    absurd h
swap_held Stat held file front s t (Root object) cs rows target answer e h =
    absurd h
swap_held Stat held file front s t (Film timeline) cs rows target answer e h =
    h
swap_held Stat held file front s t (Events list) cs rows target answer e h =
    absurd h
swap_held Stat held file front s t (Rows said) cs rows target answer e h =
    absurd h
swap_held Stat held file front s t (Noted noted said) cs rows target answer e h =
    absurd h
swap_held Stat held file front s t (Commands commands) cs rows target answer e h =
    absurd h
swap_held (ListStat rate) held file front s t (Value value) cs rows target answer e h =
    absurd h
swap_held (ListStat rate) held file front s t (Root object) cs rows target answer e h =
    absurd h
swap_held (ListStat rate) held file front s t (Film timeline) cs rows target answer e h =
    absurd h
swap_held (ListStat rate) held file front s t (Events list) cs rows target answer e h =
    h
swap_held (ListStat rate) held file front s t (Rows said) cs rows target answer e h =
    absurd h
swap_held (ListStat rate) held file front s t (Noted noted said) cs rows target answer e h =
    absurd h
swap_held (ListStat rate) held file front s t (Commands commands) cs rows target answer e h =
    absurd h
swap_held (Pull handles) held file front s t (Value value) cs rows target answer e h =
    absurd h
swap_held (Pull handles) held file front s t (Root object) cs rows target answer e h =
    absurd h
swap_held (Pull handles) held file front s t (Film timeline) cs rows target answer e h =
    h
swap_held (Pull handles) held file front s t (Events list) cs rows target answer e h =
    absurd h
swap_held (Pull handles) held file front s t (Rows said) cs rows target answer e h =
    absurd h
swap_held (Pull handles) held file front s t (Noted noted said) cs rows target answer e h =
    absurd h
swap_held (Pull handles) held file front s t (Commands commands) cs rows target answer e h =
    absurd h
swap_held (ListPull rate handles) held file front s t (Value value) cs rows target answer e h =
    absurd h
swap_held (ListPull rate handles) held file front s t (Root object) cs rows target answer e h =
    absurd h
swap_held (ListPull rate handles) held file front s t (Film timeline) cs rows target answer e h =
    absurd h
swap_held (ListPull rate handles) held file front s t (Events list) cs rows target answer e h =
    h
swap_held (ListPull rate handles) held file front s t (Rows said) cs rows target answer e h =
    absurd h
swap_held (ListPull rate handles) held file front s t (Noted noted said) cs rows target answer e h =
    absurd h
swap_held (ListPull rate handles) held file front s t (Commands commands) cs rows target answer e
    h =
    absurd h
swap_held Edit held file [] s t (Value value) [] rows target answer e h = absurd h
swap_held Edit held file [] s t (Root object) [] rows target answer e h = absurd h
swap_held Edit held file [] s t (Film timeline) [] rows target answer e h = absurd h
swap_held Edit held file [] s t (Events list) [] rows target answer e h = absurd h
swap_held Edit held file [] s t (Rows said) [] rows target answer e h = absurd h
swap_held Edit held file [] s t (Noted noted said) [] rows target answer e h = absurd h
swap_held Edit held file [] s t (Commands commands) [] rows target answer e h = absurd h
swap_held Edit held file [] s t c (d ∷ cs) rows target answer e h = absurd e.1
swap_held Edit held file (f ∷ front) s t c [] rows target answer e h = absurd e.1
swap_held Edit held file (f ∷ front) s t (Value value) (d ∷ cs) rows target answer e h =
    absurd h
swap_held Edit held file (f ∷ front) s t (Root object) (d ∷ cs) rows target answer e h =
    absurd h
swap_held Edit held file (f ∷ front) s t (Film timeline) (Value other ∷ cs) rows target answer e
    h = absurd h
swap_held Edit held file (f ∷ front) s t (Film timeline) (Root also ∷ cs) rows target answer e
    h = absurd h
swap_held Edit held file (f ∷ front) s t (Film timeline) (Film film ∷ cs) rows target answer e
    h = absurd h
swap_held Edit held file (f ∷ front) s t (Film timeline) (Events events ∷ cs) rows target answer e
    h = absurd h
swap_held Edit held file (f ∷ front) s t (Film timeline) (Rows said ∷ cs) rows target answer e
    h = absurd h
swap_held Edit held file (f ∷ front) s t (Film timeline) (Noted noted said ∷ cs) rows target
    answer e
    h = absurd h
swap_held Edit held file (f ∷ front) s t (Film timeline) (Commands commands ∷ cs) rows target
    answer e
    h = h
swap_held Edit held file (f ∷ front) s t (Events list) (d ∷ cs) rows target answer e h =
    absurd h
swap_held Edit held file (f ∷ front) s t (Rows said) (d ∷ cs) rows target answer e h =
    absurd h
swap_held Edit held file (f ∷ front) s t (Noted noted said) (d ∷ cs) rows target answer e h =
    absurd h
swap_held Edit held file (f ∷ front) s t (Commands commands) (d ∷ cs) rows target answer e h =
    absurd h
swap_held (ListEdit rate) held file [] s t (Value value) [] rows target answer e h = absurd h
swap_held (ListEdit rate) held file [] s t (Root object) [] rows target answer e h = absurd h
swap_held (ListEdit rate) held file [] s t (Film timeline) [] rows target answer e h = absurd h
swap_held (ListEdit rate) held file [] s t (Events list) [] rows target answer e h = absurd h
swap_held (ListEdit rate) held file [] s t (Rows said) [] rows target answer e h = absurd h
swap_held (ListEdit rate) held file [] s t (Noted noted said) [] rows target answer e h = absurd h
swap_held (ListEdit rate) held file [] s t (Commands commands) [] rows target answer e h = absurd h
swap_held (ListEdit rate) held file [] s t c (d ∷ cs) rows target answer e h = absurd e.1
swap_held (ListEdit rate) held file (f ∷ front) s t c [] rows target answer e h = absurd e.1
swap_held (ListEdit rate) held file (f ∷ front) s t (Value value) (d ∷ cs) rows target answer e h =
    absurd h
swap_held (ListEdit rate) held file (f ∷ front) s t (Root object) (d ∷ cs) rows target answer e h =
    absurd h
swap_held (ListEdit rate) held file (f ∷ front) s t (Film timeline) (d ∷ cs) rows
    target answer e h =
    absurd h
swap_held (ListEdit rate) held file (f ∷ front) s t (Events list) (Value other ∷ cs) rows
    target answer e
    h = absurd h
swap_held (ListEdit rate) held file (f ∷ front) s t (Events list) (Root also ∷ cs) rows
    target answer e
    h = absurd h
swap_held (ListEdit rate) held file (f ∷ front) s t (Events list) (Film film ∷ cs) rows
    target answer e
    h = absurd h
swap_held (ListEdit rate) held file (f ∷ front) s t (Events list) (Events events ∷ cs) rows
    target answer e
    h = absurd h
swap_held (ListEdit rate) held file (f ∷ front) s t (Events list) (Rows said ∷ cs) rows
    target answer e
    h = absurd h
swap_held (ListEdit rate) held file (f ∷ front) s t (Events list) (Noted noted said ∷ cs) rows
    target answer e
    h = absurd h
swap_held (ListEdit rate) held file (f ∷ front) s t (Events list) (Commands commands ∷ cs) rows
    target answer e
    h = h
swap_held (ListEdit rate) held file (f ∷ front) s t (Rows said) (d ∷ cs) rows target answer e h =
    absurd h
swap_held (ListEdit rate) held file (f ∷ front) s t (Noted noted said) (d ∷ cs) rows target
    answer e h =
    absurd h
swap_held (ListEdit rate) held file (f ∷ front) s t (Commands commands) (d ∷ cs) rows target
    answer e h =
    absurd h
swap_held Cat held file front s t c cs rows target answer e h =
    subst (λ i. AnswersOpened (media_behind (c ∷ (cs ++ Rows rows ∷ []))) i
    (AnswersJoined (map (λ j. j.name) i) target) answer)
    (swap_inputs held (file ∷ front) s t (c ∷ cs) rows e) h
swap_held (ListCat rate) held file front s t c cs rows target answer e h =
    subst (λ i. AnswersOpened (media_behind (c ∷ (cs ++ Rows rows ∷ []))) i
    (AnswersJoined (map (λ j. j.name) i) target) answer)
    (swap_inputs held (file ∷ front) s t (c ∷ cs) rows e) h
swap_held (Tool asked) held file front s t c cs rows target answer e h =
    subst (λ i. AnswersOpened (media_behind (c ∷ (cs ++ Rows rows ∷ []))) i
    (AnswersTool asked (map (λ j. j.name) i) target) answer)
    (swap_inputs held (file ∷ front) s t (c ∷ cs) rows e) h
swap_held (ListTool rate asked) held file front s t c cs rows target answer e h =
    subst (λ i. AnswersOpened (media_behind (c ∷ (cs ++ Rows rows ∷ []))) i
    (AnswersTool asked (map (λ j. j.name) i) target) answer)
    (swap_inputs held (file ∷ front) s t (c ∷ cs) rows e) h

swap_judged : (command : Command) (held : Held) (file : Source) (front : List Source)
    (s t : Source) (cs : List Content) (rows : List MediaRow) (target : Option (List ℕ))
    (answer : Answer) → AreRead held (file ∷ front) cs
    → AnswersHeld command (file ∷ (front ++ s ∷ [])) target (cs ++ Rows rows ∷ []) answer
    → AnswersHeld command (file ∷ (front ++ t ∷ [])) target (cs ++ Rows rows ∷ []) answer
swap_judged command held file front s t [] rows target answer e h = absurd e
swap_judged command held file front s t (c ∷ cs) rows target answer e h =
    swap_held command held file front s t c cs rows target answer e h

-- what is asked of these files
abbrev asked_of : Command → List Source → Option (List ℕ) → Asked
asked_of command files target = record { command = command; files = files; target = target }

swap_files : (command : Command) (held : Held) (file : Source) (front : List Source)
    (s t : Source) (rows : List MediaRow) (target : Option (List ℕ)) (answer : Answer)
    → IsRead held s (Rows rows) → ((c : Content) → IsRead held s c → c ≡ Rows rows)
    → IsRead held t (Rows rows)
    → AnswersAsked (asked_of command (file ∷ (front ++ s ∷ [])) target) held answer
    → AnswersAsked (asked_of command (file ∷ (front ++ t ∷ [])) target) held answer
swap_files command held file front s t rows target answer r only u (Unread p) =
    Unread (swap_first held (file ∷ front) s t (Rows rows) answer r p)
swap_files command held file front s t rows target answer r only u (Judged contents p h) =
    let v = last_read held (file ∷ front) s contents p in
    let same : contents ≡ v.0 ++ Rows rows ∷ [] = v.2 ∙ ap (λ c. v.0 ++ c ∷ []) (only v.1 v.4) in
    Judged (v.0 ++ Rows rows ∷ []) (each_more (IsRead held) (file ∷ front) v.0 t (Rows rows) v.3 u)
    (swap_judged command held file front s t v.0 rows target answer v.3
    (subst (λ z. AnswersHeld command (file ∷ (front ++ s ∷ [])) target z answer) same h))

-- the files that are read before the media list
abbrev before_media : Command → OtherNames → List Source
before_media command others =
    cond (takes_several command) (map (input_named command) others.more) []
    ++ script_source others.script

with_last : (command : Command) (name : List ℕ) (others : OtherNames) (list : List ℕ)
    → files_of command name (with_media others list)
    ≡ input_named command name
    ∷ (before_media command others ++ read_as list (media_kind list) ∷ [])
with_last command name others list =
    ap (λ l. input_named command name ∷ l)
    (sym (append_assoc (cond (takes_several command) (map (input_named command) others.more) [])
    (script_source others.script) (media_source (Some list))))

swap_asked : (command : Command) (held : Held) (name : List ℕ) (others : OtherNames)
    (list other : List ℕ) (rows : List MediaRow) (target : Option (List ℕ)) (answer : Answer)
    → HoldsRows held (Some list) (Some rows) → HoldsRows held (Some other) (Some rows)
    → AnswersAsked (asked_for command name (with_media others list) target) held answer
    → AnswersAsked (asked_for command name (with_media others other) target) held answer
swap_asked command held name others list other rows target answer h k a =
    subst (λ files. AnswersAsked (asked_of command files target) held answer)
    (sym (with_last command name others other))
    (swap_files command held (input_named command name) (before_media command others)
    (read_as list (media_kind list)) (read_as other (media_kind other)) rows target answer
    (reads_rows held list rows h) (λ c r. only_rows held list rows c h r)
    (reads_rows held other rows k)
    (subst (λ files. AnswersAsked (asked_of command files target) held answer)
    (with_last command name others list) a))

-- words that are alike have the same answers
pub same_answer : (words swapped : List (List ℕ)) (held : Held) (answer : Answer)
    → AreAlike held words swapped → Answers words held answer → Answers swapped held answer
same_answer words swapped held answer k (NoCommand h e) =
    absurd (h.no_command k.command k.name (with_media k.others k.list) k.target k.ask)
same_answer words swapped held answer k (ByDrill seed count aim w l) =
    absurd (never_drill words k.command k.name (with_media k.others k.list) seed count k.target aim
    k.ask w)
same_answer words swapped held answer k (OnFiles asked w l) =
    let first = asked_for k.command k.name (with_media k.others k.list) k.target in
    let same = asks_once words asked first w
    (asks_for words k.command k.name (with_media k.others k.list) k.target k.ask) in
    OnFiles (asked_for k.command k.name (with_media k.others k.other) k.target)
    (asks_for swapped k.command k.name (with_media k.others k.other) k.target k.also)
    (swap_asked k.command held k.name k.others k.list k.other k.rows k.target answer k.holds k.too
    (subst (λ (x : Asked). AnswersAsked x held answer) same l))
