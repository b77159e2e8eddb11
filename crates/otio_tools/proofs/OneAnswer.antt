-- There is one answer, and without faults of devices it is given.
use Rattle.std.proofs.Common.{◌≡◌, ◌||◌, ◌++◌, ℕ, Bool, Option, List, [], ◌∷◌, Some, None, true, false, cond, length, refl, sym, ap, subst, ◌∙◌, IfSome, inl, inr}
use Rattle.std.specs.Global.{Vec}
use Rattle.dev_io.specs.Known.{KnownFiles}
use Rattle.dev_io.specs.Calls.{Tells}
use Rattle.json_text.proofs.OneText.{text_once}
use Rattle.json_text.specs.Layout.{layout}
use Rattle.tick_time.specs.declared.rates.Rate.{Rate}
use Rattle.edl_list.specs.declared.list.EventList.{EventList}
use Rattle.edl_text.specs.Spelling.{spelling}
use Rattle.edl_text.proofs.OneList.{one_list}
use Rattle.note_text.specs.Belonging.{below_day}
use Rattle.note_text.specs.NotedSpelling.{noted_spelling}
use Rattle.note_text.specs.declared.notes.Note.{Note}
use Rattle.edl_law.proofs.FormedReadings.{read_is_formed}
use Rattle.otio_model.specs.declared.timelines.Timeline.{Timeline}
use Rattle.otio_model.specs.Timelines.{bare}
use Rattle.schema_write.specs.Objects.{json_of, old_json_of}
use Rattle.schema_up.specs.Upgrades.{upgraded}
use Rattle.otio_model.specs.declared.objects.Object.{Object, Timeline as ObjectOfTimeline}
use Rattle.object_law.proofs.OneOldFault.{SamePlaces, one_old_fault, no_old_fault, same_places, bare_places}
use Rattle.source_files.specs.Faults.{family_fault_text}
use Rattle.otio_tools.specs.Objects.{AnswersObject, NoForm, Older}
use Rattle.coord.proofs.OneFault.{same_fault, no_fault_of}
use Rattle.coord.proofs.SpareLemmas.{faultless_bare, fault_bare}
use Rattle.source_files.specs.Faults.{coord_fault_text, conform_fault_text}
use Rattle.show_prog.specs.Rows.{listing_of, listing_text}
use Rattle.show_prog.specs.declared.frame_range.Listing.{Listing}
use Rattle.show_prog.proofs.SpareLemmas.{listing_bare, text_bare}
use Rattle.source_files.specs.Formats.{Holds, Refuses}
use Rattle.source_files.specs.Reading.{Held, Source, IsRead, AreRead, read_as}
use Rattle.source_files.specs.Kinds as kinds
use Rattle.source_files.specs.Contents.{Content, Film, Events, Rows, Commands}
use Rattle.source_files.proofs.Order.{first_once, each_or_first}
use Rattle.command_words.specs.declared.requests.Command.{Command}
use Rattle.command_words.specs.declared.requests.Command.TheVariants.{ListToList, ListToObjects, TimelineToList, ToObjects, ToJson, Frames, ListFrames, Edit, ListEdit}
use Rattle.command_words.specs.declared.requests.Command.TheVariants.{Cat, ListCat, Stat, ListStat, Tool, ListTool, Pull, ListPull, LogToMedia}
use Rattle.command_words.specs.Asked.{OtherNames}
use Rattle.command_words.specs.Drills.{AsksDrill}
use Rattle.command_words.proofs.Drilling.{drill_once as drill_asked_once, not_both as never_drill}
use Rattle.drill.proofs.OneTally.{one_tally}
use Rattle.drill.specs.Lines.{tally_text}
use Rattle.drill.specs.declared.tally.Tally.{Tally}
use Rattle.undo_log.specs.States.{State}
use Rattle.edit_script.specs.declared.commands.ScriptCommand as script
use Rattle.edit_script.proofs.Once.{script_once}
use Rattle.edit_script.specs.Runs.{Runs, Halts}
use Rattle.edit_script.proofs.Outcomes.{one_state, one_halt, never_both}
use Rattle.command_words.specs.declared.requests.FramesAsked.{FramesAsked}
use Rattle.ale_text.proofs.OneOutcome.{log_once}
use Rattle.media_text.specs.Texts.{media_text}
use Rattle.media_rows.specs.Rows.{MediaRows}
use Rattle.edl_law.proofs.OneTimeline.{one_timeline}
use Rattle.otio_tools.proofs.OneCarried.{carried_once}
use Rattle.otio_tools.proofs.OneEvents.{events_once}
use Rattle.otio_tools.proofs.OneNoted.{noted_answer_once, same_notes}
use Rattle.otio_tools.proofs.OnePulled.{pulled_once}
use Rattle.edl_law.proofs.OneFault.{one_fault as one_conform_fault, no_fault as no_conform_fault}
use Rattle.otio_tools.specs.Asked.{Asked, Asks, asked_alone, asked_for, files_alone, files_of, is_log, kind_of, media_source, script_source, takes_several}
use Rattle.otio_tools.specs.Edited.{command_fault_text, AnswersEdited, Faulted, Halted, Edited}
use Rattle.script_law.specs.Shown.{opened}
use Rattle.otio_tools.specs.Forms.{Answer, done, refused}
use Rattle.otio_tools.specs.Frames.{AnswersTimeline, Unsound, NoLabel, Listed}
use Rattle.otio_tools.specs.Events.{AnswersEvents}
use Rattle.otio_tools.specs.Carried.{AnswersCarried}
use Rattle.otio_tools.specs.Pulled.{AnswersPull}
use Rattle.otio_tools.specs.Conformed.{media_in, AnswersConformed, NotConformed, Conformed}
use Rattle.otio_tools.specs.Tools.{AnswersCounted, Counted, Uncounted, counts_alone}
use Rattle.otio_tools.proofs.OneText.{same_json, same_old_json, same_listings}
use Rattle.otio_tools.specs.Written.{AnswersNoted, AnswersWritten, timeline_text}
use Rattle.otio_tools.specs.Answer.{Answers, NoCommand, OnFiles, ByDrill, AnswersDrill, AnswersHeld, AnswersUnread, Gone, Faulty, AnswersAsked, Unread, Judged}
use Rattle.otio_tools.specs.Ends.{Completes, Ends, Gives}
use Rattle.otio_tools.specs.Run.{Streams}
use Rattle.otio_tools.specs.declared.Status.{Status}
use Rattle.otio_tools.specs.declared.Status.TheVariants.{Done, Usage, Refused, Input, Output, Memory}
use Rattle.otio_tools.proofs.RunEnds.{asks_once, whole}
use Rattle.otio_tools.proofs.HeldContents.{gone_or_there, there_once, value_held, object_held, timeline_held, list_held, noted_held, log_held, rows_held_as, same_rows_as, script_held}
use Rattle.otio_tools.proofs.OneSeveral.{cat_once, worked_once}
use Rattle.otio_tools.proofs.Formats.{reason_once, held_or_refused, object_json_once, old_json_once, stands_too, bare_json, bare_old_json, timeline_bare_once}

-- a start is a label of the record rate or none
label_or_none : (asked : FramesAsked) (t u : Timeline) (listing : Listing) → bare t ≡ bare u
    → listing_of t asked.child asked.start asked.count ≡ None
    → listing_of u asked.child asked.start asked.count ≡ Some listing → ⊥
label_or_none asked t u listing same p q = let e =
    sym p ∙ listing_bare t u asked.child asked.start asked.count same ∙ q in cc

-- a timeline whose frames are asked for has at most one answer, whatever memory it has to spare
timeline_once : (asked : FramesAsked) (name : List ℕ) (target : Option (List ℕ)) (t u : Timeline)
    (a b : Answer) → bare t ≡ bare u
    → AnswersTimeline asked name target t a → AnswersTimeline asked name target u b → a ≡ b
timeline_once asked name target t u a b same (Unsound f n p e) (Unsound g m q h) =
    e ∙ ap (λ fault. refused name (coord_fault_text fault))
    (same_fault t f g n m p (fault_bare u t g (sym same) q)) ∙ sym h
timeline_once asked name target t u a b same (Unsound f n p e) (NoLabel s q h) =
    absurd (no_fault_of t f (faultless_bare u t (sym same) s) p)
timeline_once asked name target t u a b same (Unsound f n p e) (Listed s l q h) =
    absurd (no_fault_of t f (faultless_bare u t (sym same) s) p)
timeline_once asked name target t u a b same (NoLabel s p e) (Unsound g m q h) =
    absurd (no_fault_of u g (faultless_bare t u same s) q)
timeline_once asked name target t u a b same (NoLabel s p e) (NoLabel r q h) = e ∙ sym h
timeline_once asked name target t u a b same (NoLabel s p e) (Listed r l q h) =
    absurd (label_or_none asked t u l same p q)
timeline_once asked name target t u a b same (Listed s l p e) (Unsound g m q h) =
    absurd (no_fault_of u g (faultless_bare t u same s) q)
timeline_once asked name target t u a b same (Listed s l p e) (NoLabel r q h) =
    absurd (label_or_none asked u t l (sym same) q p)
timeline_once asked name target t u a b same (Listed s l p e) (Listed r k q h) =
    let both : Some l ≡ Some k = sym p ∙ listing_bare t u asked.child asked.start asked.count same
    ∙ q in
    let listing : l ≡ k = cc in
    e ∙ ap (λ x. done target (listing_text t x)) listing
    ∙ ap (λ (text : List ℕ). done target text) (text_bare t u k same) ∙ sym h

-- a file that isn't read has at most one answer
unread_once : (held : Held) (file : Source) (a b : Answer) → AnswersUnread held file a
    → AnswersUnread held file b → a ≡ b
unread_once held file a b (Gone p e) (Gone q f) = e ∙ sym f
unread_once held file a b (Gone p e) (Faulty why q f) =
    absurd (gone_or_there q.0 (held file.name) p q.1)
unread_once held file a b (Faulty why p e) (Gone q f) =
    absurd (gone_or_there p.0 (held file.name) q p.1)
unread_once held file a b (Faulty why p e) (Faulty also q f) =
    let same = there_once q.0 p.0 (held file.name) q.1 p.1 in
    e ∙ ap (refused file.name) (reason_once file.kind p.0 why also p.2
    (subst (λ x. Refuses file.kind x also) same q.2)) ∙ sym f

-- a file that is read has none of these
pub read_or_unread : (held : Held) (file : Source) (content : Content) (a : Answer)
    → IsRead held file content → AnswersUnread held file a → ⊥
read_or_unread held file content a is (Gone p e) =
    gone_or_there is.bytes (held file.name) p is.there
read_or_unread held file content a is (Faulty why p e) =
    held_or_refused file.kind is.bytes why content is.holds
    (subst (λ x. Refuses file.kind x why)
    (there_once p.0 is.bytes (held file.name) p.1 is.there) p.2)

-- what a file holds, and what those after it do
pub record Reads (held : Held) (file : Source) (files : List Source)
    (contents : List Content) : Type 0 where
  pub content : Content
  pub more : List Content
  pub are : contents ≡ content ∷ more
  pub first : IsRead held file content
  pub others : AreRead held files more

pub first_read : (held : Held) (file : Source) (files : List Source) (contents : List Content)
    → AreRead held (file ∷ files) contents → Reads held file files contents
first_read held file files [] h = absurd h
first_read held file files (content ∷ more) h =
    record { content = content; more = more; are = refl; first = h.0; others = h.1 }

-- a media list that is read is one
rows_once : (held : Held) (file : Source) (log : Bool) (c d : Content)
    → file.kind ≡ cond log kinds.Log kinds.Media
    → IsRead held file c → IsRead held file d → c ≡ d
rows_once held file log c d k p q =
    let same = there_once q.bytes p.bytes (held file.name) q.there p.there in
    let v = rows_held_as log p.bytes c (subst (λ x. Holds x p.bytes c) k p.holds) in
    let w = rows_held_as log p.bytes d (subst (λ x. Holds (cond log kinds.Log kinds.Media) x d) same
    (subst (λ x. Holds x q.bytes d) k q.holds)) in
    v.1 ∙ ap Rows (same_rows_as log p.bytes v.0 w.0 v.2 w.2) ∙ sym w.1

media_once : (held : Held) (media : Option (List ℕ)) (m n : List Content)
    → AreRead held (media_source media) m → AreRead held (media_source media) n
    → media_in m ≡ media_in n
media_once held None [] [] p q = refl
media_once held None [] (d ∷ n) p q = absurd q
media_once held None (c ∷ m) n p q = absurd p
media_once held (Some name) [] n p q = absurd p
media_once held (Some name) (c ∷ m) [] p q = absurd q
media_once held (Some name) (c ∷ x ∷ m) n p q = absurd p.1
media_once held (Some name) (c ∷ []) (d ∷ x ∷ n) p q = absurd q.1
media_once held (Some name) (c ∷ []) (d ∷ []) p q =
    ap (λ x. media_in (x ∷ [])) (rows_once held _ (is_log name) c d refl p.0 q.0)

-- a script that is read is one
commands_once : (held : Held) (name : List ℕ) (c d : Content)
    → IsRead held (read_as name kinds.Script) c → IsRead held (read_as name kinds.Script) d
    → (v : Vec script.ScriptCommand) × (w : Vec script.ScriptCommand) × (c ≡ Commands v) × (d ≡ Commands w)
    × (w.items ≡ v.items)
commands_once held name c d p q =
    let same = there_once q.bytes p.bytes (held name) q.there p.there in
    let v = script_held p.bytes c p.holds in
    let w = script_held p.bytes d (subst (λ x. Holds kinds.Script x d) same q.holds) in
    (v.0, w.0, v.1, w.1, script_once p.bytes w.0.items v.0.items w.2 v.2)

-- what is read after a file has one media list at its front, or none
front_once : (held : Held) (script media : Option (List ℕ)) (m n : List Content)
    → AreRead held (script_source script ++ media_source media) m
    → AreRead held (script_source script ++ media_source media) n → media_in m ≡ media_in n
front_once held None media m n p q = media_once held media m n p q
front_once held (Some name) media [] n p q = absurd p
front_once held (Some name) media (c ∷ m) [] p q = absurd q
front_once held (Some name) media (c ∷ m) (d ∷ n) p q =
    let k = commands_once held name c d p.0 q.0 in
    ap (λ x. media_in (x ∷ m)) k.2 ∙ sym (ap (λ x. media_in (x ∷ n)) k.3)

state_at : Timeline → State
state_at x = record { before = []; now = x; after = [] }

same_opened : (t u : Timeline) → bare t ≡ bare u → opened t ≡ opened u
unfolding state_at
same_opened t u e = ap state_at e

-- a timeline that a script is run on has at most one answer, whatever memory it has to spare
edited_once : (name called : List ℕ) (commands : List script.ScriptCommand) (media : MediaRows)
    (target : Option (List ℕ)) (t u : Timeline) (a b : Answer) → bare t ≡ bare u
    → AnswersEdited name called commands media target t a
    → AnswersEdited name called commands media target u b → a ≡ b
edited_once name called commands media target t u a b same (Faulted f n p e) (Faulted g m q h) =
    e ∙ ap (λ fault. refused name (coord_fault_text fault))
    (same_fault t f g n m p (fault_bare u t g (sym same) q)) ∙ sym h
edited_once name called commands media target t u a b same (Faulted f n p e) (Halted s r g q h) =
    absurd (no_fault_of t f (faultless_bare u t (sym same) s) p)
edited_once name called commands media target t u a b same (Faulted f n p e) (Edited s r q h) =
    absurd (no_fault_of t f (faultless_bare u t (sym same) s) p)
edited_once name called commands media target t u a b same (Halted s r f p e) (Faulted g m q h) =
    absurd (no_fault_of u g (faultless_bare t u same s) q)
edited_once name called commands media target t u a b same (Edited s r p e) (Faulted g m q h) =
    absurd (no_fault_of u g (faultless_bare t u same s) q)
edited_once name called commands media target t u a b same (Halted s r f p e) (Halted z o g q h) =
    let k = subst (λ x. Halts media commands x o g) (sym (same_opened t u same)) q in
    e ∙ ap (λ fault. refused called (command_fault_text fault))
    (one_halt media commands (opened t) r o f g p k) ∙ sym h
edited_once name called commands media target t u a b same (Halted s r f p e) (Edited z o q h) =
    absurd (never_both media commands (opened t) o r f
    (subst (λ x. Runs media commands (length commands) x o) (sym (same_opened t u same)) q) p)
edited_once name called commands media target t u a b same (Edited s r p e) (Halted z o g q h) =
    absurd (never_both media commands (opened t) r o g p
    (subst (λ x. Halts media commands x o g) (sym (same_opened t u same)) q))
edited_once name called commands media target t u a b same (Edited s r p e) (Edited z o q h) =
    let k = subst (λ x. Runs media commands (length commands) x o) (sym (same_opened t u same)) q in
    e ∙ ap (λ (x : State). done target (timeline_text x.now))
    (one_state media commands (length commands) (opened t) r o p k) ∙ sym h

-- a timeline that is written has at most one answer, whatever memory it has to spare
written_once : (target : Option (List ℕ)) (t u : Timeline) (a b : Answer) → bare t ≡ bare u
    → AnswersWritten target t a → AnswersWritten target u b → a ≡ b
written_once target t u a b same e f =
    e ∙ ap (λ json. done target (layout json)) (same_json _ _ (bare_json t u same)) ∙ sym f

-- an object that is written has at most one answer
object_once : (older : Bool) (name : List ℕ) (target : Option (List ℕ)) (v w : Object)
    (a b : Answer) → json_of v ≡ json_of w → old_json_of v ≡ old_json_of w → SamePlaces v w
    → AnswersObject older name target v a → AnswersObject older name target w b → a ≡ b
object_once false name target v w a b new old places x y =
    x ∙ ap (λ json. done target (layout json)) (same_json v w new) ∙ sym y
object_once true name target v w a b new old places (NoForm f n p e) (NoForm g m q h) =
    e ∙ ap (λ fault. refused name (family_fault_text fault)) (one_old_fault v w f g places n m p q)
    ∙ sym h
object_once true name target v w a b new old places (NoForm f n p e) (Older free h) =
    absurd (no_old_fault w v f (λ place. sym (places place)) n free p)
object_once true name target v w a b new old places (Older free e) (NoForm g m q h) =
    absurd (no_old_fault v w g places m free q)
object_once true name target v w a b new old places (Older free e) (Older also h) =
    e ∙ ap (λ json. done target (layout json)) (same_old_json v w old) ∙ sym h

-- and so has a timeline, whatever memory it has to spare
timeline_object_once : (older : Bool) (name : List ℕ) (target : Option (List ℕ)) (t u : Timeline)
    (a b : Answer) → bare t ≡ bare u → AnswersObject older name target (ObjectOfTimeline t) a
    → AnswersObject older name target (ObjectOfTimeline u) b → a ≡ b
timeline_object_once older name target t u a b same x y =
    object_once older name target (ObjectOfTimeline t) (ObjectOfTimeline u) a b
    (bare_json t u same) (bare_old_json t u same) (bare_places t u same) x y

-- a timeline that is counted has at most one answer, whatever memory it has to spare
counted_once : (name : List ℕ) (target : Option (List ℕ)) (t u : Timeline) (a b : Answer)
    → bare t ≡ bare u → AnswersCounted name target t a → AnswersCounted name target u b → a ≡ b
counted_once name target t u a b same (Uncounted f n p e) (Uncounted g m q h) =
    e ∙ ap (λ fault. refused name (coord_fault_text fault))
    (same_fault t f g n m p (fault_bare u t g (sym same) q)) ∙ sym h
counted_once name target t u a b same (Uncounted f n p e) (Counted s h) =
    absurd (no_fault_of t f (faultless_bare u t (sym same) s) p)
counted_once name target t u a b same (Counted s e) (Uncounted g m q h) =
    absurd (no_fault_of u g (faultless_bare t u same s) q)
counted_once name target t u a b same (Counted s e) (Counted r h) =
    e ∙ ap (done target) (same_listings t u counts_alone same) ∙ sym h

-- a list that is conformed has at most one answer, where its timeline has
conformed_once : (name : List ℕ) (list : EventList) (media : MediaRows)
    (Is : Timeline → Answer → Type 0)
    → ((t u : Timeline) (a b : Answer) → bare t ≡ bare u → Is t a → Is u b → a ≡ b)
    → (a b : Answer) → AnswersConformed name list media Is a
    → AnswersConformed name list media Is b → a ≡ b
conformed_once name list media Is once a b (NotConformed f n p e) (NotConformed g m q h) =
    e ∙ ap (λ fault. refused name (conform_fault_text fault))
    (one_conform_fault list media f g p q n m) ∙ sym h
conformed_once name list media Is once a b (NotConformed f n p e) (Conformed u q acc few h) =
    absurd (no_conform_fault list media f p n acc few)
conformed_once name list media Is once a b (Conformed t p acc few e) (NotConformed g m q h) =
    absurd (no_conform_fault list media g q m acc few)
conformed_once name list media Is once a b (Conformed t p acc few e) (Conformed u q bcc low h) =
    once t u a b (one_timeline list media t u p q) e h

-- the answer to what a list and a media list conform to, over the same ones
conformed_as : (name : List ℕ) (list other : EventList) (media rows : MediaRows)
    (Is : Timeline → Answer → Type 0) (answer : Answer) → other ≡ list → rows ≡ media
    → AnswersConformed name other rows Is answer → AnswersConformed name list media Is answer
conformed_as name list other media rows Is answer e f h =
    subst (λ l. AnswersConformed name l media Is answer) e
    (subst (λ r. AnswersConformed name other r Is answer) f h)

-- the names of a script and of a media list
abbrev names_behind : (script media : Option (List ℕ)) → OtherNames
names_behind script media = record { more = []; script = script; media = media }

-- what is held as a content that is known
abbrev Answered : Command → List ℕ → OtherNames → Option (List ℕ) → List Content → Answer
    → Content → Type 0
Answered command name others target more answer content =
    AnswersHeld command (files_alone command name others.script others.media) target
    (content ∷ more) answer

-- a timeline, a script and a media list have at most one answer
edit_once : (name : List ℕ) (called media target : Option (List ℕ)) (held : Held)
    (t u : Timeline) (m n : List Content) (a b : Answer) → bare t ≡ bare u
    → AreRead held (script_source called ++ media_source media) m
    → AreRead held (script_source called ++ media_source media) n
    → Answered Edit name (names_behind called media) target m a (Film t)
    → Answered Edit name (names_behind called media) target n b (Film u) → a ≡ b
edit_once name None None target held t u m n a b same p q x y = absurd x
edit_once name None (Some l) target held t u [] n a b same p q x y = absurd x
edit_once name None (Some l) target held t u (c ∷ m) n a b same p q x y =
    let v = rows_held_as (is_log l) p.0.bytes c p.0.holds in
    absurd (subst (λ z. Answered Edit name (names_behind None (Some l)) target
    (z ∷ m) a (Film t)) v.1 x)
edit_once name (Some s) media target held t u [] n a b same p q x y = absurd p
edit_once name (Some s) media target held t u (c ∷ m) [] a b same p q x y = absurd q
edit_once name (Some s) media target held t u (c ∷ m) (d ∷ n) a b same p q x y =
    let k = commands_once held s c d p.0 q.0 in
    let o : OtherNames = names_behind (Some s) media in
    let first : AnswersEdited name s k.0.items (media_in m) target t a =
    subst (λ z. Answered Edit name o target (z ∷ m) a (Film t)) k.2 x in
    let second : AnswersEdited name s k.1.items (media_in n) target u b =
    subst (λ z. Answered Edit name o target (z ∷ n) b (Film u)) k.3 y in
    edited_once name s k.0.items (media_in m) target t u a b same first
    (subst (λ r. AnswersEdited name s k.0.items r target u b)
    (sym (media_once held media m n p.1 q.1))
    (subst (λ z. AnswersEdited name s z (media_in n) target u b) k.4 second))

-- a list, a script and a media list have at most one answer
list_edit_once : (rate : Rate) (name : List ℕ) (called media target : Option (List ℕ)) (held : Held)
    (list : EventList) (m n : List Content) (a b : Answer)
    → AreRead held (script_source called ++ media_source media) m
    → AreRead held (script_source called ++ media_source media) n
    → Answered (ListEdit rate) name (names_behind called media) target m a
    (Events list)
    → Answered (ListEdit rate) name (names_behind called media) target n b
    (Events list) → a ≡ b
list_edit_once rate name None None target held list m n a b p q x y = absurd x
list_edit_once rate name None (Some l) target held list [] n a b p q x y = absurd x
list_edit_once rate name None (Some l) target held list (c ∷ m) n a b p q x y =
    let v = rows_held_as (is_log l) p.0.bytes c p.0.holds in
    absurd (subst (λ z. Answered (ListEdit rate) name (names_behind None (Some l))
    target (z ∷ m) a (Events list)) v.1 x)
list_edit_once rate name (Some s) media target held list [] n a b p q x y = absurd p
list_edit_once rate name (Some s) media target held list (c ∷ m) [] a b p q x y = absurd q
list_edit_once rate name (Some s) media target held list (c ∷ m) (d ∷ n) a b p q x y =
    let k = commands_once held s c d p.0 q.0 in
    let o : OtherNames = names_behind (Some s) media in
    let rows = media_once held media m n p.1 q.1 in
    let first : AnswersConformed name list (media_in m)
    (AnswersEdited name s k.0.items (media_in m) target) a =
    subst (λ z. Answered (ListEdit rate) name o target (z ∷ m) a (Events list)) k.2 x in
    let second : AnswersConformed name list (media_in n)
    (AnswersEdited name s k.1.items (media_in n) target) b =
    subst (λ z. Answered (ListEdit rate) name o target (z ∷ n) b (Events list)) k.3 y in
    conformed_once name list (media_in m) (AnswersEdited name s k.0.items (media_in m) target)
    (edited_once name s k.0.items (media_in m) target) a b first
    (subst (λ r. AnswersConformed name list r (AnswersEdited name s k.0.items r target) b)
    (sym rows) (subst (λ z. AnswersConformed name list (media_in n)
    (AnswersEdited name s z (media_in n) target) b) k.4 second))

-- what the same bytes hold, with the same media list, has at most one answer
content_once : (command : Command) (name bytes : List ℕ) (others : OtherNames)
    (target : Option (List ℕ)) (held : Held) (c d : Content) (m n : List Content) (a b : Answer)
    → takes_several command ≡ false → Holds (kind_of command) bytes c
    → Holds (kind_of command) bytes d
    → AreRead held (script_source others.script ++ media_source others.media) m
    → AreRead held (script_source others.script ++ media_source others.media) n
    → Answered command name others target m a c → Answered command name others target n b d → a ≡ b
content_once ToJson name bytes others target held c d m n a b alone p q r s x y =
    let v = value_held bytes c p in
    let w = value_held bytes d q in
    let first = subst (Answered ToJson name others target m a) v.1 x in
    let second = subst (Answered ToJson name others target n b) w.1 y in
    first ∙ ap (λ value. done target (layout value)) (text_once bytes v.0 w.0 v.2.text w.2.text)
    ∙ sym second
content_once LogToMedia name bytes others target held c d m n a b alone p q r s x y =
    let v = log_held bytes c p in
    let w = log_held bytes d q in
    let first = subst (Answered LogToMedia name others target m a) v.1 x in
    let second = subst (Answered LogToMedia name others target n b) w.1 y in
    first ∙ ap (λ rows. done target (media_text rows)) (log_once bytes v.0 w.0 v.2 w.2)
    ∙ sym second
content_once (ToObjects older) name bytes others target held c d m n a b alone p q r s x y =
    let v = object_held bytes c p in
    let w = object_held bytes d q in
    let first = subst (Answered (ToObjects older) name others target m a) v.1 x in
    let second = subst (Answered (ToObjects older) name others target n b) w.1 y in
    object_once older name target v.0 w.0 a b (object_json_once bytes v.0 w.0 v.2 w.2)
    (old_json_once bytes v.0 w.0 v.2 w.2)
    (same_places (upgraded v.2.value) v.0 w.0 v.2.stands (stands_too bytes v.0 w.0 v.2 w.2))
    first second
content_once (ListToList rate drop wide false) name bytes others target held c d m n a b alone p q r
    s x y =
    let command = ListToList rate drop wide false in
    let v = list_held rate bytes c p in
    let w = list_held rate bytes d q in
    let first = subst (Answered command name others target m a) v.1 x in
    let second = subst (Answered command name others target n b) w.1 y in
    let same : w.0 ≡ v.0 = one_list rate bytes w.0 v.0 w.2 v.2 in
    events_once name target v.0 (drop || v.0.drop) wide (spelling v.0 (drop || v.0.drop) wide) a b
    first (subst (λ (l : EventList). AnswersEvents name target l (drop || l.drop) wide
    (spelling l (drop || l.drop) wide) b) same second)
content_once (ListToList rate drop wide true) name bytes others target held c d m n a b alone p q r
    s x y =
    let command = ListToList rate drop wide true in
    let v = noted_held rate bytes c p in
    let w = noted_held rate bytes d q in
    let first = subst (Answered command name others target m a) v.2 x in
    let second = subst (Answered command name others target n b) w.2 y in
    let same : w.0 ≡ v.0 = one_list rate bytes w.0 v.0 w.3.is v.3.is in
    let notes : w.1 ≡ v.1 = same_notes rate bytes w.0 v.0 w.1 v.1 same w.3 v.3 in
    events_once name target v.0 (drop || v.0.drop) wide
    (noted_spelling v.0 (below_day v.0.rate (drop || v.0.drop) v.1) (drop || v.0.drop) wide) a b
    first (subst (λ (l : EventList). AnswersEvents name target l (drop || l.drop) wide
    (noted_spelling l (below_day l.rate (drop || l.drop) v.1) (drop || l.drop) wide) b) same
    (subst (λ (k : List Note). AnswersEvents name target w.0 (drop || w.0.drop) wide
    (noted_spelling w.0 (below_day w.0.rate (drop || w.0.drop) k) (drop || w.0.drop) wide) b) notes
    second))
content_once (TimelineToList drop wide notes) name bytes others target held c d m n a b alone p q
    r s x
    y =
    let rows = front_once held others.script others.media m n r s in
    let v = timeline_held bytes c p in
    let w = timeline_held bytes d q in
    let first = subst (Answered (TimelineToList drop wide notes) name others target m a) v.1 x in
    let second = subst (Answered (TimelineToList drop wide notes) name others target n b) w.1 y in
    carried_once notes drop wide name (media_in m) target v.0 w.0 a b
    (timeline_bare_once bytes v.0 w.0 v.2 w.2) first
    (subst (λ r. AnswersCarried notes drop wide name r target w.0 b) (sym rows) second)
content_once (ListToObjects rate older false) name bytes others target held c d m n a b alone p q
    r s
    x y =
    let rows = front_once held others.script others.media m n r s in
    let v = list_held rate bytes c p in
    let w = list_held rate bytes d q in
    let first = subst (Answered (ListToObjects rate older false) name others target m a) v.1 x in
    let second = subst (Answered (ListToObjects rate older false) name others target n b) w.1 y in
    conformed_once name v.0 (media_in m)
    (λ t. AnswersObject older name target (ObjectOfTimeline t))
    (timeline_object_once older name target) a b first
    (conformed_as name v.0 w.0 (media_in m) (media_in n)
    (λ t. AnswersObject older name target (ObjectOfTimeline t)) b
    (one_list rate bytes w.0 v.0 w.2 v.2) (sym rows) second)
content_once (ListToObjects rate older true) name bytes others target held c d m n a b alone p q r s
    x y =
    let command = ListToObjects rate older true in
    let Is = λ (t : Timeline). AnswersObject older name target (ObjectOfTimeline t) in
    let rows = front_once held others.script others.media m n r s in
    let v = noted_held rate bytes c p in
    let w = noted_held rate bytes d q in
    let first = subst (Answered command name others target m a) v.2 x in
    let second = subst (Answered command name others target n b) w.2 y in
    let same : w.0 ≡ v.0 = one_list rate bytes w.0 v.0 w.3.is v.3.is in
    let notes : w.1 ≡ v.1 = same_notes rate bytes w.0 v.0 w.1 v.1 same w.3 v.3 in
    conformed_once name v.0 (media_in m) (AnswersNoted v.0 v.1 Is)
    (noted_answer_once v.0 v.1 Is (timeline_object_once older name target)
    (read_is_formed rate bytes v.0 v.3.is)) a b first
    (conformed_as name v.0 w.0 (media_in m) (media_in n) (AnswersNoted v.0 v.1 Is) b same (sym rows)
    (subst (λ (k : List Note). AnswersConformed name w.0 (media_in n) (AnswersNoted v.0 k Is) b)
    notes (subst (λ (l : EventList). AnswersConformed name w.0 (media_in n)
    (AnswersNoted l w.1 Is) b) same second)))
content_once (Frames asked) name bytes others target held c d m n a b alone p q r s x y =
    let v = timeline_held bytes c p in
    let w = timeline_held bytes d q in
    let first = subst (Answered (Frames asked) name others target m a) v.1 x in
    let second = subst (Answered (Frames asked) name others target n b) w.1 y in
    timeline_once asked name target v.0 w.0 a b
    (timeline_bare_once bytes v.0 w.0 v.2 w.2) first second
content_once (ListFrames rate asked) name bytes others target held c d m n a b alone p q r s x y =
    let rows = front_once held others.script others.media m n r s in
    let v = list_held rate bytes c p in
    let w = list_held rate bytes d q in
    let first = subst (Answered (ListFrames rate asked) name others target m a) v.1 x in
    let second = subst (Answered (ListFrames rate asked) name others target n b) w.1 y in
    conformed_once name v.0 (media_in m) (AnswersTimeline asked name target)
    (timeline_once asked name target) a b first
    (conformed_as name v.0 w.0 (media_in m) (media_in n) (AnswersTimeline asked name target) b
    (one_list rate bytes w.0 v.0 w.2 v.2) (sym rows) second)
content_once Edit name bytes others target held c d m n a b alone p q r s x y =
    let v = timeline_held bytes c p in
    let w = timeline_held bytes d q in
    edit_once name others.script others.media target held v.0 w.0 m n a b
    (timeline_bare_once bytes v.0 w.0 v.2 w.2) r s
    (subst (Answered Edit name others target m a) v.1 x)
    (subst (Answered Edit name others target n b) w.1 y)
content_once (ListEdit rate) name bytes others target held c d m n a b alone p q r s x y =
    let v = list_held rate bytes c p in
    let w = list_held rate bytes d q in
    let same : w.0 ≡ v.0 = one_list rate bytes w.0 v.0 w.2 v.2 in
    list_edit_once rate name others.script others.media target held v.0 m n a b r s
    (subst (Answered (ListEdit rate) name others target m a) v.1 x)
    (subst (λ l. Answered (ListEdit rate) name others target n b (Events l)) same
    (subst (Answered (ListEdit rate) name others target n b) w.1 y))
content_once Stat name bytes others target held c d m n a b alone p q r s x y =
    let v = timeline_held bytes c p in
    let w = timeline_held bytes d q in
    counted_once name target v.0 w.0 a b (timeline_bare_once bytes v.0 w.0 v.2 w.2)
    (subst (Answered Stat name others target m a) v.1 x)
    (subst (Answered Stat name others target n b) w.1 y)
content_once (ListStat rate) name bytes others target held c d m n a b alone p q r s x y =
    let rows = front_once held others.script others.media m n r s in
    let v = list_held rate bytes c p in
    let w = list_held rate bytes d q in
    let first = subst (Answered (ListStat rate) name others target m a) v.1 x in
    let second = subst (Answered (ListStat rate) name others target n b) w.1 y in
    conformed_once name v.0 (media_in m) (AnswersCounted name target)
    (counted_once name target) a b first
    (conformed_as name v.0 w.0 (media_in m) (media_in n) (AnswersCounted name target) b
    (one_list rate bytes w.0 v.0 w.2 v.2) (sym rows) second)
content_once (Pull handles) name bytes others target held c d m n a b alone p q r s x y =
    let v = timeline_held bytes c p in
    let w = timeline_held bytes d q in
    pulled_once handles name target v.0 w.0 a b (timeline_bare_once bytes v.0 w.0 v.2 w.2)
    (subst (Answered (Pull handles) name others target m a) v.1 x)
    (subst (Answered (Pull handles) name others target n b) w.1 y)
content_once (ListPull rate handles) name bytes others target held c d m n a b alone p q r s x y =
    let rows = front_once held others.script others.media m n r s in
    let v = list_held rate bytes c p in
    let w = list_held rate bytes d q in
    let first = subst (Answered (ListPull rate handles) name others target m a) v.1 x in
    let second = subst (Answered (ListPull rate handles) name others target n b) w.1 y in
    conformed_once name v.0 (media_in m) (AnswersPull handles name target)
    (pulled_once handles name target) a b first
    (conformed_as name v.0 w.0 (media_in m) (media_in n) (AnswersPull handles name target) b
    (one_list rate bytes w.0 v.0 w.2 v.2) (sym rows) second)
content_once Cat name bytes others target held c d m n a b alone p q r s x y = absurd (cc alone)
content_once (ListCat rate) name bytes others target held c d m n a b alone p q r s x y =
    absurd (cc alone)
content_once (Tool asked) name bytes others target held c d m n a b alone p q r s x y =
    absurd (cc alone)
content_once (ListTool rate asked) name bytes others target held c d m n a b alone p q r s x y =
    absurd (cc alone)

-- what is asked of these files has at most one answer, where that to what they hold is one
files_once : (asked : Asked) (held : Held) (a b : Answer)
    → ((cs ds : List Content) → AreRead held asked.files cs → AreRead held asked.files ds
    → AnswersHeld asked.command asked.files asked.target cs a
    → AnswersHeld asked.command asked.files asked.target ds b → a ≡ b)
    → AnswersAsked asked held a → AnswersAsked asked held b → a ≡ b
files_once asked held a b once (Unread p) (Unread q) =
    first_once Source Content Answer (IsRead held) (AnswersUnread held) asked.files a b
    (unread_once held) (read_or_unread held) p q
files_once asked held a b once (Unread p) (Judged contents q h) =
    absurd (each_or_first Source Content Answer (IsRead held) (AnswersUnread held) asked.files
    contents a (read_or_unread held) q p)
files_once asked held a b once (Judged contents p h) (Unread q) =
    absurd (each_or_first Source Content Answer (IsRead held) (AnswersUnread held) asked.files
    contents b (read_or_unread held) p q)
files_once asked held a b once (Judged cs p h) (Judged ds q k) = once cs ds p q h k

-- what is asked of one file, with the others, has at most one answer
alone_once : (command : Command) (name : List ℕ) (others : OtherNames) (target : Option (List ℕ))
    (held : Held) (a b : Answer) → takes_several command ≡ false
    → AnswersAsked (asked_alone command name others target) held a
    → AnswersAsked (asked_alone command name others target) held b → a ≡ b
alone_once command name others target held a b alone =
    files_once (asked_alone command name others target) held a b (λ cs ds p q h k.
    let files = files_alone command name others.script others.media in
    let file = read_as name (kind_of command) in
    let behind = script_source others.script ++ media_source others.media in
    let v = first_read held file behind cs p in
    let w = first_read held file behind ds q in
    let same = there_once w.first.bytes v.first.bytes (held name) w.first.there v.first.there in
    content_once command name v.first.bytes others target held v.content w.content v.more w.more a b
    alone v.first.holds (subst (λ x. Holds (kind_of command) x w.content) same w.first.holds)
    v.others w.others (subst (λ z. AnswersHeld command files target z a) v.are h)
    (subst (λ z. AnswersHeld command files target z b) w.are k))

-- what is asked has at most one answer
one_once : (command : Command) (name : List ℕ) (others : OtherNames) (target : Option (List ℕ))
    (held : Held) (a b : Answer)
    → AnswersAsked (asked_for command name others target) held a
    → AnswersAsked (asked_for command name others target) held b → a ≡ b
one_once Cat name others target held a b =
    files_once (asked_for Cat name others target) held a b
    (λ cs ds p q x y. cat_once held (files_of Cat name others) target cs ds a b p q x y)
one_once (ListCat rate) name others target held a b =
    files_once (asked_for (ListCat rate) name others target) held a b
    (λ cs ds p q x y. cat_once held (files_of (ListCat rate) name others) target cs ds a b p q x y)
one_once (Tool asked) name others target held a b =
    files_once (asked_for (Tool asked) name others target) held a b
    (λ cs ds p q x y. worked_once asked held (files_of (Tool asked) name others) target cs ds a b
    p q x y)
one_once (ListTool rate asked) name others target held a b =
    files_once (asked_for (ListTool rate asked) name others target) held a b
    (λ cs ds p q x y. worked_once asked held (files_of (ListTool rate asked) name others) target
    cs ds a b p q x y)
one_once Stat name others target held a b =
    alone_once Stat name others target held a b refl
one_once (ListStat rate) name others target held a b =
    alone_once (ListStat rate) name others target held a b refl
one_once (Pull handles) name others target held a b =
    alone_once (Pull handles) name others target held a b refl
one_once (ListPull rate handles) name others target held a b =
    alone_once (ListPull rate handles) name others target held a b refl
one_once (ListToList rate drop wide notes) name others target held a b =
    alone_once (ListToList rate drop wide notes) name others target held a b refl
one_once (ListToObjects rate older notes) name others target held a b =
    alone_once (ListToObjects rate older notes) name others target held a b refl
one_once (TimelineToList drop wide notes) name others target held a b =
    alone_once (TimelineToList drop wide notes) name others target held a b refl
one_once (ToObjects older) name others target held a b =
    alone_once (ToObjects older) name others target held a b refl
one_once ToJson name others target held a b =
    alone_once ToJson name others target held a b refl
one_once LogToMedia name others target held a b =
    alone_once LogToMedia name others target held a b refl
one_once (Frames asked) name others target held a b =
    alone_once (Frames asked) name others target held a b refl
one_once (ListFrames rate asked) name others target held a b =
    alone_once (ListFrames rate asked) name others target held a b refl
one_once Edit name others target held a b =
    alone_once Edit name others target held a b refl
one_once (ListEdit rate) name others target held a b =
    alone_once (ListEdit rate) name others target held a b refl

-- what words ask for has at most one answer
asked_once : (words : List (List ℕ)) (asked : Asked) (held : Held) (a b : Answer) → Asks words asked
    → AnswersAsked asked held a
    → AnswersAsked asked held b → a ≡ b
asked_once words asked held a b w p q =
    let e = whole words asked w in
    one_once asked.command w.name w.others asked.target held a b
    (subst (λ (x : Asked). AnswersAsked x held a) e p)
    (subst (λ (x : Asked). AnswersAsked x held b) e q)

-- a drill has at most one answer
told_once : (seed count : ℕ) (target : Option (List ℕ)) (a b : Answer)
    → AnswersDrill seed count target a → AnswersDrill seed count target b → a ≡ b
told_once seed count target a b i j =
    i.is ∙ ap (λ (t : Tally). done target (tally_text t))
    (one_tally seed count i.tally j.tally i.state j.state i.drills j.drills) ∙ sym j.is

drill_once : (words : List (List ℕ)) (seed other count tries : ℕ) (p q : Option (List ℕ))
    (a b : Answer) → AsksDrill words seed count p → AsksDrill words other tries q
    → AnswersDrill seed count p a → AnswersDrill other tries q b → a ≡ b
drill_once words seed other count tries p q a b w v l m =
    let same = drill_asked_once words seed other count tries p q w v in
    told_once other tries q a b
    (subst (λ x. AnswersDrill other tries x a) same.2
    (subst (λ x. AnswersDrill other x p a) same.1
    (subst (λ x. AnswersDrill x count p a) same.0 l))) m

pub answer_once : (words : List (List ℕ)) (held : Held) (a b : Answer) → Answers words held a
    → Answers words held b → a ≡ b
answer_once words held a b (NoCommand h e) (NoCommand k f) = e ∙ sym f
answer_once words held a b (NoCommand h e) (OnFiles asked w l) =
    absurd (h.no_command asked.command w.name w.others asked.target w.ask)
answer_once words held a b (NoCommand h e) (ByDrill seed count target w l) =
    absurd (h.no_drill seed count target w)
answer_once words held a b (OnFiles asked w l) (NoCommand h e) =
    absurd (h.no_command asked.command w.name w.others asked.target w.ask)
answer_once words held a b (OnFiles asked w l) (ByDrill seed count target v m) =
    absurd (never_drill words asked.command w.name w.others seed count asked.target target w.ask v)
answer_once words held a b (ByDrill seed count target w l) (NoCommand h e) =
    absurd (h.no_drill seed count target w)
answer_once words held a b (ByDrill seed count target v m) (OnFiles asked w l) =
    absurd (never_drill words asked.command w.name w.others seed count asked.target target w.ask v)
answer_once words held a b (ByDrill seed count target w l) (ByDrill other tries aim v m) =
    drill_once words seed other count tries target aim a b w v l m
answer_once words held a b (OnFiles asked w l) (OnFiles other v m) =
    asked_once words asked held a b w l
    (subst (λ (x : Asked). AnswersAsked x held b) (asks_once words other asked v w) m)

-- the status that was given is that of the answer
given : (words : List (List ℕ)) (held : Held) (d : Streams) (result : Status) (answer : Answer)
    → Gives words held d result → Answers words held answer → result ≡ answer.status
given words held d result answer g h =
    sym g.status ∙ ap (λ (a : Answer). a.status) (answer_once words held g.answer answer g.owed h)

completes_one : (words : List (List ℕ)) (old new : KnownFiles) (before now : ℕ) (d : Streams)
    (result : Status)
    → Ends words before now d result old new → Completes words before now d result old
completes_one words old new before now d Done e =
    λ answer h calm sent. inl (given words old.held d Done answer e h)
completes_one words old new before now d Usage e =
    λ answer h calm sent. inl (given words old.held d Usage answer e h)
completes_one words old new before now d Refused e =
    λ answer h calm sent. inl (given words old.held d Refused answer e h)
completes_one words old new before now d Input (inl e) =
    λ answer h calm sent. inl (given words old.held d Input answer e.0 h)
completes_one words old new before now d Input (inr e) =
    λ answer h calm sent. absurd (calm e.failed)
completes_one words old new before now d Output e = λ answer h calm sent. absurd (sent e.failed)
completes_one words old new before now d Memory e = λ answer h calm sent. inr refl

pub completes : (words : List (List ℕ)) (old new : Option KnownFiles) (before now : ℕ) (d : Streams)
    (result : Status)
    → Tells (Ends words before now d result) old new
    → IfSome old (Completes words before now d result)
completes words None new before now d result e = tt
completes words (Some old) None before now d result e = absurd e
completes words (Some old) (Some new) before now d result e =
    completes_one words old new before now d result e
