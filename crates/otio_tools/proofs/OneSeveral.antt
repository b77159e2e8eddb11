-- There is one answer to several inputs.
use Rattle.std.proofs.Common.{◌≡◌, ℕ, Option, List, [], ◌∷◌, None, map, refl, sym, ap, ap₂, cond, subst, ◌∙◌, inl, inr}
use Rattle.edl_list.specs.declared.list.EventList.{EventList}
use Rattle.edl_text.proofs.OneList.{one_list}
use Rattle.otio_model.specs.declared.timelines.Timeline.{Timeline}
use Rattle.otio_model.specs.Timelines.{bare}
use Rattle.coord.specs.Soundness.{IsFaultless}
use Rattle.coord.proofs.OneFault.{same_fault, no_fault_of}
use Rattle.coord.proofs.SpareLemmas.{faultless_bare, fault_bare}
use Rattle.media_rows.specs.Rows.{MediaRows}
use Rattle.edl_law.proofs.OneTimeline.{one_timeline}
use Rattle.edl_law.proofs.OneFault.{one_fault as one_conform_fault, no_fault as no_conform_fault}
use Rattle.source_files.specs.Faults.{coord_fault_text, conform_fault_text}
use Rattle.source_files.specs.Formats.{Holds}
use Rattle.source_files.specs.Order.{EachIs, FirstIsNot}
use Rattle.source_files.specs.Reading.{Held, Source, IsRead, AreRead}
use Rattle.source_files.specs.Kinds.{Kind}
use Rattle.source_files.specs.Kinds as kinds
use Rattle.source_files.specs.Contents.{Content}
use Rattle.source_files.specs.Contents as content
use Rattle.command_words.specs.declared.tools.ToolAsked.{ToolAsked}
use Rattle.otio_tools.specs.Forms.{Answer, done, refused}
use Rattle.otio_tools.specs.Opened.{AnswersOpened, AnswersUnopened, Input, IsConformedTo, IsOpened, IsOpenedInput, IsUnconformed, IsUnopened, IsUnsound, Opened, Unopened, inputs_in, media_behind, names_in}
use Rattle.otio_tools.specs.Answer.{AnswersCat, AnswersWorked}
use Rattle.otio_tools.specs.Tools.{AnswersFault, AnswersJoined, AnswersTool, Joined, NotJoined, NotWorked, Worked, does_list, listings_asked, name_told, tool_fault_text, tool_text}
use Rattle.otio_tools.proofs.Formats.{timeline_bare_once}
use Rattle.otio_tools.proofs.HeldContents.{list_held, log_held, noted_held, media_held, object_held, script_held, there_once, timeline_held, value_held}
use Rattle.otio_tools.proofs.OneText.{same_listings, same_text}
use Rattle.media_rows.specs.declared.row.MediaRow.{MediaRow}
use Rattle.media_list.proofs.OneOutcome.{list_once as media_list_once}
use Rattle.ale_text.proofs.OneOutcome.{log_once}
use Rattle.flat_stack.specs.declared.step_faults.ToolFault.{ToolFault}
use Rattle.flat_stack.proofs.OneGathered.{concat_sure}
use Rattle.flat_stack.proofs.OneOutcome.{one_result, never_both, one_fault}

-- ---- why there is no timeline of what a file holds, in one way

unsound_once : (t u : Timeline) (v w : List ℕ) → bare t ≡ bare u → IsUnsound t v → IsUnsound u w
    → v ≡ w
unsound_once t u v w same p q =
    p.3 ∙ ap coord_fault_text (same_fault t p.0 q.0 p.1 q.1 p.2
    (fault_bare u t q.0 (sym same) q.2)) ∙ sym q.3

sound_or_not : (t u : Timeline) (w : List ℕ) → bare t ≡ bare u → IsFaultless t → IsUnsound u w → ⊥
sound_or_not t u w same s q = no_fault_of u q.0 (faultless_bare t u same s) q.2

unconformed_once : (list : EventList) (media : MediaRows) (v w : List ℕ)
    → IsUnconformed list media v → IsUnconformed list media w → v ≡ w
unconformed_once list media v w p q =
    p.3 ∙ ap conform_fault_text (one_conform_fault list media p.0 q.0 p.2 q.2 p.1 q.1) ∙ sym q.3

conformed_or_not : (list : EventList) (media : MediaRows) (t : Timeline) (w : List ℕ)
    → IsConformedTo list media t → IsUnconformed list media w → ⊥
conformed_or_not list media t w c q =
    no_conform_fault list media q.0 q.2 q.1 c.accepted c.few

same_conformed : (list : EventList) (media : MediaRows) (t u : Timeline)
    → IsConformedTo list media t → IsConformedTo list media u → bare t ≡ bare u
same_conformed list media t u c d = one_timeline list media t u c.is d.is

unopened_list : (list : EventList) (media : MediaRows) (v w : List ℕ)
    → IsUnopened (content.Events list) media v → IsUnopened (content.Events list) media w → v ≡ w
unopened_list list media v w (inl p) (inl q) = unconformed_once list media v w p q
unopened_list list media v w (inl p) (inr q) =
    absurd (conformed_or_not list media q.0 v q.1 p)
unopened_list list media v w (inr p) (inl q) =
    absurd (conformed_or_not list media p.0 w p.1 q)
unopened_list list media v w (inr p) (inr q) =
    unsound_once p.0 q.0 v w (same_conformed list media p.0 q.0 p.1 q.1) p.2 q.2

-- ---- what is held alike, up to spare memory

pub data SameContent (c d : Content) : Type 0 where
  films : (t u : Timeline) → c ≡ content.Film t → d ≡ content.Film u → bare t ≡ bare u
      → SameContent c d
  lists : (list : EventList) → c ≡ content.Events list → d ≡ content.Events list
      → SameContent c d

pub record IsAlike (i j : Input) : Type 0 where
  pub name : i.name ≡ j.name
  pub content : SameContent i.content j.content

turned_content : (c d : Content) → SameContent c d → SameContent d c
turned_content c d (films t u e f s) = films u t f e (sym s)
turned_content c d (lists l e f) = lists l f e

turned : (i j : Input) → IsAlike i j → IsAlike j i
turned i j s =
    record { name = sym s.name; content = turned_content i.content j.content s.content }

unopened_as : (c d : Content) (media : MediaRows) (v w : List ℕ) → SameContent c d
    → IsUnopened c media v → IsUnopened d media w → v ≡ w
unopened_as c d media v w (films t u e f s) p q =
    unsound_once t u v w s (subst (λ x. IsUnopened x media v) e p)
    (subst (λ x. IsUnopened x media w) f q)
unopened_as c d media v w (lists l e f) p q =
    unopened_list l media v w (subst (λ x. IsUnopened x media v) e p)
    (subst (λ x. IsUnopened x media w) f q)

list_or_not : (list : EventList) (media : MediaRows) (t : Timeline) (w : List ℕ)
    → IsConformedTo list media t → IsFaultless t → IsUnopened (content.Events list) media w → ⊥
list_or_not list media t w c s (inl q) = conformed_or_not list media t w c q
list_or_not list media t w c s (inr q) =
    sound_or_not t q.0 w (same_conformed list media t q.0 c q.1) s q.2

film_or_not : (x u t : Timeline) (media : MediaRows) (w : List ℕ) → bare x ≡ bare u
    → IsOpened (content.Film x) media t → IsFaultless t → IsUnopened (content.Film u) media w → ⊥
film_or_not x u t media w s o f q = sound_or_not t u w (ap bare o ∙ s) f q

opened_or_not : (c d : Content) (media : MediaRows) (t : Timeline) (w : List ℕ) → SameContent c d
    → IsOpened c media t → IsFaultless t → IsUnopened d media w → ⊥
opened_or_not c d media t w (films x u e f s) o sound q =
    film_or_not x u t media w s (subst (λ y. IsOpened y media t) e o) sound
    (subst (λ y. IsUnopened y media w) f q)
opened_or_not c d media t w (lists l e f) o sound q =
    list_or_not l media t w (subst (λ y. IsOpened y media t) e o) sound
    (subst (λ y. IsUnopened y media w) f q)

same_films : (x y t u : Timeline) (media : MediaRows) → bare x ≡ bare y
    → IsOpened (content.Film x) media t → IsOpened (content.Film y) media u → bare t ≡ bare u
same_films x y t u media s o p = ap bare o ∙ s ∙ sym (ap bare p)

opened_as : (c d : Content) (media : MediaRows) (t u : Timeline) → SameContent c d
    → IsOpened c media t → IsOpened d media u → bare t ≡ bare u
opened_as c d media t u (films x y e f s) o p =
    same_films x y t u media s (subst (λ z. IsOpened z media t) e o)
    (subst (λ z. IsOpened z media u) f p)
opened_as c d media t u (lists l e f) o p =
    same_conformed l media t u (subst (λ z. IsOpened z media t) e o)
    (subst (λ z. IsOpened z media u) f p)

-- ---- alike inputs

unopened_once : (media : MediaRows) (i j : Input) (a b : Answer) → IsAlike i j
    → AnswersUnopened media i a → AnswersUnopened media j b → a ≡ b
unopened_once media i j a b s p q =
    p.2 ∙ ap (λ n. refused n p.0) s.name
    ∙ ap (refused j.name) (unopened_as i.content j.content media p.0 q.0 s.content p.1 q.1)
    ∙ sym q.2

opened_never : (media : MediaRows) (i j : Input) (t : Timeline) (b : Answer) → IsAlike i j
    → IsOpenedInput media i t → AnswersUnopened media j b → ⊥
opened_never media i j t b s o q =
    opened_or_not i.content j.content media t q.0 s.content o.0 o.1 q.1

-- the first of alike inputs that there is no timeline of has one answer
first_alike : (media : MediaRows) (is js : List Input) (a b : Answer) → EachIs IsAlike is js
    → FirstIsNot (IsOpenedInput media) (AnswersUnopened media) is a
    → FirstIsNot (IsOpenedInput media) (AnswersUnopened media) js b → a ≡ b
first_alike media [] js a b s p q = absurd p
first_alike media (i ∷ is) [] a b s p q = absurd s
first_alike media (i ∷ is) (j ∷ js) a b s (inl p) (inl q) = unopened_once media i j a b s.0 p q
first_alike media (i ∷ is) (j ∷ js) a b s (inl p) (inr q) =
    absurd (opened_never media j i q.0 a (turned i j s.0) q.1 p)
first_alike media (i ∷ is) (j ∷ js) a b s (inr p) (inl q) =
    absurd (opened_never media i j p.0 b s.0 p.1 q)
first_alike media (i ∷ is) (j ∷ js) a b s (inr p) (inr q) =
    first_alike media is js a b s.1 p.2 q.2

-- alike inputs have timelines, or there is none of one of them
each_or_none : (media : MediaRows) (is js : List Input) (ts : List Timeline) (b : Answer)
    → EachIs IsAlike is js → EachIs (IsOpenedInput media) is ts
    → FirstIsNot (IsOpenedInput media) (AnswersUnopened media) js b → ⊥
each_or_none media [] [] ts b s e q = q
each_or_none media [] (j ∷ js) ts b s e q = s
each_or_none media (i ∷ is) [] ts b s e q = s
each_or_none media (i ∷ is) (j ∷ js) [] b s e q = e
each_or_none media (i ∷ is) (j ∷ js) (t ∷ ts) b s e (inl q) =
    opened_never media i j t b s.0 e.0 q
each_or_none media (i ∷ is) (j ∷ js) (t ∷ ts) b s e (inr q) =
    each_or_none media is js ts b s.1 e.1 q.2

none_or_each : (media : MediaRows) (is js : List Input) (us : List Timeline) (a : Answer)
    → EachIs IsAlike is js → EachIs (IsOpenedInput media) js us
    → FirstIsNot (IsOpenedInput media) (AnswersUnopened media) is a → ⊥
none_or_each media [] js us a s e q = q
none_or_each media (i ∷ is) [] us a s e q = s
none_or_each media (i ∷ is) (j ∷ js) [] a s e q = e
none_or_each media (i ∷ is) (j ∷ js) (u ∷ us) a s e (inl q) =
    opened_never media j i u a (turned i j s.0) e.0 q
none_or_each media (i ∷ is) (j ∷ js) (u ∷ us) a s e (inr q) =
    none_or_each media is js us a s.1 e.1 q.2

same_timelines : (media : MediaRows) (is js : List Input) (ts us : List Timeline)
    → EachIs IsAlike is js → EachIs (IsOpenedInput media) is ts
    → EachIs (IsOpenedInput media) js us → map bare ts ≡ map bare us
same_timelines media [] [] [] [] s e f = refl
same_timelines media [] [] [] (u ∷ us) s e f = absurd f
same_timelines media [] [] (t ∷ ts) us s e f = absurd e
same_timelines media [] (j ∷ js) ts us s e f = absurd s
same_timelines media (i ∷ is) [] ts us s e f = absurd s
same_timelines media (i ∷ is) (j ∷ js) [] us s e f = absurd e
same_timelines media (i ∷ is) (j ∷ js) (t ∷ ts) [] s e f = absurd f
same_timelines media (i ∷ is) (j ∷ js) (t ∷ ts) (u ∷ us) s e f =
    let head : bare t ≡ bare u =
    opened_as i.content j.content media t u s.0.content e.0.0 f.0.0 in
    let tail = same_timelines media is js ts us s.1 e.1 f.1 in cc

-- the answer to alike inputs is one, where that to their timelines is
pub opened_once : (media : MediaRows) (is js : List Input) (Is Also : List Timeline → Answer
    → Type 0) (a b : Answer) → EachIs IsAlike is js
    → ((ts us : List Timeline) → map bare ts ≡ map bare us → Is ts a → Also us b → a ≡ b)
    → AnswersOpened media is Is a → AnswersOpened media js Also b → a ≡ b
opened_once media is js Is Also a b s once (Unopened p) (Unopened q) =
    first_alike media is js a b s p q
opened_once media is js Is Also a b s once (Unopened p) (Opened us f q) =
    absurd (none_or_each media is js us a s f p)
opened_once media is js Is Also a b s once (Opened ts e p) (Unopened q) =
    absurd (each_or_none media is js ts b s e q)
opened_once media is js Is Also a b s once (Opened ts e p) (Opened us f q) =
    once ts us (same_timelines media is js ts us s e f) p q

-- ---- what is read of the same files is alike

-- no input and no media list
abbrev IsOther : Content → Type 0
IsOther (content.Value value) = Unit {0}
IsOther (content.Root object) = Unit {0}
IsOther (content.Commands commands) = Unit {0}
IsOther (content.Film timeline) = ⊥
IsOther (content.Events list) = ⊥
IsOther (content.Noted noted said) = Unit {0}
IsOther (content.Rows rows) = ⊥

data SameHeld (c d : Content) : Type 0 where
  inputs_too : SameContent c d → SameHeld c d
  rows_too : (rows : List MediaRow) → c ≡ content.Rows rows → d ≡ content.Rows rows
      → SameHeld c d
  others_too : IsOther c → IsOther d → SameHeld c d

same_held : (kind : Kind) (bytes : List ℕ) (c d : Content) → Holds kind bytes c
    → Holds kind bytes d → SameHeld c d
same_held kinds.Json bytes c d p q =
    let v = value_held bytes c p in
    let w = value_held bytes d q in
    others_too (subst IsOther (sym v.1) tt) (subst IsOther (sym w.1) tt)
same_held kinds.Object bytes c d p q =
    let v = object_held bytes c p in
    let w = object_held bytes d q in
    others_too (subst IsOther (sym v.1) tt) (subst IsOther (sym w.1) tt)
same_held kinds.Script bytes c d p q =
    let v = script_held bytes c p in
    let w = script_held bytes d q in
    others_too (subst IsOther (sym v.1) tt) (subst IsOther (sym w.1) tt)
same_held (kinds.NotedList rate) bytes c d p q =
    let v = noted_held rate bytes c p in
    let w = noted_held rate bytes d q in
    others_too (subst IsOther (sym v.2) tt) (subst IsOther (sym w.2) tt)
same_held kinds.Media bytes c d p q =
    let v = media_held bytes c p in
    let w = media_held bytes d q in
    rows_too v.0 v.1 (w.1 ∙ ap content.Rows (media_list_once bytes w.0 v.0 w.2 v.2))
same_held kinds.Log bytes c d p q =
    let v = log_held bytes c p in
    let w = log_held bytes d q in
    rows_too v.0 v.1 (w.1 ∙ ap content.Rows (log_once bytes w.0 v.0 w.2 v.2))
same_held kinds.Timeline bytes c d p q =
    let v = timeline_held bytes c p in
    let w = timeline_held bytes d q in
    inputs_too (films v.0 w.0 v.1 w.1 (timeline_bare_once bytes v.0 w.0 v.2 w.2))
same_held (kinds.List rate) bytes c d p q =
    let v = list_held rate bytes c p in
    let w = list_held rate bytes d q in
    inputs_too (lists v.0 v.1 (w.1 ∙ ap content.Events (one_list rate bytes w.0 v.0 w.2 v.2)))

same_read : (held : Held) (file : Source) (c d : Content) → IsRead held file c
    → IsRead held file d → SameHeld c d
same_read held file c d p q =
    let same = there_once q.bytes p.bytes (held file.name) q.there p.there in
    same_held file.kind p.bytes c d p.holds (subst (λ b. Holds file.kind b d) same q.holds)

other_inputs : (file : Source) (files : List Source) (c : Content) (cs : List Content) → IsOther c
    → inputs_in (file ∷ files) (c ∷ cs) ≡ []
other_inputs file files (content.Value value) cs o = refl
other_inputs file files (content.Root object) cs o = refl
other_inputs file files (content.Commands commands) cs o = refl
other_inputs file files (content.Film timeline) cs o = absurd o
other_inputs file files (content.Events list) cs o = absurd o
other_inputs file files (content.Noted noted said) cs o = refl
other_inputs file files (content.Rows rows) cs o = absurd o

other_media : (c : Content) (cs : List Content) → IsOther c → media_behind (c ∷ cs) ≡ None
other_media (content.Value value) cs o = refl
other_media (content.Root object) cs o = refl
other_media (content.Commands commands) cs o = refl
other_media (content.Film timeline) cs o = absurd o
other_media (content.Events list) cs o = absurd o
other_media (content.Noted noted said) cs o = refl
other_media (content.Rows rows) cs o = absurd o

-- the inputs are alike, and the media lists the same
abbrev AreAlike : List Source → List Content → List Content → Type 0
AreAlike files cs ds = EachIs IsAlike (inputs_in files cs) (inputs_in files ds)
    × (media_behind cs ≡ media_behind ds)

input_alike : (file : Source) (files : List Source) (c d : Content) (cs ds : List Content)
    → SameContent c d → AreAlike files cs ds → AreAlike (file ∷ files) (c ∷ cs) (d ∷ ds)
input_alike file files c d cs ds (films t u e f s) more =
    subst (λ x. AreAlike (file ∷ files) (x ∷ cs) (d ∷ ds)) (sym e)
    (subst (λ y. AreAlike (file ∷ files) (content.Film t ∷ cs) (y ∷ ds)) (sym f)
    ((record { name = refl; content = films t u refl refl s }, more.0), more.1))
input_alike file files c d cs ds (lists l e f) more =
    subst (λ x. AreAlike (file ∷ files) (x ∷ cs) (d ∷ ds)) (sym e)
    (subst (λ y. AreAlike (file ∷ files) (content.Events l ∷ cs) (y ∷ ds)) (sym f)
    ((record { name = refl; content = lists l refl refl }, more.0), more.1))

step_alike : (file : Source) (files : List Source) (c d : Content) (cs ds : List Content)
    → SameHeld c d → AreAlike files cs ds → AreAlike (file ∷ files) (c ∷ cs) (d ∷ ds)
step_alike file files c d cs ds (inputs_too s) more =
    input_alike file files c d cs ds s more
step_alike file files c d cs ds (rows_too rows e f) more =
    subst (λ x. AreAlike (file ∷ files) (x ∷ cs) (d ∷ ds)) (sym e)
    (subst (λ y. AreAlike (file ∷ files) (content.Rows rows ∷ cs) (y ∷ ds)) (sym f) (tt, refl))
step_alike file files c d cs ds (others_too o p) more = (
  subst (λ x. EachIs IsAlike x (inputs_in (file ∷ files) (d ∷ ds)))
      (sym (other_inputs file files c cs o))
      (subst (λ y. EachIs IsAlike [] y) (sym (other_inputs file files d ds p)) tt),
  other_media c cs o ∙ sym (other_media d ds p),
)

read_alike : (held : Held) (files : List Source) (cs ds : List Content) → AreRead held files cs
    → AreRead held files ds → AreAlike files cs ds
read_alike held [] cs ds p q = (tt, no_files cs ds p q)
  where
    no_files : (cs ds : List Content) → AreRead held [] cs → AreRead held [] ds
        → media_behind cs ≡ media_behind ds
    no_files [] [] p q = refl
    no_files [] (d ∷ ds) p q = absurd q
    no_files (c ∷ cs) ds p q = absurd p
read_alike held (file ∷ files) [] ds p q = absurd p
read_alike held (file ∷ files) (c ∷ cs) [] p q = absurd q
read_alike held (file ∷ files) (c ∷ cs) (d ∷ ds) p q =
    step_alike file files c d cs ds (same_read held file c d p.0 q.0)
    (read_alike held files cs ds p.1 q.1)

same_names : (is js : List Input) → EachIs IsAlike is js
    → map (λ (i : Input). i.name) is ≡ map (λ (i : Input). i.name) js
same_names [] [] s = refl
same_names [] (j ∷ js) s = absurd s
same_names (i ∷ is) [] s = absurd s
same_names (i ∷ is) (j ∷ js) s =
    let head = s.0.name in let tail = same_names is js s.1 in cc

-- ---- one answer to timelines that are equal up to spare memory

same_told : (names : List (List ℕ)) (f g : ToolFault) (a b : Answer) → f ≡ g
    → AnswersFault names f a → AnswersFault names g b → a ≡ b
same_told names f g a b same e h =
    e ∙ ap (λ x. refused (name_told names x) (tool_fault_text x)) same ∙ sym h

joined_once : (names : List (List ℕ)) (target : Option (List ℕ)) (ts us : List Timeline)
    (a b : Answer) → map bare ts ≡ map bare us → AnswersJoined names target ts a
    → AnswersJoined names target us b → a ≡ b
joined_once names target ts us a b s (NotJoined f n p e) (NotJoined g m q h) =
    same_told names f g a b (concat_sure.fault ts us f g s p q) e h
joined_once names target ts us a b s (NotJoined f n p e) (Joined u q h) =
    absurd (concat_sure.never us ts u f (sym s) q p)
joined_once names target ts us a b s (Joined t p e) (NotJoined g m q h) =
    absurd (concat_sure.never ts us t g s p q)
joined_once names target ts us a b s (Joined t p e) (Joined u q h) =
    e ∙ ap (done target) (same_text t u (concat_sure.one ts us t u s p q)) ∙ sym h

tool_text_once : (asked : ToolAsked) (t u : Timeline) → bare t ≡ bare u
    → tool_text asked t ≡ tool_text asked u
tool_text_once asked t u s =
    ap₂ (cond (does_list asked)) (same_listings t u (listings_asked asked) s) (same_text t u s)

tool_once : (asked : ToolAsked) (names : List (List ℕ)) (target : Option (List ℕ))
    (ts us : List Timeline) (a b : Answer) → map bare ts ≡ map bare us
    → AnswersTool asked names target ts a → AnswersTool asked names target us b → a ≡ b
tool_once asked names target ts us a b s (NotWorked f n p e) (NotWorked g m q h) =
    same_told names f g a b (one_fault asked ts us f g s p q) e h
tool_once asked names target ts us a b s (NotWorked f n p e) (Worked u q h) =
    absurd (never_both asked us ts u f (sym s) q p)
tool_once asked names target ts us a b s (Worked t p e) (NotWorked g m q h) =
    absurd (never_both asked ts us t g s p q)
tool_once asked names target ts us a b s (Worked t p e) (Worked u q h) =
    e ∙ ap (done target) (tool_text_once asked t u (one_result asked ts us t u s p q)) ∙ sym h

-- ---- one answer to what is held

opened_alike : (files : List Source) (cs ds : List Content)
    (Is : List (List ℕ) → List Timeline → Answer → Type 0) (a b : Answer)
    → AreAlike files cs ds
    → ((names : List (List ℕ)) (ts us : List Timeline) → map bare ts ≡ map bare us
    → Is names ts a → Is names us b → a ≡ b)
    → AnswersOpened (media_behind cs) (inputs_in files cs) (Is (names_in files cs)) a
    → AnswersOpened (media_behind ds) (inputs_in files ds) (Is (names_in files ds)) b → a ≡ b
opened_alike files cs ds Is a b s once p q =
    opened_once (media_behind cs) (inputs_in files cs) (inputs_in files ds)
    (Is (names_in files cs)) (Is (names_in files cs)) a b s.0 (once (names_in files cs)) p
    (subst (λ n. AnswersOpened (media_behind cs) (inputs_in files ds) (Is n) b)
    (sym (same_names (inputs_in files cs) (inputs_in files ds) s.0))
    (subst (λ m. AnswersOpened m (inputs_in files ds) (Is (names_in files ds)) b) (sym s.1) q))

pub cat_once : (held : Held) (files : List Source) (target : Option (List ℕ))
    (cs ds : List Content) (a b : Answer) → AreRead held files cs → AreRead held files ds
    → AnswersCat files target cs a → AnswersCat files target ds b → a ≡ b
cat_once held files target cs ds a b p q x y =
    opened_alike files cs ds (λ names. AnswersJoined names target) a b
    (read_alike held files cs ds p q) (λ names ts us. joined_once names target ts us a b) x y

pub worked_once : (asked : ToolAsked) (held : Held) (files : List Source)
    (target : Option (List ℕ)) (cs ds : List Content) (a b : Answer) → AreRead held files cs
    → AreRead held files ds → AnswersWorked asked files target cs a
    → AnswersWorked asked files target ds b → a ≡ b
worked_once asked held files target cs ds a b p q x y =
    opened_alike files cs ds (λ names. AnswersTool asked names target) a b
    (read_alike held files cs ds p q) (λ names ts us. tool_once asked names target ts us a b) x y
