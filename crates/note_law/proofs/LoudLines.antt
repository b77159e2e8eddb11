-- No line of an event is a note.
use Rattle.std.proofs.Common.{◌≡◌, ℕ, ℤ, Bool, true, false, List, [], ◌∷◌, ◌++◌, Some, None, Option, IfSome, IsUtf8, codes, reverse, refl, sym, ap, subst, ◌∙◌, arith}
use Rattle.std.proofs.lemmas.List.{reverse-append}
use Rattle.tick_time.specs.declared.rates.Rate.{Rate}
use Rattle.text_lines.specs.First.{is_blank}
use Rattle.text_lines.specs.Lines.{trimmed, trimmed_front}
use Rattle.text_lines.proofs.Places.{blank_is}
use Rattle.text_lines.proofs.Trimming.{front_skips, front_stays}
use Rattle.edl_text.specs.Statements as said
use Rattle.edl_text.specs.Statements.{Statement}
use Rattle.edl_text.specs.Saying.{Says}
use Rattle.edl_text.specs.Columns.{HasSmallNumbers, kind_column, duration_column, reel_text, label_text, cleaned}
use Rattle.edl_text.specs.Rows.{event_line, speed_lines, speed_lines_if, needs_line, has_speed, headed, name_lines, from_head, to_head, lines_with, event_lines}
use Rattle.edl_text.specs.Lines.{AreSound}
use Rattle.edl_text.proofs.OneStatement.{says_unique}
use Rattle.edl_list.specs.declared.layout.Layout.{Layout}
use Rattle.edl_list.specs.declared.list.Side.{Side}
use Rattle.edl_list.specs.declared.list.Cross.{Cross}
use Rattle.edl_list.specs.declared.list.Cross.TheVariants.{Cut, Dissolve, Wipe}
use Rattle.edl_list.specs.declared.list.Event.{Event}
use Rattle.edl_list.specs.Formed.{IsReel, IsEvent, IsCross}
use Rattle.edl_list.specs.Speeds.{day_of}
use Rattle.edl_list.specs.Labelled.{outgoing, IsLabelled, IsBelowDay}
use Rattle.edl_law.specs.Law.{HasNames, HasName}
use Rattle.edl_law.proofs.FieldLemmas.{append_some}
use Rattle.edl_law.proofs.NumberLemmas.{IsNumbered}
use Rattle.edl_law.proofs.LabelLemmas.{label_field}
use Rattle.edl_law.proofs.NameLemmas.{cleaned_utf8, cleaned_tight}
use Rattle.edl_law.proofs.LineForms.{event_says, from_says, to_says, title_says}
use Rattle.note_text.specs.Forms.{IsNote}
use Rattle.note_text.specs.Heard.{IsHeard, AreHeard, other}
use Rattle.note_text.specs.declared.notes.Said.{Said}
use Rattle.note_text.specs.declared.notes.Heard.{Heard}

-- the line says something, or it is no note
pub data Loud (line : List ℕ) : Type 0 where
  says : (s : Statement) → Says line s → (s ≡ said.Nothing → ⊥) → Loud line
  plain : ((rate : Rate) (drop : Bool) (note : Said) → IsNote rate drop (trimmed line) note → ⊥) → Loud line

abbrev pub AreLoud : List (List ℕ) → Type 0
AreLoud [] = Unit {0}
AreLoud (line ∷ lines) = Loud line × AreLoud lines

pub loud_append : (a b : List (List ℕ)) → AreLoud a → AreLoud b → AreLoud (a ++ b)
loud_append [] b p q = q
loud_append (line ∷ a) b p q = (p.0, loud_append a b p.1 q)

silent : (rate : Rate) (past : List Statement) (line : List ℕ) (s : Statement) → Says line s → Loud line → s ≡ said.Nothing → (heard : Heard) → IsHeard rate past line heard → ⊥
silent rate past line s says_s (says t says_t loud) e heard h = loud (says_unique line t s says_t says_s ∙ e)
silent rate past line s says_s (plain none) e heard h = none rate _ heard.said h.note

-- lines that aren't notes leave out what is heard
pub loud_heard : (rate : Rate) (lines : List (List ℕ)) (past now : List Statement) → AreSound rate past lines now → AreLoud lines → (more : List (List ℕ)) (others : List Heard)
    → AreHeard rate now more others → AreHeard rate past (lines ++ more) others
loud_heard rate [] past now sound loud more others h = subst (λ p. AreHeard rate p more others) sound h
loud_heard rate (line ∷ lines) past now sound loud more others h =
    other past line (lines ++ more) sound.0 others sound.1.says (silent rate past line sound.0 sound.1.says loud.0) (loud_heard rate lines (sound.0 ∷ past) now sound.2 loud.1 more others h)

-- ---- lines of speeds

back_step : (b x : ℕ) (xs : List ℕ) → is_blank b ≡ false → (t : Bool) → is_blank x ≡ t → (ys : List ℕ) × (trimmed_front (xs ++ b ∷ []) ≡ ys ++ b ∷ []) → (ys : List ℕ) × (trimmed_front (x ∷ xs ++ b ∷ []) ≡ ys ++ b ∷ [])
back_step b x xs e true h rest = (rest.0, sym (front_skips (x ∷ xs ++ b ∷ []) h) ∙ rest.1)
back_step b x xs e false h rest = (x ∷ xs, front_stays (x ∷ xs ++ b ∷ []) h)

back_by : (b : ℕ) (xs : List ℕ) → is_blank b ≡ false → (ys : List ℕ) × (trimmed_front (xs ++ b ∷ []) ≡ ys ++ b ∷ [])
back_by b [] e = ([], front_stays (b ∷ []) e)
back_by b (x ∷ xs) e = back_step b x xs e (is_blank x) refl (back_by b xs e)

-- a line that begins with a byte that is no blank begins with it without its blanks
trimmed_first : (b : ℕ) (rest : List ℕ) → is_blank b ≡ false → (ys : List ℕ) × (trimmed (b ∷ rest) ≡ b ∷ ys)
trimmed_first b rest e =
    let back = back_by b (reverse rest) e in (
      reverse back.0,
      ap (λ l. reverse (trimmed_front (reverse l))) (front_stays (b ∷ rest) e)
          ∙ ap (λ l. reverse (trimmed_front l)) (reverse-append (b ∷ []) rest)
          ∙ ap reverse back.1 ∙ reverse-append back.0 (b ∷ []),
    )

other_first : (b : ℕ) (rest : List ℕ) → is_blank b ≡ false → (b ≡ 42 → ⊥) → Loud (b ∷ rest)
other_first b rest e no_star = plain (λ rate drop note h.
    let t = trimmed_first b rest e in
    let eq : b ∷ t.0 ≡ codes "*" ++ (h.star.blanks ++ h.rest) = sym t.1 ∙ h.star.is in
    no_star (let k = eq in cc))

loud_speeds : (rate : Rate) (drop : Bool) (layout : Layout) (needed : Bool) (side : Side) → AreLoud (speed_lines_if rate drop layout needed side)
loud_speeds rate drop layout true side = (other_first 77 _ (blank_is 77) (λ e. omega (arith, e)), tt)
loud_speeds rate drop layout false side = tt

-- ---- lines of names

loud_from : (text name : List ℕ) → IsUtf8 text → name ≡ cleaned text → AreLoud (headed from_head name)
loud_from text [] utf8 e = tt
loud_from text (b ∷ name) utf8 e = (
  says (said.FromName (b ∷ name)) (subst (λ l. Says (from_head ++ l) (said.FromName l)) (sym e) (from_says (cleaned text) (λ none. append_some [] b name (e ∙ none)) (cleaned_tight text) (cleaned_utf8 text utf8))) (λ k. absurd (cc)),
  tt,
)

loud_to : (text name : List ℕ) → IsUtf8 text → name ≡ cleaned text → AreLoud (headed to_head name)
loud_to text [] utf8 e = tt
loud_to text (b ∷ name) utf8 e = (
  says (said.ToName (b ∷ name)) (subst (λ l. Says (to_head ++ l) (said.ToName l)) (sym e) (to_says (cleaned text) (λ none. append_some [] b name (e ∙ none)) (cleaned_tight text) (cleaned_utf8 text utf8))) (λ k. absurd (cc)),
  tt,
)

loud_from_name : (name : Option (List ℕ)) → IfSome name IsUtf8 → AreLoud (name_lines from_head name)
loud_from_name None h = tt
loud_from_name (Some name) h = loud_from name (cleaned name) h refl

loud_to_name : (name : Option (List ℕ)) → IfSome name IsUtf8 → AreLoud (name_lines to_head name)
loud_to_name None h = tt
loud_to_name (Some name) h = loud_to name (cleaned name) h refl

pub loud_title : (text title : List ℕ) → title ≡ cleaned text → AreLoud (headed (codes "TITLE: ") title)
loud_title text [] e = tt
loud_title text (b ∷ title) e = (
  says (said.Title (b ∷ title)) (subst (λ l. Says (codes "TITLE: " ++ l) (said.Title l)) (sym e) (title_says (cleaned text) (λ none. append_some [] b title (e ∙ none)) (cleaned_tight text))) (λ k. absurd (cc)),
  tt,
)

pub loud_mode : (drop : Bool) (line : List ℕ) → Says line (said.Mode drop) → Loud line
loud_mode drop line h = says (said.Mode drop) h (λ k. absurd (cc))

-- ---- lines of events

small_numbers : (day : ℕ) (rec_in rec_out : ℤ) (cross : Cross) → IsCross day rec_in rec_out cross → HasSmallNumbers cross
small_numbers day rec_in rec_out Cut h = tt
small_numbers day rec_in rec_out (Dissolve frames from) h = h.0.few
small_numbers day rec_in rec_out (Wipe code frames from) h = (h.0, h.1.few)

-- an outgoing side that can be written
record IsOut (rate : Rate) (drop : Bool) (from : Side) : Type 0 where
  pub reel : IsReel from.reel
  pub below : IsBelowDay rate drop from.src_in
  pub name : HasName from

out_by : (rate : Rate) (drop : Bool) (rec_in rec_out : ℤ) (cross : Cross) → IsCross (day_of rate) rec_in rec_out cross → IfSome (outgoing cross) (λ from. IsBelowDay rate drop from.src_in) → IfSome (outgoing cross) HasName
    → IfSome (outgoing cross) (IsOut rate drop)
out_by rate drop rec_in rec_out Cut is below named = tt
out_by rate drop rec_in rec_out (Dissolve frames from) is below named = record { reel = is.1.reel; below = below; name = named }
out_by rate drop rec_in rec_out (Wipe code frames from) is below named = record { reel = is.2.reel; below = below; name = named }

event_loud : (line : List ℕ) (event : said.EventLine) → Says line (said.Event event) → Loud line
event_loud line event h = says (said.Event event) h (λ k. absurd (cc))

main_loud : (rate : Rate) (drop : Bool) (layout : Layout) (number : ℕ) (event : Event) → IsEvent (day_of rate) event → IsLabelled rate drop event → IsNumbered layout number
    → Loud (event_line layout number (reel_text event.to.reel) event.channel (kind_column event.cross) (duration_column event.cross)
    (label_text rate drop event.to.src_in) (label_text rate drop event.to.src_out) (label_text rate drop event.rec_in) (label_text rate drop event.rec_out))
main_loud rate drop layout number event is labels few =
    event_loud _ _ (event_says layout number event.to.reel event.channel event.cross _ _ _ _ few is.to.reel (small_numbers _ _ _ event.cross is.cross)
    (label_field rate drop event.to.src_in labels.source_in) (label_field rate drop event.to.src_out labels.source_out)
    (label_field rate drop event.rec_in labels.record_in) (label_field rate drop event.rec_out labels.record_out))

first_loud : (rate : Rate) (drop : Bool) (layout : Layout) (number : ℕ) (event : Event) (from : Side) → IsLabelled rate drop event → IsNumbered layout number → IsOut rate drop from
    → Loud (event_line layout number (reel_text from.reel) event.channel (kind_column Cut) (duration_column Cut)
    (label_text rate drop from.src_in) (label_text rate drop from.src_in) (label_text rate drop event.rec_in) (label_text rate drop event.rec_in))
first_loud rate drop layout number event from labels few out =
    event_loud _ _ (event_says layout number from.reel event.channel Cut _ _ _ _ few out.reel tt
    (label_field rate drop from.src_in out.below) (label_field rate drop from.src_in out.below)
    (label_field rate drop event.rec_in labels.record_in) (label_field rate drop event.rec_in labels.record_in))

loud_with : (rate : Rate) (drop : Bool) (layout : Layout) (number : ℕ) (event : Event) (from : Option Side) → IsEvent (day_of rate) event → IsLabelled rate drop event → HasNames event → IsNumbered layout number
    → IfSome from (IsOut rate drop) → AreLoud (lines_with rate drop layout number event from)
loud_with rate drop layout number event None is labels names few out = (
  main_loud rate drop layout number event is labels few,
  loud_append (speed_lines rate drop layout event.to None) (name_lines from_head event.to.name) (loud_speeds rate drop layout (needs_line rate event.to None) event.to) (loud_from_name event.to.name names.to),
)
loud_with rate drop layout number event (Some from) is labels names few out = (
  first_loud rate drop layout number event from labels few out,
  (
    main_loud rate drop layout number event is labels few,
    loud_append (speed_lines rate drop layout event.to (Some from)) (name_lines from_head from.name ++ name_lines to_head event.to.name)
        (loud_append (speed_lines_if rate drop layout (has_speed rate from) from) (speed_lines_if rate drop layout (needs_line rate event.to (Some from)) event.to)
        (loud_speeds rate drop layout (has_speed rate from) from) (loud_speeds rate drop layout (needs_line rate event.to (Some from)) event.to))
        (loud_append (name_lines from_head from.name) (name_lines to_head event.to.name) (loud_from_name from.name out.name) (loud_to_name event.to.name names.to)),
  ),
)

-- the lines of an event
pub loud_event : (rate : Rate) (drop : Bool) (layout : Layout) (number : ℕ) (event : Event) → IsEvent (day_of rate) event → IsLabelled rate drop event → HasNames event → IsNumbered layout number
    → AreLoud (event_lines rate drop layout number event)
loud_event rate drop layout number event is labels names few =
    loud_with rate drop layout number event (outgoing event.cross) is labels names few (out_by rate drop event.rec_in event.rec_out event.cross is.cross labels.outgoing_in names.from)
