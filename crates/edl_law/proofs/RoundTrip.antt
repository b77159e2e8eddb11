-- The text of a list is read as the same list.
use Rattle.std.proofs.Common.{◌≡◌, ◌≤◌, ◌+◌, ◌^◌, ℕ, Bool, true, false, List, [], ◌∷◌, ◌++◌, None, IsUtf8, codes, length, unwrap_or, refl, sym, ap, subst, ◌∙◌, arith}
use Rattle.std.proofs.lemmas.Str.{is_utf8-from_IsUtf8}
use Rattle.tick_time.specs.declared.rates.Rate.{Rate}
use Rattle.edl_text.specs.Statements as said
use Rattle.edl_text.specs.Statements.{Statement}
use Rattle.edl_text.specs.Saying.{Says}
use Rattle.edl_list.specs.declared.list.EventList.{EventList}
use Rattle.edl_list.specs.declared.list.Event.{Event}
use Rattle.edl_list.specs.Formed.{IsWellFormed}
use Rattle.edl_list.specs.Alike.{IsEven, IsSame}
use Rattle.limits.specs.Limits.{most_bytes}
use Rattle.text_lines.specs.Lines.{lines_of}
use Rattle.edl_text.specs.Columns.{cleaned}
use Rattle.edl_text.specs.Rows.{headed}
use Rattle.edl_text.specs.Spelling.{spelling, list_lines, title_lines, mode_line, lines_from}
use Rattle.edl_text.specs.Past.{Block, blocks_in, noted, title_in, first_mode_in}
use Rattle.edl_text.specs.Events.{events_of}
use Rattle.edl_text.specs.Lines.{AreSound, title_fault}
use Rattle.edl_text.specs.Late.{AreFine}
use Rattle.edl_text.specs.Lists.{IsList, events_in}
use Rattle.edl_list.specs.Layouts.{layout_of, most_events}
use Rattle.edl_text.proofs.Widths.{widths_of}
use Rattle.edl_law.specs.Law.{HasText}
use Rattle.edl_law.proofs.LineLemmas.{AreShown, shown_lines, lines_written}
use Rattle.edl_law.proofs.LineForms.{title_says, mode_says, nothing_says}
use Rattle.edl_law.proofs.FieldLemmas.{append_some}
use Rattle.edl_law.proofs.NameLemmas.{cleaned_utf8, cleaned_tight}
use Rattle.edl_law.proofs.NoteLemmas.{sound_append}
use Rattle.edl_law.proofs.LineReadings.{shown_title, shown_mode, shown_events}
use Rattle.edl_law.proofs.EventLists.{AreMatched, AreRising, walk, matched_same}
use Rattle.edl_law.proofs.OrderLemmas.{read_ordered, read_fine}

-- what the line of a title says
pub record Titled (rate : Rate) (lines : List (List ℕ)) : Type 0 where
  pub now : List Statement
  pub sound : AreSound rate [] lines now
  pub blocks : blocks_in now ≡ []

pub title_sound : (title : List ℕ) → IsUtf8 title → title_fault 1 title None ≡ None
title_sound title utf8 = rw (is_utf8-from_IsUtf8 title utf8) refl

pub titled : (rate : Rate) (text title : List ℕ) → IsUtf8 text → title ≡ cleaned text → Titled rate (headed (codes "TITLE: ") title)
titled rate text [] utf8 e = record { now = []; sound = refl; blocks = refl }
titled rate text (b ∷ title) utf8 e =
    let kept : IsUtf8 (b ∷ title) = subst IsUtf8 (sym e) (cleaned_utf8 text utf8) in
    record {
      now = said.Title (b ∷ title) ∷ [];
      sound = (
        said.Title (b ∷ title),
        record {
          says = subst (λ l. Says (codes "TITLE: " ++ l) (said.Title l)) (sym e) (title_says (cleaned text) (λ none. append_some [] b title (e ∙ none)) (cleaned_tight text));
          sound = title_sound (b ∷ title) kept;
        },
        refl,
      );
      blocks = refl;
    }

pub quiet : (rate : Rate) (blocks : List Block) → events_of rate (noted said.Nothing blocks) ≡ events_of rate blocks
quiet rate [] = refl
quiet rate (block ∷ blocks) = refl

-- what sound lines say whose events match those of a list
pub list_read : (list : EventList) (text : List ℕ) (start : ℕ) (past : List Statement)
    (read : List Event) → length text ≤ most_bytes → IsWellFormed list → IsEven list
    → AreSound list.rate [] (lines_of text) past → events_in list.rate past ≡ read
    → AreMatched list.rate list.events read → AreRising start read
    → IsList list.rate text (record {
      title = unwrap_or (title_in past) [];
      rate = list.rate;
      drop = unwrap_or (first_mode_in past) false;
      events = read;
    })
list_read list text start past read small formed even sound events matched rising = record {
  small = small;
  past = past;
  sound = sound;
  fine = subst AreFine (sym events)
      (read_fine list.rate start list.events read matched rising even formed.apart);
  says = record {
    title = refl;
    counted = refl;
    drop = refl;
    events = record {
      same = record { moves = []; below = tt; is = sym events };
      order = read_ordered list.rate start list.events read matched rising formed.order;
    };
  };
}

-- what is read of the text of a list
pub record Reading (list : EventList) (drop wide : Bool) : Type 0 where
  pub read : EventList
  pub reads : IsList list.rate (spelling list drop wide) read
  pub same : IsSame list read

-- the numbers from one on
pub numbered : (wide : Bool) (n : ℕ) → n ≤ most_events (layout_of wide) → 1 + n ≤ 10 ^ (layout_of wide).number_width
numbered true n h = omega (arith, h)
numbered false n h = omega (arith, h)

pub reading : (list : EventList) (drop wide : Bool) → HasText list drop wide → Reading list drop wide
reading list drop wide h =
    let layout = layout_of wide in
    let rate = list.rate in
    let head = titled rate list.title (cleaned list.title) h.title refl in
    let start = said.Mode drop ∷ head.now in
    let path = walk rate drop layout 1 list.events start h.formed.events h.labels h.names (widths_of wide) (numbered wide (length list.events) h.fits.few) refl in
    let past = said.Nothing ∷ path.now in
    let none : events_of rate (blocks_in start) ≡ [] = ap (λ b. events_of rate (noted (said.Mode drop) b)) head.blocks in
    let events : events_in rate past ≡ path.read = quiet rate (blocks_in path.now) ∙ path.events_are ∙ ap (λ l. l ++ path.read) none in
    let body : AreSound rate head.now (mode_line drop ∷ lines_from rate drop layout 1 list.events) path.now =
    (said.Mode drop, record { says = mode_says drop; sound = refl }, path.sound) in
    let last : AreSound rate path.now ([] ∷ []) past = (said.Nothing, record { says = nothing_says; sound = refl }, refl) in
    let lines = list_lines list drop wide in
    let shown : AreShown lines = shown_lines (title_lines list.title) (mode_line drop ∷ lines_from rate drop layout 1 list.events) (shown_title list.title)
    (shown_mode drop, shown_events rate drop layout 1 list.events h.formed.events h.labels) in
    let whole : AreSound rate [] (lines ++ [] ∷ []) past =
    sound_append rate lines ([] ∷ []) [] path.now past (sound_append rate (title_lines list.title) (mode_line drop ∷ lines_from rate drop layout 1 list.events) [] head.now path.now head.sound body) last in
    record {
      read = record { title = unwrap_or (title_in past) []; rate = rate; drop = unwrap_or (first_mode_in past) false; events = path.read };
      reads = list_read list (spelling list drop wide) (length start) past path.read h.small h.formed h.even
          (subst (λ l. AreSound rate [] l past) (sym (lines_written lines shown)) whole)
          events path.matched path.rising;
      same = record { rate = refl; events = matched_same rate list.events path.read path.matched };
    }
