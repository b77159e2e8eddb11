-- The lines of one event, behind those before.
use Rattle.std.proofs.Common.{◌≡◌, ◌<◌, ◌≤◌, ℕ, ℤ, suc, ◌≤ℤ◌, Bool, true, false, cond, nat_lt, List, [], ◌∷◌, ◌++◌, Some, None, Option, length, if◌then◌else◌, refl, sym, ap, ap₂, subst, ◌∙◌, append-nil, arith}
use Rattle.std.proofs.lemmas.Int.{ints}
use Rattle.tick_time.specs.declared.rates.Rate.{Rate}
use Rattle.edl_text.specs.Statements as said
use Rattle.edl_text.specs.Statements.{Statement, EventLine, Speed}
use Rattle.edl_text.specs.declared.statement_types.Kind.TheVariants as kinds
use Rattle.edl_list.specs.declared.list.Channel.{Channel}
use Rattle.edl_list.specs.declared.list.Side.{Side}
use Rattle.edl_list.specs.declared.list.Cross.{Cross}
use Rattle.edl_list.specs.declared.list.Cross.TheVariants.{Cut, Dissolve, Wipe}
use Rattle.edl_list.specs.declared.list.Event.{Event}
use Rattle.edl_list.specs.Formed.{IsSide, IsEvent, AreFrames}
use Rattle.edl_list.specs.Speeds.{count_of, day_of, speed_of}
use Rattle.edl_list.specs.Alike.{IsSameSide, IsSameCross}
use Rattle.edl_text.specs.Columns.{label_text, HasSmallNumbers}
use Rattle.edl_list.specs.Labelled.{IsLabelled, IsBelowDay, outgoing}
use Rattle.edl_text.specs.Rows.{event_lines, lines_with, name_lines, from_head, to_head, has_speed, needs_line, speed_lines_if, written_tenths}
use Rattle.edl_text.specs.Past.{Block, mode_in, blocks_in}
use Rattle.edl_text.specs.Sides as sides
use Rattle.edl_text.specs.Sides.{reel_of, speeds_of, latest, duration, begun, from_side}
use Rattle.edl_text.specs.Events.{event_on, events_of}
use Rattle.edl_text.specs.Lines.{AreSound, event_fault, has_side}
use Rattle.edl_law.specs.Law.{HasName, HasNames}
use Rattle.edl_law.proofs.StatementLemmas.{said_reel, said_event, said_kind}
use Rattle.edl_law.proofs.TestLemmas.{is_less, reel_read}
use Rattle.edl_law.proofs.LabelLemmas.{label_field}
use Rattle.edl_list.specs.declared.layout.Layout.{Layout}
use Rattle.edl_law.proofs.NumberLemmas.{IsNumbered}
use Rattle.edl_law.proofs.LineForms.{event_says}
use Rattle.edl_law.proofs.NoteLemmas.{block, IsBehind, from_note, to_note, sound_append}
use Rattle.edl_law.proofs.SpeedLemmas.{count_some, speed_back}
use Rattle.edl_law.proofs.EventMatches.{Matches, frame_back, cut_sound, pair_sound, events_one, events_none}
use Rattle.edl_law.proofs.SideLemmas.{speed_of_side, speed_note, side_alone, side_out, side_in, speed_in, speed_out, speed_cut, needless, no_link}

-- what is said by the lines of an event behind those before, and the event that is read
pub record Step (rate : Rate) (drop : Bool) (layout : Layout) (number : ℕ) (past : List Statement) (event : Event) : Type 0 where
  pub now : List Statement
  pub read : Event
  pub sound : AreSound rate past (event_lines rate drop layout number event) now
  pub mode : mode_in now ≡ drop
  pub events : events_of rate (blocks_in now) ≡ events_of rate (blocks_in past) ++ read ∷ []
  pub after : length past < read.line
  pub within : read.line ≤ length now
  pub matches : Matches rate event read
  pub latest : Block
  pub before : List Block
  pub latest_is : blocks_in now ≡ latest ∷ before
  pub line : latest.line ≡ read.line

-- an event of these parts
abbrev whole : ℕ → Channel → Side → Cross → ℤ → ℤ → Event
whole line channel to cross rec_in rec_out = record { line = line; channel = channel; to = to; cross = cross; rec_in = rec_in; rec_out = rec_out }

-- what its main line says
abbrev main_said : Rate → Bool → ℕ → Event → EventLine
main_said rate drop number event =
    said_event number event.to.reel event.channel event.cross (label_text rate drop event.to.src_in) (label_text rate drop event.to.src_out) (label_text rate drop event.rec_in) (label_text rate drop event.rec_out)

-- what the first line of a pair says
abbrev first_said : Rate → Bool → ℕ → Event → Side → EventLine
first_said rate drop number event from =
    said_event number from.reel event.channel Cut (label_text rate drop from.src_in) (label_text rate drop from.src_in) (label_text rate drop event.rec_in) (label_text rate drop event.rec_in)

cut_begun : (o : Option Side) → begun kinds.Cut o ≡ Cut
cut_begun None = refl
cut_begun (Some from) = refl

-- what stands alike in an event and the one that is read
to_matches : (rate : Rate) (drop : Bool) (line number : ℕ) (event : Event) (notes : List Statement) (before : List Block) (needed : Bool) → IsLabelled rate drop event
    → 1 ≤ count_of rate → (needed ≡ false → has_speed rate event.to ≡ false)
    → latest (speeds_of (reel_of (said_reel event.to.reel)) notes) ≡ cond needed (Some (written_tenths rate event.to)) None
    → IsSameCross rate event.cross (begun (said_kind event.cross) (from_side rate (block line drop (main_said rate drop number event) notes) before))
    → Matches rate event (event_on rate (block line drop (main_said rate drop number event) notes) before event.channel)
to_matches rate drop line number event notes before needed labels some needless speed cross = record {
  channel = refl;
  rec_in = frame_back rate drop event.rec_in labels.record_in;
  rec_out = frame_back rate drop event.rec_out labels.record_out;
  src_in = frame_back rate drop event.to.src_in labels.source_in;
  src_out = frame_back rate drop event.to.src_out labels.source_out;
  reel = sym (reel_read event.to.reel);
  speed = speed_back rate event.to needed some needless ∙ ap (speed_of (count_of rate)) (sym speed);
  cross = cross;
}

-- the lines of a cut
cut_step : (rate : Rate) (drop : Bool) (layout : Layout) (number line : ℕ) (channel : Channel) (to : Side) (rec_in rec_out : ℤ) (past : List Statement) → let event = whole line channel to Cut rec_in rec_out in
    IsEvent (day_of rate) event → IsLabelled rate drop event → HasNames event → IsNumbered layout number → mode_in past ≡ drop → Step rate drop layout number past event
cut_step rate drop layout number line channel to rec_in rec_out past is labels names few mode =
    let event = whole line channel to Cut rec_in rec_out in
    let says = main_said rate drop number event in
    let at = suc (length past) in
    let before = blocks_in past in
    let count = count_some rate rec_in is.rec_in in
    let t = has_speed rate to in
    let record_span : rec_in ≤ℤ rec_out = let less = is.some in omega (arith, ints, less) in
    let fault : event_fault rate at (block at drop says []) before ≡ None =
    cut_sound rate drop at number to.reel channel to.src_in to.src_out rec_in rec_out [] before labels.source_in labels.source_out labels.record_in labels.record_out is.to.forward record_span in
    let base : IsBehind at drop says before [] (said.Event says ∷ past) = record { blocks = ap (λ m. block at m says [] ∷ before) mode; mode = mode; later = omega arith } in
    let sped = speed_note rate layout at drop says before [] (said.Event says ∷ past) t to is.to labels.source_in count.small (λ _. side_alone at drop says to.reel before refl) base in
    let named = from_note rate at drop says before (cond t (Speed (speed_of_side rate drop to) ∷ []) []) sped.now to.name names.to sped.is in
    let read = event_on rate (block at drop says named.all) before channel in
    record {
      now = named.now;
      read = read;
      sound = (
        said.Event says,
        record {
          says = event_says layout number to.reel channel Cut _ _ _ _ few is.to.reel tt (label_field rate drop to.src_in labels.source_in) (label_field rate drop to.src_out labels.source_out)
              (label_field rate drop rec_in labels.record_in) (label_field rate drop rec_out labels.record_out);
          sound = subst (λ m. event_fault rate at (block at m says []) before ≡ None) (sym mode) fault;
        },
        sound_append rate (speed_lines_if rate drop layout t to) (name_lines from_head to.name) (said.Event says ∷ past) sped.now named.now sped.sound named.sound,
      );
      mode = named.is.mode;
      events = ap (events_of rate) named.is.blocks ∙ ap (λ l. events_of rate before ++ l)
          (events_one rate drop at number to.reel channel Cut _ _ rec_in rec_out named.all before labels.record_in labels.record_out is.some);
      after = omega arith;
      within = named.is.later;
      matches = to_matches rate drop at number event named.all before t labels count.some (λ e. e)
          (ap latest (named.speeds (reel_of (said_reel to.reel))) ∙ speed_cut rate drop t to)
          (subst (IsSameCross rate Cut) (sym (cut_begun (from_side rate (block at drop says named.all) before))) tt);
      latest = block at drop says named.all;
      before = before;
      latest_is = named.is.blocks;
      line = refl;
    }

-- the incoming side of a pair has room for its M2 line
room : (rate : Rate) (drop : Bool) (at one : ℕ) (says first : EventLine) (to from : Side) (old : List Block) (f : Bool) → says.reel ≡ said_reel to.reel → first.reel ≡ said_reel from.reel
    → nat_lt 0 (duration says.kind) ≡ true → has_side to.reel (block at drop says (cond f (Speed (speed_of_side rate drop from) ∷ []) []) ∷ block one drop first [] ∷ old) ≡ true
room rate drop at one says first to from old true e h lasting = side_in at one drop says first to.reel from.reel (written_tenths rate from) (label_text rate drop from.src_in) old e h lasting
room rate drop at one says first to from old false e h lasting = side_alone at drop says to.reel (block one drop first [] ∷ old) e

picked_side : (p : Bool) (side : Side) → p ≡ true → (if p then Some side else None) ≡ Some side
picked_side p side e = rw e refl

-- the lines of a dissolve or wipe
pair_step : (rate : Rate) (drop : Bool) (layout : Layout) (number line frames : ℕ) (channel : Channel) (to from : Side) (cross : Cross) (rec_in rec_out : ℤ) (past : List Statement)
    → let event = whole line channel to cross rec_in rec_out in
    IsEvent (day_of rate) event → IsLabelled rate drop event → HasNames event → IsNumbered layout number → mode_in past ≡ drop
    → outgoing cross ≡ Some from → HasSmallNumbers cross → duration (said_kind cross) ≡ frames → AreFrames frames rec_in rec_out → IsSide (day_of rate) from → IsBelowDay rate drop from.src_in → HasName from
    → ((other : Side) → IsSameSide rate from other → IsSameCross rate cross (begun (said_kind cross) (Some other)))
    → Step rate drop layout number past event
pair_step rate drop layout number line frames channel to from cross rec_in rec_out past is labels names few mode out small lasts span from_is from_below from_named alike =
    let event = whole line channel to cross rec_in rec_out in
    let first = first_said rate drop number event from in
    let says = main_said rate drop number event in
    let one = suc (length past) in
    let at = suc (length (said.Event first ∷ past)) in
    let old = blocks_in past in
    let outer = block one drop first [] in
    let before = outer ∷ old in
    let middle = said.Event first ∷ past in
    let count = count_some rate rec_in is.rec_in in
    let f = has_speed rate from in
    let t = needs_line rate to (Some from) in
    let some : 1 ≤ frames = span.some in
    let lasting : nat_lt 0 (duration says.kind) ≡ true = is_less 0 (duration (said_kind cross)) (omega (arith, lasts, some)) in
    let record_span : rec_in ≤ℤ rec_out = let less = is.some in omega (arith, ints, less) in
    let same_in : from.src_in ≤ℤ from.src_in = omega (arith, ints) in
    let same_record : rec_in ≤ℤ rec_in = omega (arith, ints) in
    let first_fault : event_fault rate one (block one drop first []) old ≡ None =
    cut_sound rate drop one number from.reel channel from.src_in from.src_in rec_in rec_in [] old from_below from_below labels.record_in labels.record_in same_in same_record in
    let fault : event_fault rate at (block at drop says []) before ≡ None =
    pair_sound rate drop at one number frames to.reel from.reel channel cross from.src_in to.src_in to.src_out rec_in rec_out [] old from_below labels.source_in labels.source_out labels.record_in labels.record_out
    is.to.forward record_span lasts span.inside in
    let base : IsBehind at drop says before [] (said.Event says ∷ middle) = record { blocks = ap (λ m. block at m says [] ∷ block one m first [] ∷ old) mode; mode = mode; later = omega arith } in
    let out_sped = speed_note rate layout at drop says before [] (said.Event says ∷ middle) f from from_is from_below count.small (λ _. side_out at one drop says first from.reel old refl lasting) base in
    let out_notes = cond f (Speed (speed_of_side rate drop from) ∷ []) [] in
    let sped = speed_note rate layout at drop says before out_notes out_sped.now t to is.to labels.source_in count.small
    (λ _. room rate drop at one says first to from old f refl refl lasting) out_sped.is in
    let notes = cond t (Speed (speed_of_side rate drop to) ∷ out_notes) out_notes in
    let from_names = from_note rate at drop says before notes sped.now from.name from_named sped.is in
    let named = to_note rate at drop says before from_names.all from_names.now to.name names.to from_names.is in
    let this = block at drop says named.all in
    let read = event_on rate this before channel in
    let speeds = λ (r : _). named.speeds r ∙ from_names.speeds r in
    let link = no_link rate to from from_is.reel is.to.reel in
    let other = sides.outgoing rate this outer in
    let same : IsSameSide rate from other = record {
      reel = sym (reel_read from.reel);
      src_in = sym (frame_back rate drop from.src_in from_below);
      speed = speed_back rate from f count.some (λ e. e) ∙ ap (speed_of (count_of rate)) (sym
          (ap (sides.outgoing_speed (sides.is_one_reel (reel_of (said_reel from.reel)) (reel_of (said_reel to.reel)))) (speeds (reel_of (said_reel from.reel))) ∙ speed_out rate drop t f to from link));
    } in
    record {
      now = named.now;
      read = read;
      sound = subst (λ o. AreSound rate past (lines_with rate drop layout number event o) named.now) (sym out) (
        said.Event first,
        record {
          says = event_says layout number from.reel channel Cut _ _ _ _ few from_is.reel tt (label_field rate drop from.src_in from_below) (label_field rate drop from.src_in from_below)
              (label_field rate drop rec_in labels.record_in) (label_field rate drop rec_in labels.record_in);
          sound = subst (λ m. event_fault rate one (block one m first []) old ≡ None) (sym mode) first_fault;
        },
        (
          said.Event says,
          record {
            says = event_says layout number to.reel channel cross _ _ _ _ few is.to.reel small (label_field rate drop to.src_in labels.source_in) (label_field rate drop to.src_out labels.source_out)
                (label_field rate drop rec_in labels.record_in) (label_field rate drop rec_out labels.record_out);
            sound = subst (λ m. event_fault rate at (block at m says []) (block one m first [] ∷ old) ≡ None) (sym mode) fault;
          },
          sound_append rate (speed_lines_if rate drop layout f from ++ speed_lines_if rate drop layout t to) (name_lines from_head from.name ++ name_lines to_head to.name) (said.Event says ∷ middle) sped.now named.now
              (sound_append rate (speed_lines_if rate drop layout f from) (speed_lines_if rate drop layout t to) (said.Event says ∷ middle) out_sped.now sped.now out_sped.sound sped.sound)
              (sound_append rate (name_lines from_head from.name) (name_lines to_head to.name) sped.now from_names.now named.now from_names.sound named.sound),
        ),
      );
      mode = named.is.mode;
      events = ap (events_of rate) named.is.blocks ∙ ap₂ (λ k l. k ++ l)
          (ap (λ l. events_of rate old ++ l) (events_none rate drop one number from.reel channel Cut _ _ _ [] old) ∙ append-nil (events_of rate old))
          (events_one rate drop at number to.reel channel cross _ _ rec_in rec_out named.all before labels.record_in labels.record_out is.some);
      after = omega arith;
      within = named.is.later;
      matches = to_matches rate drop at number event named.all before t labels count.some (needless rate to from)
          (ap latest (speeds (reel_of (said_reel to.reel))) ∙ speed_in rate drop t f to from link)
          (subst (λ o. IsSameCross rate cross (begun (said_kind cross) o)) (sym (picked_side (nat_lt 0 (duration (said_kind cross))) other lasting)) (alike other same));
      latest = this;
      before = before;
      latest_is = named.is.blocks;
      line = refl;
    }

by_cross : (rate : Rate) (drop : Bool) (layout : Layout) (number line : ℕ) (channel : Channel) (to : Side) (cross : Cross) (rec_in rec_out : ℤ) (past : List Statement) → let event = whole line channel to cross rec_in rec_out in
    IsEvent (day_of rate) event → IsLabelled rate drop event → HasNames event → IsNumbered layout number → mode_in past ≡ drop → Step rate drop layout number past event
by_cross rate drop layout number line channel to Cut rec_in rec_out past is labels names few mode = cut_step rate drop layout number line channel to rec_in rec_out past is labels names few mode
by_cross rate drop layout number line channel to (Dissolve frames from) rec_in rec_out past is labels names few mode =
    pair_step rate drop layout number line frames channel to from (Dissolve frames from) rec_in rec_out past is labels names few mode refl is.cross.0.few refl is.cross.0 is.cross.1 labels.outgoing_in names.from
    (λ other same. (refl, same))
by_cross rate drop layout number line channel to (Wipe code frames from) rec_in rec_out past is labels names few mode =
    pair_step rate drop layout number line frames channel to from (Wipe code frames from) rec_in rec_out past is labels names few mode refl (is.cross.0, is.cross.1.few) refl is.cross.1 is.cross.2 labels.outgoing_in names.from
    (λ other same. (refl, refl, same))

-- the lines of an event
pub step : (rate : Rate) (drop : Bool) (layout : Layout) (number : ℕ) (event : Event) (past : List Statement) → IsEvent (day_of rate) event → IsLabelled rate drop event → HasNames event → IsNumbered layout number → mode_in past ≡ drop
    → Step rate drop layout number past event
step rate drop layout number event past is labels names few mode = by_cross rate drop layout number event.line event.channel event.to event.cross event.rec_in event.rec_out past is labels names few mode
