-- The lines of all events, one event after another.
use Rattle.std.proofs.Common.{◌≡◌, ◌<◌, ◌≤◌, ◌+◌, ◌^◌, ℕ, Bool, List, [], ◌∷◌, ◌++◌, All, length, refl, sym, ap, ◌∙◌, append-nil, append_assoc, arith}
use Rattle.std.proofs.lemmas.List.Elements.{All-head, All-tail}
use Rattle.tick_time.specs.declared.rates.Rate.{Rate}
use Rattle.edl_text.specs.Statements.{Statement}
use Rattle.edl_list.specs.declared.list.Event.{Event}
use Rattle.edl_list.specs.Formed.{IsEvent}
use Rattle.edl_list.specs.Speeds.{day_of}
use Rattle.edl_list.specs.Alike.{IsSameEvent, AreSame}
use Rattle.edl_list.specs.Labelled.{IsLabelled}
use Rattle.edl_list.specs.declared.layout.Layout.{Layout}
use Rattle.edl_text.specs.Columns.{AreWidths}
use Rattle.edl_text.specs.Rows.{event_lines}
use Rattle.edl_text.specs.Spelling.{lines_from}
use Rattle.edl_text.specs.Past.{mode_in, blocks_in}
use Rattle.edl_text.specs.Events.{events_of}
use Rattle.edl_text.specs.Lines.{AreSound}
use Rattle.edl_law.specs.Law.{HasNames}
use Rattle.edl_law.proofs.NoteLemmas.{sound_append}
use Rattle.edl_law.proofs.EventMatches.{Matches}
use Rattle.edl_law.proofs.EventSteps.{step}

-- the lines of these events rise, and lie after this one
abbrev pub AreRising : ℕ → List Event → Type 0
AreRising low [] = Unit {0}
AreRising low (event ∷ events) = (low < event.line) × AreRising event.line events

-- they rise from an earlier line too
pub rising_from : (low high : ℕ) (events : List Event) → low ≤ high → AreRising high events → AreRising low events
rising_from low high [] h r = tt
rising_from low high (event ∷ events) h r = (omega (arith, h, r.0), r.1)

-- event by event
abbrev pub AreMatched : Rate → List Event → List Event → Type 0
AreMatched rate [] [] = Unit {0}
AreMatched rate [] (y ∷ ys) = ⊥
AreMatched rate (x ∷ xs) [] = ⊥
AreMatched rate (x ∷ xs) (y ∷ ys) = Matches rate x y × AreMatched rate xs ys

-- what the lines of events say behind those before
pub record Walk (rate : Rate) (drop : Bool) (layout : Layout) (number : ℕ) (past : List Statement) (events : List Event) : Type 0 where
  pub now : List Statement
  pub read : List Event
  pub sound : AreSound rate past (lines_from rate drop layout number events) now
  pub mode : mode_in now ≡ drop
  pub events_are : events_of rate (blocks_in now) ≡ events_of rate (blocks_in past) ++ read
  pub rising : AreRising (length past) read
  pub matched : AreMatched rate events read

pub walk : (rate : Rate) (drop : Bool) (layout : Layout) (number : ℕ) (events : List Event) (past : List Statement) → All (IsEvent (day_of rate)) events → All (IsLabelled rate drop) events → All HasNames events
    → AreWidths layout → number + length events ≤ 10 ^ layout.number_width → mode_in past ≡ drop → Walk rate drop layout number past events
walk rate drop layout number [] past is labels names widths few mode = record {
  now = past;
  read = [];
  sound = refl;
  mode = mode;
  events_are = sym (append-nil (events_of rate (blocks_in past)));
  rising = tt;
  matched = tt;
}
walk rate drop layout number (event ∷ events) past is labels names widths few mode =
    let one = step rate drop layout number event past (All-head (IsEvent (day_of rate)) event events is) (All-head (IsLabelled rate drop) event events labels) (All-head HasNames event events names) (record { some = widths.some; few = widths.few; below = omega (arith, few) }) mode in
    let rest = walk rate drop layout (number + 1) events one.now (All-tail (IsEvent (day_of rate)) event events is) (All-tail (IsLabelled rate drop) event events labels) (All-tail HasNames event events names)
    widths (omega (arith, few)) one.mode in
    record {
      now = rest.now;
      read = one.read ∷ rest.read;
      sound = sound_append rate (event_lines rate drop layout number event) (lines_from rate drop layout (number + 1) events) past one.now rest.now one.sound rest.sound;
      mode = rest.mode;
      events_are = rest.events_are ∙ ap (λ l. l ++ rest.read) one.events ∙ append_assoc (events_of rate (blocks_in past)) (one.read ∷ []) rest.read;
      rising = (one.after, rising_from one.read.line (length one.now) rest.read one.within rest.rising);
      matched = (one.matches, rest.matched);
    }

same_event : (rate : Rate) (a b : Event) → Matches rate a b → IsSameEvent rate a b
same_event rate a b m = record {
  channel = sym m.channel;
  to = record { reel = m.reel; src_in = sym m.src_in; speed = m.speed };
  cross = m.cross;
  rec_in = sym m.rec_in;
  rec_out = sym m.rec_out;
}

-- events that match are the same
pub matched_same : (rate : Rate) (xs ys : List Event) → AreMatched rate xs ys → AreSame rate xs ys
matched_same rate [] [] h = tt
matched_same rate [] (y ∷ ys) h = h
matched_same rate (x ∷ xs) [] h = h
matched_same rate (x ∷ xs) (y ∷ ys) h = (same_event rate x y h.0, matched_same rate xs ys h.1)
