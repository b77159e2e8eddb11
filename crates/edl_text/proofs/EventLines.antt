-- What is kept when an event line is taken, and its faults.
use Rattle.std.proofs.Common.{◌≡◌, ℕ, zero, suc, ◌<◌, ◌==◌, append-nil, if◌then◌else◌, ◌&&◌, Bool, true, false, not, cond, nat_lt, pos, List, [], ◌∷◌, ◌++◌, map, Option, Some, None, unwrap_or, refl, sym, ap, subst, ◌∙◌, arith}
use Rattle.std.specs.Option.{option_or}
use Rattle.std.proofs.lemmas.Bool.Decides.{nat_tests}
use Rattle.tick_time.specs.declared.rates.Rate.{Rate}
use Rattle.edl_text.specs.Statements.{Statement, EventLine, Event}
use Rattle.edl_text.specs.Views.{event_said}
use Rattle.edl_text.specs.declared.statement_types.EventLine as lines
use Rattle.edl_text.specs.declared.statement_types.Channels.{Channels}
use Rattle.edl_text.specs.declared.statement_types.Kind.{Kind}
use Rattle.edl_text.specs.declared.statement_types.Kind.TheVariants as kinds
use Rattle.edl_list.specs.declared.list.Event as listed
use Rattle.edl_list.specs.declared.list.Side.{Side}
use Rattle.edl_text.specs.declared.faults.EdlFault.{EdlFault}
use Rattle.edl_text.specs.declared.faults.EdlFault.TheVariants.{Form, Timecode, Order}
use Rattle.edl_text.specs.declared.event_frames.Frames.{Frames}
use Rattle.edl_text.specs.declared.open_event.Pending.{Pending}
use Rattle.edl_text.specs.declared.list_so_far.Said.{Said}
use Rattle.smpte_tc.specs.Frames.{label_frame}
use Rattle.edl_text.specs.Past.{Block, line_behind, mode_in, first_mode_in, block_behind, blocks_in}
use Rattle.edl_text.specs.Sides.{duration, is_cut, has_labels, source_in, source_out, record_in, record_out, speeds_of, latest, outgoing_speed, reel_at, is_pair, incoming, outgoing, from_side, begun, is_one_reel}
use Rattle.edl_text.specs.Events.{channels_of, events_at, events_of}
use Rattle.edl_text.specs.Lines.{follows_cut, runs_back, misses, first_of, fault_behind, are_same_channels}
use Rattle.edl_text.specs.StateSides.{side_of}
use Rattle.edl_text.specs.StateSaid.{are_labels, AreFrames, run_back, is_first_line, misses_by, from_end, closed_from, events_given, closed_events, pending_of, Begins, IsPending, Hold, Stands, StandsAtNext}

-- the four frames of a block, where its labels were read
pub record HasFrames (rate : Rate) (block : Block) (frames : Frames) : Type 0 where
  pub source_in : source_in rate block ≡ frames.source_in
  pub source_out : source_out rate block ≡ frames.source_out
  pub record_in : record_in rate block ≡ frames.record_in
  pub record_out : record_out rate block ≡ frames.record_out

pub has_frames : (rate : Rate) (past : List Statement) (event : lines.EventLine) (old : Said) (frames : Frames) → StandsAtNext rate past old → AreFrames old.rate old.drop event.labels frames
    → HasFrames rate (block_behind past (event_said event)) frames
has_frames rate past event old frames h f =
    let d = h.holds.drop in
    let r = h.holds.counted in
    let read : (label : List ℕ) (n : ℕ) → label_frame old.rate old.drop label ≡ Some n → unwrap_or (label_frame rate (mode_in past) label) 0 ≡ n =
    λ label n e. ap (λ o. unwrap_or o 0) (ap (λ x. label_frame rate x label) (sym d) ∙ ap (λ (x : Rate). label_frame x old.drop label) (sym r) ∙ e) in
    record {
      source_in = read event.labels.source_in.now frames.source_in f.source_in;
      source_out = read event.labels.source_out.now frames.source_out f.source_out;
      record_in = read event.labels.record_in.now frames.record_in f.record_in;
      record_out = read event.labels.record_out.now frames.record_out f.record_out;
    }

pub labels_read : (rate : Rate) (past : List Statement) (event : lines.EventLine) (old : Said) (b : Bool) → StandsAtNext rate past old → are_labels old.rate old.drop event.labels ≡ b
    → has_labels rate (block_behind past (event_said event)) ≡ b
labels_read rate past event old b h e =
    ap (λ d. are_labels rate d event.labels) (sym h.holds.drop) ∙ ap (λ (r : Rate). are_labels r old.drop event.labels) (sym h.holds.counted) ∙ e

-- the first line of a pair, as the latest event line has it
first_is : (rate : Rate) (o : Option Pending) (events : List listed.Event) (blocks : List Block) (block : Block) → Hold rate o events blocks
    → is_first_line o block.says.number block.says.channels ≡ follows_cut block blocks
first_is rate None events [] block h = refl
first_is rate None events (before ∷ blocks) block h = absurd h
first_is rate (Some p) events [] block h = absurd h
first_is rate (Some p) events (before ∷ blocks) block h = rw (h.0.kind, h.0.number, h.0.channels) refl

-- whether it is missed
misses_is : (rate : Rate) (o : Option Pending) (events : List listed.Event) (blocks : List Block) (block : Block) (frames : Frames) → Hold rate o events blocks → HasFrames rate block frames
    → misses_by o block.says.kind frames ≡ misses rate block blocks
misses_is rate None events [] block frames h f = refl
misses_is rate None events (before ∷ blocks) block frames h f = absurd h
misses_is rate (Some p) events [] block frames h f = absurd h
misses_is rate (Some p) events (before ∷ blocks) block frames h f = rw (← h.0.record_out, ← f.record_in, ← f.record_out) refl

back_is : (rate : Rate) (block : Block) (frames : Frames) → HasFrames rate block frames → run_back frames ≡ runs_back rate block
back_is rate block frames f = rw (← f.source_in, ← f.source_out, ← f.record_in, ← f.record_out) refl

-- an event line of these parts, one event for each channel
events_from : ℕ → Channels → Side → Kind → Option Side → ℕ → ℕ → List listed.Event
events_from line channels to kind from a b =
    if a == b then [] else map (λ channel. record { line = line; channel = channel; to = to; cross = begun kind from; rec_in = pos a; rec_out = pos b }) (channels_of channels)

given_parts : (p : Pending) → events_given p ≡ events_from p.line p.channels p.to p.kind p.from p.frames.record_in p.frames.record_out
unfolding events_from
given_parts p = refl

at_parts : (rate : Rate) (block : Block) (before : List Block)
    → events_at rate block before ≡ events_from block.line block.says.channels (incoming rate block before) block.says.kind (from_side rate block before) (record_in rate block) (record_out rate block)
unfolding events_from
at_parts rate block before = refl

parts_same : (rate : Rate) (p : Pending) (block : Block) (before : List Block) → IsPending rate p block before
    → events_from p.line p.channels p.to p.kind p.from p.frames.record_in p.frames.record_out
    ≡ events_from block.line block.says.channels (incoming rate block before) block.says.kind (from_side rate block before) (record_in rate block) (record_out rate block)
parts_same rate p block before h = rw (h.line, h.channels, h.to, h.kind, h.from, ← h.record_in, ← h.record_out) refl

-- the events of the latest event line are those of its block
pub given_is : (rate : Rate) (p : Pending) (block : Block) (before : List Block) → IsPending rate p block before → events_given p ≡ events_at rate block before
given_is rate p block before h = given_parts p ∙ parts_same rate p block before h ∙ sym (at_parts rate block before)

-- all events, once the latest event line is done
pub closed_is : (rate : Rate) (o : Option Pending) (events : List listed.Event) (blocks : List Block) → Hold rate o events blocks → events ++ closed_events o ≡ events_of rate blocks
closed_is rate None events [] h = append-nil events ∙ h
closed_is rate None events (block ∷ before) h = absurd h
closed_is rate (Some p) events [] h = absurd h
closed_is rate (Some p) events (block ∷ before) h = ap (λ l. l ++ events_given p) h.1 ∙ ap (λ l. events_of rate before ++ l) (given_is rate p block before h.0)

-- the incoming side of a new event line
either : {X : Type 0} (t : Bool) (x : X) → cond t x x ≡ x
either true x = refl
either false x = refl

fresh : (rate : Rate) (block : Block) (before : List Block) (frames : Frames) → block.notes ≡ [] → HasFrames rate block frames → side_of (reel_at block) frames ≡ incoming rate block before
fresh rate block [] frames n f = rw (n, f.source_in, f.source_out) refl
fresh rate block (a ∷ others) frames n f = rw (n, f.source_in, f.source_out, either {X = Option (List ℕ)} (nat_lt 0 (duration block.says.kind)) None) refl

-- and its outgoing side
no_pair : (a : Block) (others : List Block) (k : Kind) → a.says.kind ≡ k → is_cut k ≡ true → is_pair a others ≡ false
no_pair a [] k e h = refl
no_pair a (x ∷ xs) kinds.Cut e h = rw e refl
no_pair a (x ∷ xs) (kinds.Dissolve n) e h = cc h
no_pair a (x ∷ xs) (kinds.Wipe c n) e h = cc h

or_none : (o : Option ℕ) → option_or o None ≡ o
or_none None = refl
or_none (Some n) = refl

none_yet : (z : Bool) → outgoing_speed z [] ≡ None
none_yet true = refl
none_yet false = refl

end_is : (rate : Rate) (block a : Block) (others : List Block) → block.notes ≡ [] → is_pair a others ≡ false → from_end (incoming rate a others) ≡ outgoing rate block a
end_is rate block a others n e =
    rw (e, n, none_yet (is_one_reel (reel_at a) (reel_at block)), or_none (latest (speeds_of (reel_at a) a.notes))) refl

and_first : (a b : Bool) → a && b ≡ true → a ≡ true
and_first true b e = refl
and_first false b e = cc e

cut_of : (b c d : Bool) → not (b && c && d) ≡ false → b ≡ true
cut_of true c d e = refl
cut_of false c d e = cc e

first_cut : (kind : Kind) (block a : Block) (others : List Block) → 0 < duration kind → not (is_cut kind) && not (follows_cut block (a ∷ others)) ≡ false → is_cut a.says.kind ≡ true
first_cut kinds.Cut block a others h e = absurd (omega (arith, h))
first_cut (kinds.Dissolve n) block a others h e = cut_of (is_cut a.says.kind) (a.says.number == block.says.number) (are_same_channels a.says.channels block.says.channels) e
first_cut (kinds.Wipe c n) block a others h e = cut_of (is_cut a.says.kind) (a.says.number == block.says.number) (are_same_channels a.says.channels block.says.channels) e

some_none : {X : Type 0} (n : ℕ) (x y : X) → (0 < n → x ≡ y) → cond (n == 0) None (Some x) ≡ cond (nat_lt 0 n) (Some y) None
some_none zero x y h = refl
some_none (suc n) x y h =
    let a : (suc n == 0) ≡ false = grind (arith, nat_tests) in
    let b : nat_lt 0 (suc n) ≡ true = grind (arith, nat_tests) in
    let s : 0 < suc n = omega arith in
    rw (a, b) (ap Some (h s))

from_is : (rate : Rate) (o : Option Pending) (events : List listed.Event) (blocks : List Block) (block : Block) → block.notes ≡ [] → Hold rate o events blocks
    → not (is_cut block.says.kind) && not (follows_cut block blocks) ≡ false → closed_from o block.says.kind ≡ from_side rate block blocks
from_is rate None events [] block n h lone = refl
from_is rate None events (a ∷ others) block n h lone = absurd h
from_is rate (Some p) events [] block n h lone = absurd h
from_is rate (Some p) events (a ∷ others) block n h lone =
    some_none (duration block.says.kind) (from_end p.to) (outgoing rate block a)
    (λ some. ap from_end h.0.to ∙ end_is rate block a others n (no_pair a others a.says.kind refl (first_cut block.says.kind block a others some lone)))

-- the new event line is that of its block
begun_is : (rate : Rate) (past : List Statement) (event : EventLine) (frames : Frames) (old : Said) → StandsAtNext rate past old → HasFrames rate (block_behind past event) frames
    → not (is_cut event.kind) && not (follows_cut (block_behind past event) (blocks_in past)) ≡ false
    → IsPending rate (pending_of event frames old) (block_behind past event) (blocks_in past)
begun_is rate past event frames old h f lone = record {
  line = h.line;
  number = refl;
  channels = refl;
  kind = refl;
  source_in = f.source_in;
  source_out = f.source_out;
  record_in = f.record_in;
  record_out = f.record_out;
  to = fresh rate (block_behind past event) (blocks_in past) frames refl f;
  from = from_is rate old.pending old.events.items (blocks_in past) (block_behind past event) refl h.holds.lines lone;
}

pub began : (rate : Rate) (past : List Statement) (event : EventLine) (frames : Frames) (old new : Said) → StandsAtNext rate past old → HasFrames rate (block_behind past event) frames
    → not (is_cut event.kind) && not (follows_cut (block_behind past event) (blocks_in past)) ≡ false → Begins event frames old new → Stands rate (Event event ∷ past) new
began rate past event frames old new h f lone b = record {
  line = b.line ∙ h.line;
  holds = record {
    counted = b.counted ∙ h.holds.counted;
    title = b.title ∙ h.holds.title;
    drop = b.drop ∙ h.holds.drop;
    first = b.first ∙ ap (λ o. Some (unwrap_or o old.drop)) h.holds.first ∙ ap (λ d. Some (unwrap_or (first_mode_in past) d)) h.holds.drop;
    lines =
        subst (λ o. Hold rate o new.events.items (blocks_in (Event event ∷ past))) (sym b.pending)
        (begun_is rate past event frames old h f lone, b.events ∙ closed_is rate old.pending old.events.items (blocks_in past) h.holds.lines);
  };
}

-- the four tests
tests : (a b c d : Bool) (n : ℕ) → Option EdlFault
tests a b c d n = first_of ((a, Form n) ∷ (not b, Timecode n) ∷ (c, Order n) ∷ (d, Order n) ∷ [])

behind : (rate : Rate) (past : List Statement) (event : EventLine) (a b c d : Bool) → not (is_cut event.kind) && not (follows_cut (block_behind past event) (blocks_in past)) ≡ a
    → has_labels rate (block_behind past event) ≡ b → runs_back rate (block_behind past event) ≡ c → misses rate (block_behind past event) (blocks_in past) ≡ d
    → fault_behind rate past (Event event) ≡ tests a b c d (line_behind past)
unfolding tests
behind rate past event a b c d e f g h =
    ap (λ x. first_of ((x, Form (line_behind past)) ∷ (not (has_labels rate (block_behind past event)), Timecode (line_behind past)) ∷ (runs_back rate (block_behind past event), Order (line_behind past))
    ∷ (misses rate (block_behind past event) (blocks_in past), Order (line_behind past)) ∷ [])) e
    ∙ ap (λ x. first_of ((a, Form (line_behind past)) ∷ (not x, Timecode (line_behind past)) ∷ (runs_back rate (block_behind past event), Order (line_behind past))
    ∷ (misses rate (block_behind past event) (blocks_in past), Order (line_behind past)) ∷ [])) f
    ∙ ap (λ x. first_of ((a, Form (line_behind past)) ∷ (not b, Timecode (line_behind past)) ∷ (x, Order (line_behind past))
    ∷ (misses rate (block_behind past event) (blocks_in past), Order (line_behind past)) ∷ [])) g
    ∙ ap (λ x. first_of ((a, Form (line_behind past)) ∷ (not b, Timecode (line_behind past)) ∷ (c, Order (line_behind past)) ∷ (x, Order (line_behind past)) ∷ [])) h

lone_is : (rate : Rate) (past : List Statement) (event : EventLine) (old : Said) (b : Bool) → StandsAtNext rate past old → not (is_cut event.kind) && not (is_first_line old.pending event.number event.channels) ≡ b
    → not (is_cut event.kind) && not (follows_cut (block_behind past event) (blocks_in past)) ≡ b
lone_is rate past event old b h e = ap (λ x. not (is_cut event.kind) && not x) (sym (first_is rate old.pending old.events.items (blocks_in past) (block_behind past event) h.holds.lines)) ∙ e

pub event_lone : (rate : Rate) (past : List Statement) (event : EventLine) (old : Said) → StandsAtNext rate past old
    → not (is_cut event.kind) && not (is_first_line old.pending event.number event.channels) ≡ true → fault_behind rate past (Event event) ≡ Some (Form old.line)
unfolding tests
event_lone rate past event old h e =
    behind rate past event true (has_labels rate (block_behind past event)) (runs_back rate (block_behind past event)) (misses rate (block_behind past event) (blocks_in past)) (lone_is rate past event old true h e) refl refl refl
    ∙ ap (λ n. Some (Form n)) (sym h.line)

pub event_unread : (rate : Rate) (past : List Statement) (event : lines.EventLine) (old : Said) → StandsAtNext rate past old
    → not (is_cut event.kind) && not (is_first_line old.pending event.number event.channels) ≡ false → are_labels old.rate old.drop event.labels ≡ false
    → fault_behind rate past (Event (event_said event)) ≡ Some (Timecode old.line)
unfolding tests
event_unread rate past event old h e f =
    let said = event_said event in
    behind rate past said false false (runs_back rate (block_behind past said)) (misses rate (block_behind past said) (blocks_in past)) (lone_is rate past said old false h e) (labels_read rate past event old false h f) refl refl
    ∙ ap (λ n. Some (Timecode n)) (sym h.line)

pub event_back : (rate : Rate) (past : List Statement) (event : lines.EventLine) (old : Said) (frames : Frames) → StandsAtNext rate past old
    → not (is_cut event.kind) && not (is_first_line old.pending event.number event.channels) ≡ false → are_labels old.rate old.drop event.labels ≡ true → AreFrames old.rate old.drop event.labels frames
    → run_back frames ≡ true → fault_behind rate past (Event (event_said event)) ≡ Some (Order old.line)
unfolding tests
event_back rate past event old frames h e f g b =
    let said = event_said event in
    behind rate past said false true true (misses rate (block_behind past said) (blocks_in past)) (lone_is rate past said old false h e) (labels_read rate past event old true h f)
    (sym (back_is rate (block_behind past said) frames (has_frames rate past event old frames h g)) ∙ b) refl
    ∙ ap (λ n. Some (Order n)) (sym h.line)

pub event_apart : (rate : Rate) (past : List Statement) (event : lines.EventLine) (old : Said) (frames : Frames) → StandsAtNext rate past old
    → not (is_cut event.kind) && not (is_first_line old.pending event.number event.channels) ≡ false → are_labels old.rate old.drop event.labels ≡ true → AreFrames old.rate old.drop event.labels frames
    → run_back frames ≡ false → misses_by old.pending event.kind frames ≡ true → fault_behind rate past (Event (event_said event)) ≡ Some (Order old.line)
unfolding tests
event_apart rate past event old frames h e f g b m =
    let said = event_said event in
    let are = has_frames rate past event old frames h g in
    behind rate past said false true false true (lone_is rate past said old false h e) (labels_read rate past event old true h f)
    (sym (back_is rate (block_behind past said) frames are) ∙ b) (sym (misses_is rate old.pending old.events.items (blocks_in past) (block_behind past said) frames h.holds.lines are) ∙ m)
    ∙ ap (λ n. Some (Order n)) (sym h.line)

pub took_event : (rate : Rate) (past : List Statement) (event : lines.EventLine) (old new : Said) (frames : Frames) → StandsAtNext rate past old
    → not (is_cut event.kind) && not (is_first_line old.pending event.number event.channels) ≡ false → are_labels old.rate old.drop event.labels ≡ true → AreFrames old.rate old.drop event.labels frames
    → run_back frames ≡ false → misses_by old.pending event.kind frames ≡ false → Begins (event_said event) frames old new
    → (fault_behind rate past (Event (event_said event)) ≡ None) × Stands rate (Event (event_said event) ∷ past) new
unfolding tests
took_event rate past event old new frames h e f g b m begins =
    let said = event_said event in
    let are = has_frames rate past event old frames h g in
    let lone = lone_is rate past said old false h e in (
      behind rate past said false true false false lone (labels_read rate past event old true h f)
          (sym (back_is rate (block_behind past said) frames are) ∙ b) (sym (misses_is rate old.pending old.events.items (blocks_in past) (block_behind past said) frames h.holds.lines are) ∙ m),
      began rate past said frames old new h are lone begins,
    )
