-- The lines of a list: what is wrong with a line behind those before it, and the first line that
-- has a fault.
use Rattle.std.specs.Prelude.{◌≡◌, ◌⊎◌, ℕ, ◌+◌, ◌-◌, ◌==◌, ◌&&◌, ◌||◌, Bool, true, false, not, cond, nat_lt, List, [], ◌∷◌, Option, Some, None, is_none, length, if◌then◌else◌}
use Rattle.std.specs.Str.{is_utf8}
use Rattle.tick_time.specs.declared.rates.Rate.{Rate}
use Rattle.edl_text.specs.Statements.{Statement, SpeedLine, Nothing, Title, Mode, Event, Speed, FromName, ToName}
use Rattle.edl_text.specs.Saying.{Says, HasFault}
use Rattle.edl_text.specs.declared.statement_types.Channels.{Channels}
use Rattle.edl_text.specs.declared.statement_types.LineFault.{LineFault}
use Rattle.edl_text.specs.declared.statement_types.LineFault.TheVariants as line_faults
use Rattle.edl_text.specs.declared.faults.EdlFault.{EdlFault}
use Rattle.edl_text.specs.declared.faults.EdlFault.TheVariants.{Form, Timecode, Order, Key, Split, Reverse}
use Rattle.smpte_tc.specs.Frames.{label_frame}
use Rattle.edl_text.specs.Past.{Block, line_behind, mode_in, title_in, block_behind, blocks_in}
use Rattle.edl_list.specs.declared.list.Reel.{Reel}
use Rattle.edl_text.specs.Sides.{reel_of, reel_at, latest, is_one_reel, duration, is_cut, is_pair, has_labels, source_in, source_out, record_in, record_out, speeds_of}

-- whether two booleans are the same
abbrev pub is_same : Bool → Bool → Bool
is_same true b = b
is_same false b = not b

-- whether two lines have the same channels
abbrev pub are_same_channels : Channels → Channels → Bool
are_same_channels a b =
    is_same a.picture b.picture && is_same a.first_sound b.first_sound
    && is_same a.second_sound b.second_sound

-- whether the event line before this one is a `C` line of the same number and channels
abbrev pub follows_cut : Block → List Block → Bool
follows_cut block [] = false
follows_cut block (before ∷ blocks) =
    is_cut before.says.kind && (before.says.number == block.says.number)
    && are_same_channels before.says.channels block.says.channels

-- whether an out lies before its in
abbrev pub runs_back : Rate → Block → Bool
runs_back rate block =
    nat_lt (source_out rate block) (source_in rate block)
    || nat_lt (record_out rate block) (record_in rate block)

-- whether a `D` or `W` line begins elsewhere in the record than the line before it ends, or lasts
-- longer than its record length
abbrev pub misses : Rate → Block → List Block → Bool
misses rate block [] = false
misses rate block (before ∷ blocks) = not (is_cut block.says.kind)
    && (not (record_out rate before == record_in rate block)
    || nat_lt (record_out rate block - record_in rate block) (duration block.says.kind))

-- 1 where it holds, else 0
abbrev pub one_if : Bool → ℕ
one_if b = cond b 1 0

-- how many sides of that reel M2 lines behind the line may give a speed: its own, and the outgoing
-- one where no M2 line stands between the two lines of the pair
abbrev pub sides_with : Reel → Block → List Block → ℕ
sides_with reel block [] = one_if (is_one_reel reel (reel_at block))
sides_with reel block (before ∷ blocks) = one_if (is_one_reel reel (reel_at block))
    + one_if (is_pair block (before ∷ blocks) && is_one_reel reel (reel_at before)
    && is_none (latest (speeds_of (reel_at before) before.notes)))

-- whether a side of the latest event line has that reel and no M2 line yet
abbrev pub has_side : Reel → List Block → Bool
has_side reel [] = false
has_side reel (block ∷ before) =
    nat_lt (length (speeds_of reel block.notes)) (sides_with reel block before)

-- the first of the faults whose test holds
abbrev pub first_of : List (Bool × EdlFault) → Option EdlFault
first_of [] = None
first_of (rule ∷ rules) = if rule.0 then Some rule.1 else first_of rules

-- the first fault of an event line behind others, at line n
abbrev pub event_fault : Rate → ℕ → Block → List Block → Option EdlFault
event_fault rate n block before = first_of (
    (not (is_cut block.says.kind) && not (follows_cut block before), Form n)
    ∷ (not (has_labels rate block), Timecode n)
    ∷ (runs_back rate block, Order n)
    ∷ (misses rate block before, Order n) ∷ [])

-- the first fault of an M2 line behind event lines, at line n, in drop-frame mode or not
abbrev pub speed_fault : Rate → ℕ → Bool → SpeedLine → List Block → Option EdlFault
speed_fault rate n drop speed blocks = first_of (
    (not (has_side (reel_of speed.reel) blocks), Form n)
    ∷ (is_none (label_frame rate drop speed.label), Timecode n)
    ∷ (speed.reverse, Reverse n) ∷ [])

-- a name note needs an event line before it
abbrev pub note_fault : ℕ → List Block → Option EdlFault
note_fault n blocks = first_of ((length blocks == 0, Form n) ∷ [])

-- the first title must be UTF-8
abbrev pub title_fault : ℕ → List ℕ → Option (List ℕ) → Option EdlFault
title_fault n title before = first_of ((is_none before && not (is_utf8 title), Form n) ∷ [])

-- the first fault of what a line says, behind what the lines before it say
abbrev pub fault_behind : Rate → List Statement → Statement → Option EdlFault
fault_behind rate past Nothing = None
fault_behind rate past (Title title) = title_fault (line_behind past) title (title_in past)
fault_behind rate past (Mode drop) = None
fault_behind rate past (Event event) =
    event_fault rate (line_behind past) (block_behind past event) (blocks_in past)
fault_behind rate past (Speed speed) =
    speed_fault rate (line_behind past) (mode_in past) speed (blocks_in past)
fault_behind rate past (FromName name) = note_fault (line_behind past) (blocks_in past)
fault_behind rate past (ToName name) = note_fault (line_behind past) (blocks_in past)

-- the fault of a line that says nothing, at line n
abbrev pub named : LineFault → ℕ → EdlFault
named line_faults.Key n = Key n
named line_faults.Split n = Split n
named line_faults.Form n = Form n

-- the line says this, behind what the lines before it say, and has no fault
pub record IsSound (rate : Rate) (past : List Statement) (line : List ℕ)
    (statement : Statement) : Type 0 where
  pub says : Says line statement
  pub sound : fault_behind rate past statement ≡ None

-- the line has this fault, by its form, or by what it says behind what the lines before it say
pub data IsFaulty (rate : Rate) (past : List Statement) (line : List ℕ)
    (fault : EdlFault) : Type 0 where
  by_form : (why : LineFault) → HasFault line why → fault ≡ named why (line_behind past)
      → IsFaulty rate past line fault
  by_rule : (statement : Statement) → Says line statement
      → fault_behind rate past statement ≡ Some fault → IsFaulty rate past line fault

-- no line has a fault, and with them all that is said grows from `past` to `now`
abbrev pub AreSound : Rate → List Statement → List (List ℕ) → List Statement → Type 0
AreSound rate past [] now = now ≡ past
AreSound rate past (line ∷ lines) now =
    (statement : Statement) × IsSound rate past line statement
    × AreSound rate (statement ∷ past) lines now

-- the first line that has a fault has this one
abbrev pub HasFirstFault : Rate → List Statement → List (List ℕ) → EdlFault → Type 0
HasFirstFault rate past [] fault = ⊥
HasFirstFault rate past (line ∷ lines) fault =
    IsFaulty rate past line fault ⊎ ((statement : Statement) × IsSound rate past line statement
    × HasFirstFault rate (statement ∷ past) lines fault)
