-- The speeds that are read of the sides of an event.
use Rattle.std.proofs.Common.{◌≡◌, ◌≤◌, ◌+◌, ◌&&◌, ◌||◌, ℕ, Bool, true, false, cond, is_none, nat_lt, List, [], ◌∷◌, Some, None, length, if◌then◌else◌, refl, sym, ap, ap₂, ◌∙◌, arith}
use Rattle.tick_time.specs.declared.rates.Rate.{Rate}
use Rattle.edl_text.specs.Statements as said
use Rattle.edl_text.specs.Statements.{Statement, EventLine, Speed}
use Rattle.edl_list.specs.declared.layout.Layout.{Layout}
use Rattle.edl_list.specs.declared.list.Reel.{Reel}
use Rattle.edl_list.specs.declared.list.Side.{Side}
use Rattle.edl_list.specs.Formed.{IsReel, IsSide}
use Rattle.edl_text.specs.Columns.{label_text}
use Rattle.edl_list.specs.Labelled.{IsBelowDay}
use Rattle.edl_text.specs.Rows.{written_tenths, has_speed, has_one_reel, needs_line, speed_lines_if}
use Rattle.edl_text.specs.Past.{Block}
use Rattle.edl_text.specs.Sides.{reel_of, reel_at, is_one_reel, is_pair, speeds_of, latest, outgoing_speed, duration}
use Rattle.edl_text.specs.Lines.{AreSound, has_side, one_if}
use Rattle.edl_law.proofs.StatementLemmas.{said_reel, said_speed}
use Rattle.edl_law.proofs.TestLemmas.{is_less, same_reel, reel_read, reels_turned, reels_spelled}
use Rattle.edl_law.proofs.LabelLemmas.{frame_known, label_field}
use Rattle.edl_law.proofs.LineForms.{speed_says}
use Rattle.edl_law.proofs.NoteLemmas.{block, IsBehind, behind_speed, speed_sound}
use Rattle.edl_law.proofs.SpeedLemmas.{tenths_small}
use Rattle.edl_list.specs.Speeds.{count_of, day_of}

-- what the M2 line of a side says
abbrev pub speed_of_side : Rate → Bool → Side → said.SpeedLine
speed_of_side rate drop side = said_speed side.reel (written_tenths rate side) (label_text rate drop side.src_in)

-- after the M2 line of a side, where it has one
pub record Sped (rate : Rate) (layout : Layout) (line : ℕ) (drop : Bool) (says : EventLine) (before : List Block) (notes past : List Statement) (needed : Bool) (side : Side) : Type 0 where
  pub now : List Statement
  pub sound : AreSound rate past (speed_lines_if rate drop layout needed side) now
  pub is : IsBehind line drop says before (cond needed (Speed (speed_of_side rate drop side) ∷ notes) notes) now

pub speed_note : (rate : Rate) (layout : Layout) (line : ℕ) (drop : Bool) (says : EventLine) (before : List Block) (notes past : List Statement) (needed : Bool) (side : Side) → IsSide (day_of rate) side
    → IsBelowDay rate drop side.src_in → count_of rate ≤ 60 → (needed ≡ true → has_side side.reel (block line drop says notes ∷ before) ≡ true) → IsBehind line drop says before notes past
    → Sped rate layout line drop says before notes past needed side
speed_note rate layout line drop says before notes past false side is below small side_there h = record { now = past; sound = refl; is = h }
speed_note rate layout line drop says before notes past true side is below small side_there h =
    let speed = speed_of_side rate drop side in
    let tenths = written_tenths rate side in
    let label = label_text rate drop side.src_in in
    record {
      now = Speed speed ∷ past;
      sound = (
        Speed speed,
        record {
          says = speed_says layout side.reel tenths label is.reel (tenths_small rate side is.speed small) (label_field rate drop side.src_in below);
          sound = speed_sound rate drop past side.reel tenths _ label (block line drop says notes ∷ before) h.mode h.blocks (frame_known rate drop side.src_in below) (side_there refl);
        },
        refl,
      );
      is = behind_speed line drop says before notes past speed h;
    }

pub same_said : (reel : Reel) → is_one_reel (reel_of (said_reel reel)) (reel_of (said_reel reel)) ≡ true
same_said reel = same_reel (reel_of (said_reel reel))

has_said : (reel : Reel) → is_one_reel reel (reel_of (said_reel reel)) ≡ true
has_said reel = ap (is_one_reel reel) (reel_read reel) ∙ same_reel reel

room_by : (a b : Bool) → a ≡ true → nat_lt 0 (one_if a + one_if b) ≡ true
room_by a b e = rw e (is_less 0 (1 + one_if b) (omega arith))

room_other : (a b : Bool) → b ≡ true → nat_lt 0 (one_if a + one_if b) ≡ true
room_other a b e = rw e (is_less 0 (one_if a + 1) (omega arith))

alone_by : (a : Bool) → a ≡ true → nat_lt 0 (one_if a) ≡ true
alone_by a e = rw e refl

-- a line that has no M2 line yet has room for one
pub side_alone : (line : ℕ) (drop : Bool) (says : EventLine) (reel : Reel) (before : List Block) → says.reel ≡ said_reel reel → has_side reel (block line drop says [] ∷ before) ≡ true
side_alone line drop says reel [] e = alone_by (is_one_reel reel (reel_of says.reel)) (ap (λ r. is_one_reel reel (reel_of r)) e ∙ has_said reel)
side_alone line drop says reel (first ∷ before) e =
    room_by (is_one_reel reel (reel_of says.reel)) (is_pair (block line drop says []) (first ∷ before) && is_one_reel reel (reel_at first) && is_none (latest (speeds_of (reel_at first) first.notes)))
    (ap (λ r. is_one_reel reel (reel_of r)) e ∙ has_said reel)

three_true : (a b : Bool) → a ≡ true → b ≡ true → (a && b && true) ≡ true
three_true a b e f = rw (e, f) refl

-- the outgoing side of a pair
pub side_out : (line other : ℕ) (drop : Bool) (says first : EventLine) (reel : Reel) (before : List Block) → first.reel ≡ said_reel reel → nat_lt 0 (duration says.kind) ≡ true
    → has_side reel (block line drop says [] ∷ block other drop first [] ∷ before) ≡ true
side_out line other drop says first reel before e lasts =
    room_other (is_one_reel reel (reel_of says.reel)) (nat_lt 0 (duration says.kind) && is_one_reel reel (reel_of first.reel) && true)
    (three_true (nat_lt 0 (duration says.kind)) (is_one_reel reel (reel_of first.reel)) lasts (ap (λ r. is_one_reel reel (reel_of r)) e ∙ has_said reel))

second_by : (s a b c d : Bool) (tenths : ℕ) → a ≡ true → b ≡ true → (s ≡ true → c ≡ true) → nat_lt (length (if s then tenths ∷ [] else [])) (one_if a + one_if (b && c && true)) ≡ true
second_by true a b c d tenths e f g = rw (e, f, g refl) (is_less 1 2 (omega arith))
second_by false a b c d tenths e f g = rw e (is_less 0 (1 + one_if (b && c && true)) (omega arith))

-- the incoming side of a pair whose outgoing side has its M2 line
pub side_in : (line other : ℕ) (drop : Bool) (says first : EventLine) (reel out_reel : Reel) (tenths : ℕ) (label : List ℕ) (before : List Block) → says.reel ≡ said_reel reel → first.reel ≡ said_reel out_reel
    → nat_lt 0 (duration says.kind) ≡ true → has_side reel (block line drop says (Speed (said_speed out_reel tenths label) ∷ []) ∷ block other drop first [] ∷ before) ≡ true
side_in line other drop says first reel out_reel tenths label before e f lasts =
    second_by (is_one_reel (reel_of (said_reel out_reel)) reel) (is_one_reel reel (reel_of says.reel)) (nat_lt 0 (duration says.kind)) (is_one_reel reel (reel_of first.reel)) true tenths
    (ap (λ r. is_one_reel reel (reel_of r)) e ∙ has_said reel) lasts
    (λ same. reels_turned reel (reel_of first.reel) ∙ ap (λ r. is_one_reel (reel_of r) reel) f ∙ same)

-- the incoming side has the speed of its own line
in_by : (a s : Bool) (t f : Bool) (to_tenths from_tenths : ℕ) → a ≡ true → (t ≡ false → f ≡ true → s ≡ false)
    → latest (cond t (if a then to_tenths ∷ cond f (if s then from_tenths ∷ [] else []) [] else cond f (if s then from_tenths ∷ [] else []) []) (cond f (if s then from_tenths ∷ [] else []) [])) ≡ cond t (Some to_tenths) None
in_by a s true f to_tenths from_tenths e link = rw e refl
in_by a s false true to_tenths from_tenths e link = rw (link refl refl) refl
in_by a s false false to_tenths from_tenths e link = refl

-- the notes of the speeds of a pair, the latest first
abbrev pub two_speeds : Rate → Bool → Bool → Bool → Side → Side → List Statement
two_speeds rate drop t f to from = cond t (Speed (speed_of_side rate drop to) ∷ cond f (Speed (speed_of_side rate drop from) ∷ []) []) (cond f (Speed (speed_of_side rate drop from) ∷ []) [])

pub speed_in : (rate : Rate) (drop t f : Bool) (to from : Side) → (t ≡ false → f ≡ true → is_one_reel (reel_of (said_reel from.reel)) (reel_of (said_reel to.reel)) ≡ false)
    → latest (speeds_of (reel_of (said_reel to.reel)) (two_speeds rate drop t f to from)) ≡ cond t (Some (written_tenths rate to)) None
speed_in rate drop true true to from link = in_by _ (is_one_reel (reel_of (said_reel from.reel)) (reel_of (said_reel to.reel))) true true (written_tenths rate to) (written_tenths rate from) (same_said to.reel) link
speed_in rate drop true false to from link = in_by _ (is_one_reel (reel_of (said_reel from.reel)) (reel_of (said_reel to.reel))) true false (written_tenths rate to) (written_tenths rate from) (same_said to.reel) link
speed_in rate drop false true to from link = in_by true (is_one_reel (reel_of (said_reel from.reel)) (reel_of (said_reel to.reel))) false true (written_tenths rate to) (written_tenths rate from) refl link
speed_in rate drop false false to from link = refl

out_both : (s r a : Bool) (v w : ℕ) → r ≡ s → a ≡ true → outgoing_speed s (if r then v ∷ (if a then w ∷ [] else []) else (if a then w ∷ [] else [])) ≡ Some w
out_both true r a v w e f = rw (e, f) refl
out_both false r a v w e f = rw (e, f) refl

out_in : (s r : Bool) (v : ℕ) → r ≡ s → outgoing_speed s (if r then v ∷ [] else []) ≡ None
out_in true r v e = rw e refl
out_in false r v e = rw e refl

out_alone : (s a : Bool) (w : ℕ) → s ≡ false → a ≡ true → outgoing_speed s (if a then w ∷ [] else []) ≡ Some w
out_alone s a w e f = rw (e, f) refl

out_none : (s : Bool) → outgoing_speed s [] ≡ None
out_none true = refl
out_none false = refl

-- and so has the outgoing side
pub speed_out : (rate : Rate) (drop t f : Bool) (to from : Side) → (t ≡ false → f ≡ true → is_one_reel (reel_of (said_reel from.reel)) (reel_of (said_reel to.reel)) ≡ false)
    → outgoing_speed (is_one_reel (reel_of (said_reel from.reel)) (reel_of (said_reel to.reel))) (speeds_of (reel_of (said_reel from.reel)) (two_speeds rate drop t f to from))
    ≡ cond f (Some (written_tenths rate from)) None
speed_out rate drop true true to from link =
    out_both (is_one_reel (reel_of (said_reel from.reel)) (reel_of (said_reel to.reel))) (is_one_reel (reel_of (said_reel to.reel)) (reel_of (said_reel from.reel)))
    (is_one_reel (reel_of (said_reel from.reel)) (reel_of (said_reel from.reel))) (written_tenths rate to) (written_tenths rate from)
    (reels_turned (reel_of (said_reel to.reel)) (reel_of (said_reel from.reel))) (same_said from.reel)
speed_out rate drop true false to from link =
    out_in (is_one_reel (reel_of (said_reel from.reel)) (reel_of (said_reel to.reel))) (is_one_reel (reel_of (said_reel to.reel)) (reel_of (said_reel from.reel))) (written_tenths rate to)
    (reels_turned (reel_of (said_reel to.reel)) (reel_of (said_reel from.reel)))
speed_out rate drop false true to from link =
    out_alone (is_one_reel (reel_of (said_reel from.reel)) (reel_of (said_reel to.reel))) (is_one_reel (reel_of (said_reel from.reel)) (reel_of (said_reel from.reel))) (written_tenths rate from)
    (link refl refl) (same_said from.reel)
speed_out rate drop false false to from link = out_none (is_one_reel (reel_of (said_reel from.reel)) (reel_of (said_reel to.reel)))

alone_in : (a : Bool) (v : ℕ) → a ≡ true → latest (if a then v ∷ [] else []) ≡ Some v
alone_in a v e = rw e refl

-- the side of a cut has the speed of its line
pub speed_cut : (rate : Rate) (drop t : Bool) (to : Side) → latest (speeds_of (reel_of (said_reel to.reel)) (cond t (Speed (speed_of_side rate drop to) ∷ []) [])) ≡ cond t (Some (written_tenths rate to)) None
speed_cut rate drop true to = alone_in (is_one_reel (reel_of (said_reel to.reel)) (reel_of (said_reel to.reel))) (written_tenths rate to) (same_said to.reel)
speed_cut rate drop false to = refl

not_either : (a b : Bool) → (a || b) ≡ false → a ≡ false
not_either true b e = e
not_either false b e = refl

not_second : (a b c : Bool) → (a || (b && c)) ≡ false → b ≡ true → c ≡ false
not_second true b c e f = absurd (cc)
not_second false true c e f = e
not_second false false c e f = absurd (cc)

-- where an incoming side needs no line, its speed is the rate's own
pub needless : (rate : Rate) (to from : Side) → needs_line rate to (Some from) ≡ false → has_speed rate to ≡ false
needless rate to from e = not_either (has_speed rate to) (has_speed rate from && has_one_reel from to) e

-- and the outgoing side of its reel has none
pub no_link : (rate : Rate) (to from : Side) → IsReel from.reel → IsReel to.reel → needs_line rate to (Some from) ≡ false → has_speed rate from ≡ true
    → is_one_reel (reel_of (said_reel from.reel)) (reel_of (said_reel to.reel)) ≡ false
no_link rate to from p q e f =
    ap₂ is_one_reel (reel_read from.reel) (reel_read to.reel) ∙ sym (reels_spelled from.reel to.reel p q) ∙ not_second (has_speed rate to) (has_speed rate from) (has_one_reel from to) e f
