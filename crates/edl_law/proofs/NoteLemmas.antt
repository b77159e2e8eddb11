-- What is said behind an event line: speeds and names.
use Rattle.std.proofs.Common.{◌≡◌, ◌≤◌, ◌==◌, ℕ, suc, Bool, true, false, not, is_none, List, [], ◌∷◌, ◌++◌, Some, None, Option, length, IfSome, IsUtf8, refl, sym, ap, subst, ◌∙◌, arith}
use Rattle.std.proofs.lemmas.Bool.Decides.{nat_tests}
use Rattle.tick_time.specs.declared.rates.Rate.{Rate}
use Rattle.edl_text.specs.Statements as said
use Rattle.edl_text.specs.Statements.{Statement, EventLine, Speed, FromName, ToName}
use Rattle.edl_text.specs.Saying.{Says}
use Rattle.edl_list.specs.declared.list.Reel.{Reel}
use Rattle.edl_text.specs.Columns.{cleaned}
use Rattle.edl_text.specs.Rows.{headed, name_lines, from_head, to_head}
use Rattle.edl_text.specs.Past.{Block, line_behind, mode_in, blocks_in, noted}
use Rattle.edl_text.specs.declared.faults.EdlFault.TheVariants.{Form, Timecode, Reverse}
use Rattle.smpte_tc.specs.Frames.{label_frame}
use Rattle.edl_text.specs.Sides.{reel_of, speeds_of}
use Rattle.edl_text.specs.Lines.{AreSound, fault_behind, note_fault, has_side}
use Rattle.edl_law.proofs.StatementLemmas.{said_reel, said_speed}
use Rattle.edl_law.proofs.TestLemmas.{none_of_three, reel_read}
use Rattle.edl_law.proofs.LineForms.{from_says, to_says}
use Rattle.edl_law.proofs.FieldLemmas.{append_some}
use Rattle.edl_law.proofs.NameLemmas.{cleaned_utf8, cleaned_tight}

-- an event line among the lines
abbrev pub block : ℕ → Bool → EventLine → List Statement → Block
block line drop says notes = record { line = line; drop = drop; says = says; notes = notes }

-- behind an event line with the lines before it these notes were said
pub record IsBehind (line : ℕ) (drop : Bool) (says : EventLine) (before : List Block) (notes past : List Statement) : Type 0 where
  pub blocks : blocks_in past ≡ block line drop says notes ∷ before
  pub mode : mode_in past ≡ drop
  pub later : line ≤ length past

pub behind_speed : (line : ℕ) (drop : Bool) (says : EventLine) (before : List Block) (notes past : List Statement) (speed : said.SpeedLine)
    → IsBehind line drop says before notes past → IsBehind line drop says before (Speed speed ∷ notes) (Speed speed ∷ past)
behind_speed line drop says before notes past speed h = record { blocks = ap (noted (Speed speed)) h.blocks; mode = h.mode; later = omega (arith, h.later) }

behind_from : (line : ℕ) (drop : Bool) (says : EventLine) (before : List Block) (notes past : List Statement) (name : List ℕ)
    → IsBehind line drop says before notes past → IsBehind line drop says before (FromName name ∷ notes) (FromName name ∷ past)
behind_from line drop says before notes past name h = record { blocks = ap (noted (FromName name)) h.blocks; mode = h.mode; later = omega (arith, h.later) }

behind_to : (line : ℕ) (drop : Bool) (says : EventLine) (before : List Block) (notes past : List Statement) (name : List ℕ)
    → IsBehind line drop says before notes past → IsBehind line drop says before (ToName name ∷ notes) (ToName name ∷ past)
behind_to line drop says before notes past name h = record { blocks = ap (noted (ToName name)) h.blocks; mode = h.mode; later = omega (arith, h.later) }

-- an M2 line of a side that has none yet is sound
pub speed_sound : (rate : Rate) (drop : Bool) (past : List Statement) (reel : Reel) (tenths k : ℕ) (label : List ℕ) (blocks : List Block) → mode_in past ≡ drop → blocks_in past ≡ blocks
    → label_frame rate drop label ≡ Some k → has_side reel blocks ≡ true → fault_behind rate past (Speed (said_speed reel tenths label)) ≡ None
speed_sound rate drop past reel tenths k label blocks mode is known side =
    none_of_three (not (has_side (reel_of (said_reel reel)) (blocks_in past))) (is_none (label_frame rate (mode_in past) label)) false (Form (line_behind past)) (Timecode (line_behind past)) (Reverse (line_behind past))
    (ap (λ r. not (has_side r (blocks_in past))) (reel_read reel) ∙ ap (λ b. not (has_side reel b)) is ∙ ap not side)
    (ap (λ m. is_none (label_frame rate m label)) mode ∙ ap is_none known) refl

some_blocks : (n : ℕ) → (suc n == 0) ≡ false
some_blocks n = grind (arith, nat_tests)

note_sound : (n : ℕ) (first : Block) (others blocks : List Block) → blocks ≡ first ∷ others → note_fault n blocks ≡ None
note_sound n first others blocks e = ap (note_fault n) e ∙ rw (some_blocks (length others)) refl

-- after name notes: the speeds are the same
pub record Names (rate : Rate) (line : ℕ) (drop : Bool) (says : EventLine) (before : List Block) (notes past : List Statement) (lines : List (List ℕ)) : Type 0 where
  pub all : List Statement
  pub now : List Statement
  pub sound : AreSound rate past lines now
  pub is : IsBehind line drop says before all now
  pub speeds : (reel : Reel) → speeds_of reel all ≡ speeds_of reel notes

no_names : (rate : Rate) (line : ℕ) (drop : Bool) (says : EventLine) (before : List Block) (notes past : List Statement) → IsBehind line drop says before notes past → Names rate line drop says before notes past []
no_names rate line drop says before notes past h = record { all = notes; now = past; sound = refl; is = h; speeds = λ r. refl }

from_by : (rate : Rate) (line : ℕ) (drop : Bool) (says : EventLine) (before : List Block) (notes past : List Statement) (text name : List ℕ) → IsUtf8 text → name ≡ cleaned text
    → IsBehind line drop says before notes past → Names rate line drop says before notes past (headed from_head name)
from_by rate line drop says before notes past text [] utf8 e h = no_names rate line drop says before notes past h
from_by rate line drop says before notes past text (b ∷ name) utf8 e h = record {
  all = FromName (b ∷ name) ∷ notes;
  now = FromName (b ∷ name) ∷ past;
  sound = (
    FromName (b ∷ name),
    record {
      says = subst (λ l. Says (from_head ++ l) (FromName l)) (sym e)
          (from_says (cleaned text) (λ none. append_some [] b name (e ∙ none)) (cleaned_tight text) (cleaned_utf8 text utf8));
      sound = note_sound (line_behind past) (block line drop says notes) before (blocks_in past) h.blocks;
    },
    refl,
  );
  is = behind_from line drop says before notes past (b ∷ name) h;
  speeds = λ r. refl;
}

to_by : (rate : Rate) (line : ℕ) (drop : Bool) (says : EventLine) (before : List Block) (notes past : List Statement) (text name : List ℕ) → IsUtf8 text → name ≡ cleaned text
    → IsBehind line drop says before notes past → Names rate line drop says before notes past (headed to_head name)
to_by rate line drop says before notes past text [] utf8 e h = no_names rate line drop says before notes past h
to_by rate line drop says before notes past text (b ∷ name) utf8 e h = record {
  all = ToName (b ∷ name) ∷ notes;
  now = ToName (b ∷ name) ∷ past;
  sound = (
    ToName (b ∷ name),
    record {
      says = subst (λ l. Says (to_head ++ l) (ToName l)) (sym e)
          (to_says (cleaned text) (λ none. append_some [] b name (e ∙ none)) (cleaned_tight text) (cleaned_utf8 text utf8));
      sound = note_sound (line_behind past) (block line drop says notes) before (blocks_in past) h.blocks;
    },
    refl,
  );
  is = behind_to line drop says before notes past (b ∷ name) h;
  speeds = λ r. refl;
}

-- the note of a name
pub from_note : (rate : Rate) (line : ℕ) (drop : Bool) (says : EventLine) (before : List Block) (notes past : List Statement) (name : Option (List ℕ)) → IfSome name IsUtf8
    → IsBehind line drop says before notes past → Names rate line drop says before notes past (name_lines from_head name)
from_note rate line drop says before notes past None utf8 h = no_names rate line drop says before notes past h
from_note rate line drop says before notes past (Some text) utf8 h = from_by rate line drop says before notes past text (cleaned text) utf8 refl h

pub to_note : (rate : Rate) (line : ℕ) (drop : Bool) (says : EventLine) (before : List Block) (notes past : List Statement) (name : Option (List ℕ)) → IfSome name IsUtf8
    → IsBehind line drop says before notes past → Names rate line drop says before notes past (name_lines to_head name)
to_note rate line drop says before notes past None utf8 h = no_names rate line drop says before notes past h
to_note rate line drop says before notes past (Some text) utf8 h = to_by rate line drop says before notes past text (cleaned text) utf8 refl h

-- lines behind lines
pub sound_append : (rate : Rate) (a b : List (List ℕ)) (past middle now : List Statement) → AreSound rate past a middle → AreSound rate middle b now → AreSound rate past (a ++ b) now
sound_append rate [] b past middle now p q = subst (λ m. AreSound rate m b now) p q
sound_append rate (line ∷ a) b past middle now p q = (p.0, p.1, sound_append rate a b (p.0 ∷ past) middle now p.2 q)
