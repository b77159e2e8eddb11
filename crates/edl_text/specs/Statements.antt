-- What one line of a CMX 3600 list says, as plain data: a text is its bytes, and labels stand as
-- the line spells them.
use Rattle.std.specs.Prelude.{ℕ, Bool, List, [], ◌∷◌}
use Rattle.edl_text.specs.declared.statement_types.Channels.{Channels}
use Rattle.edl_text.specs.declared.statement_types.Kind.{Kind}

-- a reel: black, or the one of a name
pub data Reel : Type 0 where
  Black : Reel
  Named : (name : List ℕ) → Reel

-- an event line, with the labels of source in, source out, record in and record out
pub record EventLine : Type 0 where
  pub number : ℕ
  pub reel : Reel
  pub channels : Channels
  pub kind : Kind
  pub source_in : List ℕ
  pub source_out : List ℕ
  pub record_in : List ℕ
  pub record_out : List ℕ

-- the four labels, in the order of the line
abbrev pub labels_of : EventLine → List (List ℕ)
labels_of event = event.source_in ∷ event.source_out ∷ event.record_in ∷ event.record_out ∷ []

-- a speed line, `M2`: how many tenths of a frame a second a reel runs, and whether a minus stands
-- before them
pub record SpeedLine : Type 0 where
  pub reel : Reel
  pub reverse : Bool
  pub tenths : ℕ
  pub label : List ℕ

-- What a line says: nothing, the title, the frame code mode (whether drop frame), an event, the
-- speed of a side, or the name of the clip that an event comes from or goes to.
pub data Statement : Type 0 where
  Nothing : Statement
  Title : (title : List ℕ) → Statement
  Mode : (drop : Bool) → Statement
  Event : (event : EventLine) → Statement
  Speed : (speed : SpeedLine) → Statement
  FromName : (name : List ℕ) → Statement
  ToName : (name : List ℕ) → Statement
