-- The rows of tapes as a reader keeps them, and how it comes to them.
use Rattle.std.specs.Prelude.{◌≡◌, ◌++◌, ◌+◌, ◌-◌, ◌<◌, ◌≤◌, ◌^◌, ℕ, pos, cond, IsSome, List, [], ◌∷◌, Some, None, All, codes, length, map, max, min, string_bytes, unsigned_abs}
use Rattle.std.specs.Str.{bytes_eq}
use Rattle.limits.specs.Limits.{most_bytes}
use Rattle.tick_time.specs.Rates.{nominal}
use Rattle.tick_time.specs.declared.rates.Rate.{Rate}
use Rattle.edl_list.specs.Speeds.{day_of}
use Rattle.media_rows.specs.declared.row.MediaRow.{MediaRow}
use Rattle.ale_text.specs.Words.{IsTape}
use Rattle.ale_text.specs.Lines.{Taking, LineSays}
use Rattle.ale_text.specs.Logs.{LinesSay, log_lines, log_rows}
use Rattle.ale_text.specs.declared.rows.Take.{Take}
use Rattle.ale_text.specs.declared.sections.Columns.{Columns}
use Rattle.ale_text.specs.declared.sections.Due.{Due}
use Rattle.ale_text.specs.declared.sections.Due.TheVariants.{Heading, Entry, Names, Data, Row}
use Rattle.ale_text.specs.declared.tapes.Tapes.{Tapes}

-- the row has whole numbers far below those of 64 bits
pub record IsSmallRow (row : MediaRow) : Type 0 where
  pub first : ℕ
  pub many : ℕ
  pub start : row.start ≡ pos first
  pub count : row.count ≡ pos many
  pub small : first + many < 10 ^ 18

-- the names of the tapes stand in the order of the rows
pub record IsKept (tapes : Tapes) : Type 0 where
  pub names : map string_bytes tapes.names.keys ≡ map (λ row. row.reel) tapes.rows.items
  pub small : All IsSmallRow tapes.rows.items

-- frames in order, with numbers far below those of 64 bits
pub record IsSmallTake (take : Take) : Type 0 where
  pub first : ℕ
  pub last : ℕ
  pub start : take.start ≡ pos first
  pub end : take.end ≡ pos last
  pub above : first < last
  pub small : last < 10 ^ 18

-- the row of a tape that has these frames alone
abbrev pub first_row : Rate → Taking → MediaRow
first_row rate t = record {
  reel = t.tape;
  url = codes "tape:" ++ t.tape;
  rate = rate;
  start = pos t.start;
  count = pos (t.end - t.start);
}

-- a row that is widened to further frames
abbrev pub widened : Taking → MediaRow → MediaRow
widened t row =
    let start = min (unsigned_abs row.start) t.start in
    let end = max (unsigned_abs row.start + unsigned_abs row.count) t.end in
    record {
      reel = row.reel;
      url = row.url;
      rate = row.rate;
      start = pos start;
      count = pos (end - start);
    }

-- rows of tapes, with further frames of one
abbrev pub with_taking : Rate → Taking → List MediaRow → List MediaRow
with_taking rate t [] = first_row rate t ∷ []
with_taking rate t (row ∷ rows) =
    cond (bytes_eq t.tape row.reel) (widened t row ∷ rows) (row ∷ with_taking rate t rows)

-- the rate has timecode, where one is known
abbrev pub HasTimecode : Rate → Type 0
HasTimecode rate = IsSome (nominal rate.num rate.den)

abbrev pub IsTimed : Due → Type 0
IsTimed Heading = Unit {0}
IsTimed (Entry None) = Unit {0}
IsTimed (Entry (Some rate)) = HasTimecode rate
IsTimed (Names rate) = HasTimecode rate
IsTimed (Data rate columns) = HasTimecode rate
IsTimed (Row rate columns) = HasTimecode rate

-- after a line the rows are those of before, with the frames that the line names
pub data Steps (due : Due) (line : List ℕ) (next : Due) (old new : List MediaRow) : Type 0 where
  idle : LineSays due line [] next → new ≡ old → Steps due line next old new
  taking : (rate : Rate) (columns : Columns) (t : Taking) → due ≡ Row rate columns
      → LineSays due line (t ∷ []) next → new ≡ with_taking rate t old
      → Steps due line next old new

-- frames that a row of a log of this rate names
pub record IsSound (rate : Rate) (t : Taking) : Type 0 where
  pub named : IsTape t.tape
  pub above : t.start < t.end
  pub day : t.end ≤ day_of rate

-- the rows are those of these frames, where this is due
abbrev pub Gathers : Due → List Taking → List MediaRow → Type 0
Gathers (Row rate columns) takings rows =
    (rows ≡ log_rows rate takings) × All (IsSound rate) takings
Gathers Heading takings rows = (takings ≡ []) × (rows ≡ [])
Gathers (Entry rate) takings rows = (takings ≡ []) × (rows ≡ [])
Gathers (Names rate) takings rows = (takings ≡ []) × (rows ≡ [])
Gathers (Data rate columns) takings rows = (takings ≡ []) × (rows ≡ [])

-- How far a reader has come: the lines before what is left say what the tapes have, and the next
-- line has the number.
pub record HasRead (bytes rest : List ℕ) (number : ℕ) (due : Due) (tapes : Tapes) : Type 0 where
  pub before : List (List ℕ)
  pub takings : List Taking
  pub lines : log_lines bytes ≡ before ++ log_lines rest
  pub say : LinesSay Heading before takings due
  pub counts : number ≡ length before + 1
  pub room : number + length rest ≤ most_bytes + 1
  pub kept : IsKept tapes
  pub timed : IsTimed due
  pub gathered : Gathers due takings tapes.rows.items

-- What a reader has read in the end: the lines that are all the log's say what the tapes have.
pub record HasEnded (bytes : List ℕ) (number : ℕ) (due : Due) (tapes : Tapes) : Type 0 where
  pub takings : List Taking
  pub say : LinesSay Heading (log_lines bytes) takings due
  pub counts : number ≡ length (log_lines bytes) + 1
  pub timed : IsTimed due
  pub gathered : Gathers due takings tapes.rows.items

-- the tapes are those of a log
pub record IsOfLog (bytes : List ℕ) (tapes : Tapes) : Type 0 where
  pub rate : Rate
  pub columns : Columns
  pub takings : List Taking
  pub say : LinesSay Heading (log_lines bytes) takings (Row rate columns)
  pub timecode : HasTimecode rate
  pub are : tapes.rows.items ≡ log_rows rate takings
  pub sound : All (IsSound rate) takings
