-- The media list of a log (Avid Log Exchange), or its first fault.
use Rattle.std.specs.Prelude.{◌≡◌, ◌≤◌, ◌<◌, ◌+◌, ◌-◌, ◌++◌, ◌⊎◌, ℕ, pos, not, List, [], ◌∷◌, bytes_eq, codes, filter, length, map, max, min}
use Rattle.limits.specs.Limits.{most_bytes}
use Rattle.tick_time.specs.declared.rates.Rate.{Rate}
use Rattle.text_lines.specs.Lines.{ended_lines, last_line}
use Rattle.media_rows.specs.declared.row.MediaRow.{MediaRow}
use Rattle.ale_text.specs.Lines.{Taking, LineSays, IsLineFault}
use Rattle.ale_text.specs.declared.faults.AleFault.{AleFault}
use Rattle.ale_text.specs.declared.faults.AleFault.TheVariants.{Form, Large}
use Rattle.ale_text.specs.declared.sections.Columns.{Columns}
use Rattle.ale_text.specs.declared.sections.Due.{Due}
use Rattle.ale_text.specs.declared.sections.Due.TheVariants.{Heading, Entry, Names, Data, Row}

-- ---- lines

-- a last line without an end is a line where something stands on it
abbrev pub own_line : List ℕ → List (List ℕ)
own_line [] = []
own_line (b ∷ bytes) = (b ∷ bytes) ∷ []

-- the lines of a log: those that have an end, and a last one without
abbrev pub log_lines : List ℕ → List (List ℕ)
log_lines bytes = ended_lines bytes ++ own_line (last_line bytes)

-- The lines may stand in this order where this is due first, name these frames, and that is due
-- after them.
abbrev pub LinesSay : Due → List (List ℕ) → List Taking → Due → Type 0
LinesSay due [] said last = (said ≡ []) × (last ≡ due)
LinesSay due (line ∷ lines) said last = (here others : List Taking) × (next : Due)
    × (said ≡ here ++ others) × LineSays due line here next × LinesSay next lines others last

-- ---- the rows of a log

-- the names without those that stand earlier too
unfoldable pub firsts : List (List ℕ) → List (List ℕ)
firsts [] = []
firsts (name ∷ names) = name ∷ filter (λ other. not (bytes_eq name other)) (firsts names)

-- the frames of one tape
abbrev pub of_tape : List ℕ → List Taking → List Taking
of_tape tape takings = filter (λ taking. bytes_eq tape taking.tape) takings

-- the least of some numbers, and the greatest; 0 where there are none
unfoldable pub least : List ℕ → ℕ
least [] = 0
least (n ∷ []) = n
least (n ∷ m ∷ numbers) = min n (least (m ∷ numbers))

unfoldable pub greatest : List ℕ → ℕ
greatest [] = 0
greatest (n ∷ numbers) = max n (greatest numbers)

-- the row of a tape: from the least start of its frames up to their greatest end
abbrev pub row_of : Rate → List Taking → List ℕ → MediaRow
row_of rate takings tape =
    let starts = map (λ taking. taking.start) (of_tape tape takings) in
    let ends = map (λ taking. taking.end) (of_tape tape takings) in
    record {
      reel = tape;
      url = codes "tape:" ++ tape;
      rate = rate;
      start = pos (least starts);
      count = pos (greatest ends - least starts);
    }

-- one row for each tape, in the order in which the tapes first come
abbrev pub log_rows : Rate → List Taking → List MediaRow
log_rows rate takings =
    map (row_of rate takings) (firsts (map (λ taking. taking.tape) takings))

-- the bytes are a log of this media list
pub record IsLog (bytes : List ℕ) (rows : List MediaRow) : Type 0 where
  pub small : length bytes ≤ most_bytes
  pub rate : Rate
  pub columns : Columns
  pub takings : List Taking
  pub say : LinesSay Heading (log_lines bytes) takings (Row rate columns)
  pub are : rows ≡ log_rows rate takings

-- ---- faults

-- the lines before one are right, and this is the fault of that one
pub record IsFirstFault (lines : List (List ℕ)) (fault : AleFault) : Type 0 where
  pub before : List (List ℕ)
  pub line : List ℕ
  pub behind : List (List ℕ)
  pub split : lines ≡ before ++ line ∷ behind
  pub said : List Taking
  pub due : Due
  pub say : LinesSay Heading before said due
  pub wrong : IsLineFault due (length before + 1) line fault

-- a log may not end where this is due
abbrev pub MustGoOn : Due → Type 0
MustGoOn Heading = Unit {0}
MustGoOn (Entry rate) = Unit {0}
MustGoOn (Names rate) = Unit {0}
MustGoOn (Data rate columns) = Unit {0}
MustGoOn (Row rate columns) = ⊥

-- all lines are right, and the one after them is missing
pub record EndsEarly (lines : List (List ℕ)) (fault : AleFault) : Type 0 where
  pub said : List Taking
  pub due : Due
  pub say : LinesSay Heading lines said due
  pub more : MustGoOn due
  pub is : fault ≡ Form (length lines + 1)

-- the fault of the bytes: that there are too many comes before the fault of any line
abbrev pub IsFault : List ℕ → AleFault → Type 0
IsFault bytes fault = ((fault ≡ Large) × (most_bytes < length bytes))
    ⊎ ((length bytes ≤ most_bytes)
    × (IsFirstFault (log_lines bytes) fault ⊎ EndsEarly (log_lines bytes) fault))
