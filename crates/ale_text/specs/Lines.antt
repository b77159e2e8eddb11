-- The lines of a log (Avid Log Exchange, lines of fields with tabs between): what may stand where,
-- what a line says, and what is wrong with one.
use Rattle.std.specs.Prelude.{◌≡◌, ◌≢◌, ◌⊎◌, ◌<◌, ◌++◌, ℕ, false, List, [], ◌∷◌, Option, Some, None, bytes_eq, codes, get_or}
use Rattle.std.specs.List.{position}
use Rattle.tick_time.specs.declared.rates.Rate.{Rate}
use Rattle.smpte_tc.specs.Frames.{label_frame}
use Rattle.text_lines.specs.First.{HasNone}
use Rattle.media_list.specs.Lines.{tab_fields}
use Rattle.ale_text.specs.Words.{spaceless, IsBlankLine, IsSection, IsTape, IsLogRate}
use Rattle.ale_text.specs.declared.faults.AleFault.{AleFault}
use Rattle.ale_text.specs.declared.faults.AleFault.TheVariants as faults
use Rattle.ale_text.specs.declared.sections.Columns.{Columns}
use Rattle.ale_text.specs.declared.sections.Due.{Due}
use Rattle.ale_text.specs.declared.sections.Due.TheVariants.{Heading, Entry, Names, Data, Row}

-- the words of the sections
abbrev pub heading_word : List ℕ
heading_word = codes "Heading"

abbrev pub column_word : List ℕ
column_word = codes "Column"

abbrev pub data_word : List ℕ
data_word = codes "Data"

-- ---- the heading

-- the line is a name, a tab and a value; the value loses the spaces at both ends
pub record IsEntry (line name value : List ℕ) : Type 0 where
  pub rest : List ℕ
  pub split : line ≡ name ++ 9 ∷ rest
  pub plain : HasNone 9 name
  pub is : value ≡ spaceless rest

-- what stands between fields, where the heading says so, are tabs
abbrev pub IsTabbed : List ℕ → List ℕ → Type 0
IsTabbed name value = name ≡ codes "FIELD_DELIM" → value ≡ codes "TABS"

-- the rate after a name and a value, where this was the rate before: the first `FPS` gives it
abbrev pub GivesRate : Option Rate → List ℕ → List ℕ → Option Rate → Type 0
GivesRate (Some rate) name value behind = behind ≡ Some rate
GivesRate None name value (Some rate) = (name ≡ codes "FPS") × IsLogRate value rate
GivesRate None name value None = name ≢ codes "FPS"

-- ---- columns and fields

-- the index of the first column of that name
abbrev pub column_of : List ℕ → List ℕ → Option ℕ
column_of name names = position (λ field. bytes_eq (spaceless field) name) (tab_fields names)

-- the columns that are read stand there by the line of names
pub record IsColumns (names : List ℕ) (columns : Columns) : Type 0 where
  pub tape : column_of (codes "Tape") names ≡ Some columns.tape
  pub start : column_of (codes "Start") names ≡ Some columns.start
  pub end : column_of (codes "End") names ≡ Some columns.end

-- the field of a row in the column of that index, without the spaces at both ends; a missing field
-- is empty
abbrev pub field_of : List ℕ → ℕ → List ℕ
field_of row index = spaceless (get_or (tab_fields row) index [])

-- ---- rows

-- the frame of the day that a field names as a label at the rate, drop-frame where `;` stands
-- before its frames; none where it is no such label
abbrev pub frame_of : Rate → List ℕ → Option ℕ
frame_of rate field = label_frame rate false field

-- frames of a tape that a row names: from the first up to, not including, the end
pub record Taking : Type 0 where
  pub tape : List ℕ
  pub start : ℕ
  pub end : ℕ

-- the row counts, and names these frames
pub record Takes (rate : Rate) (columns : Columns) (row : List ℕ) (taking : Taking) : Type 0 where
  pub tape : field_of row columns.tape ≡ taking.tape
  pub named : IsTape taking.tape
  pub start : frame_of rate (field_of row columns.start) ≡ Some taking.start
  pub end : frame_of rate (field_of row columns.end) ≡ Some taking.end
  pub above : taking.start < taking.end

-- a tape and both labels are there, and one of these isn't a label at the rate
pub record LacksLabel (rate : Rate) (columns : Columns) (row : List ℕ) : Type 0 where
  pub named : IsTape (field_of row columns.tape)
  pub start : field_of row columns.start ≢ []
  pub end : field_of row columns.end ≢ []
  pub none : (frame_of rate (field_of row columns.start) ≡ None)
      ⊎ (frame_of rate (field_of row columns.end) ≡ None)

-- what a row says: the frames that it names, or nothing where it doesn't count
pub data RowSays (rate : Rate) (columns : Columns) (row : List ℕ) (said : List Taking) : Type 0
  where
    taken : (taking : Taking) → Takes rate columns row taking → said ≡ taking ∷ []
        → RowSays rate columns row said
    nothing : ((taking : Taking) → Takes rate columns row taking → ⊥)
        → (LacksLabel rate columns row → ⊥) → said ≡ [] → RowSays rate columns row said

-- ---- all lines

-- the line is a line of the heading; this was the rate before it, and this is the rate after it
pub record IsHeadingEntry (line : List ℕ) (before behind : Option Rate) : Type 0 where
  pub name : List ℕ
  pub value : List ℕ
  pub other : IsSection column_word line → ⊥
  pub is : IsEntry line name value
  pub tabbed : IsTabbed name value
  pub gives : GivesRate before name value behind

-- the line may stand where this is due, names these frames, and this is due after it
abbrev pub Follows : Due → List ℕ → List Taking → Due → Type 0
Follows Heading line said next = IsSection heading_word line × (said ≡ []) × (next ≡ Entry None)
Follows (Entry before) line said (Entry behind) = IsHeadingEntry line before behind × (said ≡ [])
Follows (Entry before) line said (Names rate) =
    IsSection column_word line × (before ≡ Some rate) × (said ≡ [])
Follows (Names rate) line said (Data same columns) =
    IsColumns line columns × (same ≡ rate) × (said ≡ [])
Follows (Data rate columns) line said next =
    IsSection data_word line × (said ≡ []) × (next ≡ Row rate columns)
Follows (Row rate columns) line said next =
    RowSays rate columns line said × (next ≡ Row rate columns)
Follows due line said next = ⊥

-- the same of any line: a blank one names nothing, and leaves what is due
pub data LineSays (due : Due) (line : List ℕ) (said : List Taking) (next : Due) : Type 0 where
  blank : IsBlankLine line → said ≡ [] → next ≡ due → LineSays due line said next
  full : (IsBlankLine line → ⊥) → Follows due line said next → LineSays due line said next

-- ---- faults

-- a line that isn't `Column` has no tab, or says that something else than tabs stands between
-- fields
pub record IsNoEntry (line : List ℕ) : Type 0 where
  pub other : IsSection column_word line → ⊥
  pub wrong : (name value : List ℕ) → IsEntry line name value → IsTabbed name value → ⊥

-- the line isn't one that must stand there
abbrev pub IsMisplaced : Due → List ℕ → Type 0
IsMisplaced Heading line = IsSection heading_word line → ⊥
IsMisplaced (Entry rate) line =
    IsNoEntry line ⊎ (IsSection column_word line × (rate ≡ None))
IsMisplaced (Names rate) line = (columns : Columns) → IsColumns line columns → ⊥
IsMisplaced (Data rate columns) line = IsSection data_word line → ⊥
IsMisplaced (Row rate columns) line = ⊥

-- the first `FPS` gives no rate with timecode
pub record HasNoTimecodeRate (line : List ℕ) : Type 0 where
  pub value : List ℕ
  pub other : IsSection column_word line → ⊥
  pub is : IsEntry line (codes "FPS") value
  pub none : (rate : Rate) → IsLogRate value rate → ⊥

abbrev pub LacksRate : Due → List ℕ → Type 0
LacksRate (Entry None) line = HasNoTimecodeRate line
LacksRate due line = ⊥

abbrev pub LacksLabelAt : Due → List ℕ → Type 0
LacksLabelAt (Row rate columns) line = LacksLabel rate columns line
LacksLabelAt due line = ⊥

-- what is wrong with a line of that number, where this is due
abbrev pub IsWrong : Due → ℕ → List ℕ → AleFault → Type 0
IsWrong due n line (faults.Form k) = (k ≡ n) × IsMisplaced due line
IsWrong due n line (faults.Rate k) = (k ≡ n) × LacksRate due line
IsWrong due n line (faults.Label k) = (k ≡ n) × LacksLabelAt due line
IsWrong due n line faults.Large = ⊥
IsWrong due n line faults.Memory = ⊥

-- a blank line has no fault
abbrev pub IsLineFault : Due → ℕ → List ℕ → AleFault → Type 0
IsLineFault due n line fault = (IsBlankLine line → ⊥) × IsWrong due n line fault
