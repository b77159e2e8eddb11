-- The lines of a media list: which are skipped, what a line says, and what is wrong with one.
use Rattle.std.specs.Prelude.{◌≡◌, ◌==◌, ◌≤ℤ◌, ◌+ℤ◌, ◌*ℤ◌, ℕ, ℤ, pos, true, false, List, [], ◌∷◌, Some, None, IsSome, IsUtf8}
use Rattle.std.specs.List.{slice_split}
use Rattle.std.specs.Str.Parse.{digits_value}
use Rattle.tick_time.specs.Numerals.{IsNumeral}
use Rattle.tick_time.specs.Rates.{frame}
use Rattle.tick_time.specs.Times.{IsInRange}
use Rattle.tick_time.specs.declared.rates.Rate.{Rate}
use Rattle.media_rows.specs.Rows.{by_reel, by_url}
use Rattle.media_rows.specs.declared.row.MediaRow.{MediaRow}
pub use Rattle.text_lines.specs.Lines.{is_comment}
use Rattle.tick_time.specs.RateWords.{IsRateWord}
use Rattle.text_lines.specs.ReelNames.{IsReelName}
use Rattle.media_list.specs.Words.{IsNumber, IsStartForm, start_frame}
use Rattle.media_list.specs.declared.faults.MediaFault.{MediaFault}
use Rattle.media_list.specs.declared.faults.MediaFault.TheVariants as faults

-- the five fields of a line
pub record Fields : Type 0 where
  pub reel : List ℕ
  pub rate : List ℕ
  pub start : List ℕ
  pub count : List ℕ
  pub url : List ℕ

abbrev pub field_list : Fields → List (List ℕ)
field_list f = f.reel ∷ f.rate ∷ f.start ∷ f.count ∷ f.url ∷ []

-- what stands between the tabs of a line
unfoldable pub tab_fields : List ℕ → List (List ℕ)
tab_fields line = slice_split (λ b. b == 9) line

-- the line says nothing
pub record IsSkipped (line : List ℕ) : Type 0 where
  pub text : IsUtf8 line
  pub comment : is_comment line ≡ true

-- the line is a text of these fields, with one tab between, and each has the form that it must have
pub record IsForm (line : List ℕ) (f : Fields) : Type 0 where
  pub text : IsUtf8 line
  pub other : is_comment line ≡ false
  pub fields : tab_fields line ≡ field_list f
  pub reel : IsReelName f.reel
  pub rate : IsNumeral f.rate
  pub start : IsStartForm f.start
  pub count : IsNumber f.count

-- there is a frame, and the end lies within a million seconds at the rate
pub record IsSpanInRange (rate : Rate) (start count : ℤ) : Type 0 where
  pub some : pos 1 ≤ℤ count
  pub fits : IsInRange ((start +ℤ count) *ℤ pos (frame rate.num rate.den))

-- where the media of these fields start, and how many frames there are
pub record IsSpan (rate : Rate) (f : Fields) (start count : ℤ) : Type 0 where
  pub starts : start_frame rate f.start ≡ Some start
  pub counts : count ≡ pos (digits_value 10 f.count)
  pub range : IsSpanInRange rate start count

-- the line says the row
pub record IsRow (line : List ℕ) (row : MediaRow) : Type 0 where
  pub fields : Fields
  pub form : IsForm line fields
  pub reel : row.reel ≡ fields.reel
  pub url : row.url ≡ fields.url
  pub rate : IsRateWord fields.rate row.rate
  pub span : IsSpan row.rate fields row.start row.count

-- the line says these rows: none where it is skipped, else one
pub data LineSays (line : List ℕ) (rows : List MediaRow) : Type 0 where
  nothing : IsSkipped line → rows ≡ [] → LineSays line rows
  one : (row : MediaRow) → IsRow line row → rows ≡ row ∷ [] → LineSays line rows

-- the line isn't skipped, and its form is wrong
pub record IsMisformed (line : List ℕ) : Type 0 where
  pub kept : IsSkipped line → ⊥
  pub wrong : (f : Fields) → IsForm line f → ⊥

-- the form is right, and its rate is none
pub record HasNoRate (line : List ℕ) : Type 0 where
  pub fields : Fields
  pub form : IsForm line fields
  pub none : (rate : Rate) → IsRateWord fields.rate rate → ⊥

-- form and rate are right, and its start and length give no span
pub record HasNoSpan (line : List ℕ) : Type 0 where
  pub fields : Fields
  pub form : IsForm line fields
  pub rate : Rate
  pub is_rate : IsRateWord fields.rate rate
  pub none : (start count : ℤ) → IsSpan rate fields start count → ⊥

-- no row has the reel or the URL of this one
abbrev pub IsNew : List MediaRow → MediaRow → Type 0
IsNew rows row = (by_reel row.reel rows ≡ None) × (by_url row.url rows ≡ None)

-- a row has the reel of this one
abbrev pub HasReel : List MediaRow → MediaRow → Type 0
HasReel rows row = IsSome (by_reel row.reel rows)

-- a row has the URL of this one, and none has its reel
abbrev pub HasUrl : List MediaRow → MediaRow → Type 0
HasUrl rows row = (by_reel row.reel rows ≡ None) × IsSome (by_url row.url rows)

-- what is wrong with a line of that number by itself
abbrev pub IsOwnFault : ℕ → List ℕ → MediaFault → Type 0
IsOwnFault n line (faults.Line k) = (k ≡ n) × IsMisformed line
IsOwnFault n line (faults.Rate k) = (k ≡ n) × HasNoRate line
IsOwnFault n line (faults.Range k) = (k ≡ n) × HasNoSpan line
IsOwnFault n line (faults.ReelTwice k) = ⊥
IsOwnFault n line (faults.UrlTwice k) = ⊥
IsOwnFault n line faults.Large = ⊥
IsOwnFault n line faults.Memory = ⊥

-- what is wrong with a row on a line of that number, where the lines before say these rows
abbrev pub IsTwice : List MediaRow → ℕ → MediaRow → MediaFault → Type 0
IsTwice rows n row (faults.Line k) = ⊥
IsTwice rows n row (faults.Rate k) = ⊥
IsTwice rows n row (faults.Range k) = ⊥
IsTwice rows n row (faults.ReelTwice k) = (k ≡ n) × HasReel rows row
IsTwice rows n row (faults.UrlTwice k) = (k ≡ n) × HasUrl rows row
IsTwice rows n row faults.Large = ⊥
IsTwice rows n row faults.Memory = ⊥

-- what is wrong with a line of that number, where the lines before say these rows
pub data IsLineFault (rows : List MediaRow) (n : ℕ) (line : List ℕ) (fault : MediaFault)
    : Type 0 where
  own : IsOwnFault n line fault → IsLineFault rows n line fault
  twice : (row : MediaRow) → IsRow line row → IsTwice rows n row fault
      → IsLineFault rows n line fault
