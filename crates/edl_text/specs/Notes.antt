-- The notes of a CMX 3600 list that name clips.
use Rattle.std.specs.Prelude.{◌≡◌, ◌≢◌, List, [], ℕ, ◌++◌, false, codes, IsUtf8}
use Rattle.text_lines.specs.First.{AreBlanks, begins_with_blank}
use Rattle.text_lines.specs.Lines.{trimmed}

-- the line begins with the word, behind it stand one or more blanks, and behind them the rest,
-- which begins with none
pub record IsBehind (word line rest : List ℕ) : Type 0 where
  pub blanks : List ℕ
  pub some : blanks ≢ []
  pub are_blanks : AreBlanks blanks
  pub ends : begins_with_blank rest ≡ false
  pub is : line ≡ word ++ (blanks ++ rest)

-- the line is `*`, `FROM` or `TO`, `CLIP` and `NAME:` with blanks between, and the text follows the
-- colon at once
pub record IsNote (side line text : List ℕ) : Type 0 where
  pub first : List ℕ
  pub second : List ℕ
  pub third : List ℕ
  pub star : IsBehind (codes "*") line first
  pub is_side : IsBehind side first second
  pub clip : IsBehind (codes "CLIP") second third
  pub name : third ≡ codes "NAME:" ++ text

-- the name that a note gives: its text without the blanks at both ends, which is UTF-8
pub record IsName (side line name : List ℕ) : Type 0 where
  pub text : List ℕ
  pub note : IsNote side line text
  pub trims : name ≡ trimmed text
  pub utf8 : IsUtf8 name
