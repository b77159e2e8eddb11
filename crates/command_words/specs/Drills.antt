-- Words that ask for a drill.
use Rattle.std.specs.Prelude.{◌≡◌, ◌≢◌, ℕ, ◌<◌, ◌≤◌, ◌^◌, List, [], ◌∷◌, Option, Some, decimal, length, slice_index}
use Rattle.smpte_tc.specs.Words.{IsWholeNumber}
use Rattle.command_words.specs.Names.{word_of}
use Rattle.command_words.specs.Given.{Given, Gives}
use Rattle.command_words.specs.declared.names.Verb.TheVariants.{Drill}

-- the word is the seed in decimal digits, without a sign or a leading zero
abbrev pub IsSeed : List ℕ → ℕ → Type 0
IsSeed word seed = (word ≡ decimal seed) × (seed < 2 ^ 64)

-- there is a byte, no sign at the front, and a `0` there stands alone
pub record IsUnsigned (bytes : List ℕ) : Type 0 where
  pub some : 0 < length bytes
  pub no_plus : slice_index bytes 0 ≢ 43
  pub one : slice_index bytes 0 ≡ 48 → length bytes ≡ 1

-- how many edits are tried, at most 10 000
abbrev pub IsEditCount : List ℕ → ℕ → Type 0
IsEditCount word count = IsWholeNumber word count × (count ≤ 10000)

-- what is given asks for this drill: two words where the files of other commands stand, the seed
-- and how many edits are tried, and the output into the file of the target's name, or to the
-- standard output where there is none
pub record IsDrill (seed count : ℕ) (target : Option (List ℕ)) (given : Given) : Type 0 where
  pub seed_word : List ℕ
  pub first : given.file ≡ Some seed_word
  pub is_seed : IsSeed seed_word seed
  pub count_word : List ℕ
  pub second : given.more ≡ count_word ∷ []
  pub is_count : IsEditCount count_word count
  pub target_is : given.target ≡ target

-- the words ask for this drill: its own word, and after it words that `clap` has a match for
pub record AsksDrill (words : List (List ℕ)) (seed count : ℕ) (target : Option (List ℕ)) : Type 0
  where
    pub behind : List (List ℕ)
    pub words_are : words ≡ word_of Drill ∷ behind
    pub given : Given
    pub gives : Gives Drill behind given
    pub is : IsDrill seed count target given

-- the words ask for no drill
abbrev pub AskNoDrill : List (List ℕ) → Type 0
AskNoDrill words =
    (seed count : ℕ) (target : Option (List ℕ)) → AsksDrill words seed count target → ⊥
