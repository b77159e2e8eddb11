-- The words of a line.
use Rattle.std.specs.Prelude.{◌≡◌, ◌≢◌, ◌==◌, ℕ, Bool, true, false, cond, List, [], ◌∷◌, ◌++◌, Option, Some, None, option_map}
use Rattle.std.specs.List.{onto_first}
use Rattle.text_lines.specs.First.{is_blank, HasNoBlank, HasNone, AreBlanks}

-- where a reader of a line stands: between two words, in a plain word, in a quoted one, or behind
-- its last quote
pub data Mode : Type 0 where
  Between : Mode
  Plain : Mode
  Quoted : Mode
  Closed : Mode

-- a word that has no more bytes before the others
abbrev pub ended : Option (List (List ℕ)) → Option (List (List ℕ))
ended words = option_map (λ ws. [] ∷ ws) words

-- the byte before the first of the words
abbrev pub onto : ℕ → Option (List (List ℕ)) → Option (List (List ℕ))
onto b words = option_map (onto_first b) words

-- the words of what is left of a line, the rest of a word that has begun first; none where a quoted
-- word has no end, or another byte than a blank follows its last quote
abbrev pub scan : Mode → List ℕ → Option (List (List ℕ))
scan Between [] = Some []
scan Plain [] = Some ([] ∷ [])
scan Quoted [] = None
scan Closed [] = Some []
scan Between (b ∷ bytes) =
    cond (is_blank b) (scan Between bytes) (cond (b == 34) (scan Quoted bytes)
    (onto b (scan Plain bytes)))
scan Plain (b ∷ bytes) = cond (is_blank b) (ended (scan Between bytes)) (onto b (scan Plain bytes))
scan Quoted (b ∷ bytes) = cond (b == 34) (ended (scan Closed bytes)) (onto b (scan Quoted bytes))
scan Closed (b ∷ bytes) = cond (is_blank b) (scan Between bytes) None

-- the words of a line
abbrev pub words_of : List ℕ → Option (List (List ℕ))
words_of line = scan Between line

-- a word before the others
abbrev pub with_word : List ℕ → Option (List (List ℕ)) → Option (List (List ℕ))
with_word word None = None
with_word word (Some words) = Some (word ∷ words)

-- whether no word is left
abbrev pub is_end : Option (List (List ℕ)) → Bool
is_end None = false
is_end (Some []) = true
is_end (Some (word ∷ words)) = false

-- whether a quote stands at the front
abbrev pub begins_with_quote : List ℕ → Bool
begins_with_quote [] = false
begins_with_quote (b ∷ bytes) = b == 34

-- ---- the same as a grammar, by the law `words_by_grammar`

-- nothing, or a blank first
abbrev pub IsBehindWord : List ℕ → Type 0
IsBehindWord [] = Unit {0}
IsBehindWord (b ∷ bytes) = is_blank b ≡ true

-- one byte or more without a blank, of which the first is no quote
abbrev pub IsPlain : List ℕ → Type 0
IsPlain [] = ⊥
IsPlain (b ∷ bytes) = (b ≢ 34) × HasNoBlank (b ∷ bytes)

-- the bytes spell the word: as it is, or between two quotes
pub data Spells (word bytes : List ℕ) : Type 0 where
  plain : IsPlain word → bytes ≡ word → Spells word bytes
  quoted : HasNone 34 word → bytes ≡ 34 ∷ (word ++ 34 ∷ []) → Spells word bytes

-- the line is these words, with blanks between, and where one likes at both ends
pub data AreWords : List ℕ → List (List ℕ) → Type 0 where
  none : (line : List ℕ) → AreBlanks line → AreWords line []
  more : (blanks spelled rest word : List ℕ) (words : List (List ℕ))
      → AreBlanks blanks → Spells word spelled → IsBehindWord rest → AreWords rest words
      → AreWords (blanks ++ (spelled ++ rest)) (word ∷ words)
