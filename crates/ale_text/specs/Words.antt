-- Spaces at the ends of a text, lines that are one word, tapes and rates.
use Rattle.std.specs.Prelude.{◌≡◌, ◌==◌, ℕ, Bool, false, List, [], ◌∷◌, IsSome, reverse, if◌then◌else◌}
use Rattle.tick_time.specs.Rates.{nominal}
use Rattle.tick_time.specs.declared.rates.Rate.{Rate}
use Rattle.tick_time.specs.RateWords.{IsRateWord}
use Rattle.text_lines.specs.Lines.{trimmed}
use Rattle.text_lines.specs.ReelNames.{IsReelName}
use Rattle.text_lines.specs.Lines.{is_comment}

-- whether a space stands at the front
abbrev pub begins_with_space : List ℕ → Bool
begins_with_space [] = false
begins_with_space (b ∷ bytes) = b == 32

-- the text without the spaces at its front
unfoldable pub spaceless_front : List ℕ → List ℕ
spaceless_front [] = []
spaceless_front (b ∷ bytes) = if b == 32 then spaceless_front bytes else (b ∷ bytes)

-- the text without the spaces at both ends; tabs stay
abbrev pub spaceless : List ℕ → List ℕ
spaceless text = reverse (spaceless_front (reverse (spaceless_front text)))

-- nothing stands on the line but spaces and tabs
abbrev pub IsBlankLine : List ℕ → Type 0
IsBlankLine line = trimmed line ≡ []

-- the line is that of a section: its word, but for spaces and tabs at both ends
abbrev pub IsSection : List ℕ → List ℕ → Type 0
IsSection word line = trimmed line ≡ word

-- the name of a tape: that of a reel, which doesn't begin with `#`, as a comment of a media list
pub record IsTape (name : List ℕ) : Type 0 where
  pub reel : IsReelName name
  pub other : is_comment name ≡ false

-- the word is a rate, and the rate has timecode (SMPTE ST 12-1)
pub record IsLogRate (word : List ℕ) (rate : Rate) : Type 0 where
  pub means : IsRateWord word rate
  pub timecode : IsSome (nominal rate.num rate.den)
