-- The event lines of a CMX 3600 list, by their fields.
use Rattle.std.specs.Prelude.{◌≡◌, ℕ, Bool, true, false, List, [], ◌∷◌, ◌++◌, Some, codes, length}
use Rattle.text_lines.specs.KeyWords.{meaning}
use Rattle.edl_text.specs.Statements.{EventLine, labels_of}
use Rattle.edl_text.specs.Numbers.{IsNumber, IsReel, event_digits, duration_digits, code_digits}
use Rattle.edl_text.specs.declared.statement_types.Channels.{Channels}
use Rattle.edl_text.specs.declared.statement_types.Kind.{Kind}
use Rattle.edl_text.specs.declared.statement_types.Kind.TheVariants.{Cut, Dissolve, Wipe}

-- the picture V, the first sound A and the second sound A2, each present or not
abbrev pub channels : Bool → Bool → Bool → Channels
channels picture first_sound second_sound =
    record { picture = picture; first_sound = first_sound; second_sound = second_sound }

-- the words for channels
abbrev pub channel_words : List (List ℕ × Channels)
channel_words =
    (codes "V", channels true false false) ∷ (codes "A", channels false true false)
    ∷ (codes "A2", channels false false true) ∷ (codes "AA", channels false true true)
    ∷ (codes "B", channels true true false) ∷ (codes "A/V", channels true true false)
    ∷ (codes "A2/V", channels true false true) ∷ (codes "AA/V", channels true true true) ∷ []

-- the field is a word for these channels
abbrev pub AreChannels : List ℕ → Channels → Type 0
AreChannels field channels = meaning field channel_words ≡ Some channels

-- the type of an event that lasts so many frames, and its duration: two fields
pub record IsLasting (fields : List (List ℕ)) (kind : List ℕ) (frames : ℕ) : Type 0 where
  pub duration : List ℕ
  pub are : fields ≡ kind ∷ duration ∷ []
  pub is_duration : IsNumber duration_digits duration frames

-- `W` and the three digits of the code
pub record IsWipeCode (kind : List ℕ) (code : ℕ) : Type 0 where
  pub digits : List ℕ
  pub is : kind ≡ codes "W" ++ digits
  pub all : length digits ≡ code_digits
  pub is_code : IsNumber code_digits digits code

-- the type of a wipe, and its duration
pub record IsWipe (fields : List (List ℕ)) (code frames : ℕ) : Type 0 where
  pub kind : List ℕ
  pub is_kind : IsWipeCode kind code
  pub lasts : IsLasting fields kind frames

-- the fields of the type: `C` for a cut, `D` for a dissolve and `W` with a code for a wipe, these
-- two with a duration
abbrev pub IsKind : List (List ℕ) → Kind → Type 0
IsKind fields Cut = fields ≡ codes "C" ∷ []
IsKind fields (Dissolve frames) = IsLasting fields (codes "D") frames
IsKind fields (Wipe code frames) = IsWipe fields code frames

-- The fields of an event line: the number, the reel, the channels, the type with its duration, and
-- the labels of source in, source out, record in and record out.
pub record IsEvent (fields : List (List ℕ)) (event : EventLine) : Type 0 where
  pub number : List ℕ
  pub reel : List ℕ
  pub channels : List ℕ
  pub kind : List (List ℕ)
  pub are : fields ≡ number ∷ reel ∷ channels ∷ (kind ++ labels_of event)
  pub is_number : IsNumber event_digits number event.number
  pub is_reel : IsReel reel event.reel
  pub are_channels : AreChannels channels event.channels
  pub is_kind : IsKind kind event.kind
