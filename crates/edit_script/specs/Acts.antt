-- What words say.
use Rattle.std.specs.Prelude.{ℕ, ℤ, pos, cond, List, [], ◌∷◌, Option, Some, None, option_map, option_and_then, codes}
use Rattle.std.specs.Str.{bytes_eq, is_utf8}
use Rattle.otio_model.specs.declared.edit_types.FillMode.{FillMode}
use Rattle.otio_model.specs.declared.edit_types.FillMode.TheVariants as M
use Rattle.otio_model.specs.declared.edit_types.RemoveMode.{RemoveMode}
use Rattle.otio_model.specs.declared.edit_types.RemoveMode.TheVariants as R
use Rattle.edit_script.specs.declared.commands.Act.{Act}
use Rattle.edit_script.specs.declared.commands.Act.TheVariants as A
use Rattle.edit_script.specs.declared.commands.Put.{Put}
use Rattle.edit_script.specs.declared.commands.Put.TheVariants as P
use Rattle.edit_script.specs.declared.verbs.Verb.{Verb}
use Rattle.edit_script.specs.declared.verbs.Verb.TheVariants as V
use Rattle.edit_script.specs.Numbers.{natural, whole, place}
use Rattle.text_lines.specs.KeyWords.{meaning}
use Rattle.edit_script.specs.Words.{words_of}

-- the ten words of edits
abbrev pub edit_words : List (List ℕ × Verb)
edit_words =
    (codes "overwrite", V.Overwrite) ∷ (codes "insert", V.Insert) ∷ (codes "slice", V.Slice)
    ∷ (codes "fill", V.Fill) ∷ (codes "remove", V.Remove) ∷ (codes "trim", V.Trim)
    ∷ (codes "slip", V.Slip) ∷ (codes "slide", V.Slide) ∷ (codes "ripple", V.Ripple)
    ∷ (codes "roll", V.Roll) ∷ []

-- the two that step in the log
abbrev pub step_words : List (List ℕ × Act)
step_words = (codes "undo", A.Undo) ∷ (codes "redo", A.Redo) ∷ []

abbrev pub fill_words : List (List ℕ × FillMode)
fill_words = (codes "source", M.Source) ∷ (codes "sequence", M.Sequence) ∷ (codes "fit", M.Fit) ∷ []

abbrev pub remove_words : List (List ℕ × RemoveMode)
remove_words = (codes "gap", R.Gap) ∷ (codes "close", R.Close) ∷ []

-- a number that isn't negative
abbrev pub count : List ℕ → Option ℤ
count word = option_map pos (natural word)

-- a text, which a name and a reel may be
abbrev pub text : List ℕ → Option (List ℕ)
text word = cond (is_utf8 word) (Some word) None

abbrev pub clip_of : Option (List ℕ) → Option (List ℕ) → Option ℤ → Option ℤ → Option Put
clip_of (Some name) (Some reel) (Some start) (Some length) = Some (P.Clip name reel start length)
clip_of None reel start length = None
clip_of (Some name) None start length = None
clip_of (Some name) (Some reel) None length = None
clip_of (Some name) (Some reel) (Some start) None = None

-- `LENGTH`
abbrev pub gap_words : List (List ℕ) → Option ℤ
gap_words (length ∷ []) = count length
gap_words [] = None
gap_words (a ∷ b ∷ words) = None

-- `NAME REEL START LENGTH`
abbrev pub clip_words : List (List ℕ) → Option Put
clip_words (name ∷ reel ∷ start ∷ length ∷ []) = clip_of (text name) (text reel) (count start)
    (count length)
clip_words [] = None
clip_words (a ∷ []) = None
clip_words (a ∷ b ∷ []) = None
clip_words (a ∷ b ∷ c ∷ []) = None
clip_words (a ∷ b ∷ c ∷ d ∷ e ∷ words) = None

-- `gap LENGTH` or `clip NAME REEL START LENGTH`
abbrev pub put_of : List (List ℕ) → Option Put
put_of [] = None
put_of (word ∷ words) =
    cond (bytes_eq word (codes "gap")) (option_map P.Gap (gap_words words))
    (cond (bytes_eq word (codes "clip")) (clip_words words) None)

-- `HEAD TAIL`
abbrev pub edges_of : List (List ℕ) → Option (ℤ × ℤ)
edges_of (head ∷ tail ∷ []) = option_and_then (λ h. option_map (λ t. (h, t)) (whole tail))
    (whole head)
edges_of [] = None
edges_of (a ∷ []) = None
edges_of (a ∷ b ∷ c ∷ words) = None

-- `BY`
abbrev pub by_of : List (List ℕ) → Option ℤ
by_of (by ∷ []) = whole by
by_of [] = None
by_of (a ∷ b ∷ words) = None

-- `source|sequence|fit ITEM`
abbrev pub filling_of : List (List ℕ) → Option (FillMode × Put)
filling_of [] = None
filling_of (mode ∷ words) = option_and_then (λ m. option_map (λ p. (m, p)) (put_of words))
    (meaning mode fill_words)

-- `gap|close`
abbrev pub mode_of : List (List ℕ) → Option RemoveMode
mode_of (mode ∷ []) = meaning mode remove_words
mode_of [] = None
mode_of (a ∷ b ∷ words) = None

abbrev pub nothing_of : List (List ℕ) → Option (Unit {0})
nothing_of [] = Some tt
nothing_of (a ∷ words) = None

-- the edit of a word at a place, by what follows
abbrev pub edit_of : Verb → List ℕ → ℤ → List (List ℕ) → Option Act
edit_of V.Overwrite place at words = option_map (λ put. A.Overwrite place at put) (put_of words)
edit_of V.Insert place at words = option_map (λ put. A.Insert place at put) (put_of words)
edit_of V.Slice place at words = option_map (λ n. A.Slice place at) (nothing_of words)
edit_of V.Fill place at words = option_map (λ f. A.Fill place at f.0 f.1) (filling_of words)
edit_of V.Remove place at words = option_map (λ mode. A.Remove place at mode) (mode_of words)
edit_of V.Trim place at words = option_map (λ e. A.Trim place at e.0 e.1) (edges_of words)
edit_of V.Slip place at words = option_map (λ by. A.Slip place at by) (by_of words)
edit_of V.Slide place at words = option_map (λ by. A.Slide place at by) (by_of words)
edit_of V.Ripple place at words = option_map (λ e. A.Ripple place at e.0 e.1) (edges_of words)
edit_of V.Roll place at words = option_map (λ e. A.Roll place at e.0 e.1) (edges_of words)

-- what follows the word of an edit: `PLACE AT`, then the rest
abbrev pub placed_of : Verb → List (List ℕ) → Option Act
placed_of verb [] = None
placed_of verb (a ∷ []) = None
placed_of verb (p ∷ a ∷ words) =
    option_and_then (λ place. option_and_then (λ at. edit_of verb place at words) (whole a))
    (place p)

-- a step has no other word
abbrev pub step_of : List ℕ → List (List ℕ) → Option Act
step_of word [] = meaning word step_words
step_of word (a ∷ words) = None

-- what words say
abbrev pub act_of : List (List ℕ) → Option Act
act_of [] = None
act_of (word ∷ words) = elim (meaning word edit_words)
    [ None ↦ step_of word words | Some verb ↦ placed_of verb words ]

-- what a line says
abbrev pub said_by : List ℕ → Option Act
said_by line = option_and_then act_of (words_of line)
