-- The words of commands, and the names of files.
use Rattle.std.specs.Prelude.{◌≡◌, ◌⊎◌, ℕ, List, [], ◌∷◌, ◌++◌, codes}
use Rattle.command_words.specs.declared.names.Verb.{Verb}
use Rattle.command_words.specs.declared.names.Verb.TheVariants.{Convert, Cat, Stat, Tool, Frames, Edit, Drill, Pull, Media}

-- the word of a command
abbrev pub word_of : Verb → List ℕ
word_of Convert = codes "convert"
word_of Cat = codes "cat"
word_of Stat = codes "stat"
word_of Tool = codes "tool"
word_of Frames = codes "frames"
word_of Edit = codes "edit"
word_of Drill = codes "drill"
word_of Pull = codes "pull"
word_of Media = codes "media"

-- the commands by their words
abbrev pub command_verbs : List (List ℕ × Verb)
command_verbs = (word_of Convert, Convert) ∷ (word_of Cat, Cat) ∷ (word_of Stat, Stat)
    ∷ (word_of Tool, Tool) ∷ (word_of Frames, Frames) ∷ (word_of Edit, Edit)
    ∷ (word_of Drill, Drill) ∷ (word_of Pull, Pull) ∷ (word_of Media, Media) ∷ []

-- the name of a list ends with `.edl`
abbrev pub IsListName : List ℕ → Type 0
IsListName name = (stem : List ℕ) × (name ≡ stem ++ codes ".edl")

-- the name of a log ends with `.ale` or `.ALE`
abbrev pub IsLogName : List ℕ → Type 0
IsLogName name = (stem : List ℕ) × ((name ≡ stem ++ codes ".ale") ⊎ (name ≡ stem ++ codes ".ALE"))

-- a list is among the files of these names
abbrev pub HasList : List (List ℕ) → Type 0
HasList [] = ⊥
HasList (name ∷ names) = IsListName name ⊎ HasList names
