-- How what is seen is written.
use Rattle.std.specs.Prelude.{ℕ, ◌+◌, ◌/◌, ◌%◌, List, [], ◌∷◌, ◌++◌, codes}
use Rattle.std.specs.Fmt.{signed_decimal}
use Rattle.json_text.specs.StringTexts.{quoted}
use Rattle.coord.specs.Looks.{Key, Url, Sequence, Generator, Reel, Name, Weight}
use Rattle.coord.specs.Images.{Kind, Dissolve, Wipe, Other, Image, Empty, Single, Mixture}

-- what a key is, a colon, and its text as a JSON string; the number of an image stands as `#`
-- between the texts of a sequence
abbrev pub key_text : Key → List ℕ
key_text (Url url) = codes "url:" ++ quoted url
key_text (Sequence base prefix suffix) = codes "seq:" ++ quoted (base ++ (prefix ++ (35 ∷ suffix)))
key_text (Generator generator) = codes "gen:" ++ quoted generator
key_text (Reel reel) = codes "reel:" ++ quoted reel
key_text (Name name) = codes "name:" ++ quoted name

-- the last three digits of a number, which are the code of a wipe
abbrev pub three : ℕ → List ℕ
three n = (((n / 100) % 10) + 48) ∷ (((n / 10) % 10) + 48) ∷ ((n % 10) + 48) ∷ []

abbrev pub kind_text : Kind → List ℕ
kind_text Dissolve = codes "dissolve"
kind_text (Wipe code) = codes "wipe " ++ three code
kind_text (Other type) = quoted type

abbrev pub weight_text : Weight → List ℕ
weight_text w = signed_decimal w.num ++ (codes "/" ++ signed_decimal w.den)

-- nothing as `-`, a frame as its key, `@` and its number, and a mix as its kind, its weight and its
-- two sides
abbrev pub image_text : Image → List ℕ
image_text Empty = codes "-"
image_text (Single key number) = key_text key ++ (codes "@" ++ signed_decimal number)
image_text (Mixture kind from to weight) =
    codes "mix(" ++ (kind_text kind ++ (codes " " ++ (weight_text weight
    ++ (codes " " ++ (image_text from ++ (codes " " ++ (image_text to ++ codes ")")))))))
