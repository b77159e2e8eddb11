-- The lines of a pull list.
use Rattle.std.specs.Prelude.{ℕ, List, ◌++◌, codes}
use Rattle.std.specs.Fmt.{signed_decimal}
use Rattle.std.specs.List.{flat_map}
use Rattle.show_prog.specs.ListingTexts.{rate_text}
use Rattle.show_prog.specs.Texts.{key_text}
use Rattle.pull_list.specs.Pulled.{Stretch}

-- the key as listings have it, the rate as in JSON, the number of the first frame, and how many
-- frames they are
abbrev pub stretch_line : Stretch → List ℕ
stretch_line s = codes "pull " ++ (key_text s.group.key ++ (codes " "
    ++ (rate_text s.group.rate ++ (codes " " ++ (signed_decimal s.first ++ (codes " "
    ++ (signed_decimal s.count ++ codes "\n")))))))

-- a line for each stretch
abbrev pub stretches_text : List Stretch → List ℕ
stretches_text stretches = flat_map stretch_line stretches
