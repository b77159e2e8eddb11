-- The lines of what a drill reports.
use Rattle.std.specs.Prelude.{ℕ, List, ◌++◌, codes, decimal}
use Rattle.std.specs.Fmt.{signed_decimal}
use Rattle.edl_frames.specs.declared.reasons.Why.{Why}
use Rattle.edl_frames.specs.ReasonWords.{code_of, word_of}
use Rattle.drill.specs.declared.tally.Carried.{Carried}
use Rattle.drill.specs.declared.tally.Carried.TheVariants as C
use Rattle.drill.specs.declared.tally.Tally.{Tally}

-- a word, a space, what it says, and a line feed
abbrev pub line : List ℕ → List ℕ → List ℕ
line word said = word ++ (codes " " ++ (said ++ codes "\n"))

-- the code and the word of why a list doesn't carry a timeline
abbrev pub why_text : Why → List ℕ
why_text why = code_of why ++ (codes " " ++ word_of why)

-- what became of the list: its events, the record frames and what is shown at them; else the one
-- line of why there is none
abbrev pub carried_text : Carried → List ℕ
carried_text (C.List events frames shown) =
    line (codes "events") (decimal events)
    ++ (line (codes "frames") (decimal frames) ++ line (codes "shown") (signed_decimal shown))
carried_text (C.No why) = line (codes "list") (why_text why)

-- all lines
abbrev pub tally_text : Tally → List ℕ
tally_text t =
    line (codes "edits") (decimal t.edits)
    ++ (line (codes "refused") (decimal t.refused)
    ++ (line (codes "items") (decimal t.items)
    ++ (carried_text t.carried ++ line (codes "back") (signed_decimal t.back))))
