-- What a message tells of a fault after the name of the file.
use Rattle.std.specs.Prelude.{ℕ, List, [], ◌++◌, codes, decimal}
use Rattle.source_files.specs.Places.{place_text}
use Rattle.source_files.specs.declared.reasons.Reason.{Reason}
use Rattle.source_files.specs.declared.reasons.Detail.{Detail}
use Rattle.source_files.specs.declared.reasons.Detail.TheVariants.{Nothing, Root, Number, At, Member, LineAt}

-- a number: a line, or an offset in bytes
abbrev pub number_text : ℕ → List ℕ
number_text number = codes " at " ++ decimal number

-- the place of an item
abbrev pub item_text : List ℕ → List ℕ
item_text place = codes " at " ++ place_text place

-- the place of an item, and the name of its member
abbrev pub field_text : List ℕ → List ℕ → List ℕ
field_text place member = codes " at " ++ (place_text place ++ (codes " " ++ member))

-- a line, and the place of the item that it speaks of
abbrev pub line_at_text : ℕ → List ℕ → List ℕ
line_at_text line place = codes " at " ++ (decimal line ++ (codes " " ++ place_text place))

-- where the fault lies
abbrev pub detail_text : Detail → List ℕ
detail_text Nothing = []
detail_text Root = codes " at ."
detail_text (Number number) = number_text number
detail_text (At place) = item_text place
detail_text (Member place member) = field_text place member
detail_text (LineAt line place) = line_at_text line place

-- a code, the word of the fault and where it lies, up to the end of the line
abbrev pub refusal : List ℕ → List ℕ → List ℕ → List ℕ
refusal code word detail = codes ": " ++ (code ++ (codes " " ++ (word ++ (detail ++ codes "\n"))))

-- all that stands after the name of the file
abbrev pub reason_text : Reason → List ℕ
reason_text reason = refusal reason.code.now reason.word.now (detail_text reason.detail)
