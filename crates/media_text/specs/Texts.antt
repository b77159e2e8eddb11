-- The text of a media list.
use Rattle.std.specs.Prelude.{ℕ, List, [], ◌∷◌, ◌++◌, codes}
use Rattle.std.specs.Fmt.{signed_decimal}
use Rattle.media_rows.specs.declared.row.MediaRow.{MediaRow}
use Rattle.schema_write.specs.Texts.{rate_text}

-- the line of a row: reel, rate, start, length in frames and URL, with one tab between
abbrev pub row_line : MediaRow → List ℕ
row_line row =
    row.reel ++ (codes "\t" ++ (rate_text row.rate ++ (codes "\t"
    ++ (signed_decimal row.start ++ (codes "\t" ++ (signed_decimal row.count
    ++ (codes "\t" ++ row.url)))))))

-- the line of a row with its end
abbrev pub row_text : MediaRow → List ℕ
row_text row = row_line row ++ codes "\n"

-- the lines of the rows, in order
unfoldable pub media_text : List MediaRow → List ℕ
media_text [] = []
media_text (row ∷ rows) = row_text row ++ media_text rows
