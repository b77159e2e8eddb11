-- The lines of rows, one after another.
use Rattle.std.proofs.Common.{◌≡◌, ◌≤◌, ◌<◌, ◌+◌, ℕ, List, [], ◌∷◌, ◌++◌, drop, get_or, length, sym, ap, ◌∙◌}
use Rattle.std.proofs.lemmas.List.{drop_all, drop_more}
use Rattle.media_rows.specs.declared.row.MediaRow.{MediaRow}
use Rattle.media_text.specs.Texts.{media_text, row_text}

-- the next row of those that are left
pub rows_next : (rows : List MediaRow) (i : ℕ) (row : MediaRow) → i < length rows
    → row ≡ get_or rows i row
    → media_text (drop i rows) ≡ row_text row ++ media_text (drop (i + 1) rows)
unfolding media_text
rows_next rows i row within at =
    ap media_text (drop_more rows i row within
    ∙ ap (λ r. r ∷ drop (i + 1) rows) (sym at))

-- and none
pub rows_none : (rows : List MediaRow) (i : ℕ) → length rows ≤ i → media_text (drop i rows) ≡ []
unfolding media_text
rows_none rows i past = ap media_text (drop_all i rows past)
