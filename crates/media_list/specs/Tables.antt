-- Rows with the places of their reels and URLs, and how a reader comes to them.
use Rattle.std.specs.Prelude.{◌≡◌, ◌++◌, ◌+◌, ◌≤◌, ℕ, cond, List, [], ◌∷◌, String, All, length, map, string_bytes}
use Rattle.std.specs.List.{list_any}
use Rattle.std.specs.Str.{bytes_eq}
use Rattle.std.specs.declared.alloc.Global.{Global}
use Rattle.limits.specs.Limits.{most_bytes}
use Rattle.media_rows.specs.Rows.{AreRows, IsRowInRange}
use Rattle.media_rows.specs.declared.row.MediaRow.{MediaRow}
use Rattle.text_lines.specs.Lines.{lines_of}
use Rattle.media_list.specs.Lines.{LineSays}
use Rattle.media_list.specs.Lists.{LinesSay}
use Rattle.media_list.specs.declared.table.Table.{Table}

-- the reels and the URLs stand in the order of the rows, no two are the same, and the media of each
-- row lie in range
pub record IsIndexed (table : Table) : Type 0 where
  pub reels : map string_bytes table.reels.keys ≡ map (λ row. row.reel) table.rows.items
  pub urls : map string_bytes table.urls.keys ≡ map (λ row. row.url) table.rows.items
  pub apart : AreRows table.rows.items
  pub ranges : All IsRowInRange table.rows.items

-- the name stands after the others, or among them where it did before
pub record PutsName (name : List ℕ) (old new : List (String Global)) : Type 0 where
  pub key : String Global
  pub is : string_bytes key ≡ name
  pub put : new ≡ cond (list_any (λ k. bytes_eq (string_bytes key) (string_bytes k)) old) old
      (old ++ key ∷ [])

-- after a line the rows are those of before and those that the line says
abbrev pub HasTaken : List ℕ → List MediaRow → List MediaRow → Type 0
HasTaken line old new = (here : List MediaRow) × (new ≡ old ++ here) × LineSays line here

-- How far a reader has come: the lines before what is left say the rows of the table, and the next
-- line has the number.
pub record HasRead (bytes rest : List ℕ) (number : ℕ) (table : Table) : Type 0 where
  pub before : List (List ℕ)
  pub lines : lines_of bytes ≡ before ++ lines_of rest
  pub say : LinesSay before table.rows.items
  pub counts : number ≡ length before + 1
  pub room : number + length rest ≤ most_bytes + 1
  pub indexed : IsIndexed table
