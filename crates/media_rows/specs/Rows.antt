-- Media lists as lists of rows, of which no two have one reel or one URL.
use Rattle.std.specs.Prelude.{◌≢◌, ℕ, pos, ◌*ℤ◌, ◌≤ℤ◌, List, [], ◌∷◌, Option, Some, None, cond, AllPairs}
use Rattle.std.specs.Str.{bytes_eq}
use Rattle.tick_time.specs.Rates.{frame}
use Rattle.tick_time.specs.Times.{IsInRange}
use Rattle.media_rows.specs.declared.row.MediaRow.{MediaRow}

-- the row of a reel
abbrev pub by_reel : List ℕ → List MediaRow → Option MediaRow
by_reel reel [] = None
by_reel reel (row ∷ rows) = cond (bytes_eq reel row.reel) (Some row) (by_reel reel rows)

-- the rows of a media list, where there is one
abbrev pub MediaRows : Type 0
MediaRows = Option (List MediaRow)

-- the row of a reel in them
abbrev pub row_of : MediaRows → List ℕ → Option MediaRow
row_of None reel = None
row_of (Some rows) reel = by_reel reel rows

-- the row of a URL
abbrev pub by_url : List ℕ → List MediaRow → Option MediaRow
by_url url [] = None
by_url url (row ∷ rows) = cond (bytes_eq url row.url) (Some row) (by_url url rows)

-- neither reel nor URL of one is that of the other
abbrev pub AreOther : MediaRow → MediaRow → Type 0
AreOther a b = (a.reel ≢ b.reel) × (a.url ≢ b.url)

-- no reel and no URL stands twice
abbrev pub AreRows : List MediaRow → Type 0
AreRows rows = AllPairs AreOther rows

-- the media lie within a million seconds of 0, at their rate
pub record IsRowInRange (row : MediaRow) : Type 0 where
  pub some : pos 0 ≤ℤ row.count
  pub starts : IsInRange (row.start *ℤ pos (frame row.rate.num row.rate.den))
  pub lasts : IsInRange (row.count *ℤ pos (frame row.rate.num row.rate.den))
