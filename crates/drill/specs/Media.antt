-- The media that a drill's clips show.
use Rattle.std.specs.Prelude.{ℕ, pos, List, [], ◌∷◌, ◌++◌, codes, decimal}
use Rattle.media_rows.specs.declared.row.MediaRow.{MediaRow}
use Rattle.tick_time.specs.FixedRates.{rate_24}
use Rattle.drill.specs.Acts.{reel}

-- the URL of a number
abbrev pub url : ℕ → List ℕ
url k = codes "r" ++ (decimal k ++ codes ".mov")

-- a hundred thousand frames of the reel of a number, at 24 frames a second
abbrev pub row : ℕ → MediaRow
row k = record {
  reel = reel k;
  url = url k;
  rate = rate_24;
  start = pos 0;
  count = pos 100000;
}

-- four reels
abbrev pub rows : List MediaRow
rows = row 0 ∷ row 1 ∷ row 2 ∷ row 3 ∷ []
