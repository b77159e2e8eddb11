-- Lines and counts that were worked out by hand.
use Rattle.std.specs.Prelude.{◌≡◌, ℕ, pos, ◌-ℤ◌, List, [], ◌∷◌, Some, None, codes}
use Rattle.coord.specs.Looks.{Url}
use Rattle.pull_list.specs.Lines.{stretch_line, stretches_text}
use Rattle.pull_list.specs.Record.{frames_in}
use Rattle.pull_list.specs.Used.{ClipGroup}

-- the clips of a file whose media have 24 frames a second
abbrev pub at_24 : List ℕ → ClipGroup
at_24 url = record { key = Url url; rate = record { num = pos 24; den = pos 1 } }

-- the lines of spans, also of frames before instant 0; and how many record frames lengths take, in
-- ticks: two for 11 ticks where a frame has 10
pub record ArePullsWorked : Type 0 where
  pub lines : stretches_text (
      record { group = at_24 (codes "a.mov"); first = pos 23; count = pos 56 }
      ∷ record { group = at_24 (codes "c.mov"); first = pos 39; count = pos 25 } ∷ [])
      ≡ codes "pull url:\"a.mov\" 24.0 23 56\npull url:\"c.mov\" 24.0 39 25\n"
  pub before_zero : stretch_line
      (record { group = at_24 (codes "a.mov"); first = pos 0 -ℤ pos 5; count = pos 10 })
      ≡ codes "pull url:\"a.mov\" 24.0 -5 10\n"
  pub rounded_up : frames_in 10 (Some 11 ∷ Some 20 ∷ None ∷ Some 0 ∷ []) ≡ 4
