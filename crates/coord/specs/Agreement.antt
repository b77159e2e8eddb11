-- Shows that are equal but for the rates of their media.
use Rattle.std.specs.Prelude.{◌≡◌}
use Rattle.coord.specs.Looks.{Show, Blank, Frame, Mix}
use Rattle.coord.specs.Programs.{rate_24}

-- the show with 24 in place of each rate
abbrev pub unrated : Show → Show
unrated Blank = Blank
unrated (Frame key m rate) = Frame key m rate_24
unrated (Mix kind from to weight) = Mix kind (unrated from) (unrated to) weight

-- equal but for the media's rates
abbrev pub Agree : Show → Show → Type 0
Agree a b = unrated a ≡ unrated b
