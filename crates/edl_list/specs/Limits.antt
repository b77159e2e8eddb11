-- The greatest numbers of a list.
use Rattle.std.specs.Prelude.{ℕ}
use Rattle.edl_list.specs.declared.list.TheConstants.{MOST_NUMBER, MOST_TENTHS}

-- the greatest number of three digits: of the frames of a dissolve or wipe, and of a wipe's code
abbrev pub most_number : ℕ
most_number = MOST_NUMBER

-- the greatest speed, in tenths of a frame a second
abbrev pub most_tenths : ℕ
most_tenths = MOST_TENTHS
