-- The limits of the program, as natural numbers.
use Rattle.std.specs.Prelude.{ℕ, unsigned_abs}
use Rattle.limits.specs.declared.TheConstants.{MOST_BYTES, PIECE_BYTES, MOST_ITEMS, MOST_TICKS}

-- the most bytes of one file that are read
abbrev pub most_bytes : ℕ
most_bytes = MOST_BYTES

-- the bytes of a file that are asked for at once
abbrev pub piece_bytes : ℕ
piece_bytes = PIECE_BYTES

-- the most items of one object tree
abbrev pub most_items : ℕ
most_items = MOST_ITEMS

-- the most ticks of a time either way: those of a million seconds
abbrev pub most_ticks : ℕ
most_ticks = unsigned_abs MOST_TICKS
