-- Cuts of items and of lists of items.
use Rattle.std.specs.Prelude.{ℤ, pos, ◌-ℤ◌, ◌*ℤ◌, int_lt, int_le, ◌==◌, unsigned_abs, ◌%◌, Bool, true, cond, List, [], ◌∷◌, ◌++◌, map}
use Rattle.otio_model.specs.declared.compositions.ItemOf.{ItemOf}
use Rattle.otio_model.specs.declared.compositions.Listed.{Listed}
use Rattle.coord.specs.Speeds.{speed_of, media_at}
use Rattle.coord.specs.Sights.{overlap_of}
use Rattle.otio_model.specs.Lengths.{trimmed_start}
use Rattle.edits.specs.Splices.{is_stripped}
use Rattle.edits.specs.Children.{Child, Old, Ranged, ticks, new_gap}

-- the two pieces of an item that is cut at t ticks from its start
abbrev pub left_piece : ItemOf Listed → ℤ → Child
left_piece x t = Ranged x (trimmed_start x) t

abbrev pub right_piece : ItemOf Listed → ℤ → Child
right_piece x t = Ranged x (media_at (trimmed_start x) (speed_of x) t) (ticks x -ℤ t)

-- t ticks of the item are whole ticks of its media, so it can be cut there
abbrev pub is_whole_at : ItemOf Listed → ℤ → Bool
is_whole_at x t = unsigned_abs (t *ℤ speed_of x) % 1000000 == 0

-- the items without the transitions that meet the zone from a to b
abbrev pub strip : List (ItemOf Listed) → ℤ → ℤ → List (ItemOf Listed)
strip [] a b = []
strip (x ∷ l) a b =
    cond (is_stripped a b (overlap_of x)) (strip l a b) (x ∷ strip l (a -ℤ ticks x) (b -ℤ ticks x))

-- as they were
abbrev pub olds : List (ItemOf Listed) → List Child
olds l = map Old l

-- what starts before t, the last one cut there, then a gap of the missing length
abbrev pub front : List (ItemOf Listed) → ℤ → List Child
front [] t = cond (int_lt (pos 0) t) (new_gap t ∷ []) []
front (x ∷ l) t =
    cond (int_lt (pos 0) t)
    (cond (int_le (ticks x) t) (Old x ∷ front l (t -ℤ ticks x)) (left_piece x t ∷ [])) []

-- the right piece of what t cuts, then what starts at t or later
abbrev pub back : List (ItemOf Listed) → ℤ → List Child
back [] t = []
back (x ∷ l) t =
    cond (int_lt (pos 0) t)
    (cond (int_le (ticks x) t) (back l (t -ℤ ticks x)) (right_piece x t ∷ olds l)) (olds (x ∷ l))

-- what t cuts can be cut there
abbrev pub cuts_whole : List (ItemOf Listed) → ℤ → Bool
cuts_whole [] t = true
cuts_whole (x ∷ l) t =
    cond (int_lt (pos 0) t)
    (cond (int_le (ticks x) t) (cuts_whole l (t -ℤ ticks x)) (is_whole_at x t)) true

-- others in place of what stands from a to b
abbrev pub put_between : List (ItemOf Listed) → ℤ → List Child → ℤ → List Child
put_between s a n b = front s a ++ (n ++ back s b)
