-- Cuts and splices of lists of which only the looks are known.
use Rattle.std.specs.Prelude.{ℤ, pos, ◌+ℤ◌, ◌-ℤ◌, ◌≤ℤ◌, ◌≡◌, int_lt, int_le, Bool, false, ◌&&◌, ◌||◌, cond, List, [], ◌∷◌, ◌++◌, Option, Some, None}
use Rattle.coord.specs.Looks.{Look, Overlap, blank}

-- so many ticks of nothing
abbrev pub empty : ℤ → Look
empty n = record { length = n; shows = blank; overlap = None }

-- the two pieces of what is cut at t ticks from its start
abbrev pub left : Look → ℤ → Look
left x t = record { length = t; shows = x.shows; overlap = None }

abbrev pub right : Look → ℤ → Look
right x t = record { length = x.length -ℤ t; shows = λ u. x.shows (u +ℤ t); overlap = None }

-- what starts before t, the last one cut there, then nothing for the missing length
abbrev pub front : List Look → ℤ → List Look
front [] t = cond (int_lt (pos 0) t) (empty t ∷ []) []
front (x ∷ l) t =
    cond (int_lt (pos 0) t)
    (cond (int_le x.length t) (x ∷ front l (t -ℤ x.length)) (left x t ∷ [])) []

-- the right piece of what t cuts, then what starts at t or later
abbrev pub back : List Look → ℤ → List Look
back [] t = []
back (x ∷ l) t =
    cond (int_lt (pos 0) t) (cond (int_le x.length t) (back l (t -ℤ x.length)) (right x t ∷ l))
    (x ∷ l)

-- the overlap, its cut at 0, has an instant between a and b, or the cut lies from a to b
abbrev pub is_stripped : ℤ → ℤ → Option Overlap → Bool
is_stripped a b None = false
is_stripped a b (Some o) =
    (int_lt (pos 0 -ℤ o.before) b && int_lt a o.after) || (int_le a (pos 0) && int_le (pos 0) b)

-- the list without the transitions that meet the zone from a to b
abbrev pub strip : List Look → ℤ → ℤ → List Look
strip [] a b = []
strip (x ∷ l) a b =
    cond (is_stripped a b x.overlap) (strip l a b) (x ∷ strip l (a -ℤ x.length) (b -ℤ x.length))

-- others in place of what stands from a to b
abbrev pub spliced : List Look → ℤ → List Look → ℤ → List Look
spliced s a n b = front s a ++ (n ++ back s b)

-- no length is negative, and a transition takes no time and has no negative offset
pub record IsGood (x : Look) : Type 0 where
  pub whole : pos 0 ≤ℤ x.length
  pub point : (o : Overlap) → x.overlap ≡ Some o → x.length ≡ pos 0
  pub before : (o : Overlap) → x.overlap ≡ Some o → pos 0 ≤ℤ o.before
  pub after : (o : Overlap) → x.overlap ≡ Some o → pos 0 ≤ℤ o.after

abbrev pub AreGood : List Look → Type 0
AreGood [] = Unit {0}
AreGood (x ∷ l) = IsGood x × AreGood l

-- an item, and no transition
pub record IsItem (x : Look) : Type 0 where
  pub whole : pos 0 ≤ℤ x.length
  pub item : x.overlap ≡ None

abbrev pub AreItems : List Look → Type 0
AreItems [] = Unit {0}
AreItems (x ∷ l) = IsItem x × AreItems l
