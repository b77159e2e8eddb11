-- Which inputs give something to a joined track.
use Rattle.std.specs.Prelude.{◌≡◌, ℕ, suc, pos, int_lt, nat_lt, Bool, not, cond, List, [], ◌∷◌, Option, Some, None, is_none, slice_get}
use Rattle.std.specs.BTreeMap.{BTreeMap, get_by}
use Rattle.std.specs.Cmp.Lexicographic.{slice_cmp}
use Rattle.std.specs.Map.{update}
use Rattle.std.specs.Ordering.{nat_cmp}
use Rattle.std.specs.Str.{bytes_eq}
use Rattle.std.specs.declared.alloc.Global.{Global}
use Rattle.std.specs.declared.vec.Vec.{Vec}
use denote.Ref.{Bor}
use Rattle.otio_model.specs.declared.compositions.ItemOf.{ItemOf}
use Rattle.otio_model.specs.declared.compositions.Listed.{Listed}
use Rattle.flat.specs.Joined.{track_of}
use Rattle.flat_stack.specs.declared.inputs.Part.{Part}
use Rattle.flat_stack.specs.declared.givers.Givers.{Givers}
use Rattle.flat_stack.specs.Inputs.{AreParts, held, list_of}

-- ---- the inputs that have a track

abbrev pub Rows : Type 0
Rows = Vec (Vec ℕ Global) Global

abbrev pub Owners : Type 0
Owners = BTreeMap (Bor (List ℕ)) Rows

-- the rows that are kept
abbrev pub rows_of : Option Rows → List (Vec ℕ Global)
rows_of None = []
rows_of (Some rows) = rows.items

-- those of a kind
abbrev pub rows_at : List ℕ → Owners → List (Vec ℕ Global)
rows_at kind m = rows_of (get_by (λ k. slice_cmp nat_cmp kind k.now) m)

-- the numbers in the row of an index
abbrev pub row : List (Vec ℕ Global) → ℕ → List ℕ
row rows n = held (slice_get rows n)

-- at one kind the new map has these, and at all others what the old one has
abbrev pub Replaces : List ℕ → Option Rows → Owners → Owners → Type 0
Replaces kind o old new = (q : List ℕ) → get_by (λ k. slice_cmp nat_cmp q k.now) new
    ≡ update bytes_eq (λ ds. get_by (λ k. slice_cmp nat_cmp ds k.now) old) kind o q

-- the numbers of the inputs for which a test holds, where the first has number i
abbrev pub places : (Part → Bool) → ℕ → List Part → List ℕ
places test i [] = []
places test i (p ∷ ps) = cond (test p) (i ∷ places test (suc i) ps) (places test (suc i) ps)

-- a track of that kind and index is there
abbrev pub has : List ℕ → ℕ → List (ItemOf Listed) → Bool
has kind n l = not (is_none (track_of kind n l))

abbrev pub owns : List ℕ → ℕ → Part → Bool
owns kind n p = has kind n (list_of p)

-- the map has the inputs that have each track
abbrev pub HasOwners : Owners → List Part → Type 0
HasOwners m ps = (kind : List ℕ) (n : ℕ) → row (rows_at kind m) n ≡ places (owns kind n) 0 ps

-- ---- the inputs that have a length

abbrev pub is_long : Part → Bool
is_long p = int_lt (pos 0) p.stretch

-- ---- both

pub record AreGivers (g : Givers) : Type 0 where
  pub parts : AreParts g.parts.now
  pub owners : HasOwners g.owners g.parts.now
  pub longs : g.longs.items ≡ places is_long 0 g.parts.now

-- the first of some numbers that isn't before one; where there is none, another
abbrev pub first_from : ℕ → ℕ → List ℕ → ℕ
first_from at all [] = all
first_from at all (n ∷ l) = cond (nat_lt n at) (first_from at all l) n
