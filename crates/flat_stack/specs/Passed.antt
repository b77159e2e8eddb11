-- What of a list stands between two instants, item by item.
use Rattle.std.specs.Prelude.{◌≡◌, ℕ, ◌*◌, ℤ, pos, ◌-ℤ◌, ◌≤ℤ◌, int_lt, int_le, cond, List, [], ◌∷◌, ◌++◌, Option, Some, None, option_map, option_and_then, take}
use Rattle.tick_time.specs.declared.rates.Rate.{Rate}
use Rattle.otio_model.specs.declared.compositions.ItemOf.{ItemOf}
use Rattle.otio_model.specs.declared.compositions.Listed.{Listed}
use Rattle.edits.specs.Children.{ticks, made}
use Rattle.edits.specs.Cuts.{right_piece}
use Rattle.edits.specs.Edges.{added}
use Rattle.flat.specs.Pieces.{up_to}
use Rattle.flat.specs.Windowed.{stripped}

-- what stands of an item from a on: all of it, a piece, or nothing
abbrev pub back_of : Rate → ℤ → ItemOf Listed → Option (List (ItemOf Listed))
back_of r a y =
    cond (int_lt (pos 0) a)
    (cond (int_le (ticks y) a) (Some []) (option_map (λ z. z ∷ []) (made r (right_piece y a))))
    (Some (y ∷ []))

-- what stands of it from a up to b
abbrev pub one_passed : Rate → ℤ → ℤ → ItemOf Listed → Option (List (ItemOf Listed))
one_passed r a b x = option_and_then (back_of r a) (up_to r b x)

-- two lists that there are, one after the other
abbrev pub both_lists : Option (List (ItemOf Listed)) → Option (List (ItemOf Listed))
    → Option (List (ItemOf Listed))
both_lists None o = None
both_lists (Some l) None = None
both_lists (Some l) (Some m) = Some (l ++ m)

-- the items from a up to b
abbrev pub passed : Rate → ℤ → ℤ → List (ItemOf Listed) → Option (List (ItemOf Listed))
passed r a b [] = Some []
passed r a b (x ∷ l) =
    cond (int_lt (pos 0) b)
    (both_lists (one_passed r a b x) (passed r (a -ℤ ticks x) (b -ℤ ticks x) l)) (Some [])

-- what an item adds to a list
pub record IsPut (r : Rate) (a b : ℤ) (x : ItemOf Listed) (old new : List (ItemOf Listed)) : Type 0
  where
    pub items : List (ItemOf Listed)
    pub are : one_passed r a b x ≡ Some items
    pub put : new ≡ old ++ items

-- so many children are passed, and the next starts at an instant
pub record IsBetween (r : Rate) (l : List (ItemOf Listed)) (a b : ℤ)
    (done rest : List (ItemOf Listed)) (at : ℤ) (i : ℕ) : Type 0 where
  pub is : passed r a b (stripped l a b)
      ≡ both_lists (Some done) (passed r (a -ℤ at) (b -ℤ at) (stripped rest (a -ℤ at) (b -ℤ at)))
  pub start : at ≡ added (take i l)
  pub low : pos 0 ≤ℤ at
  pub high : at ≤ℤ pos (i * 705600000000000000000000)
