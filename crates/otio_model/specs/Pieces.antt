-- What pieces stand for.
use Rattle.std.specs.Prelude.{◌≡◌, ℕ, ◌+◌, ◌-◌, ◌*◌, ◌<◌, ◌≤◌, ◌⊎◌, zero, suc, drop, List, [], ◌∷◌}
use Rattle.std.specs.Prelude.{◌++◌, length, take, slice_index_or as get_or}
use Rattle.std.specs.Vec.{vec_capacity}
use Rattle.otio_model.specs.declared.compositions.ItemOf.{ItemOf}
use Rattle.otio_model.specs.declared.compositions.Listed.{Listed}
use Rattle.otio_model.specs.declared.lists.Piece.{Piece}
use Rattle.otio_model.specs.declared.piece_summary.Kept.{Kept}
use Rattle.otio_model.specs.declared.piece_numbers.PieceStart.{PieceStart}
use Rattle.otio_model.specs.Kept.{kept_of}
use Rattle.otio_model.specs.Sums.{capped}

-- the items of all pieces, in order
abbrev pub all_items : List Piece → List (ItemOf Listed)
all_items [] = []
all_items (p ∷ ps) = p.items.items ++ all_items ps

-- a piece keeps what it should, and has from one to 64 items
pub record IsPiece (p : Piece) : Type 0 where
  pub keeps : p.kept ≡ kept_of p.items.items
  pub some : 1 ≤ length p.items.items
  pub small : length p.items.items ≤ 64

abbrev pub AllPieces : List Piece → Type 0
AllPieces [] = Unit {0}
AllPieces (p ∷ ps) = IsPiece p × AllPieces ps

abbrev pub AllFull : List Piece → Type 0
AllFull [] = Unit {0}
AllFull (p ∷ ps) = (32 ≤ length p.items.items) × AllFull ps

-- only a piece that stands alone has fewer than 32
pub record ArePieces (ps : List Piece) : Type 0 where
  pub all : AllPieces ps
  pub full : 2 ≤ length ps → AllFull ps

-- what stands before the first piece
abbrev pub front : PieceStart
front = record { items = 0; ticks = 0 }

-- what stands before the piece behind another one
abbrev pub start_past : PieceStart → Piece → PieceStart
start_past s p = record {
  items = s.items + length p.items.items;
  ticks = capped (s.ticks + p.kept.lengths.ticks);
}

-- what stands behind pieces
abbrev pub start_past_all : PieceStart → List Piece → PieceStart
start_past_all s [] = s
start_past_all s (p ∷ ps) = start_past_all (start_past s p) ps

-- each piece knows how many items stand before it, and how long these are together
abbrev pub AreNumbered : PieceStart → List Piece → Type 0
AreNumbered s [] = Unit {0}
AreNumbered s (p ∷ ps) = (p.start ≡ s) × AreNumbered (start_past s p) ps

-- as many pieces as that from the front, numbered anew behind what stands before them
abbrev pub numbered_to : ℕ → PieceStart → List Piece → List Piece
numbered_to zero s ps = ps
numbered_to (suc i) s [] = []
numbered_to (suc i) s (p ∷ ps) =
    record p { start = s } ∷ numbered_to i (start_past s p) ps

-- the same pieces, numbered
pub record IsNumbered (old new : List Piece) : Type 0 where
  pub items : all_items new ≡ all_items old
  pub pieces : ArePieces old → ArePieces new
  pub numbered : AreNumbered front new

-- the pieces of children, how many items they have, and what is kept of all
pub record AreChildren (ps : List Piece) (n : ℕ) (k : Kept) : Type 0 where
  pub pieces : ArePieces ps
  pub numbered : AreNumbered front ps
  pub counted : n ≡ length (all_items ps)
  pub keeps : k ≡ kept_of (all_items ps)

-- an empty piece with room
pub record IsFresh (p : Piece) : Type 0 where
  pub empty : p.items.items ≡ []
  pub room : 64 ≤ vec_capacity p.items

abbrev pub AllFresh : List Piece → Type 0
AllFresh [] = Unit {0}
AllFresh (p ∷ ps) = IsFresh p × AllFresh ps

-- these items in pieces
pub record AreMade (xs : List (ItemOf Listed)) (ps : List Piece) : Type 0 where
  pub items : all_items ps ≡ xs
  pub pieces : ArePieces ps

-- the items in pieces of the right sizes
pub record IsCut (xs : List (ItemOf Listed)) (ps : List Piece) : Type 0 where
  pub items : all_items ps ≡ xs
  pub all : AllPieces ps
  pub full : 32 ≤ length xs → AllFull ps
  pub few : length xs ≤ 32 → length ps ≤ 1

-- the piece that has the item of this number lies between these
pub record IsBetween (ps : List Piece) (index low high : ℕ) : Type 0 where
  pub order : low < high
  pub within : high ≤ length ps
  pub below : length (all_items (take low ps)) ≤ index
  pub above : index < length (all_items (take high ps))

-- where an item stands
pub record IsSpot (ps : List Piece) (index number offset : ℕ) : Type 0 where
  pub within : number < length ps
  pub before : length (all_items (take number ps)) + offset ≡ index
  pub inside : (d : Piece) → offset < length (get_or ps number d).items.items

-- what is known of a piece among others by their numbers
pub record IsPlaced (ps : List Piece) (i : ℕ) (p : Piece) : Type 0 where
  pub is : IsPiece p
  pub there : i < length ps
  pub read : p ≡ get_or ps i p
  pub before : p.start.items ≡ length (all_items (take i ps))
  pub next : length (all_items (take (i + 1) ps))
      ≡ length (all_items (take i ps)) + length p.items.items
  pub fits : length (all_items (take i ps)) + length p.items.items ≤ length (all_items ps)

-- the pieces from one up to another
abbrev pub part : ℕ → ℕ → List Piece → List Piece
part first end ps = take (end - first) (drop first ps)

-- Pieces that a replacement touches. What they come to afterwards is enough for a piece, or they
-- are all pieces.
pub record IsWindow (ps : List Piece) (at count put first end before : ℕ) : Type 0 where
  pub order : first ≤ end
  pub within : end ≤ length ps
  pub counted : length (all_items (take first ps)) ≡ before
  pub starts : before ≤ at
  pub ends : at + count ≤ before + length (all_items (part first end ps))
  pub short : length (all_items (part first end ps)) ≤ 2 * count + 384
  pub enough : ((first ≡ 0) × (end ≡ length ps))
      ⊎ ((2 ≤ length ps) × (32 + count ≤ length (all_items (part first end ps)) + put))

-- where a replacement begins
pub record IsStart (ps : List Piece) (at first before : ℕ) : Type 0 where
  pub within : first ≤ length ps
  pub some : 1 ≤ length ps → first < length ps
  pub counted : length (all_items (take first ps)) ≡ before
  pub starts : before ≤ at
  pub near : first + 1 < length ps → at < before + 64

-- the end of the first piece
pub record IsOpen (ps : List Piece) (first before end behind : ℕ) : Type 0 where
  pub order : first ≤ end
  pub one : end ≤ first + 1
  pub within : end ≤ length ps
  pub counted : length (all_items (take end ps)) ≡ behind
  pub some : first < length ps → first < end
  pub full : 2 ≤ length ps → before + 32 * (end - first) ≤ behind

-- where it ends
pub record IsEnd (ps : List Piece) (at count first before end behind : ℕ) : Type 0 where
  pub order : first ≤ end
  pub within : end ≤ length ps
  pub counted : length (all_items (take end ps)) ≡ behind
  pub ends : at + count ≤ behind
  pub some : 1 ≤ length ps → first < end
  pub short : 32 * (end - first) ≤ count + 128
