-- Inputs with their tracks by kind, and the tracks that they are joined to, as the code keeps them.
use Rattle.std.specs.Prelude.{◌≡◌, ℕ, suc, ◌+◌, ◌<◌, ◌^◌, ◌-ℤ◌, pos, ◌≤ℤ◌, ◌≤◌, max, length, cond, not, Bool, List, [], ◌∷◌, ◌++◌, filter, map, Option, Some, None, slice_get, option_map}
use Rattle.std.specs.BTreeMap.{BTreeMap, get_by}
use Rattle.std.specs.Cmp.Lexicographic.{slice_cmp}
use Rattle.std.specs.Map.{update}
use Rattle.std.specs.Ordering.{nat_cmp}
use Rattle.std.specs.Str.{bytes_eq}
use Rattle.std.specs.declared.alloc.Global.{Global}
use Rattle.std.specs.declared.vec.Vec.{Vec}
use denote.Ref.{Bor}
use Rattle.limits.specs.Limits.{most_ticks}
use Rattle.tick_time.specs.declared.rates.Rate.{Rate}
use Rattle.otio_model.specs.declared.compositions.ItemOf.{ItemOf}
use Rattle.otio_model.specs.declared.compositions.Listed.{Listed}
use Rattle.otio_model.specs.declared.timelines.Timeline.{Timeline}
use Rattle.otio_model.specs.Timelines.{bare}
use Rattle.otio_model.specs.Counts.{count, count_of}
use Rattle.otio_model.specs.Lengths.{or_zero}
use Rattle.coord.specs.Programs.{kind_of}
use Rattle.coord.specs.Soundness.{AreFaultless}
use Rattle.edits.specs.Children.{Child, Old, Ranged, all_made, with_first}
use Rattle.edits.specs.Cuts.{olds}
use Rattle.edits.specs.Edges.{added}
use Rattle.flat.specs.Joined.{Slot, joined_with, own_items, pad, slots_in, stretch, track_of}
use Rattle.flat.specs.Answers.{Joins}
use Rattle.flat.specs.Roots.{is_empty, is_of, roots, with_roots}
use Rattle.flat.specs.Roots.{ArePlainTracks}
use Rattle.flat_stack.specs.declared.inputs.Part.{Part}
use Rattle.flat_stack.specs.declared.inputs.Seat.{Seat}

-- ---- tracks by their kind

abbrev pub Tracks : Type 0
Tracks = BTreeMap (Bor (List ℕ)) (Vec ℕ Global)

-- the numbers that are kept
abbrev pub held : Option (Vec ℕ Global) → List ℕ
held None = []
held (Some v) = v.items

-- those of a kind
abbrev pub numbers_at : List ℕ → Tracks → List ℕ
numbers_at kind m = held (get_by (λ k. slice_cmp nat_cmp kind k.now) m)

-- the numbers of the tracks of a kind, where the first item has number i
abbrev pub positions : List ℕ → ℕ → List (ItemOf Listed) → List ℕ
positions kind i [] = []
positions kind i (x ∷ l) =
    cond (is_of kind x) (i ∷ positions kind (suc i) l) (positions kind (suc i) l)

-- the map has the numbers of the tracks of each kind, in their order
abbrev pub Knows : Tracks → List (ItemOf Listed) → Type 0
Knows m l = (kind : List ℕ) → numbers_at kind m ≡ positions kind 0 l

-- at one kind the new map has these, and at all others what the old one has
abbrev pub Updates : List ℕ → Option (Vec ℕ Global) → Tracks → Tracks → Type 0
Updates kind o old new = (q : List ℕ) → get_by (λ k. slice_cmp nat_cmp q k.now) new
    ≡ update bytes_eq (λ ds. get_by (λ k. slice_cmp nat_cmp ds k.now) old) kind o q

-- ---- seats

-- the joined track that a seat stands for
abbrev pub slot_of : Seat → Slot
slot_of s = record { kind = kind_of s.first.now; index = s.index; first = s.first.now }

abbrev pub slots_of : List Seat → List Slot
slots_of l = map slot_of l

-- ---- the greatest number of tracks of a kind

abbrev pub Most : Type 0
Most = BTreeMap (Bor (List ℕ)) ℕ

-- the number that a map has for a kind; 0 where it has none
abbrev pub most_at : List ℕ → Most → ℕ
most_at kind m = or_zero (get_by (λ k. slice_cmp nat_cmp kind k.now) m)

-- the greatest number of tracks of a kind in one of some lists
abbrev pub most_in : List ℕ → List (List (ItemOf Listed)) → ℕ
most_in kind [] = 0
most_in kind (l ∷ lists) = max (length (filter (is_of kind) l)) (most_in kind lists)

-- the map has it for each kind
abbrev pub HasMost : Most → List (List (ItemOf Listed)) → Type 0
HasMost m lists = (kind : List ℕ) → most_at kind m ≡ most_in kind lists

-- at one kind the new map has this number, and at all others what the old one has
abbrev pub Raises : List ℕ → ℕ → Most → Most → Type 0
Raises kind n old new = (q : List ℕ) → get_by (λ k. slice_cmp nat_cmp q k.now) new
    ≡ update bytes_eq (λ ds. get_by (λ k. slice_cmp nat_cmp ds k.now) old) kind (Some n) q

-- ---- inputs

abbrev pub list_of : Part → List (ItemOf Listed)
list_of p = roots p.input.now

abbrev pub lists_of : List Part → List (List (ItemOf Listed))
lists_of ps = map list_of ps

-- an input of plain tracks without a fault, with what is kept of it
pub record IsPreparedInput (p : Part) : Type 0 where
  pub plain : ArePlainTracks (list_of p)
  pub few : count p.input.now.tracks.children < 2 ^ 32
  pub faultless : AreFaultless p.input.now.tracks.children
  pub known : Knows p.tracks (list_of p)
  pub seats : slots_of p.seats.items ≡ slots_in [] (list_of p)
  pub low : pos 0 ≤ℤ p.stretch
  pub high : p.stretch ≤ℤ pos most_ticks

abbrev pub AreParts : List Part → Type 0
AreParts ps = (i : ℕ) (p : Part) → slice_get ps i ≡ Some p → IsPreparedInput p

-- each is as long as frames of so many ticks ask
abbrev pub AreStretched : ℕ → List Part → Type 0
AreStretched f [] = Unit {0}
AreStretched f (p ∷ ps) = (p.stretch ≡ stretch f (list_of p)) × AreStretched f ps

-- the inputs themselves
abbrev pub inputs_of : List Part → List Timeline
inputs_of ps = map (λ p. p.input.now) ps

-- ---- a joined track

-- what an input gives to a slot's track
abbrev pub given : Slot → Part → List (ItemOf Listed)
given s p = own_items (track_of s.kind s.index (list_of p))

-- the gap behind it, up to the next input
abbrev pub pad_behind : Slot → Part → List Child
pad_behind s p = pad (p.stretch -ℤ added (given s p))

-- both, where more inputs follow
abbrev pub piece : Slot → Part → Bool → List Child
piece s p more = olds (given s p) ++ cond more (pad_behind s p) []

-- the children of the track that inputs from one on give
abbrev pub children_from : Slot → List Part → List Child
children_from s [] = []
children_from s (p ∷ ps) = piece s p (not (is_empty ps)) ++ children_from s ps

-- items before a list that is there
abbrev pub with_front : List (ItemOf Listed) → Option (List (ItemOf Listed))
    → Option (List (ItemOf Listed))
with_front l o = option_map (λ m. l ++ m) o

-- what is added to a list: what children are made
pub record IsAdded (r : Rate) (c : List Child) (old new : List (ItemOf Listed)) : Type 0 where
  pub items : List (ItemOf Listed)
  pub are : all_made r c ≡ Some items
  pub is : new ≡ old ++ items

-- the track of a slot, and those of some
abbrev pub track_from : Rate → List Part → Slot → Option (ItemOf Listed)
track_from r ps s = option_map (joined_with s.first) (all_made r (children_from s ps))

abbrev pub tracks_from : Rate → List Part → List Slot → Option (List (ItemOf Listed))
tracks_from r ps [] = Some []
tracks_from r ps (s ∷ ss) = with_first (track_from r ps s) (tracks_from r ps ss)

-- the first input with these tracks
pub record IsJoinedOf (r : Rate) (t : Timeline) (ps : List Part) (ss : List Slot)
    (joined : Timeline) : Type 0 where
  pub tracks : List (ItemOf Listed)
  pub are : tracks_from r ps ss ≡ Some tracks
  pub is : bare joined ≡ bare (with_roots tracks t)

-- the inputs joined; none where that has more than so many items
abbrev pub IsWithin : List Timeline → ℕ → Option Timeline → Type 0
IsWithin l most (Some r) = Joins l r × (count r.tracks.children ≤ most)
IsWithin l most None = (r : Timeline) → Joins l r → most < count r.tracks.children

-- ---- how many items there are

abbrev pub child_count : Child → ℕ
child_count (Old x) = count_of x
child_count (Ranged x s n) = count_of x

abbrev pub child_counts : List Child → ℕ
child_counts [] = 0
child_counts (c ∷ l) = child_count c + child_counts l

-- a slot's track, with all that stands in it
abbrev pub track_count : List Part → Slot → ℕ
track_count ps s = suc (child_counts (children_from s ps))

abbrev pub track_counts : List Part → List Slot → ℕ
track_counts ps [] = 0
track_counts ps (s ∷ ss) = track_count ps s + track_counts ps ss
