-- The children that give events, as the code of `homes` keeps them; no public clause cites them.
use Rattle.std.specs.Prelude.{◌≡◌, ℕ, ◌+◌, ◌==◌, List, [], ◌∷◌, ◌++◌, Some, None, Option, codes, map, get_or}
use Rattle.otio_model.specs.declared.compositions.ItemOf.{ItemOf}
use Rattle.otio_model.specs.declared.compositions.Listed.{Listed}
use Rattle.edl_list.specs.declared.list.Channel.{Channel}
use Rattle.edl_list.specs.declared.list.Channel.TheVariants.{V, A, A2}
use Rattle.edl_list.specs.declared.list.Event.{Event}
use Rattle.edl_frames.specs.Jobs.{Job}
use Rattle.edl_frames.specs.Carried.{count_of_kind}
use Rattle.edl_frames.specs.Homes.{Homed, homed_on, homed_root}
use Rattle.edl_conform.specs.declared.events_from_tracks.Taken.{Taken}
use Rattle.edl_conform.specs.declared.event_homes.Spot.{Spot}
use Rattle.edl_conform.specs.declared.event_homes.Givers.{Givers}
use Rattle.edl_conform.specs.declared.event_homes.Given.{Given}

-- the place of a child
abbrev pub place_of : Spot → List ℕ
place_of s = s.track ∷ s.child ∷ []

abbrev pub places : List Spot → List (List ℕ)
places l = map place_of l

-- the place of the child at an index
abbrev pub home_at : List Spot → ℕ → List ℕ
home_at l i = get_or (places l) i []

-- the places of items that have events
abbrev pub homes_in : List Homed → List (List ℕ)
homes_in l = map (λ h. h.home) l

-- the place of a child that gives an event
abbrev pub one_home : Option Event → (k i : ℕ) → List (List ℕ)
one_home None k i = []
one_home (Some e) k i = (k ∷ i ∷ []) ∷ []

-- those of a channel
abbrev pub spots_on : Channel → Givers → List Spot
spots_on V g = g.picture.items
spots_on A g = g.first_sound.items
spots_on A2 g = g.second_sound.items

abbrev pub given_on : Channel → Given → ℕ
given_on V g = g.picture
given_on A g = g.first_sound
given_on A2 g = g.second_sound

-- one more of a channel
abbrev pub given_behind : Channel → Given → Given
given_behind V g = record g { picture = g.picture + 1 }
given_behind A g = record g { first_sound = g.first_sound + 1 }
given_behind A2 g = record g { second_sound = g.second_sound + 1 }

-- whether no Video track, no Audio track or one stands among these is known
pub record AreCounted (past : List (ItemOf Listed)) (taken : Taken) : Type 0 where
  pub video : (count_of_kind (codes "Video") past == 0) ≡ (taken.video == 0)
  pub audio : (count_of_kind (codes "Audio") past == 0) ≡ (taken.audio == 0)
  pub second : (count_of_kind (codes "Audio") past == 1) ≡ (taken.audio == 1)

-- the children of a root child after these that give an event have come after the others
pub record PutsRoot (k : ℕ) (past : List (ItemOf Listed)) (x : ItemOf Listed) (next : Taken)
    (old new : Givers) : Type 0 where
  pub counted : AreCounted (past ++ x ∷ []) next
  pub put : (j : Job) (c : Channel) → places (spots_on c new)
      ≡ places (spots_on c old) ++ homes_in (homed_on c (homed_root j k past x))
