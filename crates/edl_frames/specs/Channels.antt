-- What a timeline shows on each channel of a list.
use Rattle.std.specs.Prelude.{ℕ, zero, suc, ℤ, pos, Bool, false, cond, List, [], ◌∷◌, Option, Some, None, codes}
use Rattle.std.specs.Str.{bytes_eq}
use Rattle.otio_model.specs.declared.compositions.ItemOf.{ItemOf}
use Rattle.otio_model.specs.declared.compositions.ItemOf.TheVariants.{Clip, Gap, Transition, Stack, Track}
use Rattle.otio_model.specs.declared.compositions.Listed.{Listed}
use Rattle.otio_model.specs.declared.timelines.Timeline.{Timeline}
use Rattle.otio_model.specs.Trees.{items_of}
use Rattle.otio_model.specs.Overlaps.{within}
use Rattle.otio_model.specs.Lengths.{or_zero}
use Rattle.edl_list.specs.declared.list.Channel.{Channel}
use Rattle.edl_list.specs.declared.list.Channel.TheVariants.{V, A, A2}
use Rattle.coord.specs.Programs.{instant, kind_of}
use Rattle.coord.specs.Looks.{Key, Reel, Show, Blank}
use Rattle.coord.specs.Sights.{sight}
use Rattle.coord.specs.Images.{Image, Empty, image}

abbrev pub is_track_of : List ℕ → ItemOf Listed → Bool
is_track_of kind (Clip c) = false
is_track_of kind (Gap g) = false
is_track_of kind (Transition t) = false
is_track_of kind (Stack s) = false
is_track_of kind (Track t) = bytes_eq t.kind kind

-- the track of a kind behind so many others of it
abbrev pub nth_track : List ℕ → ℕ → List (ItemOf Listed) → Option (ItemOf Listed)
nth_track kind i [] = None
nth_track kind zero (x ∷ xs) = cond (is_track_of kind x) (Some x) (nth_track kind zero xs)
nth_track kind (suc i) (x ∷ xs) =
    cond (is_track_of kind x) (nth_track kind i xs) (nth_track kind (suc i) xs)

-- V is the Video track, A and A2 are the first and the second Audio track
abbrev pub channel_track : Channel → List (ItemOf Listed) → Option (ItemOf Listed)
channel_track V xs = nth_track (codes "Video") 0 xs
channel_track A xs = nth_track (codes "Audio") 0 xs
channel_track A2 xs = nth_track (codes "Audio") 1 xs

-- by what the frames of a clip are known, of its reel and its own key
abbrev pub KeySeen : Type 0
KeySeen = Option (List ℕ) → Key → Key

-- by its own key
abbrev pub own_key : KeySeen
own_key reel key = key

-- by its reel, where it has one
abbrev pub reel_first : KeySeen
reel_first None key = key
reel_first (Some reel) key = Reel reel

-- what a root child shows at u ticks, where clips are known by these keys; Blank outside its length
abbrev pub keyed_child_shows : KeySeen → ItemOf Listed → ℤ → Show
keyed_child_shows key x u = cond (within (pos 0) (pos (or_zero (sight x).length)) u)
    ((sight x).shows (record { kind = kind_of x; rate_kept = λ rate. rate; key = key }) u) Blank

-- what is seen of a root child; nothing where there is none
abbrev pub keyed_shown : KeySeen → Option (ItemOf Listed) → ℤ → Image
keyed_shown key None u = Empty
keyed_shown key (Some x) u = image (keyed_child_shows key x u)

-- what is seen on a channel at record frame n: of its track, and nothing where there is none
abbrev pub on_by : KeySeen → Timeline → Channel → ℤ → Image
on_by key t c n = keyed_shown key (channel_track c (items_of t.tracks.children)) (instant t n)

abbrev pub on : Timeline → Channel → ℤ → Image
on t c n = on_by own_key t c n

-- the same, where each clip is known by its reel
abbrev pub on_reels : Timeline → Channel → ℤ → Image
on_reels t c n = on_by reel_first t c n
