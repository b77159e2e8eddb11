-- The track of channel V among root children, and what it shows.
use Rattle.std.proofs.Common.{inl, inr, subst, ◌≡◌, ◌∙◌, refl, sym, ap, ℕ, ◌+◌, ℤ, pos, Bool, true, false, cond, List, Option, Some, None, codes, drop, slice_get}
use Rattle.otio_model.specs.declared.compositions.ItemOf.{ItemOf}
use Rattle.otio_model.specs.declared.compositions.Listed.{Listed}
use Rattle.otio_model.specs.declared.timelines.Timeline.{Timeline}
use Rattle.otio_model.specs.Trees.{items_of}
use Rattle.coord.specs.Programs.{instant, program, shown_by}
use Rattle.coord.specs.Images.{Image, image}
use Rattle.coord.proofs.Members.{next}
use Rattle.edl_list.specs.declared.list.Channel.TheVariants.{V}
use Rattle.edl_frames.specs.Channels.{is_track_of, nth_track, channel_track, own_key, keyed_shown, on}
use Rattle.drill.specs.Sums.{child_sum, channel_sum, LeavesRange, StopsChild, StopsChannel}
use Rattle.drill.proofs.SumLemmas.{same_sum, nothing_seen}

-- ---- the first track of kind Video

-- the first among the children from an index on
abbrev pub from_here : List (ItemOf Listed) → ℕ → Option (ItemOf Listed)
from_here l i = nth_track (codes "Video") 0 (drop i l)

here : (l : List (ItemOf Listed)) (i : ℕ) (x : ItemOf Listed) (b : Bool) → slice_get l i ≡ Some x
    → is_track_of (codes "Video") x ≡ b → from_here l i ≡ cond b (Some x) (from_here l (i + 1))
here l i x b e f =
    ap (nth_track (codes "Video") 0) (next l i x e)
    ∙ ap (λ (z : Bool). cond z (Some x) (from_here l (i + 1))) f

-- a child of another kind is passed over
pub passed_over : (l : List (ItemOf Listed)) (i : ℕ) (x : ItemOf Listed) → slice_get l i ≡ Some x
    → is_track_of (codes "Video") x ≡ false → channel_track V l ≡ from_here l i
    → channel_track V l ≡ from_here l (i + 1)
passed_over l i x e f before = before ∙ here l i x false e f

-- one of kind Video is found
pub is_found : (l : List (ItemOf Listed)) (i : ℕ) (x : ItemOf Listed) → slice_get l i ≡ Some x
    → is_track_of (codes "Video") x ≡ true → channel_track V l ≡ from_here l i
    → channel_track V l ≡ slice_get l i
is_found l i x e f before = before ∙ here l i x true e f ∙ sym e

-- ---- what the channel shows

-- what is seen of a root child is what it shows
seen_of : (o : Option (ItemOf Listed)) (u : ℤ)
    → image (shown_by (λ rate. rate) o u) ≡ keyed_shown own_key o u
seen_of None u = refl
seen_of (Some x) u = refl

-- what is seen of its track is what is seen on the channel
track_seen : (t : Timeline) (k : ℕ)
    → channel_track V (items_of t.tracks.children) ≡ slice_get (items_of t.tracks.children) k
    → (frame : ℤ) → image (program t k frame) ≡ on t V frame
track_seen t k e frame = seen_of (slice_get (items_of t.tracks.children) k) (instant t frame)
    ∙ ap (λ o. keyed_shown own_key o (instant t frame)) (sym e)

-- the sum over its track is that of the channel
pub track_sum : (t : Timeline) (k : ℕ) (first : ℤ) (n : ℕ)
    → channel_track V (items_of t.tracks.children) ≡ slice_get (items_of t.tracks.children) k
    → child_sum t k first n ≡ channel_sum t first n
track_sum t k first n e =
    same_sum (λ (frame : ℤ). image (program t k frame)) (on t V) first n (track_seen t k e)

-- why it isn't made is why that isn't
pub track_stops : (t : Timeline) (k : ℕ) (first : ℤ) (n : ℕ)
    → channel_track V (items_of t.tracks.children) ≡ slice_get (items_of t.tracks.children) k
    → StopsChild t k first n → StopsChannel t first n
track_stops t k first n e (inl mix) = inl (k, mix)
track_stops t k first n e (inr wide) = inr (subst (λ (f : ℤ → Image). LeavesRange f first n)
    (λ i frame. track_seen t k e frame i) wide)

-- without a track the sum is 0
pub no_track : (t : Timeline) (first : ℤ) (n : ℕ)
    → channel_track V (items_of t.tracks.children) ≡ None → pos 0 ≡ channel_sum t first n
no_track t first n e =
    nothing_seen (on t V) first n (λ frame. ap (λ o. keyed_shown own_key o (instant t frame)) e)
