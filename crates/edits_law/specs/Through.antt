-- What a timeline shows after an edit, reckoned on the old one, where the list at the edit's place
-- is known only by its law and its length.
use Rattle.std.specs.Prelude.{ℕ, zero, suc, ◌==◌, ℤ, pos, unsigned_abs, cond}
use Rattle.std.specs.Prelude.{List, [], ◌∷◌, map, Option, Some, None, slice_get}
use Rattle.otio_model.specs.declared.compositions.ItemOf.{ItemOf}
use Rattle.otio_model.specs.declared.compositions.Listed.{Listed}
use Rattle.otio_model.specs.declared.timelines.Timeline.{Timeline}
use Rattle.otio_model.specs.declared.edit_types.Edit.{Edit}
use Rattle.otio_model.specs.Trees.{items_of}
use Rattle.coord.specs.Looks.{FrameRate, Show, Blank}
use Rattle.otio_model.specs.Overlaps.{within}
use Rattle.coord.specs.Sights.{View, Sight, sight, sight_by, viewer}
use Rattle.otio_model.specs.Lengths.{or_zero}
use Rattle.coord.specs.Programs.{kind_of}
use Rattle.edits.specs.Refusals.{long}
use Rattle.edits.specs.After.{frame_of, list_of, place_of}
use Rattle.edits.specs.Edits.{edited}
use Rattle.edits.specs.Laws.{law}

-- an item that is so long and shows what the law says
abbrev pub lawful : ℕ → (View → ℤ → Show) → Sight
lawful n law = record { length = Some n; shows = law; overlap = None }

-- how the items look, where the one at i looks as f says
abbrev pub sights_with : ℕ → (ItemOf Listed → Sight) → List (ItemOf Listed) → List Sight
sights_with i f [] = []
sights_with zero f (x ∷ l) = f x ∷ map sight l
sights_with (suc i) f (x ∷ l) = sight x ∷ sights_with i f l

-- how an item looks where the track at the place below it has this one child
abbrev pub sight_through : List ℕ → Sight → ItemOf Listed → Sight
sight_through [] law x = sight_by (λ l. law ∷ []) x
sight_through (i ∷ place) law x =
    sight_by (λ l. sights_with i (sight_through place law) (items_of l)) x

-- how the root child k looks, where the place begins at the root
abbrev pub child_through : List ℕ → Sight → ℕ → ItemOf Listed → Sight
child_through [] law k x = sight x
child_through (i ∷ place) law k x = cond (i == k) (sight_through place law x) (sight x)

-- what a root child that looks so shows at u ticks, Blank outside its length
abbrev pub root_shows : View → Sight → ℤ → Show
root_shows v x u = cond (within (pos 0) (pos (or_zero x.length)) u) (x.shows v u) Blank

-- how long the edited list is
abbrev pub edited_ticks : Timeline → Edit → ℕ
edited_ticks t e = unsigned_abs (long (edited (frame_of t) e (list_of t e)))

-- an item that shows what the edited list does
abbrev pub edited_sight : Timeline → Edit → Sight
edited_sight t e = lawful (edited_ticks t e) (λ v w. law v (frame_of t) e (list_of t e) w)

abbrev pub shows_through : (FrameRate → FrameRate) → Timeline → Edit → ℕ → Option (ItemOf Listed)
    → ℤ → Show
shows_through rate_kept t e k None u = Blank
shows_through rate_kept t e k (Some x) u =
    root_shows (viewer rate_kept (kind_of x)) (child_through (place_of e) (edited_sight t e) k x) u

-- what the root child k shows at u ticks after the edit
abbrev pub through_by : (FrameRate → FrameRate) → Timeline → Edit → ℕ → ℤ → Show
through_by rate_kept t e k u =
    shows_through rate_kept t e k (slice_get (items_of t.tracks.children) k) u

-- the same, with the media's whole rates
abbrev pub through : Timeline → Edit → ℕ → ℤ → Show
through = through_by (λ rate. rate)
