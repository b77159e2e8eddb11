-- What an edited list shows at each instant.
use Rattle.std.specs.Prelude.{ℤ, pos, ◌+ℤ◌, ◌-ℤ◌, ◌*ℤ◌, int_lt, ◌||◌, cond, List, ◌∷◌, ◌++◌, Option, Some, None}
use Rattle.std.specs.Int.{int_min}
use Rattle.otio_model.specs.declared.compositions.ItemOf.{ItemOf}
use Rattle.otio_model.specs.declared.compositions.Listed.{Listed}
use Rattle.otio_model.specs.declared.edit_types.Edit.{Edit}
use Rattle.otio_model.specs.declared.edit_types.Edit.TheVariants as A
use Rattle.otio_model.specs.declared.edit_types.RemoveMode.{RemoveMode}
use Rattle.otio_model.specs.declared.edit_types.RemoveMode.TheVariants as R
use Rattle.coord.specs.Looks.{Show, Blank, list_shows}
use Rattle.otio_model.specs.Overlaps.{within}
use Rattle.coord.specs.Sights.{View, sight, looks}
use Rattle.edits.specs.Children.{Child, Old, ticks, child_ticks, seen_child}
use Rattle.edits.specs.Cuts.{strip}
use Rattle.edits.specs.Edges.{Held, held_at, start, end, Zone, Moves, slip_by, slipped_item, slide_by, slide_zone, ripple_by, item_zone, trim_by, roll_by, moves_zone, last_item, first_item}
use Rattle.edits.specs.Edits.{filling, in_ticks}

-- what a child shows at u ticks from its start, also outside its length
abbrev pub child_at : View → Child → ℤ → Show
child_at v c u = (seen_child v c).shows u

abbrev pub item_at : View → ItemOf Listed → ℤ → Show
item_at v x u = (sight x).shows v u

-- what the list shows where the zone's transitions are gone
abbrev pub stripped : View → List (ItemOf Listed) → ℤ → ℤ → ℤ → Show
stripped v l a b w = list_shows (looks v (strip l a b)) w

abbrev pub overwrite_law : View → List (ItemOf Listed) → ℤ → Child → ℤ → Show
overwrite_law v l a c w =
    cond (within a (a +ℤ child_ticks c) w) (child_at v c (w -ℤ a))
    (stripped v l a (a +ℤ child_ticks c) w)

abbrev pub insert_law : View → List (ItemOf Listed) → ℤ → ItemOf Listed → ℤ → Show
insert_law v l a x w =
    cond (int_lt w a) (stripped v l a a w)
    (cond (int_lt w (a +ℤ ticks x)) (item_at v x (w -ℤ a)) (stripped v l a a (w -ℤ ticks x)))

abbrev pub remove_law : RemoveMode → View → List (ItemOf Listed) → Held → ℤ → Show
remove_law R.Gap v l h w =
    cond (within (start h) (end h) w) Blank (stripped v l (start h) (end h) w)
remove_law R.Close v l h w =
    cond (int_lt w (start h)) (stripped v l (start h) (end h) w)
    (stripped v l (start h) (end h) (w +ℤ ticks h.item))

-- the list, where the held item's start is taken d greater; a gap stays
abbrev pub slip_law : ℤ → View → Held → ℤ → Show
slip_law d v h w =
    list_shows (looks v h.before ++ (seen_child v (slipped_item d h.item) ∷ looks v h.behind)) w

abbrev pub zoned : View → List (ItemOf Listed) → Zone → ℤ → Show
zoned v l z w = stripped v l z.from z.to w

-- y is the item before the held one, and begins where that begins but for its own length
abbrev pub slide_law : View → List (ItemOf Listed) → Held → ItemOf Listed → ℤ → ℤ → Show
slide_law v l h y d w =
    cond (int_lt w (int_min (start h) (start h +ℤ d))) (zoned v l (slide_zone h d) w)
    (cond (int_lt w (start h +ℤ d)) (item_at v y (w -ℤ (start h -ℤ ticks y)))
    (zoned v l (slide_zone h d) (w -ℤ d)))

abbrev pub ripple_law : View → List (ItemOf Listed) → Held → Moves → ℤ → Show
ripple_law v l h m w =
    cond (int_lt w (start h)) (zoned v l (item_zone h) w)
    (cond (int_lt w ((end h -ℤ m.head) +ℤ m.tail)) (item_at v h.item ((w -ℤ start h) +ℤ m.head))
    (zoned v l (item_zone h) ((w +ℤ m.head) -ℤ m.tail)))

abbrev pub trim_law : View → List (ItemOf Listed) → Held → Moves → ℤ → Show
trim_law v l h m w =
    cond (within (start h +ℤ m.head) (end h +ℤ m.tail) w) (item_at v h.item (w -ℤ start h))
    (cond (within (start h) (start h +ℤ m.head) w || within (end h +ℤ m.tail) (end h) w) Blank
    (zoned v l (moves_zone h m) w))

-- what an item shows, or nothing where there is none
abbrev pub item_or : View → Option (ItemOf Listed) → ℤ → Show
item_or v None u = Blank
item_or v (Some x) u = item_at v x u

abbrev pub ticks_or : Option (ItemOf Listed) → ℤ
ticks_or None = pos 0
ticks_or (Some x) = ticks x

abbrev pub roll_law : View → List (ItemOf Listed) → Held → Moves → ℤ → Show
roll_law v l h m w =
    cond (within (start h) (start h +ℤ m.head) w)
    (item_or v (last_item h.before) (w -ℤ (start h -ℤ ticks_or (last_item h.before))))
    (cond (within (start h +ℤ m.head) (end h +ℤ m.tail) w) (item_at v h.item (w -ℤ start h))
    (cond (within (end h +ℤ m.tail) (end h) w) (item_or v (first_item h.behind) (w -ℤ end h))
    (zoned v l (moves_zone h m) w)))

abbrev pub law_held : List (ItemOf Listed) → ℤ → (Held → Show) → Show
law_held l w g = elim (held_at l w) [ None ↦ Blank | Some h ↦ g h ]

abbrev pub law_beside : Held → (ItemOf Listed → Show) → Show
law_beside h g = elim (last_item h.before) [ None ↦ Blank | Some y ↦ g y ]

-- what the list that an edit makes shows at w, with frames of f ticks
abbrev pub law : View → ℤ → Edit → List (ItemOf Listed) → ℤ → Show
law v f (A.Overwrite place at x) l w = overwrite_law v l (at *ℤ f) (Old x) w
law v f (A.Insert place at x) l w = insert_law v l (at *ℤ f) x w
law v f (A.Slice place at) l w = stripped v l (at *ℤ f) (at *ℤ f) w
law v f (A.Fill place at mode x) l w =
    law_held l (at *ℤ f) (λ h. overwrite_law v l (start h) (filling mode x (ticks h.item)) w)
law v f (A.Remove place at mode) l w = law_held l (at *ℤ f) (λ h. remove_law mode v l h w)
law v f (A.Trim place at head tail) l w =
    law_held l (at *ℤ f) (λ h. trim_law v l h (trim_by f h (in_ticks f head tail)) w)
law v f (A.Slip place at by) l w =
    law_held l (at *ℤ f) (λ h. slip_law (slip_by f h (by *ℤ f)) v h w)
law v f (A.Slide place at by) l w =
    law_held l (at *ℤ f) (λ h. law_beside h (λ y. slide_law v l h y (slide_by f y (by *ℤ f)) w))
law v f (A.Ripple place at head tail) l w =
    law_held l (at *ℤ f) (λ h. ripple_law v l h (ripple_by f h.item (in_ticks f head tail)) w)
law v f (A.Roll place at head tail) l w =
    law_held l (at *ℤ f) (λ h. roll_law v l h (roll_by f h (in_ticks f head tail)) w)
