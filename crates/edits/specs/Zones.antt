-- The zone of each edit, and how many children it touches.
use Rattle.std.specs.Prelude.{ℕ, ℤ, ◌+ℤ◌, ◌*ℤ◌, List, Option, Some, None, option_map, option_and_then, length}
use Rattle.otio_model.specs.declared.compositions.ItemOf.{ItemOf}
use Rattle.otio_model.specs.declared.compositions.Listed.{Listed}
use Rattle.otio_model.specs.declared.edit_types.Edit.{Edit}
use Rattle.otio_model.specs.declared.edit_types.Edit.TheVariants as A
use Rattle.edits.specs.Children.{ticks, child_ticks}
use Rattle.edits.specs.Edges.{Held, Zone, held_at, start, item_zone, slide_zone, moves_zone, slide_by, trim_by, roll_by, last_item}
use Rattle.edits.specs.Edits.{filling, in_ticks}
use Rattle.edits.specs.Narrow.{touched}

-- the zone of an edit, with frames of f ticks; a slip has none
abbrev pub zone_of : ℤ → Edit → List (ItemOf Listed) → Option Zone
zone_of f (A.Overwrite place at x) l = Some (record { from = at *ℤ f; to = (at *ℤ f) +ℤ ticks x })
zone_of f (A.Insert place at x) l = Some (record { from = at *ℤ f; to = at *ℤ f })
zone_of f (A.Slice place at) l = Some (record { from = at *ℤ f; to = at *ℤ f })
zone_of f (A.Fill place at mode x) l =
    option_map
    (λ (h : Held). record {
      from = start h;
      to = start h
          +ℤ child_ticks (filling mode x (ticks h.item));
    }) (held_at l (at *ℤ f))
zone_of f (A.Remove place at mode) l = option_map item_zone (held_at l (at *ℤ f))
zone_of f (A.Trim place at head tail) l =
    option_map (λ (h : Held). moves_zone h (trim_by f h (in_ticks f head tail)))
    (held_at l (at *ℤ f))
zone_of f (A.Slip place at by) l = None
zone_of f (A.Slide place at by) l =
    option_and_then
    (λ (h : Held). option_map (λ y. slide_zone h (slide_by f y (by *ℤ f))) (last_item h.before))
    (held_at l (at *ℤ f))
zone_of f (A.Ripple place at head tail) l = option_map item_zone (held_at l (at *ℤ f))
zone_of f (A.Roll place at head tail) l =
    option_map (λ (h : Held). moves_zone h (roll_by f h (in_ticks f head tail)))
    (held_at l (at *ℤ f))

-- how many children there are from the first to the last that it touches
abbrev pub touches : ℤ → Edit → List (ItemOf Listed) → ℕ
touches f e l = elim (zone_of f e l) [ None ↦ 0 | Some z ↦ length (touched l z.from z.to) ]
