-- Items and children without the transitions of tracks, one level after another.
use Rattle.std.specs.Prelude.{Bool, true, false, ◌&&◌, cond, List, [], ◌∷◌}
use Rattle.otio_model.specs.declared.compositions.ItemOf.{ItemOf}
use Rattle.otio_model.specs.declared.compositions.Listed.{Listed}
use Rattle.otio_model.specs.Trees.{listed, items_of, is_transition}
use Rattle.flat.specs.Straight.{straight, without}
use Rattle.flat_law.proofs.Straight.{whole_item}

-- children at all levels, those of a track without their own transitions
abbrev pub straight_children : Bool → Listed → Listed
straight_children true l = listed (without (items_of (straight l)))
straight_children false l = straight l

-- the same of a list
abbrev pub straight_items : Bool → List (ItemOf Listed) → List (ItemOf Listed)
straight_items in_track [] = []
straight_items in_track (x ∷ l) =
    cond (in_track && is_transition x) (straight_items in_track l)
    (whole_item x ∷ straight_items in_track l)
