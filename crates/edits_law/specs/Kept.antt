-- Edits that keep a track's length.
use Rattle.std.specs.Prelude.{◌≡◌, Some}
use Rattle.otio_model.specs.declared.compositions.ItemOf.{ItemOf}
use Rattle.otio_model.specs.declared.compositions.Listed.{Listed}
use Rattle.otio_model.specs.declared.timelines.Timeline.{Timeline}
use Rattle.otio_model.specs.declared.edit_types.Edit.{Edit}
use Rattle.otio_model.specs.Trees.{item_at}
use Rattle.otio_model.specs.Lengths.{length_of}
use Rattle.edits.specs.After.{place_of}

-- the track at the edit's place is as long in the one timeline as in the other
abbrev pub KeepsLength : Timeline → Edit → Timeline → Type 0
KeepsLength t e new = (x y : ItemOf Listed) → item_at (place_of e) t.tracks.children ≡ Some x
    → item_at (place_of e) new.tracks.children ≡ Some y → length_of x ≡ length_of y
