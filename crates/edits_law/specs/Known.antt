-- Items and children that have a length.
use Rattle.std.specs.Prelude.{◌≡◌, true, List, [], ◌∷◌, is_some}
use Rattle.otio_model.specs.declared.compositions.ItemOf.{ItemOf}
use Rattle.otio_model.specs.declared.compositions.Listed.{Listed}
use Rattle.otio_model.specs.declared.edit_types.Edit.{Edit}
use Rattle.otio_model.specs.declared.edit_types.Edit.TheVariants as A
use Rattle.coord.specs.Sights.{sight}
use Rattle.edits.specs.Children.{Child, Old, Ranged}

abbrev pub HasLength : ItemOf Listed → Type 0
HasLength x = is_some (sight x).length ≡ true

abbrev pub HaveLengths : List (ItemOf Listed) → Type 0
HaveLengths [] = Unit {0}
HaveLengths (x ∷ l) = HasLength x × HaveLengths l

-- a child that is given a range has the range's length
abbrev pub IsKnown : Child → Type 0
IsKnown (Old x) = HasLength x
IsKnown (Ranged x s n) = Unit {0}

abbrev pub AreKnown : List Child → Type 0
AreKnown [] = Unit {0}
AreKnown (c ∷ l) = IsKnown c × AreKnown l

-- so has the item that an edit puts in
abbrev pub ItemHasLength : Edit → Type 0
ItemHasLength (A.Overwrite place at x) = HasLength x
ItemHasLength (A.Insert place at x) = HasLength x
ItemHasLength (A.Slice place at) = Unit {0}
ItemHasLength (A.Fill place at mode x) = HasLength x
ItemHasLength (A.Remove place at mode) = Unit {0}
ItemHasLength (A.Trim place at head tail) = Unit {0}
ItemHasLength (A.Slip place at by) = Unit {0}
ItemHasLength (A.Slide place at by) = Unit {0}
ItemHasLength (A.Ripple place at head tail) = Unit {0}
ItemHasLength (A.Roll place at head tail) = Unit {0}
