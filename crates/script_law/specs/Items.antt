-- The item of an edit is written so that it is read again.
use Rattle.otio_model.specs.declared.edit_types.Edit.{Edit}
use Rattle.otio_model.specs.declared.edit_types.Edit.TheVariants as A
use Rattle.object_law.specs.Writable.{IsItem}

-- an edit that puts no item in has none
abbrev pub HasWritableItem : Edit → Type 0
HasWritableItem (A.Overwrite place at x) = IsItem x
HasWritableItem (A.Insert place at x) = IsItem x
HasWritableItem (A.Slice place at) = Unit {0}
HasWritableItem (A.Fill place at mode x) = IsItem x
HasWritableItem (A.Remove place at mode) = Unit {0}
HasWritableItem (A.Trim place at head tail) = Unit {0}
HasWritableItem (A.Slip place at by) = Unit {0}
HasWritableItem (A.Slide place at by) = Unit {0}
HasWritableItem (A.Ripple place at head tail) = Unit {0}
HasWritableItem (A.Roll place at head tail) = Unit {0}
