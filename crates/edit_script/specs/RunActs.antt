-- The edits that commands ask for, and when they ask for none.
use Rattle.std.specs.Prelude.{◌≡◌, ℤ, Bool, false, ◌||◌}
use Rattle.tick_time.specs.declared.rates.Rate.{Rate}
use Rattle.otio_model.specs.declared.compositions.ItemOf.{ItemOf}
use Rattle.otio_model.specs.declared.compositions.Listed.{Listed}
use Rattle.otio_model.specs.declared.edit_types.Edit.{Edit}
use Rattle.otio_model.specs.declared.edit_types.Edit.TheVariants as E
use Rattle.edit_script.specs.declared.commands.Act.{Act}
use Rattle.edit_script.specs.declared.commands.Act.TheVariants as A
use Rattle.edit_script.specs.declared.commands.Put.{Put}
use Rattle.edit_script.specs.Items as I
use Rattle.edit_script.specs.Items.{IsItem, is_far, is_wrong_put}
use Rattle.media_rows.specs.Rows.{MediaRows}

-- some item is what is put in, and the edit is the one with it
abbrev pub Puts : Rate → MediaRows → Put → (ItemOf Listed → Edit) → Edit → Type 0
Puts rate media put with_item e =
    (x : ItemOf Listed) × IsItem rate media put x × (e ≡ with_item x)

-- the edit that an act asks for, where the record rate is this
abbrev pub IsEditOf : Rate → MediaRows → Act → Edit → Type 0
IsEditOf rate media (A.Overwrite place at put) e = Puts rate media put (E.Overwrite place at) e
IsEditOf rate media (A.Insert place at put) e = Puts rate media put (E.Insert place at) e
IsEditOf rate media (A.Slice place at) e = e ≡ E.Slice place at
IsEditOf rate media (A.Fill place at mode put) e = Puts rate media put (E.Fill place at mode) e
IsEditOf rate media (A.Remove place at mode) e = e ≡ E.Remove place at mode
IsEditOf rate media (A.Trim place at head tail) e = e ≡ E.Trim place at head tail
IsEditOf rate media (A.Slip place at by) e = e ≡ E.Slip place at by
IsEditOf rate media (A.Slide place at by) e = e ≡ E.Slide place at by
IsEditOf rate media (A.Ripple place at head tail) e = e ≡ E.Ripple place at head tail
IsEditOf rate media (A.Roll place at head tail) e = e ≡ E.Roll place at head tail
IsEditOf rate media A.Undo e = ⊥
IsEditOf rate media A.Redo e = ⊥

-- it puts in a clip of a reel that isn't listed
abbrev pub is_unlisted : MediaRows → Act → Bool
is_unlisted media (A.Overwrite place at put) = I.is_unlisted media put
is_unlisted media (A.Insert place at put) = I.is_unlisted media put
is_unlisted media (A.Slice place at) = false
is_unlisted media (A.Fill place at mode put) = I.is_unlisted media put
is_unlisted media (A.Remove place at mode) = false
is_unlisted media (A.Trim place at head tail) = false
is_unlisted media (A.Slip place at by) = false
is_unlisted media (A.Slide place at by) = false
is_unlisted media (A.Ripple place at head tail) = false
is_unlisted media (A.Roll place at head tail) = false
is_unlisted media A.Undo = false
is_unlisted media A.Redo = false

-- one of three numbers of record frames is out of range
abbrev pub are_far : Rate → ℤ → ℤ → ℤ → Bool
are_far rate at head tail = is_far rate at || (is_far rate head || is_far rate tail)

-- one of its times is out of range, or a length or a start is negative
abbrev pub is_beyond : Rate → MediaRows → Act → Bool
is_beyond rate media (A.Overwrite place at put) = is_far rate at || is_wrong_put rate media put
is_beyond rate media (A.Insert place at put) = is_far rate at || is_wrong_put rate media put
is_beyond rate media (A.Slice place at) = is_far rate at
is_beyond rate media (A.Fill place at mode put) = is_far rate at || is_wrong_put rate media put
is_beyond rate media (A.Remove place at mode) = is_far rate at
is_beyond rate media (A.Trim place at head tail) = are_far rate at head tail
is_beyond rate media (A.Slip place at by) = is_far rate at || is_far rate by
is_beyond rate media (A.Slide place at by) = is_far rate at || is_far rate by
is_beyond rate media (A.Ripple place at head tail) = are_far rate at head tail
is_beyond rate media (A.Roll place at head tail) = are_far rate at head tail
is_beyond rate media A.Undo = false
is_beyond rate media A.Redo = false
