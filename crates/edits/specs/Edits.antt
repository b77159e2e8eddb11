-- What the ten edits make of a list of items. All their numbers are in ticks here.
use Rattle.std.specs.Prelude.{◌*◌, ℤ, pos, ◌+ℤ◌, ◌*ℤ◌, int_lt, cond, List, [], ◌∷◌, ◌++◌, Some, None, unsigned_abs}
use Rattle.tick_time.specs.Rounding.{half_even}
use Rattle.otio_model.specs.declared.compositions.ItemOf.{ItemOf}
use Rattle.otio_model.specs.declared.compositions.ItemOf.TheVariants.{Clip, Gap, Transition, Stack, Track}
use Rattle.otio_model.specs.declared.compositions.Listed.{Listed}
use Rattle.otio_model.specs.declared.effect_types.Effect.{Effect}
use Rattle.otio_model.specs.declared.effect_types.Effect.TheVariants as E
use Rattle.otio_model.specs.declared.edit_types.Edit.{Edit}
use Rattle.otio_model.specs.declared.edit_types.Edit.TheVariants as A
use Rattle.otio_model.specs.declared.edit_types.FillMode.{FillMode}
use Rattle.otio_model.specs.declared.edit_types.FillMode.TheVariants as M
use Rattle.otio_model.specs.declared.edit_types.RemoveMode.{RemoveMode}
use Rattle.otio_model.specs.declared.edit_types.RemoveMode.TheVariants as R
use Rattle.otio_model.specs.Lengths.{trimmed_start}
use Rattle.edits.specs.Children.{Child, Old, Ranged, ticks, child_ticks, new_gap}
use Rattle.edits.specs.Cuts.{left_piece, strip, olds, put_between}
use Rattle.edits.specs.Edges.{Held, held_at, start, end, Moves, slipped, slide_by, slid, last_item, ripple_by, rippled, trim_by, trimmed, roll_by, rolled}

-- ---- the five edits of lists

-- a child over what stands from a on
abbrev pub overwritten : List (ItemOf Listed) → ℤ → Child → List Child
overwritten l a c = put_between (strip l a (a +ℤ child_ticks c)) a (c ∷ []) (a +ℤ child_ticks c)

-- an item between what stands before a and after it
abbrev pub inserted : List (ItemOf Listed) → ℤ → ItemOf Listed → List Child
inserted l a x = put_between (strip l a a) a (Old x ∷ []) a

abbrev pub sliced : List (ItemOf Listed) → ℤ → List Child
sliced l a = put_between (strip l a a) a [] a

abbrev pub in_place : RemoveMode → Held → List Child
in_place R.Gap h = new_gap (ticks h.item) ∷ []
in_place R.Close h = []

abbrev pub removed : RemoveMode → List (ItemOf Listed) → Held → List Child
removed mode l h = put_between (strip l (start h) (end h)) (start h) (in_place mode h) (end h)

-- the speed at which n ticks fill others, in millionths
abbrev pub fit_speed : ℤ → ℤ → ℤ
fit_speed n room = pos (half_even (unsigned_abs n * 1000000) (unsigned_abs room))

abbrev pub warp : ℤ → Effect
warp speed =
    E.Warp (record { metadata = []; name = []; effect_name = []; time_scalar = speed; rest = [] })

-- the item with one effect more; a transition has none
abbrev pub with_effect : Effect → ItemOf Listed → ItemOf Listed
with_effect e (Clip c) = Clip (record c { effects = c.effects ++ e ∷ [] })
with_effect e (Gap g) = Gap (record g { effects = g.effects ++ e ∷ [] })
with_effect e (Transition t) = Transition t
with_effect e (Stack k) = Stack (record k { effects = k.effects ++ e ∷ [] })
with_effect e (Track t) = Track (record t { effects = t.effects ++ e ∷ [] })

-- the item at the speed at which it is so long
abbrev pub fitted : ItemOf Listed → ℤ → ItemOf Listed
fitted x room = with_effect (warp (fit_speed (ticks x) room)) x

-- what of an item goes into a gap
abbrev pub filling : FillMode → ItemOf Listed → ℤ → Child
filling M.Source x room = Old x
filling M.Sequence x room = cond (int_lt room (ticks x)) (left_piece x room) (Old x)
filling M.Fit x room = Ranged (fitted x room) (trimmed_start x) room

abbrev pub filled : FillMode → ItemOf Listed → List (ItemOf Listed) → Held → List Child
filled mode x l h = overwritten l (start h) (filling mode x (ticks h.item))

-- ---- all ten, with frames of f ticks

abbrev pub in_ticks : ℤ → ℤ → ℤ → Moves
in_ticks f head tail = record { head = head *ℤ f; tail = tail *ℤ f }

-- the list where an item holds the instant, else the old one
abbrev pub at_held : List (ItemOf Listed) → ℤ → (Held → List Child) → List Child
at_held l w g = elim (held_at l w) [ None ↦ olds l | Some h ↦ g h ]

-- the same where there is an item before
abbrev pub beside : Held → (ItemOf Listed → List Child) → List Child
beside h g = elim (last_item h.before) [ None ↦ [] | Some y ↦ g y ]

-- the list that an edit makes
abbrev pub edited : ℤ → Edit → List (ItemOf Listed) → List Child
edited f (A.Overwrite place at x) l = overwritten l (at *ℤ f) (Old x)
edited f (A.Insert place at x) l = inserted l (at *ℤ f) x
edited f (A.Slice place at) l = sliced l (at *ℤ f)
edited f (A.Fill place at mode x) l = at_held l (at *ℤ f) (filled mode x l)
edited f (A.Remove place at mode) l = at_held l (at *ℤ f) (removed mode l)
edited f (A.Trim place at head tail) l =
    at_held l (at *ℤ f) (λ h. trimmed h (trim_by f h (in_ticks f head tail)))
edited f (A.Slip place at by) l = at_held l (at *ℤ f) (λ h. slipped f h (by *ℤ f))
edited f (A.Slide place at by) l =
    at_held l (at *ℤ f) (λ h. beside h (λ y. slid h (slide_by f y (by *ℤ f))))
edited f (A.Ripple place at head tail) l =
    at_held l (at *ℤ f) (λ h. rippled h (ripple_by f h.item (in_ticks f head tail)))
edited f (A.Roll place at head tail) l =
    at_held l (at *ℤ f) (λ h. rolled h (roll_by f h (in_ticks f head tail)))
