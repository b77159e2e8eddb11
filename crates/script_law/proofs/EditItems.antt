-- The items that commands put in are items of edits.
use Rattle.std.proofs.Common.{◌≡◌, refl, sym, subst, ℕ, Bool, true, false, List, Option, Some, None}
use Rattle.std.specs.Prelude.{option_map, cond}
use Rattle.tick_time.specs.declared.rates.Rate.{Rate}
use Rattle.tick_time.specs.declared.spans.Span.{Span}
use Rattle.otio_model.specs.declared.compositions.ItemOf.{ItemOf}
use Rattle.otio_model.specs.declared.compositions.Listed.{Listed}
use Rattle.otio_model.specs.declared.media.Media.{Media}
use Rattle.otio_model.specs.declared.edit_types.Edit.{Edit}
use Rattle.otio_model.specs.declared.timelines.Timeline.{Timeline}
use Rattle.coord.specs.declared.faults.ItemFault.{ItemFault}
use Rattle.coord.specs.declared.faults.ItemFault.TheVariants.{Long}
use Rattle.edits.specs.Children.{plain_gap, with_range}
use Rattle.edits_law.specs.Editable.{HasEditItem, IsEditItem}
use Rattle.edit_script.specs.declared.commands.Act.{Act}
use Rattle.edit_script.specs.declared.commands.Act.TheVariants as A
use Rattle.edit_script.specs.declared.commands.Put.{Put}
use Rattle.edit_script.specs.declared.commands.Put.TheVariants as P
use Rattle.edit_script.specs.Items.{IsItem, clip_with}
use Rattle.media_rows.specs.Rows.{MediaRows}
use Rattle.edit_script.specs.RunActs.{IsEditOf, Puts}
use Rattle.edits.specs.After.{rate_of}
use Rattle.edit_script.specs.Runs.{AsksFor}

long_or_none : (b : Bool) (fault : ItemFault) → cond b (Some Long) None ≡ Some fault → fault ≡ Long
long_or_none true fault e = cc
long_or_none false fault e = absurd (cc e)

ranged_gap : (w : Span) → IsEditItem (with_range w plain_gap)
ranged_gap w = record { kind = refl; known = λ fault e. long_or_none _ fault e }

ranged_clip : (name : List ℕ) (w : Span) (media : Media) → IsEditItem (clip_with name w media)
ranged_clip name w media = record { kind = refl; known = λ fault e. long_or_none _ fault e }

gap_by : (o : Option Span) (x : ItemOf Listed) → option_map (λ w. with_range w plain_gap) o ≡ Some x
    → IsEditItem x
gap_by None x e = absurd (cc e)
gap_by (Some w) x e = let same : with_range w plain_gap ≡ x = cc e in
    subst IsEditItem same (ranged_gap w)

item_is : (rate : Rate) (media : MediaRows) (put : Put) (x : ItemOf Listed)
    → IsItem rate media put x → IsEditItem x
item_is rate media (P.Gap n) x i = gap_by _ x i
item_is rate media (P.Clip name reel start length) x i =
    subst IsEditItem (sym i.2.is) (ranged_clip name i.2.shown _)

put_is : (rate : Rate) (media : MediaRows) (put : Put) (with_item : ItemOf Listed → Edit) (e : Edit)
    → ((x : ItemOf Listed) → IsEditItem x → HasEditItem (with_item x))
    → Puts rate media put with_item e → HasEditItem e
put_is rate media put with_item e has p =
    subst HasEditItem (sym p.2) (has p.0 (item_is rate media put p.0 p.1))

asked-has_edit_item : (rate : Rate) (media : MediaRows) (act : Act) (e : Edit)
    → IsEditOf rate media act e
    → HasEditItem e
asked-has_edit_item rate media (A.Overwrite place at put) e i = put_is rate media put _ e (λ x h.
    h) i
asked-has_edit_item rate media (A.Insert place at put) e i = put_is rate media put _ e (λ x h. h) i
asked-has_edit_item rate media (A.Fill place at mode put) e i = put_is rate media put _ e (λ x h.
    h) i
asked-has_edit_item rate media (A.Slice place at) e i = subst HasEditItem (sym i) tt
asked-has_edit_item rate media (A.Remove place at mode) e i = subst HasEditItem (sym i) tt
asked-has_edit_item rate media (A.Trim place at head tail) e i = subst HasEditItem (sym i) tt
asked-has_edit_item rate media (A.Slip place at by) e i = subst HasEditItem (sym i) tt
asked-has_edit_item rate media (A.Slide place at by) e i = subst HasEditItem (sym i) tt
asked-has_edit_item rate media (A.Ripple place at head tail) e i = subst HasEditItem (sym i) tt
asked-has_edit_item rate media (A.Roll place at head tail) e i = subst HasEditItem (sym i) tt
asked-has_edit_item rate media A.Undo e i = absurd i
asked-has_edit_item rate media A.Redo e i = absurd i

-- the edit that a command asks for has such an item, where it has one
pub asked_item : (media : MediaRows) (act : Act) (t : Timeline) (e : Edit)
    → AsksFor media act t e → HasEditItem e
asked_item media act t e a = asked-has_edit_item (rate_of t) media act e a.edit
