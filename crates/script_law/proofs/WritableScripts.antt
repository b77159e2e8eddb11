-- Each timeline that commands lead to is writable.
use Rattle.std.proofs.Common.{◌≡◌, refl, sym, subst, ℕ, zero, suc, List, [], ◌∷◌, Option, Some, None}
use Rattle.std.specs.Prelude.{slice_get, IsSomeAnd}
use Rattle.tick_time.specs.declared.rates.Rate.{Rate}
use Rattle.tick_time.specs.declared.spans.Span.{Span}
use Rattle.otio_model.specs.declared.compositions.ItemOf.{ItemOf}
use Rattle.otio_model.specs.declared.compositions.Listed.{Listed}
use Rattle.otio_model.specs.declared.edit_types.Edit.{Edit}
use Rattle.otio_model.specs.declared.timelines.Timeline.{Timeline}
use Rattle.otio_model.specs.Timelines.{bare}
use Rattle.coord.specs.Soundness.{IsSound}
use Rattle.coord.proofs.SpareLemmas.{sound_bare}
use Rattle.undo_log.specs.States.{State, moved, turned_some}
use Rattle.edits.specs.After.{rate_of}
use Rattle.edits.specs.Refusals.{IsAfter}
use Rattle.edits_law.proofs.SoundEdits.{stays_sound}
use Rattle.edit_script.specs.declared.commands.Act.{Act}
use Rattle.edit_script.specs.declared.commands.Act.TheVariants as A
use Rattle.edit_script.specs.declared.commands.ScriptCommand.{ScriptCommand}
use Rattle.edit_script.specs.declared.commands.Put.{Put}
use Rattle.edit_script.specs.declared.commands.Put.TheVariants as P
use Rattle.edit_script.specs.RunActs.{IsEditOf, Puts}
use Rattle.edit_script.specs.Items.{clip_with, media_at}
use Rattle.tick_time.specs.Frames.{in_ticks}
use Rattle.media_rows.specs.Rows.{MediaRows}
use Rattle.edit_script.specs.Items as put
use Rattle.edit_script.specs.Runs.{AsksFor, Runs, Takes, edits, undoes, redoes, moved_on}
use Rattle.script_law.specs.Shown.{opened}
use Rattle.script_law.proofs.EditItems.{asked_item}
use Rattle.object_law.specs.Writable as W
use Rattle.object_law.specs.Writable.{IsItem, IsTimeline}
use Rattle.script_law.specs.Items.{HasWritableItem}
use Rattle.script_law.proofs.EditedTimelines.{stays_writable}
use Rattle.writable_law.proofs.WritableChildren.{gap_writable}

-- ---- what commands put in

clip_is : (name : List ℕ) (shown : Span) (url : List ℕ) (available : Span)
    → IsItem (clip_with name shown (media_at url available))
clip_is name shown url available = W.clip _ _ refl (refl, tt, tt, (refl, tt))

item_is : (rate : Rate) (media : MediaRows) (p : Put) (x : ItemOf Listed)
    → put.IsItem rate media p x → IsItem x
item_is rate media (P.Gap n) x i = gap_writable (in_ticks rate n) rate x i
item_is rate media (P.Clip name reel start length) x i =
    subst IsItem (sym i.2.is) (clip_is name i.2.shown _ i.2.available)

put_is : (rate : Rate) (media : MediaRows) (p : Put) (with_item : ItemOf Listed → Edit) (e : Edit)
    → ((x : ItemOf Listed) → IsItem x → HasWritableItem (with_item x))
    → Puts rate media p with_item e → HasWritableItem e
put_is rate media p with_item e has i =
    subst HasWritableItem (sym i.2) (has i.0 (item_is rate media p i.0 i.1))

asked-has_writable_item : (rate : Rate) (media : MediaRows) (act : Act) (e : Edit)
    → IsEditOf rate media act e
    → HasWritableItem e
asked-has_writable_item rate media (A.Overwrite place at p) e i = put_is rate media p _ e (λ x h.
    h) i
asked-has_writable_item rate media (A.Insert place at p) e i = put_is rate media p _ e (λ x h. h) i
asked-has_writable_item rate media (A.Fill place at mode p) e i = put_is rate media p _ e (λ x h.
    h) i
asked-has_writable_item rate media (A.Slice place at) e i = subst HasWritableItem (sym i) tt
asked-has_writable_item rate media (A.Remove place at mode) e i = subst HasWritableItem (sym i) tt
asked-has_writable_item rate media (A.Trim place at head tail) e i = subst HasWritableItem (sym i)
    tt
asked-has_writable_item rate media (A.Slip place at by) e i = subst HasWritableItem (sym i) tt
asked-has_writable_item rate media (A.Slide place at by) e i = subst HasWritableItem (sym i) tt
asked-has_writable_item rate media (A.Ripple place at head tail) e i = subst HasWritableItem (sym
    i) tt
asked-has_writable_item rate media (A.Roll place at head tail) e i = subst HasWritableItem (sym i)
    tt
asked-has_writable_item rate media A.Undo e i = absurd i
asked-has_writable_item rate media A.Redo e i = absurd i

-- ---- steps

-- sound, and writable
record IsKept (t : Timeline) : Type 0 where
  sound : IsSound t
  writable : IsTimeline t

abbrev AreKept : List Timeline → Type 0
AreKept [] = Unit {0}
AreKept (t ∷ ts) = IsKept t × AreKept ts

record IsKeptState (s : State) : Type 0 where
  before : AreKept s.before
  now : IsKept s.now
  after : AreKept s.after

on_edit : (media : MediaRows) (act : Act) (s : State) (e : Edit) (t : Timeline)
    → AsksFor media act s.now e → IsAfter s.now e t → IsKeptState s → IsKeptState (moved_on t s)
on_edit media act s e t asks a k =
    let item = asked_item media act s.now e asks in
    record {
      before = (k.now, k.before);
      now = record {
        sound = stays_sound s.now e t k.now.sound item a;
        writable = stays_writable s.now e t k.now.sound k.now.writable item
            (asked-has_writable_item (rate_of s.now) media act e asks.edit) a;
      };
      after = tt;
    }

undo_by : (before after : List Timeline) (now : Timeline) (r : State)
    → IsKeptState (record { before = before; now = now; after = after })
    → moved before now after ≡ Some r → IsKeptState r
undo_by [] after now r k e = absurd (cc e)
undo_by (b ∷ before) after now r k e =
    let same : record { before = before; now = b; after = now ∷ after } ≡ r = cc e in
    subst IsKeptState same
    (record { before = k.before.1; now = k.before.0; after = (k.now, k.after) })

redo_by : (before after : List Timeline) (now : Timeline) (r : State)
    → IsKeptState (record { before = before; now = now; after = after })
    → turned_some (moved after now before) ≡ Some r → IsKeptState r
redo_by before [] now r k e = absurd (cc e)
redo_by before (a ∷ after) now r k e =
    let same : record { before = now ∷ before; now = a; after = after } ≡ r = cc e in
    subst IsKeptState same
    (record { before = (k.now, k.before); now = k.after.0; after = k.after.1 })

on_act : (media : MediaRows) (act : Act) (s r : State) → Takes media act s r → IsKeptState s
    → IsKeptState r
on_act media act s r (edits e t asks a same) k =
    subst IsKeptState (sym same) (on_edit media act s e t asks a k)
on_act media act s r (undoes is e) k = undo_by s.before s.after s.now r k e
on_act media act s r (redoes is e) k = redo_by s.before s.after s.now r k e

on_next : (media : MediaRows) (s r : State) (o : Option ScriptCommand)
    → IsSomeAnd o (λ c. Takes media c.act s r) → IsKeptState s → IsKeptState r
on_next media s r None t k = absurd t
on_next media s r (Some c) t k = on_act media c.act s r t k

runs_keep : (media : MediaRows) (script : List ScriptCommand) (n : ℕ) (s r : State) → IsKeptState s
    → Runs media script n s r → IsKeptState r
runs_keep media script zero s r k runs = subst IsKeptState (sym runs) k
runs_keep media script (suc n) s r k runs =
    on_next media runs.0 r (slice_get script n) runs.2 (runs_keep media script n s runs.0 k runs.1)

pub scripts_keep : (media : MediaRows) (script : List ScriptCommand) (n : ℕ) (t : Timeline) (s :
    State)
    → IsSound t → IsTimeline t → Runs media script n (opened t) s → IsTimeline s.now
scripts_keep media script n t s sound writable runs =
    (runs_keep media script n (opened t) s (record {
      before = tt;
      now = record { sound = sound_bare t (bare t) refl sound; writable = writable };
      after = tt;
    }) runs).now.writable
