-- Each command keeps what is known of the timelines of a state.
use Rattle.std.proofs.Common.{◌≡◌, refl, sym, subst, ℕ, zero, suc, List, [], ◌∷◌, Option, Some, None}
use Rattle.std.specs.Prelude.{slice_get, IsSomeAnd}
use Rattle.otio_model.specs.declared.timelines.Timeline.{Timeline}
use Rattle.otio_model.specs.declared.edit_types.Edit.{Edit}
use Rattle.otio_model.specs.Timelines.{bare}
use Rattle.coord.specs.Soundness.{IsSound}
use Rattle.coord.proofs.SpareLemmas.{sound_bare}
use Rattle.undo_log.specs.States.{State, moved, turned_some}
use Rattle.edits.specs.Refusals.{IsAfter}
use Rattle.edits_law.proofs.SoundEdits.{stays_sound}
use Rattle.edit_plans.proofs.Shown.{shows_through}
use Rattle.edit_script.specs.declared.commands.Act.{Act}
use Rattle.edit_script.specs.declared.commands.ScriptCommand.{ScriptCommand}
use Rattle.media_rows.specs.Rows.{MediaRows}
use Rattle.edit_script.specs.Runs.{AsksFor, Runs, Takes, edits, undoes, redoes, moved_on}
use Rattle.script_law.specs.Shown.{IsEditedFrom, IsShown, opened}
use Rattle.script_law.proofs.EditItems.{asked_item}

abbrev AreSound : List Timeline → Type 0
AreSound [] = Unit {0}
AreSound (t ∷ ts) = IsSound t × AreSound ts

-- the state is edited from the first timeline, and each timeline of it is sound
record Follows (first : Timeline) (s : State) : Type 0 where
  edited : IsEditedFrom first s
  before : AreSound s.before
  now : IsSound s.now
  after : AreSound s.after

shown : (media : MediaRows) (act : Act) (t u : Timeline) (e : Edit) → IsSound t
    → AsksFor media act t e → IsAfter t e u → IsShown t u
shown media act t u e sound asks a = record {
  edit = e;
  after = a;
  shows = shows_through t e u sound (asked_item media act t e asks) a;
}

on_edit : (media : MediaRows) (act : Act) (first : Timeline) (s : State) (e : Edit) (t : Timeline)
    → AsksFor media act s.now e → IsAfter s.now e t → Follows first s → Follows first (moved_on t s)
on_edit media act first s e t asks a f = record {
  edited = record {
    back = (shown media act s.now t e f.now asks a, f.edited.back);
    on = tt;
    undone_is = f.edited.undone_is;
  };
  before = (f.now, f.before);
  now = stays_sound s.now e t f.now (asked_item media act s.now e asks) a;
  after = tt;
}

undo_by : (first : Timeline) (before after : List Timeline) (now : Timeline) (r : State)
    → Follows first (record { before = before; now = now; after = after })
    → moved before now after ≡ Some r → Follows first r
undo_by first [] after now r f e = absurd (cc e)
undo_by first (b ∷ before) after now r f e =
    let same : record { before = before; now = b; after = now ∷ after } ≡ r = cc e in
    subst (Follows first) same (record {
      edited = record {
        back = f.edited.back.1;
        on = (f.edited.back.0, f.edited.on);
        undone_is = f.edited.undone_is;
      };
      before = f.before.1;
      now = f.before.0;
      after = (f.now, f.after);
    })

redo_by : (first : Timeline) (before after : List Timeline) (now : Timeline) (r : State)
    → Follows first (record { before = before; now = now; after = after })
    → turned_some (moved after now before) ≡ Some r → Follows first r
redo_by first before [] now r f e = absurd (cc e)
redo_by first before (a ∷ after) now r f e =
    let same : record { before = now ∷ before; now = a; after = after } ≡ r = cc e in
    subst (Follows first) same (record {
      edited = record {
        back = (f.edited.on.0, f.edited.back);
        on = f.edited.on.1;
        undone_is = f.edited.undone_is;
      };
      before = (f.now, f.before);
      now = f.after.0;
      after = f.after.1;
    })

on_act : (media : MediaRows) (act : Act) (first : Timeline) (s r : State) → Takes media act s r
    → Follows first s → Follows first r
on_act media act first s r (edits e t asks a same) f =
    subst (Follows first) (sym same) (on_edit media act first s e t asks a f)
on_act media act first s r (undoes is e) f = undo_by first s.before s.after s.now r f e
on_act media act first s r (redoes is e) f = redo_by first s.before s.after s.now r f e

on_next : (media : MediaRows) (first : Timeline) (s r : State) (o : Option ScriptCommand)
    → IsSomeAnd o (λ c. Takes media c.act s r) → Follows first s → Follows first r
on_next media first s r None t f = absurd t
on_next media first s r (Some c) t f = on_act media c.act first s r t f

follows : (media : MediaRows) (script : List ScriptCommand) (n : ℕ) (first : Timeline) (r : State)
    → Follows first (opened first) → Runs media script n (opened first) r → Follows first r
follows media script zero first r f runs = subst (Follows first) (sym runs) f
follows media script (suc n) first r f runs =
    on_next media first runs.0 r (slice_get script n) runs.2
    (follows media script n first runs.0 f runs.1)

opened_follows : (first : Timeline) → IsSound first → Follows first (opened first)
opened_follows first sound = record {
  edited = record { back = tt; on = tt; undone_is = refl };
  before = tt;
  now = sound_bare first (bare first) refl sound;
  after = tt;
}

-- what commands lead to is edited from the first timeline
pub commands_follow : (media : MediaRows) (script : List ScriptCommand) (n : ℕ) (t : Timeline) (s :
    State)
    → IsSound t → Runs media script n (opened t) s → IsEditedFrom t s
commands_follow media script n t s sound runs =
    (follows media script n t s (opened_follows t sound) runs).edited
