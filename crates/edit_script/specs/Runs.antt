-- What commands do to a state, one after another.
use Rattle.std.specs.Prelude.{◌≡◌, ℕ, zero, suc, true, false, List, [], ◌∷◌, Some, None, slice_get, IsSomeAnd}
use Rattle.otio_model.specs.declared.timelines.Timeline.{Timeline}
use Rattle.otio_model.specs.declared.edit_types.Edit.{Edit}
use Rattle.otio_model.specs.declared.edit_types.EditFault.{EditFault}
use Rattle.undo_log.specs.declared.faults.UndoFault.TheVariants.{NothingDone, NothingUndone}
use Rattle.undo_log.specs.States.{State, back, forth}
use Rattle.edits.specs.After.{rate_of}
use Rattle.edits.specs.Refusals.{IsAfter, IsRefused}
use Rattle.edit_script.specs.declared.commands.Act.{Act}
use Rattle.edit_script.specs.declared.commands.Act.TheVariants as A
use Rattle.edit_script.specs.declared.commands.ScriptCommand.{ScriptCommand}
use Rattle.edit_script.specs.declared.faults.CommandFault.{CommandFault}
use Rattle.edit_script.specs.declared.faults.CommandFault.TheVariants as F
use Rattle.media_rows.specs.Rows.{MediaRows}
use Rattle.edit_script.specs.RunActs.{IsEditOf, is_unlisted, is_beyond}

-- an edit drops the timelines behind the position, adds the one that it gives and moves on to it
abbrev pub moved_on : Timeline → State → State
moved_on t s = record { before = s.now ∷ s.before; now = t; after = [] }

-- All that an act names is listed and in range, where frames count at the record rate of the
-- timeline, and this is the edit that it asks for.
pub record AsksFor (media : MediaRows) (act : Act) (t : Timeline) (e : Edit) : Type 0 where
  pub listed : is_unlisted media act ≡ false
  pub near : is_beyond (rate_of t) media act ≡ false
  pub edit : IsEditOf (rate_of t) media act e

-- the act takes the state s to r
pub data Takes (media : MediaRows) (act : Act) (s r : State) : Type 0 where
  edits : (e : Edit) (t : Timeline) → AsksFor media act s.now e → IsAfter s.now e t
      → r ≡ moved_on t s → Takes media act s r
  undoes : act ≡ A.Undo → back s ≡ Some r → Takes media act s r
  redoes : act ≡ A.Redo → forth s ≡ Some r → Takes media act s r

-- the command is refused in the state s for this fault, which names its line
pub data IsHalted (media : MediaRows) (c : ScriptCommand) (s : State) (fault : CommandFault)
    : Type 0 where
  unlisted : is_unlisted media c.act ≡ true → fault ≡ F.NoReel c.line → IsHalted media c s fault
  far : is_unlisted media c.act ≡ false → is_beyond (rate_of s.now) media c.act ≡ true
      → fault ≡ F.Line c.line → IsHalted media c s fault
  refused : (e : Edit) (why : EditFault) → AsksFor media c.act s.now e → IsRefused s.now e why
      → fault ≡ F.Edit c.line why → IsHalted media c s fault
  nothing_done : c.act ≡ A.Undo → back s ≡ None → fault ≡ F.Undo c.line NothingDone
      → IsHalted media c s fault
  nothing_undone : c.act ≡ A.Redo → forth s ≡ None → fault ≡ F.Undo c.line NothingUndone
      → IsHalted media c s fault

-- the first n commands of the script take the state s to r
abbrev pub Runs : MediaRows → List ScriptCommand → ℕ → State → State → Type 0
Runs media script zero s r = r ≡ s
Runs media script (suc n) s r = (q : State) × Runs media script n s q
    × IsSomeAnd (slice_get script n) (λ c. Takes media c.act q r)

-- the script takes the state s to r, where its next command is refused for this fault
pub record Halts (media : MediaRows) (script : List ScriptCommand) (s r : State)
    (fault : CommandFault) : Type 0 where
  pub done : ℕ
  pub ran : Runs media script done s r
  pub command : ScriptCommand
  pub next : slice_get script done ≡ Some command
  pub halted : IsHalted media command r fault
