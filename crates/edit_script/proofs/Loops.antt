-- How far a script has run.
use Rattle.std.proofs.Common.{◌≡◌, sym, ap, subst, ◌∙◌, ℕ, ◌+◌, ◌<◌, List, Some, length, get_or, add-one, slice_get}
use Rattle.std.specs.Prelude.{IsSomeAnd}
use Rattle.std.proofs.lemmas.Option.{slice_get-get_or}
use Rattle.otio_model.specs.declared.timelines.Timeline.{Timeline}
use Rattle.otio_model.specs.Timelines.{bare}
use Rattle.undo_log.specs.Histories.{History}
use Rattle.undo_log.specs.States.{state_of}
use Rattle.edit_script.specs.declared.commands.ScriptCommand.{ScriptCommand}
use Rattle.edit_script.specs.declared.faults.CommandFault.{CommandFault}
use Rattle.media_rows.specs.Rows.{MediaRows}
use Rattle.edit_script.specs.Runs.{Halts, IsHalted, Runs, Takes}
use Rattle.edit_script.specs.EditHistories.{Records, RunsEach, RunsOver}
use Rattle.edit_script.specs.Steps.{HasRun, IsDone, IsSame}

pub member : (xs : List ScriptCommand) (i : ℕ) (x : ScriptCommand) → i < length xs
    → x ≡ get_or xs i x
    → slice_get xs i ≡ Some x
member xs i x l e = slice_get-get_or xs i x l ∙ ap (λ y. Some y) (sym e)

pub run_more : (m : MediaRows) (s : List ScriptCommand) (i : ℕ) (c : ScriptCommand) (h k l :
    History)
    (t u v : Timeline) → HasRun m s i h t k u → slice_get s i ≡ Some c → IsDone m c.act k u l v
    → HasRun m s (i + 1) h t l v
run_more m s i c h k l t u v w e d = subst (λ n. HasRun m s n h t l v) (sym (add-one i)) (record {
  ready = d.ready;
  runs = (
    state_of k u,
    w.runs,
    subst (λ o. IsSomeAnd o (λ b. Takes m b.act (state_of k u) (state_of l v))) (sym e) d.takes,
  );
  holds = λ x. d.holds (w.holds x);
  each = λ old x.
      let mid = w.each old x in
      let new = d.each mid.0 mid.2 in (
        new.0,
        (
          state_of k u,
          mid.0,
          mid.1,
          subst (λ o. IsSomeAnd o (λ b. Takes m b.act (state_of k u) (state_of l v)
              × Records m b.act (bare u) mid.0 new.0)) (sym e) (d.takes, new.1),
        ),
        new.2,
      );
})

-- a command that is refused leaves all as those before it did
pub run_same : (m : MediaRows) (s : List ScriptCommand) (i : ℕ) (h k l : History)
    (t u v : Timeline) → HasRun m s i h t k u → IsSame k u l v → RunsEach m s i h t l v
run_same m s i h k l t u v w d old x =
    let mid = w.each old x in (
      mid.0,
      subst (λ y. RunsOver m s i (state_of h t) old y mid.0) (sym d.state) mid.1,
      d.each mid.0 mid.2,
    )

pub run_halts : (m : MediaRows) (s : List ScriptCommand) (i : ℕ) (c : ScriptCommand) (h k l :
    History)
    (t u v : Timeline) (f : CommandFault) → HasRun m s i h t k u → slice_get s i ≡ Some c
    → IsSame k u l v → IsHalted m c (state_of k u) f
    → Halts m s (state_of h t) (state_of l v) f
run_halts m s i c h k l t u v f w e d x = record {
  done = i;
  ran = subst (λ y. Runs m s i (state_of h t) y) (sym d.state) w.runs;
  command = c;
  next = e;
  halted = subst (λ y. IsHalted m c y f) (sym d.state) x;
}
