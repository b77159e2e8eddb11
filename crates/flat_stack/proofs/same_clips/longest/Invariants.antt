-- So far the stretches are put together.
use Rattle.std.proofs.Common.{ℤ, List, Option, drop, pos, FitsSigned}
use mir.Syntax.{w128}
use Rattle.otio_model.specs.declared.compositions.ItemOf.{ItemOf}
use Rattle.otio_model.specs.declared.compositions.Listed.{Listed}
use Rattle.flat.specs.Pieces.{Giver}
use Rattle.flat_stack.specs.Runs.{AreRuns}
use Rattle.flat_stack.proofs.LongestLemmas.{IsGrown}
use Rattle.flat_stack.proofs.same_clips.longest.Given as goal

abbrev pub invariant-runs : goal.invariant-runs
invariant-runs l =
    ((roots : List (ItemOf Listed)) (g : ℤ → Option Giver) (end : ℤ)
    → AreRuns roots g end (pos 0) l.runs
    → IsGrown roots g end l.parts.items l.part (drop l.index l.runs))
    × FitsSigned w128 l.part.to
