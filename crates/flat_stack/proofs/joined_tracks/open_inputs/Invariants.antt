-- Of the inputs so far all root children are there.
use Rattle.std.proofs.Common.{vec_len}
use Rattle.std.specs.Prelude.{reverse}
use Rattle.flat_stack.proofs.MoveLemmas.{IsOpen}
use Rattle.flat_stack.proofs.joined_tracks.open_inputs.Given as goal

abbrev pub invariant-left : goal.invariant-left
invariant-left l = IsOpen l.all.items (reverse l.left.items) l.fn.inputs.items

abbrev pub decreases-left : goal.decreases-left
decreases-left l = vec_len l.left
