-- What is there so far, before what is left, is all.
use Rattle.std.proofs.Common.{◌≡◌, ◌++◌, vec_len}
use Rattle.std.specs.Prelude.{reverse}
use Rattle.flat_stack.specs.Portions.{all_there}
use Rattle.flat_stack.proofs.joined_tracks.all_there.Given as goal

abbrev pub invariant-left : goal.invariant-left
invariant-left l = l.there.items ++ all_there (reverse l.left.items) ≡ all_there l.fn.items.items

abbrev pub decreases-left : goal.decreases-left
decreases-left l = vec_len l.left
