-- What is left, and what has moved, the last one first.
use Rattle.std.proofs.Common.{◌≡◌, ◌+◌, ◌-◌, ◌≤◌, ◌++◌, vec_len}
use Rattle.std.specs.Prelude.{reverse}
use Rattle.std.specs.Vec.{vec_capacity}
use Rattle.otio_model.proofs.vec_moves.move_tail.Given as goal

abbrev pub invariant-items : goal.invariant-items
invariant-items g l = record {
  long : l.at ≤ vec_len l.from;
  grown : vec_len l.to + vec_len l.from ≡ vec_len l.fn.from;
  moved : l.fn.from.items ≡ l.from.items ++ reverse l.to.items;
  capacity : vec_capacity l.fn.to ≤ vec_capacity l.to;
  stays : vec_capacity l.from ≡ vec_capacity l.fn.from;
}

abbrev pub decreases-items : goal.decreases-items
decreases-items g l = vec_len l.from - l.at
