-- Each row is as it was.
use Rattle.std.proofs.Common.{◌≡◌, ◌+◌, ◌-◌, ℕ, vec_len}
use Rattle.flat_stack.specs.Givers.{row}
use Rattle.flat_stack.proofs.owners.add_rows.Given as goal

abbrev pub invariant-rows : goal.invariant-rows
invariant-rows l = (n : ℕ) → row l.rows.items n ≡ row l.fn.rows.items n

abbrev pub decreases-rows : goal.decreases-rows
decreases-rows l = l.index + 1 - vec_len l.rows
