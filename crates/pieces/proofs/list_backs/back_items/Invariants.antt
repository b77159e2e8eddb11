-- What is made, and the back that is left.
use Rattle.std.proofs.Common.{drop}
use Rattle.pieces.proofs.BackLemmas.{Backed}
use Rattle.pieces.proofs.list_backs.back_items.Given as goal

abbrev pub invariant-items : goal.invariant-items
invariant-items l = Backed l.rate l.list l.ticks l.done.items (drop l.index l.list) l.left
