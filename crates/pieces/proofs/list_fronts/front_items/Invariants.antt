-- What is made, and the front that is left.
use Rattle.std.proofs.Common.{drop}
use Rattle.pieces.proofs.Grown.{Fronted}
use Rattle.pieces.proofs.list_fronts.front_items.Given as goal

abbrev pub invariant-items : goal.invariant-items
invariant-items l = Fronted l.rate l.list l.ticks l.done.items (drop l.index l.list) l.left
