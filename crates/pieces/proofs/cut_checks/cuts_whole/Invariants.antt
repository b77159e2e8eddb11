-- What is left can be cut where the list can.
use Rattle.std.proofs.Common.{drop}
use Rattle.pieces.proofs.WholeLemmas.{IsWhole}
use Rattle.pieces.proofs.cut_checks.cuts_whole.Given as goal

abbrev pub invariant-items : goal.invariant-items
invariant-items l = IsWhole l.list l.ticks (drop l.index l.list) l.left
