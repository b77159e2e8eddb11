-- What is kept, and what is left to be stripped.
use Rattle.std.proofs.Common.{drop}
use Rattle.pieces.proofs.StripLemmas.{Stripped}
use Rattle.pieces.proofs.stripping.strip.Given as goal

abbrev pub invariant-items : goal.invariant-items
invariant-items l = Stripped l.list l.a l.b l.kept.items (drop l.index l.list) l.at
