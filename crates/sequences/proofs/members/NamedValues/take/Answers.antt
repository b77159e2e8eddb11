use Rattle.std.proofs.Common.{arith}
use Rattle.std.proofs.lemmas.Option.{slice_get_read, slice_get_past}
use Rattle.sequences.proofs.TakeLemmas.{AreDistinct-remove}
use Rattle.sequences.proofs.members.NamedValues.take.Goals as goal

pub invariant_of-self : goal.invariant_of-self
invariant_of-self g c = rw c.remove.ensures.items (AreDistinct-remove c.self.inside.pairs.items c.args.index c.self.invariant)

pub returns-then-index-len-clause-taken : goal.returns-then-index-len-clause-taken
returns-then-index-len-clause-taken g c =
    rw (← c.self.view_is) (slice_get_read c.self.inside.pairs.items c.len.result c.args.index c.remove.result (omega (arith, c.len.ensures)) c.if-index-len.true c.remove.ensures.value)

pub returns-else-index-len-clause-taken : goal.returns-else-index-len-clause-taken
returns-else-index-len-clause-taken g c = rw (← c.self.view_is) (slice_get_past c.self.inside.pairs.items c.args.index (omega (arith, c.len.ensures)))
