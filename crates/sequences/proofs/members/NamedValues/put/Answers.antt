use Rattle.sequences.proofs.PairLemmas.{AreDistinct-after_put, place_of-known}
use Rattle.sequences.proofs.members.NamedValues.put.Goals as goal

pub invariant_of-self : goal.invariant_of-self
invariant_of-self g c =
    AreDistinct-after_put c.put_at.result c.args.name c.args.value c.self.inside.pairs.items c.put_at.new.pairs.items c.put_at.ensures.put c.put_at.ensures.unchanged c.self.invariant

pub returns-clause-replaces : goal.returns-clause-replaces
returns-clause-replaces g c = λ h.
    let known = place_of-known c.args.name c.self.inside.pairs.items (rw c.self.view_is h) in
    c.put_at.ensures.replaces (rw (c.place_of-place.ensures, c.as_str.ensures, c.as_slice.ensures.value) known)
