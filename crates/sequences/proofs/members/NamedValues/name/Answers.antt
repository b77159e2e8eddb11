use Rattle.std.proofs.Common.{◌∙◌}
use Rattle.sequences.proofs.PairAt.{part_at, part_past}
use Rattle.sequences.proofs.members.NamedValues.name.Goals as goal

pub returns-in_err-get : goal.returns-in_err-get
returns-in_err-get g c =
    rw c.from_residual.ensures (part_past (λ pair. pair.0) c.deref.result.now c.args.self.now
    c.args.index (c.deref.ensures.value ∙ c.self.view_is) c.in_err-get.ensures.lookup.3)

pub returns : goal.returns
returns g c =
    let lookup = c.in_ok-get.ensures.lookup in
    part_at (λ pair. pair.0) c.deref.result.now c.args.self.now c.args.index
    c.in_ok-get.field-0.now (c.deref.ensures.value ∙ c.self.view_is) lookup.3.0 lookup.1
