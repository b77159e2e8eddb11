-- The label that is written.
use Rattle.std.proofs.Common.{arith}
use Rattle.std.proofs.lemmas.Int.{ints}
use Rattle.smpte_tc.proofs.Spellings.{label_written}
use Rattle.smpte_tc.proofs.modes.Mode.label.Goals as goal

pub returns : goal.returns
returns c =
    label_written c.args.self.now c.spell.result c.address_of.result _ c.mark.result c.args.n c.spell.ensures c.mark.ensures c.address_of.ensures.there (omega (arith, ints))
