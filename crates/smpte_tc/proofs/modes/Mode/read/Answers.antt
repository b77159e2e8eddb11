-- The number that is read.
use Rattle.std.proofs.Common.{arith}
use Rattle.std.proofs.lemmas.Int.{ints}
use Rattle.smpte_tc.proofs.Spellings.{label_read}
use Rattle.smpte_tc.proofs.modes.Mode.read.Goals as goal

pub returns : goal.returns
returns c =
    label_read c.args.self.now c.args.label.now c.in-Some.address c.number_of.result _ c.in-Some.ensures c.number_of.ensures (omega (arith, ints, c.from.ensures))
