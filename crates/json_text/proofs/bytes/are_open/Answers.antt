use Rattle.std.proofs.Common.{arith, subst}
use Rattle.std.proofs.lemmas.Bool.Decides.{nat_tests}
use Rattle.std.proofs.lemmas.List.{take_all}
use Rattle.json_text.specs.State.Runs.{AreOpen}
use Rattle.json_text.proofs.RunLemmas.{more_open}
use Rattle.json_text.proofs.bytes.are_open.Goals as goal

pub loop-byte-preserved : goal.loop-byte-preserved
loop-byte-preserved c = λ none.
    more_open c.args.bytes.now c.loop-byte.byte-index (omega arith)
    (c.loop-byte.invariant (omega (arith, none, c.larger-closing.ensures.one)))
    (c.closes.ensures (omega (arith, none, c.larger-closing.ensures.other)))

pub returns : goal.returns
returns c = λ none.
    subst AreOpen (take_all c.loop-byte.byte-index c.args.bytes.now (omega arith))
    (c.loop-byte.invariant (grind (arith, nat_tests, none)))
