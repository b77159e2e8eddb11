use Rattle.std.proofs.Common.{arith}
use Rattle.std.proofs.lemmas.Bool.Decides.{nat_tests}
use Rattle.json_text.proofs.Escaping.{more_plain, whole_plain}
use Rattle.json_text.proofs.quote.are_plain.Goals as goal

pub loop-byte-init : goal.loop-byte-init
loop-byte-init c = λ none k below. absurd (omega (arith, below))

pub loop-byte-preserved : goal.loop-byte-preserved
loop-byte-preserved c = λ none.
    more_plain c.args.bytes.now c.loop-byte.byte-index
    (c.loop-byte.invariant (omega (arith, none, c.larger-needing.ensures.one)))
    (c.needs.ensures (omega (arith, none, c.larger-needing.ensures.other)))

pub returns : goal.returns
returns c = λ none.
    whole_plain c.args.bytes.now c.loop-byte.byte-index (omega arith)
    (c.loop-byte.invariant (grind (arith, nat_tests, none)))
