use Rattle.std.proofs.Common.{arith}
use Rattle.std.proofs.lemmas.Bool.Decides.{nat_tests}
use Rattle.json_text.proofs.Ascii.{more_at_most, all_ascii}
use Rattle.json_text.proofs.bytes.is_ascii.Goals as goal

pub loop-byte-preserved : goal.loop-byte-preserved
loop-byte-preserved c = more_at_most c.args.bytes.now c.loop-byte.byte-index c.loop-byte.largest c.larger-largest.result (omega arith) c.loop-byte.invariant c.larger-largest.ensures.one c.larger-largest.ensures.other

pub returns : goal.returns
returns c = λ small. all_ascii c.args.bytes.now c.loop-byte.byte-index c.loop-byte.largest (omega arith) (grind (arith, nat_tests, small)) c.loop-byte.invariant
