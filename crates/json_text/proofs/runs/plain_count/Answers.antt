use Rattle.std.proofs.Common.{take, length, arith, subst}
use Rattle.json_text.proofs.Ascii.{AreAtMost, more_at_most, at_most_utf8}
use Rattle.json_text.proofs.RunLemmas.{more_open}
use Rattle.json_text.proofs.runs.plain_count.Goals as goal

pub loop-index-preserved : goal.loop-index-preserved
loop-index-preserved c = (
  more_open c.args.bytes.now c.loop-index.index (omega arith) c.loop-index.invariant.0 (c.is_plain.ensures.opens c.if-not-is_plain.false),
  more_at_most c.args.bytes.now c.loop-index.index 127 127 (omega arith) c.loop-index.invariant.1 (omega arith) (omega (arith, c.is_plain.ensures.ascii c.if-not-is_plain.false)),
)

pub returns-then-not-is_plain-clause-utf8 : goal.returns-then-not-is_plain-clause-utf8
returns-then-not-is_plain-clause-utf8 c = at_most_utf8 (take c.loop-index.index c.args.bytes.now) c.loop-index.invariant.1

pub returns-clause-utf8 : goal.returns-clause-utf8
returns-clause-utf8 c =
    at_most_utf8 (take (length c.args.bytes.now) c.args.bytes.now)
    (subst (λ n. AreAtMost 127 (take n c.args.bytes.now)) (omega (arith, c.loop-index-test.false, c.loop-index.auto.index-end)) c.loop-index.invariant.1)
