use Rattle.std.proofs.Common.{arith}
use Rattle.json_text.proofs.Escaping.{block_plain}
use Rattle.json_text.proofs.quote.plain_count.Goals as goal

pub pieces-init : goal.pieces-init
pieces-init c = (omega arith, λ k below. absurd (omega (arith, below)))

pub pieces-preserved : goal.pieces-preserved
pieces-preserved c = (
  omega (arith, c.pieces-test.true),
  block_plain c.args.bytes.now c.block_at.result.now
      c.pieces.at 64 c.block_at.ensures (omega (arith, c.pieces-test.true, c.pieces.invariant.0))
      c.pieces.invariant.1 (c.are_plain.ensures c.if-are_plain.true),
)
