use Rattle.std.proofs.Common.{sym, arith}
use Rattle.json_text.proofs.RunLemmas.{more_open}
use Rattle.json_text.proofs.runs.open_front.Goals as goal

pub loop-index-preserved : goal.loop-index-preserved
loop-index-preserved c = more_open c.args.bytes.now c.loop-index.index (omega arith) c.loop-index.invariant (sym c.if-not-is_open.ensures)
