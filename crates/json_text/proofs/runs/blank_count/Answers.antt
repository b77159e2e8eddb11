use Rattle.std.proofs.Common.{sym, arith}
use Rattle.json_text.proofs.RunLemmas.{more_blank}
use Rattle.json_text.proofs.runs.blank_count.Goals as goal

pub loop-index-preserved : goal.loop-index-preserved
loop-index-preserved c = more_blank c.args.bytes.now c.loop-index.index (omega arith) c.loop-index.invariant (sym c.if-not-is_whitespace.ensures)
