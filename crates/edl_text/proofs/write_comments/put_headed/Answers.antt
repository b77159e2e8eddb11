use Rattle.std.proofs.Common.{arith, ◌<◌, length}
use Rattle.dev_io.proofs.BufferLemmas.{puts_then, puts_as}
use Rattle.edl_text.proofs.Texts.{headed_parts}
use Rattle.edl_text.proofs.write_comments.put_headed.Goals as goal

pub returns-then-not-is_empty : goal.returns-then-not-is_empty
returns-then-not-is_empty g c =
    let some : 0 < length c.trim_written-text.result.now = grind arith in
    let all = puts_then c.put.ensures (puts_then c.put_written.ensures c.put-then-not-is_empty.ensures) in
    puts_as _ all (headed_parts c.args.head.now c.trim_written-text.result.now c.args.text.now some c.trim_written-text.ensures)
