use Rattle.dev_io.proofs.BufferLemmas.{puts_then, flush_told, flush_cause}
use Rattle.otio_tools.proofs.MessageLemmas.{says}
use Rattle.otio_tools.proofs.messages.say_why.Goals as goal

pub returns : goal.returns
returns g c =
    let named = rw c.as_bytes.ensures.value at c.put-2.ensures in
    let puts = puts_then c.put.ensures (puts_then named c.put_reason.ensures) in
    says _ _ _ _ _ c.flush.result
    (flush_told c.new-buffer.ensures.held c.new-buffer.ensures.failed puts c.flush.ensures.sent)
    (flush_cause c.new-buffer.ensures.held c.new-buffer.ensures.failed puts c.flush.ensures.sent)
