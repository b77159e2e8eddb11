use Rattle.dev_io.proofs.BufferLemmas.{puts_then, flush_told}
use Rattle.json_text.proofs.value.write_json.Goals as goal

pub returns-clause-told : goal.returns-clause-told
returns-clause-told g c =
    flush_told c.new-buffer.ensures.held c.new-buffer.ensures.failed (puts_then (rw c.top.ensures at c.put_value.ensures) c.put.ensures) c.flush.ensures.sent
