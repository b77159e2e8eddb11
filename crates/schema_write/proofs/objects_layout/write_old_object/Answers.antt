use Rattle.dev_io.proofs.BufferLemmas.{puts_then}
use Rattle.dev_io.proofs.BufferLemmas.{flush_told}
use Rattle.schema_write.proofs.objects_layout.write_old_object.Goals as goal

pub returns-clause-told : goal.returns-clause-told
returns-clause-told g c =
    flush_told c.new-buffer.ensures.held c.new-buffer.ensures.failed
    (puts_then (rw c.top.ensures at c.put_root.ensures) c.put.ensures) c.flush.ensures.sent
