use Rattle.dev_io.proofs.BufferLemmas.{flush_told, flush_cause}
use Rattle.dev_io.proofs.buffer.write_parts.Goals as goal

pub returns-clause-told : goal.returns-clause-told
returns-clause-told g c = flush_told c.new-buffer.ensures.held c.new-buffer.ensures.failed c.put_parts.ensures c.flush.ensures.sent

pub returns-clause-cause : goal.returns-clause-cause
returns-clause-cause g c = flush_cause c.new-buffer.ensures.held c.new-buffer.ensures.failed c.put_parts.ensures c.flush.ensures.sent
