use Rattle.dev_io.proofs.BufferLemmas.{flush_told}
use Rattle.show_prog.proofs.picture_text.print_show.Goals as goal

pub returns-clause-told : goal.returns-clause-told
returns-clause-told g c = flush_told c.new-buffer.ensures.held c.new-buffer.ensures.failed c.put_show.ensures c.flush.ensures.sent
