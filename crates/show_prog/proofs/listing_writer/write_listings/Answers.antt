use Rattle.dev_io.proofs.BufferLemmas.{flush_told}
use Rattle.show_prog.proofs.listing_writer.write_listings.Goals as goal

pub returns-clause-told : goal.returns-clause-told
returns-clause-told g c =
    flush_told c.new-buffer.ensures.held c.new-buffer.ensures.failed c.put_listings.ensures c.flush.ensures.sent
