use Rattle.std.proofs.Common.{ap}
use Rattle.dev_io.proofs.BufferLemmas.{flush_told, puts_as}
use Rattle.media_text.specs.Texts.{media_text}
use Rattle.media_text.proofs.writing.write_media.Goals as goal

pub returns-clause-told : goal.returns-clause-told
returns-clause-told g c =
    flush_told c.new-buffer.ensures.held c.new-buffer.ensures.failed (puts_as _ c.put_rows.ensures (ap media_text c.rows.ensures.rows))
    c.flush.ensures.sent
