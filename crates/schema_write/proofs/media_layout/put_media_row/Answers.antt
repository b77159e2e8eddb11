use Rattle.std.proofs.Common.{map, sym}
use Rattle.dev_io.proofs.BufferLemmas.{puts_then, puts_as}
use Rattle.json_text.specs.Levels.{deep}
use Rattle.json_text.proofs.Lines.{text_at-Map}
use Rattle.schema_write.specs.Objects.{medium_pair}
use Rattle.schema_write.proofs.media_layout.put_media_row.Goals as goal

pub returns : goal.returns
returns g c = puts_then c.put_row_name.ensures
    (puts_as _ c.put_media.ensures (sym
    (text_at-Map (map medium_pair c.args.media.now) (deep c.args.level.now))))
