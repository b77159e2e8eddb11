use Rattle.dev_io.proofs.BufferLemmas.{puts_then}
use Rattle.json_text.specs.Levels.{deep}
use Rattle.schema_write.proofs.ObjectLines.{plain_put}
use Rattle.schema_write.proofs.effects_layout.put_plain_as.Goals as goal

pub returns : goal.returns
returns g c = plain_put (deep c.args.level.now) _ c.args.schema c.args.plain.now
    c.inside-inner.ensures c.requires
    (puts_then c.put_head.ensures (puts_then c.put_object_row.ensures
    (puts_then c.put_text_row.ensures (puts_then c.put_text_row-2.ensures
    (puts_then c.put_others.ensures c.put_end.ensures)))))
