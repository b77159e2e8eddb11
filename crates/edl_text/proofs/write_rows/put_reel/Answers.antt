use Rattle.dev_io.proofs.BufferLemmas.{puts_then, puts_as}
use Rattle.edl_text.proofs.Texts.{column_parts}
use Rattle.edl_text.proofs.write_rows.put_reel.Goals as goal

pub returns : goal.returns
returns g c = puts_as _ (puts_then c.put.ensures c.put-2.ensures) (column_parts c.args.layout.reel_width _ _ _ c.reel_bytes-bytes.ensures c.padding.ensures)
