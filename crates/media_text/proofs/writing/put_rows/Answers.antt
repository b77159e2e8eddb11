use Rattle.std.proofs.Common.{arith}
use Rattle.dev_io.specs.Buffer.{standing}
use Rattle.dev_io.proofs.Leaving.{leaves_all, leaves_as, leaves_end, leaves_then}
use Rattle.media_text.specs.Texts.{media_text}
use Rattle.media_text.proofs.RowParts.{rows_next, rows_none}
use Rattle.media_text.proofs.writing.put_rows.Goals as goal

pub rows-init : goal.rows-init
rows-init g c = leaves_all
    (standing g.W.Out.known g.W.Out.faults c.args.out.now c.args.buffer.now)
    (media_text c.args.rows.now)

pub rows-preserved : goal.rows-preserved
rows-preserved g c =
    leaves_then (leaves_as (rows_next c.args.rows.now c.rows.row-index c.row-item.result
    c.rows-test.true c.row-item.is)
    c.rows.invariant) c.put_row.ensures

pub returns : goal.returns
returns g c =
    leaves_end (leaves_as (rows_none c.args.rows.now c.rows.row-index (omega arith))
    c.rows.invariant)
