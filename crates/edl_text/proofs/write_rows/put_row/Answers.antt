use Rattle.dev_io.proofs.BufferLemmas.{puts_then, puts_as}
use Rattle.edl_text.specs.Columns.{reel_text}
use Rattle.edl_text.proofs.Texts.{row_parts}
use Rattle.edl_text.proofs.write_rows.put_row.Goals as goal

pub returns : goal.returns
returns g c =
    let row = c.args.row in
    let labels = c.args.labels in
    let last = puts_then c.put-6.ensures (puts_then c.put-7.ensures (puts_then c.put-8.ensures c.put_labels.ensures)) in
    let middle = puts_then c.put-2.ensures (puts_then c.put-3.ensures (puts_then c.put-4.ensures (puts_then c.put-5.ensures last))) in
    let all = puts_then c.put_number.ensures (puts_then c.put.ensures (puts_then c.put_reel.ensures middle)) in
    puts_as _ all (row_parts row.layout row.number (reel_text row.reel.now) row.channel row.kind row.duration labels.source_in labels.source_out labels.record_in labels.record_out _ c.channel_column.ensures)
