use Rattle.dev_io.proofs.BufferLemmas.{puts_then, puts_as}
use Rattle.edl_text.proofs.Texts.{labels_parts}
use Rattle.edl_text.proofs.write_rows.put_labels.Goals as goal

pub returns : goal.returns
returns g c =
    let labels = c.args.labels in
    let last = puts_then c.put-5.ensures (puts_then c.put-6.ensures c.put-7.ensures) in
    puts_as _ (puts_then c.put.ensures (puts_then c.put-2.ensures (puts_then c.put-3.ensures (puts_then c.put-4.ensures last)))) (labels_parts labels.source_in labels.source_out labels.record_in labels.record_out)
