use Rattle.dev_io.proofs.BufferLemmas.{puts_as}
use Rattle.edl_text.proofs.Days.{text_kept}
use Rattle.edl_text.proofs.Texts.{first_parts}
use Rattle.edl_text.proofs.write_rows.put_first.Goals as goal

pub returns : goal.returns
returns g c =
    let rate = c.args.numbering.style.rate in
    let mode = c.args.numbering.style.drop in
    let event = c.args.event.now in
    let from = c.args.from.now in
    puts_as _ c.put_row.ensures (first_parts rate mode c.args.numbering.style.layout c.args.numbering.number event from _ _
    (text_kept rate mode from.src_in _ c.requires.from.src_in c.label_of-source.ensures) (text_kept rate mode event.rec_in _ c.requires.record c.label_of-record.ensures))
