use Rattle.dev_io.proofs.BufferLemmas.{puts_as}
use Rattle.edl_text.proofs.Days.{text_kept}
use Rattle.edl_text.proofs.Texts.{main_parts}
use Rattle.edl_text.proofs.write_rows.put_main.Goals as goal

pub returns : goal.returns
returns g c =
    let rate = c.args.numbering.style.rate in
    let mode = c.args.numbering.style.drop in
    let event = c.args.event.now in
    let is = c.requires.event in
    puts_as _ c.put_row.ensures (main_parts rate mode c.args.numbering.style.layout c.args.numbering.number event _ _ _ _ _ _ c.kind_column.ensures c.duration_column.ensures
    (text_kept rate mode event.to.src_in _ is.to.src_in c.label_of.ensures) (text_kept rate mode event.to.src_out _ is.to.src_out c.label_of-2.ensures)
    (text_kept rate mode event.rec_in _ is.rec_in c.label_of-3.ensures) (text_kept rate mode event.rec_out _ is.rec_out c.label_of-4.ensures))
