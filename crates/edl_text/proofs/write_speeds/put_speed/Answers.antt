use Rattle.std.proofs.Common.{refl}
use Rattle.dev_io.proofs.BufferLemmas.{puts_then, puts_as}
use Rattle.edl_text.proofs.Days.{text_kept}
use Rattle.edl_text.proofs.Texts.{speed_parts}
use Rattle.edl_text.proofs.write_speeds.put_speed.Goals as goal

pub returns : goal.returns
returns g c =
    let last = puts_then c.put-4.ensures (puts_then c.put-5.ensures (puts_then c.put-6.ensures c.put-7.ensures)) in
    let all = puts_then c.put.ensures (puts_then c.put_reel.ensures (puts_then c.put-2.ensures (puts_then c.put-3.ensures last))) in
    puts_as _ all (speed_parts c.args.style.rate c.args.style.drop c.args.style.layout c.args.side.now c.written_tenths-tenths.result c.three_digits-whole.result _ c.label_of-source_in.result c.written_tenths-tenths.ensures.tenths c.three_digits-whole.ensures refl (text_kept c.args.style.rate c.args.style.drop c.args.side.now.src_in _ c.requires.side.src_in c.label_of-source_in.ensures))
