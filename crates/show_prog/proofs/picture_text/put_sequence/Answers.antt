use Rattle.std.proofs.Common.{◌∙◌}
use Rattle.dev_io.proofs.BufferLemmas.{puts_then, puts_as}
use Rattle.show_prog.proofs.PrintTexts.{sequence_parts}
use Rattle.show_prog.proofs.picture_text.put_sequence.Goals as goal

pub returns : goal.returns
returns g c =
    let base = rw (c.as_bytes.ensures.value ∙ c.as_str.ensures) at c.put_escaped.ensures in
    let prefix = rw (c.as_bytes-2.ensures.value ∙ c.as_str-2.ensures) at c.put_escaped-2.ensures in
    let suffix = rw (c.as_bytes-3.ensures.value ∙ c.as_str-3.ensures) at c.put_escaped-3.ensures in
    puts_as _ (puts_then c.put.ensures (puts_then base (puts_then prefix (puts_then c.put-2.ensures (puts_then suffix c.put-3.ensures)))))
    (sequence_parts c.args.base.now c.args.prefix.now c.args.suffix.now)
