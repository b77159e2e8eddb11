use Rattle.std.proofs.Common.{◌∙◌}
use Rattle.dev_io.proofs.BufferLemmas.{puts_as, puts_then}
use Rattle.drill.proofs.lines.put_why.Goals as goal

pub returns : goal.returns
returns g c =
    puts_then (puts_as _ c.put.ensures (c.as_bytes.ensures.value ∙ c.code.ensures))
    (puts_then c.put-2.ensures
    (puts_as _ c.put-3.ensures (c.as_bytes-2.ensures.value ∙ c.word.ensures)))
