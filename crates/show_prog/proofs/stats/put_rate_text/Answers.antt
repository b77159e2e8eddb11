use Rattle.std.proofs.Common.{◌∙◌}
use Rattle.dev_io.proofs.BufferLemmas.{puts_as}
use Rattle.schema_write.proofs.Numbers.{rate_is}
use Rattle.show_prog.proofs.stats.put_rate_text.Goals as goal

pub returns : goal.returns
returns g c =
    puts_as _ c.put.ensures (c.as_bytes.ensures.value ∙ c.as_str.ensures.value
    ∙ rate_is c.text.result.bytes c.args.rate c.text.ensures.relative c.text.ensures.spelled)
