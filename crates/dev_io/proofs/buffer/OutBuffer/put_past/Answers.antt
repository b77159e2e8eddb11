use Rattle.std.proofs.Common.{rules, ◌≡◌, false}
use Rattle.dev_io.specs.Buffer.{has_failed}
use Rattle.dev_io.proofs.BufferLemmas.{puts_then, flush_puts}
use Rattle.dev_io.proofs.buffer.OutBuffer.put_past.Goals as goal

pub returns-in-Ok : goal.returns-in-Ok
returns-in-Ok g c =
    let sound : has_failed c.flush.new.self ≡ false = search rules in
    puts_then (flush_puts c.requires sound c.in-Ok.ensures.empty c.in-Ok.ensures.sent)
    c.put_first.ensures
