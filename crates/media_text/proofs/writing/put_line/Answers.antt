use Rattle.dev_io.proofs.BufferLemmas.{puts_then}
use Rattle.media_text.proofs.writing.put_line.Goals as goal

pub returns : goal.returns
returns g c =
    puts_then c.put_text.ensures
    (puts_then c.put.ensures
    (puts_then c.put_rate.ensures
    (puts_then c.put-2.ensures
    (puts_then c.put_signed.ensures
    (puts_then c.put-3.ensures
    (puts_then c.put_signed-2.ensures
    (puts_then c.put-4.ensures
    c.put_text-2.ensures)))))))
