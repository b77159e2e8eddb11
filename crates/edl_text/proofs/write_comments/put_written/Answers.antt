use Rattle.std.proofs.Common.{sym}
use Rattle.dev_io.proofs.BufferLemmas.{puts_as}
use Rattle.dev_io.proofs.Leaving.{leaves_then}
use Rattle.edl_text.proofs.TrimmedTexts.{written-Some, written-None}
use Rattle.edl_text.proofs.write_comments.put_written.Goals as goal

pub runs-preserved : goal.runs-preserved
runs-preserved g c =
    let text = written-Some c.runs.rest.now c.in-Some.index c.in-Some.ensures in
    rw c.after-rest.ensures (leaves_then (leaves_then (rw (text, ← c.before-in-Some.ensures) at c.runs.invariant) c.put.ensures) c.put-in-Some.ensures)

pub returns : goal.returns
returns g c = c.runs.invariant.ends _ (puts_as _ c.put-2.ensures (sym (written-None c.runs.rest.now c.in_default.ensures)))
