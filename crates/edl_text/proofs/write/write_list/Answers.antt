use Rattle.dev_io.proofs.BufferLemmas.{puts_then, puts_as, flush_told}
use Rattle.edl_list.specs.Layouts.{layout_of}
use Rattle.edl_text.proofs.Texts.{list_parts}
use Rattle.edl_text.proofs.write.write_list.Goals as goal

pub returns-clause-told : goal.returns-clause-told
returns-clause-told g c =
    let list = c.args.list.now in
    let events = rw (c.as_slice.ensures, c.of-layout.ensures) at c.put_events.ensures in
    let all = puts_then c.put_head.ensures events in
    flush_told c.new-buffer.ensures.held c.new-buffer.ensures.failed (puts_as _ all (list_parts list c.args.drop (layout_of c.args.wide))) c.flush.ensures.sent
