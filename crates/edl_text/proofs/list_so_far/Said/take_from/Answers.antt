use Rattle.std.proofs.Common.{refl}
use Rattle.edl_text.proofs.Taking.{took_from}
use Rattle.edl_text.proofs.list_so_far.Said.take_from.Goals as goal

pub returns : goal.returns
returns c = λ rate past h.
    took_from rate past c.args.name.now c.args.self.now _ c.in-Some.pending c.in_ok-with_from.field-0 h c.in-Some.ensures.value c.in_ok-with_from.ensures
    (record { counted = refl; line = refl; title = refl; drop = refl; first = refl; events = refl; pending = refl })
