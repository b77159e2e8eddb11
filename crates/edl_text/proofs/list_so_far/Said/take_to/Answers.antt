use Rattle.std.proofs.Common.{refl}
use Rattle.edl_text.proofs.Taking.{took_to}
use Rattle.edl_text.proofs.list_so_far.Said.take_to.Goals as goal

pub returns : goal.returns
returns c = λ rate past h.
    took_to rate past c.args.name.now c.args.self.now _ c.in-Some.pending c.in_ok-with_to.field-0 h c.in-Some.ensures.value c.in_ok-with_to.ensures
    (record { counted = refl; line = refl; title = refl; drop = refl; first = refl; events = refl; pending = refl })
