use Rattle.std.proofs.Common.{subst, AllPairs}
use Rattle.edl_text.specs.StateSpans.{AreClear}
use Rattle.edl_text.proofs.TurnSteps.{sorted_apart}
use Rattle.edl_text.proofs.channel_spans.are_apart.Goals as goal

pub returns : goal.returns
returns c = λ read turn.
    sorted_apart c.args.channel c.args.events.now c.in_ok-spans.spans.items c.sort.new.self.items read
    c.in_ok-spans.ensures c.sort.ensures.permutation
    (subst (λ l. AllPairs AreClear l) c.as_slice.ensures.value (c.are_in_turn.ensures turn))
