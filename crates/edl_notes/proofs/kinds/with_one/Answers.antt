use Rattle.std.proofs.Common.{◌+◌, ap}
use Rattle.edl_notes.proofs.RootSteps.{counted_next}
use Rattle.edl_notes.proofs.kinds.with_one.Goals as goal

pub returns : goal.returns
returns c = λ past is.
    counted_next past c.args.item.now c.args.kinds _ (ap (λ n. c.args.kinds.video + n) c.of_kind.ensures) (ap (λ n. c.args.kinds.audio + n) c.of_kind-2.ensures) is
