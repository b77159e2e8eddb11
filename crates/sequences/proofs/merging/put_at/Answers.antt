use Rattle.std.proofs.Common.{arith}
use Rattle.sequences.proofs.PairLemmas.{put-at, put-end}
use Rattle.sequences.proofs.merging.put_at.Goals as goal

pub returns-then-place-len-clause-put : goal.returns-then-place-len-clause-put
returns-then-place-len-clause-put g c =
    put-at c.args.name c.args.value c.args.pairs.now.items c.args.place c.index_mut-pair.result.now c.requires (omega (arith, c.len.ensures)) c.index_mut-pair.ensures.value

pub returns-in_ok-push-clause-put : goal.returns-in_ok-push-clause-put
returns-in_ok-push-clause-put g c =
    let e = put-end c.args.name c.args.value c.args.pairs.now.items c.args.place c.requires (omega (arith, c.len.ensures)) in
    rw e c.in_ok-push.ensures.items
