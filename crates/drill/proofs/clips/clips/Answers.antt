use Rattle.std.proofs.Common.{◌≡◌, arith, subst}
use Rattle.drill.specs.Making.{AreMade}
use Rattle.drill.proofs.MadeClips.{all_made, one_made}
use Rattle.drill.proofs.clips.clips.Goals as goal

pub clips-preserved : goal.clips-preserved
clips-preserved c =
    one_made c.args.count c.clips.index c.args.random.now.state c.clips.random.state
    c.clip.new.random.state c.clips.made.items c.push.new.self.items c.in_ok-item.item
    c.clips-test.true c.clips.invariant c.in_ok-item.ensures.clip c.in_ok-item.ensures.state
    c.in_ok-push.ensures.items

pub returns-clause-clips : goal.returns-clause-clips
returns-clause-clips c =
    let n = c.clips.index in
    let same : n ≡ c.args.count = omega (arith, c.clips-test.false, c.clips.auto.index-end) in
    all_made c.args.count c.args.random.now.state c.clips.random.state c.clips.made.items
    (subst (λ i. AreMade c.args.count i c.args.random.now.state c.clips.random.state
    c.clips.made.items) same c.clips.invariant)
