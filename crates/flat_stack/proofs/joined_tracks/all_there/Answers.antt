use Rattle.std.proofs.Common.{arith, ap, Some, [], ◌∷◌}
use Rattle.std.specs.Prelude.{reverse}
use Rattle.flat_stack.specs.Portions.{all_there}
use Rattle.flat_stack.proofs.MoveLemmas.{done_all, done_first, done_more}
use Rattle.flat_stack.proofs.StraightLemmas.{none_left, turned_back, turned_next}
use Rattle.flat_stack.proofs.joined_tracks.all_there.Goals as goal

pub left-init : goal.left-init
left-init c =
    done_first c.new-there.result.items (all_there (reverse c.reverse.new.self.items))
    (all_there c.args.items.items) c.new-there.ensures.items
    (ap all_there (turned_back c.reverse.new.self.items c.args.items.items c.reverse.ensures.items))

pub left-preserved : goal.left-preserved
left-preserved c =
    let next = turned_next c.left.left.items c.pop.new.self.items c.in-Some.item
    c.in-Some.ensures.items in
    done_more c.left.there.items c.push.new.self.items (Some c.in-Some.item ∷ [])
    (all_there (reverse c.pop.new.self.items)) (all_there (reverse c.left.left.items))
    (all_there c.args.items.items) c.in_ok-push.ensures.items (ap all_there next)
    c.left.invariant

pub returns : goal.returns
returns c =
    done_all c.left.there.items (all_there (reverse c.left.left.items))
    (all_there c.args.items.items)
    (ap all_there (none_left c.left.left.items
    (omega (arith, c.in_default.ensures.cases.0, c.left.left.ok.0))))
    c.left.invariant
