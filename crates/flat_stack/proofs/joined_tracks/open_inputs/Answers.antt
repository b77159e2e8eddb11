use Rattle.std.proofs.Common.{arith, sym, ap, ◌∙◌}
use Rattle.std.specs.Prelude.{reverse}
use Rattle.otio_model.specs.Timelines.{bare}
use Rattle.flat.specs.Roots.{with_roots}
use Rattle.flat_stack.proofs.CopyLemmas.{head_is}
use Rattle.flat_stack.proofs.MoveLemmas.{opened_first, opened_more, opened_roots}
use Rattle.flat_stack.proofs.StraightLemmas.{none_left, turned_next}
use Rattle.flat_stack.proofs.joined_tracks.open_inputs.Goals as goal

pub left-init : goal.left-init
left-init c =
    opened_first c.new-all.result.items c.push.new.self.items
    (reverse c.take_first-first.new.timelines.items) c.args.inputs.items c.in_ok-taken.taken
    c.take_first-first.result c.new-all.ensures.items c.in_ok-push.ensures.items
    c.in_ok-taken.ensures.roots c.take_first-first.ensures

pub left-preserved : goal.left-preserved
left-preserved c =
    let next = turned_next c.left.left.items c.pop.new.self.items c.in-Some.input
    c.in-Some.ensures.items in
    opened_more c.left.all.items c.push-in-Some.new.self.items (reverse c.left.left.items)
    (reverse c.pop.new.self.items) c.args.inputs.items c.in_ok-taken-2.taken c.in-Some.input
    c.left.invariant next c.in_ok-push-2.ensures.items c.in_ok-taken-2.ensures.roots

pub returns-clause-roots : goal.returns-clause-roots
returns-clause-roots c =
    opened_roots c.left.all.items (reverse c.left.left.items) c.args.inputs.items c.left.invariant
    (none_left c.left.left.items (omega (arith, c.in_default.ensures.cases.0, c.left.left.ok.0)))

pub returns-clause-first : goal.returns-clause-first
returns-clause-first c = λ t more e l.
    c.in_ok-taken.ensures.rest l
    ∙ ap (λ u. bare (with_roots l u))
    (head_is c.take_first-first.result t (reverse c.take_first-first.new.timelines.items) more
    (sym c.take_first-first.ensures ∙ e))
