use Rattle.std.proofs.Common.{arith, ap, map, [], ◌∷◌, ◌++◌, ◌∙◌}
use Rattle.std.specs.Prelude.{reverse}
use Rattle.flat_stack.specs.Portions.{planned_track}
use Rattle.flat_stack.proofs.MoveLemmas.{done_all, done_first, done_more}
use Rattle.flat_stack.proofs.StraightLemmas.{none_left, turned_back, turned_next}
use Rattle.flat_stack.proofs.joined_tracks.joined_tracks.Goals as goal

pub left-init : goal.left-init
left-init c = record {
  made = λ inputs are. done_first c.new-all.result.items
      (map (planned_track inputs) (reverse c.reverse.new.self.items))
      (map (planned_track inputs) c.args.plans.items) c.new-all.ensures.items
      (ap (map (planned_track inputs))
      (turned_back c.reverse.new.self.items c.args.plans.items c.reverse.ensures.items));
  left = λ inputs are. are;
}

pub left-preserved : goal.left-preserved
left-preserved c =
    let next = turned_next c.left.left.items c.pop.new.self.items c.in-Some.planned
    c.in-Some.ensures.items in
    record {
      made = λ inputs are. done_more c.left.all.items c.push.new.self.items
          (planned_track inputs c.in-Some.planned ∷ [])
          (map (planned_track inputs) (reverse c.pop.new.self.items))
          (map (planned_track inputs) (reverse c.left.left.items))
          (map (planned_track inputs) c.args.plans.items)
          (c.in_ok-push.ensures.items ∙ ap (λ z. c.left.all.items ++ z ∷ [])
          (c.in_ok-track.ensures.made inputs (c.left.invariant.left inputs are)))
          (ap (map (planned_track inputs)) next) (c.left.invariant.made inputs are);
      left = λ inputs are. c.in_ok-track.ensures.left inputs (c.left.invariant.left inputs are);
    }

pub returns : goal.returns
returns c = λ inputs are.
    done_all c.left.all.items (map (planned_track inputs) (reverse c.left.left.items))
    (map (planned_track inputs) c.args.plans.items)
    (ap (map (planned_track inputs)) (none_left c.left.left.items
    (omega (arith, c.in_default.ensures.cases.0, c.left.left.ok.0))))
    (c.left.invariant.made inputs are)
