use Rattle.std.proofs.Common.{ap, map, ◌∙◌}
use Rattle.otio_model.specs.Timelines.{bare}
use Rattle.flat.specs.Roots.{with_roots}
use Rattle.flat_stack.specs.Portions.{planned_track}
use Rattle.flat_stack.proofs.joined_tracks.joined_as.Goals as goal

pub returns : goal.returns
returns c = λ t more e.
    let inputs = c.args.inputs.items in
    c.in_ok-joined.ensures
    ∙ ap (λ z. bare (with_roots z c.in_ok-opened.opened.first))
    (c.in_ok-tracks.ensures inputs c.in_ok-opened.ensures.roots)
    ∙ c.in_ok-opened.ensures.first t more e (map (planned_track inputs) c.args.plans.items)
