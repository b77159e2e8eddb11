use Rattle.std.proofs.Common.{ap, ◌∙◌}
use Rattle.flat.specs.Joined.{joined_with}
use Rattle.flat_stack.proofs.joined_tracks.joined_track.Goals as goal

pub returns-clause-made : goal.returns-clause-made
returns-clause-made c = λ l are.
    c.in_ok-joined.ensures
    ∙ ap (joined_with c.args.planned.track) (c.in_ok-items.ensures.moved l are)
