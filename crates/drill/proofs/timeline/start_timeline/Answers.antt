use Rattle.std.proofs.Common.{◌∙◌}
use Rattle.drill.proofs.Editable.{start_editable}
use Rattle.drill.proofs.MadeClips.{started}
use Rattle.drill.proofs.timeline.start_timeline.Goals as goal

pub returns-clause-timeline : goal.returns-clause-timeline
returns-clause-timeline c =
    let of = c.of-2.ensures in
    started c.args.random.now.state c.of-2.result c.start.result c.in_ok-items.items
    c.in_ok-track.field-0 c.in_ok-tracks.tracks c.start.ensures c.in_ok-items.ensures.clips
    c.in_ok-track.ensures c.in_ok-tracks.ensures (of.metadata ∙ c.new-metadata.ensures)
    (of.name ∙ c.in_ok-name.ensures) of.global_start_time of.tracks
    (of.rest ∙ c.new-rest.ensures)

pub returns-clause-editable : goal.returns-clause-editable
returns-clause-editable c =
    start_editable c.args.random.now.state c.of-2.result (returns-clause-timeline c)
