use Rattle.std.proofs.Common.{FitsSigned}
use Rattle.std.specs.Int.{w128}
use Rattle.std.proofs.lemmas.Int.{to_z-of_z}
use Rattle.drill.proofs.SumLemmas.{sum_then, stop_then}
use Rattle.drill.proofs.VideoTracks.{track_sum, track_stops, no_track}
use Rattle.drill.proofs.channels.channel_sum.Goals as goal

pub returns-in-Some-clause-sum : goal.returns-in-Some-clause-sum
returns-in-Some-clause-sum c =
    let fits : FitsSigned w128 c.args.first = c.ranges.first in
    let sum = simp to_z-of_z at c.child_sum.ensures.sum in
    sum_then c.child_sum.result _ _ sum
    (track_sum c.args.timeline.now c.in-Some.index c.args.first c.args.count
    c.in-Some.ensures.found)

pub returns-in-None-clause-sum : goal.returns-in-None-clause-sum
returns-in-None-clause-sum c =
    no_track c.args.timeline.now c.args.first c.args.count c.in-None.ensures.none

pub returns-in-Some-clause-memory : goal.returns-in-Some-clause-memory
returns-in-Some-clause-memory c =
    let fits : FitsSigned w128 c.args.first = c.ranges.first in
    stop_then c.child_sum.result _ _ (simp to_z-of_z at c.child_sum.ensures.memory)
    (track_stops c.args.timeline.now c.in-Some.index c.args.first c.args.count
    c.in-Some.ensures.found)
