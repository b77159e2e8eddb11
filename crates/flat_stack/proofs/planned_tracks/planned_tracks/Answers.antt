use Rattle.std.proofs.Common.{arith, ap, drop, map, [], ◌∷◌, ◌+◌, ◌∙◌}
use Rattle.std.proofs.lemmas.List.{map-append}
use Rattle.coord.proofs.Members.{next, none_left}
use Rattle.flat_stack.specs.Inputs.{inputs_of, slot_of, slots_of}
use Rattle.flat_stack.specs.Portions.{planned_track}
use Rattle.flat_stack.proofs.JoinedTracks.{tracks_first, tracks_more, tracks_end}
use Rattle.flat_stack.proofs.planned_tracks.planned_tracks.Goals as goal

pub seats-init : goal.seats-init
seats-init c =
    let made = planned_track (inputs_of c.args.givers.now.parts.now) in
    tracks_first c.args.rate c.args.givers.now.parts.now (slots_of c.args.seats.now)
    (map made c.new-all.result.items) (ap (map made) c.new-all.ensures.items)

pub seats-preserved : goal.seats-preserved
seats-preserved c =
    let made = planned_track (inputs_of c.args.givers.now.parts.now) in
    let seats = c.args.seats.now in
    tracks_more c.args.rate c.args.givers.now.parts.now (slots_of seats) (slots_of (drop c.seats.index seats))
    (slots_of (drop (c.seats.index + 1) seats)) (map made c.seats.all.items)
    (map made c.push.new.self.items) (slot_of c.seat_at.result) (made c.in_ok-planned.planned)
    c.seats.invariant (ap slots_of (next seats c.seats.index c.seat_at.result c.seat_at.ensures))
    c.in_ok-planned.ensures
    (ap (map made) c.in_ok-push.ensures.items
    ∙ map-append made c.seats.all.items (c.in_ok-planned.planned ∷ []))

pub returns : goal.returns
returns c =
    tracks_end c.args.rate c.args.givers.now.parts.now (slots_of c.args.seats.now)
    (slots_of (drop c.seats.index c.args.seats.now))
    (map (planned_track (inputs_of c.args.givers.now.parts.now)) c.seats.all.items) c.seats.invariant
    (ap slots_of (none_left c.args.seats.now c.seats.index (omega arith)))
