use Rattle.std.proofs.Common.{sym, ap, ◌∙◌}
use Rattle.coord.specs.Programs.{kind_of}
use Rattle.flat.specs.Joined.{own_items}
use Rattle.flat_stack.proofs.JoinedTracks.{own_known}
use Rattle.flat_stack.proofs.planned_tracks.own_track.Goals as goal

pub returns-in-Some-enabled_track-clause-some : goal.returns-in-Some-enabled_track-clause-some
returns-in-Some-enabled_track-clause-some c =
    c.in-Some-enabled_track.ensures.some ∙ ap own_items c.in-Some.ensures.some

pub returns-in-Some-enabled_track-clause-number : goal.returns-in-Some-enabled_track-clause-number
returns-in-Some-enabled_track-clause-number c =
    c.in-Some-enabled_track.ensures.number ∙ ap own_items c.in-Some.ensures.some

pub returns-in-Some-enabled_track-clause-few : goal.returns-in-Some-enabled_track-clause-few
returns-in-Some-enabled_track-clause-few c =
    let here = c.in-Some-enabled_track.ensures.there in
    (own_known c.args.part.now (kind_of c.args.seat.first.now) c.args.seat.index here.item
    c.in-Some-enabled_track.own.children.now c.requires (sym here.there ∙ c.in-Some.ensures.some)
    here.are).few

pub returns-in-Some-enabled_track-clause-cuttable : goal.returns-in-Some-enabled_track-clause-cuttable
returns-in-Some-enabled_track-clause-cuttable c =
    let here = c.in-Some-enabled_track.ensures.there in
    (own_known c.args.part.now (kind_of c.args.seat.first.now) c.args.seat.index here.item
    c.in-Some-enabled_track.own.children.now c.requires (sym here.there ∙ c.in-Some.ensures.some)
    here.are).cuttable

pub returns-in-None-enabled_track-clause-none : goal.returns-in-None-enabled_track-clause-none
returns-in-None-enabled_track-clause-none c =
    ap own_items (sym c.in-Some.ensures.some) ∙ c.in-None-enabled_track.ensures.none

pub returns-in-None-clause-none : goal.returns-in-None-clause-none
returns-in-None-clause-none c = ap own_items (sym c.in-None.ensures.none)
