use Rattle.std.proofs.Common.{sym, ◌∙◌}
use Rattle.coord.specs.Programs.{kind_of}
use Rattle.flat_stack.specs.Inputs.{list_of}
use Rattle.flat_stack.proofs.KnowLemmas.{no_track, number_track}
use Rattle.flat_stack.proofs.planned_tracks.own_number.Goals as goal

pub returns-in-Some-clause-some : goal.returns-in-Some-clause-some
returns-in-Some-clause-some c =
    number_track c.root_kind.result.now (kind_of c.args.seat.first.now) c.args.seat.index
    c.in-Some.number (list_of c.args.part.now) c.root_kind.ensures
    (sym c.in-Some.is ∙ c.track_at.ensures (list_of c.args.part.now) c.requires.known)

pub returns-in-None-clause-none : goal.returns-in-None-clause-none
returns-in-None-clause-none c =
    no_track c.root_kind.result.now (kind_of c.args.seat.first.now) c.args.seat.index
    (list_of c.args.part.now) c.root_kind.ensures
    (sym c.in-None.is ∙ c.track_at.ensures (list_of c.args.part.now) c.requires.known)
