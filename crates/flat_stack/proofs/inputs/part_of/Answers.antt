use Rattle.std.proofs.Common.{arith, refl, take, FitsSigned}
use mir.Syntax.{w128}
use Rattle.std.proofs.lemmas.Int.{to_z-of_z, ints}
use Rattle.std.proofs.lemmas.List.{take_all}
use Rattle.otio_model.specs.Trees.{items_of}
use Rattle.coord.proofs.Members.{next, none_left}
use Rattle.flat_stack.proofs.KnowLemmas.{long_taken, seated_more, seated_all, plain_at, plain_track, roots_cuttable}
use Rattle.flat_stack.proofs.inputs.part_of.Goals as goal

pub add_track-requires : goal.add_track-requires
add_track-requires c = plain_track c.child-first.result.now (plain_at (items_of c.args.input.now.tracks.children) c.children.number c.child-first.result.now c.requires.plain c.child-first.ensures)

pub children-preserved : goal.children-preserved
children-preserved c =
    let l = items_of c.args.input.now.tracks.children in
    let added = c.in_ok-index.ensures (take c.children.number l) c.children.invariant.known
    (long_taken l c.children.number c.child-first.result.now c.child-first.ensures) in
    seated_more c.children.tracks c.add_track.new.tracks c.children.seats.items c.push.new.self.items l c.children.number c.child-first.result.now _ c.children.invariant c.child-first.ensures (next l c.children.number c.child-first.result.now c.child-first.ensures) refl added.0 added.1 c.in_ok-push.ensures.items

pub stretch_of-requires-clause-cuttable : goal.stretch_of-requires-clause-cuttable
stretch_of-requires-clause-cuttable c = roots_cuttable c.args.input.now.tracks.children c.requires.few c.requires.faultless

pub returns-clause-part : goal.returns-clause-part
returns-clause-part c =
    let l = items_of c.args.input.now.tracks.children in
    let fits : FitsSigned w128 c.stretch_of.result = omega (arith, ints, c.stretch_of.ensures.low, c.stretch_of.ensures.high) in
    let all = seated_all c.children.tracks c.children.seats.items l c.children.number c.children.invariant (take_all c.children.number l (omega arith)) (none_left l c.children.number (omega arith)) in
    record {
      plain = c.requires.plain;
      few = c.requires.few;
      faultless = c.requires.faultless;
      known = all.0;
      seats = all.1;
      low = simp to_z-of_z c.stretch_of.ensures.low;
      high = simp to_z-of_z c.stretch_of.ensures.high;
    }
