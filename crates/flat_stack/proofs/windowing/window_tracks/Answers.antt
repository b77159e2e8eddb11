use Rattle.std.proofs.Common.{arith, refl, drop}
use Rattle.std.proofs.lemmas.Int.{to_z-of_z}
use Rattle.otio_model.specs.Trees.{items_of}
use Rattle.coord.proofs.Members.{child_few, next, none_left}
use Rattle.pieces.proofs.Inner.{root_faultless}
use Rattle.flat_stack.specs.Uncut.{IsInWindow}
use Rattle.flat_stack.proofs.PassedLemmas.{tracks_first, tracks_more, tracks_all, free_plain, free_cut}
use Rattle.flat_stack.proofs.windowing.window_tracks.Goals as goal

pub children-init : goal.children-init
children-init c =
    let fits = c.ranges.from in
    let fits_to = c.ranges.to in
    simp to_z-of_z (tracks_first c.args.rate c.args.from c.args.to c.new-done.result.items (items_of c.args.children.now) (items_of c.args.children.now) c.new-done.ensures.items refl)

pub window_track-requires : goal.window_track-requires
window_track-requires c =
    let fits = c.ranges.from in
    let fits_to = c.ranges.to in
    let l = items_of c.args.children.now in
    let i = c.children.index in
    let x = c.child-item.result.now in
    let there = c.child-item.ensures in
    let is : IsInWindow x c.args.from c.args.to = record {
      plain = free_plain l c.args.from c.args.to i x c.requires.free there;
      few = child_few c.args.children.now i x there c.requires.few;
      faultless = root_faultless c.args.children.now i x c.requires.faultless there;
      cut = free_cut l c.args.from c.args.to i x c.requires.free there;
      low = c.requires.low;
      wide = c.requires.wide;
      high = c.requires.high;
    } in
    simp to_z-of_z is

pub children-preserved : goal.children-preserved
children-preserved c =
    let fits = c.ranges.from in
    let fits_to = c.ranges.to in
    let known = simp to_z-of_z at c.children.invariant in
    let track = simp to_z-of_z at c.in_ok-track.ensures in
    simp to_z-of_z (tracks_more c.args.rate c.args.from c.args.to c.children.done.items _ _ _ (items_of c.args.children.now) c.child-item.result.now c.in_ok-track.track known (next (items_of c.args.children.now) c.children.index c.child-item.result.now c.child-item.ensures) track c.in_ok-push.ensures.items)

pub returns : goal.returns
returns c =
    let fits = c.ranges.from in
    let fits_to = c.ranges.to in
    let known = simp to_z-of_z at c.children.invariant in
    tracks_all c.args.rate c.args.from c.args.to c.children.done.items (drop c.children.index (items_of c.args.children.now)) (items_of c.args.children.now) known (none_left (items_of c.args.children.now) c.children.index (omega arith))
