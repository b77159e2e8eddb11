use Rattle.std.proofs.Common.{◌∙◌, [], ap, sym, subst, arith}
use Rattle.otio_model.specs.Trees.{items_of, listed}
use Rattle.otio_model.proofs.Views.{items-listed}
use Rattle.coord.proofs.Members.{child_few, got_below, index_few}
use Rattle.note_text.specs.Noted.{AreNotedRoots}
use Rattle.edl_notes.specs.Steps.{notes_at}
use Rattle.edl_notes.proofs.RootSteps.{few_kinds, roots_end, roots_more}
use Rattle.edl_notes.proofs.tracks.noted_tracks.Goals as goal

pub noted_root-requires-clause-few : goal.noted_root-requires-clause-few
noted_root-requires-clause-few c = child_few c.args.tracks.now c.tracks.index c.child-item.result.now c.child-item.ensures c.requires.few

pub with_one-kinds-requires-clause-video : goal.with_one-kinds-requires-clause-video
with_one-kinds-requires-clause-video c =
    let items = items_of c.args.tracks.now in
    let l = got_below items c.tracks.index c.child-item.result.now c.child-item.ensures in
    let k = index_few c.args.tracks.now c.tracks.index l c.requires.few in
    let f = few_kinds c.args.work.list.now (notes_at c.args.work.notes.now) items c.tracks.index c.tracks.kinds c.tracks.copies.items (omega (arith, l)) c.tracks.invariant in
    let v = f.0 in omega (arith, k, v)

pub with_one-kinds-requires-clause-audio : goal.with_one-kinds-requires-clause-audio
with_one-kinds-requires-clause-audio c =
    let items = items_of c.args.tracks.now in
    let l = got_below items c.tracks.index c.child-item.result.now c.child-item.ensures in
    let k = index_few c.args.tracks.now c.tracks.index l c.requires.few in
    let f = few_kinds c.args.work.list.now (notes_at c.args.work.notes.now) items c.tracks.index c.tracks.kinds c.tracks.copies.items (omega (arith, l)) c.tracks.invariant in
    let v = f.1 in omega (arith, k, v)

pub tracks-preserved : goal.tracks-preserved
tracks-preserved c =
    roots_more c.args.work.list.now (notes_at c.args.work.notes.now) (items_of c.args.tracks.now) c.tracks.index c.child-item.result.now c.in_ok-noted_root.field-0 c.tracks.kinds c.with_one-kinds.result
    c.tracks.copies.items c.push.new.self.items c.child-item.ensures c.in_ok-noted_root.ensures c.with_one-kinds.ensures c.in_ok-push.ensures.items c.tracks.invariant

pub returns : goal.returns
returns c = λ notes same.
    let list = c.args.work.list.now in
    let items = items_of c.args.tracks.now in
    let have = ap items_of (c.in_ok-made.ensures ∙ ap listed c.of.ensures) ∙ items-listed c.tracks.copies.items in
    subst (AreNotedRoots list notes [] items) (sym have)
    (roots_end list (notes_at c.args.work.notes.now) items c.tracks.index c.tracks.kinds c.tracks.copies.items (omega (arith, c.tracks-test.false, c.len-index-end.ensures)) c.tracks.invariant notes same)
