use Rattle.std.proofs.Common.{subst, sym, pos}
use Rattle.std.proofs.lemmas.Int.{to_z-of_z}
use Rattle.flat.specs.Pieces.{holder}
use Rattle.flat_stack.specs.Runs.{AreRuns}
use Rattle.pieces.proofs.Inner.{inner_short, inner_cuttable}
use Rattle.flat_stack.proofs.TrackLemmas.{layer_items}
use Rattle.flat_stack.proofs.LayerLemmas.{layer_runs, other_runs}
use Rattle.flat_stack.proofs.stretches.layer_stretches.Goals as goal

pub track_stretches-requires-clause-few : goal.track_stretches-requires-clause-few
track_stretches-requires-clause-few c =
    inner_short c.args.item.now c.in-Some.children.now c.in-Some.ensures.there c.requires.few

pub track_stretches-requires-clause-cuttable : goal.track_stretches-requires-clause-cuttable
track_stretches-requires-clause-cuttable c =
    inner_cuttable c.args.item.now c.in-Some.children.now c.in-Some.ensures.there
    c.requires.faultless c.requires.few

pub returns-in_ok-all-in-Some : goal.returns-in_ok-all-in-Some
returns-in_ok-all-in-Some c =
    let fits = c.ranges.end in
    let all = c.in_ok-all-in-Some.all.items in
    let layer = c.in-Some.ensures.some in
    let same = layer_items c.args.kind.now c.args.item.now c.in-Some.children.now layer
    c.in-Some.ensures.there in
    λ l f. layer_runs l c.args.kind.now c.args.track c.args.item.now c.args.end all layer
    (subst (λ m. AreRuns l (holder c.args.track 0 (pos 0) m) c.args.end (pos 0) all) (sym same)
    (simp to_z-of_z at (c.in_ok-all-in-Some.ensures l c.args.item.now f same)))

pub returns-in_ok-all-in-None : goal.returns-in_ok-all-in-None
returns-in_ok-all-in-None c =
    let fits = c.ranges.end in
    λ l e. other_runs l c.args.kind.now c.args.track c.args.item.now c.args.end
    c.in_ok-all-in-None.all.items c.in-None.ensures.none
    (simp to_z-of_z at (c.in_ok-all-in-None.ensures l))
