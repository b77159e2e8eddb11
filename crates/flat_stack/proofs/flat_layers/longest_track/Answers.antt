use Rattle.std.proofs.Common.{arith, sym, ap, ◌∙◌, drop, refl, [], to_z, FitsSigned, ◌≡◌, ◌≤◌, ℕ}
use mir.Syntax.{w128}
use Rattle.std.proofs.lemmas.Int.{to_z-of_z, ints}
use Rattle.otio_model.specs.Trees.{items_of}
use Rattle.coord.proofs.Members.{child_few, none_left}
use Rattle.flat.specs.Pieces.{longest}
use Rattle.pieces.proofs.Inner.{root_faultless}
use Rattle.flat_stack.proofs.LayerLemmas.{longest_next}
use Rattle.flat_stack.proofs.flat_layers.longest_track.Goals as goal

nothing_left : (n : ℕ) → n ≤ 0 → n ≡ 0
nothing_left n h = omega (arith, h)

pub children-init : goal.children-init
children-init c = (sym (ap (longest c.args.kind.now) (none_left (items_of c.args.children.now) c.len-left.result (omega (arith, c.len-left.ensures)))), omega (arith, c.len-left.ensures), omega (arith, ints), omega (arith, ints))

pub with_layer-end-requires-clause-cuttable : goal.with_layer-end-requires-clause-cuttable
with_layer-end-requires-clause-cuttable c = record {
  few = child_few c.args.children.now _ c.child.result.now c.child.ensures c.requires.few;
  sound = root_faultless c.args.children.now _ c.child.result.now c.requires.faultless c.child.ensures [] c.child.result.now refl;
}

pub children-preserved : goal.children-preserved
children-preserved c =
    let least = c.with_layer-end.ensures.low in
    let most = c.with_layer-end.ensures.high in
    let fits : FitsSigned w128 c.with_layer-end.result = omega (arith, ints, least, most) in
    simp to_z-of_z (
      longest_next c.args.kind.now (items_of c.args.children.now) c.children.left c.child.result.now (to_z w128 c.children.end-bits) c.with_layer-end.result c.children-test.true c.child.ensures c.children.invariant.0 c.with_layer-end.ensures.value,
      (let k = c.children.invariant.1 in omega (arith, k)),
      least,
      most,
    )

pub returns-clause-value : goal.returns-clause-value
returns-clause-value c = c.children.invariant.0 ∙ ap (λ n. longest c.args.kind.now (drop n (items_of c.args.children.now))) (nothing_left c.children.left c.children-test.false)
