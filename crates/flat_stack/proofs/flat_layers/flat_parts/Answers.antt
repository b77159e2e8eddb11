use Rattle.std.proofs.Common.{◌≡◌, arith, refl, sym, subst, ◌∙◌, pos, [], FitsSigned}
use mir.Syntax.{w128}
use Rattle.std.proofs.lemmas.Int.{to_z-of_z, ints}
use Rattle.otio_model.specs.Trees.{items_of}
use Rattle.flat.specs.Pieces.{giver, longest}
use Rattle.flat_stack.specs.Runs.{AreRuns}
use Rattle.flat_stack.proofs.RunLemmas.{all_runs}
use Rattle.flat_stack.proofs.LongestLemmas.{grown_none}
use Rattle.flat_stack.proofs.flat_layers.flat_parts.Goals as goal

pub returns-then-end-le0 : goal.returns-then-end-le0
returns-then-end-le0 c =
    let least = c.longest_track-end.ensures.low in
    let most = c.longest_track-end.ensures.high in
    let fits : FitsSigned w128 c.longest_track-end.result = omega (arith, ints, least, most) in
    let test = simp to_z-of_z at c.if-end-le0.true in
    let none : pos 0 ≡ c.longest_track-end.result = omega (arith, ints, test, least) in
    record { parts = grown_none (items_of c.args.children.now) (giver 0 c.args.kind.now (items_of c.args.children.now)) (longest c.args.kind.now (items_of c.args.children.now)) [] c.new.result.items refl c.new.ensures.items (none ∙ c.longest_track-end.ensures.value) }

pub returns : goal.returns
returns c =
    let least = c.longest_track-end.ensures.low in
    let most = c.longest_track-end.ensures.high in
    let fits : FitsSigned w128 c.longest_track-end.result = omega (arith, ints, least, most) in
    let made = simp to_z-of_z at c.in_ok-runs.ensures in
    record {
      parts = c.in_ok-parts.ensures (items_of c.args.children.now) (giver 0 c.args.kind.now (items_of c.args.children.now)) (longest c.args.kind.now (items_of c.args.children.now))
          (subst (λ z. AreRuns (items_of c.args.children.now) (giver 0 c.args.kind.now (items_of c.args.children.now)) z (pos 0) c.as_slice.result.now) c.longest_track-end.ensures.value
          (subst (AreRuns (items_of c.args.children.now) (giver 0 c.args.kind.now (items_of c.args.children.now)) c.longest_track-end.result (pos 0)) (sym c.as_slice.ensures.value)
          (all_runs (items_of c.args.children.now) c.args.kind.now c.len.result c.longest_track-end.result c.in_ok-runs.runs.items c.len.ensures made)));
    }
