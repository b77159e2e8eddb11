use Rattle.std.proofs.Common.{arith, sym, ap, ◌++◌, ◌≡◌, ◌∙◌}
use Rattle.std.specs.Prelude.{flat_map, reverse}
use Rattle.otio_model.specs.Timelines.{bare}
use Rattle.flat.specs.Roots.{roots, with_roots}
use Rattle.flat_stack.proofs.CopyLemmas.{head_is}
use Rattle.flat_stack.proofs.MoveLemmas.{done_all, done_more}
use Rattle.flat_stack.proofs.StraightLemmas.{none_left, turned_next}
use Rattle.flat_stack.proofs.stacking.pile.Goals as goal

pub left-init : goal.left-init
left-init c =
    let moved : c.move_roots.new.all.items ≡ roots c.take_first-first.result =
    c.in_ok-move_roots.ensures.moved
    ∙ ap (λ z. z ++ roots c.take_first-first.result) c.new-all.ensures.items in
    ap (λ z. z ++ flat_map roots (reverse c.take_first-first.new.timelines.items)) moved
    ∙ sym (ap (flat_map roots) c.take_first-first.ensures)

pub left-preserved : goal.left-preserved
left-preserved c =
    let next = turned_next c.left.left.items c.pop.new.self.items c.in-Some.input
    c.in-Some.ensures.items in
    done_more c.left.all.items c.move_roots-in-Some.new.all.items (roots c.in-Some.input)
    (flat_map roots (reverse c.pop.new.self.items)) (flat_map roots (reverse c.left.left.items))
    (flat_map roots c.args.inputs.items) c.in_ok-move_roots-2.ensures.moved
    (ap (flat_map roots) next) c.left.invariant

pub returns : goal.returns
returns c = record {
  piled = λ t more e.
      let all = c.left.all.items in
      let none = none_left c.left.left.items
      (omega (arith, c.in_default.ensures.cases.0, c.left.left.ok.0)) in
      let whole : all ≡ roots t ++ flat_map roots more =
      done_all all (flat_map roots (reverse c.left.left.items))
      (flat_map roots c.args.inputs.items) (ap (flat_map roots) none) c.left.invariant
      ∙ ap (flat_map roots) e in
      let same = head_is c.take_first-first.result t
      (reverse c.take_first-first.new.timelines.items) more (sym c.take_first-first.ensures ∙ e) in
      c.in_ok-piled.ensures ∙ c.in_ok-move_roots.ensures.rest all
      ∙ ap (λ u. bare (with_roots all u)) same ∙ ap (λ l. bare (with_roots l t)) whole;
}
