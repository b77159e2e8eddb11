use Rattle.std.proofs.Common.{◌≡◌, arith, rules, refl, sym, subst, ap, ◌∙◌, ◌+◌, drop, vec_items, [], pos, None, FitsSigned, to_z, of_z}
use mir.Syntax.{w128}
use Rattle.std.proofs.lemmas.Int.{to_z-of_z}
use Rattle.std.specs.Prelude.{slice_index_or}
use Rattle.coord.proofs.Members.{next, none_left}
use Rattle.flat_stack.specs.declared.same_clips.Part.{Part}
use Rattle.flat_stack.proofs.RunLemmas.{at_index, some_at}
use Rattle.flat_stack.proofs.LongestLemmas.{grown_first, with_same, with_next, grown_all, grown_none, no_of}
use Rattle.flat_stack.proofs.same_clips.longest.Goals.{then-is_same, else-is_same+in_ok-push}
use Rattle.flat_stack.proofs.same_clips.longest.Goals as goal

pub returns-in-None : goal.returns-in-None
returns-in-None c =
    let none : drop 0 c.args.runs.now ≡ [] = none_left c.args.runs.now 0 (some_at c.args.runs.now 0 (sym c.in-None.ensures.value)) in
    λ l g end r. grown_none l g end c.args.runs.now c.new-parts.result.items none c.new-parts.ensures.items r

pub runs-init : goal.runs-init
runs-init c =
    let fits : FitsSigned w128 c.in-Some.first.now.to = search rules in
    let to_is : to_z w128 (of_z w128 c.in-Some.first.now.to) ≡ c.in-Some.first.now.to = simp to_z-of_z refl in (
      λ roots g end r. grown_first roots g end (to_z w128 (of_z w128 c.in-Some.first.now.to)) c.in-Some.first.now c.args.runs.now (drop 1 c.args.runs.now) c.new-parts.result.items c.new-parts.ensures.items to_is (next c.args.runs.now 0 c.in-Some.first.now (sym c.in-Some.ensures.value)) r,
      subst (FitsSigned w128) (sym to_is) fits,
    )

pub runs-preserved : goal.runs-preserved
runs-preserved c =
    let at = next c.args.runs.now c.runs.index _ (at_index c.args.runs.now c.runs.index (record { to = pos 0; given = None }) c.runs-test.true) in
    let fits : FitsSigned w128 (slice_index_or c.args.runs.now c.runs.index (record { to = pos 0; given = None })).to = search rules in
    let fits_part : FitsSigned w128 c.runs.part.to = c.runs.invariant.1 in
    let to_is : to_z w128 (of_z w128 (slice_index_or c.args.runs.now c.runs.index (record { to = pos 0; given = None })).to) ≡ (slice_index_or c.args.runs.now c.runs.index (record { to = pos 0; given = None })).to = simp to_z-of_z refl in
    let from_is : to_z w128 (of_z w128 c.runs.part.to) ≡ c.runs.part.to = simp to_z-of_z refl in
    elim c.if-is_same.branch [
      | then-is_same w ↦ (
        λ roots g end r.
            with_same roots g end (to_z w128 (of_z w128 (slice_index_or c.args.runs.now c.runs.index (record { to = pos 0; given = None })).to)) c.runs.parts.items c.if-is_same.parts.items c.runs.part c.if-is_same.part (slice_index_or c.args.runs.now c.runs.index (record { to = pos 0; given = None })) (drop c.runs.index c.args.runs.now) (drop (c.runs.index + 1) c.args.runs.now) (c.runs.invariant.0 roots g end r) at (c.is_same.ensures.0 w.if-is_same.true) to_is w.part-is (ap vec_items w.parts-is),
        subst (FitsSigned w128) (sym (ap (λ (p : Part). p.to) w.part-is ∙ to_is)) fits,
      )
      | else-is_same+in_ok-push w ↦ (
        λ roots g end r.
            with_next roots g end (to_z w128 (of_z w128 c.runs.part.to)) (to_z w128 (of_z w128 (slice_index_or c.args.runs.now c.runs.index (record { to = pos 0; given = None })).to)) c.runs.parts.items c.if-is_same.parts.items c.runs.part c.if-is_same.part (slice_index_or c.args.runs.now c.runs.index (record { to = pos 0; given = None })) (drop c.runs.index c.args.runs.now) (drop (c.runs.index + 1) c.args.runs.now) (c.runs.invariant.0 roots g end r) at (no_of c.is_same.result c.is_same.ensures.1 w.if-is_same.false) (ap vec_items w.parts-is ∙ w.in_ok-push.ensures.items) from_is to_is w.part-is,
        subst (FitsSigned w128) (sym (ap (λ (p : Part). p.to) w.part-is ∙ to_is)) fits,
      )
    ]

pub returns : goal.returns
returns c = λ roots g end r. grown_all roots g end c.runs.parts.items c.push-2.new.self.items c.runs.part (drop c.runs.index c.args.runs.now) (c.runs.invariant.0 roots g end r) (none_left c.args.runs.now c.runs.index (omega arith)) c.in_ok-push-2.ensures.items
