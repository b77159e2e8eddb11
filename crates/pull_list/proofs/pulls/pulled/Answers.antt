use Rattle.std.proofs.Common.{sym, subst}
use Rattle.std.proofs.lemmas.Result.{IfOk-weaker}
use Rattle.pull_list.specs.Pulled.{stretches_of}
use Rattle.pull_list.specs.Runs.{Each, IsRun}
use Rattle.pull_list.specs.Stretches.{AreStretches, IsKnown}
use Rattle.pull_list.proofs.Nearness.{apart_runs}
use Rattle.pull_list.proofs.Pulling.{IsFound, all_known, found_by, is_pull_list}
use Rattle.pull_list.proofs.pulls.pulled.Goals as goal

found : (c : goal.After-as_slice) → IsFound c.args.timeline.now c.args.handles
    c.into_parts-groups.result.0 c.into_parts-groups.result.1.items c.in_ok-groups.field-0.available.items
    c.in_ok-runs.runs.items
found c = found_by c.args.timeline.now c.args.handles c.in_ok-groups.field-0.groups c.new-used.result.groups
    c.add_children.new.used.groups c.into_parts-groups.result.0 c.new-used.result.runs.items
    c.add_children.new.used.runs.items c.into_parts-groups.result.1.items
    c.in_ok-groups.field-0.available.items c.in_ok-runs.runs.items c.requires.handles
    c.in_ok-groups.ensures
    c.new-used.ensures.groups c.new-used.ensures.runs c.in_ok-add_children.ensures.added
    c.add_children.ensures.groups c.into_parts-groups.ensures.groups c.into_parts-groups.ensures.runs
    c.in_ok-runs.ensures.has c.in_ok-runs.ensures.apart

pub spans_of-requires-clause-runs : goal.spans_of-requires-clause-runs
spans_of-requires-clause-runs c =
    subst (Each IsRun) (sym c.as_slice.ensures.value)
    (apart_runs c.in_ok-runs.runs.items c.in_ok-runs.ensures.apart)

pub spans_of-requires-clause-known : goal.spans_of-requires-clause-known
spans_of-requires-clause-known c =
    subst (Each (IsKnown c.into_parts-groups.result.0)) (sym c.as_slice.ensures.value)
    (all_known _ _ _ _ _ _ (found c))

pub returns : goal.returns
returns c =
    IfOk-weaker c.spans_of.result _ _
    (λ spans are. is_pull_list _ _ _ _ _ _ (stretches_of spans.items)
    (found_by c.args.timeline.now c.args.handles c.in_ok-groups.field-0.groups c.new-used.result.groups
    c.add_children.new.used.groups c.into_parts-groups.result.0 c.new-used.result.runs.items
    c.add_children.new.used.runs.items c.into_parts-groups.result.1.items
    c.in_ok-groups.field-0.available.items c.in_ok-runs.runs.items c.requires.handles
    c.in_ok-groups.ensures
    c.new-used.ensures.groups c.new-used.ensures.runs c.in_ok-add_children.ensures.added
    c.add_children.ensures.groups c.into_parts-groups.ensures.groups c.into_parts-groups.ensures.runs
    c.in_ok-runs.ensures.has c.in_ok-runs.ensures.apart)
    (subst (λ r. AreStretches c.into_parts-groups.result.0 r (stretches_of spans.items))
    c.as_slice.ensures.value are))
    c.spans_of.ensures
