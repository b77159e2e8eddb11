use Rattle.std.proofs.Common.{◌↔◌, sym, subst}
use Rattle.std.proofs.lemmas.Result.{IfOk-weaker}
use Rattle.pull_list.specs.Runs.{Each, Has, IsWithin, further}
use Rattle.pull_list.proofs.Merging.{has_append}
use Rattle.pull_list.proofs.Nearness.{apart_runs, further_each, wanted_near}
use Rattle.pull_list.proofs.wanted.with_handles.Goals as goal

pub merged-requires-2 : goal.merged-requires-2
merged-requires-2 c =
    c.in_ok-all-2.ensures.runs c.in_ok-all.ensures.runs
    (apart_runs c.args.used.now c.requires.used)

pub returns-clause-has : goal.returns-clause-has
returns-clause-has c =
    let both = c.in_ok-all.all.items in let used = c.args.used.now in
    IfOk-weaker c.merged-2.result _ _
    (λ all h. wanted_near all.items c.in_ok-all.all.items c.in_ok-near.near.items
    c.in_ok-available.available.items c.args.used.now c.args.available.items c.args.handles
    c.in_ok-near.ensures.has c.in_ok-available.ensures.has
    (λ k v. subst (λ x. Has c.in_ok-all.all.items k v ↔ (Has x k v × Has c.in_ok-available.available.items k v)) c.as_slice.ensures.value
    (subst (λ x. Has c.in_ok-all.all.items k v ↔ (Has c.as_slice.result.now k v × Has x k v)) c.as_slice-2.ensures.value (c.in_ok-all.ensures.has k v)))
    (λ k v. (
      λ x. (has_append both used k v).1 ((c.in_ok-all-2.ensures.has k v).0 ((h k v).0 x)),
      λ x. (h k v).1 ((c.in_ok-all-2.ensures.has k v).1 ((has_append both used k v).0 x)),
    )))
    c.merged-2.ensures.has

pub returns-clause-within : goal.returns-clause-within
returns-clause-within c =
    c.merged-2.ensures.within further
    (c.in_ok-all-2.ensures.within further
    (c.in_ok-all.ensures.within further
    (subst (Each (IsWithin further)) (sym c.as_slice.ensures.value) c.in_ok-near.ensures.within))
    (further_each c.args.used.now c.requires.within))
