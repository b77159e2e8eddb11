use Rattle.std.proofs.Common.{refl, sym, ap, subst, ◌∙◌, ◌≡◌, ◌+ℤ◌, pos, arith}
use Rattle.std.proofs.lemmas.Int.{ints}
use Rattle.pull_list.specs.Runs.{Each, Has, IsWithin, far}
use Rattle.pull_list.proofs.MoreRuns.{IsKept, kept_same, put_last}
use Rattle.pull_list.proofs.taking.add_number.Goals as goal
use Rattle.pull_list.proofs.taking.add_number.Goals.{then-len-most+in_ok-merge, else-len-most}

pub returns : goal.returns
returns c =
    let old = c.args.runs.now.items in
    let kept = c.if-is_taken-2.ensures.kept refl ∙ c.if-is_taken.ensures.kept refl in
    let first : c.run_of.result.first ≡ c.args.number = let a = c.run_of.ensures.first in omega (arith, ints, a) in
    let past : c.run_of.result.past ≡ (c.args.number +ℤ pos 1) = let a = c.run_of.ensures.past in omega (arith, ints, a) in
    let is : IsKept old c.if-len-most.runs.items = elim c.if-len-most.branch [
      | then-len-most+in_ok-merge w ↦
          let m = w.in_ok-merge.ensures in let same = ap (λ r. r.items) w.runs-is in
          subst (IsKept old) (sym same) (record {
            has = λ j v. subst (λ x. (Has w.merge.new.runs.items j v → Has x j v) × (Has x j v → Has w.merge.new.runs.items j v)) kept (m.has j v);
            runs = m.runs;
            within = λ h. m.within far (subst (Each (IsWithin far)) (sym kept) h);
          })
      | else-len-most w ↦
          kept_same old c.if-len-most.runs.items c.requires.runs (ap (λ r. r.items) w.runs-is ∙ kept)
    ] in
    put_last old c.if-len-most.runs.items c.push.new.self.items c.run_of.result c.args.group
    c.args.number is c.run_of.ensures.group first past c.requires.low c.requires.high
    c.in_ok-push.ensures.items
