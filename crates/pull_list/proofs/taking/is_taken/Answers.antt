use Rattle.std.proofs.Common.{refl, subst, arith, ◌-◌, ◌≡◌, to_z, of_z}
use Rattle.std.specs.Int.{w128}
use Rattle.std.proofs.lemmas.Int.{ints}
use Rattle.pull_list.specs.Runs.{IsExtended, IsNext}
use Rattle.pull_list.proofs.MoreRuns.{taken_at}
use Rattle.pull_list.proofs.taking.is_taken.Goals as goal

pub returns-clause-taken : goal.returns-clause-taken
returns-clause-taken c =
    let len = c.len-2.ensures in let least = c.requires.back in let most = c.if-back-len.false in
    let same : to_z w128 (of_z w128 c.args.number) ≡ c.args.number = omega (arith, ints) in
    let run = c.index-run.result.now in
    λ _. taken_at c.args.runs.now.items _ (c.len-2.result - c.args.back) run c.extended.result
    c.args.group c.args.number (omega (arith, len, least, most)) c.requires.runs c.index-run.ensures
    (subst (IsNext run c.args.group) same (c.is_next.ensures.0 c.if-not-is_next.false))
    (subst (λ v. IsExtended run v c.extended.result) same c.extended.ensures)
    c.requires.low c.requires.high refl
