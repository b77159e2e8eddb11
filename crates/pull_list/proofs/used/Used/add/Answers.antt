use Rattle.std.proofs.Common.{refl, subst, ◌≡◌, inr, OnOk, to_z, of_z, arith}
use Rattle.std.specs.Int.{w128}
use Rattle.std.proofs.lemmas.Int.{ints}
use Rattle.pull_list.specs.Found.{group_in}
use Rattle.pull_list.specs.Runs.{Adds}
use Rattle.pull_list.proofs.Collecting.{on_ok_taken}
use Rattle.pull_list.proofs.used.Used.add.Goals as goal

pub returns-in-Some-clause-taken : goal.returns-in-Some-clause-taken
returns-in-Some-clause-taken c =
    let old = c.args.self.now.runs.items in let new = c.add_number.new.runs.items in
    let same : to_z w128 (of_z w128 c.args.number) ≡ c.args.number = omega (arith, ints) in
    on_ok_taken c.add_number.result c.args.self.now.groups (group_in c.args.group) c.args.number old
    new c.in-Some.known c.in-Some.ensures
    (subst (λ v. OnOk c.add_number.result (Adds old new c.in-Some.known v)) same c.add_number.ensures)

pub returns-in-None-clause-taken : goal.returns-in-None-clause-taken
returns-in-None-clause-taken c = inr (c.in-None.ensures, refl)
