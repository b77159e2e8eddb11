use Rattle.pull_list.proofs.PutRuns.{covered_by, has_at}
use Rattle.pull_list.proofs.runs.is_covered.Goals as goal

pub returns-in-Some : goal.returns-in-Some
returns-in-Some c = λ t k v h.
    let e = c.in-Some.ensures.lookup in
    has_at c.args.runs.now c.args.at c.in-Some.one.now k v e.3.0 e.1
    (covered_by c.in-Some.one.now c.args.run k v (c.covers.ensures t) h)
