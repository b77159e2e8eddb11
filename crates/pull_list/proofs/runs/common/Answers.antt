use Rattle.pull_list.proofs.Common.{first_at, last_at}
use Rattle.pull_list.proofs.runs.common.Goals as goal

pub pairs-preserved-then-ends_before : goal.pairs-preserved-then-ends_before
pairs-preserved-then-ends_before c =
    first_at c.args.one.now c.args.other.now c.pairs.both.items c.add_overlap.new.both.items
    c.pairs.at c.pairs.next _ _ c.pairs-test.true c.if-next-other.true c.pairs.invariant
    (c.ends_before.ensures.0 c.if-ends_before.true)
    (record {
      has = c.in_ok-add_overlap.ensures.has;
      runs = c.in_ok-add_overlap.ensures.runs;
      within = c.in_ok-add_overlap.ensures.within;
    })

pub pairs-preserved : goal.pairs-preserved
pairs-preserved c =
    last_at c.args.one.now c.args.other.now c.pairs.both.items c.add_overlap.new.both.items
    c.pairs.at c.pairs.next _ _ c.pairs-test.true c.if-next-other.true c.pairs.invariant
    (λ h. let k = c.ends_before.ensures.1 h in let f = c.if-ends_before.false in cc)
    (record {
      has = c.in_ok-add_overlap.ensures.has;
      runs = c.in_ok-add_overlap.ensures.runs;
      within = c.in_ok-add_overlap.ensures.within;
    })

pub returns-clause-within : goal.returns-clause-within
returns-clause-within c = λ n h. (c.pairs.invariant.within n h).0
