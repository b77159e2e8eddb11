use Rattle.tick_time.proofs.ratios.+gcd.Given as goal

abbrev pub decreases-gcd : goal.decreases-gcd
decreases-gcd l = l.b
