use Rattle.std.proofs.Common.{arith}
use Rattle.tick_time.proofs.Pushes.{after_zero, after_other, after_long}
use Rattle.tick_time.proofs.tallies.Tally.push.Goals as goal
use Rattle.tick_time.proofs.tallies.Tally.push.Goals.{then-self-eq0, else-self-eq0}

pub returns-after-self-eq0-clause-digit : goal.returns-after-self-eq0-clause-digit
returns-after-self-eq0-clause-digit c = λ read t.
    elim c.if-self-eq0.branch [
      | then-self-eq0 w ↦ after_zero _ _ _ _ _ _ t c.if-digit-eq48.true c.args.self.below c.args.self.bare (λ _. w.zeros-is) (λ some. omega arith)
      | else-self-eq0 w ↦ after_zero _ _ _ _ _ _ t c.if-digit-eq48.true c.args.self.below c.args.self.bare (λ none. omega arith) (λ _. w.zeros-is)
    ]

pub returns-then-self-more-gt-MOST_DIGITS-clause-digit : goal.returns-then-self-more-gt-MOST_DIGITS-clause-digit
returns-then-self-more-gt-MOST_DIGITS-clause-digit c = λ read t. after_long _ _ _ _ _ t c.if-digit-eq48.false c.if-self-more-gt-MOST_DIGITS.true

pub returns-else-self-more-gt-MOST_DIGITS-clause-digit : goal.returns-else-self-more-gt-MOST_DIGITS-clause-digit
returns-else-self-more-gt-MOST_DIGITS-clause-digit c = λ read t. after_other _ _ _ _ _ _ t c.if-digit-eq48.false c.requires.low c.requires.high c.joined.ensures.value
