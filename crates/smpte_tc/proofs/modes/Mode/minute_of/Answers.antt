-- The minute of a frame number.
use Rattle.smpte_tc.proofs.Minutes.{first_place, first_day, later_place, later_day}
use Rattle.smpte_tc.proofs.modes.Mode.minute_of.Goals as goal

pub returns-then-rest-whole-clause-place : goal.returns-then-rest-whole-clause-place
returns-then-rest-whole-clause-place c =
    rw (c.from-whole.ensures, c.from.ensures) (first_place c.args.self.now c.args.n c.requires.fair)

pub returns-then-rest-whole-clause-day : goal.returns-then-rest-whole-clause-day
returns-then-rest-whole-clause-day c =
    rw (c.from-whole.ensures, c.from.ensures) (first_day c.args.self.now c.args.n c.requires.fair c.requires.of_day)

pub returns-else-rest-whole-clause-place : goal.returns-else-rest-whole-clause-place
returns-else-rest-whole-clause-place c =
    let later = rw (c.from-whole.ensures, c.from.ensures) at c.if-rest-whole.false in
    rw (c.from-whole.ensures, c.from.ensures, c.from-else-rest-whole.ensures) (later_place c.args.self.now c.args.n c.requires.fair later)

pub returns-else-rest-whole-clause-day : goal.returns-else-rest-whole-clause-day
returns-else-rest-whole-clause-day c =
    let later = rw (c.from-whole.ensures, c.from.ensures) at c.if-rest-whole.false in
    rw (c.from-whole.ensures, c.from.ensures) (later_day c.args.self.now c.args.n c.requires.fair c.requires.of_day later)
