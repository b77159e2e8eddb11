-- The address of the minute.
use Rattle.smpte_tc.proofs.Minutes.{address_there, at_minute}
use Rattle.smpte_tc.proofs.modes.Mode.address_of.Goals as goal

pub returns-clause-there : goal.returns-clause-there
returns-clause-there c =
    rw c.from-nominal.ensures
    (address_there c.args.self.now c.args.n c.minute_of-at.result.minute c.minute_of-at.result.frame c.requires.fair.some c.requires.fair.fewer
    c.minute_of-at.ensures.place c.minute_of-at.ensures.day c.minute_of-at.ensures.within c.minute_of-at.ensures.counted)

pub returns-clause-inside : goal.returns-clause-inside
returns-clause-inside c =
    rw c.from-nominal.ensures
    (at_minute c.args.self.now c.args.n c.minute_of-at.result.minute c.minute_of-at.result.frame c.requires.fair.some c.requires.fair.fewer
    c.minute_of-at.ensures.place c.minute_of-at.ensures.day c.minute_of-at.ensures.within c.minute_of-at.ensures.counted).inside
