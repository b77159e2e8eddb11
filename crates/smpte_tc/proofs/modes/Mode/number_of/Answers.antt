-- The number of the address.
use Rattle.smpte_tc.proofs.Minutes.{number_there}
use Rattle.smpte_tc.proofs.modes.Mode.number_of.Goals as goal

pub returns : goal.returns
returns c =
    rw (c.seconds_of_day.ensures, c.from.ensures, c.from-2.ensures, c.from-3.ensures, c.from-4.ensures, c.from-5.ensures)
    (number_there c.args.self.now c.args.address.now c.requires.fair.some c.requires.fair.fewer c.requires.inside c.requires.counted)
