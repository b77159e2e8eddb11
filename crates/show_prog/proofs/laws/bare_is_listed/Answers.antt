use Rattle.show_prog.proofs.SpareListings.{listed_bare}
use Rattle.show_prog.proofs.laws.bare_is_listed.Goals as goal

pub returns : goal.returns
returns c = listed_bare
