use Rattle.show_prog.proofs.SpareLemmas.{listing_bare, text_bare}
use Rattle.show_prog.proofs.frame_laws.bare_rows_are_listed.Goals as goal

pub returns : goal.returns
returns c = record { listing = listing_bare; text = text_bare }
