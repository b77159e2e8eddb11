use Rattle.std.proofs.Common.{refl}
use Rattle.edl_text.proofs.Reading.{held_more}
use Rattle.edl_text.proofs.reader.EdlReader.hold.Goals as goal

pub returns-clause-read : goal.returns-clause-read
returns-clause-read c = λ rate bytes h.
    held_more rate bytes c.args.piece.now c.args.self.now _ h c.requires.none refl refl c.in_ok-extend_from_slice.ensures.items refl
