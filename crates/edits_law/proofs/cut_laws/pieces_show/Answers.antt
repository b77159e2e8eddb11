use Rattle.edits_law.proofs.Pieces.{left_looks, right_looks}
use Rattle.edits_law.proofs.cut_laws.pieces_show.Goals as goal

pub returns : goal.returns
returns c = record { left = left_looks; right = right_looks }
