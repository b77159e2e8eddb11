-- No overlap in the pieces so far that holds the instant.
use Rattle.std.proofs.Common.{pos, take}
use Rattle.otio_model.specs.Pieces.{all_items}
use Rattle.otio_model.specs.Seeks.{NoneOver}
use Rattle.otio_model.proofs.transitions.over_in_pieces.Given as goal

abbrev pub invariant-pieces : goal.invariant-pieces
invariant-pieces l = record { none : NoneOver (all_items (take l.number l.pieces)) (pos l.at) }

abbrev pub ghosts-first_within : goal.ghosts-first_within
ghosts-first_within a = record { name = a.blank.name; parts = a.blank.parts }
