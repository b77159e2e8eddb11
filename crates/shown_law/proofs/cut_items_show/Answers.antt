use Rattle.shown_law.proofs.MadePieces.{left_shows, right_shows, left_equals, right_equals}
use Rattle.shown_law.proofs.cut_items_show.Goals as goal

pub returns : goal.returns
returns c = record {
  left = left_shows;
  right = right_shows;
  steady_left = left_equals;
  steady_right = right_equals;
}
