use Rattle.std.proofs.Common.{inr}
use Rattle.coord.specs.Sights.{exact}
use Rattle.shown_law.proofs.EditedLists.{lists_show, lists_agree}
use Rattle.shown_law.proofs.edited_lists_show.Goals as goal

pub returns : goal.returns
returns c = record {
  agrees = lists_agree;
  steady = λ t new e w kind s i a k. lists_show (exact kind) t new e w s i a (inr k);
  viewed = lists_show;
}
