use Rattle.edits.specs.Cuts.{back}
use Rattle.writable_law.proofs.MadeChildren.{back_is, made_are}
use Rattle.writable_law.proofs.WritableChildren.{all_items, each_item, fit_writable}
use Rattle.writable_law.proofs.WritableChildren.{ranged_writable}
use Rattle.writable_law.proofs.laws.made_items_are_writable.Goals as goal

pub returns : goal.returns
returns c = record {
  ranged = λ r x y s n h. ranged_writable x s n h r y;
  fitted = λ r x y room s n h w. fit_writable x room s n h w r y;
  behind = λ r l m t h e.
      all_items m (made_are r (back l t) m e (back_is l t (each_item l h)));
}
