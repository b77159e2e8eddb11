-- What a timeline shows after an accepted edit.
use Rattle.otio_model.specs.declared.timelines.Timeline.{Timeline}
use Rattle.otio_model.specs.declared.edit_types.Edit.{Edit}
use Rattle.coord.specs.Soundness.{IsSound}
use Rattle.edits.specs.Refusals.{IsAfter}
use Rattle.edits_law.specs.Editable.{HasEditItem}
use Rattle.edits_law.proofs.AnyDepth.{all_agree, steady_equal}
use Rattle.edits_law.proofs.Kept.{edit_unreached, edit_others}
use Rattle.edit_plans.specs.Planned.{ShowsThrough}

pub shows_through : (t : Timeline) (e : Edit) (new : Timeline) → IsSound t → HasEditItem e
    → IsAfter t e new → ShowsThrough t e new
shows_through t e new s i a = record {
  agree = λ k u. all_agree t e new k u s i a;
  equal = λ w k u. steady_equal t e new k u s i a w;
  unreached = λ w k u f g. edit_unreached (λ rate. rate) t e new k u a w f g;
  others = λ k u f. edit_others (λ rate. rate) t e new k u a f;
}
