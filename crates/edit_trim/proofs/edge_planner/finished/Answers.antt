use Rattle.std.proofs.Common.{sym, subst, IfErr, IfOk}
use Rattle.otio_model.specs.declared.edit_types.Edit.{Edit}
use Rattle.edits.specs.Refusals.{IsRefused}
use Rattle.edit_plans.specs.Planned.{IsPlan}
use Rattle.edit_trim.specs.Plans.{IsPlanned}
use Rattle.edit_trim.proofs.edge_planner.finished.Goals as goal

pub finish-requires-clause-edit : goal.finish-requires-clause-edit
finish-requires-clause-edit c = (
  c.requires.edit.0,
  subst (λ w. IsPlanned c.args.timeline.now
      c.requires.edit.0 c.args.place w) c.in-Others.is c.requires.edit.1,
)

pub returns-in-Others-clause-plan : goal.returns-in-Others-clause-plan
returns-in-Others-clause-plan c = subst (λ w. IfOk c.finish.result (λ patch. (e : Edit)
    → IsPlanned c.args.timeline.now e c.args.place w → IsPlan c.args.timeline.now e patch))
    (sym c.in-Others.is) c.finish.ensures.plan

pub returns-in-Others-clause-fault : goal.returns-in-Others-clause-fault
returns-in-Others-clause-fault c = subst (λ w. IfErr c.finish.result (λ fault. (e : Edit)
    → IsPlanned c.args.timeline.now e c.args.place w → IsRefused c.args.timeline.now e fault))
    (sym c.in-Others.is) c.finish.ensures.fault

pub finish_ranges-requires-clause-edit : goal.finish_ranges-requires-clause-edit
finish_ranges-requires-clause-edit c = (
  c.requires.edit.0,
  subst (λ w. IsPlanned c.args.timeline.now
      c.requires.edit.0 c.args.place w) c.in-Ranges.is c.requires.edit.1,
)

pub returns-in-Ranges-clause-plan : goal.returns-in-Ranges-clause-plan
returns-in-Ranges-clause-plan c = subst (λ w. IfOk c.finish_ranges.result (λ patch. (e : Edit)
    → IsPlanned c.args.timeline.now e c.args.place w → IsPlan c.args.timeline.now e patch))
    (sym c.in-Ranges.is) c.finish_ranges.ensures.plan

pub returns-in-Ranges-clause-fault : goal.returns-in-Ranges-clause-fault
returns-in-Ranges-clause-fault c = subst (λ w. IfErr c.finish_ranges.result (λ fault. (e : Edit)
    → IsPlanned c.args.timeline.now e c.args.place w → IsRefused c.args.timeline.now e fault))
    (sym c.in-Ranges.is) c.finish_ranges.ensures.fault
