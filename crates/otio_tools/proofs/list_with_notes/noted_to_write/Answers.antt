use Rattle.std.proofs.Common.{ℕ, List}
use Rattle.std.specs.declared.option.Option.{Option}
use Rattle.otio_model.specs.declared.timelines.Timeline.{Timeline}
use Rattle.otio_model.specs.declared.objects.Object.{Timeline as ObjectOfTimeline}
use Rattle.otio_tools.specs.Objects.{AnswersObject}
use Rattle.otio_tools.specs.Written.{AnswersNoted}
use Rattle.otio_tools.proofs.PlanLemmas.{of_conformed, of_noted, not_conformed_as}
use Rattle.otio_tools.proofs.list_with_notes.noted_to_write.Goals as goal

pub returns-in-Ok-noted-clause-owed : goal.returns-in-Ok-noted-clause-owed
returns-in-Ok-noted-clause-owed c = λ name.
    let Is = λ (target : Option (List ℕ)) (t : Timeline).
    AnswersObject c.args.older name target (ObjectOfTimeline t) in
    of_conformed name c.args.list c.args.media
    (λ target. AnswersNoted c.args.list c.args.notes (Is target)) c.in-Ok.timeline
    c.object_to_write.result c.in-Ok.ensures.timeline
    (of_noted name c.args.list c.args.notes Is c.in-Ok.timeline c.in-Ok-noted.timeline
    c.object_to_write.result c.in-Ok-noted.ensures (c.object_to_write.ensures.owed name))

pub returns-in-Err-clause-owed : goal.returns-in-Err-clause-owed
returns-in-Err-clause-owed c = λ name.
    not_conformed_as name c.args.list c.args.media
    (λ target. AnswersNoted c.args.list c.args.notes
    (λ t. AnswersObject c.args.older name target (ObjectOfTimeline t))) c.in-Err.fault
    c.not_conformed.result c.in-Err.ensures.fault c.not_conformed.ensures
