use Rattle.std.proofs.Common.{inl}
use Rattle.otio_model.specs.declared.objects.Object.{Object}
use Rattle.otio_model.specs.declared.timelines.Timeline.{Timeline}
use Rattle.source_files.specs.Formats.{IsObject, IsTimeline, IsCalmJson, RefusesObject, RefusesTimeline}
use Rattle.source_files.proofs.HandedLemmas.{given_further, given_narrower}
use Rattle.source_files.proofs.objects.read_timeline.Goals as goal

pub returns-in-Ok-clause-given : goal.returns-in-Ok-clause-given
returns-in-Ok-clause-given g c =
    given_further IsObject RefusesObject IsCalmJson IsTimeline RefusesTimeline _ _ c.in-Ok.object c.timeline_in.result
    c.timeline_in.ensures.judged
    c.in-Ok.ensures.given

pub returns-in-Err-clause-given : goal.returns-in-Err-clause-given
returns-in-Err-clause-given g c =
    given_narrower Object Timeline IsObject RefusesObject IsCalmJson IsTimeline RefusesTimeline _ _ c.in-Err.fault
    (λ bytes why r. inl r) c.in-Err.ensures.given
