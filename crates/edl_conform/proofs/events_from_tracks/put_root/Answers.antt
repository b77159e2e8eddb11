use Rattle.std.proofs.Common.{sym, subst}
use Rattle.otio_model.specs.declared.compositions.ItemOf.TheVariants.{Track}
use Rattle.edl_conform.specs.Stated.{stated_job}
use Rattle.edl_conform.specs.Walk.{AddsRoot}
use Rattle.edl_conform.proofs.RootSteps.{adds_root}
use Rattle.edl_conform.proofs.events_from_tracks.put_root.Goals as goal

pub returns-in-Ok-clause-added : goal.returns-in-Ok-clause-added
returns-in-Ok-clause-added c = λ past is.
    let j = stated_job c.args.job.now in let k = c.args.at.index in
    let old = c.args.events.now.items in let new = c.put_track.new.events.items in
    subst (λ x. AddsRoot j k past x c.after.result old new) (sym c.in-Track.is)
    (subst (λ n. AddsRoot j k past (Track c.in-Track.track) n old new) (sym c.after.ensures)
    (adds_root j k past c.in-Track.track c.args.at.taken c.in-Some.channel old new is
    (sym c.in-Some.ensures) c.in-Ok.ensures.added))
