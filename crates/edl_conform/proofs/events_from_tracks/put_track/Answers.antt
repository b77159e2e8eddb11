use Rattle.std.proofs.Common.{refl, sym, ◌∙◌}
use Rattle.otio_model.specs.declared.compositions.ItemOf.TheVariants.{Track}
use Rattle.coord.proofs.JudgingLemmas.{children_sound}
use Rattle.edl_conform.specs.Stated.{stated_job}
use Rattle.edl_conform.proofs.TrackLimits.{track_fits}
use Rattle.edl_conform.proofs.TrackSteps.{walked_adds, stop_said}
use Rattle.edl_conform.proofs.events_from_tracks.put_track.Goals as goal

pub put_children-requires-clause-sound : goal.put_children-requires-clause-sound
put_children-requires-clause-sound c =
    children_sound (Track c.args.track.now) c.args.track.now.children refl c.requires.sound

pub put_children-requires-clause-fits : goal.put_children-requires-clause-fits
put_children-requires-clause-fits c = track_fits c.args.track.now c.requires.sound

pub returns-in-Ok-None-clause-added : goal.returns-in-Ok-None-clause-added
returns-in-Ok-None-clause-added c =
    walked_adds (stated_job c.args.job.now) c.args.at.channel c.args.at.index c.args.track.now
    c.args.events.now.items c.put_children.new.events.items c.if-not-track.false
    (sym c.is_plain.ensures ∙ c.if-not-is_plain.false)
    (rw c.in-Ok-None.field-0-is at c.in-Ok-None.ensures)

pub returns-in-Ok-Some-clause-refused : goal.returns-in-Ok-Some-clause-refused
returns-in-Ok-Some-clause-refused c =
    stop_said (stated_job c.args.job.now) c.args.at.channel c.args.at.index c.args.track.now
    c.args.events.now.items c.put_children.new.events.items c.in-Ok-Some.stop
    c.at_child.result c.if-not-track.false (sym c.is_plain.ensures ∙ c.if-not-is_plain.false)
    (rw c.in-Ok-Some.field-0-is at c.in-Ok-Some.ensures) c.at_child.ensures
