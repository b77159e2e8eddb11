use Rattle.std.proofs.Common.{refl}
use Rattle.otio_model.specs.declared.compositions.ItemOf.TheVariants.{Track}
use Rattle.coord.proofs.JudgingLemmas.{children_sound}
use Rattle.edl_conform.proofs.TrackLimits.{track_fits}
use Rattle.edl_conform.proofs.event_homes.put_track.Goals as goal

pub put_spots-requires-clause-sound : goal.put_spots-requires-clause-sound
put_spots-requires-clause-sound c =
    children_sound (Track c.args.track.now) c.args.track.now.children refl c.requires.sound

pub put_spots-requires-clause-fits : goal.put_spots-requires-clause-fits
put_spots-requires-clause-fits c = track_fits c.args.track.now c.requires.sound
