use Rattle.std.proofs.Common.{sym}
use Rattle.edit_plans.proofs.TrackLemmas.{children_are, list_sound}
use Rattle.edit_plans.proofs.tracks.track_of.Goals as goal

pub returns-clause-faultless : goal.returns-clause-faultless
returns-clause-faultless c =
    list_sound c.args.place.now c.args.timeline.now c.in-Some.children.now
    (children_are c.args.place.now c.args.timeline.now c.in-Some.children.now c.requires.there
    (sym c.in-Some.ensures)) c.requires.sound c.requires.few
