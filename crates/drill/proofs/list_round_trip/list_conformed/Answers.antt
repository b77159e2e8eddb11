use Rattle.std.proofs.Common.{sym}
use Rattle.drill.proofs.KeptLists.{conforms, listed_few, listed_fine, listed_shows}
use Rattle.drill.proofs.list_round_trip.list_conformed.Goals as goal

pub conform_held-requires-clause-formed : goal.conform_held-requires-clause-formed
conform_held-requires-clause-formed c =
    (listed_fine c.args.timeline.now c.args.list.now c.args.media.now c.requires.sound
    c.requires.rows c.requires.carried c.requires.list).formed

pub conform_held-requires-clause-held : goal.conform_held-requires-clause-held
conform_held-requires-clause-held c =
    (listed_fine c.args.timeline.now c.args.list.now c.args.media.now c.requires.sound
    c.requires.rows c.requires.carried c.requires.list).carried

pub conform_held-requires-clause-few : goal.conform_held-requires-clause-few
conform_held-requires-clause-few c =
    listed_few c.args.timeline.now c.args.list.now c.args.media.now c.requires.sound
    c.requires.rows c.requires.carried c.requires.list

pub returns-in-Ok-clause-listed : goal.returns-in-Ok-clause-listed
returns-in-Ok-clause-listed c =
    conforms c.args.timeline.now c.in-Ok.timeline c.args.list.now c.args.media.now c.len.result
    c.requires.carried c.requires.list (sym c.len.ensures) c.in-Ok.ensures

pub returns-in-Ok-clause-kept : goal.returns-in-Ok-clause-kept
returns-in-Ok-clause-kept c =
    listed_shows c.args.timeline.now c.in-Ok.timeline c.args.list.now c.args.media.now
    c.requires.sound c.requires.rows c.requires.carried c.requires.list c.in-Ok.ensures
