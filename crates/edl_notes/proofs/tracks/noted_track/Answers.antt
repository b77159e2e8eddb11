use Rattle.std.proofs.Common.{refl, sym}
use Rattle.edl_notes.proofs.RootSteps.{root_off, root_on}
use Rattle.edl_notes.proofs.tracks.noted_track.Goals as goal

pub returns-in_ok-children-in-Some : goal.returns-in_ok-children-in-Some
returns-in_ok-children-in-Some c = λ past counted notes same.
    root_on c.args.work.list.now notes past c.args.kinds c.args.track _ c.in-Some.channel c.in_ok-children-in-Some.children counted (sym c.in-Some.ensures) (c.in_ok-children-in-Some.ensures notes same) refl

pub returns-in-None : goal.returns-in-None
returns-in-None c = λ past counted notes same. root_off c.args.work.list.now notes past c.args.kinds c.args.track counted (sym c.in-None.ensures)
