use Rattle.std.proofs.Common.{sym, subst}
use Rattle.edl_conform.specs.Givers.{PutsRoot}
use Rattle.edl_conform.proofs.GiverRoots.{puts_track, puts_no_track, puts_other}
use Rattle.edl_conform.proofs.event_homes.put_root.Goals as goal

pub returns-in_ok-put_on-in-Some : goal.returns-in_ok-put_on-in-Some
returns-in_ok-put_on-in-Some c = λ past is.
    let old = c.args.givers.now in let new = c.put_on.new.givers in
    subst (λ x. PutsRoot c.args.index past x c.after.result old new) (sym c.in-Track.is)
    (puts_track c.args.index past c.in-Track.track c.args.taken c.after.result
    c.in-Some.channel old new is c.in-Some.ensures c.after.ensures
    c.in_ok-put_on-in-Some.ensures)

pub returns-in-None : goal.returns-in-None
returns-in-None c = λ past is.
    let old = c.args.givers.now in
    subst (λ x. PutsRoot c.args.index past x c.args.taken old old) (sym c.in-Track.is)
    (puts_no_track c.args.index past c.in-Track.track c.args.taken old is c.in-None.ensures)

pub returns-in_default : goal.returns-in_default
returns-in_default c = λ past is.
    puts_other c.args.index past c.args.item.now c.args.taken c.args.givers.now is
    c.in_default.not-Track
