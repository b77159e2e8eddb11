use Rattle.std.proofs.Common.{refl}
use Rattle.edl_conform.specs.declared.event_homes.Givers.{Givers}
use Rattle.edl_conform.proofs.GiverSteps.{puts_picture, puts_first, puts_second}
use Rattle.edl_conform.proofs.event_homes.put_on.Goals as goal

pub returns-in_ok-put_track-in-V : goal.returns-in_ok-put_track-in-V
returns-in_ok-put_track-in-V c =
    let old = c.args.givers.now in
    let new : Givers = record old { picture = c.put_track.new.spots } in
    rw c.in-V.is (puts_picture c.args.index c.args.track.now old new refl refl
    c.in_ok-put_track-in-V.ensures)

pub returns-in_ok-put_track-in-A : goal.returns-in_ok-put_track-in-A
returns-in_ok-put_track-in-A c =
    let old = c.args.givers.now in
    let new : Givers = record old { first_sound = c.put_track-in-A.new.spots } in
    rw c.in-A.is (puts_first c.args.index c.args.track.now old new refl refl
    c.in_ok-put_track-in-A.ensures)

pub returns-in_ok-put_track-in-A2 : goal.returns-in_ok-put_track-in-A2
returns-in_ok-put_track-in-A2 c =
    let old = c.args.givers.now in
    let new : Givers = record old { second_sound = c.put_track-in-A2.new.spots } in
    rw c.in-A2.is (puts_second c.args.index c.args.track.now old new refl refl
    c.in_ok-put_track-in-A2.ensures)
