use Rattle.std.proofs.Common.{sym}
use Rattle.std.specs.Option.{option_copied}
use Rattle.edl_conform.proofs.ItemSteps.{adds_track, adds_none}
use Rattle.edl_conform.proofs.timeline_from_list.put_track.Goals as goal

pub returns-then-has_track : goal.returns-then-has_track
returns-then-has_track c =
    adds_track c.args.list.now (option_copied c.args.media) c.args.channel c.in_ok-track.track
    c.args.tracks.now.items c.push.new.self.items (sym c.if-has_track.ensures)
    c.in_ok-track.ensures c.in_ok-push.ensures.items

pub returns : goal.returns
returns c =
    adds_none c.args.list.now (option_copied c.args.media) c.args.channel
    c.args.tracks.now.items (sym c.if-has_track.ensures)
