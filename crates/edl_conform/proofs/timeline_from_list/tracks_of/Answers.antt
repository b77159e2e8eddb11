use Rattle.std.proofs.Common.{subst}
use Rattle.std.specs.Option.{option_copied}
use Rattle.edl_list.specs.declared.list.Channel.TheVariants.{V, A, A2}
use Rattle.edl_conform.specs.Steps.{AddsTrack}
use Rattle.edl_conform.proofs.ItemSteps.{three_tracks}
use Rattle.edl_conform.proofs.timeline_from_list.tracks_of.Goals as goal

pub returns : goal.returns
returns c =
    let list = c.args.list.now in
    let media = option_copied c.args.media in
    let one = c.put_track.new.tracks.items in
    three_tracks list media V A A2 one c.put_track-2.new.tracks.items
    c.put_track-3.new.tracks.items
    (subst (λ z. AddsTrack list media V z one) c.new-tracks.ensures.items c.in_ok-put_track.ensures)
    c.in_ok-put_track-2.ensures c.in_ok-put_track-3.ensures
