use Rattle.std.proofs.Common.{sym, subst, None}
use Rattle.edl_frames.specs.Shown.{on_channel}
use Rattle.edl_frames.specs.Conformed.{first_record}
use Rattle.edl_law.specs.Fits.{AreAhead}
use Rattle.edl_law.proofs.EventRanges.{all_ahead, first_timed}
use Rattle.edl_conform.proofs.LoopSteps.{kept_as}
use Rattle.edl_conform.proofs.item_counts.track_count.Goals as goal

pub channel_count-requires : goal.channel_count-requires
channel_count-requires c =
    let list = c.args.list.now in
    let first = kept_as list.rate _ _ c.first_record-first.ensures (first_timed list c.requires) in
    subst (λ z. AreAhead list.rate None z (on_channel c.args.channel c.as_slice-events.result.now))
    (sym first)
    (subst (λ z. AreAhead list.rate None (first_record list.events) (on_channel c.args.channel z))
    (sym c.as_slice-events.ensures) ((all_ahead list c.requires).each c.args.channel))
