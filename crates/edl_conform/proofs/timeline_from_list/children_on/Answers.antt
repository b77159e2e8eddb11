use Rattle.std.proofs.Common.{sym, subst, ap, ◌∙◌, to_z, of_z, None}
use Rattle.std.specs.Int.{w64}
use Rattle.std.specs.Option.{option_copied}
use Rattle.otio_model.specs.Trees.{items_of, listed}
use Rattle.otio_model.proofs.Views.{items-listed}
use Rattle.edl_frames.specs.Shown.{on_channel}
use Rattle.edl_frames.specs.Conformed.{AreItems, first_record}
use Rattle.edl_law.specs.Fits.{AreAhead}
use Rattle.edl_law.proofs.EventRanges.{all_ahead, first_timed}
use Rattle.edl_conform.proofs.LoopSteps.{kept_as}
use Rattle.edl_conform.proofs.timeline_from_list.children_on.Goals as goal

pub items_on-requires : goal.items_on-requires
items_on-requires c =
    let list = c.args.list.now in
    let first = kept_as list.rate _ _ c.first_record-first.ensures (first_timed list c.requires) in
    subst (λ z. AreAhead list.rate None z (on_channel c.args.channel c.as_slice.result.now))
    (sym first)
    (subst (λ z. AreAhead list.rate None (first_record list.events) (on_channel c.args.channel z)) (sym c.as_slice.ensures)
    ((all_ahead list c.requires).each c.args.channel))

pub returns : goal.returns
returns c =
    let list = c.args.list.now in
    let rate = list.rate in
    let media = option_copied c.args.media in
    let channel = c.args.channel in
    let events = on_channel channel list.events in
    let cast = to_z w64 (of_z w64 c.first_record-first.result) in
    let first = kept_as rate _ _ c.first_record-first.ensures (first_timed list c.requires) in
    let have = ap items_of (c.in_ok-children.ensures ∙ ap listed c.of.ensures)
    ∙ items-listed c.in_ok-items.items.items in
    subst (λ z. AreItems rate media None z events (items_of c.in_ok-children.children)) first
    (subst (AreItems rate media None cast events) (sym have)
    (subst (λ z. AreItems rate media None cast (on_channel channel z) c.in_ok-items.items.items)
    c.as_slice.ensures c.in_ok-items.ensures))
