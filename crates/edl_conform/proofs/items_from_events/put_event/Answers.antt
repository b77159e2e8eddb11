use Rattle.std.proofs.Common.{◌≡◌, sym, subst, to_z, of_z, pos, ◌*ℤ◌, arith, rules, FitsSigned}
use Rattle.std.specs.Int.{w64}
use Rattle.std.specs.Option.{option_copied}
use Rattle.std.proofs.lemmas.Int.{ints}
use Rattle.tick_time.specs.Rates.{frame}
use Rattle.tick_time.specs.Times.{IsInRange}
use Rattle.edl_frames.specs.Conformed.{IsItem}
use Rattle.edl_conform.specs.Steps.{AddsSpace}
use Rattle.edl_conform.proofs.ItemSteps.{adds_event}
use Rattle.edl_conform.proofs.LoopSteps.{kept_length}
use Rattle.edl_conform.proofs.items_from_events.put_event.Goals as goal

pub item_of-requires-clause-lasts : goal.item_of-requires-clause-lasts
item_of-requires-clause-lasts c =
    let e = c.args.event.now in
    let a : FitsSigned w64 e.rec_out = search rules in
    let b : FitsSigned w64 e.rec_in = search rules in
    subst (λ n. IsInRange (n *ℤ pos (frame c.args.media.now.rate.num c.args.media.now.rate.den)))
    (sym (kept_length c.args.media.now.rate e.rec_in e.rec_out b a c.requires.event.long))
    c.requires.event.long.range

pub returns : goal.returns
returns c =
    let e = c.args.event.now in
    let rate = c.args.media.now.rate in
    let media = option_copied c.args.media.now.rows in
    let a : FitsSigned w64 e.rec_out = search rules in
    let b : FitsSigned w64 e.rec_in = search rules in
    let cast = kept_length rate e.rec_in e.rec_out b a c.requires.event.long in
    let from : to_z w64 (of_z w64 e.rec_in) ≡ e.rec_in = omega (arith, ints, b) in
    let at_in : FitsSigned w64 c.args.reached.now.at = search rules in
    let at : to_z w64 (of_z w64 c.args.reached.now.at) ≡ c.args.reached.now.at =
    omega (arith, ints, at_in) in
    let old = c.args.items.now.items in
    let spaced = c.put_space.new.items.items in
    adds_event rate media (option_copied c.args.reached.now.before) c.args.reached.now.at e c.in_ok-item.item old spaced
    c.put_lead.new.items.items c.push.new.self.items
    (subst (λ z. AddsSpace rate z e.rec_in old spaced) at
    (subst (λ z. AddsSpace rate (to_z w64 (of_z w64 c.args.reached.now.at)) z old spaced) from
    c.in_ok-put_space.ensures))
    c.in_ok-put_lead.ensures
    (subst (λ n. IsItem rate media e.to n c.in_ok-item.item) cast c.in_ok-item.ensures)
    c.in_ok-push.ensures.items
