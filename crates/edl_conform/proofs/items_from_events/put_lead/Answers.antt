use Rattle.std.proofs.Common.{◌≡◌, ap, subst, to_z, of_z, rules, arith, FitsSigned, codes}
use Rattle.std.specs.Int.{w64}
use Rattle.std.specs.Option.{option_copied}
use Rattle.std.proofs.lemmas.Int.{ints}
use Rattle.edl_frames.specs.Conformed.{IsTransition, pair_of, pair_as, wipe_type}
use Rattle.edl_conform.specs.Steps.{AddsOutgoing}
use Rattle.edl_conform.proofs.ItemSteps.{adds_no_lead, adds_pair}
use Rattle.edl_conform.proofs.items_from_events.put_lead.Goals as goal

pub returns-in-Cut : goal.returns-in-Cut
returns-in-Cut c =
    let e = c.args.event.now in
    adds_no_lead c.args.media.now.rate (option_copied c.args.media.now.rows)
    (option_copied c.args.before) e.rec_in (pair_of e.cross) c.args.items.now.items
    (ap pair_of c.in-Cut.is)

pub returns-in_ok-push-in-Dissolve : goal.returns-in_ok-push-in-Dissolve
returns-in_ok-push-in-Dissolve c =
    let e = c.args.event.now in
    let rate = c.args.media.now.rate in
    let media = option_copied c.args.media.now.rows in
    let before = option_copied c.args.before in
    let old = c.args.items.now.items in
    let mid = c.put_outgoing.new.items.items in
    let frames = c.in-Dissolve.frames in
    let fits : FitsSigned w64 e.rec_in = search rules in
    let at : to_z w64 (of_z w64 e.rec_in) ≡ e.rec_in = omega (arith, ints, fits) in
    adds_pair rate media before e.rec_in (pair_of e.cross)
    (pair_as (codes "SMPTE_Dissolve") frames c.in-Dissolve.from) c.transition_of.result old mid
    c.push.new.self.items (ap pair_of c.in-Dissolve.is)
    (subst (λ z. AddsOutgoing rate media before z c.in-Dissolve.from old mid) at
    (subst (λ s. AddsOutgoing rate media before (to_z w64 (of_z w64 e.rec_in)) s old mid)
    c.get.ensures c.in_ok-put_outgoing-in-Dissolve.ensures))
    (subst (λ k. IsTransition rate k frames c.transition_of.result)
    c.in_ok-kind-in-Dissolve.ensures c.transition_of.ensures)
    c.in_ok-push-in-Dissolve.ensures.items

pub returns-in_ok-push-in-Wipe : goal.returns-in_ok-push-in-Wipe
returns-in_ok-push-in-Wipe c =
    let e = c.args.event.now in
    let rate = c.args.media.now.rate in
    let media = option_copied c.args.media.now.rows in
    let before = option_copied c.args.before in
    let old = c.args.items.now.items in
    let mid = c.put_outgoing-in-Wipe.new.items.items in
    let frames = c.in-Wipe.frames in
    let fits : FitsSigned w64 e.rec_in = search rules in
    let at : to_z w64 (of_z w64 e.rec_in) ≡ e.rec_in = omega (arith, ints, fits) in
    adds_pair rate media before e.rec_in (pair_of e.cross)
    (pair_as (wipe_type c.in-Wipe.code) frames c.in-Wipe.from) c.transition_of-in-Wipe.result
    old mid c.push-in-Wipe.new.self.items (ap pair_of c.in-Wipe.is)
    (subst (λ z. AddsOutgoing rate media before z c.in-Wipe.from old mid) at
    (subst (λ s. AddsOutgoing rate media before (to_z w64 (of_z w64 e.rec_in)) s old mid)
    c.get-in-Wipe.ensures c.in_ok-put_outgoing-in-Wipe.ensures))
    (subst (λ k. IsTransition rate k frames c.transition_of-in-Wipe.result)
    c.in_ok-kind-in-Wipe.ensures c.transition_of-in-Wipe.ensures)
    c.in_ok-push-in-Wipe.ensures.items
