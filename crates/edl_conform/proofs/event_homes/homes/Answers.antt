use Rattle.std.proofs.Common.{sym, subst, ◌≤◌, ◌+◌, ℕ, length, List, arith}
use Rattle.edl_conform.specs.Givers.{given_behind}
use Rattle.edl_conform.proofs.HomeLemmas.{AreEnough, AreGiven, are_enough, has_next, few_given}
use Rattle.edl_conform.proofs.HomeLemmas.{gives_more, are_homes}
use Rattle.edl_conform.proofs.event_homes.homes.Goals as goal

pub next_place-requires : goal.next_place-requires
next_place-requires c =
    let givers = c.in_ok-givers.givers in
    has_next c.as_slice-events.result.now givers c.events.event-index c.events.given
    c.events.homes.items c.event-item.result c.events-test.true c.event-item.is
    (subst (λ l. AreEnough l givers) (sym c.as_slice-events.ensures)
    (are_enough c.args.timeline.now c.args.list.now givers c.requires.list
    c.in_ok-givers.ensures)) c.events.invariant

pub after_one-given-requires : goal.after_one-given-requires
after_one-given-requires c =
    let few = few_given c.as_slice-events.result.now c.in_ok-givers.givers
    c.events.event-index c.events.given c.events.homes.items c.event-item.result.channel
    c.events.invariant in
    omega (arith, few)

pub events-preserved : goal.events-preserved
events-preserved c =
    let givers = c.in_ok-givers.givers in
    let es = c.as_slice-events.result.now in
    let i = c.events.event-index in
    let hs = c.events.homes.items in
    let e = c.event-item.result in
    subst (λ g. AreGiven es givers (i + 1) g c.push.new.self.items)
    (sym c.after_one-given.ensures)
    (subst (λ (l : List (List ℕ)).
    AreGiven es givers (i + 1) (given_behind e.channel c.events.given) l)
    (sym c.in_ok-push.ensures.items)
    (gives_more es givers i c.events.given hs e c.in_ok-place.place c.events-test.true
    c.event-item.is
    (subst (λ l. AreEnough l givers) (sym c.as_slice-events.ensures)
    (are_enough c.args.timeline.now c.args.list.now givers c.requires.list
    c.in_ok-givers.ensures))
    c.in_ok-place.ensures c.events.invariant))

pub returns : goal.returns
returns c =
    let givers = c.in_ok-givers.givers in
    let e = c.as_slice-events.ensures in
    let i = c.events.event-index in
    are_homes c.args.timeline.now c.args.list.now givers i c.events.given
    c.events.homes.items (subst (λ l. length l ≤ i) e c.events-test.false)
    c.in_ok-givers.ensures
    (are_enough c.args.timeline.now c.args.list.now givers c.requires.list
    c.in_ok-givers.ensures)
    (subst (λ l. AreGiven l givers i c.events.given c.events.homes.items) e c.events.invariant)
