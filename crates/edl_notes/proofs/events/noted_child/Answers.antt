use Rattle.std.proofs.Common.{sym, subst}
use Rattle.note_text.specs.Noted.{IsNotedItem}
use Rattle.edl_notes.specs.Steps.{said_by}
use Rattle.edl_notes.specs.Walks.{IsNotedBy}
use Rattle.edl_notes.proofs.OwnNotes.{own_counts, own_said}
use Rattle.edl_notes.proofs.events.noted_child.Goals as goal

pub noted_item-requires-clause-counts : goal.noted_item-requires-clause-counts
noted_item-requires-clause-counts c =
    own_counts c.args.work.list.now c.args.work.notes.now c.own-notes.result.now c.in-Some.index c.event_in-event.result.now c.event_in-event.ensures c.requires.work.notes c.own-notes.ensures

pub returns-in_ok-made-in-Some : goal.returns-in_ok-made-in-Some
returns-in_ok-made-in-Some c = λ notes same.
    let rate = c.args.work.list.now.rate in
    let e = c.event_in-event.result.now in
    let own = c.own-notes.result.now in
    let made = c.in_ok-made-in-Some.made in
    subst (λ o. IsNotedBy c.args.work.list.now notes o c.args.item.now made) (sym c.in-Some.is) (
      e,
      c.event_in-event.ensures,
      subst (λ s. IsNotedItem rate e s c.args.item.now made) (own_said notes c.args.work.notes.now own c.in-Some.index same c.own-notes.ensures)
          (subst (λ x. IsNotedItem rate e (said_by own) x made) c.in_ok-copy.ensures c.in_ok-made-in-Some.ensures),
    )
