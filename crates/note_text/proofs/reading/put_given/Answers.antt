use Rattle.std.proofs.Common.{◌∙◌, ap}
use Rattle.note_text.proofs.OwnerLemmas.{given_more_at, given_same_at}
use Rattle.note_text.proofs.reading.put_given.Goals.{then-does_give+in_ok-copy+in_ok-push, else-does_give}
use Rattle.note_text.proofs.reading.put_given.Goals as goal

pub owners-preserved : goal.owners-preserved
owners-preserved c =
    let rate = c.args.list.now.rate in
    let events = c.args.list.now.events in
    elim c.if-does_give.branch [
      | then-does_give+in_ok-copy+in_ok-push w ↦
          given_more_at rate events c.args.said.now w.in_ok-copy.copy c.args.owners.now c.owners.owner-index _ c.args.notes.now.items c.owners.notes.items c.if-does_give.notes.items
          c.owners-test.true w.if-does_give.ensures w.in_ok-copy.ensures (ap (λ v. v.items) w.notes-is ∙ w.in_ok-push.ensures.items) c.owners.invariant
      | else-does_give w ↦
          given_same_at rate events c.args.said.now c.args.owners.now c.owners.owner-index _ c.args.notes.now.items c.owners.notes.items c.if-does_give.notes.items
          c.owners-test.true w.if-does_give.ensures (ap (λ v. v.items) w.notes-is) c.owners.invariant
    ]
