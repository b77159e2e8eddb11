use Rattle.std.proofs.Common.{◌∙◌, ap, subst, arith}
use Rattle.std.proofs.lemmas.List.{take_all}
use Rattle.note_text.specs.Belonging.{notes_said}
use Rattle.note_text.specs.StateOwners.{AreOwners}
use Rattle.note_text.proofs.OwnerLemmas.{said_next}
use Rattle.note_text.proofs.reading.notes_for.Goals as goal

pub heard-preserved : goal.heard-preserved
heard-preserved c =
    let list = c.args.list.now in
    said_next list.rate list.events c.args.heard.now c.heard.one-index c.one-item.result c.in_ok-owners.owners.items c.heard.notes.items c.put_notes.new.notes.items
    c.heard-test.true c.one-item.is (subst (λ es. AreOwners es c.in_ok-owners.owners.items) c.as_slice.ensures c.in_ok-owners.ensures)
    (rw c.as_slice-in-heard.ensures.value at c.in_ok-put_notes.ensures) c.heard.invariant

pub returns : goal.returns
returns c =
    c.of.ensures ∙ c.heard.invariant ∙ ap (notes_said c.args.list.now.rate c.args.list.now.events) (take_all c.heard.one-index c.args.heard.now (omega (arith, c.heard-test.false)))
