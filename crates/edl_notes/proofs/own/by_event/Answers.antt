use Rattle.std.proofs.Common.{◌∙◌, Bor, arith, rules}
use Rattle.std.proofs.lemmas.Fn.{always_returns_same}
use Rattle.std.proofs.lemmas.List.{take_all}
use Rattle.std.proofs.lemmas.List.Sorted.{IsNonDecreasingBy-from_sort_by_key}
use Rattle.note_text.specs.declared.notes.Note.{Note}
use Rattle.edl_notes.proofs.OwnNotes.{sorted_same}
use Rattle.edl_notes.proofs.own.by_event.Goals as goal

pub returns-clause-rising : goal.returns-clause-rising
returns-clause-rising c = IsNonDecreasingBy-from_sort_by_key (λ (o : Bor Note). o.now.event) _ c.in_ok-sort_by_key.ensures.sorted (λ a r f k. search rules)

pub returns-clause-same : goal.returns-clause-same
returns-clause-same c =
    sorted_same c.args.notes.now c.notes.order.items c.sort_by_key.new.self.items
    (c.notes.invariant ∙ take_all c.notes.note-index c.args.notes.now (omega (arith, c.notes-test.false)))
    (c.in_ok-sort_by_key.ensures.stable (λ (o : Bor Note). o.now.event) (always_returns_same _ _ _ (λ a r f k. search rules)))
