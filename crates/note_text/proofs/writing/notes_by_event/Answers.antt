use Rattle.std.proofs.Common.{◌∙◌, ap, arith, rules}
use Rattle.std.proofs.lemmas.Fn.{always_returns_same}
use Rattle.std.proofs.lemmas.List.Sorted.{IsNonDecreasingBy-from_sort_by_key}
use Rattle.note_text.specs.Belonging.{own_notes}
use Rattle.note_text.specs.declared.notes.Note.{Note}
use Rattle.note_text.proofs.SortedNotes.{own_sorted}
use Rattle.note_text.proofs.writing.notes_by_event.Goals as goal

pub returns-clause-own : goal.returns-clause-own
returns-clause-own c = λ index.
    ap (own_notes index) c.of.ensures
    ∙ own_sorted _ _ (c.in_ok-sort_by_key.ensures.stable (λ (n : Note). n.event) (always_returns_same _ _ _ (λ a r f k. search rules))) index
    ∙ ap (own_notes index) c.into_vec-notes.ensures

pub returns-clause-order : goal.returns-clause-order
returns-clause-order c = λ i j d low high.
    rw c.of.ensures
    (IsNonDecreasingBy-from_sort_by_key (λ (n : Note). n.event) _ c.in_ok-sort_by_key.ensures.sorted (λ a r f k. search rules) i j d (omega (arith, low)) (rw c.of.ensures at high))
