use Rattle.std.proofs.Common.{◌∙◌, Bor, ap, refl, sym, subst, w64, FitsSigned, rules}
use Rattle.std.specs.List.Sorted.{IsNonDecreasingBy}
use Rattle.std.proofs.lemmas.Int.{to_z-of_z}
use Rattle.edl_frames.specs.Conformed.{first_record}
use Rattle.note_text.specs.Noted.{IsNoteFor}
use Rattle.note_text.specs.declared.notes.Note.{Note}
use Rattle.note_text.specs.Belonging.{HaveSameOwn}
use Rattle.edl_notes.specs.Steps.{notes_at}
use Rattle.edl_notes.proofs.OwnNotes.{all_same}
use Rattle.edl_notes.proofs.RootSteps.{timeline_noted}
use Rattle.edl_notes.proofs.adding.add_notes.Goals as goal

pub noted_tracks-requires-clause-work : goal.noted_tracks-requires-clause-work
noted_tracks-requires-clause-work c =
    let list = c.args.list.now in
    let order = c.as_slice-3.result.now in
    let fits : FitsSigned w64 c.first_record.result = search rules in
    let same : HaveSameOwn c.args.notes.now (notes_at order) =
    subst (λ l. HaveSameOwn l (notes_at order)) c.as_slice.ensures
    (subst (λ l. HaveSameOwn c.as_slice.result.now (notes_at l)) (sym c.as_slice-3.ensures.value) c.in_ok-order.ensures.same) in
    record {
      formed = c.requires.formed;
      first = to_z-of_z w64 c.first_record.result fits ∙ c.first_record.ensures ∙ ap first_record c.as_slice-2.ensures;
      rising = subst (IsNonDecreasingBy (λ (note : Bor Note). note.now.event)) (sym c.as_slice-3.ensures.value) c.in_ok-order.ensures.rising;
      notes = all_same (IsNoteFor list) c.args.notes.now (notes_at order) same c.requires.notes;
    }

pub returns : goal.returns
returns c =
    let order = c.as_slice-3.result.now in
    let same : HaveSameOwn c.args.notes.now (notes_at order) =
    subst (λ l. HaveSameOwn l (notes_at order)) c.as_slice.ensures
    (subst (λ l. HaveSameOwn c.as_slice.result.now (notes_at l)) (sym c.as_slice-3.ensures.value) c.in_ok-order.ensures.same) in
    timeline_noted c.args.timeline _ c.args.list.now c.args.notes.now c.in_ok-children.children (c.in_ok-children.ensures c.args.notes.now same) refl
