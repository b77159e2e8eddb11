use Rattle.std.proofs.Common.{◌∙◌, ◌≤◌, ap, sym, subst, slice_get, Some, length, arith}
use Rattle.std.proofs.lemmas.Option.{slice_get-get_or}
use Rattle.note_text.specs.Found.{AreNotesOf}
use Rattle.edl_notes.proofs.FoundSteps.{found_all, found_more}
use Rattle.edl_notes.proofs.finding.notes_of.Goals as goal

pub events-preserved : goal.events-preserved
events-preserved c =
    let list = c.args.list.now in
    let es = c.as_slice-events.result.now in
    let i = c.events.index in
    let e = c.index-events-index.result in
    let has = c.requires.list in
    let homes = c.in_ok-places.places.items in
    let each = (c.in_ok-places.ensures has.media has.drop has.wide has.carried has.is).each in
    let long = ap length c.as_slice-events.ensures in
    found_more c.args.timeline.now list.rate list.events c.in_ok-places.places.items i e c.index.result.now c.events.notes.items c.put_notes.new.notes.items
    (ap (λ l. slice_get l i) (sym c.as_slice-events.ensures) ∙ slice_get-get_or es i e c.events-test.true ∙ ap (λ x. Some x) (sym c.index-events-index.is))
    (slice_get-get_or homes i c.index.result.now (omega (arith, each, long, c.events-test.true)) ∙ ap (λ x. Some x) (sym c.index.ensures)) c.in_ok-put_notes.ensures c.events.invariant

pub returns : goal.returns
returns c =
    let list = c.args.list.now in
    subst (AreNotesOf c.args.timeline.now list) (sym c.of.ensures)
    (found_all c.args.timeline.now list c.in_ok-places.places.items c.events.index c.events.notes.items (subst (λ l. length l ≤ c.events.index) c.as_slice-events.ensures c.events-test.false) c.in_ok-places.ensures c.events.invariant)
