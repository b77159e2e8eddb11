use Rattle.std.proofs.Common.{◌≡◌, ◌⊎◌, ◌++◌, ◌∷◌, ◌<◌, ◌-◌, ◌^◌, [], length, arith, refl, sym, ap, subst, ◌∙◌, append_assoc}
use Rattle.text_lines.specs.Lines.{ended_lines, without_return}
use Rattle.edl_text.specs.declared.faults.EdlFault.TheVariants.{Memory}
use Rattle.edl_text.specs.Lines.{HasFirstFault}
use Rattle.edl_text.proofs.Reading.{line_read, line_refused}
use Rattle.edl_text.proofs.reader.EdlReader.end_line.Goals as goal

pub returns-clause-read : goal.returns-clause-read
returns-clause-read c = λ rate bytes h.
    let k = c.in_ok-hold.ensures.read rate bytes h in
    let few : length k.past < 2 ^ 32 - 1 = omega (arith, k.few, k.taken, c.in_ok-hold.ensures.taken, c.requires.room) in
    let line : c.strip_return.result.now ≡ without_return c.hold.new.self.held.items = c.strip_return.ensures ∙ ap without_return c.as_slice.ensures.value in
    line_read rate (bytes ++ c.args.piece.now) c.strip_return.result.now (bytes ++ (c.args.piece.now ++ 10 ∷ [])) c.hold.new.self _ (sym (append_assoc bytes c.args.piece.now (10 ∷ []))) k line
    (c.in-Ok.ensures rate k.past few k.stands) refl c.clear.ensures.items refl

pub returns-in-Err-clause-fault : goal.returns-in-Err-clause-fault
returns-in-Err-clause-fault c = λ rate bytes h.
    let k = c.in_ok-hold.ensures.read rate bytes h in
    let few : length k.past < 2 ^ 32 - 1 = omega (arith, k.few, k.taken, c.in_ok-hold.ensures.taken, c.requires.room) in
    let line : c.strip_return.result.now ≡ without_return c.hold.new.self.held.items = c.strip_return.ensures ∙ ap without_return c.as_slice.ensures.value in
    subst (λ l. (c.in-Err.fault ≡ Memory) ⊎ HasFirstFault rate [] (ended_lines l) c.in-Err.fault) (append_assoc bytes c.args.piece.now (10 ∷ []))
    (line_refused rate (bytes ++ c.args.piece.now) c.strip_return.result.now c.hold.new.self c.in-Err.fault k line (c.in-Err.ensures rate k.past few k.stands))
