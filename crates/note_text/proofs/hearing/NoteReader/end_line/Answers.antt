use Rattle.std.proofs.Common.{◌≡◌, ◌++◌, ◌∷◌, [], refl, ap, subst, ◌∙◌, append_assoc}
use Rattle.text_lines.specs.Lines.{without_return}
use Rattle.note_text.specs.Reader.{HasHeard}
use Rattle.note_text.specs.declared.hearing.NoteReader.{NoteReader}
use Rattle.note_text.proofs.Feeding.{heard_more, line_ended}
use Rattle.note_text.proofs.hearing.NoteReader.end_line.Goals as goal

pub returns : goal.returns
returns c = λ rate bytes h.
    let piece = c.args.piece.now in
    let held : NoteReader = record { hearing = c.args.self.now.hearing; held = c.extend_from_slice.new.self } in
    let ended : NoteReader = record { hearing = c.take_line.new.self; held = c.clear.new.self } in
    let more : HasHeard rate (bytes ++ piece) held = heard_more rate bytes piece c.args.self.now held h c.requires refl c.in_ok-extend_from_slice.ensures.items in
    let line : c.strip_return.result.now ≡ without_return held.held.items = c.strip_return.ensures ∙ ap without_return c.as_slice.ensures.value in
    subst (λ l. HasHeard rate l ended) (append_assoc bytes piece (10 ∷ []))
    (line_ended rate (bytes ++ piece) c.strip_return.result.now held ended more line c.in_ok-take_line.ensures c.clear.ensures.items)
