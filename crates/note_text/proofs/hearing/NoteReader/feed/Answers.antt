use Rattle.std.proofs.Common.{◌≡◌, ◌++◌, ◌∷◌, ◌+◌, [], drop, refl, sym, ap, subst, ◌∙◌, append_assoc, append-nil}
use Rattle.note_text.specs.Reader.{HasHeard}
use Rattle.note_text.specs.declared.hearing.NoteReader.{NoteReader}
use Rattle.note_text.proofs.Feeding.{heard_more}
use Rattle.note_text.proofs.hearing.NoteReader.feed.Goals as goal

pub lines-init : goal.lines-init
lines-init c = record { front = []; split = refl; read = λ rate bytes h. subst (λ l. HasHeard rate l c.args.self.now) (sym (append-nil bytes)) h }

pub lines-preserved : goal.lines-preserved
lines-preserved c =
    let i = c.lines.invariant in
    let rest = c.lines.rest.now in
    let line = c.before-in-Some.result.now in
    let after = c.after-rest.result.now in
    let split : rest ≡ line ++ 10 ∷ after =
    c.in-Some.ensures.split ∙ ap (λ l. l ++ 10 ∷ drop (c.in-Some.end + 1) rest) (sym c.before-in-Some.ensures) ∙ ap (λ l. line ++ 10 ∷ l) (sym c.after-rest.ensures) in
    record {
      front = i.front ++ (line ++ 10 ∷ []);
      split = i.split ∙ ap (λ l. i.front ++ l) split ∙ simp append_assoc;
      read = λ rate bytes h. subst (λ l. HasHeard rate l c.end_line.new.self) (append_assoc bytes i.front (line ++ 10 ∷ [])) (c.in_ok-end_line.ensures rate (bytes ++ i.front) (i.read rate bytes h));
    }

pub returns : goal.returns
returns c = λ rate bytes h.
    let i = c.lines.invariant in
    let held : NoteReader = record { hearing = c.lines.self.hearing; held = c.extend_from_slice.new.self } in
    subst (λ l. HasHeard rate l held) (append_assoc bytes i.front c.lines.rest.now ∙ ap (λ l. bytes ++ l) (sym i.split))
    (heard_more rate (bytes ++ i.front) c.lines.rest.now c.lines.self held (i.read rate bytes h) c.in_default.ensures refl c.in_ok-extend_from_slice.ensures.items)
