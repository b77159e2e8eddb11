use Rattle.std.proofs.Common.{◌≡◌, ◌++◌, ◌∷◌, ◌+◌, [], length, drop, arith, refl, sym, ap, subst, ◌∙◌, append_assoc, append-nil, length-append}
use Rattle.edl_text.specs.Reader.{HasRead}
use Rattle.edl_text.proofs.Reading.{regroup, refused_stays}
use Rattle.edl_text.proofs.reader.EdlReader.take_within.Goals as goal

pub lines-init : goal.lines-init
lines-init c = record { front = []; split = refl; room = omega (arith, c.requires); read = λ rate bytes h. subst (λ l. HasRead rate l c.args.self.now) (sym (append-nil bytes)) h }

pub lines-preserved : goal.lines-preserved
lines-preserved c =
    let i = c.lines.invariant in
    let rest = c.lines.rest.now in
    let line = c.before-in-Some.result.now in
    let after = c.after-rest.result.now in
    let split : rest ≡ line ++ 10 ∷ after =
    c.in-Some.ensures.split ∙ ap (λ l. l ++ 10 ∷ drop (c.in-Some.end + 1) rest) (sym c.before-in-Some.ensures) ∙ ap (λ l. line ++ 10 ∷ l) (sym c.after-rest.ensures) in
    record {
      front = i.front ++ (line ++ 10 ∷ []);
      split = i.split ∙ ap (λ l. i.front ++ l) split ∙ simp append_assoc;
      room = omega (arith, i.room, c.in-Ok.ensures.taken, ap length split ∙ length-append line (10 ∷ after));
      read = λ rate bytes h. subst (λ l. HasRead rate l c.end_line.new.self) (append_assoc bytes i.front (line ++ 10 ∷ [])) (c.in-Ok.ensures.read rate (bytes ++ i.front) (i.read rate bytes h));
    }

pub returns-in-Err-clause-fault : goal.returns-in-Err-clause-fault
returns-in-Err-clause-fault c = λ rate bytes h.
    let i = c.lines.invariant in
    let rest = c.lines.rest.now in
    let line = c.before-in-Some.result.now in
    let after = drop (c.in-Some.end + 1) rest in
    let split : rest ≡ line ++ 10 ∷ after = c.in-Some.ensures.split ∙ ap (λ l. l ++ 10 ∷ after) (sym c.before-in-Some.ensures) in
    refused_stays rate ((bytes ++ i.front) ++ (line ++ 10 ∷ [])) after (bytes ++ c.args.piece.now) c.in-Err.fault (regroup bytes i.front line after rest c.args.piece.now i.split split)
    (c.in-Err.ensures.fault rate (bytes ++ i.front) (i.read rate bytes h))

pub returns-in-Ok-hold-clause-read : goal.returns-in-Ok-hold-clause-read
returns-in-Ok-hold-clause-read c = λ rate bytes h.
    let i = c.lines.invariant in
    subst (λ l. HasRead rate l c.hold.new.self) (append_assoc bytes i.front c.lines.rest.now ∙ ap (λ l. bytes ++ l) (sym i.split)) (c.in-Ok-hold.ensures.read rate (bytes ++ i.front) (i.read rate bytes h))
