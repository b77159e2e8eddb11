use Rattle.std.proofs.Common.{◌≡◌, ◌++◌, ◌+◌, ◌-◌, ◌≤◌, length, take, arith, inr, sym, ap, subst, ◌∙◌, length-append}
use Rattle.limits.specs.Limits.{most_bytes}
use Rattle.edl_text.specs.Reader.{HasRead}
use Rattle.edl_text.proofs.OneFault.{none_early}
use Rattle.edl_text.proofs.Reading.{some_taken, refused_early, too_large, all_taken}
use Rattle.edl_text.proofs.reader.EdlReader.take.Goals as goal

pub returns-in-Err-clause-fault : goal.returns-in-Err-clause-fault
returns-in-Err-clause-fault c = λ rate bytes h.
    let room = most_bytes - c.args.self.now.taken in
    let within : length bytes + room ≡ most_bytes = omega (arith, h.taken, c.args.self.now.within) in
    let front : take most_bytes (bytes ++ c.args.piece.now) ≡ bytes ++ c.first.result.now = some_taken most_bytes bytes c.args.piece.now room within ∙ ap (λ l. bytes ++ l) (sym c.first.ensures) in
    refused_early rate bytes c.first.result.now (bytes ++ c.args.piece.now) c.in-Err.fault front (c.in-Err.ensures.fault rate bytes h)

pub returns-then-piece-room-clause-fault : goal.returns-then-piece-room-clause-fault
returns-then-piece-room-clause-fault c = λ rate bytes h.
    let room = most_bytes - c.args.self.now.taken in
    let within : length bytes + room ≡ most_bytes = omega (arith, h.taken, c.args.self.now.within) in
    let front : take most_bytes (bytes ++ c.args.piece.now) ≡ bytes ++ c.first.result.now = some_taken most_bytes bytes c.args.piece.now room within ∙ ap (λ l. bytes ++ l) (sym c.first.ensures) in
    inr (too_large rate bytes c.first.result.now (bytes ++ c.args.piece.now) c.take_within.new.self front (omega (arith, within, length-append bytes c.args.piece.now)) (c.in-Ok.ensures.read rate bytes h))

pub returns-clause-read : goal.returns-clause-read
returns-clause-read c = λ rate bytes h.
    let room = most_bytes - c.args.self.now.taken in
    let whole = all_taken room c.args.piece.now (omega arith) in
    subst (λ l. HasRead rate l c.take_within.new.self) (ap (λ l. bytes ++ l) (c.first.ensures ∙ whole)) (c.in-Ok.ensures.read rate bytes h)

pub returns-clause-live : goal.returns-clause-live
returns-clause-live c = λ rate bytes h.
    let room = most_bytes - c.args.self.now.taken in
    let whole = all_taken room c.args.piece.now (omega arith) in
    let now = subst (λ l. HasRead rate l c.take_within.new.self) (ap (λ l. bytes ++ l) (c.first.ensures ∙ whole)) (c.in-Ok.ensures.read rate bytes h) in
    let small : length (bytes ++ c.args.piece.now) ≤ most_bytes = omega (arith, now.taken, c.take_within.new.self.within) in
    (small, λ fault early. none_early rate (bytes ++ c.args.piece.now) c.take_within.new.self fault now small early)
