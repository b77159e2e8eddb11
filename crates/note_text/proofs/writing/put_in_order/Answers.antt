use Rattle.std.proofs.Common.{◌≤◌, ◌<◌, ℕ, length, slice_index_or, arith}
use Rattle.dev_io.proofs.BufferLemmas.{puts_then, puts_as, puts_none}
use Rattle.note_text.specs.declared.notes.Note.{Note}
use Rattle.note_text.proofs.NotedPieces.{own_more, own_none, own_all, noted_more, later_is, earlier, here_is}
use Rattle.note_text.proofs.writing.put_in_order.Goals.{then-own-test+else-notes-at, else-own-test}
use Rattle.note_text.proofs.writing.put_in_order.Goals as goal

pub own-init : goal.own-init
own-init g c =
    let i = c.events.invariant in
    record {
      most = i.most;
      before = λ j d k. omega (arith, i.before j d k);
      behind = i.behind;
      put = puts_as _ (puts_none _) (own_none c.args.style.rate c.args.style.drop c.events.index c.args.notes.now c.events.at i.most i.before);
    }

pub own-preserved : goal.own-preserved
own-preserved g c =
    let i = c.own.invariant in
    let notes = c.args.notes.now in
    let note = c.index-notes-at-in-own.result in
    let here = here_is notes c.own.at c.events.index c.index-notes-at.result note c.own-test.true c.if-notes-at.true c.index-notes-at-in-own.is in
    record {
      most = omega (arith, c.own-test.true);
      before = earlier notes c.own.at c.events.index c.index-notes-at.result c.own-test.true c.if-notes-at.true i.before;
      behind = λ j d low within. i.behind j d (omega (arith, low)) within;
      put = puts_as _ (puts_then i.put c.put_note.ensures)
          (own_more c.args.style.rate c.args.style.drop c.events.index notes c.own.at note c.own-test.true c.index-notes-at-in-own.is here);
    }

pub events-preserved : goal.events-preserved
events-preserved g c =
    let before = c.events.invariant in
    let i = c.own.invariant in
    let rate = c.args.style.rate in
    let drop = c.args.style.drop in
    let notes = c.args.notes.now in
    let late : (j : ℕ) (d : Note) → c.own.at ≤ j → j < length notes → c.events.index < (slice_index_or notes j d).event =
    elim c.own-test.branch [
      | then-own-test+else-notes-at w ↦
          later_is notes c.own.at c.events.index w.index-notes-at.result c.requires.order w.own-test.true w.if-notes-at.false
          (λ d. i.behind c.own.at d (omega arith) w.own-test.true)
      | else-own-test w ↦ λ j d low within. absurd (omega (arith, low, within, w.own-test.false))
    ] in
    record {
      next = omega (arith, before.next);
      most = i.most;
      before = λ j d k. omega (arith, i.before j d k);
      behind = λ j d low within. omega (arith, late j d low within);
      put = puts_as _ (puts_then before.put (puts_then c.put_event.ensures (puts_as _ i.put (own_all rate drop c.events.index notes c.own.at late))))
          (noted_more rate drop c.args.style.layout c.args.events.now c.events.index c.events.number c.index-events-index.result notes before.next c.events-test.true c.index-events-index.is);
    }
