use Rattle.std.proofs.Common.{true, refl}
use Rattle.edl_law.specs.Law.{HasNames}
use Rattle.edl_text.proofs.FirstEvents.{more_are, all_are}
use Rattle.otio_tools.proofs.name_checks.check_texts.Goals as goal

pub loop-event-preserved : goal.loop-event-preserved
loop-event-preserved c =
    let e = c.as_slice-event-items.ensures in
    more_are HasNames c.args.list.now.events c.loop-event.event-index c.event-item.result true
    (rw (← e) c.loop-event-test.true) (rw (← e) c.event-item.is) c.loop-event.invariant
    (λ _. c.check_names.ensures, λ _. refl) refl

pub returns : goal.returns
returns c = record {
  title = c.check_text.ensures;
  names = all_are HasNames c.args.list.now.events c.loop-event.event-index
      (rw (← c.as_slice-event-items.ensures) c.loop-event-test.false) c.loop-event.invariant;
}
