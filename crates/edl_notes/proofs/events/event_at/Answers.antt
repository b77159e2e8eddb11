use Rattle.std.proofs.Common.{◌∙◌, ◌-ℤ◌, sym, subst}
use Rattle.edl_list.specs.Laws.{IsTimed}
use Rattle.edl_notes.proofs.WalkSteps.{all_timed, here_start, is_less, no_start, other_start}
use Rattle.edl_notes.proofs.events.event_at.Goals as goal

pub ticks_before-requires-clause-timed : goal.ticks_before-requires-clause-timed
ticks_before-requires-clause-timed c =
    let list = c.args.work.list.now in
    let e = c.in-Some.event.now in
    subst (λ f. IsTimed list.rate (e.rec_in -ℤ f)) (sym c.requires.work.first) (all_timed list c.requires.work.formed c.args.at e (sym c.in-Some.ensures))

pub returns-then-ticks_before-start : goal.returns-then-ticks_before-start
returns-then-ticks_before-start c =
    let list = c.args.work.list.now in
    let e = c.in-Some.event.now in (
      e,
      here_start list c.args.channel c.args.start c.args.at c.args.item.now e c.requires.next (sym c.in-Some.ensures) (is_less 0 _ (sym c.lasts.ensures ∙ c.if-not-lasts.false))
          (sym c.ticks_before.ensures ∙ c.if-ticks_before-start.true),
    )

pub returns-else-ticks_before-start : goal.returns-else-ticks_before-start
returns-else-ticks_before-start c =
    let list = c.args.work.list.now in
    let e = c.in-Some.event.now in
    other_start list c.args.channel c.args.start c.args.at c.args.item.now e c.requires.work.formed.order (all_timed list c.requires.work.formed) c.requires.next (sym c.in-Some.ensures)
    (λ e. c.if-ticks_before-start.false (c.ticks_before.ensures ∙ e))

pub returns-in-None : goal.returns-in-None
returns-in-None c =
    no_start c.args.work.list.now c.args.channel c.args.start c.args.at c.args.item.now c.requires.next (sym c.in-None.ensures)
