use Rattle.std.proofs.Common.{refl, sym, ◌∙◌, ap, inr, not}
use Rattle.edl_text.specs.Views.{speed_said}
use Rattle.edl_text.proofs.SpeedLines.{speed_wrong, speed_unread, speed_reverse, took_speed}
use Rattle.edl_text.proofs.list_so_far.Said.take_speed.Goals as goal

pub returns-in-None : goal.returns-in-None
returns-in-None c = λ rate past h.
    inr (speed_wrong rate past (speed_said c.args.speed) c.args.self.now c.in-Some.pending h c.in-Some.ensures.value (sym c.with_speed.ensures ∙ c.in-None.is))

pub returns-then-not-is_label : goal.returns-then-not-is_label
returns-then-not-is_label c = λ rate past h.
    inr (speed_unread rate past (speed_said c.args.speed) c.args.self.now c.in-Some.pending c.in-Some-with_speed.pending h c.in-Some.ensures.value (sym c.with_speed.ensures ∙ c.in-Some-with_speed.is)
    (ap (λ b. not b) (sym c.is_label.ensures ∙ c.if-not-is_label.true)))

pub returns-then-speed : goal.returns-then-speed
returns-then-speed c = λ rate past h.
    inr (speed_reverse rate past (speed_said c.args.speed) c.args.self.now c.in-Some.pending c.in-Some-with_speed.pending h c.in-Some.ensures.value (sym c.with_speed.ensures ∙ c.in-Some-with_speed.is)
    (ap (λ b. not b) (sym c.is_label.ensures ∙ c.if-not-is_label.false)) c.if-speed.true)

pub returns : goal.returns
returns c = λ rate past h.
    took_speed rate past (speed_said c.args.speed) c.args.self.now _ c.in-Some.pending c.in-Some-with_speed.pending h c.in-Some.ensures.value (sym c.with_speed.ensures ∙ c.in-Some-with_speed.is)
    (ap (λ b. not b) (sym c.is_label.ensures ∙ c.if-not-is_label.false)) c.if-speed.false
    (record { counted = refl; line = refl; title = refl; drop = refl; first = refl; events = refl; pending = refl })
