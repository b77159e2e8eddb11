use Rattle.std.proofs.Common.{FitsSigned, w64, rules, ap, ◌∙◌, ◌≡◌, ◌+◌, pos}
use Rattle.std.specs.Prelude.{IfOk, OnOk}
use Rattle.std.proofs.lemmas.Int.{to_z-of_z}
use Rattle.drill.specs.Acts.{act_of}
use Rattle.drill.specs.Draws.{draw, next}
use Rattle.drill.proofs.ActSteps.{drawn_act, drawn_state}
use Rattle.drill.proofs.generator.Random.act.Goals as goal

pub returns-clause-act : goal.returns-clause-act
returns-clause-act c =
    let fits : FitsSigned w64 c.frame-at.result = search rules in
    let is : IfOk c.act_of.result (λ a.
    a ≡ (act_of c.draw-kind.result c.frame-at.result c.frame-at.new.self.state).act) =
    simp to_z-of_z at c.act_of.ensures.act in
    drawn_act c.args.frames c.args.self.now.state c.draw-kind.result c.frame-at.new.self.state
    c.frame-at.result c.act_of.result c.draw-kind.ensures.number
    (c.frame-at.ensures.frame
    ∙ ap (λ x. pos (draw (c.args.frames + 10) x)) c.draw-kind.ensures.state)
    (c.frame-at.ensures.state ∙ ap next c.draw-kind.ensures.state) is

pub returns-clause-state : goal.returns-clause-state
returns-clause-state c =
    let fits : FitsSigned w64 c.frame-at.result = search rules in
    let is : OnOk c.act_of.result (c.act_of.new.self.state
    ≡ (act_of c.draw-kind.result c.frame-at.result c.frame-at.new.self.state).state) =
    simp to_z-of_z at c.act_of.ensures.state in
    drawn_state c.args.frames c.args.self.now.state c.draw-kind.result
    c.frame-at.new.self.state c.act_of.new.self.state c.frame-at.result c.act_of.result
    c.draw-kind.ensures.number
    (c.frame-at.ensures.frame
    ∙ ap (λ x. pos (draw (c.args.frames + 10) x)) c.draw-kind.ensures.state)
    (c.frame-at.ensures.state ∙ ap next c.draw-kind.ensures.state) is
