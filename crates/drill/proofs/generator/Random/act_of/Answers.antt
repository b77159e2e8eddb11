use Rattle.std.proofs.Common.{FitsSigned, w64, rules, ap, ◌∙◌, ◌≡◌}
use Rattle.std.proofs.lemmas.Int.{to_z-of_z}
use Rattle.drill.specs.Acts.{Drawn, moving}
use Rattle.drill.proofs.ActSteps.{moved}
use Rattle.drill.proofs.generator.Random.act_of.Goals as goal

pub returns-clause-act : goal.returns-clause-act
returns-clause-act c =
    let fits : FitsSigned w64 c.args.at = search rules in
    let is : c.moving.result ≡ (moving c.args.kind c.args.at c.args.self.now.state).act =
    simp to_z-of_z at c.moving.ensures.act in
    is ∙ ap (λ (d : Drawn). d.act) (moved c.args.kind c.args.at c.args.self.now.state
    c.if-kind-eq0.false c.if-kind-eq1.false c.if-kind-eq2.false c.if-kind-eq3.false
    c.if-kind-eq4.false)

pub returns-clause-state : goal.returns-clause-state
returns-clause-state c =
    let fits : FitsSigned w64 c.args.at = search rules in
    let is : c.moving.new.self.state
    ≡ (moving c.args.kind c.args.at c.args.self.now.state).state =
    simp to_z-of_z at c.moving.ensures.state in
    is ∙ ap (λ (d : Drawn). d.state) (moved c.args.kind c.args.at c.args.self.now.state
    c.if-kind-eq0.false c.if-kind-eq1.false c.if-kind-eq2.false c.if-kind-eq3.false
    c.if-kind-eq4.false)
