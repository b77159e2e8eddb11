use Rattle.std.proofs.Common.{FitsSigned, w64, rules, ◌∙◌}
use Rattle.std.proofs.lemmas.Int.{to_z-of_z}
use Rattle.drill.proofs.ActSteps.{rolled}
use Rattle.drill.proofs.generator.Random.moving.Goals as goal

pub returns-clause-act : goal.returns-clause-act
returns-clause-act c =
    let at : FitsSigned w64 c.args.at = search rules in
    let head : FitsSigned w64 c.edges-head-2.result.0 = search rules in
    let tail : FitsSigned w64 c.edges-head-2.result.1 = search rules in
    rolled c.args.kind c.args.at c.args.self.now.state c.args.place _ _ _ c.if-kind-eq5.false
    c.if-kind-eq6.false c.if-kind-eq7.false c.requires (to_z-of_z w64 _ at)
    (to_z-of_z w64 _ head ∙ c.edges-head-2.ensures.head)
    (to_z-of_z w64 _ tail ∙ c.edges-head-2.ensures.tail)
