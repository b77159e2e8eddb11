use Rattle.std.proofs.Common.{sym, ap, subst, ◌∙◌}
use Rattle.std.specs.Option.{option_copied}
use Rattle.pull_list.specs.Found.{group_in}
use Rattle.pull_list.specs.Labels.{HasNumber, IsNumber}
use Rattle.pull_list.proofs.LabelLemmas.{is_found, looked_up, not_found}
use Rattle.pull_list.proofs.groups.Groups.number_of.Goals as goal

pub returns-in-Some : goal.returns-in-Some
returns-in-Some c =
    let g = group_in c.args.group in
    let found = sym (looked_up c.self.inside.numbers c.label_of.result g c.label_of.ensures)
    ∙ sym c.get.ensures.value ∙ ap option_copied c.in-Some.is in
    subst (λ l. IsNumber l g c.in-Some.number.now) c.self.view_is
    (is_found c.self.inside.numbers _ g c.in-Some.number.now c.self.invariant found)

pub returns-in-None : goal.returns-in-None
returns-in-None c =
    let g = group_in c.args.group in
    let found = sym (looked_up c.self.inside.numbers c.label_of.result g c.label_of.ensures)
    ∙ sym c.get.ensures.value ∙ ap option_copied c.in-None.is in
    subst (λ l. HasNumber l g → ⊥) c.self.view_is
    (not_found c.self.inside.numbers _ g c.self.invariant found)
