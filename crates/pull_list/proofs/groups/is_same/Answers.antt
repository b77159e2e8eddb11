use Rattle.std.proofs.Common.{refl, ◌∙◌}
use Rattle.std.proofs.lemmas.Bool.{false≢true}
use Rattle.pull_list.specs.Found.{group_in}
use Rattle.pull_list.proofs.LabelLemmas.{same_by_order, tied_labels}
use Rattle.pull_list.proofs.groups.is_same.Goals as goal

pub returns-in-Equal : goal.returns-in-Equal
returns-in-Equal c = (
  λ _. same_by_order c.label_of.result c.label_of-2.result (group_in c.args.one)
      (group_in c.args.other) c.cmp.result c.label_of.ensures c.label_of-2.ensures c.cmp.ensures
      c.in-Equal.is,
  λ _. refl,
)

pub returns-in_default : goal.returns-in_default
returns-in_default c = (
  λ t. absurd (false≢true t),
  λ e. absurd (c.in_default.not-Equal (c.cmp.ensures ∙ tied_labels c.label_of.result
      c.label_of-2.result (group_in c.args.one) (group_in c.args.other) c.label_of.ensures
      c.label_of-2.ensures e)),
)
