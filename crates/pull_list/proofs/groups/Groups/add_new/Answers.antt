use Rattle.std.proofs.Common.{map, sym, ap, subst, ◌∙◌, ◌≡◌, length, rules}
use Rattle.std.proofs.lemmas.List.{length-map}
use Rattle.pull_list.specs.Found.{group_in}
use Rattle.pull_list.specs.Labels.{AreNumbered, HasNumber}
use Rattle.pull_list.proofs.LabelLemmas.{get_last_of, map_last, numbered_more, numbered_same, popped}
use Rattle.pull_list.proofs.groups.Groups.add_new.Goals as goal

pub invariant_of-self-in-Ok : goal.invariant_of-self-in-Ok
invariant_of-self-in-Ok c =
    let l = c.self.inside.list.items in let g = group_in c.args.group in
    let size : c.len-number.result ≡ length l = search rules in
    subst (AreNumbered c.insert.new.self) (sym (map_last group_in l c.push.new.self.items c.args.group c.in_ok-push.ensures.items))
    (numbered_more c.self.inside.numbers c.insert.new.self (map group_in l) g c.label_of.result
    c.len-number.result c.label_of.ensures c.self.invariant
    (subst (λ x. HasNumber x g → ⊥) (sym c.self.view_is) c.requires)
    (size ∙ sym (length-map l group_in)) c.in-Ok.ensures.updates)

pub invariant_of-self-in-Err : goal.invariant_of-self-in-Err
invariant_of-self-in-Err c =
    let l = c.self.inside.list.items in
    let size : c.push.new.self.len ≡ length c.push.new.self.items = search rules in
    numbered_same c.self.inside.numbers c.insert.new.self (map group_in l)
    (map group_in c.pop.new.self.items) c.in-Err.ensures.err
    (ap (map group_in) (popped l c.push.new.self.items c.pop.new.self.items c.args.group c.push.new.self.len c.in_ok-push.ensures.items c.pop.ensures.rest size))
    c.self.invariant

pub returns-in-Ok-clause-number : goal.returns-in-Ok-clause-number
returns-in-Ok-clause-number c =
    let l = c.self.inside.list.items in
    let size : c.len-number.result ≡ length l = search rules in
    get_last_of group_in l c.push.new.self.items c.args.group c.len-number.result
    c.in_ok-push.ensures.items size
