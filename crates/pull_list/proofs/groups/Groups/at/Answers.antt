use Rattle.std.proofs.Common.{◌≡◌, ◌<◌, Some, map, refl, subst, ◌∙◌, ap, length, option_map}
use Rattle.std.specs.Prelude.{slice_get}
use Rattle.std.proofs.lemmas.Option.{slice_get-map, slice_get_read}
use Rattle.pull_list.specs.Found.{group_in}
use Rattle.pull_list.specs.Labels.{IsNumber}
use Rattle.pull_list.proofs.LabelLemmas.{is_number_at, length_as}
use Rattle.pull_list.proofs.groups.Groups.at.Goals as goal

pub returns : goal.returns
returns c =
    let l = c.self.inside.list.items in
    let lt : c.args.number < length l = length_as group_in l c.args.self.now c.args.number c.self.view_is c.requires in
    let at : slice_get (map group_in l) c.args.number ≡ Some (group_in c.index.result.now) =
    slice_get-map group_in l c.args.number ∙ ap (option_map group_in)
    (slice_get_read l (length l) c.args.number c.index.result.now refl lt c.index.ensures) in
    subst (λ x. IsNumber x (group_in c.index.result.now) c.args.number) c.self.view_is
    (is_number_at c.self.inside.numbers _ _ _ c.self.invariant at)
