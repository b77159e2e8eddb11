use Rattle.std.proofs.Common.{ap, ◌∙◌, ◌++◌, ◌∷◌, [], None}
use Rattle.std.proofs.lemmas.Int.{to_z-of_z}
use Rattle.flat_stack.proofs.RunLemmas.{nothing_one}
use Rattle.flat_stack.proofs.stretches.nothing.Goals as goal

pub returns : goal.returns
returns c =
    let fits = c.ranges.end in
    let pushed = simp to_z-of_z at c.in_ok-push.ensures.items in
    λ l. nothing_one l c.args.end c.push.new.self.items c.requires
    (pushed ∙ ap (λ m. m ++ record { to = c.args.end; given = None } ∷ []) c.new-all.ensures.items)
