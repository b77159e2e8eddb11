use Rattle.std.proofs.Common.{◌≡◌, subst, ap, ◌∙◌, pos, ◌-ℤ◌, ℤ, to_z, of_z, arith}
use Rattle.std.specs.Int.{w128}
use Rattle.std.proofs.lemmas.Int.{ints}
use Rattle.otio_model.specs.Lengths.{length_of, or_zero}
use Rattle.otio_model.specs.Lights.{HasNoLit, IsLastLit}
use Rattle.otio_model.specs.Trees.{items_of}
use Rattle.show_prog.proofs.SoundnessFacts.{here}
use Rattle.pull_list.proofs.PartLemmas.{alone_in_pile}
use Rattle.pull_list.proofs.parts.child_in_pile.Goals as goal

pub from_instant-requires-clause-few : goal.from_instant-requires-clause-few
from_instant-requires-clause-few c =
    (here c.args.children.now _ c.child.result.now c.child.ensures c.requires.sound
    c.requires.few).few

pub returns-in-None-last_lit : goal.returns-in-None-last_lit
returns-in-None-last_lit c =
    let l = c.args.children.now in let n = c.if-at-lt0.false in let i = c.in-Some.index in
    let a : to_z w128 (of_z w128 c.args.at) ≡ c.args.at = omega (arith, ints) in
    let e = c.from_instant.ensures in
    alone_in_pile l c.args.at c.len.result i c.child.result.now c.from_instant.result
    c.requires.sound c.requires.few c.len.ensures (omega (arith, ints, n))
    (subst (λ (u : ℤ). IsLastLit (items_of l) c.len.result u i) a c.in-Some.ensures.found)
    (subst (λ (u : ℤ). HasNoLit (items_of l) i u) a c.in-None-last_lit.ensures.none)
    c.child.ensures e.item (e.ticks ∙ a)
    (e.len ∙ ap (λ (u : ℤ). pos (or_zero (length_of c.child.result.now)) -ℤ u) a)
