use Rattle.std.proofs.Common.{◌≡◌, refl, sym, ap, ◌∙◌, [], ℤ, to_z, of_z, arith}
use Rattle.std.specs.Int.{w128}
use Rattle.std.proofs.lemmas.Int.{ints}
use Rattle.otio_model.specs.declared.compositions.ItemOf.{ItemOf}
use Rattle.otio_model.specs.declared.compositions.ItemOf.TheVariants.{Stack, Track}
use Rattle.otio_model.specs.declared.compositions.Listed.{Listed}
use Rattle.otio_model.specs.Trees.{items_of}
use Rattle.coord.proofs.JudgingLemmas.{children_sound}
use Rattle.coord.proofs.ShortItems.{is_short}
use Rattle.edit_plans.specs.Way.{reached_in}
use Rattle.edit_plans.proofs.PlaceWays.{there_in}
use Rattle.edit_plans.proofs.items.in_child.Goals as goal

pub in_stack-requires : goal.in_stack-requires
in_stack-requires c =
    let s = c.in-Stack.stack in let n = rw c.in-Stack.is at c.requires.few in record {
      few = omega (arith, n);
      sound = children_sound (Stack s) s.children refl (rw c.in-Stack.is at c.requires.sound);
      there = there_in (items_of s.children) c.args.index (rw c.in-Stack.is at c.requires.there);
    }

pub in_track-requires : goal.in_track-requires
in_track-requires c =
    let t = c.in-Track.track in let n = rw c.in-Track.is at c.requires.few in
    let sound = rw c.in-Track.is at c.requires.sound in record {
      few = omega (arith, n);
      sound = children_sound (Track t) t.children refl sound;
      fits = (is_short (Track t) (sound [] (Track t) refl)).available;
      there = there_in (items_of t.children) c.args.index (rw c.in-Track.is at c.requires.there);
    }

pub returns-in-Stack-clause-value : goal.returns-in-Stack-clause-value
returns-in-Stack-clause-value c =
    let a : to_z w128 (of_z w128 c.args.at) ≡ c.args.at = omega (arith, ints) in
    λ v. c.in_stack.ensures.value v
    ∙ ap (λ (z : ℤ). reached_in v c.args.index (Stack c.in-Stack.stack) z) a
    ∙ ap (λ (x : ItemOf Listed). reached_in v c.args.index x c.args.at) (sym c.in-Stack.is)

pub returns-in-Track-clause-value : goal.returns-in-Track-clause-value
returns-in-Track-clause-value c =
    let a : to_z w128 (of_z w128 c.args.at) ≡ c.args.at = omega (arith, ints) in
    λ v. c.in_track.ensures.value v
    ∙ ap (λ (z : ℤ). reached_in v c.args.index (Track c.in-Track.track) z) a
    ∙ ap (λ (x : ItemOf Listed). reached_in v c.args.index x c.args.at) (sym c.in-Track.is)
