use Rattle.std.proofs.Common.{◌∙◌, sym, subst, ap, refl, ℤ, pos, ◌+ℤ◌, ◌≤ℤ◌, arith}
use Rattle.std.specs.Option.{option_copied}
use Rattle.std.proofs.lemmas.Int.{ints}
use Rattle.edl_frames.specs.Seats.{length_in}
use Rattle.coord.proofs.Members.{child_few, index_few}
use Rattle.edl_conform.proofs.PlaceLemmas.{placed, timed, next_placed}
use Rattle.edl_conform.proofs.child_context.ChildContext.at.Goals as goal

pub length_or_zero-requires : goal.length_or_zero-requires
length_or_zero-requires c = record {
  few = child_few c.args.children.now c.args.index c.child-item.result.now c.child-item.ensures
      c.requires.few;
}

pub overflow_add-result : goal.overflow_add-result
overflow_add-result c =
    let p = placed c.args.children.now c.args.index c.child-item.result.now c.args.start
    c.child-item.ensures c.requires.sound c.requires.few c.requires.fits c.requires.start in
    let low = p.low in
    let high = p.high in
    let e = c.length_or_zero.ensures in
    omega (arith, ints, low, high, e)

pub overflow_add-index : goal.overflow_add-index
overflow_add-index c =
    let k = index_few c.args.children.now c.args.index c.requires.there c.requires.few in
    omega (arith, k)

pub returns-clause-seat : goal.returns-clause-seat
returns-clause-seat c =
    let p = placed c.args.children.now c.args.index c.child-item.result.now c.args.start
    c.child-item.ensures c.requires.sound c.requires.few c.requires.fits c.requires.start in
    let t = timed c.args.children.now c.args.index c.child-item.result.now c.args.start
    c.length_or_zero.result p c.length_or_zero.ensures in
    record {
      item = c.child-item.ensures;
      start = t.start ∙ c.requires.start;
      end = t.end ∙ p.end;
      before = refl;
      next = c.item.ensures;
    }

pub returns-clause-seated : goal.returns-clause-seated
returns-clause-seated c =
    let p = placed c.args.children.now c.args.index c.child-item.result.now c.args.start
    c.child-item.ensures c.requires.sound c.requires.few c.requires.fits c.requires.start in
    let t = timed c.args.children.now c.args.index c.child-item.result.now c.args.start
    c.length_or_zero.result p c.length_or_zero.ensures in
    let low = p.low in
    let start = t.start in
    record {
      faultless = p.faultless;
      end = t.end ∙ ap (λ (z : ℤ). z +ℤ length_in c.child-item.result.now) (sym start);
      low = omega (arith, ints, low, start);
      high = subst (λ (z : ℤ). z ≤ℤ pos 705600000000000000000000) (sym t.end) p.high;
      next = next_placed c.args.children.now c.args.index (option_copied c.item.result) _
          c.item.ensures c.requires.sound c.requires.few c.requires.fits (t.end ∙ p.end);
    }
