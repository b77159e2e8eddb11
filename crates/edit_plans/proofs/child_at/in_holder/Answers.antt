use Rattle.std.proofs.Common.{sym, ◌∙◌, arith}
use Rattle.std.proofs.lemmas.Int.{ints}
use Rattle.edit_plans.proofs.Reached.{held_some, held_none, seat_low, seat_high}
use Rattle.edit_plans.proofs.child_at.in_holder.Goals as goal

pub since-requires : goal.since-requires
since-requires c =
    let k = c.requires.held in let a = k.starts in let b = k.not_before in
    let low = seat_low c.args.children.now _ c.args.held k in
    let high = seat_high c.args.children.now _ c.args.held k c.requires.fits in record {
      start_low = omega (arith, ints);
      start_high = omega (arith, ints);
      low = omega (arith, ints);
      high = omega (arith, ints);
    }

pub returns-then-is_index-clause-value : goal.returns-then-is_index-clause-value
returns-then-is_index-clause-value c =
    let k = c.requires.held in let a = k.starts in let b = k.not_before in
    let low = seat_low c.args.children.now _ c.args.held k in
    let high = seat_high c.args.children.now _ c.args.held k c.requires.fits in
    let e = c.since.ensures.value in
    λ v. held_some v c.args.children.now c.args.index c.args.at _ c.args.held k c.requires.none
    (sym c.is_index.ensures ∙ c.if-is_index.true) (omega (arith, ints))

pub returns-clause-value : goal.returns-clause-value
returns-clause-value c =
    λ v. held_none v c.args.children.now c.args.index c.args.at c.args.held c.requires.held
    c.requires.none (sym c.is_index.ensures ∙ c.if-is_index.false)
