-- What the pieces answer, of the children that they are.
use Rattle.std.proofs.Common.{arith, ap, ◌∙◌, ◌≡◌, pos, sym, length, take, subst, FitsSigned, to_z-of_z}
use Rattle.std.specs.Int.{w128}
use Rattle.std.proofs.lemmas.Int.{ints}
use Rattle.otio_model.specs.Passes.{IsPassed}
use Rattle.otio_model.specs.Pieces.{all_items}
use Rattle.otio_model.proofs.OverLemmas.{abs_pos}
use Rattle.otio_model.proofs.PassLemmas.{passed_short, quiet_passed}
use Rattle.otio_model.proofs.ShownLemmas.{few_shown, total_shown}
use Rattle.otio_model.proofs.Views.{shown}
use Rattle.otio_model.proofs.lists.Children.quiet.Goals as goal

pub locate-number-requires-clause-there : goal.locate-number-requires-clause-there
locate-number-requires-clause-there c =
    omega (
      arith,
      c.if-index-self.false,
      c.self.invariant.counted,
      ap (λ l. length (all_items l)) c.as_slice-pieces.ensures.value,
    )

pub quiet_pieces-count-requires-clause-fits : goal.quiet_pieces-count-requires-clause-fits
quiet_pieces-count-requires-clause-fits c =
    omega (arith, total_shown c.requires.few c.self.view_is c.as_slice-pieces.ensures.value)

pub quiet_pieces-count-requires-clause-few : goal.quiet_pieces-count-requires-clause-few
quiet_pieces-count-requires-clause-few c =
    omega (arith, few_shown c.requires.few c.self.view_is c.as_slice-pieces.ensures.value)

pub so_many-requires : goal.so_many-requires
so_many-requires c =
    omega (
      arith,
      passed_short c.quiet_pieces-count.ensures,
      total_shown c.requires.few c.self.view_is c.as_slice-pieces.ensures.value,
    )

pub returns : goal.returns
returns c =
    let from_fits : FitsSigned w128 c.args.from = c.ranges.from in
    let to_fits : FitsSigned w128 c.args.to = c.ranges.to in
    let from_value = simp to_z-of_z at c.unsigned_abs.ensures.value in
    let to_value = simp to_z-of_z at c.unsigned_abs-2.ensures.value in
    let from : pos c.unsigned_abs.result ≡ c.args.from
    = ap (λ n. pos n) from_value ∙ abs_pos c.args.from (omega (arith, ints, c.if-from-lt0.false)) in
    let to : pos c.unsigned_abs-2.result ≡ c.args.to
    = ap (λ n. pos n) to_value ∙ abs_pos c.args.to (omega (arith, ints, c.if-to-lt0.false)) in
    let at : length (all_items (take c.locate-number.result.0 c.as_slice-pieces.result.now))
    ≡ c.args.index = omega (arith, c.locate-number.ensures.before, c.if-offset-ne0.false) in
    quiet_passed c.args.self.now (all_items c.as_slice-pieces.result.now) c.args.from c.args.to
    c.so_many.result (shown _ _ c.self.view_is ∙ ap all_items (sym c.as_slice-pieces.ensures.value))
    (subst (λ i. IsPassed (all_items c.as_slice-pieces.result.now) i c.unsigned_abs.result
    c.unsigned_abs-2.result c.quiet_pieces-count.result.0 c.quiet_pieces-count.result.1) at
    c.quiet_pieces-count.ensures)
    from to c.so_many.ensures.count c.so_many.ensures.ticks
