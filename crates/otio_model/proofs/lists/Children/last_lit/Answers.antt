-- What the pieces answer, of the children that they are.
use Rattle.std.proofs.Common.{arith, ap, ◌∙◌, ◌≡◌, pos, length, subst, FitsSigned, to_z-of_z}
use Rattle.std.specs.Int.{w128}
use Rattle.std.specs.Prelude.{IfNone, IfSome}
use Rattle.otio_model.specs.Lights.{HasNoLit, IsLastLit}
use Rattle.otio_model.specs.Pieces.{all_items}
use Rattle.otio_model.proofs.OverLemmas.{abs_pos}
use Rattle.otio_model.proofs.Views.{shown}
use Rattle.otio_model.proofs.lists.Children.last_lit.Goals as goal

pub lit_in_pieces-requires-clause-there : goal.lit_in_pieces-requires-clause-there
lit_in_pieces-requires-clause-there c =
    omega (
      arith,
      c.requires.there,
      ap length (shown _ _ c.self.view_is),
      ap (λ l. length (all_items l)) c.as_slice.ensures.value,
    )

pub returns-clause-found : goal.returns-clause-found
returns-clause-found c =
    let fits : FitsSigned w128 c.args.ticks = c.ranges.ticks in
    let value = simp to_z-of_z at c.unsigned_abs.ensures.value in
    let same : pos c.unsigned_abs.result ≡ c.args.ticks
    = ap (λ n. pos n) value ∙ abs_pos c.args.ticks c.requires.low in
    let found : IfSome c.lit_in_pieces.result
    (λ index. IsLastLit (all_items c.as_slice.result.now) c.args.end c.args.ticks index)
    = subst (λ w. IfSome c.lit_in_pieces.result
    (λ index. IsLastLit (all_items c.as_slice.result.now) c.args.end w index)) same
    c.lit_in_pieces.ensures.found in
    rw (shown _ _ c.self.view_is, ← c.as_slice.ensures.value) found

pub returns-clause-none : goal.returns-clause-none
returns-clause-none c =
    let fits : FitsSigned w128 c.args.ticks = c.ranges.ticks in
    let value = simp to_z-of_z at c.unsigned_abs.ensures.value in
    let same : pos c.unsigned_abs.result ≡ c.args.ticks
    = ap (λ n. pos n) value ∙ abs_pos c.args.ticks c.requires.low in
    let none : IfNone c.lit_in_pieces.result
    (HasNoLit (all_items c.as_slice.result.now) c.args.end c.args.ticks)
    = subst (λ w. IfNone c.lit_in_pieces.result
    (HasNoLit (all_items c.as_slice.result.now) c.args.end w)) same
    c.lit_in_pieces.ensures.none in
    rw (shown _ _ c.self.view_is, ← c.as_slice.ensures.value) none
