use Rattle.std.proofs.Common.{◌≡◌, Some, None, slice_get, sym, ap, ◌∙◌, arith}
use Rattle.std.specs.BTreeMap.{get_by}
use Rattle.std.specs.Option.{option_copied}
use Rattle.std.specs.Cmp.Lexicographic.{slice_cmp}
use Rattle.std.specs.Ordering.{nat_cmp}
use Rattle.std.proofs.lemmas.Option.{slice_get_past}
use Rattle.flat_stack.proofs.KnowLemmas.{found_in, none_in}
use Rattle.flat_stack.proofs.inputs.track_at.Goals as goal

pub returns-then-index-len : goal.returns-then-index-len
returns-then-index-len c =
    let is : get_by (λ k. slice_cmp nat_cmp c.args.kind.now k.now) c.args.tracks.now ≡ Some c.in-Some.of_kind.now = sym c.get.ensures.value ∙ ap option_copied c.in-Some.is in
    let at : slice_get c.in-Some.of_kind.now.items c.args.index ≡ Some c.number_at.result = ap (λ l. slice_get l c.args.index) (sym c.as_slice.ensures.value) ∙ c.number_at.ensures in
    λ l knows. found_in c.args.tracks.now l c.args.kind.now c.args.index c.in-Some.of_kind.now (Some c.number_at.result) knows is at

pub returns-else-index-len : goal.returns-else-index-len
returns-else-index-len c =
    let is : get_by (λ k. slice_cmp nat_cmp c.args.kind.now k.now) c.args.tracks.now ≡ Some c.in-Some.of_kind.now = sym c.get.ensures.value ∙ ap option_copied c.in-Some.is in
    let at : slice_get c.in-Some.of_kind.now.items c.args.index ≡ None = slice_get_past c.in-Some.of_kind.now.items c.args.index (omega (arith, c.if-index-len.false, c.len.ensures, c.in-Some.of_kind.now.ok.0)) in
    λ l knows. found_in c.args.tracks.now l c.args.kind.now c.args.index c.in-Some.of_kind.now None knows is at

pub returns-in-None : goal.returns-in-None
returns-in-None c =
    let is : get_by (λ k. slice_cmp nat_cmp c.args.kind.now k.now) c.args.tracks.now ≡ None = sym c.get.ensures.value ∙ ap option_copied c.in-None.is in
    λ l knows. none_in c.args.tracks.now l c.args.kind.now c.args.index knows is
