use Rattle.std.proofs.Common.{refl, arith, rules, pos, to_z, of_z, ◌≡◌, subst, ap, ◌∙◌, FitsSigned, unsigned_abs}
use Rattle.std.specs.Int.{w64}
use Rattle.std.proofs.lemmas.Int.{ints}
use Rattle.edl_list.specs.Speeds.{side_speed}
use Rattle.edl_frames.specs.Conformed.{IsReference, IsSpanOf, effects_at}
use Rattle.edl_conform.proofs.items.clip_of.Goals as goal

pub returns : goal.returns
returns c =
    let rate = c.args.media.now.rate in
    let slow = c.requires.side.slow in
    let count = c.ranges.count in
    let a : FitsSigned w64 c.args.side.now.src_in = search rules in
    let x : to_z w64 (of_z w64 c.args.side.now.src_in) ≡ c.args.side.now.src_in = omega (arith, ints, a) in
    let y : to_z w64 (of_z w64 c.args.count) ≡ c.args.count = omega (arith, ints, count) in
    let is = c.side_speed.ensures in
    let z : to_z w64 (of_z w64 c.side_speed.result) ≡ pos (side_speed rate c.args.side.now) = omega (arith, ints, is, slow) in
    record {
      clip = _;
      is = refl;
      metadata = c.in_ok-metadata.ensures;
      name = c.in_ok-name.ensures;
      source = (c.span.result, refl, subst (λ n. IsSpanOf rate n c.args.count c.span.result) x (subst (λ n. IsSpanOf rate (to_z w64 (of_z w64 c.args.side.now.src_in)) n c.span.result) y c.span.ensures));
      effects = c.in_ok-effects.ensures ∙ ap (λ n. effects_at (unsigned_abs n)) z;
      markers = c.new.ensures;
      enabled = refl;
      reference = c.in_ok-reference.reference;
      references = c.in_ok-media_references.ensures;
      listed = subst (λ o. IsReference o c.in_ok-reference.reference) c.row_of.ensures.row c.in_ok-reference.ensures;
      key = c.in_ok-key.ensures;
      rest = c.new-2.ensures;
    }
