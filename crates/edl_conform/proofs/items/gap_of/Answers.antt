use Rattle.std.proofs.Common.{refl, arith, to_z, of_z, ◌≡◌, subst, pos}
use Rattle.std.specs.Int.{w64}
use Rattle.std.proofs.lemmas.Int.{ints}
use Rattle.edl_frames.specs.Conformed.{IsSpanOf}
use Rattle.edl_conform.proofs.items.gap_of.Goals as goal

pub returns : goal.returns
returns c =
    let fits = c.ranges.count in
    let cast : to_z w64 (of_z w64 c.args.count) ≡ c.args.count = omega (arith, ints) in
    record {
      gap = _;
      is = refl;
      metadata = c.new.ensures;
      name = c.empty.ensures;
      source = (c.span.result, refl, subst (λ n. IsSpanOf c.args.rate (pos 0) n c.span.result) cast c.span.ensures);
      effects = c.new-2.ensures;
      markers = c.new-3.ensures;
      enabled = refl;
      rest = c.new-4.ensures;
    }
