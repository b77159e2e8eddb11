use Rattle.std.proofs.Common.{sym, ap, ◌∙◌}
use Rattle.std.specs.Str.{bytes_eq}
use Rattle.otio_model.proofs.NearLemmas.{value_found}
use Rattle.otio_model.proofs.near.value_near.Goals as goal

pub returns-then-eq : goal.returns-then-eq
returns-then-eq g c =
    let lookup = c.in-Some.ensures.lookup in
    let same = sym (c.eq.ensures ∙ ap (bytes_eq c.args.name.now) c.as_str.ensures)
    ∙ c.if-eq.true in
    value_found c.args.name.now c.as_slice.result.now c.args.pairs.now c.args.place
    c.in-Some.pair.now c.as_slice.ensures.pairs c.as_slice.ensures.distinct lookup.3.0 lookup.1
    same
