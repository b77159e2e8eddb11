use Rattle.std.proofs.Common.{◌∙◌, ap, map, arith}
use Rattle.std.proofs.lemmas.List.{take_all}
use Rattle.schema_write.specs.Objects.{medium_pair}
use Rattle.schema_write.proofs.Values.{media_names}
use Rattle.schema_write.proofs.media.media_pairs.Goals as goal

pub returns-clause-distinct : goal.returns-clause-distinct
returns-clause-distinct c =
    let all = c.pairs.invariant ∙ ap (map medium_pair) (take_all c.pairs.pair-index c.as_slice-pairs.result.now (omega arith) ∙ c.as_slice-pairs.ensures.pairs) in
    rw (all, media_names c.args.media.now) c.as_slice-pairs.ensures.distinct
