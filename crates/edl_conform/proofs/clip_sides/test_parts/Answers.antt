use Rattle.edl_conform.proofs.PartLemmas.{tested_both}
use Rattle.edl_conform.proofs.clip_sides.test_parts.Goals as goal

pub returns : goal.returns
returns c =
    tested_both _ _ c.args.shown.now.start _ _ _ _ _ _ c.test_part.ensures c.test_part-2.ensures
    c.either.ensures
