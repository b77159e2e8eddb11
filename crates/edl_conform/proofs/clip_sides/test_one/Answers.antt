use Rattle.std.proofs.Common.{refl}
use Rattle.edl_conform.proofs.PartLemmas.{tested_one}
use Rattle.edl_conform.proofs.clip_sides.test_one.Goals as goal

pub returns : goal.returns
returns c =
    tested_one _ _ c.args.shown.now.start _ _ _ _ refl
    c.is_between.ensures c.is_past_day.ensures c.is_outside.ensures
