use Rattle.std.proofs.Common.{sym, subst}
use Rattle.std.specs.Prelude.{option_map}
use Rattle.std.specs.Option.{option_copied, option_to_list}
use Rattle.edl_conform.specs.Stated.{stated_job}
use Rattle.edl_conform.specs.Shots.{clip_of, stated_part}
use Rattle.edl_conform.specs.Drafts.{IsTested}
use Rattle.edl_conform.proofs.clip_sides.test_part.Goals as goal

pub returns-in-Some : goal.returns-in-Some
returns-in-Some c =
    subst (λ o. IsTested (stated_job c.args.job.now) (clip_of c.args.shown.now.shot)
    c.args.shown.now.start (option_copied c.args.row) (option_to_list (option_map stated_part o))
    c.test_one.result)
    (sym c.in-Some.is) c.test_one.ensures
