use Rattle.std.proofs.Common.{◌∙◌, sym, ap, subst}
use Rattle.std.specs.Str.{is_utf8}
use Rattle.json_text.specs.State.Runs.{AreOpen}
use Rattle.json_text.proofs.RunLemmas.{run_within, front_of_front}
use Rattle.json_text.proofs.runs.short_count.Goals as goal

pub returns-clause-within : goal.returns-clause-within
returns-clause-within c = run_within c.plain_count.result 23 c.args.bytes.now c.before-2.result.now c.before-2.ensures c.plain_count.ensures.within

pub returns-clause-opens : goal.returns-clause-opens
returns-clause-opens c =
    subst AreOpen (front_of_front c.plain_count.result 23 c.args.bytes.now c.before-2.result.now c.before-2.ensures c.plain_count.ensures.within) c.plain_count.ensures.opens

pub returns-clause-utf8 : goal.returns-clause-utf8
returns-clause-utf8 c =
    ap is_utf8 (sym (front_of_front c.plain_count.result 23 c.args.bytes.now c.before-2.result.now c.before-2.ensures c.plain_count.ensures.within)) ∙ c.plain_count.ensures.utf8
