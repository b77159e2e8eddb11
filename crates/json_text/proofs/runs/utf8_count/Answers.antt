use Rattle.std.proofs.Common.{sym, subst, arith}
use Rattle.std.specs.Str.{IsUtf8}
use Rattle.std.proofs.lemmas.Str.{IsUtf8-from_ascii}
use Rattle.json_text.proofs.RunLemmas.{open_within, whole_within, run_within, utf8_within}
use Rattle.json_text.proofs.runs.utf8_count.Goals as goal

pub returns-then-is_ascii-clause-within : goal.returns-then-is_ascii-clause-within
returns-then-is_ascii-clause-within c =
    run_within _ c.args.most c.args.bytes.now _ c.before-run.ensures (omega arith)

pub returns-then-is_ascii-clause-opens : goal.returns-then-is_ascii-clause-opens
returns-then-is_ascii-clause-opens c =
    open_within _ c.args.most c.args.bytes.now _ c.before-run.ensures c.requires (omega arith)

pub returns-then-is_ascii-clause-utf8 : goal.returns-then-is_ascii-clause-utf8
returns-then-is_ascii-clause-utf8 c =
    let run = c.before-run.result.now in
    subst IsUtf8 (sym (whole_within c.args.most c.args.bytes.now run c.before-run.ensures))
    (IsUtf8-from_ascii run (c.is_ascii.ensures c.if-is_ascii.true))

pub returns-in-Ok-clause-within : goal.returns-in-Ok-clause-within
returns-in-Ok-clause-within c =
    run_within _ c.args.most c.args.bytes.now _ c.before-run.ensures (omega arith)

pub returns-in-Ok-clause-opens : goal.returns-in-Ok-clause-opens
returns-in-Ok-clause-opens c =
    open_within _ c.args.most c.args.bytes.now _ c.before-run.ensures c.requires (omega arith)

pub returns-in-Ok-clause-utf8 : goal.returns-in-Ok-clause-utf8
returns-in-Ok-clause-utf8 c =
    let run = c.before-run.result.now in
    subst IsUtf8 (sym (whole_within c.args.most c.args.bytes.now run c.before-run.ensures))
    c.in-Ok.ensures.cases.1

pub returns-in-Err-clause-within : goal.returns-in-Err-clause-within
returns-in-Err-clause-within c =
    run_within c.valid_up_to.result c.args.most c.args.bytes.now _ c.before-run.ensures
    (omega (arith, c.in-Err.ensures.cases.1.short, c.valid_up_to.ensures))

pub returns-in-Err-clause-opens : goal.returns-in-Err-clause-opens
returns-in-Err-clause-opens c =
    open_within c.valid_up_to.result c.args.most c.args.bytes.now c.before-run.result.now
    c.before-run.ensures c.requires
    (omega (arith, c.in-Err.ensures.cases.1.short, c.valid_up_to.ensures))

pub returns-in-Err-clause-utf8 : goal.returns-in-Err-clause-utf8
returns-in-Err-clause-utf8 c =
    let valid = c.in-Err.ensures.cases.1 in
    utf8_within c.valid_up_to.result _ c.args.most c.args.bytes.now c.before-run.result.now
    c.before-run.ensures c.valid_up_to.ensures valid.short valid.front
