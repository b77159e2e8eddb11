use Rattle.std.proofs.Common.{◌≤◌, ◌++◌, Ok, refl, take, length, arith}
use Rattle.std.specs.Global.{Vec}
use Rattle.limits.specs.Limits.{most_bytes}
use Rattle.edit_script.specs.declared.commands.ScriptCommand.{ScriptCommand}
use Rattle.dev_io.specs.declared.files.Failed.{Failed as FailedCall}
use Rattle.source_files.specs.Formats.{IsCommands, RefusesScript, IsCalmScript}
use Rattle.source_files.specs.declared.read_faults.Refusal.TheVariants.{Memory}
use Rattle.source_files.proofs.FollowingLemmas.{follows_none, follows_gave, follows_broke}
use Rattle.source_files.proofs.HandedLemmas.{took_more, gathered_first, gathered_next, ended, broken, early}
use Rattle.source_files.proofs.ScriptLemmas.{long_script-is_refused}
use Rattle.source_files.proofs.scripts.read_commands.Goals as goal

pub pieces-init : goal.pieces-init
pieces-init g c = record {
  given = gathered_first IsCalmScript _ _ c.new-bytes.ensures.items;
  followed = follows_none _ _;
  calm = refl;
}

pub pieces-preserved : goal.pieces-preserved
pieces-preserved g c =
    let i = c.pieces.invariant in
    let few : length c.pieces.bytes.items ≤ most_bytes = omega arith in
    record {
      given = gathered_next FailedCall IsCalmScript c.pieces.bytes.items c.put_last.new.bytes.items _ _ _
          c.in-Ok.count c.read.new.buf c.in-Ok-put_last.ensures few c.in-Ok.count-test.1
          c.in-Ok.ensures.bound.0 (omega arith) i.given c.in-Ok.ensures.handed;
      followed = follows_gave FailedCall c.in-Ok.count c.read.new.buf _ _ _ _ _ _ i.followed
          c.in-Ok.ensures.bound.0 c.in-Ok.ensures.told c.in-Ok.ensures.handed;
      calm = omega (arith, c.in-Ok.ensures.cause.failed, i.calm);
    }

pub returns-in-Ok-eq0-clause-given : goal.returns-in-Ok-eq0-clause-given
returns-in-Ok-eq0-clause-given g c =
    let i = c.pieces.invariant in
    let few : length c.pieces.bytes.items ≤ most_bytes = omega arith in
    let handed = rw c.in-Ok-eq0.field-0-test at c.in-Ok-eq0.ensures.handed in
    ended IsCommands RefusesScript IsCalmScript c.pieces.bytes.items _ _ _ c.commands_of.result few
    i.given handed (rw c.as_slice.ensures.value at c.commands_of.ensures.read)

pub returns-in-Err-clause-given : goal.returns-in-Err-clause-given
returns-in-Err-clause-given g c =
    let i = c.pieces.invariant in
    let few : length c.pieces.bytes.items ≤ most_bytes = omega arith in
    broken (Vec ScriptCommand) IsCommands RefusesScript IsCalmScript c.pieces.bytes.items _ _ _ few
    i.given c.in-Err.ensures.handed

pub returns-in-Err-put_last-clause-given : goal.returns-in-Err-put_last-clause-given
returns-in-Err-put_last-clause-given g c =
    let i = c.pieces.invariant in
    let few : length c.pieces.bytes.items ≤ most_bytes = omega arith in
    let bytes = c.pieces.bytes.items ++ take c.in-Ok.count c.read.new.buf in
    early (Vec ScriptCommand) IsCommands RefusesScript IsCalmScript bytes _ _ Memory
    (took_more FailedCall IsCalmScript c.pieces.bytes.items _ _ _ c.in-Ok.count c.read.new.buf few
    c.in-Ok.count-test.1 c.in-Ok.ensures.bound.0 (omega arith) i.given c.in-Ok.ensures.handed)
    (λ rest. tt)

pub returns-clause-given : goal.returns-clause-given
returns-clause-given g c =
    let i = c.pieces.invariant in
    let bytes = c.pieces.bytes.items in
    early (Vec ScriptCommand) IsCommands RefusesScript IsCalmScript bytes _ _ c.script_refusal.result i.given
    (λ rest. long_script-is_refused bytes rest c.script_refusal.result (omega arith) c.script_refusal.ensures)

pub returns-in-Ok-eq0-clause-followed : goal.returns-in-Ok-eq0-clause-followed
returns-in-Ok-eq0-clause-followed g c =
    let i = c.pieces.invariant in
    follows_gave FailedCall c.in-Ok-eq0.field-0 c.read.new.buf _ _ _ _ _ _ i.followed
    c.in-Ok-eq0.ensures.bound.0 c.in-Ok-eq0.ensures.told c.in-Ok-eq0.ensures.handed

pub returns-in-Err-put_last-clause-followed : goal.returns-in-Err-put_last-clause-followed
returns-in-Err-put_last-clause-followed g c =
    let i = c.pieces.invariant in
    follows_gave FailedCall c.in-Ok.count c.read.new.buf _ _ _ _ _ _ i.followed
    c.in-Ok.ensures.bound.0 c.in-Ok.ensures.told c.in-Ok.ensures.handed

pub returns-in-Err-clause-followed : goal.returns-in-Err-clause-followed
returns-in-Err-clause-followed g c =
    let i = c.pieces.invariant in
    follows_broke _ _ _ _ _ _ i.followed c.in-Err.ensures.told c.in-Err.ensures.handed
