use Rattle.std.specs.Option.{option_copied}
use Rattle.edit_script.proofs.CommandLemmas.{IsAtLine, halts_at, inner_at}
use Rattle.edit_script.proofs.steps.patch_of.Goals as goal

pub returns-in-Err : goal.returns-in-Err
returns-in-Err c =
    let told : IsAtLine c.args.command.now.line c.in-Err.fault c.at_line.result =
    record { memory = c.at_line.ensures.memory; other = c.at_line.ensures.other } in
    record {
      plan = tt;
      fault = halts_at (option_copied c.args.media) c.args.command.now c.args.timeline.now
          c.in-Err.fault c.at_line.result told c.in-Err.ensures.fault;
      inner = inner_at c.args.command.now.line c.in-Err.fault c.at_line.result told;
    }
