use Rattle.otio_tools.specs.Texts.{text_at}
use Rattle.otio_tools.proofs.DrillEnds.{unsent_tally}
use Rattle.otio_tools.proofs.drill_command.send_tally.Goals as goal

pub returns-in-Err : goal.returns-in-Err
returns-in-Err g c =
    unsent_tally (text_at c.args.target) c.args.tally _ c.in-Err.fault c.complain_of_output.result
    c.in-Err.ensures.cause.failed c.in-Err.ensures.told c.complain_of_output.ensures.status
    c.complain_of_output.ensures.message
