use Rattle.std.proofs.Common.{FitsSigned, w64, rules}
use Rattle.std.proofs.lemmas.Int.{to_z-of_z}
use Rattle.edl_text.proofs.Days.{is_past}
use Rattle.edl_text.proofs.written_labels.is_below_day.Goals as goal

pub returns-in-Err : goal.returns-in-Err
returns-in-Err c =
    let fits : FitsSigned w64 c.args.n = search rules in
    is_past c.args.rate c.args.drop c.args.n c.in-Err.field-0 (simp to_z-of_z at c.in-Err.ensures)
