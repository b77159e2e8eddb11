use Rattle.std.proofs.Common.{FitsSigned, w64, rules}
use Rattle.std.proofs.lemmas.Int.{to_z-of_z}
use Rattle.edl_text.proofs.Days.{is_taken, text_taken}
use Rattle.edl_text.proofs.written_labels.label_of.Goals as goal

pub unwrap-requires : goal.unwrap-requires
unwrap-requires c =
    let fits : FitsSigned w64 c.args.n = search rules in
    is_taken c.args.rate c.args.drop c.args.n c.label.result c.requires (simp to_z-of_z at c.label.ensures)

pub returns : goal.returns
returns c =
    let fits : FitsSigned w64 c.args.n = search rules in
    text_taken c.args.rate c.args.drop c.args.n c.label.result c.unwrap.result (simp to_z-of_z at c.label.ensures) c.unwrap.ensures
