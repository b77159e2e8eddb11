use Rattle.std.proofs.Common.{◌≡◌, ◌∙◌, rules, to_z, of_z, w64}
use Rattle.smpte_tc.specs.Modes.{mode_of}
use Rattle.note_text.proofs.DayFrames.{day_is}
use Rattle.note_text.proofs.day.is_below_day.Goals as goal

pub returns-in-Loc : goal.returns-in-Loc
returns-in-Loc c =
    let same : to_z w64 (of_z w64 c.in-Loc.at) ≡ c.in-Loc.at = search rules in
    rw c.in-Loc.is (c.is_ok.ensures.value ∙ day_is (mode_of c.args.rate c.args.drop) c.in-Loc.at c.label.result (rw same at c.label.ensures))
