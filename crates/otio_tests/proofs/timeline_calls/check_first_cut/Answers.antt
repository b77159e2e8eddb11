use Rattle.std.proofs.Common.{sym}
use Rattle.coord.proofs.Members.{child_few}
use Rattle.pieces.proofs.Inner.{root_faultless}
use Rattle.otio_tests.proofs.timeline_calls.check_first_cut.Goals as goal

pub check_cut-requires-clause-few : goal.check_cut-requires-clause-few
check_cut-requires-clause-few g c =
    child_few _ 0 _ (sym c.in-Some.ensures) c.requires.few

pub check_cut-requires-clause-faultless : goal.check_cut-requires-clause-faultless
check_cut-requires-clause-faultless g c =
    root_faultless _ 0 _ c.requires.sound.faultless.items (sym c.in-Some.ensures)
