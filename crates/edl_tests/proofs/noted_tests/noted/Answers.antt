use Rattle.std.proofs.lemmas.Result.{IfOk-weaker}
use Rattle.note_text.proofs.NotedLists.{notes_for}
use Rattle.edl_tests.proofs.noted_tests.noted.Goals as goal

pub returns : goal.returns
returns c =
    IfOk-weaker c.read_notes.result _ _
    (λ notes are. notes_for c.args.text.now c.args.list.now notes are) c.read_notes.ensures
