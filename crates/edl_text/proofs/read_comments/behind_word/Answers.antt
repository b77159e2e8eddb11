use Rattle.std.proofs.Common.{arith}
use Rattle.edl_text.proofs.NoteTexts.{behind_not}
use Rattle.edl_text.proofs.read_comments.behind_word.Goals as goal

pub returns-else-rest-behind : goal.returns-else-rest-behind
returns-else-rest-behind c = behind_not _ _ c.in_ok-behind.behind.now c.trim_front-rest.result.now c.in_ok-behind.ensures c.trim_front-rest.ensures (omega (arith, c.if-rest-behind.false))
