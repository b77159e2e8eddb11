use Rattle.std.proofs.Common.{sym, ◌∙◌}
use Rattle.edit_script.specs.Words.{words_of}
use Rattle.edit_script.proofs.ActLemmas.{put_clip}
use Rattle.edit_script.proofs.acts.put_of.Goals as goal

pub returns-then-is_word-2 : goal.returns-then-is_word-2
returns-then-is_word-2 c = rw (put_clip c.in-Some.word.now (words_of c.in-Some.rest.now)
    (words_of c.args.line.now) c.in-Some.ensures (sym c.is_word.ensures ∙ c.if-is_word.false)
    (sym c.is_word-2.ensures ∙ c.if-is_word-2.true)) c.clip_of.ensures
