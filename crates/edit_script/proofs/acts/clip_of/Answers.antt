use Rattle.std.proofs.Common.{sym}
use Rattle.edit_script.specs.Words.{words_of}
use Rattle.edit_script.proofs.ActLemmas.{clip_two, clip_three}
use Rattle.edit_script.proofs.acts.clip_of.Goals as goal

pub returns-in_default-next_word-2 : goal.returns-in_default-next_word-2
returns-in_default-next_word-2 c = sym (clip_two c.in-Some.name.now c.in-Some-next_word.reel.now
    (words_of c.in-Some-next_word.rest.now) (words_of c.in-Some.rest.now) (words_of c.args.line.now)
    c.in-Some.ensures c.in-Some-next_word.ensures c.in_default-next_word-2.ensures)

pub returns-in_default-only_word : goal.returns-in_default-only_word
returns-in_default-only_word c = sym (clip_three c.in-Some.name.now c.in-Some-next_word.reel.now
    c.in-Some-next_word-2.first.now (words_of c.in-Some-next_word-2.rest.now)
    (words_of c.in-Some-next_word.rest.now) (words_of c.in-Some.rest.now)
    (words_of c.args.line.now)
    c.in-Some.ensures c.in-Some-next_word.ensures c.in-Some-next_word-2.ensures
    c.in_default-only_word.ensures)
