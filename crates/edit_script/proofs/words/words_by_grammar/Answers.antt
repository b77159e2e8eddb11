use Rattle.edit_script.proofs.Grammar.{found, given}
use Rattle.edit_script.proofs.words.words_by_grammar.Goals as goal

pub returns : goal.returns
returns c = λ line words. (found line words, given line words)
