use Rattle.std.proofs.Common.{◌==◌, ℕ, List, length, ap, sym, ◌∙◌}
use Rattle.edit_script.proofs.WordLemmas.{empty_front}
use Rattle.edit_script.proofs.words.next_word.Goals as goal

pub returns-then-is_empty : goal.returns-then-is_empty
returns-then-is_empty c = λ word words f.
    empty_front c.args.line.now word words
    (sym (ap (λ (l : List ℕ). length l == 0) c.trim_front-rest.ensures)
    ∙ sym c.is_empty.ensures ∙ c.if-is_empty.true) f
