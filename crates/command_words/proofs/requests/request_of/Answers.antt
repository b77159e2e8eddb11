use Rattle.std.proofs.Common.{List, ℕ, None, Some, ◌≡◌, ◌∷◌, map, string_bytes, sym, ap, ◌∙◌}
use Rattle.command_words.specs.Given.{given_by}
use Rattle.command_words.specs.Names.{word_of}
use Rattle.command_words.proofs.AskedTasks.{task_asks, unmatched}
use Rattle.command_words.proofs.Naming.{verb_word}
use Rattle.command_words.proofs.requests.request_of.Goals as goal

-- words whose first is the word of a command begin with that word
begins : (words behind : List (List ℕ)) (word verb : List ℕ) → words ≡ word ∷ behind → word ≡ verb
    → words ≡ verb ∷ behind
begins words behind word verb e f = e ∙ ap (λ w. w ∷ behind) f

pub returns-in-Some-task_in : goal.returns-in-Some-task_in
returns-in-Some-task_in c =
    let behind = map (λ w. string_bytes w) c.in-Some.behind.now in
    let verb = c.in-Some-verb_of.verb in
    let word = verb_word c.in-Some.word.now verb (sym c.in-Some-verb_of.ensures) in
    task_asks _ behind verb (given_by c.in-Ok.line) (Some c.in-Some-task_in.task)
    (begins _ behind c.in-Some.word.now (word_of verb) c.in-Some.ensures word) c.in-Ok.ensures
    c.in-Some-task_in.ensures

pub returns-in-None : goal.returns-in-None
returns-in-None c =
    let behind = map (λ w. string_bytes w) c.in-Some.behind.now in
    let verb = c.in-Some-verb_of.verb in
    let word = verb_word c.in-Some.word.now verb (sym c.in-Some-verb_of.ensures) in
    task_asks _ behind verb (given_by c.in-Ok.line) None
    (begins _ behind c.in-Some.word.now (word_of verb) c.in-Some.ensures word) c.in-Ok.ensures
    c.in-None.ensures

pub returns-in-Err : goal.returns-in-Err
returns-in-Err c =
    let behind = map (λ w. string_bytes w) c.in-Some.behind.now in
    let verb = c.in-Some-verb_of.verb in
    let word = verb_word c.in-Some.word.now verb (sym c.in-Some-verb_of.ensures) in
    unmatched _ behind verb c.in-Err.fault
    (begins _ behind c.in-Some.word.now (word_of verb) c.in-Some.ensures word) c.in-Err.ensures
