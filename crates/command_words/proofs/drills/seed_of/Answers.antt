use Rattle.std.proofs.Common.{rules, subst, sym}
use Rattle.std.proofs.lemmas.Bool.{false≢true}
use Rattle.command_words.specs.Drills.{IsUnsigned}
use Rattle.command_words.proofs.Seeds.{is_read, read_seed, seed_unsigned}
use Rattle.command_words.proofs.drills.seed_of.Goals as goal

pub returns-then-not-is_unsigned : goal.returns-then-not-is_unsigned
returns-then-not-is_unsigned c = λ n s. false≢true (c.if-not-is_unsigned.ensures.1
    (subst IsUnsigned (sym c.as_bytes.ensures.value) (seed_unsigned c.args.word.now n s)))

pub returns-in-Ok : goal.returns-in-Ok
returns-in-Ok c =
    let unsigned = c.if-not-is_unsigned.ensures.0 (search rules) in
    let w = subst IsUnsigned c.as_bytes.ensures.value unsigned in
    read_seed c.args.word.now c.in-Ok.seed w c.in-Ok.ensures.value.0.0.0
    c.in-Ok.ensures.value.0.0.1 c.in-Ok.ensures.value.0.1

pub returns-in-Err : goal.returns-in-Err
returns-in-Err c = λ n s. absurd (c.in-Err.ensures.value.0 (is_read c.args.word.now n s))
