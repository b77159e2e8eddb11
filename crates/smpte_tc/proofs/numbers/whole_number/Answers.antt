use Rattle.std.proofs.Common.{rules, subst, sym}
use Rattle.std.proofs.lemmas.Bool.{false≢true}
use Rattle.smpte_tc.specs.Digits.{IsWhole}
use Rattle.smpte_tc.proofs.WholeNumbers.{whole_of, read_number, is_read}
use Rattle.smpte_tc.proofs.numbers.whole_number.Goals as goal

pub returns-then-not-is_whole : goal.returns-then-not-is_whole
returns-then-not-is_whole c = λ n w.
    false≢true (c.if-not-is_whole.ensures.1 (subst IsWhole (sym c.as_bytes.ensures.value) (whole_of c.args.word.now n w)))

pub returns-in-Ok : goal.returns-in-Ok
returns-in-Ok c =
    let w = subst IsWhole c.as_bytes.ensures.value (c.if-not-is_whole.ensures.0 (search rules)) in
    read_number c.args.word.now c.in-Ok.number w c.in-Ok.ensures.value.0.1

pub returns-in-Err : goal.returns-in-Err
returns-in-Err c =
    let w = subst IsWhole c.as_bytes.ensures.value (c.if-not-is_whole.ensures.0 (search rules)) in
    absurd (c.in-Err.ensures.value.0 (is_read c.args.word.now w))
