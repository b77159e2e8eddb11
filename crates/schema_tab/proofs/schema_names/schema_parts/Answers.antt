use Rattle.std.proofs.Common.{inl, inr, arith}
use Rattle.std.proofs.lemmas.Bool.Decides.{nat_tests}
use Rattle.std.proofs.lemmas.Bool.{both_ways}
use Rattle.schema_tab.proofs.Points.{no_parts, has_point}
use Rattle.schema_tab.proofs.schema_names.schema_parts.Goals as goal

pub returns-in_err-name : goal.returns-in_err-name
returns-in_err-name c = rw c.from_residual.ensures (λ name version. has_point c.args.text.now name version c.in_err-name.ensures)

pub returns-then-is_empty : goal.returns-then-is_empty
returns-then-is_empty c =
    no_parts c.args.text.now c.in_ok-name.name.now c.in_ok-name.digits.now c.in_ok-name.ensures.0 c.in_ok-name.ensures.1
    (record { why = inl (grind (arith, nat_tests, c.if-is_empty.ensures)) })

pub returns-then-is_empty-2 : goal.returns-then-is_empty-2
returns-then-is_empty-2 c =
    no_parts c.args.text.now c.in_ok-name.name.now c.in_ok-name.digits.now c.in_ok-name.ensures.0 c.in_ok-name.ensures.1
    (record { why = inr (inl (grind (arith, nat_tests, c.if-is_empty-2.ensures))) })

pub returns-then-digits-gt9 : goal.returns-then-digits-gt9
returns-then-digits-gt9 c =
    no_parts c.args.text.now c.in_ok-name.name.now c.in_ok-name.digits.now c.in_ok-name.ensures.0 c.in_ok-name.ensures.1
    (record { why = inr (inr (inl c.if-digits-gt9.true)) })

pub returns-then-not-are_digits : goal.returns-then-not-are_digits
returns-then-not-are_digits c =
    no_parts c.args.text.now c.in_ok-name.name.now c.in_ok-name.digits.now c.in_ok-name.ensures.0 c.in_ok-name.ensures.1
    (record { why = inr (inr (inr (λ all. both_ways _ c.if-not-are_digits.true ((rw c.as_bytes.ensures.value at c.are_digits.ensures).1 all)))) })

pub returns : goal.returns
returns c = record {
  digits = c.in_ok-name.digits.now;
  spelled = c.in_ok-name.ensures.0;
  some_name = grind (arith, nat_tests, c.if-is_empty.ensures);
  no_point = c.in_ok-name.ensures.1;
  some_digits = grind (arith, nat_tests, c.if-is_empty-2.ensures);
  few_digits = c.if-digits-gt9.false;
  all_digits = (rw c.as_bytes.ensures.value at c.are_digits.ensures).0 c.if-not-are_digits.false;
  version_is = rw c.as_bytes-2.ensures.value at c.number_of.ensures;
}
