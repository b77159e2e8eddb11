use Rattle.std.proofs.Common.{rules, ap, ◌≡◌, Option, Some, None}
use Rattle.std.specs.Prelude.{IsSomeAnd}
use Rattle.clap.specs.declared.builder.range.ValueRange.{ValueRange}
use Rattle.command_words.proofs.options.files.Goals as goal

some_is : (o : Option ValueRange) (x : ValueRange) → IsSomeAnd o (λ r. r ≡ x) → o ≡ Some x
some_is None x h = absurd h
some_is (Some r) x h = ap Some h

pub returns-clause-rule : goal.returns-clause-rule
returns-clause-rule c =
    let many = some_is _ _ c.num_args.ensures.1 in search (rules, many)
