use Rattle.std.proofs.Common.{◌∙◌, ◌++◌, ap, map}
use Rattle.schema_rows.specs.Rows.{row_of}
use Rattle.schema_rows.specs.Families.{others}
use Rattle.schema_write.proofs.Distinct.{others_distinct}
use Rattle.schema_write.proofs.writing.other_members.Goals as goal

pub of-requires : goal.of-requires
of-requires c =
    rw (c.in_ok-put_others.ensures.added, c.in_ok-pairs.ensures.items)
    (others_distinct (map row_of c.table.result.now) c.args.rest.now
    c.in_ok-put_others.ensures.distinct)

pub returns : goal.returns
returns c =
    let rest = c.args.rest.now in
    c.of.ensures ∙ c.in_ok-put_others.ensures.added
    ∙ ap (λ l. l ++ others (map row_of c.table.result.now) rest) c.in_ok-pairs.ensures.items
    ∙ ap (λ rows. others rows rest) c.table.ensures
