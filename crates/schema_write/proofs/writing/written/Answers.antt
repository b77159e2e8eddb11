use Rattle.std.proofs.Common.{arith, ◌∙◌, sym, ap, map, length, ◌∷◌, ◌++◌}
use Rattle.json_value.specs.declared.Json.{Str, Map}
use Rattle.schema_rows.specs.Rows.{row_of}
use Rattle.schema_rows.specs.Schemas.{schema_key, text_of}
use Rattle.schema_rows.specs.Families.{others}
use Rattle.schema_write.specs.Written.{named_values}
use Rattle.schema_write.proofs.AddedMembers.{object_added, table-length}
use Rattle.schema_write.proofs.Distinct.{written_distinct}
use Rattle.schema_write.proofs.writing.written.Goals as goal

pub put_rows-requires : goal.put_rows-requires
put_rows-requires c =
    let same = table-length c.table-table.result.now c.args.values.items
    (c.requires ∙ sym (ap length c.table-table.ensures)) in
    omega (arith, same)

pub of-requires-3 : goal.of-requires-3
of-requires-3 c =
    let all = object_added _ _ _ _ _ _ _ _ _ _ c.in_ok-put_others.ensures.added
    c.in_ok-put_rows.ensures c.in_ok-push.ensures.items c.in_ok-pairs.ensures.items
    c.in_ok-of-2.ensures (c.in_ok-of.ensures ∙ c.text.ensures) in
    rw all (written_distinct c.args.schema (map row_of c.table-table.result.now) c.args.values.items
    c.args.rest.now (Str (text_of c.args.schema)) c.table-table.ensures
    (c.requires ∙ sym (ap length c.table-table.ensures)) c.in_ok-put_others.ensures.distinct)

pub returns : goal.returns
returns c =
    let all = object_added _ _ _ _ _ _ _ _ _ _ c.in_ok-put_others.ensures.added
    c.in_ok-put_rows.ensures c.in_ok-push.ensures.items c.in_ok-pairs.ensures.items
    c.in_ok-of-2.ensures (c.in_ok-of.ensures ∙ c.text.ensures) in
    ap Map (c.in_ok-of-3.ensures ∙ c.of-3.ensures ∙ all)
    ∙ ap (λ r. Map ((schema_key, Str (text_of c.args.schema))
    ∷ (named_values r c.args.values.items ++ others r c.args.rest.now))) c.table-table.ensures
