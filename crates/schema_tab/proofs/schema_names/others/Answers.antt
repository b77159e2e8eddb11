use Rattle.std.proofs.Common.{ℕ, List, not, ◌||◌}
use Rattle.std.specs.Str.{bytes_eq}
use Rattle.json_value.specs.declared.Json.{Json}
use Rattle.schema_rows.specs.Schemas.{schema_key, rows_of}
use Rattle.schema_rows.specs.Families.{is_row}
use Rattle.std.proofs.lemmas.List.{take_all}
use Rattle.schema_tab.proofs.KeptMembers.{AreDistinct-filter}
use Rattle.schema_tab.proofs.schema_names.others.Goals as goal

pub of-requires-2 : goal.of-requires-2
of-requires-2 c =
    let members = c.as_slice-member-items.result.now in
    let distinct = rw (← c.as_slice-member-items.ensures.pairs) at c.as_slice-member-items.ensures.distinct in
    rw (c.loop-member.invariant, take_all c.loop-member.member-index members c.loop-member-test.false)
    (AreDistinct-filter (λ (m : List ℕ × Json). not (bytes_eq m.0 schema_key || is_row (rows_of c.args.schema) m.0)) members distinct)
