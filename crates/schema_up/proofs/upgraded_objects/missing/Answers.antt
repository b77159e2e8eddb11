use Rattle.std.proofs.Common.{refl, ap, ◌∙◌}
use Rattle.json_value.specs.declared.Json.{Map}
use Rattle.schema_up.proofs.upgraded_objects.missing.Goals as goal

pub returns : goal.returns
returns c =
    ap Map c.in_ok-of-3.ensures
    ∙ rw (c.in_ok-put.ensures.put, c.new-members.ensures, c.in_ok-of-2.ensures, c.in_ok-of.ensures) refl
