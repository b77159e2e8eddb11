use Rattle.std.proofs.Common.{Some, sym, ap, ◌∙◌}
use Rattle.std.specs.Option.{option_copied}
use Rattle.json_value.specs.declared.Json.{Map}
use Rattle.schema_tab.proofs.Objects.{no_schema}
use Rattle.schema_tab.proofs.schema_names.found_object.Goals as goal

pub returns-in_err-name-in-Str : goal.returns-in_err-name-in-Str
returns-in_err-name-in-Str c =
    let member = sym c.get.ensures ∙ (ap option_copied c.in_ok-text.was ∙ ap Some c.in-Str.is) in
    rw c.from_residual-in_err-name-in-Str.ensures (no_schema c.args.value.now _ _ (c.in-Map.is ∙ ap Map (sym c.get-members.ensures)) member (rw c.as_str.ensures at c.in_err-name-in-Str.ensures))
