use Rattle.schema_tab.specs.Shapes as shapes
use Rattle.schema_tab.proofs.next_value.next_number.Goals as goal

pub next_value-requires : goal.next_value-requires
next_value-requires c = (shapes.number, c.requires)
