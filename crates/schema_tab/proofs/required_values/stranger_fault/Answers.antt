use Rattle.std.proofs.Common.{refl}
use Rattle.schema_rows.specs.Faults.{no_object, unknown}
use Rattle.schema_tab.proofs.required_values.stranger_fault.Goals as goal

pub returns-in-Some : goal.returns-in-Some
returns-in-Some c = λ n family foreign.
    let o = c.in-Some.ensures in
    unknown _ _ _ _ family _ _ _ refl o (foreign _ _ _ o) (c.unknown_fault.ensures n)

pub returns-in-None : goal.returns-in-None
returns-in-None c = λ n family foreign. no_object _ _ _ _ family refl c.in-None.ensures (c.not_object_fault.ensures n)
