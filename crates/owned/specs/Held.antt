-- The value that is held, wherever it lies.
use Rattle.owned.specs.declared.shared.Held.{Held}
use Rattle.owned.specs.declared.shared.Held.TheVariants.{Own, Common}

abbrev pub value_of : {T : Type 0} → Held T → T
value_of (Own value) = value
value_of (Common rc) = rc.value
