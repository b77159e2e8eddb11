-- How many levels a chain of them stands for.
use Rattle.std.specs.Prelude.{ℕ, ◌+◌}
use Rattle.json_text.specs.declared.level.Level.{Level, fold-Level}
use Rattle.json_text.specs.declared.level.Level.TheOpen.{Level-F}

-- one link, with the levels of those around it known
abbrev pub deep_step : Level-F ℕ → ℕ
deep_step (Level-F.Few shallow) = shallow.levels
deep_step (Level-F.Inside outer) = outer.now + 1

-- how many lists and objects stand around a value
abbrev pub deep : Level → ℕ
deep = fold-Level ℕ deep_step
