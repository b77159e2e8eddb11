-- The spaces before a line.
use Rattle.std.proofs.Common.{◌≡◌, ◌<◌, ◌+◌, ◌*◌, ℕ, [], ◌∷◌, ◌++◌, take, replicate, ap, ◌∙◌, arith}
use Rattle.std.proofs.lemmas.List.{take-replicate, replicate-append-replicate}
use Rattle.json_text.specs.declared.level.Level.{Few, Inside}
use Rattle.json_text.specs.declared.level.Level.TheOpen.{Level-F}
use Rattle.json_text.specs.declared.level.Level.TheFolds.{fold-roll-Level}
use Rattle.json_text.specs.Levels.{deep, deep_step}
use Rattle.json_text.specs.Layout.{indent}

pub deep-Few : (shallow : _) → deep (Few shallow) ≡ shallow.levels
unfolding Rattle.json_text.specs.declared.level.Level.TheViews.roll-Level denote.Hole.Carrier.roll
deep-Few shallow = fold-roll-Level ℕ deep_step (Level-F.Few shallow)

pub deep-Inside : (outer : _) → deep (Inside outer) ≡ deep outer.now + 1
unfolding Rattle.json_text.specs.declared.level.Level.TheViews.roll-Level denote.Hole.Carrier.roll
deep-Inside outer = fold-roll-Level ℕ deep_step (Level-F.Inside outer)

-- the spaces of one level more
pub indent_more : (n : ℕ) → indent n ++ (32 ∷ 32 ∷ 32 ∷ 32 ∷ []) ≡ indent (n + 1)
indent_more n = replicate-append-replicate (4 * n) 4 32 ∙ ap (λ k. replicate k 32) (omega arith)

-- the spaces of a few levels, of those of 128
pub indent_of_many : (n : ℕ) → n < 129 → take (4 * n) (replicate 512 32) ≡ indent n
indent_of_many n few = take-replicate (4 * n) 512 32 (omega arith)
