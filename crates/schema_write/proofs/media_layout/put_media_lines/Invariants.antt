use Rattle.std.proofs.Common.{◌≡◌, ◌∷◌, [], ℕ, drop, map}
use Rattle.dev_io.specs.Buffer.{standing}
use Rattle.dev_io.proofs.Leaving.{Leaves}
use Rattle.json_text.specs.Levels.{deep}
use Rattle.json_text.specs.Layout.{member_lines}
use Rattle.schema_write.specs.Objects.{medium_pair}
use Rattle.schema_write.proofs.media_layout.put_media_lines.Given as goal

-- the next line has this byte before its line feed
abbrev pub invariant-loop-pair : goal.invariant-loop-pair
invariant-loop-pair g l =
    let stand = standing g.W.Out.known g.W.Out.faults in
    (head : ℕ) × (l.lead ≡ head ∷ 10 ∷ [])
    × Leaves (stand l.fn.out l.fn.buffer) (stand l.out l.buffer)
    (member_lines 123 (deep l.level) (map medium_pair l.pair-items))
    (member_lines head (deep l.level) (map medium_pair (drop l.pair-index l.pair-items)))
