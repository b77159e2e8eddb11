use Rattle.std.proofs.Common.{◌≡◌, ◌∷◌, [], ℕ, drop, map}
use Rattle.dev_io.specs.Buffer.{standing}
use Rattle.dev_io.proofs.Leaving.{Leaves}
use Rattle.json_text.specs.Levels.{deep}
use Rattle.json_text.specs.Layout.{item_lines}
use Rattle.schema_write.specs.Objects.{marker_by}
use Rattle.schema_write.specs.Styles.{style_of}
use Rattle.schema_write.proofs.markers_layout.put_marker_lines.Given as goal

-- the next line has this byte before its line feed
abbrev pub invariant-loop-marker : goal.invariant-loop-marker
invariant-loop-marker g l =
    let stand = standing g.W.Out.known g.W.Out.faults in
    (head : ℕ) × (l.lead ≡ head ∷ 10 ∷ [])
    × Leaves (stand l.fn.out l.fn.buffer) (stand l.out l.buffer)
    (item_lines 91 (deep l.level) (map (marker_by (style_of l.family).mark) l.list))
    (item_lines head (deep l.level) (map (marker_by (style_of l.family).mark) (drop l.marker-index l.list)))
