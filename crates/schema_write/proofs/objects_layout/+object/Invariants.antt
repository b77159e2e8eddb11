use Rattle.std.proofs.Common.{◌≡◌, ◌∷◌, [], ℕ, drop, map}
use Rattle.dev_io.specs.Buffer.{standing}
use Rattle.dev_io.proofs.Leaving.{Leaves}
use Rattle.json_text.specs.Levels.{deep}
use Rattle.json_text.specs.Layout.{item_lines}
use Rattle.schema_write.specs.Objects.{object_in}
use Rattle.schema_write.specs.Styles.{style_of}
use Rattle.schema_write.proofs.objects_layout.+object.Given as goal

-- the next line has this byte before its line feed
abbrev pub invariant-put_object_lines-loop-object : goal.invariant-put_object_lines-loop-object
invariant-put_object_lines-loop-object g l =
    let stand = standing g.W.Out.known g.W.Out.faults in
    (head : ℕ) × (l.lead ≡ head ∷ 10 ∷ [])
    × Leaves (stand l.fn.out l.fn.buffer) (stand l.out l.buffer)
    (item_lines 91 (deep l.level) (map (object_in (style_of l.family)) l.list))
    (item_lines head (deep l.level) (map (object_in (style_of l.family)) (drop l.object-index l.list)))
