use Rattle.std.proofs.Common.{◌≡◌, ◌∷◌, [], ℕ, drop}
use Rattle.dev_io.specs.Buffer.{standing}
use Rattle.json_text.specs.Levels.{deep}
use Rattle.json_text.specs.Layout.{item_lines, member_lines}
use Rattle.dev_io.proofs.Leaving.{Leaves}
use Rattle.json_text.proofs.value.+put.Given as goal

-- the next line has this byte before its line feed
abbrev pub invariant-put_items-loop-item : goal.invariant-put_items-loop-item
invariant-put_items-loop-item g l =
    let stand = standing g.W.Out.known g.W.Out.faults in
    (head : ℕ) × (l.lead ≡ head ∷ 10 ∷ []) × Leaves (stand l.fn.out l.fn.buffer) (stand l.out l.buffer) (item_lines 91 (deep l.level) l.items) (item_lines head (deep l.level) (drop l.item-index l.items))

abbrev pub invariant-put_members-loop-member : goal.invariant-put_members-loop-member
invariant-put_members-loop-member g l =
    let stand = standing g.W.Out.known g.W.Out.faults in
    (head : ℕ) × (l.lead ≡ head ∷ 10 ∷ []) × Leaves (stand l.fn.out l.fn.buffer) (stand l.out l.buffer) (member_lines 123 (deep l.level) l.member-items) (member_lines head (deep l.level) (drop l.member-index l.member-items))
