use Rattle.std.proofs.Common.{subst, ◌≡◌, ◌++◌, ◌&&◌, ◌==◌, ◌∷◌, [], cond}
use Rattle.std.specs.Str.{bytes_eq}
use Rattle.std.proofs.lemmas.Map.Text.{btree_map_updates_str}
use Rattle.flat_stack.specs.Givers.{row, rows_at}
use Rattle.flat_stack.proofs.OwnerLemmas.{owner_more}
use Rattle.flat_stack.proofs.owners.add_owner.Goals as goal

pub returns : goal.returns
returns c = λ kind n.
    subst (λ own. row (rows_at kind c.insert.new.self) n ≡ row (rows_at kind c.args.owners.now) n
    ++ cond (bytes_eq own kind && (n == c.args.seat.index)) (c.args.input ∷ []) [])
    c.root_kind-kind.ensures
    (owner_more c.args.owners.now c.rows_taken-rows.new.owners c.insert.new.self
    c.rows_taken-rows.result c.add_to_row.new.rows c.root_kind-kind.result.now kind
    c.args.seat.index n c.args.input c.rows_taken-rows.ensures.value
    c.rows_taken-rows.ensures.gone
    (btree_map_updates_str c.root_kind-kind.result.now c.rows_taken-rows.new.owners
    c.insert.new.self _ c.in_ok-insert.ensures.updates)
    (c.in_ok-add_to_row.ensures n))
