use Rattle.std.proofs.lemmas.Map.Text.{btree_map_updates_str}
use Rattle.flat_stack.proofs.KnowLemmas.{track_added}
use Rattle.flat_stack.proofs.inputs.add_track.Goals as goal

pub returns : goal.returns
returns c = λ l knows counted.
    track_added c.args.tracks.now c.taken-of_kind.new.tracks c.insert.new.self l c.args.item
    c.taken-of_kind.result c.push.new.self c.root_kind-kind.result.now c.len-index.result
    c.args.number c.requires c.root_kind-kind.ensures knows c.taken-of_kind.ensures.value
    c.taken-of_kind.ensures.gone c.len-index.ensures c.in_ok-push.ensures.items
    (btree_map_updates_str c.root_kind-kind.result.now c.taken-of_kind.new.tracks
    c.insert.new.self _ c.in_ok-insert.ensures.updates) counted
