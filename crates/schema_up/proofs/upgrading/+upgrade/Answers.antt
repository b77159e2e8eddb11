use Rattle.std.proofs.Common.{arith, inl, inr, ap, sym, ◌∙◌, length}
use Rattle.std.proofs.lemmas.Result.{IfOk-weaker}
use Rattle.json_value.specs.declared.Json.{size-Json, List as JsonOfList, Map}
use Rattle.schema_up.specs.UpgradeRows.{member_row}
use Rattle.schema_up.specs.Upgrades.{pair_at, upgraded_at, items_at, map_at}
use Rattle.schema_up.proofs.Levels.{upgraded_at-Map, upgraded_at-List, names_at, same_items, same_pairs}
use Rattle.schema_up.proofs.Steps.{done-more, done-all, length-done, next_was, no_deeper, no_deeper_value}
use Rattle.schema_up.proofs.upgrading.+upgrade.Goals as goal

pub each_item-upgrade_at-requires : goal.each_item-upgrade_at-requires
each_item-upgrade_at-requires t c =
    let long = ap length c.in_ok-list.ensures in
    let was = next_was (λ value. upgraded_at value c.args.row) c.loop-index.index c.args.items c.loop-index.list.items c.index_mut-item.result.now c.loop-index.invariant c.index_mut-item.ensures.value in
    let below = no_deeper size-Json c.args.items c.loop-index.index c.index_mut-item.result.now (omega (arith, long)) was in
    let same = ap size-Json c.replace-value.ensures.value in
    (omega (arith, c.decreases, below, same), tt)

pub each_item-loop-index-preserved : goal.each_item-loop-index-preserved
each_item-loop-index-preserved t c =
    let long = ap length c.in_ok-list.ensures in
    let is = c.in_ok-item.ensures ∙ ap (λ value. upgraded_at value c.args.row) c.replace-value.ensures.value in
    done-more (λ value. upgraded_at value c.args.row) c.loop-index.index c.args.items c.loop-index.list.items c.index_mut-item.result.now c.in_ok-item.field-0 (omega (arith, long)) c.loop-index.invariant
    c.index_mut-item.ensures.value is

pub each_item-returns : goal.each_item-returns
each_item-returns t c =
    let long = ap length c.in_ok-list.ensures in
    let all = c.loop-index.invariant ∙ done-all (λ value. upgraded_at value c.args.row) c.loop-index.index c.args.items (omega (arith, long)) in
    IfOk-weaker c.of.result _ _ (λ made is. is ∙ all) c.of.ensures

pub each_member-upgrade_at-requires : goal.each_member-upgrade_at-requires
each_member-upgrade_at-requires t c =
    let long = ap length c.into_vec-pairs.ensures.pairs in
    let was = next_was (pair_at c.args.row c.args.schema) c.loop-index.index c.args.members c.loop-index.pairs.items c.index_mut-pair.result.now c.loop-index.invariant c.index_mut-pair.ensures.value in
    let below = no_deeper_value size-Json c.args.members c.loop-index.index c.index_mut-pair.result.now (omega (arith, long)) was in
    let same = ap size-Json c.replace-value.ensures.value in
    (omega (arith, c.decreases, below, same), tt)

pub each_member-loop-index-preserved : goal.each_member-loop-index-preserved
each_member-loop-index-preserved t c =
    let long = ap length c.into_vec-pairs.ensures.pairs in
    let pair = c.index_mut-pair.result.now in
    let inner = c.member-inner.ensures ∙ ap (member_row c.args.row c.args.schema) c.as_str.ensures in
    let is = c.in_ok-pair.ensures ∙ ap (λ value. upgraded_at value c.member-inner.result) c.replace-value.ensures.value ∙ ap (upgraded_at pair.1) inner in
    done-more (pair_at c.args.row c.args.schema) c.loop-index.index c.args.members c.loop-index.pairs.items pair (pair.0, c.in_ok-pair.field-0) (omega (arith, long)) c.loop-index.invariant
    c.index_mut-pair.ensures.value (ap (λ value. (pair.0, value)) is)

pub each_member-of-requires : goal.each_member-of-requires
each_member-of-requires t c =
    let long = ap length c.into_vec-pairs.ensures.pairs in
    let all = c.loop-index.invariant ∙ done-all (pair_at c.args.row c.args.schema) c.loop-index.index c.args.members (omega (arith, long)) in
    rw (all, names_at c.args.row c.args.schema c.args.members) c.into_vec-pairs.ensures.distinct

pub each_member-returns : goal.each_member-returns
each_member-returns t c =
    let long = ap length c.into_vec-pairs.ensures.pairs in
    c.of.ensures ∙ c.loop-index.invariant ∙ done-all (pair_at c.args.row c.args.schema) c.loop-index.index c.args.members (omega (arith, long))

pub each_item-index_mut-item-requires : goal.each_item-index_mut-item-requires
each_item-index_mut-item-requires t c =
    let long = ap length c.in_ok-list.ensures in
    let now = ap length c.loop-index.invariant ∙ length-done (λ value. upgraded_at value c.args.row) c.loop-index.index c.args.items in
    omega (arith, long, now)

pub each_member-index_mut-pair-requires : goal.each_member-index_mut-pair-requires
each_member-index_mut-pair-requires t c =
    let long = ap length c.into_vec-pairs.ensures.pairs in
    let now = ap length c.loop-index.invariant ∙ length-done (pair_at c.args.row c.args.schema) c.loop-index.index c.args.members in
    omega (arith, long, now)

pub upgrade_at-returns-in_ok-upgrade_items-in-List : goal.upgrade_at-returns-in_ok-upgrade_items-in-List
upgrade_at-returns-in_ok-upgrade_items-in-List t c =
    let is = c.in_ok-upgrade_items-in-List.ensures ∙ ap (λ row. items_at row c.in-List.items) c.item.ensures in
    ap JsonOfList is ∙ sym (upgraded_at-List c.in-List.items c.args.row) ∙ ap (λ value. upgraded_at value c.args.row) (sym c.in-List.is)

pub upgrade_at-returns-in_ok-upgrade_map-in-Map : goal.upgrade_at-returns-in_ok-upgrade_map-in-Map
upgrade_at-returns-in_ok-upgrade_map-in-Map t c =
    ap Map c.in_ok-upgrade_map-in-Map.ensures ∙ sym (upgraded_at-Map c.in-Map.members c.args.row) ∙ ap (λ value. upgraded_at value c.args.row) (sym c.in-Map.is)

pub upgrade_items-returns-in-Kept : goal.upgrade_items-returns-in-Kept
upgrade_items-returns-in-Kept t c = sym (ap (λ row. items_at row c.args.items) c.in-Kept.is ∙ same_items c.args.items)

pub upgrade_map-returns-in-Kept : goal.upgrade_map-returns-in-Kept
upgrade_map-returns-in-Kept t c = elim c.in-Kept.is [
  | inl e ↦ sym (ap (λ row. map_at row c.args.members) e ∙ same_pairs c.args.members)
  | inr e ↦ sym (ap (λ row. map_at row c.args.members) e ∙ same_pairs c.args.members)
]
