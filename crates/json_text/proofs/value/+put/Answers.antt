use Rattle.std.proofs.Common.{sym, arith, refl, length, ◌<◌, ◌∙◌}
use Rattle.std.proofs.lemmas.Bool.Decides.{nat_tests}
use Rattle.dev_io.proofs.BufferLemmas.{puts_then, puts_as, puts_none}
use Rattle.dev_io.proofs.PartLemmas.{drop_past}
use Rattle.json_text.specs.Levels.{deep}
use Rattle.dev_io.proofs.Leaving.{leaves_all, leaves_then}
use Rattle.json_text.proofs.Lines.{text_at-List, text_at-Map, item_lines-next, member_lines-next, list_text-lines, object_text-lines}
use Rattle.json_text.proofs.value.+put.Goals as goal

pub put_value-returns-in-List : goal.put_value-returns-in-List
put_value-returns-in-List g t c = puts_as _ c.put_list.ensures (rw (c.in-List.is, c.as_slice.ensures) (sym (text_at-List c.in-List.list (deep c.args.level.now))))

pub put_value-returns-in-Map : goal.put_value-returns-in-Map
put_value-returns-in-Map g t c = puts_as _ c.put_object.ensures (rw (c.in-Map.is, c.get.ensures) (sym (text_at-Map c.in-Map.members (deep c.args.level.now))))

pub put_list-returns : goal.put_list-returns
put_list-returns g t c =
    let some : 0 < length c.args.items.now = grind (arith, nat_tests) in
    rw (list_text-lines (deep c.args.level.now) c.args.items.now some)
    (puts_then (rw c.inside.ensures at c.put_items.ensures) c.put_end.ensures)

pub put_object-returns : goal.put_object-returns
put_object-returns g t c =
    let some : 0 < length c.args.members.now = grind (arith, nat_tests, c.as_slice.ensures.pairs) in
    rw (object_text-lines (deep c.args.level.now) c.args.members.now some)
    (puts_then (rw c.inside.ensures at c.put_members.ensures) c.put_end.ensures)

pub put_items-loop-item-init : goal.put_items-loop-item-init
put_items-loop-item-init g t c = (91, refl, leaves_all _ _)

pub put_items-loop-item-preserved : goal.put_items-loop-item-preserved
put_items-loop-item-preserved g t c =
    let kept = c.loop-item.invariant in
    let text = item_lines-next c.loop-item.lead.now kept.0 (deep c.args.level.now) c.args.items.now c.loop-item.item-index c.item-item.result kept.1 (omega arith) in
    (44, refl, leaves_then (leaves_then (rw (text, ← c.item-item.is) at kept.2) c.put_line.ensures) c.put_value.ensures)

pub put_items-returns : goal.put_items-returns
put_items-returns g t c = c.loop-item.invariant.2.ends _ (rw (drop_past c.args.items.now c.loop-item.item-index (omega arith)) (puts_none _))

pub put_members-loop-member-init : goal.put_members-loop-member-init
put_members-loop-member-init g t c = (123, refl, leaves_all _ _)

pub put_members-loop-member-preserved : goal.put_members-loop-member-preserved
put_members-loop-member-preserved g t c =
    let kept = c.loop-member.invariant in
    let members = c.as_slice-member-items.result.now in
    let text = member_lines-next c.loop-member.lead.now kept.0 (deep c.args.level.now) members c.loop-member.member-index c.member-item.result kept.1 c.loop-member-test.true in
    let name = c.as_bytes.ensures.value ∙ c.as_str.ensures in
    (44, refl, leaves_then (leaves_then (leaves_then (rw (text, ← c.member-item.is) at kept.2) c.put_line.ensures) (rw name at c.put_name.ensures)) c.put_value.ensures)

pub put_members-returns : goal.put_members-returns
put_members-returns g t c =
    let left = drop_past c.as_slice-member-items.result.now c.loop-member.member-index c.loop-member-test.false in
    rw (← c.as_slice-member-items.ensures.pairs) (c.loop-member.invariant.2.ends _ (rw left (puts_none _)))
