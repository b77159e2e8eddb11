use Rattle.std.proofs.Common.{ℕ, refl, sym, ap, subst, ◌∙◌, List, map, arith}
use Rattle.std.proofs.lemmas.Result.{err_from_is_err_and}
use Rattle.json_value.specs.declared.Json.{Json}
use Rattle.otio_model.specs.declared.media.Media.{Media}
use Rattle.schema_rows.specs.declared.faults.SchemaFault.{SchemaFault}
use Rattle.schema_rows.specs.declared.schemas.TheConstants as C
use Rattle.schema_rows.specs.Rows as R
use Rattle.schema_rows.specs.Rows.{Row, row_of, kind_of}
use Rattle.schema_rows.specs.Numerals.{HasNumerals}
use Rattle.schema_rows.specs.Readings.{known, item_fields, object_fields, effect_reading, marker_reading, medium_reading}
use Rattle.schema_rows.specs.Families.{child, member, medium}
use Rattle.schema_rows.specs.Stands.{Gives_rows}
use Rattle.schema_rows.specs.Faults.{Refuses, Refuses_reading, in_span, in_time, in_reference, in_stack, in_child, in_member, in_medium, newer, in_rows, Refuses_rows}
use Rattle.schema_tab.proofs.Objects.{foreign_by}
use Rattle.schema_tab.specs.Depths.{depth}
use Rattle.schema_tab.proofs.Exits.{item_inside, pair_inside, list_more, list_fails, items_end, objects_end, effects_end, markers_end, second_at, names_more, media_end, row_more, row_fails, row_end}
use Rattle.schema_tab.proofs.Measures.{depth-Map, depth-List, looked_up_falls, looked_up_numerals}
use Rattle.schema_tab.proofs.Members.{row_given, row_refused, row_absent, row_missing, items_refused, objects_refused, effects_refused, markers_refused, media_refused, stack_refused, gives_as, no_list}
use Rattle.schema_tab.proofs.Asking.{memory_only, wrong_field}
use Rattle.schema_tab.proofs.Whole.{object_read, object_refused, foreign_any}
use Rattle.schema_tab.proofs.reader.+object.Goals as goal

pub read_rows-returns-in_err-value-clause-fault : goal.read_rows-returns-in_err-value-clause-fault
read_rows-returns-in_err-value-clause-fault t c =
    let p = err_from_is_err_and c.from_residual-in_err-value.result c.from_residual-in_err-value.ensures.1 in rw (p.1, p.2) (λ n. row_fails c.args.place.now c.args.members.now c.args.rows.now c.loop-row.row-index _ c.loop-row.values.items _ c.loop-row.invariant c.loop-row-test.true (c.in_err-value.ensures.fault n))

pub read_rows-loop-row-preserved : goal.read_rows-loop-row-preserved
read_rows-loop-row-preserved t c =
    row_more c.args.place.now c.args.members.now c.args.rows.now c.loop-row.row-index _ c.loop-row.values.items _ c.in_ok-value.value c.loop-row.invariant c.loop-row-test.true c.in_ok-push.ensures.items c.in_ok-value.ensures.value

pub read_rows-returns-clause-values : goal.read_rows-returns-clause-values
read_rows-returns-clause-values t c =
    row_end c.args.place.now c.args.members.now c.args.rows.now c.loop-row.row-index c.loop-row.values.items c.loop-row.invariant (omega (arith, c.loop-row-test.false))

pub read_row-read_member-requires : goal.read_row-read_member-requires
read_row-read_member-requires t c =
    (omega (arith, c.decreases, looked_up_falls c.args.row.now.name.now c.args.members.now c.in-Some.member.now c.in-Some.ensures.0), looked_up_numerals c.args.row.now.name.now c.args.members.now c.in-Some.member.now c.in-Some.ensures.0 c.requires.numerals)

pub read_row-returns-in-Some-clause-value : goal.read_row-returns-in-Some-clause-value
read_row-returns-in-Some-clause-value t c =
    row_given c.read_member.result (row_of c.args.row.now) c.args.members.now c.in-Some.member.now c.in-Some.ensures c.read_member.ensures.value

pub read_row-returns-in-Some-clause-fault : goal.read_row-returns-in-Some-clause-fault
read_row-returns-in-Some-clause-fault t c =
    row_refused c.read_member.result c.args.place.now (row_of c.args.row.now) c.args.members.now c.in-Some.member.now c.in-Some.ensures c.read_member.ensures.fault

pub read_row-returns-in-None-clause-value : goal.read_row-returns-in-None-clause-value
read_row-returns-in-None-clause-value t c =
    row_absent c.absent.result (row_of c.args.row.now) c.args.members.now c.in-None.ensures c.absent.ensures.value

pub read_row-returns-in-None-clause-fault : goal.read_row-returns-in-None-clause-fault
read_row-returns-in-None-clause-fault t c =
    row_missing c.absent.result c.args.place.now (row_of c.args.row.now) c.args.members.now c.in-None.ensures c.absent.ensures.fault

pub read_member-returns-in_err-found-in-Span-clause-fault : goal.read_member-returns-in_err-found-in-Span-clause-fault
read_member-returns-in_err-found-in-Span-clause-fault t c = let p = err_from_is_err_and c.from_residual.result c.from_residual.ensures.1 in rw (p.1, p.2) (λ n. in_span _ _ _ _ (ap kind_of c.in-Span.is) (c.in_err-found-in-Span.ensures.fault n))

pub read_member-returns-in_err-found-in-Time-clause-fault : goal.read_member-returns-in_err-found-in-Time-clause-fault
read_member-returns-in_err-found-in-Time-clause-fault t c = let p = err_from_is_err_and c.from_residual-in_err-found-in-Time.result c.from_residual-in_err-found-in-Time.ensures.1 in rw (p.1, p.2) (λ n. in_time _ _ _ _ (ap kind_of c.in-Time.is) (c.in_err-found-in-Time.ensures.fault n))

pub read_member-returns-in_err-found-in-Stack-clause-fault : goal.read_member-returns-in_err-found-in-Stack-clause-fault
read_member-returns-in_err-found-in-Stack-clause-fault t c =
    let p = err_from_is_err_and c.from_residual-in_err-found-in-Stack.result c.from_residual-in_err-found-in-Stack.ensures.1 in rw (p.1, p.2) (λ n. in_stack _ _ _ _ (ap kind_of c.in-Stack.is) (in_child _ _ _ _ C.STACKS refl (c.in_err-found-in-Stack.ensures.fault n)))

pub read_member-returns-in_err-found-in-Medium-clause-fault : goal.read_member-returns-in_err-found-in-Medium-clause-fault
read_member-returns-in_err-found-in-Medium-clause-fault t c =
    let p = err_from_is_err_and c.from_residual-in_err-found-in-Medium.result c.from_residual-in_err-found-in-Medium.ensures.1 in rw (p.1, p.2) (λ n. in_reference _ _ _ _ (ap kind_of c.in-Medium.is) (in_medium _ _ _ _ refl (c.in_err-found-in-Medium.ensures.fault n)))

pub read_member-returns-in_ok-found-in-Medium-clause-fault : goal.read_member-returns-in_ok-found-in-Medium-clause-fault
read_member-returns-in_ok-found-in-Medium-clause-fault t c =
    memory_only c.medium_row.result (λ (f : SchemaFault). Refuses c.args.place.now (row_of c.args.row.now) c.args.value.now f) c.medium_row.ensures.memory

pub read_member-read_media-requires : goal.read_member-read_media-requires
read_member-read_media-requires t c =
    rw c.get.ensures (omega (arith, c.decreases, ap depth c.in-Map.is, depth-Map c.in-Map.members), subst HasNumerals c.in-Map.is c.requires.numerals)

pub read_member-returns-in_ok-found-in-Stack-clause-fault : goal.read_member-returns-in_ok-found-in-Stack-clause-fault
read_member-returns-in_ok-found-in-Stack-clause-fault t c =
    stack_refused c.tracks_of.result c.args.place.now (row_of c.args.row.now) c.args.value.now (ap kind_of c.in-Stack.is) c.tracks_of.ensures.fault

pub read_member-returns-in-Map-clause-fault : goal.read_member-returns-in-Map-clause-fault
read_member-returns-in-Map-clause-fault t c =
    media_refused c.read_media.result c.args.place.now (row_of c.args.row.now) c.args.value.now c.in-Map.members (ap kind_of c.in-Media.is) c.in-Map.is (rw c.get.ensures at c.read_media.ensures.fault)

pub read_member-returns-in_default : goal.read_member-returns-in_default
read_member-returns-in_default t c =
    record { value = tt; fault = wrong_field c.args.place.now (row_of c.args.row.now) c.args.value.now R.media c.field_fault.result (ap kind_of c.in-Media.is) c.in_default.not-Map c.field_fault.ensures }

pub read_member-read_items-requires : goal.read_member-read_items-requires
read_member-read_items-requires t c =
    let is = c.in_ok-list_of-in-Items.ensures.list in
    (omega (arith, c.decreases, ap depth is, depth-List c.in_ok-list_of-in-Items.field-0.now), subst HasNumerals is c.requires.numerals)

pub read_member-returns-in_err-list_of-in-Items-clause-fault : goal.read_member-returns-in_err-list_of-in-Items-clause-fault
read_member-returns-in_err-list_of-in-Items-clause-fault t c =
    let p = err_from_is_err_and c.from_residual-in_err-list_of-in-Items.result c.from_residual-in_err-list_of-in-Items.ensures.1 in
    rw (p.1, p.2) (no_list _ _ _ R.items _ (ap kind_of c.in-Items.is) (λ wrong. wrong) c.in_err-list_of-in-Items.ensures.fault)

pub read_member-returns-in_ok-list_of-in-Items-clause-value : goal.read_member-returns-in_ok-list_of-in-Items-clause-value
read_member-returns-in_ok-list_of-in-Items-clause-value t c =
    gives_as c.read_items.result (kind_of c.args.row.now.kind) R.items c.args.value.now _ (ap kind_of c.in-Items.is) c.in_ok-list_of-in-Items.ensures.list c.read_items.ensures.value

pub read_member-returns-in_ok-list_of-in-Items-clause-fault : goal.read_member-returns-in_ok-list_of-in-Items-clause-fault
read_member-returns-in_ok-list_of-in-Items-clause-fault t c =
    items_refused c.read_items.result c.args.place.now (row_of c.args.row.now) c.args.value.now _ (ap kind_of c.in-Items.is) c.in_ok-list_of-in-Items.ensures.list c.read_items.ensures.fault

pub read_member-read_objects-requires : goal.read_member-read_objects-requires
read_member-read_objects-requires t c =
    let is = c.in_ok-list_of-in-Objects.ensures.list in
    (omega (arith, c.decreases, ap depth is, depth-List c.in_ok-list_of-in-Objects.field-0.now), subst HasNumerals is c.requires.numerals)

pub read_member-returns-in_err-list_of-in-Objects-clause-fault : goal.read_member-returns-in_err-list_of-in-Objects-clause-fault
read_member-returns-in_err-list_of-in-Objects-clause-fault t c =
    let p = err_from_is_err_and c.from_residual-in_err-list_of-in-Objects.result c.from_residual-in_err-list_of-in-Objects.ensures.1 in
    rw (p.1, p.2) (no_list _ _ _ R.objects _ (ap kind_of c.in-Objects.is) (λ wrong. wrong) c.in_err-list_of-in-Objects.ensures.fault)

pub read_member-returns-in_ok-list_of-in-Objects-clause-value : goal.read_member-returns-in_ok-list_of-in-Objects-clause-value
read_member-returns-in_ok-list_of-in-Objects-clause-value t c =
    gives_as c.read_objects.result (kind_of c.args.row.now.kind) R.objects c.args.value.now _ (ap kind_of c.in-Objects.is) c.in_ok-list_of-in-Objects.ensures.list c.read_objects.ensures.value

pub read_member-returns-in_ok-list_of-in-Objects-clause-fault : goal.read_member-returns-in_ok-list_of-in-Objects-clause-fault
read_member-returns-in_ok-list_of-in-Objects-clause-fault t c =
    objects_refused c.read_objects.result c.args.place.now (row_of c.args.row.now) c.args.value.now _ (ap kind_of c.in-Objects.is) c.in_ok-list_of-in-Objects.ensures.list c.read_objects.ensures.fault

pub read_member-read_effects-requires : goal.read_member-read_effects-requires
read_member-read_effects-requires t c =
    let is = c.in_ok-list_of-in-Effects.ensures.list in
    (omega (arith, c.decreases, ap depth is, depth-List c.in_ok-list_of-in-Effects.field-0.now), subst HasNumerals is c.requires.numerals)

pub read_member-returns-in_err-list_of-in-Effects-clause-fault : goal.read_member-returns-in_err-list_of-in-Effects-clause-fault
read_member-returns-in_err-list_of-in-Effects-clause-fault t c =
    let p = err_from_is_err_and c.from_residual-in_err-list_of-in-Effects.result c.from_residual-in_err-list_of-in-Effects.ensures.1 in
    rw (p.1, p.2) (no_list _ _ _ R.effects _ (ap kind_of c.in-Effects.is) (λ wrong. wrong) c.in_err-list_of-in-Effects.ensures.fault)

pub read_member-returns-in_ok-list_of-in-Effects-clause-value : goal.read_member-returns-in_ok-list_of-in-Effects-clause-value
read_member-returns-in_ok-list_of-in-Effects-clause-value t c =
    gives_as c.read_effects.result (kind_of c.args.row.now.kind) R.effects c.args.value.now _ (ap kind_of c.in-Effects.is) c.in_ok-list_of-in-Effects.ensures.list c.read_effects.ensures.value

pub read_member-returns-in_ok-list_of-in-Effects-clause-fault : goal.read_member-returns-in_ok-list_of-in-Effects-clause-fault
read_member-returns-in_ok-list_of-in-Effects-clause-fault t c =
    effects_refused c.read_effects.result c.args.place.now (row_of c.args.row.now) c.args.value.now _ (ap kind_of c.in-Effects.is) c.in_ok-list_of-in-Effects.ensures.list c.read_effects.ensures.fault

pub read_member-read_markers-requires : goal.read_member-read_markers-requires
read_member-read_markers-requires t c =
    let is = c.in_ok-list_of-in-Markers.ensures.list in
    (omega (arith, c.decreases, ap depth is, depth-List c.in_ok-list_of-in-Markers.field-0.now), subst HasNumerals is c.requires.numerals)

pub read_member-returns-in_err-list_of-in-Markers-clause-fault : goal.read_member-returns-in_err-list_of-in-Markers-clause-fault
read_member-returns-in_err-list_of-in-Markers-clause-fault t c =
    let p = err_from_is_err_and c.from_residual-in_err-list_of-in-Markers.result c.from_residual-in_err-list_of-in-Markers.ensures.1 in
    rw (p.1, p.2) (no_list _ _ _ R.markers _ (ap kind_of c.in-Markers.is) (λ wrong. wrong) c.in_err-list_of-in-Markers.ensures.fault)

pub read_member-returns-in_ok-list_of-in-Markers-clause-value : goal.read_member-returns-in_ok-list_of-in-Markers-clause-value
read_member-returns-in_ok-list_of-in-Markers-clause-value t c =
    gives_as c.read_markers.result (kind_of c.args.row.now.kind) R.markers c.args.value.now _ (ap kind_of c.in-Markers.is) c.in_ok-list_of-in-Markers.ensures.list c.read_markers.ensures.value

pub read_member-returns-in_ok-list_of-in-Markers-clause-fault : goal.read_member-returns-in_ok-list_of-in-Markers-clause-fault
read_member-returns-in_ok-list_of-in-Markers-clause-fault t c =
    markers_refused c.read_markers.result c.args.place.now (row_of c.args.row.now) c.args.value.now _ (ap kind_of c.in-Markers.is) c.in_ok-list_of-in-Markers.ensures.list c.read_markers.ensures.fault

pub read_items-read_object-requires : goal.read_items-read_object-requires
read_items-read_object-requires t c =
    let inside = item_inside c.args.list.now c.as_slice-values.result.now c.loop-index.index c.index-values-index.result c.as_slice-values.ensures c.loop-index-test.true c.index-values-index.is c.requires.numerals in
    (omega (arith, c.decreases, inside.0), inside.1)

pub read_items-returns-in_err-found-clause-fault : goal.read_items-returns-in_err-found-clause-fault
read_items-returns-in_err-found-clause-fault t c =
    let p = err_from_is_err_and c.from_residual-in_err-found.result c.from_residual-in_err-found.ensures.1 in rw (p.1, p.2) (λ n. list_fails (child C.ITEMS) c.args.place.now c.args.list.now c.as_slice-values.result.now c.loop-index.index _ c.index-values-index.result _ c.as_slice-values.ensures c.loop-index.invariant c.loop-index-test.true c.index-values-index.is
    (subst (λ (p : List ℕ). Refuses_reading (child C.ITEMS) p c.index-values-index.result c.in_err-found.field-0.0) c.in_ok-here.ensures.place (in_child _ _ _ _ C.ITEMS refl (c.in_err-found.ensures.fault n))))

pub read_items-returns-in_err-item-clause-fault : goal.read_items-returns-in_err-item-clause-fault
read_items-returns-in_err-item-clause-fault t c =
    let p = err_from_is_err_and c.from_residual-in_err-item.result c.from_residual-in_err-item.ensures.1 in rw (p.1, p.2) (λ n. list_fails (child C.ITEMS) c.args.place.now c.args.list.now c.as_slice-values.result.now c.loop-index.index _ c.index-values-index.result _ c.as_slice-values.ensures c.loop-index.invariant c.loop-index-test.true c.index-values-index.is
    (subst (λ (p : List ℕ). Refuses_reading (child C.ITEMS) p c.index-values-index.result c.in_err-item.field-0.0) c.in_ok-here.ensures.place (c.in_err-item.ensures.fault n)))

pub read_items-loop-index-preserved : goal.read_items-loop-index-preserved
read_items-loop-index-preserved t c =
    list_more (λ x. known (item_fields x)) (child C.ITEMS) c.args.place.now c.as_slice-values.result.now c.loop-index.index c.loop-index.items.items _ c.index-values-index.result c.in_ok-item.item c.loop-index.invariant c.loop-index-test.true c.index-values-index.is c.in_ok-push.ensures.items c.in_ok-item.ensures.value

pub read_items-returns-clause-value : goal.read_items-returns-clause-value
read_items-returns-clause-value t c =
    items_end c.args.place.now c.args.list.now c.as_slice-values.result.now c.loop-index.index c.loop-index.items.items _ c.as_slice-values.ensures (omega (arith, c.loop-index-test.false)) c.of.ensures c.loop-index.invariant

pub read_objects-read_object-requires : goal.read_objects-read_object-requires
read_objects-read_object-requires t c =
    let inside = item_inside c.args.list.now c.as_slice-values.result.now c.loop-index.index c.index-values-index.result c.as_slice-values.ensures c.loop-index-test.true c.index-values-index.is c.requires.numerals in
    (omega (arith, c.decreases, inside.0), inside.1)

pub read_objects-returns-in_err-found-clause-fault : goal.read_objects-returns-in_err-found-clause-fault
read_objects-returns-in_err-found-clause-fault t c =
    let p = err_from_is_err_and c.from_residual-in_err-found.result c.from_residual-in_err-found.ensures.1 in rw (p.1, p.2) (λ n. list_fails (child C.ROOTS) c.args.place.now c.args.list.now c.as_slice-values.result.now c.loop-index.index _ c.index-values-index.result _ c.as_slice-values.ensures c.loop-index.invariant c.loop-index-test.true c.index-values-index.is
    (subst (λ (p : List ℕ). Refuses_reading (child C.ROOTS) p c.index-values-index.result c.in_err-found.field-0.0) c.in_ok-here.ensures.place (in_child _ _ _ _ C.ROOTS refl (c.in_err-found.ensures.fault n))))

pub read_objects-returns-in_err-object-clause-fault : goal.read_objects-returns-in_err-object-clause-fault
read_objects-returns-in_err-object-clause-fault t c =
    let p = err_from_is_err_and c.from_residual-in_err-object.result c.from_residual-in_err-object.ensures.1 in rw (p.1, p.2) (λ n. list_fails (child C.ROOTS) c.args.place.now c.args.list.now c.as_slice-values.result.now c.loop-index.index _ c.index-values-index.result _ c.as_slice-values.ensures c.loop-index.invariant c.loop-index-test.true c.index-values-index.is
    (subst (λ (p : List ℕ). Refuses_reading (child C.ROOTS) p c.index-values-index.result c.in_err-object.field-0.0) c.in_ok-here.ensures.place (c.in_err-object.ensures.fault n)))

pub read_objects-loop-index-preserved : goal.read_objects-loop-index-preserved
read_objects-loop-index-preserved t c =
    list_more (λ x. known (object_fields x)) (child C.ROOTS) c.args.place.now c.as_slice-values.result.now c.loop-index.index c.loop-index.objects.items _ c.index-values-index.result c.in_ok-object.object c.loop-index.invariant c.loop-index-test.true c.index-values-index.is c.in_ok-push.ensures.items c.in_ok-object.ensures.value

pub read_objects-returns-clause-value : goal.read_objects-returns-clause-value
read_objects-returns-clause-value t c =
    objects_end c.args.place.now c.args.list.now c.as_slice-values.result.now c.loop-index.index c.loop-index.objects.items _ c.as_slice-values.ensures (omega (arith, c.loop-index-test.false)) c.of.ensures c.loop-index.invariant

pub read_effects-read_object-requires : goal.read_effects-read_object-requires
read_effects-read_object-requires t c =
    let inside = item_inside c.args.list.now c.as_slice-values.result.now c.loop-value.value-index c.value-item.result c.as_slice-values.ensures c.loop-value-test.true c.value-item.is c.requires.numerals in
    (omega (arith, c.decreases, inside.0), inside.1)

pub read_effects-returns-in_err-found-clause-fault : goal.read_effects-returns-in_err-found-clause-fault
read_effects-returns-in_err-found-clause-fault t c =
    let p = err_from_is_err_and c.from_residual-in_err-found.result c.from_residual-in_err-found.ensures.1 in rw (p.1, p.2) (λ n. list_fails (member C.EFFECTS) c.args.place.now c.args.list.now c.as_slice-values.result.now c.loop-value.value-index _ c.value-item.result _ c.as_slice-values.ensures c.loop-value.invariant c.loop-value-test.true c.value-item.is
    (in_member _ _ _ _ C.EFFECTS refl (c.in_err-found.ensures.fault n)))

pub read_effects-loop-value-preserved : goal.read_effects-loop-value-preserved
read_effects-loop-value-preserved t c =
    list_more effect_reading (member C.EFFECTS) c.args.place.now c.as_slice-values.result.now c.loop-value.value-index c.loop-value.effects.items _ c.value-item.result c.in_ok-effect.effect c.loop-value.invariant c.loop-value-test.true c.value-item.is c.in_ok-push.ensures.items c.in_ok-effect.ensures.value

pub read_effects-returns-clause-value : goal.read_effects-returns-clause-value
read_effects-returns-clause-value t c =
    effects_end c.args.place.now c.args.list.now c.as_slice-values.result.now c.loop-value.value-index c.loop-value.effects.items _ c.as_slice-values.ensures (omega (arith, c.loop-value-test.false)) c.of.ensures c.loop-value.invariant

pub read_markers-read_object-requires : goal.read_markers-read_object-requires
read_markers-read_object-requires t c =
    let inside = item_inside c.args.list.now c.as_slice-values.result.now c.loop-value.value-index c.value-item.result c.as_slice-values.ensures c.loop-value-test.true c.value-item.is c.requires.numerals in
    (omega (arith, c.decreases, inside.0), inside.1)

pub read_markers-returns-in_err-found-clause-fault : goal.read_markers-returns-in_err-found-clause-fault
read_markers-returns-in_err-found-clause-fault t c =
    let p = err_from_is_err_and c.from_residual-in_err-found.result c.from_residual-in_err-found.ensures.1 in rw (p.1, p.2) (λ n. list_fails (member C.MARKERS) c.args.place.now c.args.list.now c.as_slice-values.result.now c.loop-value.value-index _ c.value-item.result _ c.as_slice-values.ensures c.loop-value.invariant c.loop-value-test.true c.value-item.is
    (in_member _ _ _ _ C.MARKERS refl (c.in_err-found.ensures.fault n)))

pub read_markers-loop-value-preserved : goal.read_markers-loop-value-preserved
read_markers-loop-value-preserved t c =
    list_more marker_reading (member C.MARKERS) c.args.place.now c.as_slice-values.result.now c.loop-value.value-index c.loop-value.markers.items _ c.value-item.result c.in_ok-marker.marker c.loop-value.invariant c.loop-value-test.true c.value-item.is c.in_ok-push.ensures.items c.in_ok-marker.ensures.value

pub read_markers-returns-clause-value : goal.read_markers-returns-clause-value
read_markers-returns-clause-value t c =
    markers_end c.args.place.now c.args.list.now c.as_slice-values.result.now c.loop-value.value-index c.loop-value.markers.items _ c.as_slice-values.ensures (omega (arith, c.loop-value-test.false)) c.of.ensures c.loop-value.invariant

pub read_media-read_object-requires : goal.read_media-read_object-requires
read_media-read_object-requires t c =
    let inside = pair_inside c.args.members.now c.as_slice-pairs.result.now c.loop-pair.pair-index c.pair-item.result c.as_slice-pairs.ensures.pairs c.loop-pair-test.true c.pair-item.is c.requires.numerals in
    (omega (arith, c.decreases, inside.0), inside.1)

pub read_media-returns-in_err-found-clause-fault : goal.read_media-returns-in_err-found-clause-fault
read_media-returns-in_err-found-clause-fault t c =
    let at = second_at c.as_slice-pairs.result.now c.loop-pair.pair-index c.pair-item.result c.loop-pair-test.true c.pair-item.is in
    let p = err_from_is_err_and c.from_residual-in_err-found.result c.from_residual-in_err-found.ensures.1 in rw (p.1, p.2) (λ n. list_fails medium c.args.place.now (map (λ (m : List ℕ × Json). m.1) c.args.members.now) (map (λ (m : List ℕ × Json). m.1) c.as_slice-pairs.result.now) c.loop-pair.pair-index _ c.pair-item.result.1 _ (ap (map (λ (m : List ℕ × Json). m.1)) c.as_slice-pairs.ensures.pairs) c.loop-pair.invariant.1 at.0 at.1
    (in_medium _ _ _ _ refl (c.in_err-found.ensures.fault n)))

pub read_media-loop-pair-preserved : goal.read_media-loop-pair-preserved
read_media-loop-pair-preserved t c =
    let at = second_at c.as_slice-pairs.result.now c.loop-pair.pair-index c.pair-item.result c.loop-pair-test.true c.pair-item.is in (
      names_more c.as_slice-pairs.result.now c.loop-pair.pair-index c.pair-item.result c.loop-pair.media.items _ c.in_ok-key.key c.in_ok-reference.reference c.loop-pair.invariant.0 c.loop-pair-test.true c.pair-item.is (c.in_ok-key.ensures ∙ c.as_str.ensures) c.in_ok-push.ensures.items,
      list_more (λ (m : List ℕ × Media). medium_reading m.1) medium c.args.place.now (map (λ (m : List ℕ × Json). m.1) c.as_slice-pairs.result.now) c.loop-pair.pair-index c.loop-pair.media.items _ c.pair-item.result.1 (c.in_ok-key.key, c.in_ok-reference.reference) c.loop-pair.invariant.1 at.0 at.1 c.in_ok-push.ensures.items c.in_ok-reference.ensures.value,
    )

pub read_media-returns-clause-value : goal.read_media-returns-clause-value
read_media-returns-clause-value t c =
    media_end c.args.place.now c.args.members.now c.as_slice-pairs.result.now c.loop-pair.pair-index c.loop-pair.media.items _ c.as_slice-pairs.ensures.pairs (omega (arith, c.loop-pair-test.false)) c.of-2.ensures c.loop-pair.invariant.0 c.loop-pair.invariant.1

pub read_object-returns-then-found-version-clause-fault : goal.read_object-returns-then-found-version-clause-fault
read_object-returns-then-found-version-clause-fault t c =
    λ n. newer _ _ _ _ _ _ _ c.in-Some-named.schema c.in-Some.ensures (sym c.named.ensures ∙ c.in-Some-named.is) (omega (arith, c.version.ensures, c.if-found-version.true)) (c.newer_fault.ensures n)

pub read_object-read_rows-requires : goal.read_object-read_rows-requires
read_object-read_rows-requires t c =
    (omega (arith, c.decreases, ap depth c.in-Some.ensures.object, depth-Map c.in-Some.found.members.now), subst HasNumerals c.in-Some.ensures.object c.requires.numerals)

pub read_object-returns-in_err-values-in-Some-named-clause-fault : goal.read_object-returns-in_err-values-in-Some-named-clause-fault
read_object-returns-in_err-values-in-Some-named-clause-fault t c =
    let p = err_from_is_err_and c.from_residual.result c.from_residual.ensures.1 in rw (p.1, p.2) (λ n. in_rows _ _ _ _ _ _ _ c.in-Some-named.schema c.in-Some.ensures (sym c.named.ensures ∙ c.in-Some-named.is) (omega (arith, c.version.ensures, c.if-found-version.false))
    (subst (λ (rows : List Row). Refuses_rows c.args.place.now rows c.in-Some.found.members.now c.in_err-values-in-Some-named.field-0.0) c.table.ensures (c.in_err-values-in-Some-named.ensures.fault n)))

pub read_object-returns-in_ok-values-in-Some-named-clause-fields : goal.read_object-returns-in_ok-values-in-Some-named-clause-fields
read_object-returns-in_ok-values-in-Some-named-clause-fields t c =
    let given = subst (λ (rows : List Row). Gives_rows rows c.in-Some.found.members.now c.in_ok-values-in-Some-named.values.items) c.table.ensures c.in_ok-values-in-Some-named.ensures.values in
    object_read c.finished.result c.args.family.now c.args.value.now c.in-Some-named.schema c.in_ok-values-in-Some-named.values.items c.in-Some.found.members.now c.in-Some.found.name.now c.in-Some.found.version c.in-Some.ensures (sym c.named.ensures ∙ c.in-Some-named.is) (omega (arith, c.version.ensures, c.if-found-version.false)) given c.finished.ensures.fields

pub read_object-returns-in_ok-values-in-Some-named-clause-fault : goal.read_object-returns-in_ok-values-in-Some-named-clause-fault
read_object-returns-in_ok-values-in-Some-named-clause-fault t c =
    let given = subst (λ (rows : List Row). Gives_rows rows c.in-Some.found.members.now c.in_ok-values-in-Some-named.values.items) c.table.ensures c.in_ok-values-in-Some-named.ensures.values in
    object_refused c.finished.result c.args.place.now c.args.family.now c.args.value.now c.in-Some-named.schema c.in_ok-values-in-Some-named.values.items c.in-Some.found.members.now c.in-Some.found.name.now c.in-Some.found.version c.in-Some.ensures (sym c.named.ensures ∙ c.in-Some-named.is) (omega (arith, c.version.ensures, c.if-found-version.false)) given c.finished.ensures.fault

pub read_object-returns-in-None-named-clause-fields : goal.read_object-returns-in-None-named-clause-fields
read_object-returns-in-None-named-clause-fields t c =
    foreign_by c.args.family.now c.in-Some.ensures (sym c.named.ensures ∙ c.in-None-named.is)

pub read_object-returns-in-None-clause-fields : goal.read_object-returns-in-None-clause-fields
read_object-returns-in-None-clause-fields t c = foreign_any c.args.value.now c.args.family.now c.in-None.ensures
