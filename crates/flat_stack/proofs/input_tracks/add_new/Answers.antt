use Rattle.std.proofs.Common.{arith, ap, refl, sym, subst, vec_items, take, ◌+◌, ◌∙◌}
use Rattle.std.proofs.lemmas.List.{take_all}
use Rattle.std.proofs.lemmas.Map.Text.{btree_map_updates_str}
use Rattle.coord.proofs.Members.{next}
use Rattle.flat.specs.Joined.{is_new}
use Rattle.flat_stack.specs.Inputs.{Raises, list_of, lists_of, slots_of}
use Rattle.flat_stack.proofs.MostLemmas.{counted_all, counted_first, counted_here, most_kept, most_raised, new_by_most, seat_known, seat_low, seats_long}
use Rattle.flat_stack.proofs.SeatLemmas.{seat_taken, seat_passed}
use Rattle.flat_stack.proofs.input_tracks.add_new.Goals as goal
use Rattle.flat_stack.proofs.input_tracks.add_new.Goals.{then-is_new+in_ok-insert+in_ok-push, else-is_new}

pub seats-init : goal.seats-init
seats-init c = record {
  added = refl;
  most = counted_first c.args.most.now c.args.parts.now c.args.at c.requires.most;
}

pub overflow_add-seat : goal.overflow_add-seat
overflow_add-seat c =
    let part = c.part_at.result.now in
    let known = c.requires.parts c.args.at part c.part_at.ensures in
    let here = seat_known c.as_slice-seats.result.now (list_of part) c.seats.index c.seat_at-seat.result known.plain
    (ap slots_of c.as_slice-seats.ensures.value ∙ known.seats) c.seat_at-seat.ensures in
    omega (
      arith,
      seat_low (list_of part) c.seats.index c.seat_at-seat.result here,
      c.seats-test.true,
      c.as_slice-seats.ensures.len,
    )

pub seats-preserved : goal.seats-preserved
seats-preserved c =
    let lists = take c.args.at (lists_of c.args.parts.now) in
    let test = is_new lists in
    let seats = c.as_slice-seats.result.now in
    let part = c.part_at.result.now in
    let seat = c.seat_at-seat.result in
    let known = c.requires.parts c.args.at part c.part_at.ensures in
    let step = next seats c.seats.index seat c.seat_at-seat.ensures in
    let here = seat_known seats (list_of part) c.seats.index seat known.plain
    (ap slots_of c.as_slice-seats.ensures.value ∙ known.seats) c.seat_at-seat.ensures in
    let most = c.seats.invariant.most part c.part_at.ensures in
    let is = c.is_new.ensures ∙ new_by_most c.seats.most lists (list_of part) c.seats.index seat most here in
    let same = counted_here c.if-is_new.most c.args.parts.now c.args.at (c.seats.index + 1) part c.part_at.ensures in
    elim c.if-is_new.branch [
      | then-is_new+in_ok-insert+in_ok-push w ↦ record {
        added = seat_taken test c.args.all.now.items c.seats.all.items c.if-is_new.all.items seats c.seats.index seat c.is_new.result
            c.seats.invariant.added step is w.if-is_new.true (ap vec_items w.all-is ∙ w.in_ok-push.ensures.items);
        most =
            let raised = most_raised c.seats.most c.if-is_new.most lists (list_of part) c.seats.index seat most here
            (sym c.is_new.ensures ∙ w.if-is_new.true) in
            let given = btree_map_updates_str w.root_kind.result.now c.seats.most w.insert.new.self _ w.in_ok-insert.ensures.updates in
            same (raised (subst (λ m. Raises _ (seat.index + 1) c.seats.most m) (sym w.most-is)
            (subst (λ k. Raises k (seat.index + 1) c.seats.most w.insert.new.self) w.root_kind.ensures given)));
      }
      | else-is_new w ↦ record {
        added = seat_passed test c.args.all.now.items c.seats.all.items c.if-is_new.all.items seats c.seats.index seat c.is_new.result
            c.seats.invariant.added step is w.if-is_new.false (ap vec_items w.all-is);
        most = subst (λ m. Rattle.flat_stack.proofs.MostLemmas.AreCounted m c.args.parts.now c.args.at (c.seats.index + 1)) (sym w.most-is)
            (counted_here c.seats.most c.args.parts.now c.args.at (c.seats.index + 1) part c.part_at.ensures
            (most_kept c.seats.most lists (list_of part) c.seats.index seat most here (sym c.is_new.ensures ∙ w.if-is_new.false)));
      }
    ]

pub returns-clause-most : goal.returns-clause-most
returns-clause-most c =
    let part = c.part_at.result.now in
    let known = c.requires.parts c.args.at part c.part_at.ensures in
    let long = seats_long c.as_slice-seats.result.now (list_of part)
    (ap slots_of c.as_slice-seats.ensures.value ∙ known.seats) in
    counted_all c.seats.most c.args.parts.now c.args.at c.seats.index part c.seats.invariant.most c.part_at.ensures
    (take_all c.seats.index (list_of part) (omega (arith, long)))
