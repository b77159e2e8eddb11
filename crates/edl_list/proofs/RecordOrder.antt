-- The order of events in the record.
use Rattle.std.proofs.Common.{Bool}
use Rattle.std.specs.Ordering.{int_cmp, nat_cmp, is_lt, ordering_then}
use Rattle.std.specs.declared.cmp.Ordering.{Ordering}
use Rattle.std.specs.Cmp.{IsTotalOrder, IsStrictWeakOrder}
use Rattle.std.proofs.lemmas.Cmp.{int_cmp_total, nat_cmp_total, on_total, then_total}
use Rattle.std.proofs.lemmas.List.Sorted.{ranks_by}
use Rattle.edl_list.specs.declared.list.Event.{Event}
use Rattle.edl_list.specs.Formed.{rank}

-- by record in, and then by channel
abbrev pub record_cmp : Event → Event → Ordering
record_cmp a b =
    ordering_then (int_cmp a.rec_in b.rec_in) (nat_cmp (rank a.channel) (rank b.channel))

pub record_cmp-total : IsTotalOrder record_cmp
record_cmp-total =
    then_total (on_total (λ e. e.rec_in) int_cmp_total)
    (on_total (λ e. rank e.channel) nat_cmp_total)

abbrev pub stands_before : Event → Event → Bool
stands_before a b = is_lt (record_cmp a b)

pub stands_before-ranks : IsStrictWeakOrder stands_before
stands_before-ranks = ranks_by record_cmp-total (λ e. e)
