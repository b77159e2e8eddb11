-- A list that is read is well formed.
use Rattle.std.proofs.Common.{ℕ, List, inr}
use Rattle.tick_time.specs.declared.rates.Rate.{Rate}
use Rattle.edl_list.specs.declared.list.EventList.{EventList}
use Rattle.edl_list.specs.Formed.{IsWellFormed}
use Rattle.edl_text.proofs.Finding.{all_apart}
use Rattle.edl_text.specs.Lists.{events_in, IsList}
use Rattle.edl_text.proofs.Finishing.{all_said}
use Rattle.edl_text.proofs.FormedLists.{formed_list}
use Rattle.edl_text.proofs.LineByLine.{read_events}
use Rattle.edl_text.proofs.Listing.{apart_ordered}

pub read_is_formed : (rate : Rate) (bytes : List ℕ) (list : EventList) → IsList rate bytes list
    → IsWellFormed list
read_is_formed rate bytes list h =
    let said = all_said rate bytes h.past h.sound in
    let apart = all_apart (events_in rate h.past) (read_events rate h.past said)
    (λ line overlap. h.fine line (inr overlap)) in
    formed_list rate h.past list said h.says
    (apart_ordered (events_in rate h.past) list.events apart h.says.events.same
    h.says.events.order)
