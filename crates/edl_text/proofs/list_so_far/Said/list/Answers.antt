use Rattle.std.proofs.Common.{sym, subst, ap, ◌∙◌, inr, AllPairs, MatchOption, Option, unwrap_or, false, []}
use Rattle.edl_list.specs.Formed.{AreApart}
use Rattle.edl_text.specs.Overlaps.{AreRead}
use Rattle.edl_text.specs.declared.faults.EdlFault.{EdlFault}
use Rattle.edl_text.specs.Late.{AreFine, IsLateFault}
use Rattle.edl_text.specs.Lists.{events_in}
use Rattle.edl_text.proofs.LineByLine.{read_events}
use Rattle.edl_text.proofs.Listing.{all_events, said_list, apart_ordered}
use Rattle.edl_text.proofs.list_so_far.Said.list.Goals as goal

pub returns-in-Some : goal.returns-in-Some
returns-in-Some c = λ rate past said h.
    let e = c.as_slice.ensures.value ∙ all_events rate past c.args.self c.close.new.self.events.items h c.in_ok-close.ensures.events in
    let read = subst AreRead (sym e) (read_events rate past said) in
    let events = c.as_slice.result.now in
    let late = subst (λ (o : Option EdlFault). MatchOption o (AreFine events) (IsLateFault events)) c.in-Some.is (c.in_ok-late_fault.ensures.fine read) in
    inr (subst (λ l. IsLateFault l c.in-Some.fault) e late)

pub returns : goal.returns
returns c = λ rate past said h.
    let all = all_events rate past c.args.self c.close.new.self.events.items h c.in_ok-close.ensures.events in
    let e = c.as_slice.ensures.value ∙ all in
    let read = read_events rate past said in
    let here = subst AreRead (sym e) read in
    let events = c.as_slice.result.now in
    let same = c.in_ok-close.ensures.same in
    let fine = subst (λ (o : Option EdlFault). MatchOption o (AreFine events) (IsLateFault events)) c.in-None.is (c.in_ok-late_fault.ensures.fine here) in
    let apart = subst (λ (o : Option EdlFault). MatchOption o (AllPairs AreApart events) (λ (fault : EdlFault). Unit {0})) c.in-None.is (c.in_ok-late_fault.ensures.apart here) in
    let is = said_list rate past c.args.self c.close.new.self.events.items _ h all read (c.title_of.ensures ∙ ap (λ o. unwrap_or o []) same.title) same.counted
    (c.unwrap_or.ensures ∙ ap (λ o. unwrap_or o false) same.first) c.in_ok-events.ensures.same c.in_ok-events.ensures.strict in (
      subst AreFine e fine,
      is,
      apart_ordered (events_in rate past) c.in_ok-events.events (subst (λ l. AllPairs AreApart l) e apart) is.events.same is.events.order,
    )
