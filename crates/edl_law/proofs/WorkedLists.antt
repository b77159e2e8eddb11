-- What is worked out by hand of small lists at 24 frames a second.
use Rattle.std.proofs.Common.{refl, sym, subst, pos}
use Rattle.tick_time.specs.declared.rates.Rate.{Rate}
use Rattle.tick_time.proofs.SameValues.{RateFacts, built_rate, rate_facts, same_rate}
use Rattle.coord.proofs.Clocks.{clock}
use Rattle.edl_law.specs.Worked.{AreWorkedLists, IsRate24}

pub facts_24 : RateFacts (pos 24) (pos 1)
facts_24 =
    subst (λ n. RateFacts n (pos 1)) clock.1.num
    (subst (λ d. RateFacts clock.0.rate.num d) clock.1.den (rate_facts clock.0.rate))

abbrev pub exact_24 : Rate
exact_24 = built_rate (pos 24) (pos 1) facts_24

worked_24 : AreWorkedLists exact_24
worked_24 = record {
  shown = refl;
  counted = refl;
  still = refl;
  still_served = refl;
  still_counted = refl;
  leap = refl;
  leap_served = refl;
  leap_counted = refl;
  held = refl;
  unlisted = refl;
  outside = refl;
}

pub worked : (rate : Rate) → IsRate24 rate → AreWorkedLists rate
worked rate i = subst AreWorkedLists (sym (same_rate rate exact_24 i.num i.den)) worked_24

pub some_24 : (rate : Rate) × IsRate24 rate
some_24 = (exact_24, record { num = refl; den = refl })
