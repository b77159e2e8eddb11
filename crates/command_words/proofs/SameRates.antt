-- Rates that are asked for.
use Rattle.std.proofs.Common.{◌≡◌, ℕ, List, Option, Some, None, sym, ◌∙◌}
use Rattle.tick_time.specs.declared.rates.Rate.{Rate}
use Rattle.tick_time.proofs.SameValues.{same_rate}
use Rattle.tick_time.proofs.RateWordLemmas.{rate_once}
use Rattle.command_words.specs.Asked.{IsRate}

-- at most one rate is asked for
pub asked_rate_once : (asked : Option (List ℕ)) (r s : Rate) → IsRate asked r → IsRate asked s
    → r ≡ s
asked_rate_once None r s p q = same_rate r s (p.0 ∙ sym q.0) (p.1 ∙ sym q.1)
asked_rate_once (Some word) r s p q = rate_once word r s p q
