use Rattle.std.proofs.Common.{inr, refl}
use Rattle.json_text.proofs.NamedFaults.{live_all}
use Rattle.source_files.proofs.JsonLemmas.{fault_refused}
use Rattle.source_files.proofs.json.value_of.Goals as goal

pub returns-in-Err-clause-read : goal.returns-in-Err-clause-read
returns-in-Err-clause-read c = λ bytes fed.
    let none = c.in-Err.ensures.fault bytes fed in
    fault_refused c.in-Err.fault bytes c.json_refusal.result
    (λ m. rw none.0 (inr (refl, fed.few, live_all bytes _ fed.ran, none.1)))
    c.json_refusal.ensures
