use Rattle.std.proofs.Common.{ℕ, List, ◌++◌, ◌∙◌, sym, ap, subst}
use Rattle.json_text.specs.State.Machine.{state, number}
use Rattle.json_text.specs.State.Runs.{Skims}
use Rattle.json_text.specs.State.Stands.{state_of, levels_of}
use Rattle.json_text.proofs.Skims.{number_skims}
use Rattle.json_text.proofs.machine.Machine.skim_number.Goals as goal

pub returns : goal.returns
returns c =
    let old = c.args.self.now in
    let bytes = c.args.bytes.now in
    let made = c.numeral_run-count.result in
    let text = c.in_ok-extend_from_slice.ensures.items ∙ ap (λ (x : List ℕ). old.text.items ++ x) c.before-2.ensures in
    subst (λ (t : List ℕ). Skims made.0 (state_of old) bytes (state (levels_of old) (number t made.1))) (sym text)
    (number_skims old c.args.place made.1 bytes made.0 c.requires c.numeral_run-count.ensures.within c.numeral_run-count.ensures.goes)
