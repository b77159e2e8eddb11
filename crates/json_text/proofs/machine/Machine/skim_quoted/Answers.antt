use Rattle.std.proofs.Common.{ℕ, List, [], subst}
use Rattle.json_text.specs.State.Machine.{state, text, plain}
use Rattle.json_text.specs.State.Runs.{Skims}
use Rattle.json_text.specs.State.Stands.{state_of, levels_of}
use Rattle.json_text.proofs.Skims.{quoted_skims}
use Rattle.json_text.proofs.machine.Machine.skim_quoted.Goals as goal

pub returns : goal.returns
returns c =
    let old = c.args.self.now in
    let n = c.in_ok-count.count in
    let rest = c.after.result.now in
    let new = state_of c.skim_text.new.self in
    quoted_skims (state_of old) (state (levels_of old) (text c.args.role [] plain)) new c.args.bytes.now rest n
    c.requires.some c.requires.quote c.requires.begins c.after.ensures
    (subst (λ (t : List ℕ). Skims n (state (levels_of old) (text c.args.role t plain)) rest new) c.clear.ensures.items c.in_ok-count.ensures)
