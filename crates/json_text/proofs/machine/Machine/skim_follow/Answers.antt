use Rattle.std.proofs.Common.{arith, ◌∙◌}
use Rattle.json_text.specs.State.Stands.{state_of}
use Rattle.json_text.proofs.RunLemmas.{run_more}
use Rattle.json_text.proofs.machine.Machine.skim_follow.Goals as goal

pub returns-in-Some : goal.returns-in-Some
returns-in-Some c = λ s went. record {
  within = omega (arith, c.if-taken-bytes.false);
  ran = run_more 127 s (state_of c.args.self.now) c.args.bytes.now c.args.taken (omega (arith, c.if-taken-bytes.false)) went.ran
      ∙ c.in-Some.ensures c.args.self.now.text.items c.args.self.now.root;
}
