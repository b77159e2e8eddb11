use Rattle.std.proofs.Common.{◌≡◌, ◌+◌, ◌∙◌, Ok, take, arith, subst, length-drop}
use Rattle.json_text.specs.State.Machine.{run}
use Rattle.json_text.specs.State.Stands.{state_of}
use Rattle.json_text.proofs.RunLemmas.{run_more, run_skim}
use Rattle.json_text.proofs.machine.Machine.run.Goals as goal

pub loop-at-preserved-then-count-gt0 : goal.loop-at-preserved-then-count-gt0
loop-at-preserved-then-count-gt0 c =
    let n = c.in_ok-count.count in
    let bytes = c.args.bytes.now in
    let at = c.loop-at.at in
    record {
      within = omega (arith, c.in_ok-count.ensures.within, length-drop at bytes);
      ran = run_skim 127 (state_of c.args.self.now) (state_of c.loop-at.self) (state_of c.skim_from.new.self) bytes at n c.loop-at.invariant.ran c.in_ok-count.ensures.ran;
    }

pub loop-at-preserved : goal.loop-at-preserved
loop-at-preserved c =
    let n = c.in_ok-count.count in
    let bytes = c.args.bytes.now in
    let at = c.loop-at.at in
    let same : at + n ≡ at = omega (arith, c.if-count-gt0.false) in
    let went = subst (λ m. run 127 (state_of c.args.self.now) (take m bytes) ≡ Ok (state_of c.skim_from.new.self)) same
    (run_skim 127 (state_of c.args.self.now) (state_of c.loop-at.self) (state_of c.skim_from.new.self) bytes at n c.loop-at.invariant.ran c.in_ok-count.ensures.ran) in
    record {
      within = omega arith;
      ran = run_more 127 (state_of c.args.self.now) (state_of c.skim_from.new.self) bytes at (omega arith) went ∙ rw c.in-Goes.is at c.in_ok-step.ensures;
    }

pub returns-in-Stops : goal.returns-in-Stops
returns-in-Stops c =
    let n = c.in_ok-count.count in
    let bytes = c.args.bytes.now in
    let at = c.loop-at.at in
    let same : at + n ≡ at = omega (arith, c.if-count-gt0.false) in
    record {
      within = omega arith;
      before = state_of c.skim_from.new.self;
      ran = subst (λ m. run 127 (state_of c.args.self.now) (take m bytes) ≡ Ok (state_of c.skim_from.new.self)) same
          (run_skim 127 (state_of c.args.self.now) (state_of c.loop-at.self) (state_of c.skim_from.new.self) bytes at n c.loop-at.invariant.ran c.in_ok-count.ensures.ran);
      stops = rw c.in-Stops.is at c.in_ok-step.ensures;
    }
