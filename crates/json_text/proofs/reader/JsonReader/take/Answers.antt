use Rattle.std.proofs.Common.{◌≡◌, ◌++◌, ◌-◌, ◌+◌, length-append, arith, subst, sym, Ok}
use Rattle.limits.specs.Limits.{most_bytes}
use Rattle.json_text.specs.Faults.{Names}
use Rattle.json_text.specs.State.Machine.{run}
use Rattle.json_text.specs.State.Runs.{StopsAt}
use Rattle.json_text.specs.State.Stands.{state_of}
use Rattle.json_text.proofs.NamedFaults.{fault_in, fault_behind, live_read, read_all}
use Rattle.json_text.proofs.reader.JsonReader.take.Goals as goal

pub returns-in-Ok-Stops-clause-fault : goal.returns-in-Ok-Stops-clause-fault
returns-in-Ok-Stops-clause-fault c = λ bytes read.
    let s = state_of c.args.self.now.machine in
    let few = read.few in
    let taken = read.taken in
    let room = most_bytes - c.args.self.now.taken in
    let h = rw c.in-Ok-Stops.field-0-is at c.in-Ok-Stops.ensures in
    let stops = subst (λ x. StopsAt c.in-Ok-Stops.index c.in-Ok-Stops.stop s x) c.before-within.ensures h in
    subst (λ f. Names f (bytes ++ c.args.piece.now)) (sym c.fault_of.ensures)
    (fault_in bytes c.args.piece.now s room c.in-Ok-Stops.index (c.args.self.now.taken + c.in-Ok-Stops.index) c.in-Ok-Stops.stop read.ran stops (omega arith) (omega arith))

pub returns-then-piece-most-clause-fault : goal.returns-then-piece-most-clause-fault
returns-then-piece-most-clause-fault c = λ bytes read.
    let s = state_of c.args.self.now.machine in
    let room = most_bytes - c.args.self.now.taken in
    let h = rw c.in-Ok-All.field-0-is at c.in-Ok-All.ensures in
    let ran = subst (λ x. run 127 s x ≡ Ok (state_of c.run.new.self)) c.before-within.ensures h in
    fault_behind bytes c.args.piece.now s (state_of c.run.new.self) room read.ran ran
    (omega (arith, read.few, read.taken)) (omega (arith, read.few, read.taken))

pub returns-clause-read : goal.returns-clause-read
returns-clause-read c = λ bytes read.
    let s = state_of c.args.self.now.machine in
    let room = most_bytes - c.args.self.now.taken in
    let h = rw c.in-Ok-All.field-0-is at c.in-Ok-All.ensures in
    let ran = subst (λ x. run 127 s x ≡ Ok (state_of c.run.new.self)) c.before-within.ensures h in
    record {
      ran = read_all bytes c.args.piece.now s (state_of c.run.new.self) room read.ran ran (omega (arith, read.few, read.taken));
      sound = read.sound;
      taken = omega (arith, read.few, read.taken, length-append bytes c.args.piece.now);
      few = omega (arith, read.few, read.taken, length-append bytes c.args.piece.now);
      ready = λ e. absurd (c.in-Ok.ensures e);
    }

pub returns-clause-live : goal.returns-clause-live
returns-clause-live c = λ bytes read. live_read (bytes ++ c.args.piece.now) _
    (returns-clause-read c bytes read)
