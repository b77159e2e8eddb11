use Rattle.std.proofs.Common.{rules, ◌≡◌, unsigned_abs, FitsSigned, ap}
use Rattle.std.proofs.lemmas.Int.{to_z-of_z}
use mir.Syntax.{w128}
use Rattle.tick_time.specs.Rates.{frame}
use Rattle.tick_time.proofs.times.Time.on_frame.Goals as goal

pub returns : goal.returns
returns c =
    let ticks : FitsSigned w128 c.args.self.now.ticks = search rules in
    let piece : FitsSigned w128 c.frame_ticks.result = search rules in
    let e : unsigned_abs c.frame_ticks.result ≡ frame c.args.of.num c.args.of.den = ap unsigned_abs c.frame_ticks.ensures.value in
    rw (← e) (simp to_z-of_z at c.is_whole.ensures)
