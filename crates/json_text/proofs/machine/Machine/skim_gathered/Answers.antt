use Rattle.std.proofs.Common.{List, ℕ, ◌++◌, ◌∙◌, ap}
use Rattle.json_text.proofs.Skims.{gathered_skims}
use Rattle.json_text.proofs.machine.Machine.skim_gathered.Goals as goal

pub returns : goal.returns
returns c =
    let old = c.args.self.now in
    let made = c.gathered-count.result in
    gathered_skims old c.args.role c.args.bytes.now made.1.items _ made.0 c.requires
    c.gathered-count.ensures.within c.gathered-count.ensures.meant
    (c.in_ok-extend_from_slice.ensures.items
    ∙ ap (λ (x : List ℕ). old.text.items ++ x) c.as_slice.ensures.value)
