-- What is kept when a line is taken.
use Rattle.std.proofs.Common.{◌≡◌, ℕ, ◌+◌, ◌-◌, ◌^◌, ◌<◌, min, List, length, Result, Ok, Err, inl, inr, ap, ◌∙◌, arith}
use Rattle.tick_time.specs.declared.rates.Rate.{Rate}
use Rattle.edl_text.specs.Statements.{Statement}
use Rattle.edl_text.specs.Saying.{Says, HasFault}
use Rattle.edl_text.specs.declared.statement_types.LineFault.{LineFault}
use Rattle.edl_text.specs.declared.faults.EdlFault.{EdlFault}
use Rattle.edl_text.specs.declared.list_so_far.Said.{Said}
use Rattle.edl_text.specs.Past.{line_behind}
use Rattle.edl_text.specs.Lines.{named, IsFaulty, by_form, by_rule}
use Rattle.edl_text.specs.StateSaid.{Stands, StandsAtNext, Takes, TakesLine}

pub next_line : (rate : Rate) (past : List Statement) (old : Said) (n : ℕ) → Stands rate past old → length past < 2 ^ 32 - 1 → n ≡ min (old.line + 1) (2 ^ 32 - 1)
    → StandsAtNext rate past (record old { line = n })
next_line rate past old n h few e = record {
  line = omega (arith, h.line, few, e);
  holds = record { counted = h.holds.counted; title = h.holds.title; drop = h.holds.drop; first = h.holds.first; lines = h.holds.lines };
}

pub takes_line : {T : Type 0} (r : Result T EdlFault) (rate : Rate) (past : List Statement) (line : List ℕ) (statement : Statement) (new : Said) → Says line statement → Takes r rate past statement new
    → TakesLine r rate past line new
takes_line (Ok u) rate past line statement new says h = (statement, record { says = says; sound = h.0 }, h.1)
takes_line (Err fault) rate past line statement new says (inl m) = inl m
takes_line (Err fault) rate past line statement new says (inr e) = inr (by_rule statement says e)

pub says_nothing : (rate : Rate) (past : List Statement) (line : List ℕ) (why : LineFault) (fault : EdlFault) (old : Said) (n : ℕ) → HasFault line why → Stands rate past old → length past < 2 ^ 32 - 1 → n ≡ min (old.line + 1) (2 ^ 32 - 1)
    → fault ≡ named why n → IsFaulty rate past line fault
says_nothing rate past line why fault old n has h few s e =
    let m : n ≡ line_behind past = omega (arith, h.line, few, s) in
    by_form why has (e ∙ ap (named why) m)
