use Rattle.std.proofs.Common.{inr, sym, ap, ◌∙◌, Some, List, ℕ}
use Rattle.edl_text.proofs.Taking.{took_title, title_refused, is_none_of}
use Rattle.edl_text.proofs.list_so_far.Said.take_title.Goals as goal

pub returns-in_ok-of-in-Ok : goal.returns-in_ok-of-in-Ok
returns-in_ok-of-in-Ok c = λ rate past h.
    let old = c.args.self.now in
    took_title rate past c.args.title.now old _ h (is_none_of old.title (sym c.is_some.ensures ∙ c.if-is_some.false)) c.in-Ok.ensures.cases.1
    (ap (λ (t : List ℕ). record old { title = Some t }) (c.in_ok-of-in-Ok.ensures ∙ c.in-Ok.ensures.cases.0))

pub returns-in-Err : goal.returns-in-Err
returns-in-Err c = λ rate past h. inr (title_refused rate past c.args.title.now c.args.self.now h (is_none_of c.args.self.now.title (sym c.is_some.ensures ∙ c.if-is_some.false)) c.in-Err.ensures.cases.0)
