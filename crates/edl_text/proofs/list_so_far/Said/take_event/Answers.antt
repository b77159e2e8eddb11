use Rattle.std.proofs.Common.{sym, ◌∙◌, inl, inr, refl}
use Rattle.std.proofs.lemmas.Result.{err_from_is_err_and}
use Rattle.edl_text.specs.Views.{event_said}
use Rattle.edl_text.proofs.EventLines.{event_lone, event_unread, event_back, event_apart}
use Rattle.edl_text.proofs.EventLines.{took_event}
use Rattle.edl_text.proofs.list_so_far.Said.take_event.Goals as goal

pub returns-then-is_lone : goal.returns-then-is_lone
returns-then-is_lone c = λ rate past h. inr (event_lone rate past (event_said c.args.event) c.args.self.now h (sym c.is_lone.ensures ∙ c.if-is_lone.true))

pub returns-in_default : goal.returns-in_default
returns-in_default c = λ rate past h.
    inr (event_unread rate past c.args.event c.args.self.now h
    (sym c.is_lone.ensures ∙ c.if-is_lone.false) c.in_default.ensures)

pub returns-then-run_back : goal.returns-then-run_back
returns-then-run_back c = λ rate past h.
    inr (event_back rate past c.args.event c.args.self.now c.in-Some.frames h
    (sym c.is_lone.ensures ∙ c.if-is_lone.false) c.in-Some.ensures.0 c.in-Some.ensures.1
    (sym c.run_back.ensures ∙ c.if-run_back.true))

pub returns-then-misses : goal.returns-then-misses
returns-then-misses c = λ rate past h.
    inr (event_apart rate past c.args.event c.args.self.now c.in-Some.frames h
    (sym c.is_lone.ensures ∙ c.if-is_lone.false) c.in-Some.ensures.0 c.in-Some.ensures.1
    (sym c.run_back.ensures ∙ c.if-run_back.false) (sym c.misses.ensures ∙ c.if-misses.true))

pub returns-in_err-begin : goal.returns-in_err-begin
returns-in_err-begin c = λ rate past h.
    let kind = err_from_is_err_and c.from_residual.result c.from_residual.ensures.1 in
    rw (kind.1, kind.2) (inl refl)

pub returns : goal.returns
returns c = λ rate past h.
    took_event rate past c.args.event c.args.self.now c.begin.new.self c.in-Some.frames h (sym c.is_lone.ensures ∙ c.if-is_lone.false) c.in-Some.ensures.0 c.in-Some.ensures.1
    (sym c.run_back.ensures ∙ c.if-run_back.false) (sym c.misses.ensures ∙ c.if-misses.false) c.in_ok-begin.ensures
