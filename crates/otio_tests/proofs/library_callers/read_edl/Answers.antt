use Rattle.std.proofs.Common.{ℕ, List, []}
use Rattle.std.proofs.lemmas.Result.{IfErr-weaker, IfOk-weaker, err_from_is_err_and}
use Rattle.tick_time.specs.declared.rates.Rate.{Rate}
use Rattle.edl_list.specs.Formed.{IsWellFormed}
use Rattle.edl_text.specs.Reader.{HasRead}
use Rattle.otio_tests.proofs.CallerLemmas.{early-fault}
use Rattle.otio_tests.proofs.library_callers.read_edl.Goals as goal

pub returns-in_err-feed-clause-fault : goal.returns-in_err-feed-clause-fault
returns-in_err-feed-clause-fault c =
    let p = err_from_is_err_and c.from_residual.result c.from_residual.ensures.1 in
    rw (p.1, p.2) (early-fault c.args.rate c.args.bytes.now _
    (c.in_err-feed.ensures.fault c.args.rate [] c.new-reader.ensures))

pub returns-clause-formed : goal.returns-clause-formed
returns-clause-formed c =
    IfOk-weaker c.finish.result
    (λ list. (rate : Rate) (bytes : List ℕ) → HasRead rate bytes c.feed.new.self
    → IsWellFormed list)
    IsWellFormed
    (λ list f. f c.args.rate c.args.bytes.now
    (c.in_ok-feed.ensures.read c.args.rate [] c.new-reader.ensures))
    c.finish.ensures.well_formed

pub returns-clause-list : goal.returns-clause-list
returns-clause-list c =
    IfOk-weaker c.finish.result _ _
    (λ list f. f c.args.rate c.args.bytes.now
    (c.in_ok-feed.ensures.read c.args.rate [] c.new-reader.ensures))
    c.finish.ensures.list

pub returns-clause-fault : goal.returns-clause-fault
returns-clause-fault c =
    IfErr-weaker c.finish.result _ _
    (λ fault f. f c.args.rate c.args.bytes.now
    (c.in_ok-feed.ensures.read c.args.rate [] c.new-reader.ensures))
    c.finish.ensures.fault
