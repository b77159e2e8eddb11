use Rattle.std.proofs.Common.{ap, map, ◌∙◌}
use Rattle.source_files.specs.Formats.{Suits}
use Rattle.source_files.specs.Reading.{Source}
use Rattle.source_files.specs.Inputs.{input_content}
use Rattle.source_files.specs.Contents.{Content}
use Rattle.source_files.proofs.FollowingLemmas.{follows_none, follows_then}
use Rattle.source_files.proofs.Walking.{given_among, given_full, given_stop, mapped_last, named_among, suits_among}
use Rattle.source_files.proofs.read_files.input_files.Goals as goal

pub returns-in-Err-push-clause-named : goal.returns-in-Err-push-clause-named
returns-in-Err-push-clause-named g c =
    named_among c.args.sources.now c.sources.source-index c.source-item.result _ _
    c.sources-test.true c.source-item.is c.stop_at.ensures.name

pub returns-in-Err-clause-named : goal.returns-in-Err-clause-named
returns-in-Err-clause-named g c =
    named_among c.args.sources.now c.sources.source-index c.source-item.result _ _
    c.sources-test.true c.source-item.is c.stop_at-in-Err.ensures.name

pub sources-preserved : goal.sources-preserved
sources-preserved g c =
    let held = ap (map input_content) c.in-Ok-push.ensures.items
    ∙ mapped_last input_content c.sources.inputs.items c.in-Ok.input in
    let Is = λ (source : Source) (content : Content). Suits source.kind content in
    record {
      suits = suits_among Is c.args.sources.now c.sources.source-index c.source-item.result
          (map input_content c.sources.inputs.items) (map input_content c.push.new.self.items) (input_content c.in-Ok.input) c.sources-test.true
          c.source-item.is held c.sources.invariant.suits c.in-Ok.ensures.suits;
      given = given_among c.args.sources.now c.sources.source-index c.source-item.result
          (map input_content c.sources.inputs.items) (map input_content c.push.new.self.items) (input_content c.in-Ok.input) _ _ _ c.sources-test.true
          c.source-item.is held c.sources.invariant.given c.in-Ok.ensures.given;
      followed = follows_then _ _ _ _ _ _ c.sources.invariant.followed c.in-Ok.ensures.followed;
      calm = c.in-Ok.ensures.cause ∙ c.sources.invariant.calm;
    }

pub returns-in-Err-push-clause-given : goal.returns-in-Err-push-clause-given
returns-in-Err-push-clause-given g c =
    given_full c.args.sources.now c.sources.source-index c.source-item.result
    (map input_content c.sources.inputs.items) (input_content c.in-Ok.input) c.stop_at.result _ _ _ c.sources-test.true
    c.source-item.is c.sources.invariant.given c.in-Ok.ensures.given c.stop_at.ensures.name
    c.stop_at.ensures.fault

pub returns-in-Err-clause-given : goal.returns-in-Err-clause-given
returns-in-Err-clause-given g c =
    given_stop c.args.sources.now c.sources.source-index c.source-item.result
    (map input_content c.sources.inputs.items) c.stop_at-in-Err.result c.in-Err.fault _ _ _ c.sources-test.true
    c.source-item.is c.sources.invariant.given c.in-Err.ensures.given c.stop_at-in-Err.ensures.name
    c.stop_at-in-Err.ensures.fault

pub returns-in-Err-push-clause-followed : goal.returns-in-Err-push-clause-followed
returns-in-Err-push-clause-followed g c =
    follows_then _ _ _ _ _ _ c.sources.invariant.followed c.in-Ok.ensures.followed

pub returns-in-Err-clause-followed : goal.returns-in-Err-clause-followed
returns-in-Err-clause-followed g c =
    follows_then _ _ _ _ _ _ c.sources.invariant.followed c.in-Err.ensures.followed
