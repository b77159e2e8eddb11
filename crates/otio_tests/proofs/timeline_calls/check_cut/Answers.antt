use Rattle.otio_tests.proofs.CutLemmas.{one_cuttable, one_few, one_long}
use Rattle.otio_tests.proofs.timeline_calls.check_cut.Goals as goal

pub cuts_whole-requires-clause-faultless : goal.cuts_whole-requires-clause-faultless
cuts_whole-requires-clause-faultless g c =
    one_cuttable _ c.args.track.now c.from_ref-list.ensures.value c.requires.few c.requires.faultless

pub front-requires-clause-faultless : goal.front-requires-clause-faultless
front-requires-clause-faultless g c =
    one_cuttable _ c.args.track.now c.from_ref-list.ensures.value c.requires.few c.requires.faultless

pub back-requires-clause-faultless : goal.back-requires-clause-faultless
back-requires-clause-faultless g c =
    one_cuttable _ c.args.track.now c.from_ref-list.ensures.value c.requires.few c.requires.faultless

pub strip-requires-clause-few : goal.strip-requires-clause-few
strip-requires-clause-few g c =
    one_few _ c.args.track.now c.from_ref-list.ensures.value c.requires.few c.requires.faultless

pub strip-requires-clause-long : goal.strip-requires-clause-long
strip-requires-clause-long g c =
    one_long _ c.args.track.now c.from_ref-list.ensures.value c.requires.few c.requires.faultless
