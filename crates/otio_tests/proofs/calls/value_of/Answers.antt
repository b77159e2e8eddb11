use Rattle.otio_tests.proofs.calls.value_of.Goals as goal

pub returns-in-Ok-finish : goal.returns-in-Ok-finish
returns-in-Ok-finish c =
    c.read_has_numerals.ensures.read _ c.in-Ok-finish.value
    (c.in-Ok-finish.ensures.text _ (c.in-Ok.ensures.read _ c.new-reader.ensures))
