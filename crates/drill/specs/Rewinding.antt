-- A state whose edits are all undone.
use Rattle.std.specs.Prelude.{List, [], ◌∷◌}
use Rattle.otio_model.specs.declared.timelines.Timeline.{Timeline}
use Rattle.undo_log.specs.States.{State}

abbrev pub rewound_to : List Timeline → Timeline → List Timeline → State
rewound_to [] now after = record { before = []; now = now; after = after }
rewound_to (t ∷ before) now after = rewound_to before t (now ∷ after)

-- the same timelines, at the first of them
abbrev pub rewound : State → State
rewound s = rewound_to s.before s.now s.after
