-- What a call of a device adds to what its calls gave and took.
use Rattle.std.specs.Prelude.{[], ◌∷◌, ◌++◌, Some}
use Rattle.dev_io.specs.Past.{Past}
use Rattle.dev_io.specs.Handed as handed
use Rattle.dev_io.specs.declared.call_record.CallEvent.{CallEvent}
use Rattle.dev_io.specs.declared.call_record.CallEvent.TheVariants.{Found, Missing, Unopened, Gave, Broke, Aimed, Took}

-- one call of files more
abbrev gave : Past → handed.Handed → Past
gave past call = record past { handed = past.handed ++ call ∷ [] }

abbrev pub past_after : Past → CallEvent → Past
past_after past (Found name) = gave past (handed.Found name.now)
past_after past (Missing name) = gave past (handed.Missing name.now)
past_after past (Unopened name) = gave past (handed.Unopened name.now)
past_after past (Gave bytes) = gave past (handed.Gave bytes.now)
past_after past Broke = gave past handed.Broke
past_after past (Aimed name) = record past { taken = record past.taken { target = Some name.now } }
past_after past (Took bytes) =
    record past { taken = record past.taken { sent = past.taken.sent ++ bytes.now } }
