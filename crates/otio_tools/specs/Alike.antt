-- Words that name one media list or another of the same rows.
use Rattle.std.specs.Prelude.{ℕ, List, Some}
use Rattle.std.specs.declared.option.Option.{Option}
use Rattle.media_rows.specs.declared.row.MediaRow.{MediaRow}
use Rattle.source_files.specs.Reading.{Held}
use Rattle.command_words.specs.Asked.{Ask, OtherNames}
use Rattle.command_words.specs.declared.requests.Command.{Command}
use Rattle.otio_tools.specs.Kept.{HoldsRows}

-- the other names, with that of this media list
abbrev pub with_media : OtherNames → List ℕ → OtherNames
with_media others list =
    record { more = others.more; script = others.script; media = Some list }

-- Both words ask for the same, but that each names its own media list, and the two hold the same
-- rows, be it as a log or as a plain list.
pub record AreAlike (held : Held) (words swapped : List (List ℕ)) : Type 0 where
  pub command : Command
  pub name : List ℕ
  pub others : OtherNames
  pub target : Option (List ℕ)
  pub list : List ℕ
  pub other : List ℕ
  pub rows : List MediaRow
  pub ask : Ask words command name (with_media others list) target
  pub also : Ask swapped command name (with_media others other) target
  pub holds : HoldsRows held (Some list) (Some rows)
  pub too : HoldsRows held (Some other) (Some rows)
