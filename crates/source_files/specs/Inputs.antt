-- Files whose timelines are worked on: timelines, and lists that are conformed.
use Rattle.source_files.specs.Reading.{Source}
use Rattle.source_files.specs.Kinds.{Kind}
use Rattle.source_files.specs.Kinds as kinds
use Rattle.source_files.specs.Contents.{Content}
use Rattle.source_files.specs.Contents as contents
use Rattle.source_files.specs.declared.inputs.Input.{Input}
use Rattle.source_files.specs.declared.inputs.Input.TheVariants as held
use Rattle.source_files.specs.declared.inputs.InputFile.{InputFile}
use Rattle.source_files.specs.declared.inputs.InputKind.{InputKind}
use Rattle.source_files.specs.declared.inputs.InputKind.TheVariants as read

-- what an input is read as
abbrev pub input_kind : InputKind → Kind
input_kind read.Timeline = kinds.Timeline
input_kind (read.List rate) = kinds.List rate

abbrev pub input_source : InputFile → Source
input_source file = record { name = file.name.now; kind = input_kind file.kind }

-- what the file of an input holds
abbrev pub input_content : Input → Content
input_content (held.Timeline timeline) = contents.Film timeline
input_content (held.List list) = contents.Events list
