-- How a message names the reasons for which a timeline isn't written as a list.
use Rattle.std.specs.Prelude.{ℕ, List, codes}
use Rattle.edl_frames.specs.declared.reasons.Why.{Why}
use Rattle.edl_frames.specs.declared.reasons.Why.TheVariants as why

-- the code of a reason
abbrev pub code_of : Why → List ℕ
code_of why.Tracks = codes "N1"
code_of why.Nested = codes "N2"
code_of why.OffFrame = codes "N3"
code_of why.NoReel = codes "N4"
code_of why.RateDiffers = codes "N5"
code_of why.SourceDay = codes "N6"
code_of why.Effect = codes "N7"
code_of why.Speed = codes "N8"
code_of why.Phase = codes "N9"
code_of why.Overlap = codes "N10"
code_of why.Kind = codes "N11"
code_of why.Outside = codes "N12"
code_of why.Events = codes "N13"
code_of why.RecordDay = codes "N14"
code_of why.NoTimecode = codes "N15"

-- the reason in a word
abbrev pub word_of : Why → List ℕ
word_of why.Tracks = codes "Tracks"
word_of why.Nested = codes "Nested"
word_of why.OffFrame = codes "OffFrame"
word_of why.NoReel = codes "NoReel"
word_of why.RateDiffers = codes "RateDiffers"
word_of why.SourceDay = codes "SourceDay"
word_of why.Effect = codes "Effect"
word_of why.Speed = codes "Speed"
word_of why.Phase = codes "Phase"
word_of why.Overlap = codes "Overlap"
word_of why.Kind = codes "Kind"
word_of why.Outside = codes "Outside"
word_of why.Events = codes "Events"
word_of why.RecordDay = codes "RecordDay"
word_of why.NoTimecode = codes "NoTimecode"
