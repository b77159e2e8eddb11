-- Notes in a line as plain data.
use Rattle.std.specs.Prelude.{pos}
use Rattle.note_text.specs.declared.forms.Words.{Words}
use Rattle.note_text.specs.declared.forms.Spoken.{Spoken}
use Rattle.note_text.specs.declared.forms.Spoken.TheVariants as spoken_as
use Rattle.note_text.specs.declared.notes.Triple.{Triple}
use Rattle.note_text.specs.declared.notes.Said.{Said}
use Rattle.note_text.specs.declared.notes.Said.TheVariants.{Loc, Sop, Sat}

-- three numerals
abbrev pub triple : Words → Triple
triple words = record { r = words.r.now; g = words.g.now; b = words.b.now }

-- what a line says
abbrev pub spoken : Spoken → Said
spoken (spoken_as.Loc at color name) = Loc (pos at) color.now name.now
spoken (spoken_as.Sop slope offset power) = Sop (triple slope) (triple offset) (triple power)
spoken (spoken_as.Sat numeral) = Sat numeral.now
