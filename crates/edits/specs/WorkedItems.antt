-- Items for what is worked out by hand, at 24 frames a second.
use Rattle.std.specs.Prelude.{ℕ, ◌*◌, ℤ, pos, List, [], ◌∷◌, Option, codes}
use Rattle.tick_time.specs.declared.spans.Span.{Span}
use Rattle.otio_model.specs.declared.effect_types.Effect.{Effect}
use Rattle.otio_model.specs.declared.compositions.ItemOf.{ItemOf}
use Rattle.otio_model.specs.declared.compositions.Listed.{Listed}
use Rattle.otio_model.specs.Plain.{gap_with, shot_with, transition_with}
pub use Rattle.otio_model.specs.Plain.{at_speed}
use Rattle.edits.specs.Finest.{rate_24}
use Rattle.edits.specs.Nears.{near, span_of}

-- so many frames, in ticks
abbrev pub frames : ℕ → ℤ
frames n = pos (n * 29400000000000000)

-- so many frames from one on
abbrev pub span : ℕ → ℕ → Option Span
span start length = span_of (near (frames start) rate_24) (near (frames length) rate_24)

-- a clip of a file of so many frames
abbrev pub shot : List ℕ → ℕ → List Effect → ℕ → ℕ → ItemOf Listed
shot url there effects start length =
    shot_with url (span start length) effects (span 0 there) url

-- a gap of so many frames
abbrev pub gap : ℕ → ItemOf Listed
gap length = gap_with (span 0 length)

-- a dissolve that begins so many frames before its cut and ends so many after it
abbrev pub dissolve : ℕ → ℕ → ItemOf Listed
dissolve before after =
    transition_with (codes "SMPTE_Dissolve") (near (frames before) rate_24)
    (near (frames after) rate_24)

-- 48 frames of a from 24 on, and of b from 100 on, with a dissolve of 12 frames between them
abbrev pub first : ItemOf Listed
first = shot (codes "a") 240 [] 24 48

abbrev pub second : ItemOf Listed
second = shot (codes "b") 240 [] 100 48

abbrev pub joined : List (ItemOf Listed)
joined = first ∷ dissolve 6 6 ∷ second ∷ []

-- so many frames of w from 0 on
abbrev pub put : ℕ → ItemOf Listed
put length = shot (codes "w") 240 [] 0 length

-- 12 frames of a clip at twice its speed, from 40 on, after a gap
abbrev pub sped : ItemOf Listed
sped = shot (codes "c") 240 (at_speed (pos 2000000)) 40 12

abbrev pub late : List (ItemOf Listed)
late = gap 72 ∷ sped ∷ []
