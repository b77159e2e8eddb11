-- The channel of a track by the tracks of its kind before it.
use Rattle.std.specs.Prelude.{◌≡◌, ℕ, ◌==◌, cond, List, Option, Some, None, codes}
use Rattle.std.specs.Str.{bytes_eq}
use Rattle.otio_model.specs.declared.compositions.TrackOf.{TrackOf}
use Rattle.otio_model.specs.declared.compositions.ItemOf.{ItemOf}
use Rattle.otio_model.specs.declared.compositions.ItemOf.TheVariants.{Clip, Gap, Transition, Stack, Track}
use Rattle.otio_model.specs.declared.compositions.Listed.{Listed}
use Rattle.edl_list.specs.declared.list.Channel.{Channel}
use Rattle.edl_list.specs.declared.list.Channel.TheVariants.{V, A, A2}
use Rattle.edl_frames.specs.Carried.{count_of_kind}
use Rattle.edl_notes.specs.declared.kinds.Kinds.{Kinds}

-- so many Video and Audio tracks stand among these
pub record AreCounted (past : List (ItemOf Listed)) (kinds : Kinds) : Type 0 where
  pub video : kinds.video ≡ count_of_kind (codes "Video") past
  pub audio : kinds.audio ≡ count_of_kind (codes "Audio") past

-- the channel of a Video track after so many
abbrev pub picture_channel : ℕ → Option Channel
picture_channel before = cond (before == 0) (Some V) None

-- the channel of an Audio track after so many
abbrev pub sound_channel : ℕ → Option Channel
sound_channel before = cond (before == 0) (Some A) (cond (before == 1) (Some A2) None)

-- the channel of a track after tracks of so many kinds
abbrev pub channel_by : Kinds → TrackOf Listed → Option Channel
channel_by kinds t = cond (bytes_eq t.kind (codes "Video")) (picture_channel kinds.video)
    (cond (bytes_eq t.kind (codes "Audio")) (sound_channel kinds.audio) None)

-- 1 for a track of the kind, else 0
abbrev pub one_of : List ℕ → ItemOf Listed → ℕ
one_of kind (Clip c) = 0
one_of kind (Gap g) = 0
one_of kind (Transition t) = 0
one_of kind (Stack s) = 0
one_of kind (Track t) = cond (bytes_eq t.kind kind) 1 0
