-- What the options of `tool` ask for.
use Rattle.std.specs.Prelude.{◌≡◌, ◌<◌, ◌==◌, ℕ, Bool, true, false, List, [], ◌∷◌, Option, Some, None, codes, length}
use Rattle.std.specs.List.{after_first, before_first, position_or_len}
use Rattle.smpte_tc.specs.Words.{IsPoint}
use Rattle.command_words.specs.Given.{Given, IsValue}
use Rattle.command_words.specs.declared.tools.Flattening.{Flattening}
use Rattle.command_words.specs.declared.tools.Flattening.TheVariants as flattening
use Rattle.command_words.specs.declared.tools.Joining.{Joining}
use Rattle.command_words.specs.declared.tools.Joining.TheVariants.{Concat, Stack}
use Rattle.command_words.specs.declared.tools.ToolAsked.{ToolAsked}
use Rattle.command_words.specs.declared.tools.TrackKind.{TrackKind}
use Rattle.command_words.specs.declared.tools.TrackKind.TheVariants.{Video, Audio}
use Rattle.command_words.specs.declared.tools.Window.{Window}

-- there are files after the first
abbrev pub are_several : List (List ℕ) → Bool
are_several [] = false
are_several (name ∷ names) = true

-- How several timelines become one: as one of two flags says, which don't stand together. One of
-- them is needed where several files are named.
abbrev pub IsJoining : (concat stack several : Bool) → Option Joining → Type 0
IsJoining true true several joining = ⊥
IsJoining true false several joining = joining ≡ Some Concat
IsJoining false true several joining = joining ≡ Some Stack
IsJoining false false true joining = ⊥
IsJoining false false false joining = joining ≡ None

-- the kind of tracks that stay: as one of two flags says, which don't stand together
abbrev pub IsOnly : (video audio : Bool) → Option TrackKind → Type 0
IsOnly true true only = ⊥
IsOnly true false only = only ≡ Some Video
IsOnly false true only = only ≡ Some Audio
IsOnly false false only = only ≡ None

abbrev pub is_comma : ℕ → Bool
is_comma byte = byte == 44

-- two record points with a comma between them
pub record IsWindow (word : List ℕ) (window : Window) : Type 0 where
  pub comma : position_or_len is_comma word < length word
  pub start : IsPoint (before_first is_comma word) window.start
  pub end : IsPoint (after_first is_comma word) window.end

abbrev pub IsFlattening : List ℕ → Flattening → Type 0
IsFlattening word flattening.Video = word ≡ codes "video"
IsFlattening word flattening.Audio = word ≡ codes "audio"
IsFlattening word flattening.All = word ≡ codes "all"

-- what the options of `tool` ask for
pub record AreTools (given : Given) (asked : ToolAsked) : Type 0 where
  pub joining : IsJoining given.tool.concat given.tool.stack (are_several given.more) asked.joining
  pub only : IsOnly given.tool.video_only given.tool.audio_only asked.only
  pub remove_transitions : asked.remove_transitions ≡ given.tool.remove_transitions
  pub trim : IsValue IsWindow given.tool.trim asked.trim
  pub flatten : IsValue IsFlattening given.tool.flatten asked.flatten
  pub keep_flattened : asked.keep_flattened ≡ given.tool.keep_flattened
  pub list_tracks : asked.list_tracks ≡ given.tool.list_tracks
  pub list_clips : asked.list_clips ≡ given.tool.list_clips
  pub list_media : asked.list_media ≡ given.tool.list_media
  pub stats : asked.stats ≡ given.tool.stats
