-- The items that commands put in.
use Rattle.std.specs.Prelude.{◌≡◌, ℕ, ℤ, pos, Bool, true, false, ◌||◌, not, int_lt, List, [], ◌∷◌, Option, Some, None, is_none, codes}
use Rattle.tick_time.specs.declared.rates.Rate.{Rate}
use Rattle.tick_time.specs.declared.spans.Span.{Span}
use Rattle.tick_time.specs.Frames.{IsFrameSpan, in_ticks}
use Rattle.media_rows.specs.declared.row.MediaRow.{MediaRow}
use Rattle.media_rows.specs.Rows.{MediaRows, row_of}
use Rattle.otio_model.specs.declared.media.Media.{Media}
use Rattle.otio_model.specs.declared.media.Media.TheVariants.{External}
use Rattle.otio_model.specs.declared.compositions.ItemOf.{ItemOf}
use Rattle.otio_model.specs.declared.compositions.ItemOf.TheVariants.{Clip}
use Rattle.otio_model.specs.declared.compositions.Listed.{Listed}
use Rattle.edits.specs.Finest.{in_range}
use Rattle.edits.specs.Children.{made, new_gap}
use Rattle.edit_script.specs.declared.commands.Put.{Put}
use Rattle.edit_script.specs.declared.commands.Put.TheVariants as P

-- ---- times

-- they pass a million seconds, either way
abbrev pub is_far : Rate → ℤ → Bool
is_far rate n = not (in_range (in_ticks rate n))

-- ---- items

-- media at a URL, of which there is a span
abbrev pub media_at : List ℕ → Span → Media
media_at url available = External (record {
  metadata = [];
  name = [];
  available_range = Some available;
  target_url = url;
  rest = [];
})

-- a clip of a name that shows a span of these media, and has nothing else
abbrev pub clip_with : List ℕ → Span → Media → ItemOf Listed
clip_with name shown media = Clip (record {
  metadata = [];
  name = name;
  source_range = Some shown;
  effects = [];
  markers = [];
  enabled = true;
  media_references = (codes "DEFAULT_MEDIA", media) ∷ [];
  active_media_reference_key = codes "DEFAULT_MEDIA";
  rest = [];
})

-- The clip of a name that shows listed media from a frame of theirs on, so many record frames long.
-- Its media are all that is listed.
pub record IsListedClip
    (record_rate : Rate) (row : MediaRow) (name : List ℕ) (start length : ℤ) (x : ItemOf Listed)
    : Type 0 where
  pub shown : Span
  pub shows : IsFrameSpan row.rate start record_rate length shown
  pub available : Span
  pub listed : IsFrameSpan row.rate row.start row.rate row.count available
  pub is : x ≡ clip_with name shown (media_at row.url available)

-- the item that is put in, where the record rate is this
abbrev pub IsItem : Rate → MediaRows → Put → ItemOf Listed → Type 0
IsItem rate media (P.Gap length) x = made rate (new_gap (in_ticks rate length)) ≡ Some x
IsItem rate media (P.Clip name reel start length) x =
    (row : MediaRow) × (row_of media reel ≡ Some row) × IsListedClip rate row name start length x

-- ---- items that can't be put in

-- a clip of a reel that isn't listed
abbrev pub is_unlisted : MediaRows → Put → Bool
is_unlisted media (P.Gap length) = false
is_unlisted media (P.Clip name reel start length) = is_none (row_of media reel)

-- a count of frames that is negative or out of range
abbrev pub is_wrong : Rate → ℤ → Bool
is_wrong rate n = int_lt n (pos 0) || is_far rate n

-- a wrong start of a clip, which counts at the rate of its row
abbrev pub starts_wrong : Option MediaRow → ℤ → Bool
starts_wrong None start = false
starts_wrong (Some row) start = is_wrong row.rate start

-- a wrong length or a wrong start
abbrev pub is_wrong_put : Rate → MediaRows → Put → Bool
is_wrong_put rate media (P.Gap length) = is_wrong rate length
is_wrong_put rate media (P.Clip name reel start length) =
    is_wrong rate length || starts_wrong (row_of media reel) start
