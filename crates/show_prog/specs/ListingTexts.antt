-- The lines of the listings.
use Rattle.std.specs.Prelude.{ℕ, ◌+◌, ◌==◌, pos, unsigned_abs, Bool, cond, if◌then◌else◌}
use Rattle.std.specs.Prelude.{List, [], ◌∷◌, ◌++◌, codes, decimal}
use Rattle.std.specs.Fmt.{signed_decimal}
use Rattle.std.specs.List.{flat_map}
use Rattle.tick_time.specs.Texts.{relative_text, rate_millionths}
use Rattle.json_text.specs.StringTexts.{quoted}
use Rattle.otio_model.specs.declared.compositions.ItemOf.{ItemOf}
use Rattle.otio_model.specs.declared.compositions.ItemOf.TheVariants.{Clip, Gap, Transition, Stack}
use Rattle.otio_model.specs.declared.compositions.ItemOf.TheVariants.{Track}
use Rattle.otio_model.specs.declared.timelines.Timeline.{Timeline}
use Rattle.otio_model.specs.Trees.{items_of}
use Rattle.schema_write.specs.Texts.{decimal_text}
use Rattle.coord.specs.Looks.{FrameRate}
use Rattle.coord.specs.Keys.{key_of}
use Rattle.coord.specs.Programs.{record_rate, start_frame}
use Rattle.show_prog.specs.Texts.{key_text}
use Rattle.show_prog.specs.Rows.{whole_frames}
use Rattle.show_prog.specs.declared.clip_rows.Told.{Told}
use Rattle.show_prog.specs.declared.clip_rows.Told.TheVariants.{Name, Key}
use Rattle.show_prog.specs.declared.counting.Counts.{Counts}
use Rattle.otio_model.specs.PlaceTexts.{place_text}
use Rattle.show_prog.specs.Spots.{Spot, spots, from_place}
use Rattle.show_prog.specs.Counted.{counts}

-- a word, a space, what it is said of, a space, what is said, and a line feed
abbrev pub line : List ℕ → List ℕ → List ℕ → List ℕ
line word at said = word ++ (codes " " ++ (at ++ (codes " " ++ (said ++ codes "\n"))))

-- the line of a root child of this index that is a track: its kind and its name, as JSON strings;
-- none of any other
abbrev pub track_line : {C : Type 0} → ℕ → ItemOf C → List ℕ
track_line k (Clip c) = []
track_line k (Gap g) = []
track_line k (Transition t) = []
track_line k (Stack s) = []
track_line k (Track t) =
    line (codes "track") (decimal k) (quoted t.kind ++ (codes " " ++ quoted t.name))

-- the lines of root children of which the first has this index
abbrev pub track_lines : {C : Type 0} → ℕ → List (ItemOf C) → List ℕ
track_lines k [] = []
track_lines k (x ∷ xs) = track_line k x ++ track_lines (k + 1) xs

-- a line for each root child that is a track
abbrev pub tracks_text : Timeline → List ℕ
tracks_text t = track_lines 0 (items_of t.tracks.children)

-- the line of a clip: its place, and its name as a JSON string or the key of its media
abbrev pub spot_line : Told → Spot → List ℕ
spot_line Name s = line (codes "clip") (place_text s.place) (quoted s.clip.name)
spot_line Key s = line (codes "media") (place_text s.place) (key_text (key_of s.clip))

-- the lines of clips that are seen from a place
abbrev pub spot_lines : Told → List ℕ → List Spot → List ℕ
spot_lines told place found = flat_map (λ s. spot_line told (from_place place s)) found

-- a line for each clip, with its name
abbrev pub clips_text : Timeline → List ℕ
clips_text t = spot_lines Name [] (spots t.tracks.children)

-- a line for each clip, with the key of its media
abbrev pub media_text : Timeline → List ℕ
media_text t = spot_lines Key [] (spots t.tracks.children)

-- a rate as JSON has it: a 1001 relative by its own text, any other by its decimal
abbrev pub rate_text : FrameRate → List ℕ
rate_text r =
    if unsigned_abs r.den == 1001 then relative_text (unsigned_abs r.num) else decimal_text
    (pos (rate_millionths r.num r.den))

-- a word, a space, a number and a line feed
abbrev pub number_line : List ℕ → List ℕ → List ℕ
number_line word number = word ++ (codes " " ++ (number ++ codes "\n"))

-- a line for the number of items of each kind
abbrev pub counts_text : Counts → List ℕ
counts_text c = number_line (codes "tracks") (decimal c.tracks)
    ++ (number_line (codes "stacks") (decimal c.stacks)
    ++ (number_line (codes "clips") (decimal c.clips)
    ++ (number_line (codes "gaps") (decimal c.gaps)
    ++ number_line (codes "transitions") (decimal c.transitions))))

-- the record rate, the first record frame, how many record frames the longest root child takes, and
-- how many items of each kind there are below the root
abbrev pub stats_text : Timeline → List ℕ
stats_text t = number_line (codes "rate") (rate_text (record_rate t))
    ++ (number_line (codes "start") (signed_decimal (start_frame t))
    ++ (number_line (codes "length") (decimal (whole_frames t))
    ++ counts_text (counts t.tracks.children)))

-- a text where it is asked for
abbrev pub where_asked : Bool → List ℕ → List ℕ
where_asked asked text = cond asked text []

-- the listings that are asked for: tracks, clips, media and numbers, in this order
abbrev pub listed_text : Timeline → (tracks clips media stats : Bool) → List ℕ
listed_text t tracks clips media stats = where_asked tracks (tracks_text t)
    ++ (where_asked clips (clips_text t)
    ++ (where_asked media (media_text t) ++ where_asked stats (stats_text t)))
