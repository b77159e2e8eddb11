-- The lines of a small tree, worked out by hand.
use Rattle.std.specs.Prelude.{◌≡◌, ℕ, pos, List, [], ◌∷◌, ◌++◌, None, codes}
use Rattle.otio_model.specs.declared.compositions.ItemOf.{ItemOf}
use Rattle.otio_model.specs.Plain.{clip_with, gap_with, shot_with, stack_with, track_with}
use Rattle.otio_model.specs.Plain.{transition_with}
use Rattle.show_prog.specs.declared.clip_rows.Told.TheVariants.{Name, Key}
use Rattle.show_prog.specs.declared.counting.Counts.{Counts}
use Rattle.show_prog.specs.Spots.{Spot, spots_from}
use Rattle.show_prog.specs.Counted.{counts_in}
use Rattle.show_prog.specs.ListingTexts.{track_lines, spot_lines, counts_text, rate_text}

-- a clip of a file
abbrev pub shot : {C : Type 0} → (name url : List ℕ) → ItemOf C
shot name url = shot_with name None [] None url

-- a clip without media
abbrev pub card : {C : Type 0} → List ℕ → ItemOf C
card name = clip_with [] name None [] [] (codes "m")

abbrev pub dissolve : {C : Type 0} → ItemOf C
dissolve = transition_with (codes "SMPTE_Dissolve") None None

-- a track of two clips with a dissolve between them, a stack of a track whose clip stands after a
-- gap, and a track of one clip; the function says what is known of a list's items
abbrev pub tree : {C : Type 0} → (List (ItemOf C) → C) → List (ItemOf C)
tree f = track_with (codes "Video") (codes "V\"1")
    (f (shot (codes "a") (codes "a.mov") ∷ dissolve ∷ card (codes "b") ∷ []))
    ∷ stack_with None []
    (f (track_with (codes "Video") []
    (f (gap_with None ∷ shot (codes "c") (codes "c.mov") ∷ [])) ∷ []))
    ∷ track_with (codes "Audio") (codes "A") (f (shot (codes "d") (codes "a.wav") ∷ [])) ∷ []

-- its clips, and how many items it has
abbrev pub tree_spots : List Spot
tree_spots = spots_from (λ (s : List Spot). s) 0 (tree (spots_from (λ (s : List Spot). s) 0))

abbrev pub tree_counts : Counts
tree_counts = counts_in (λ (c : Counts). c) (tree (counts_in (λ (c : Counts). c)))

-- what is listed of it, and some rates
pub record AreListingsWorked : Type 0 where
  pub tracks : track_lines 0 (tree (λ (l : List (ItemOf (Unit {0}))). tt))
      ≡ codes "track 0 \"Video\" \"V\\\"1\"\ntrack 2 \"Audio\" \"A\"\n"
  pub clips : spot_lines Name [] tree_spots
      ≡ codes "clip 0/0 \"a\"\nclip 0/2 \"b\"\nclip 1/0/1 \"c\"\nclip 2/0 \"d\"\n"
  pub media : spot_lines Key [] tree_spots
      ≡ codes "media 0/0 url:\"a.mov\"\nmedia 0/2 name:\"b\"\n"
      ++ codes "media 1/0/1 url:\"c.mov\"\nmedia 2/0 url:\"a.wav\"\n"
  pub counts : counts_text tree_counts
      ≡ codes "tracks 3\nstacks 1\nclips 4\ngaps 1\ntransitions 1\n"
  pub whole_rate : rate_text (record { num = pos 24; den = pos 1 }) ≡ codes "24.0"
  pub half_rate : rate_text (record { num = pos 25; den = pos 2 }) ≡ codes "12.5"
  pub slowed_rate : rate_text (record { num = pos 30000; den = pos 1001 })
      ≡ codes "29.97002997002997"
