-- Clips that are made one after another.
use Rattle.std.proofs.Common.{◌≡◌, refl, sym, ap, subst, ◌∙◌, ℕ, suc, ◌+◌, ◌-◌, ◌<◌, ◌++◌, List, [], ◌∷◌, arith, Some}
use Rattle.std.specs.Prelude.{codes}
use Rattle.std.proofs.lemmas.List.{append_assoc, append-nil}
use Rattle.otio_model.specs.declared.compositions.ItemOf.{ItemOf}
use Rattle.otio_model.specs.declared.compositions.Listed.{Listed}
use Rattle.otio_model.specs.declared.compositions.StackOf.{StackOf}
use Rattle.otio_model.specs.declared.timelines.Timeline.{Timeline}
use Rattle.tick_time.specs.declared.times.Time.{Time}
use Rattle.tick_time.specs.FixedRates.{rate_24}
use Rattle.edit_script.specs.Items.{IsItem}
use Rattle.tick_time.specs.Frames.{IsFrames}
use Rattle.drill.specs.Acts.{clip_at, clips}
use Rattle.drill.specs.Draws.{after}
use Rattle.drill.specs.Media.{rows}
use Rattle.drill.specs.Starting.{AreItems, IsStart, behind, behind_start, first_frame, root_of, start_clips, video_track}
use Rattle.drill.specs.Making.{AreMade}

-- none is made
pub none_made : (count x : ℕ) → AreMade count 0 x x []
none_made count x =
    let whole : count - 0 ≡ count = omega arith in
    record {
      all = λ others h. subst (λ n. AreItems (clips 0 n x) others) whole h;
      number = ap (λ n. behind n x) whole;
    }

left_more : (count made : ℕ) → made < count → count - made ≡ suc (count - (made + 1))
left_more count made h = omega (arith, h)

-- one more is made
pub one_made : (count made x y z : ℕ) (items more : List (ItemOf Listed)) (c : ItemOf Listed)
    → made < count → AreMade count made x y items → IsItem rate_24 (Some rows) (clip_at made y) c
    → z ≡ after 2 y → more ≡ items ++ c ∷ [] → AreMade count (made + 1) x z more
one_made count made x y z items more c less m is e f = record {
  all = λ others h.
      let left = left_more count made less in
      let here : AreItems (clips (made + 1) (count - (made + 1)) (after 2 y)) others =
      subst (λ n. AreItems (clips (made + 1) (count - (made + 1)) n) others) e h in
      let all : AreItems (clips made (count - made) y) (c ∷ others) =
      subst (λ n. AreItems (clips made n y) (c ∷ others)) (sym left)
      (c, others, refl, is, here) in
      subst (AreItems (clips 0 count x)) (sym (ap (λ l. l ++ others) f
      ∙ append_assoc items (c ∷ []) others)) (m.all (c ∷ others) all);
  number =
      ap (λ n. behind (count - (made + 1)) n) e
      ∙ ap (λ n. behind n y) (sym (left_more count made less)) ∙ m.number;
}

-- all are made
pub all_made : (count x y : ℕ) (items : List (ItemOf Listed)) → AreMade count count x y items
    → AreItems (clips 0 count x) items
all_made count x y items m =
    let left : count - count ≡ 0 = omega arith in
    subst (AreItems (clips 0 count x)) (append-nil items)
    (m.all [] (subst (λ n. AreItems (clips count n y) []) (sym left) refl))

pub all_drawn : (count x y : ℕ) (items : List (ItemOf Listed)) → AreMade count count x y items
    → y ≡ behind count x
all_drawn count x y items m =
    let left : count - count ≡ 0 = omega arith in
    ap (λ n. behind n y) (sym left) ∙ m.number

-- those of the timeline
pub as_start : (x : ℕ) (made items : List (ItemOf Listed)) → items ≡ made
    → AreItems (clips 0 40 x) made → AreItems (start_clips x) items
unfolding start_clips
as_start x made items e h = subst (AreItems (clips 0 40 x)) (sym e) h

pub behind_is : (x y : ℕ) → y ≡ behind 40 x → y ≡ behind_start x
unfolding behind_start
behind_is x y e = e

-- the timeline of what was made
pub started : (x : ℕ) (t : Timeline) (start : Time) (items : List (ItemOf Listed))
    (track : ItemOf Listed) (tracks : StackOf Listed) → IsFrames rate_24 first_frame start
    → AreItems (start_clips x) items → track ≡ video_track items → tracks ≡ root_of track
    → t.metadata ≡ [] → t.name ≡ codes "drill" → t.global_start_time ≡ Some start
    → t.tracks ≡ tracks → t.rest ≡ [] → IsStart x t
started x t start items track tracks begins drawn e f g h i j k =
    let whole : t.tracks ≡ root_of (video_track items) = j ∙ f ∙ ap root_of e in
    record {
      start = start;
      begins = begins;
      items = items;
      drawn = drawn;
      is = λ a. record {
        metadata = g a;
        name = h a;
        global_start_time = i a;
        tracks = whole a;
        rest = k a;
        spare = record { room = 0; taken = 0; loose = 0 };
      };
    }
