-- The children of the root that give events, one after another.
use Rattle.std.proofs.Common.{◌≡◌, refl, sym, ap, subst, ◌∙◌, ℕ, suc, ◌+◌, ◌==◌, ◌≤◌, Bool, true, false, cond, List, [], ◌∷◌, ◌++◌, length, take, drop, Option, Some, None, append_assoc, add-one, arith}
use Rattle.std.specs.Prelude.{codes, slice_get}
use Rattle.std.specs.Str.{bytes_eq}
use Rattle.std.proofs.lemmas.List.{append-nil, map-append}
use Rattle.std.proofs.lemmas.List.Elements.{filter-append}
use Rattle.otio_model.specs.declared.compositions.TrackOf.{TrackOf}
use Rattle.otio_model.specs.declared.compositions.ItemOf.{ItemOf}
use Rattle.otio_model.specs.declared.compositions.ItemOf.TheVariants.{Clip, Gap, Transition, Stack, Track}
use Rattle.otio_model.specs.declared.compositions.Listed.{Listed}
use Rattle.edl_list.specs.declared.list.Channel.{Channel}
use Rattle.edl_list.specs.declared.list.Channel.TheVariants.{V, A, A2}
use Rattle.coord.proofs.Members.{next, none_left}
use Rattle.edl_frames.specs.Shown.{is_on}
use Rattle.edl_frames.specs.Jobs.{Job}
use Rattle.edl_frames.specs.Channels.{is_track_of}
use Rattle.edl_frames.specs.Carried.{count_of_kind}
use Rattle.edl_frames.specs.Homes.{Homed, homed_track, homed_root, homed_all, homed_on}
use Rattle.edl_conform.specs.declared.events_from_tracks.Taken.{Taken}
use Rattle.edl_conform.specs.declared.event_homes.Givers.{Givers}
use Rattle.edl_conform.specs.Walk.{channel_behind, taken_after}
use Rattle.edl_conform.specs.Givers.{AreCounted, PutsRoot, homes_in, places, spots_on}
use Rattle.edl_conform.proofs.ChannelEvents.{count_behind}
use Rattle.edl_conform.proofs.RootSteps.{counted_channel, one_kind, number_is, taken_more}

-- ---- counts

kept_count : (n m k : ℕ) → m ≡ n + 0 → (m == k) ≡ (n == k)
kept_count n m k e = let same : m ≡ n = omega (arith, e) in ap (λ z. z == k) same

not_none : (n m : ℕ) → m ≡ n + 1 → (m == 0) ≡ false
not_none n m e = grind (arith, e)

from_none : (n m : ℕ) → m ≡ n + 1 → (n == 0) ≡ true → (m == 1) ≡ true
from_none n m e z = let h : m ≡ 1 = (let f = number_is n 0 z in omega (arith, e, f)) in
    ap (λ k. k == 1) h

from_some : (n m : ℕ) → m ≡ n + 1 → (n == 0) ≡ false → (m == 1) ≡ false
from_some n m e z = grind (arith, e, z)

-- no track of a kind, as another root child counts
pub same_counted : (past : List (ItemOf Listed)) (x : ItemOf Listed) (taken : Taken)
    → is_track_of (codes "Video") x ≡ false → is_track_of (codes "Audio") x ≡ false
    → AreCounted past taken → AreCounted (past ++ x ∷ []) taken
same_counted past x taken video audio k =
    let v = count_behind (codes "Video") past x false video in
    let a = count_behind (codes "Audio") past x false audio in
    record {
      video = kept_count _ _ 0 v ∙ k.video;
      audio = kept_count _ _ 0 a ∙ k.audio;
      second = kept_count _ _ 1 a ∙ k.second;
    }

-- so many, and a track of the channel or of none
abbrev taken_by : Option Channel → Taken → Taken
taken_by None taken = taken
taken_by (Some c) taken = taken_after c taken

counted_by : (past : List (ItemOf Listed)) (t : TrackOf Listed) (taken : Taken)
    (video audio free none one : Bool) → bytes_eq t.kind (codes "Video") ≡ video
    → bytes_eq t.kind (codes "Audio") ≡ audio → (taken.video == 0) ≡ free
    → (taken.audio == 0) ≡ none → (taken.audio == 1) ≡ one → AreCounted past taken
    → AreCounted (past ++ Track t ∷ [])
    (taken_by (cond video (cond free (Some V) None)
    (cond audio (cond none (Some A) (cond one (Some A2) None)) None)) taken)
counted_by past t taken true audio free none one a b d f g k =
    let quiet = one_kind t (codes "Video") false a refl in
    let v = count_behind (codes "Video") past (Track t) true a in
    let s = count_behind (codes "Audio") past (Track t) false quiet in
    by free d v s
  where
    by : (free : Bool) → (taken.video == 0) ≡ free
        → count_of_kind (codes "Video") (past ++ Track t ∷ [])
        ≡ count_of_kind (codes "Video") past + 1
        → count_of_kind (codes "Audio") (past ++ Track t ∷ [])
        ≡ count_of_kind (codes "Audio") past + 0
        → AreCounted (past ++ Track t ∷ []) (taken_by (cond free (Some V) None) taken)
    by true d v s = record {
      video = not_none _ _ v;
      audio = kept_count _ _ 0 s ∙ k.audio;
      second = kept_count _ _ 1 s ∙ k.second;
    }
    by false d v s = record {
      video = not_none _ _ v ∙ sym d;
      audio = kept_count _ _ 0 s ∙ k.audio;
      second = kept_count _ _ 1 s ∙ k.second;
    }
counted_by past t taken false true free none one a b d f g k =
    let v = count_behind (codes "Video") past (Track t) false a in
    let s = count_behind (codes "Audio") past (Track t) true b in
    by none one f g v s
  where
    by : (none one : Bool) → (taken.audio == 0) ≡ none → (taken.audio == 1) ≡ one
        → count_of_kind (codes "Video") (past ++ Track t ∷ [])
        ≡ count_of_kind (codes "Video") past + 0
        → count_of_kind (codes "Audio") (past ++ Track t ∷ [])
        ≡ count_of_kind (codes "Audio") past + 1
        → AreCounted (past ++ Track t ∷ [])
        (taken_by (cond none (Some A) (cond one (Some A2) None)) taken)
    by true one f g v s = record {
      video = kept_count _ _ 0 v ∙ k.video;
      audio = not_none _ _ s;
      second = from_none _ _ s (k.audio ∙ f);
    }
    by false true f g v s = record {
      video = kept_count _ _ 0 v ∙ k.video;
      audio = not_none _ _ s;
      second = from_some _ _ s (k.audio ∙ f);
    }
    by false false f g v s = record {
      video = kept_count _ _ 0 v ∙ k.video;
      audio = not_none _ _ s ∙ sym f;
      second = from_some _ _ s (k.audio ∙ f) ∙ sym g;
    }
counted_by past t taken false false free none one a b d f g k =
    same_counted past (Track t) taken a b k

track_counted : (past : List (ItemOf Listed)) (t : TrackOf Listed) (taken : Taken)
    → AreCounted past taken
    → AreCounted (past ++ Track t ∷ []) (taken_by (channel_behind taken t) taken)
track_counted past t taken k =
    counted_by past t taken (bytes_eq t.kind (codes "Video")) (bytes_eq t.kind (codes "Audio"))
    (taken.video == 0) (taken.audio == 0) (taken.audio == 1) refl refl refl refl refl k

-- ---- one root child

-- a track of a channel
pub puts_track : (k : ℕ) (past : List (ItemOf Listed)) (t : TrackOf Listed) (taken next : Taken)
    (c : Channel) (old new : Givers) → AreCounted past taken → Some c ≡ channel_behind taken t
    → next ≡ taken_after c taken
    → ((j : Job) (d : Channel) → places (spots_on d new)
    ≡ places (spots_on d old) ++ homes_in (homed_on d (homed_track j k t (Some c))))
    → PutsRoot k past (Track t) next old new
puts_track k past t taken after c old new is e n put = record {
  counted = counted (track_counted past t taken is) e n;
  put = λ j d. put j d ∙ ap (λ o. places (spots_on d old) ++ homes_in (homed_on d
      (homed_track j k t o))) (e ∙ sym (counted_channel past t taken is));
}
  where
    counted : AreCounted (past ++ Track t ∷ []) (taken_by (channel_behind taken t) taken)
        → Some c ≡ channel_behind taken t → after ≡ taken_after c taken
        → AreCounted (past ++ Track t ∷ []) after
    counted h e n =
        subst (AreCounted (past ++ Track t ∷ [])) (ap (λ o. taken_by o taken) (sym e) ∙ sym n) h

-- a track that has none
pub puts_no_track : (k : ℕ) (past : List (ItemOf Listed)) (t : TrackOf Listed) (taken : Taken)
    (old : Givers) → AreCounted past taken → None ≡ channel_behind taken t
    → PutsRoot k past (Track t) taken old old
puts_no_track k past t taken old is e = record {
  counted = subst (AreCounted (past ++ Track t ∷ [])) (ap (λ o. taken_by o taken) (sym e))
      (track_counted past t taken is);
  put = λ j d. sym (append-nil (places (spots_on d old)))
      ∙ ap (λ o. places (spots_on d old) ++ homes_in (homed_on d (homed_track j k t o)))
      (e ∙ sym (counted_channel past t taken is));
}

-- a root child that isn't a track
pub puts_other : (k : ℕ) (past : List (ItemOf Listed)) (x : ItemOf Listed) (taken : Taken)
    (old : Givers) → AreCounted past taken → ((t : TrackOf Listed) → x ≡ Track t → ⊥)
    → PutsRoot k past x taken old old
puts_other k past (Clip c) taken old is n = record {
  counted = same_counted past (Clip c) taken refl refl is;
  put = λ j d. sym (append-nil (places (spots_on d old)));
}
puts_other k past (Gap c) taken old is n = record {
  counted = same_counted past (Gap c) taken refl refl is;
  put = λ j d. sym (append-nil (places (spots_on d old)));
}
puts_other k past (Transition c) taken old is n = record {
  counted = same_counted past (Transition c) taken refl refl is;
  put = λ j d. sym (append-nil (places (spots_on d old)));
}
puts_other k past (Stack c) taken old is n = record {
  counted = same_counted past (Stack c) taken refl refl is;
  put = λ j d. sym (append-nil (places (spots_on d old)));
}
puts_other k past (Track t) taken old is n = absurd (n t refl)

-- ---- all root children

-- those before i have come
pub record HavePut (items : List (ItemOf Listed)) (i : ℕ) (taken : Taken) (givers : Givers)
    : Type 0 where
  pub counted : AreCounted (take i items) taken
  pub put : (j : Job) (c : Channel) → places (spots_on c givers)
      ++ homes_in (homed_on c (homed_all j i (take i items) (drop i items)))
      ≡ homes_in (homed_on c (homed_all j 0 [] items))

pub none_put : (items : List (ItemOf Listed)) (taken : Taken) (givers : Givers)
    → taken.video ≡ 0 → taken.audio ≡ 0 → givers.picture.items ≡ []
    → givers.first_sound.items ≡ [] → givers.second_sound.items ≡ []
    → HavePut items 0 taken givers
none_put items taken givers video audio p f s = record {
  counted = record {
    video = ap (λ n. n == 0) (sym video);
    audio = ap (λ n. n == 0) (sym audio);
    second = ap (λ n. n == 1) (sym audio);
  };
  put = λ j c. ap (λ l. places l ++ homes_in (homed_on c (homed_all j 0 [] items))) (empty c);
}
  where
    empty : (c : Channel) → spots_on c givers ≡ []
    empty V = p
    empty A = f
    empty A2 = s

pub puts_more : (items : List (ItemOf Listed)) (i : ℕ) (x : ItemOf Listed) (taken after : Taken)
    (old new : Givers) → slice_get items i ≡ Some x → HavePut items i taken old
    → PutsRoot i (take i items) x after old new → HavePut items (i + 1) after new
puts_more items i x taken after old new e come adds =
    let more = sym (taken_more items i x e) in
    record {
      counted = subst (λ l. AreCounted l after) more adds.counted;
      put = λ j c.
          ap (λ l. l ++ homes_in (homed_on c (homed_all j (i + 1) (take (i + 1) items)
          (drop (i + 1) items)))) (adds.put j c)
          ∙ append_assoc (places (spots_on c old))
          (homes_in (homed_on c (homed_root j i (take i items) x)))
          (homes_in (homed_on c (homed_all j (i + 1) (take (i + 1) items) (drop (i + 1) items))))
          ∙ ap (λ l. places (spots_on c old) ++ l)
          (ap (λ n. homes_in (homed_on c (homed_root j i (take i items) x))
          ++ homes_in (homed_on c (homed_all j n (take (i + 1) items) (drop (i + 1) items))))
          (add-one i)
          ∙ ap (λ l. homes_in (homed_on c (homed_root j i (take i items) x))
          ++ homes_in (homed_on c (homed_all j (suc i) l (drop (i + 1) items)))) (sym more)
          ∙ joined c (homed_root j i (take i items) x)
          (homed_all j (suc i) (take i items ++ x ∷ []) (drop (i + 1) items))
          ∙ ap (λ l. homes_in (homed_on c (homed_all j i (take i items) l)))
          (sym (next items i x e)))
          ∙ come.put j c;
    }
  where
    joined : (c : Channel) (xs ys : List Homed)
        → homes_in (homed_on c xs) ++ homes_in (homed_on c ys) ≡ homes_in (homed_on c (xs ++ ys))
    joined c xs ys =
        sym (ap homes_in (filter-append (λ (h : Homed). is_on c h.event) xs ys)
        ∙ map-append (λ (h : Homed). h.home) (homed_on c xs) (homed_on c ys))

-- after the last
pub all_put : (items : List (ItemOf Listed)) (i : ℕ) (taken : Taken) (givers : Givers)
    → length items ≤ i → HavePut items i taken givers → (j : Job) (c : Channel)
    → places (spots_on c givers) ≡ homes_in (homed_on c (homed_all j 0 [] items))
all_put items i taken givers all come j c =
    sym (append-nil (places (spots_on c givers)))
    ∙ ap (λ l. places (spots_on c givers)
    ++ homes_in (homed_on c (homed_all j i (take i items) l))) (sym (none_left items i all))
    ∙ come.put j c
