-- The children of the root, one after another.
use Rattle.std.proofs.Common.{◌≡◌, inl, inr, refl, sym, ap, ap₂, subst, ◌∙◌, ℕ, zero, suc, ◌+◌, ◌==◌, ◌≤◌, Bool, true, false, cond, List, [], ◌∷◌, ◌++◌, length, take, drop, Option, Some, None, arith, add-one}
use Rattle.std.specs.Prelude.{codes, slice_get}
use Rattle.std.specs.Str.{bytes_eq}
use Rattle.std.proofs.lemmas.Slice.Eq.{bytes_eq-Decides}
use Rattle.std.proofs.lemmas.List.{append-nil, take_all}
use Rattle.std.proofs.lemmas.List.Elements.{filter-append}
use Rattle.otio_model.specs.declared.compositions.TrackOf.{TrackOf}
use Rattle.otio_model.specs.declared.compositions.ItemOf.{ItemOf}
use Rattle.otio_model.specs.declared.compositions.ItemOf.TheVariants.{Track}
use Rattle.otio_model.specs.declared.compositions.Listed.{Listed}
use Rattle.edl_list.specs.declared.list.Channel.{Channel}
use Rattle.edl_list.specs.declared.list.Channel.TheVariants.{V, A, A2}
use Rattle.edl_list.specs.declared.list.Event.{Event}
use Rattle.edl_list.specs.Formed.{rank}
use Rattle.coord.proofs.Members.{next, none_left}
use Rattle.edl_frames.specs.declared.reasons.NotCarried.{NotCarried}
use Rattle.edl_frames.specs.declared.reasons.NotCarried.TheVariants.{At, Memory}
use Rattle.edl_frames.specs.Shown.{is_on, on_channel}
use Rattle.edl_frames.specs.Channels.{channel_track}
use Rattle.edl_frames.specs.Jobs.{Job}
use Rattle.edl_frames.specs.ChildEvents.{events_on}
use Rattle.edl_frames.specs.Carried.{Examined, count_of_kind, channel_of, examine_track, examine, examine_all, first_said}
use Rattle.edl_conform.specs.declared.events_from_tracks.Taken.{Taken}
use Rattle.edl_conform.specs.Givers.{AreCounted}
use Rattle.edl_conform.specs.Walk.{AreRising, AreTaken, AreGathered, AddsTrack, AddsRoot, HasCome, IsSaid, channel_behind, taken_after}
use Rattle.edl_conform.proofs.FirstSaid.{said_behind, said_before}
use Rattle.edl_conform.proofs.ChannelEvents.{track_is_unlined, on_by, count_behind, none_there, comes_next, stays}

-- a track behind others that has a channel
record IsAssigned (past : List (ItemOf Listed)) (t : TrackOf Listed) (taken : Taken) (c : Channel)
    : Type 0 where
  none : channel_track c past ≡ None
  some : channel_track c (past ++ Track t ∷ []) ≡ Some (Track t)
  others : (d : Channel) → (rank d == rank c) ≡ false
      → channel_track d (past ++ Track t ∷ []) ≡ channel_track d past
  next : AreTaken (past ++ Track t ∷ []) (taken_after c taken)

pub one_kind : (t : TrackOf Listed) (kind : List ℕ) (b : Bool) → bytes_eq t.kind kind ≡ true
    → bytes_eq kind (codes "Audio") ≡ b → bytes_eq t.kind (codes "Audio") ≡ b
one_kind t kind b e f =
    ap (λ z. bytes_eq z (codes "Audio")) ((bytes_eq-Decides t.kind kind).0 e) ∙ f

picture : (past : List (ItemOf Listed)) (t : TrackOf Listed) (taken : Taken)
    → AreTaken past taken → bytes_eq t.kind (codes "Video") ≡ true → taken.video ≡ 0
    → IsAssigned past t taken V
picture past t taken k video first =
    let audio = one_kind t (codes "Video") false video refl in
    let none : count_of_kind (codes "Video") past ≡ 0 = sym k.video ∙ first in
    record {
      none = none_there (codes "Video") 0 past none;
      some = comes_next (codes "Video") 0 past (Track t) none video;
      others = λ d apart. other d apart audio;
      next = record {
        video = let n = count_behind (codes "Video") past (Track t) true video in
            omega (arith, n, none);
        audio = let n = count_behind (codes "Audio") past (Track t) false audio in
            let m = k.audio in omega (arith, n, m);
      };
    }
  where
    other : (d : Channel) → (rank d == 0) ≡ false → bytes_eq t.kind (codes "Audio") ≡ false
        → channel_track d (past ++ Track t ∷ []) ≡ channel_track d past
    other V apart audio = absurd (cc apart)
    other A apart audio = stays (codes "Audio") 0 past (Track t) (inl audio)
    other A2 apart audio = stays (codes "Audio") 1 past (Track t) (inl audio)

first_sound : (past : List (ItemOf Listed)) (t : TrackOf Listed) (taken : Taken)
    → AreTaken past taken → bytes_eq t.kind (codes "Video") ≡ false
    → bytes_eq t.kind (codes "Audio") ≡ true → taken.audio ≡ 0 → IsAssigned past t taken A
first_sound past t taken k video audio first =
    let none : count_of_kind (codes "Audio") past ≡ 0 = sym k.audio ∙ first in
    record {
      none = none_there (codes "Audio") 0 past none;
      some = comes_next (codes "Audio") 0 past (Track t) none audio;
      others = λ d apart. other d apart none;
      next = record {
        video = let n = count_behind (codes "Video") past (Track t) false video in
            let m = k.video in omega (arith, n, m);
        audio = let n = count_behind (codes "Audio") past (Track t) true audio in
            omega (arith, n, none);
      };
    }
  where
    other : (d : Channel) → (rank d == 1) ≡ false → count_of_kind (codes "Audio") past ≡ 0
        → channel_track d (past ++ Track t ∷ []) ≡ channel_track d past
    other V apart none = stays (codes "Video") 0 past (Track t) (inl video)
    other A apart none = absurd (cc apart)
    other A2 apart none =
        stays (codes "Audio") 1 past (Track t) (inr (λ same. omega (arith, same, none)))

second_sound : (past : List (ItemOf Listed)) (t : TrackOf Listed) (taken : Taken)
    → AreTaken past taken → bytes_eq t.kind (codes "Video") ≡ false
    → bytes_eq t.kind (codes "Audio") ≡ true → taken.audio ≡ 1 → IsAssigned past t taken A2
second_sound past t taken k video audio one =
    let some : count_of_kind (codes "Audio") past ≡ 1 = sym k.audio ∙ one in
    record {
      none = none_there (codes "Audio") 1 past some;
      some = comes_next (codes "Audio") 1 past (Track t) some audio;
      others = λ d apart. other d apart some;
      next = record {
        video = let n = count_behind (codes "Video") past (Track t) false video in
            let m = k.video in omega (arith, n, m);
        audio = let n = count_behind (codes "Audio") past (Track t) true audio in
            omega (arith, n, some);
      };
    }
  where
    other : (d : Channel) → (rank d == 2) ≡ false → count_of_kind (codes "Audio") past ≡ 1
        → channel_track d (past ++ Track t ∷ []) ≡ channel_track d past
    other V apart some = stays (codes "Video") 0 past (Track t) (inl video)
    other A apart some =
        stays (codes "Audio") 0 past (Track t) (inr (λ same. omega (arith, same, some)))
    other A2 apart some = absurd (cc apart)

pub number_is : (n m : ℕ) → (n == m) ≡ true → n ≡ m
number_is n m e = grind (arith, e)

assigned : (past : List (ItemOf Listed)) (t : TrackOf Listed) (taken : Taken) (c : Channel)
    → AreTaken past taken → channel_behind taken t ≡ Some c → IsAssigned past t taken c
assigned past t taken c k e =
    by (bytes_eq t.kind (codes "Video")) (bytes_eq t.kind (codes "Audio")) (taken.video == 0)
    (taken.audio == 0) (taken.audio == 1) refl refl refl refl refl e
  where
    given : (d : Channel) → IsAssigned past t taken d → Some d ≡ Some c → IsAssigned past t taken c
    given d a f = let same : d ≡ c = cc f in subst (IsAssigned past t taken) same a

    by : (video audio free none one : Bool) → bytes_eq t.kind (codes "Video") ≡ video
        → bytes_eq t.kind (codes "Audio") ≡ audio → (taken.video == 0) ≡ free
        → (taken.audio == 0) ≡ none → (taken.audio == 1) ≡ one
        → cond video (cond free (Some V) None)
        (cond audio (cond none (Some A) (cond one (Some A2) None)) None) ≡ Some c
        → IsAssigned past t taken c
    by true audio true none one a b d f g h = given V (picture past t taken k a (number_is _ _ d)) h
    by true audio false none one a b d f g h = absurd (cc h)
    by false true free true one a b d f g h =
        given A (first_sound past t taken k a b (number_is _ _ f)) h
    by false true free false true a b d f g h =
        given A2 (second_sound past t taken k a b (number_is _ _ g)) h
    by false true free false false a b d f g h = absurd (cc h)
    by false false free none one a b d f g h = absurd (cc h)

-- the channel of a track after these, of which it is known whether there are none, or one
pub counted_channel : (past : List (ItemOf Listed)) (t : TrackOf Listed) (taken : Taken)
    → AreCounted past taken → channel_of past t ≡ channel_behind taken t
counted_channel past t taken k =
    ap (λ free. cond (bytes_eq t.kind (codes "Video")) (cond free (Some V) None)
    (cond (bytes_eq t.kind (codes "Audio"))
    (cond (count_of_kind (codes "Audio") past == 0) (Some A)
    (cond (count_of_kind (codes "Audio") past == 1) (Some A2) None)) None)) k.video
    ∙ ap₂ (λ none one. cond (bytes_eq t.kind (codes "Video"))
    (cond (taken.video == 0) (Some V) None)
    (cond (bytes_eq t.kind (codes "Audio"))
    (cond none (Some A) (cond one (Some A2) None)) None)) k.audio k.second

taken_channel : (past : List (ItemOf Listed)) (t : TrackOf Listed) (taken : Taken)
    → AreTaken past taken → channel_of past t ≡ channel_behind taken t
taken_channel past t taken k = counted_channel past t taken (record {
  video = ap (λ n. n == 0) (sym k.video);
  audio = ap (λ n. n == 0) (sym k.audio);
  second = ap (λ n. n == 1) (sym k.audio);
})

pub one_channel : (d c : Channel) → (rank d == rank c) ≡ true → d ≡ c
one_channel V V e = refl
one_channel V A e = absurd (cc e)
one_channel V A2 e = absurd (cc e)
one_channel A V e = absurd (cc e)
one_channel A A e = refl
one_channel A A2 e = absurd (cc e)
one_channel A2 V e = absurd (cc e)
one_channel A2 A e = absurd (cc e)
one_channel A2 A2 e = refl

gathers : (j : Job) (k : ℕ) (past : List (ItemOf Listed)) (t : TrackOf Listed) (taken : Taken)
    (c : Channel) (old new : List Event) → IsAssigned past t taken c → AddsTrack j c k t old new
    → AreGathered j past old → AreGathered j (past ++ Track t ∷ []) new
gathers j k past t taken c old new a adds g = record {
  on = λ d. ap (on_channel d) adds.added ∙ filter-append (is_on d) old es
      ∙ ap (λ l. on_channel d old ++ l)
      (on_by d c (rank d == rank c) es refl (track_is_unlined j c (Some (Track t))))
      ∙ on_each d (rank d == rank c) refl;
  rising = λ d. rises d (rank d == rank c) refl;
}
  where
    es : List Event
    es = events_on j c (Some (Track t))

    on_each : (d : Channel) (b : Bool) → (rank d == rank c) ≡ b
        → on_channel d old ++ cond b (events_on j c (Some (Track t))) []
        ≡ events_on j d (channel_track d (past ++ Track t ∷ []))
    on_each d true e =
        let same : d ≡ c = one_channel d c e in
        ap (λ l. l ++ events_on j c (Some (Track t)))
        (ap (λ x. on_channel x old) same ∙ g.on c ∙ ap (events_on j c) a.none)
        ∙ sym (ap (λ x. events_on j x (channel_track x (past ++ Track t ∷ []))) same
        ∙ ap (events_on j c) a.some)
    on_each d false e =
        append-nil (on_channel d old) ∙ g.on d ∙ ap (events_on j d) (sym (a.others d e))

    rises : (d : Channel) (b : Bool) → (rank d == rank c) ≡ b
        → AreRising (events_on j d (channel_track d (past ++ Track t ∷ [])))
    rises d true e =
        let same : d ≡ c = one_channel d c e in
        subst AreRising
        (sym (ap (λ x. events_on j x (channel_track x (past ++ Track t ∷ []))) same
        ∙ ap (events_on j c) a.some)) adds.rising
    rises d false e = subst AreRising (ap (events_on j d) (sym (a.others d e))) (g.rising d)

-- ---- one root child

-- a track that has a channel
pub adds_root : (j : Job) (k : ℕ) (past : List (ItemOf Listed)) (t : TrackOf Listed)
    (taken : Taken) (c : Channel) (old new : List Event)
    → AreTaken past taken → channel_behind taken t ≡ Some c → AddsTrack j c k t old new
    → AddsRoot j k past (Track t) (taken_after c taken) old new
adds_root j k past t taken c old new is e adds =
    let a = assigned past t taken c is e in
    record {
      taken = a.next;
      gathered = gathers j k past t taken c old new a adds;
      said = ap (λ o. first_said (examine_track j k t o)) (taken_channel past t taken is ∙ e)
          ∙ adds.said;
    }

-- what is said of a track, by the channel that it has
pub track_said : (j : Job) (k : ℕ) (past : List (ItemOf Listed)) (t : TrackOf Listed)
    (taken : Taken) (o : Option Channel) (fault : NotCarried)
    → AreTaken past taken → channel_behind taken t ≡ o
    → IsSaid (first_said (examine_track j k t o)) fault
    → IsSaid (first_said (examine j k past (Track t))) fault
track_said j k past t taken o fault is e said =
    subst (λ o. IsSaid (first_said (examine_track j k t o)) fault)
    (sym (taken_channel past t taken is ∙ e)) said

-- ---- all root children

pub none_come : (j : Job) (items : List (ItemOf Listed)) (taken : Taken) (events : List Event)
    → taken.video ≡ 0 → taken.audio ≡ 0 → events ≡ [] → HasCome j items 0 taken events
none_come j items taken events video audio none = record {
  taken_is = record { video = video; audio = audio };
  gathered = record { on = λ c. ap (on_channel c) none ∙ empty c; rising = λ c. rising c };
  said = refl;
}
  where
    empty : (c : Channel) → ◌≡◌ {A = List Event} [] (events_on j c (channel_track c []))
    empty V = refl
    empty A = refl
    empty A2 = refl

    rising : (c : Channel) → AreRising (events_on j c (channel_track c []))
    rising c i k d low high =
        let none = ap length (empty c) in absurd (omega (arith, high, none))

taken_in : (items : List (ItemOf Listed)) (i : ℕ) (x : ItemOf Listed)
    → slice_get items i ≡ Some x → take (suc i) items ≡ take i items ++ x ∷ []
taken_in [] zero x e = absurd (cc e)
taken_in [] (suc i) x e = absurd (cc e)
taken_in (y ∷ items) zero x e = let same : y ≡ x = cc e in ap (λ z. z ∷ []) same
taken_in (y ∷ items) (suc i) x e = ap (λ l. y ∷ l) (taken_in items i x e)

pub taken_more : (items : List (ItemOf Listed)) (i : ℕ) (x : ItemOf Listed)
    → slice_get items i ≡ Some x → take (i + 1) items ≡ take i items ++ x ∷ []
taken_more items i x e = rw add-one (taken_in items i x e)

-- one more root child of which nothing is said
pub comes_on : (j : Job) (items : List (ItemOf Listed)) (i : ℕ) (x : ItemOf Listed)
    (taken next : Taken) (old new : List Event) → slice_get items i ≡ Some x
    → HasCome j items i taken old → AddsRoot j i (take i items) x next old new
    → HasCome j items (i + 1) next new
comes_on j items i x taken after old new e come adds =
    let more = sym (taken_more items i x e) in
    record {
      taken_is = subst (λ l. AreTaken l after) more adds.taken;
      gathered = subst (λ l. AreGathered j l new) more (adds.gathered come.gathered);
      said = come.said
          ∙ ap (λ l. first_said (examine_all j i (take i items) l)) (next items i x e)
          ∙ said_behind (examine j i (take i items) x)
          (examine_all j (suc i) (take i items ++ x ∷ []) (drop (i + 1) items)) adds.said
          ∙ ap (λ l. first_said (examine_all j (suc i) l (drop (i + 1) items))) more
          ∙ ap (λ n. first_said (examine_all j n (take (i + 1) items) (drop (i + 1) items)))
          (sym (add-one i));
    }

front_said : (ps qs : List Examined) (fault : NotCarried) → IsSaid (first_said ps) fault
    → IsSaid (first_said (ps ++ qs)) fault
front_said ps qs (At place why) said = said_before ps qs (place, why) said
front_said ps qs Memory said = tt

-- a root child of which something is said
pub root_stops : (j : Job) (items : List (ItemOf Listed)) (i : ℕ) (x : ItemOf Listed)
    (taken : Taken) (events : List Event) (fault : NotCarried) → slice_get items i ≡ Some x
    → HasCome j items i taken events → IsSaid (first_said (examine j i (take i items) x)) fault
    → IsSaid (first_said (examine_all j 0 [] items)) fault
root_stops j items i x taken events fault e come said =
    subst (λ o. IsSaid o fault)
    (sym (come.said
    ∙ ap (λ l. first_said (examine_all j i (take i items) l)) (next items i x e)))
    (front_said (examine j i (take i items) x)
    (examine_all j (suc i) (take i items ++ x ∷ []) (drop (i + 1) items)) fault said)

-- behind the last root child
pub all_come : (j : Job) (items : List (ItemOf Listed)) (i : ℕ) (taken : Taken)
    (events : List Event) → length items ≤ i → HasCome j items i taken events
    → AreGathered j items events × (first_said (examine_all j 0 [] items) ≡ None)
all_come j items i taken events all come = (
  subst (λ l. AreGathered j l events) (take_all i items all) come.gathered,
  come.said
      ∙ ap (λ l. first_said (examine_all j i (take i items) l)) (none_left items i all),
)
