-- Events on their channels, and the tracks that these have.
use Rattle.std.proofs.Common.{◌≡◌, ◌≢◌, ◌⊎◌, inl, inr, refl, sym, ap, ap₂, ◌∙◌, ℕ, zero, suc, ◌+◌, ◌==◌, Bool, true, false, cond, List, [], ◌∷◌, ◌++◌, All, map, length, Option, Some, None, arith}
use Rattle.std.proofs.lemmas.List.Elements.{All-head, All-tail, All-nil}
use Rattle.otio_model.specs.declared.compositions.ItemOf.{ItemOf}
use Rattle.otio_model.specs.declared.compositions.ItemOf.TheVariants.{Clip, Gap, Transition, Stack, Track}
use Rattle.otio_model.specs.declared.compositions.Listed.{Listed}
use Rattle.otio_model.specs.Trees.{items_of}
use Rattle.edl_list.specs.declared.list.Channel.{Channel}
use Rattle.edl_list.specs.declared.list.Channel.TheVariants.{V, A, A2}
use Rattle.edl_list.specs.declared.list.Event.{Event}
use Rattle.edl_list.specs.Formed.{rank}
use Rattle.edl_frames.specs.Shown.{is_on, on_channel}
use Rattle.edl_frames.specs.Channels.{is_track_of, nth_track}
use Rattle.edl_frames.specs.Jobs.{Job}
use Rattle.edl_frames.specs.ChildEvents.{track_events, events_on, unnumbered}
use Rattle.edl_frames.specs.Carried.{count_of_kind}
use Rattle.edl_conform.proofs.EventTimes.{IsUnlined, track_unlined}

-- ---- events of one channel

pub track_is_unlined : (j : Job) (c : Channel) (o : Option (ItemOf Listed))
    → All (IsUnlined c) (events_on j c o)
track_is_unlined j c None = All-nil (IsUnlined c)
track_is_unlined j c (Some (Clip x)) = All-nil (IsUnlined c)
track_is_unlined j c (Some (Gap x)) = All-nil (IsUnlined c)
track_is_unlined j c (Some (Transition x)) = All-nil (IsUnlined c)
track_is_unlined j c (Some (Stack x)) = All-nil (IsUnlined c)
track_is_unlined j c (Some (Track t)) = by t.enabled
  where
    by : (b : Bool) → All (IsUnlined c) (cond b (track_events j c (items_of t.children)) [])
    by true = track_unlined j c (items_of t.children)
    by false = All-nil (IsUnlined c)

-- where the channels are the same, or not, so is the test
pub on_by : (d c : Channel) (b : Bool) (es : List Event) → (rank d == rank c) ≡ b
    → All (IsUnlined c) es → on_channel d es ≡ cond b es []
on_by d c true [] e all = refl
on_by d c false [] e all = refl
on_by d c b (x ∷ es) e all =
    let here : is_on d x ≡ b =
    ap (λ z. rank d == rank z) (All-head (IsUnlined c) x es all).channel ∙ e in
    by b here (on_by d c b es e (All-tail (IsUnlined c) x es all))
  where
    by : (b : Bool) → is_on d x ≡ b → on_channel d es ≡ cond b es []
        → cond (is_on d x) (x ∷ on_channel d es) (on_channel d es) ≡ cond b (x ∷ es) []
    by true h more = rw h (ap (λ l. x ∷ l) more)
    by false h more = rw h more

-- events without lines
pub without_lines : (c : Channel) (es : List Event) → All (IsUnlined c) es
    → map unnumbered es ≡ es
without_lines c [] all = refl
without_lines c (e ∷ es) all =
    ap₂ (λ x l. x ∷ l) (bare e (All-head (IsUnlined c) e es all).line)
    (without_lines c es (All-tail (IsUnlined c) e es all))
  where
    bare : (e : Event) → e.line ≡ 0 → unnumbered e ≡ e
    bare e h = λ k. record e { line = sym h k }

-- the numbers on the channels, added up, are that of all
pub all_channels : (es : List Event) → length es
    ≡ length (on_channel V es) + (length (on_channel A es) + length (on_channel A2 es))
all_channels [] = omega arith
all_channels (e ∷ es) = by e.channel refl (all_channels es)
  where
    by : (c : Channel) → e.channel ≡ c → length es
        ≡ length (on_channel V es) + (length (on_channel A es) + length (on_channel A2 es))
        → length (e ∷ es)
        ≡ length (cond (rank V == rank e.channel) (e ∷ on_channel V es) (on_channel V es))
        + (length (cond (rank A == rank e.channel) (e ∷ on_channel A es) (on_channel A es))
        + length (cond (rank A2 == rank e.channel) (e ∷ on_channel A2 es) (on_channel A2 es)))
    by V h more = rw h (omega (arith, more))
    by A h more = rw h (omega (arith, more))
    by A2 h more = rw h (omega (arith, more))

-- events without their lines stand on the same channels
pub on-unnumbered : (c : Channel) (es : List Event)
    → map unnumbered (on_channel c es) ≡ on_channel c (map unnumbered es)
on-unnumbered c [] = refl
on-unnumbered c (e ∷ es) = by (is_on c e) (on-unnumbered c es)
  where
    by : (b : Bool) → map unnumbered (on_channel c es) ≡ on_channel c (map unnumbered es)
        → map unnumbered (cond b (e ∷ on_channel c es) (on_channel c es))
        ≡ cond b (unnumbered e ∷ on_channel c (map unnumbered es))
        (on_channel c (map unnumbered es))
    by true more = ap (λ l. unnumbered e ∷ l) more
    by false more = more

-- ---- the track of a channel

-- one more of the tracks of a kind
one_more : (kind : List ℕ) (x : ItemOf Listed) (l : List (ItemOf Listed))
    → count_of_kind kind (x ∷ l) ≡ cond (is_track_of kind x) 1 0 + count_of_kind kind l
one_more kind (Clip c) l = omega arith
one_more kind (Gap c) l = omega arith
one_more kind (Transition c) l = omega arith
one_more kind (Stack c) l = omega arith
one_more kind (Track t) l = refl

count_with : (kind : List ℕ) (x : ItemOf Listed) (l : List (ItemOf Listed)) (b : Bool)
    → is_track_of kind x ≡ b → count_of_kind kind (x ∷ l) ≡ cond b 1 0 + count_of_kind kind l
count_with kind x l b e = one_more kind x l ∙ ap (λ z. cond z 1 0 + count_of_kind kind l) e

pub count_behind : (kind : List ℕ) (l : List (ItemOf Listed)) (x : ItemOf Listed) (b : Bool)
    → is_track_of kind x ≡ b
    → count_of_kind kind (l ++ x ∷ []) ≡ count_of_kind kind l + cond b 1 0
count_behind kind [] x b e = let n = count_with kind x [] b e in omega (arith, n)
count_behind kind (y ∷ l) x b e =
    let n = one_more kind y (l ++ x ∷ []) in let m = one_more kind y l in
    let more = count_behind kind l x b e in omega (arith, n, m, more)

-- the tracks of a kind end before that index
pub none_there : (kind : List ℕ) (i : ℕ) (l : List (ItemOf Listed)) → count_of_kind kind l ≡ i
    → nth_track kind i l ≡ None
none_there kind i [] e = refl
none_there kind zero (y ∷ l) e = by (is_track_of kind y) refl (none_there kind zero l)
  where
    by : (b : Bool) → is_track_of kind y ≡ b
        → (count_of_kind kind l ≡ 0 → nth_track kind zero l ≡ None)
        → cond (is_track_of kind y) (Some y) (nth_track kind zero l) ≡ None
    by true h more = let n = count_with kind y l true h in absurd (omega (arith, n, e))
    by false h more =
        let n = count_with kind y l false h in rw h (more (omega (arith, n, e)))
none_there kind (suc i) (y ∷ l) e =
    by (is_track_of kind y) refl (none_there kind i l) (none_there kind (suc i) l)
  where
    by : (b : Bool) → is_track_of kind y ≡ b
        → (count_of_kind kind l ≡ i → nth_track kind i l ≡ None)
        → (count_of_kind kind l ≡ suc i → nth_track kind (suc i) l ≡ None)
        → cond (is_track_of kind y) (nth_track kind i l) (nth_track kind (suc i) l) ≡ None
    by true h one other =
        let n = count_with kind y l true h in rw h (one (omega (arith, n, e)))
    by false h one other =
        let n = count_with kind y l false h in rw h (other (omega (arith, n, e)))

-- a track behind so many of its kind
pub comes_next : (kind : List ℕ) (i : ℕ) (l : List (ItemOf Listed)) (x : ItemOf Listed)
    → count_of_kind kind l ≡ i → is_track_of kind x ≡ true
    → nth_track kind i (l ++ x ∷ []) ≡ Some x
comes_next kind zero [] x e is = ap (λ b. cond b (Some x) None) is
comes_next kind (suc i) [] x e is = absurd (omega (arith, e))
comes_next kind zero (y ∷ l) x e is =
    by (is_track_of kind y) refl (λ h. comes_next kind zero l x h is)
  where
    by : (b : Bool) → is_track_of kind y ≡ b
        → (count_of_kind kind l ≡ 0 → nth_track kind zero (l ++ x ∷ []) ≡ Some x)
        → cond (is_track_of kind y) (Some y) (nth_track kind zero (l ++ x ∷ [])) ≡ Some x
    by true h more = let n = count_with kind y l true h in absurd (omega (arith, n, e))
    by false h more =
        let n = count_with kind y l false h in rw h (more (omega (arith, n, e)))
comes_next kind (suc i) (y ∷ l) x e is =
    by (is_track_of kind y) refl (λ h. comes_next kind i l x h is)
    (λ h. comes_next kind (suc i) l x h is)
  where
    by : (b : Bool) → is_track_of kind y ≡ b
        → (count_of_kind kind l ≡ i → nth_track kind i (l ++ x ∷ []) ≡ Some x)
        → (count_of_kind kind l ≡ suc i → nth_track kind (suc i) (l ++ x ∷ []) ≡ Some x)
        → cond (is_track_of kind y) (nth_track kind i (l ++ x ∷ []))
        (nth_track kind (suc i) (l ++ x ∷ [])) ≡ Some x
    by true h one other =
        let n = count_with kind y l true h in rw h (one (omega (arith, n, e)))
    by false h one other =
        let n = count_with kind y l false h in rw h (other (omega (arith, n, e)))

-- where the track behind is of another kind, or another number of them stands before it
abbrev IsOther : List ℕ → ℕ → List (ItemOf Listed) → ItemOf Listed → Type 0
IsOther kind i l x = (is_track_of kind x ≡ false) ⊎ (count_of_kind kind l ≢ i)

further : (kind : List ℕ) (i k : ℕ) (y x : ItemOf Listed) (l : List (ItemOf Listed)) (b : Bool)
    → is_track_of kind y ≡ b → i ≡ cond b 1 0 + k → IsOther kind i (y ∷ l) x
    → IsOther kind k l x
further kind i k y x l b h e (inl o) = inl o
further kind i k y x l b h e (inr o) =
    inr (λ same. o (let m = count_with kind y l b h in omega (arith, m, same, e)))

pub stays : (kind : List ℕ) (i : ℕ) (l : List (ItemOf Listed)) (x : ItemOf Listed)
    → IsOther kind i l x → nth_track kind i (l ++ x ∷ []) ≡ nth_track kind i l
stays kind zero [] x (inl o) = ap (λ b. cond b (Some x) None) o
stays kind zero [] x (inr o) = absurd (o refl)
stays kind (suc i) [] x o = by (is_track_of kind x)
  where
    by : (b : Bool) → ◌≡◌ {A = Option (ItemOf Listed)} (cond b None None) None
    by true = refl
    by false = refl
stays kind zero (y ∷ l) x o = by (is_track_of kind y) refl (stays kind zero l x)
  where
    by : (b : Bool) → is_track_of kind y ≡ b
        → (IsOther kind zero l x → nth_track kind zero (l ++ x ∷ []) ≡ nth_track kind zero l)
        → cond (is_track_of kind y) (Some y) (nth_track kind zero (l ++ x ∷ []))
        ≡ cond (is_track_of kind y) (Some y) (nth_track kind zero l)
    by true h more = rw h refl
    by false h more = rw h (more (further kind zero zero y x l false h (omega arith) o))
stays kind (suc i) (y ∷ l) x o =
    by (is_track_of kind y) refl (stays kind i l x) (stays kind (suc i) l x)
  where
    by : (b : Bool) → is_track_of kind y ≡ b
        → (IsOther kind i l x → nth_track kind i (l ++ x ∷ []) ≡ nth_track kind i l)
        → (IsOther kind (suc i) l x
        → nth_track kind (suc i) (l ++ x ∷ []) ≡ nth_track kind (suc i) l)
        → cond (is_track_of kind y) (nth_track kind i (l ++ x ∷ []))
        (nth_track kind (suc i) (l ++ x ∷ []))
        ≡ cond (is_track_of kind y) (nth_track kind i l) (nth_track kind (suc i) l)
    by true h one other =
        rw h (one (further kind (suc i) i y x l true h (omega arith) o))
    by false h one other =
        rw h (other (further kind (suc i) (suc i) y x l false h (omega arith) o))
