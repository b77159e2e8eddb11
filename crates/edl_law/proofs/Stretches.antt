-- What a track shows, as stretches of the record one after another.
use Rattle.std.proofs.Common.{◌≡◌, refl, sym, ap, ap₂, ◌∙◌, ℕ, ◌<◌, ℤ, pos, negsuc, ◌+ℤ◌, ◌-ℤ◌, ◌*ℤ◌, ◌≤ℤ◌, ◌<ℤ◌, true, false, cond, List, [], ◌∷◌, Option, Some, None, arith}
use Rattle.std.specs.Prelude.{int_lt, unwrap_or}
use Rattle.std.proofs.lemmas.Int.{ints, by_lt_z}
use Rattle.coord.specs.Looks.{Show, Look, Overlap, item_shows, next_shows, from_end, mix_shows}
use Rattle.coord.specs.Images.{Image, Empty, Kind, kind_of, image}
use Rattle.edl_frames.specs.Shown.{mix_of}
use Rattle.edl_law.proofs.FrameQuotients.{sum-times}
use Rattle.coord.proofs.LookSteps.{is_within, missed_before, missed_behind, mix_item, mix_miss, item_hit, item_past, side_item}
use Rattle.edl_law.proofs.LookSteps.{Plays, seen_at, mix_hit, seen_mixed, mix_frames, seen_from_end, times_le, times_lt, times-minus}
use Rattle.otio_model.specs.Overlaps.{within}

-- a child of a track: an item of so many frames, by what is seen of it in each, or a transition
-- by its type, its frames before the cut and those behind it
pub data Bit : Type 0 where
  piece : ℤ → (ℤ → Image) → Bit
  cross : List ℕ → ℕ → ℕ → Bit

pub record CrossesAt (f : ℕ) (type : List ℕ) (before after : ℕ) (x : Look) : Type 0 where
  pub overlap : Overlap
  pub there : x.overlap ≡ Some overlap
  pub kind : overlap.kind ≡ type
  pub begins : overlap.before ≡ pos before *ℤ pos f
  pub ends : overlap.after ≡ pos after *ℤ pos f
  pub point : x.length ≡ pos 0

abbrev pub IsBit : ℕ → Look → Bit → Type 0
IsBit f x (piece n gives) = Plays f n gives x
IsBit f x (cross type b a) = CrossesAt f type b a x

abbrev pub AreBits : ℕ → List Look → List Bit → Type 0
AreBits f [] [] = Unit {0}
AreBits f [] (y ∷ ys) = ⊥
AreBits f (x ∷ xs) [] = ⊥
AreBits f (x ∷ xs) (y ∷ ys) = IsBit f x y × AreBits f xs ys

-- a stretch of the record, and what is seen in each of its frames
pub record RecordStretch : Type 0 where
  pub begin : ℤ
  pub end : ℤ
  pub shows : ℤ → Image

abbrev pub stretches_show : List RecordStretch → ℤ → Image
stretches_show [] m = Empty
stretches_show (s ∷ ss) m = cond (within s.begin s.end m) (s.shows m) (stretches_show ss m)

-- where the next stretch begins: at the start of an overlap, else at the cut
abbrev pub front_of : ℤ → List Bit → ℤ
front_of at [] = at
front_of at ((piece n gives) ∷ l) = at
front_of at ((cross type b a) ∷ l) = at -ℤ pos b

-- what is seen of a cross at m: a mix up to the overlap's end, and then what comes in
abbrev pub crossed : List ℕ → ℕ → ℕ → ℤ → (ℤ → Image) → (ℤ → Image) → ℤ → Image
crossed type b a at last gives m =
    cond (int_lt m (at +ℤ pos a)) (mix_of (kind_of type) (last (m -ℤ at)) (gives (m -ℤ at))
    (m -ℤ (at -ℤ pos b)) (pos b +ℤ pos a)) (gives (m -ℤ at))

abbrev pub nothing : ℤ → Image
nothing m = Empty

-- the stretches of a track, where `last` is what is seen of the item before, counted from here
abbrev pub stretches : ℤ → (ℤ → Image) → List Bit → List RecordStretch
stretches at last [] = []
stretches at last ((piece n gives) ∷ l) =
    record { begin = at; end = front_of (at +ℤ n) l; shows = λ m. gives (m -ℤ at) } ∷ stretches
    (at +ℤ n) (λ k. gives (k +ℤ n)) l
stretches at last ((cross type b a) ∷ []) =
    record { begin = at -ℤ pos b; end = at +ℤ pos a; shows = crossed type b a at last nothing } ∷ []
stretches at last ((cross type b a) ∷ (piece n gives) ∷ l) =
    record {
      begin = at -ℤ pos b;
      end = front_of (at +ℤ n) l;
      shows = crossed type b a at last gives;
    } ∷ stretches (at +ℤ n) (λ k. gives (k +ℤ n)) l
stretches at last ((cross type b a) ∷ (cross type' b' a') ∷ l) = []

-- the overlaps are apart and lie in the items beside them: none begins before `low`, and no two
-- transitions stand side by side
abbrev pub Fits : ℤ → ℤ → List Bit → Type 0
Fits low at [] = Unit {0}
Fits low at ((piece n gives) ∷ l) = (pos 0 ≤ℤ n) × Fits at (at +ℤ n) l
Fits low at ((cross type b a) ∷ []) = (low ≤ℤ (at -ℤ pos b)) × (a ≡ 0)
Fits low at ((cross type b a) ∷ (piece n gives) ∷ l) = (low ≤ℤ (at -ℤ pos b)) × (pos a ≤ℤ n) × Fits
    (at +ℤ pos a) (at +ℤ n) l
Fits low at ((cross type b a) ∷ (cross type' b' a') ∷ l) = ⊥

pub front_late : (low at : ℤ) (l : List Bit) → Fits low at l → low ≤ℤ at → low ≤ℤ front_of at l
front_late low at [] g h = h
front_late low at ((piece n gives) ∷ l) g h = h
front_late low at ((cross type b a) ∷ []) g h = g.0
front_late low at ((cross type b a) ∷ (piece n gives) ∷ l) g h = g.0
front_late low at ((cross type b a) ∷ (cross type' b' a') ∷ l) g h = absurd g

pub front_early : (at : ℤ) (l : List Bit) → front_of at l ≤ℤ at
front_early at [] = omega (arith, ints)
front_early at ((piece n gives) ∷ l) = omega (arith, ints)
front_early at ((cross type b a) ∷ l) = omega (arith, ints)

-- an overlap that begins later
missed : (f : ℕ) (p : ℤ → Show) (x : Look) (xs : List Look) (type : List ℕ) (b a : ℕ) (at m : ℤ)
    → 0 < f → CrossesAt f type b a x → m <ℤ (at -ℤ pos b) → mix_shows p (x ∷ xs)
    ((m -ℤ at) *ℤ pos f) ≡ mix_shows p xs ((m -ℤ at) *ℤ pos f)
missed f p x xs type b a at m z c e =
    let t = times_lt (m -ℤ at) (pos 0 -ℤ pos b) f z (omega (arith, ints, e)) in
    let s = times-minus (pos 0) (pos b) f in
    let begins = c.begins in
    mix_miss p x c.overlap xs ((m -ℤ at) *ℤ pos f) c.there
    (missed_before (pos 0 -ℤ c.overlap.before) c.overlap.after ((m -ℤ at) *ℤ pos f)
    (omega (arith, ints, t, s, begins)))

-- nothing is mixed before the front
pub no_mix : (f : ℕ) (p : ℤ → Show) (xs : List Look) (l : List Bit) (low at m : ℤ) → 0 < f
    → AreBits f xs l → Fits low at l → low ≤ℤ at → m <ℤ front_of at l
    → mix_shows p xs ((m -ℤ at) *ℤ pos f) ≡ None
no_mix f p [] [] low at m z k g h e = refl
no_mix f p [] (y ∷ l) low at m z k g h e = absurd k
no_mix f p (x ∷ xs) [] low at m z k g h e = absurd k
no_mix f p (x ∷ xs) ((piece n gives) ∷ l) low at m z k g h e =
    let long = k.0.long in let n_low = g.0 in
    let front = front_late at (at +ℤ n) l g.1 (omega (arith, ints, n_low)) in
    mix_item p x xs ((m -ℤ at) *ℤ pos f) k.0.item
    ∙ ap (mix_shows (from_end x) xs)
    (ap (λ q. ((m -ℤ at) *ℤ pos f) -ℤ q) long ∙ times-minus (m -ℤ at) n f
    ∙ (let d : (m -ℤ at) -ℤ n ≡ m -ℤ (at +ℤ n) = omega (arith, ints) in ap (λ q. q *ℤ pos f) d))
    ∙ no_mix f (from_end x) xs l at (at +ℤ n) m z k.1 g.1 (omega (arith, ints, n_low))
    (omega (arith, ints, e, front))
no_mix f p (x ∷ []) ((cross type b a) ∷ []) low at m z k g h e = missed f p x [] type b a at m z k.0
    e ∙ refl
no_mix f p (x ∷ y ∷ xs) ((cross type b a) ∷ []) low at m z k g h e = absurd k.1
no_mix f p (x ∷ []) ((cross type b a) ∷ (piece n gives) ∷ l) low at m z k g h e = absurd k.1
no_mix f p (x ∷ y ∷ xs) ((cross type b a) ∷ (piece n gives) ∷ l) low at m z k g h e =
    let long = k.1.0.long in let n_low = g.1 in
    let front = front_late (at +ℤ pos a) (at +ℤ n) l g.2 (omega (arith, ints, n_low)) in
    missed f p x (y ∷ xs) type b a at m z k.0 e
    ∙ mix_item p y xs ((m -ℤ at) *ℤ pos f) k.1.0.item
    ∙ ap (mix_shows (from_end y) xs)
    (ap (λ q. ((m -ℤ at) *ℤ pos f) -ℤ q) long ∙ times-minus (m -ℤ at) n f
    ∙ (let d : (m -ℤ at) -ℤ n ≡ m -ℤ (at +ℤ n) = omega (arith, ints) in ap (λ q. q *ℤ pos f) d))
    ∙ no_mix f (from_end y) xs l (at +ℤ pos a) (at +ℤ n) m z k.1.1 g.2 (omega (arith, ints, n_low))
    (omega (arith, ints, e, front))
no_mix f p (x ∷ xs) ((cross type b a) ∷ (cross type' b' a') ∷ l) low at m z k g h e = absurd g

-- ---- what is mixed

mix_ticks : (kind : Kind) (a b : Image) (f : ℕ) (k n p w : ℤ) → 0 < f → pos 0 ≤ℤ k → pos 0 ≤ℤ n
    → p ≡ k *ℤ pos f → w ≡ n *ℤ pos f → mix_of kind a b p w ≡ mix_of kind a b k n
mix_ticks kind a b f (pos k) (pos n) p w z h i d e = mix_frames kind a b f k n p w z d e
mix_ticks kind a b f (negsuc k) n p w z h i d e = absurd (omega (arith, ints, h))
mix_ticks kind a b f (pos k) (negsuc n) p w z h i d e = absurd (omega (arith, ints, i))

-- the overlap that holds m mixes what stands before with what comes
mixed_at : (f : ℕ) (p : ℤ → Show) (last gives : ℤ → Image) (x : Look) (xs : List Look)
    (type : List ℕ) (b a : ℕ) (at m : ℤ) → 0 < f → CrossesAt f type b a x
    → ((k : ℤ) → image (p (k *ℤ pos f)) ≡ last k)
    → image (next_shows xs ((m -ℤ at) *ℤ pos f)) ≡ gives (m -ℤ at) → (at -ℤ pos b) ≤ℤ m
    → m <ℤ (at +ℤ pos a)
    → seen_at p (x ∷ xs) ((m -ℤ at) *ℤ pos f) ≡ mix_of (kind_of type) (last (m -ℤ at))
    (gives (m -ℤ at)) (m -ℤ (at -ℤ pos b)) (pos b +ℤ pos a)
mixed_at f p last gives x xs type b a at m z c before next low high =
    let begins = c.begins in let ends = c.ends in
    let s = times_le (pos 0 -ℤ pos b) (m -ℤ at) f (omega (arith, ints, low)) in
    let t = times_lt (m -ℤ at) (pos a) f z (omega (arith, ints, high)) in
    let u = times-minus (pos 0) (pos b) f in
    let v = sum-times (m -ℤ at) (pos b) f in
    let w = sum-times (pos b) (pos a) f in
    let part : ((m -ℤ at) *ℤ pos f) +ℤ c.overlap.before ≡ (m -ℤ (at -ℤ pos b)) *ℤ pos f =
    (let d : (m -ℤ at) +ℤ pos b ≡ m -ℤ (at -ℤ pos b) = omega (arith, ints) in
    let e = ap (λ q. q *ℤ pos f) d in omega (arith, ints, v, e, begins)) in
    let whole : c.overlap.before +ℤ c.overlap.after ≡ (pos b +ℤ pos a) *ℤ pos f =
    omega (arith, ints, w, begins, ends) in
    ap (λ (o : Option Show). image (unwrap_or o (item_shows (x ∷ xs) ((m -ℤ at) *ℤ pos f))))
    (mix_hit p x c.overlap xs ((m -ℤ at) *ℤ pos f) c.there
    (is_within (pos 0 -ℤ c.overlap.before) c.overlap.after ((m -ℤ at) *ℤ pos f)
    (omega (arith, ints, s, u, begins)) (omega (arith, ints, t, ends))))
    ∙ seen_mixed c.overlap.kind (p ((m -ℤ at) *ℤ pos f)) (next_shows xs ((m -ℤ at) *ℤ pos f))
    (((m -ℤ at) *ℤ pos f) +ℤ c.overlap.before) (c.overlap.before +ℤ c.overlap.after)
    ∙ (λ i. mix_of (kind_of (c.kind i)) (before (m -ℤ at) i) (next i)
    (((m -ℤ at) *ℤ pos f) +ℤ c.overlap.before) (c.overlap.before +ℤ c.overlap.after))
    ∙ mix_ticks (kind_of type) (last (m -ℤ at)) (gives (m -ℤ at)) f (m -ℤ (at -ℤ pos b))
    (pos b +ℤ pos a) (((m -ℤ at) *ℤ pos f) +ℤ c.overlap.before)
    (c.overlap.before +ℤ c.overlap.after) z (omega (arith, ints, low)) (omega (arith, ints))
    part whole

-- behind the front and before the cut something is mixed
is_mixed : (f : ℕ) (p : ℤ → Show) (xs : List Look) (l : List Bit) (low at m : ℤ) → 0 < f
    → AreBits f xs l → front_of at l ≤ℤ m → m <ℤ at
    → (s : Show) × (mix_shows p xs ((m -ℤ at) *ℤ pos f) ≡ Some s)
is_mixed f p [] [] low at m z k e h = absurd (omega (arith, ints, e, h))
is_mixed f p [] (y ∷ l) low at m z k e h = absurd k
is_mixed f p (x ∷ xs) [] low at m z k e h = absurd k
is_mixed f p (x ∷ xs) ((piece n gives) ∷ l) low at m z k e h = absurd (omega (arith, ints, e, h))
is_mixed f p (x ∷ xs) ((cross type b a) ∷ l) low at m z k e h =
    let c = k.0 in let begins = c.begins in let ends = c.ends in
    let s = times_le (pos 0 -ℤ pos b) (m -ℤ at) f (omega (arith, ints, e)) in
    let t = times_lt (m -ℤ at) (pos 0) f z (omega (arith, ints, h)) in
    let r = times_le (pos 0) (pos a) f (omega (arith, ints)) in
    let u = times-minus (pos 0) (pos b) f in (
      _,
      mix_hit p x c.overlap xs ((m -ℤ at) *ℤ pos f) c.there
          (is_within (pos 0 -ℤ c.overlap.before) c.overlap.after ((m -ℤ at) *ℤ pos f)
          (omega (arith, ints, s, u, begins)) (omega (arith, ints, t, r, ends))),
    )

-- ---- an item

pub within_low : (a b m : ℤ) → a ≤ℤ m → within a b m ≡ int_lt m b
within_low a b m h = by_lt_z m b
    (λ k. let e : int_lt m b ≡ true = grind (arith, ints, k) in is_within a b m h k ∙ sym e)
    (λ k. let e : int_lt m b ≡ false = grind (arith, ints, k) in missed_behind a b m k ∙ sym e)

-- an item up to the next front, and then the rest
piece_shows : (f : ℕ) (p : ℤ → Show) (gives : ℤ → Image) (x : Look) (xs : List Look) (l : List Bit)
    (low at n m : ℤ) (rest : Image) → 0 < f → Plays f n gives x → pos 0 ≤ℤ n → AreBits f xs l
    → Fits low (at +ℤ n) l → low ≤ℤ (at +ℤ n)
    → at ≤ℤ m → (front_of (at +ℤ n) l ≤ℤ m → seen_at (from_end x) xs ((m -ℤ (at +ℤ n)) *ℤ pos f) ≡
    rest)
    → seen_at p (x ∷ xs) ((m -ℤ at) *ℤ pos f) ≡ cond (int_lt m (front_of (at +ℤ n) l))
    (gives (m -ℤ at)) rest
piece_shows f p gives x xs l low at n m rest z plays n_low bits fits h begin ih =
    let long = plays.long in
    let early = front_early (at +ℤ n) l in
    let from = times_le (pos 0) (m -ℤ at) f (omega (arith, ints, begin)) in
    let moved : ((m -ℤ at) *ℤ pos f) -ℤ x.length ≡ (m -ℤ (at +ℤ n)) *ℤ pos f =
    (ap (λ q. ((m -ℤ at) *ℤ pos f) -ℤ q) long ∙ times-minus (m -ℤ at) n f
    ∙ (let d : (m -ℤ at) -ℤ n ≡ m -ℤ (at +ℤ n) = omega (arith, ints) in ap (λ q. q *ℤ pos f) d))
    in
    let mix = mix_item p x xs ((m -ℤ at) *ℤ pos f) plays.item
    ∙ ap (mix_shows (from_end x) xs) moved in
    by_lt_z m (front_of (at +ℤ n) l)
    (λ k. let t : int_lt m (front_of (at +ℤ n) l) ≡ true = grind (arith, ints, k) in
    let to = times_lt (m -ℤ at) n f z (omega (arith, ints, k, early)) in
    ap₂ (λ (o : Option Show) (s : Show). image (unwrap_or o s))
    (mix ∙ no_mix f (from_end x) xs l low (at +ℤ n) m z bits fits h k)
    (item_hit x xs ((m -ℤ at) *ℤ pos f) (omega (arith, ints, from)) (omega (arith, ints, to, long)))
    ∙ plays.shows (m -ℤ at) ∙ ap (λ b. cond b (gives (m -ℤ at)) rest) (sym t))
    (λ k. let t : int_lt m (front_of (at +ℤ n) l) ≡ false = grind (arith, ints, k) in
    by_lt_z m (at +ℤ n)
    (λ j. let s = is_mixed f (from_end x) xs l low (at +ℤ n) m z bits k j in
    ap (λ (o : Option Show). image (unwrap_or o (item_shows (x ∷ xs) ((m -ℤ at) *ℤ pos f))))
    (mix ∙ s.1)
    ∙ ap (λ (o : Option Show). image (unwrap_or o (item_shows xs ((m -ℤ (at +ℤ n)) *ℤ pos f))))
    (sym s.1))
    (λ j. let past = times_le n (m -ℤ at) f (omega (arith, ints, j)) in
    ap₂ (λ (o : Option Show) (s : Show). image (unwrap_or o s)) mix
    (item_past x xs ((m -ℤ at) *ℤ pos f) (omega (arith, ints, past, long))
    ∙ ap (item_shows xs) moved))
    ∙ ih k ∙ ap (λ b. cond b (gives (m -ℤ at)) rest) (sym t))

-- ---- a track

pub crossed_in : (type : List ℕ) (b a : ℕ) (at : ℤ) (last gives : ℤ → Image) (m : ℤ)
    → m <ℤ (at +ℤ pos a)
    → crossed type b a at last gives m ≡ mix_of (kind_of type) (last (m -ℤ at)) (gives (m -ℤ at))
    (m -ℤ (at -ℤ pos b)) (pos b +ℤ pos a)
crossed_in type b a at last gives m h = let t : int_lt m (at +ℤ pos a) ≡ true =
    grind (arith, ints, h) in
    ap
    (λ s. cond s (mix_of (kind_of type) (last (m -ℤ at)) (gives (m -ℤ at)) (m -ℤ (at -ℤ pos b))
    (pos b +ℤ pos a)) (gives (m -ℤ at))) t

pub crossed_past : (type : List ℕ) (b a : ℕ) (at : ℤ) (last gives : ℤ → Image) (m : ℤ)
    → (at +ℤ pos a) ≤ℤ m → crossed type b a at last gives m ≡ gives (m -ℤ at)
crossed_past type b a at last gives m h = let t : int_lt m (at +ℤ pos a) ≡ false =
    grind (arith, ints, h) in
    ap
    (λ s. cond s (mix_of (kind_of type) (last (m -ℤ at)) (gives (m -ℤ at)) (m -ℤ (at -ℤ pos b))
    (pos b +ℤ pos a)) (gives (m -ℤ at))) t

-- a transition behind its overlap
cross_past : (f : ℕ) (p : ℤ → Show) (x : Look) (xs : List Look) (type : List ℕ) (b a : ℕ) (at m : ℤ)
    → CrossesAt f type b a x → (at +ℤ pos a) ≤ℤ m
    → seen_at p (x ∷ xs) ((m -ℤ at) *ℤ pos f) ≡ seen_at p xs ((m -ℤ at) *ℤ pos f)
cross_past f p x xs type b a at m c h =
    let ends = c.ends in let point = c.point in
    let s = times_le (pos a) (m -ℤ at) f (omega (arith, ints, h)) in
    let t = times_le (pos 0) (m -ℤ at) f (omega (arith, ints, h)) in
    ap₂ (λ (o : Option Show) (s : Show). image (unwrap_or o s))
    (mix_miss p x c.overlap xs ((m -ℤ at) *ℤ pos f) c.there
    (missed_behind (pos 0 -ℤ c.overlap.before) c.overlap.after ((m -ℤ at) *ℤ pos f)
    (omega (arith, ints, s, ends))))
    (item_past x xs ((m -ℤ at) *ℤ pos f) (omega (arith, ints, t, point))
    ∙ ap (item_shows xs) (omega (arith, ints, point)))

-- from its front on, a track shows its stretches
pub stretches_are_shown : (f : ℕ) (p : ℤ → Show) (last : ℤ → Image) (xs : List Look) (l : List Bit)
    (low at m : ℤ) → 0 < f → AreBits f xs l → Fits low at l → low ≤ℤ at
    → ((k : ℤ) → image (p (k *ℤ pos f)) ≡ last k) → front_of at l ≤ℤ m
    → seen_at p xs ((m -ℤ at) *ℤ pos f) ≡ stretches_show (stretches at last l) m
stretches_are_shown f p last [] [] low at m z k g h before begin = refl
stretches_are_shown f p last [] (y ∷ l) low at m z k g h before begin = absurd k
stretches_are_shown f p last (x ∷ xs) [] low at m z k g h before begin = absurd k
stretches_are_shown f p last (x ∷ xs) ((piece n gives) ∷ l) low at m z k g h before begin =
    let n_low = g.0 in
    piece_shows f p gives x xs l at at n m
    (stretches_show (stretches (at +ℤ n) (λ k. gives (k +ℤ n)) l) m) z k.0 g.0 k.1 g.1
    (omega (arith, ints, n_low)) begin
    (λ j. stretches_are_shown f (from_end x) (λ k. gives (k +ℤ n)) xs l at (at +ℤ n) m z k.1 g.1
    (omega (arith, ints, n_low)) (λ q. seen_from_end f n q gives x k.0) j)
    ∙ ap (λ b. cond b (gives (m -ℤ at))
    (stretches_show (stretches (at +ℤ n) (λ k. gives (k +ℤ n)) l) m))
    (sym (within_low at (front_of (at +ℤ n) l) m begin))
stretches_are_shown f p last (x ∷ []) ((cross type b a) ∷ []) low at m z k g h before begin =
    by_lt_z m (at +ℤ pos a)
    (λ j. mixed_at f p last nothing x [] type b a at m z k.0 before refl begin j
    ∙ sym (crossed_in type b a at last nothing m j)
    ∙ ap (λ s. cond s (crossed type b a at last nothing m) Empty)
    (sym (is_within (at -ℤ pos b) (at +ℤ pos a) m begin j)))
    (λ j. cross_past f p x [] type b a at m k.0 j
    ∙ ap (λ s. cond s (crossed type b a at last nothing m) Empty)
    (sym (missed_behind (at -ℤ pos b) (at +ℤ pos a) m j)))
stretches_are_shown f p last (x ∷ y ∷ xs) ((cross type b a) ∷ []) low at m z k g h before begin =
    absurd k.1
stretches_are_shown f p last (x ∷ []) ((cross type b a) ∷ (piece n gives) ∷ l) low at m z k g h
    before begin = absurd k.1
stretches_are_shown f p last (x ∷ y ∷ xs) ((cross type b a) ∷ (piece n gives) ∷ l) low at m z k g h
    before begin =
    let n_low = g.1 in
    let late = front_late (at +ℤ pos a) (at +ℤ n) l g.2 (omega (arith, ints, n_low)) in
    let rest = stretches_show (stretches (at +ℤ n) (λ k. gives (k +ℤ n)) l) m in
    by_lt_z m (at +ℤ pos a)
    (λ j. mixed_at f p last gives x (y ∷ xs) type b a at m z k.0 before
    (ap image (side_item y xs ((m -ℤ at) *ℤ pos f) k.1.0.item) ∙ k.1.0.shows (m -ℤ at)) begin j
    ∙ sym (crossed_in type b a at last gives m j)
    ∙ ap (λ s. cond s (crossed type b a at last gives m) rest)
    (sym (is_within (at -ℤ pos b) (front_of (at +ℤ n) l) m begin (omega (arith, ints, j, late)))))
    (λ j. cross_past f p x (y ∷ xs) type b a at m k.0 j
    ∙ piece_shows f p gives y xs l (at +ℤ pos a) at n m rest z k.1.0 (omega (arith, ints, n_low))
    k.1.1 g.2 (omega (arith, ints, n_low)) (omega (arith, ints, j))
    (λ i. stretches_are_shown f (from_end y) (λ k. gives (k +ℤ n)) xs l (at +ℤ pos a) (at +ℤ n) m z
    k.1.1 g.2 (omega (arith, ints, n_low)) (λ q. seen_from_end f n q gives y k.1.0) i)
    ∙ ap₂ (λ s t. cond s t rest) (sym (within_low (at -ℤ pos b) (front_of (at +ℤ n) l) m begin))
    (sym (crossed_past type b a at last gives m j)))
stretches_are_shown f p last (x ∷ xs) ((cross type b a) ∷ (cross type' b' a') ∷ l) low at m z k g h
    before begin = absurd g
