-- The events of lines that have no fault are read line by line.
use Rattle.std.proofs.Common.{◌≡◌, ◌≢◌, ℕ, zero, suc, ◌<◌, ◌≤◌, ◌==◌, ◌&&◌, ◌||◌, Bool, true, false, not, cond, nat_lt, pos, ◌<ℤ◌, List, [], ◌∷◌, ◌++◌, map, length, None, inl, inr, refl, sym, subst, ◌∙◌, arith}
use Rattle.std.specs.List.{All, AllPairs}
use Rattle.std.proofs.lemmas.Int.{ints}
use Rattle.std.proofs.lemmas.Bool.Decides.{nat_tests, Decides-eqb}
use Rattle.std.proofs.lemmas.List.Elements.{All-nil, All-cons, All-head, All-tail, All-append, All-map, All-weaker}
use Rattle.std.proofs.lemmas.List.Kept.{AllPairs-cons}
use Rattle.tick_time.specs.declared.rates.Rate.{Rate}
use Rattle.edl_text.specs.Statements.{Statement, EventLine, Nothing, Title, Mode, Event, Speed, FromName, ToName}
use Rattle.edl_list.specs.declared.list.Channel.{Channel}
use Rattle.edl_list.specs.declared.list.Channel.TheVariants.{V, A, A2}
use Rattle.edl_list.specs.declared.list.Event as listed
use Rattle.edl_text.specs.Overlaps.{AreRead, WasReadBefore}
use Rattle.edl_text.specs.declared.faults.EdlFault.{EdlFault}
use Rattle.edl_text.specs.Past.{Block, block_behind, blocks_in, noted}
use Rattle.edl_text.specs.Sides.{is_cut, has_labels, source_in, source_out, record_in, record_out}
use Rattle.edl_text.specs.Events.{where_set, channels_of, event_on, events_at, events_of}
use Rattle.edl_text.specs.Lines.{AreSound, follows_cut, runs_back, misses, first_of, fault_behind}
use Rattle.edl_text.specs.Lists.{events_in}
use Rattle.edl_text.specs.StateSaid.{AreSaid}

-- pairs in lists
pairs_head : {X : Type 0} (R : X → X → Type 0) (x : X) (xs : List X) → AllPairs R (x ∷ xs) → All (R x) xs
pairs_head R x xs h = λ k d b. h zero (suc k) d (omega arith) (omega arith)

pairs_tail : {X : Type 0} (R : X → X → Type 0) (x : X) (xs : List X) → AllPairs R (x ∷ xs) → AllPairs R xs
pairs_tail R x xs h = λ i j d a b. h (suc i) (suc j) d (omega arith) (omega arith)

pub pairs_append : {X : Type 0} (R : X → X → Type 0) (xs ys : List X) → AllPairs R xs → AllPairs R ys → All (λ x. All (R x) ys) xs → AllPairs R (xs ++ ys)
pairs_append R [] ys p q c = q
pairs_append R (x ∷ xs) ys p q c =
    AllPairs-cons R x (xs ++ ys) (All-append (R x) xs ys (pairs_head R x xs p) (All-head (λ z. All (R z) ys) x xs c))
    (pairs_append R xs ys (pairs_tail R x xs p) q (All-tail (λ z. All (R z) ys) x xs c))

pairs_none : {X : Type 0} (R : X → X → Type 0) → AllPairs R []
pairs_none R = λ i j d a b. absurd (omega (arith, b))

pairs_one : {X : Type 0} (R : X → X → Type 0) (x : X) → AllPairs R (x ∷ [])
pairs_one R x = AllPairs-cons R x [] (All-nil (R x)) (pairs_none R)

pairs_two : {X : Type 0} (R : X → X → Type 0) (x y : X) → R x y → AllPairs R (x ∷ y ∷ [])
pairs_two R x y h = AllPairs-cons R x (y ∷ []) (All-cons (R x) y [] h (All-nil (R x))) (pairs_one R y)

pairs_three : {X : Type 0} (R : X → X → Type 0) (x y z : X) → R x y → R x z → R y z → AllPairs R (x ∷ y ∷ z ∷ [])
pairs_three R x y z a b c = AllPairs-cons R x (y ∷ z ∷ []) (All-cons (R x) y (z ∷ []) a (All-cons (R x) z [] b (All-nil (R x)))) (pairs_two R y z c)

-- the event lines are of lines before n
Below : ℕ → List Block → Type 0
Below n [] = Unit {0}
Below n (block ∷ before) = (block.line < n) × Below n before

-- each event line runs forward in the record, and those before it are of lines before
AreFit : Rate → List Block → Type 0
AreFit rate [] = Unit {0}
AreFit rate (block ∷ before) = (record_in rate block ≤ record_out rate block) × Below block.line before × AreFit rate before

raise : (n : ℕ) (blocks : List Block) → Below n blocks → Below (suc n) blocks
unfolding Below
raise n [] h = tt
raise n (block ∷ before) h = (omega (arith, h.0), raise n before h.1)

below_noted : (n : ℕ) (said : Statement) (blocks : List Block) → Below n blocks → Below (suc n) (noted said blocks)
unfolding Below
below_noted n said [] h = tt
below_noted n said (block ∷ before) h = (omega (arith, h.0), raise n before h.1)

fit_noted : (rate : Rate) (said : Statement) (blocks : List Block) → AreFit rate blocks → AreFit rate (noted said blocks)
unfolding AreFit
fit_noted rate said [] h = tt
fit_noted rate said (block ∷ before) h = (h.0, h.1, h.2)

below_past : (past : List Statement) → Below (suc (length past)) (blocks_in past)
unfolding Below
below_past [] = tt
below_past (Event event ∷ past) = (omega arith, raise (suc (length past)) (blocks_in past) (below_past past))
below_past (Nothing ∷ past) = below_noted (suc (length past)) Nothing (blocks_in past) (below_past past)
below_past (Title title ∷ past) = below_noted (suc (length past)) (Title title) (blocks_in past) (below_past past)
below_past (Mode drop ∷ past) = below_noted (suc (length past)) (Mode drop) (blocks_in past) (below_past past)
below_past (Speed speed ∷ past) = below_noted (suc (length past)) (Speed speed) (blocks_in past) (below_past past)
below_past (FromName name ∷ past) = below_noted (suc (length past)) (FromName name) (blocks_in past) (below_past past)
below_past (ToName name ∷ past) = below_noted (suc (length past)) (ToName name) (blocks_in past) (below_past past)

-- four tests that all fail
pub none_of_four : (a b c d : Bool) (f g h i : EdlFault) → first_of ((a, f) ∷ (b, g) ∷ (c, h) ∷ (d, i) ∷ []) ≡ None → (a ≡ false) × (b ≡ false) × (c ≡ false) × (d ≡ false)
none_of_four false false false false f g h i e = (refl, refl, refl, refl)
none_of_four true b c d f g h i e = cc e
none_of_four false true c d f g h i e = cc e
none_of_four false false true d f g h i e = cc e
none_of_four false false false true f g h i e = cc e

forward : (a b : Bool) → a || b ≡ false → b ≡ false
forward false b e = e
forward true b e = cc e

pub not_below : (n m : ℕ) → nat_lt n m ≡ false → m ≤ n
not_below n m e = grind (arith, nat_tests)

runs_on : (rate : Rate) (past : List Statement) (event : EventLine) → fault_behind rate past (Event event) ≡ None
    → record_in rate (block_behind past event) ≤ record_out rate (block_behind past event)
runs_on rate past event e =
    let block = block_behind past event in
    let four = none_of_four (not (is_cut event.kind) && not (follows_cut block (blocks_in past))) (not (has_labels rate block)) (runs_back rate block) (misses rate block (blocks_in past)) _ _ _ _ e in
    not_below (record_out rate block) (record_in rate block) (forward (nat_lt (source_out rate block) (source_in rate block)) (nat_lt (record_out rate block) (record_in rate block)) four.2)

fit_past : (rate : Rate) (past : List Statement) → AreSaid rate past → AreFit rate (blocks_in past)
unfolding AreFit
fit_past rate [] h = tt
fit_past rate (Event event ∷ past) h = (runs_on rate past event h.1.sound, below_past past, fit_past rate past h.2)
fit_past rate (Nothing ∷ past) h = fit_noted rate Nothing (blocks_in past) (fit_past rate past h.2)
fit_past rate (Title title ∷ past) h = fit_noted rate (Title title) (blocks_in past) (fit_past rate past h.2)
fit_past rate (Mode drop ∷ past) h = fit_noted rate (Mode drop) (blocks_in past) (fit_past rate past h.2)
fit_past rate (Speed speed ∷ past) h = fit_noted rate (Speed speed) (blocks_in past) (fit_past rate past h.2)
fit_past rate (FromName name ∷ past) h = fit_noted rate (FromName name) (blocks_in past) (fit_past rate past h.2)
fit_past rate (ToName name ∷ past) h = fit_noted rate (ToName name) (blocks_in past) (fit_past rate past h.2)

-- the events of one line
at_by : (t : Bool) (rate : Rate) (block : Block) (before : List Block) → (record_in rate block == record_out rate block) ≡ t
    → events_at rate block before ≡ cond t [] (map (event_on rate block before) (channels_of block.says.channels))
at_by t rate block before e = rw e refl

three : (g : Channel → listed.Event) (n : ℕ) → ((c : Channel) → (g c).line ≡ n) → ((c : Channel) → (g c).channel ≡ c) → (p f s : Bool)
    → AllPairs WasReadBefore (map g (where_set p V ++ (where_set f A ++ where_set s A2)))
three g n l c true true true = pairs_three WasReadBefore (g V) (g A) (g A2) (inr (l V ∙ sym (l A), λ e. va (sym (c V) ∙ e ∙ c A))) (inr (l V ∙ sym (l A2), λ e. vb (sym (c V) ∙ e ∙ c A2))) (inr (l A ∙ sym (l A2), λ e. ab (sym (c A) ∙ e ∙ c A2)))
  where
    va : V ≡ A → ⊥
    va e = cc e

    vb : V ≡ A2 → ⊥
    vb e = cc e

    ab : A ≡ A2 → ⊥
    ab e = cc e
three g n l c true true false = pairs_two WasReadBefore (g V) (g A) (inr (l V ∙ sym (l A), λ e. va (sym (c V) ∙ e ∙ c A)))
  where
    va : V ≡ A → ⊥
    va e = cc e
three g n l c true false true = pairs_two WasReadBefore (g V) (g A2) (inr (l V ∙ sym (l A2), λ e. vb (sym (c V) ∙ e ∙ c A2)))
  where
    vb : V ≡ A2 → ⊥
    vb e = cc e
three g n l c false true true = pairs_two WasReadBefore (g A) (g A2) (inr (l A ∙ sym (l A2), λ e. ab (sym (c A) ∙ e ∙ c A2)))
  where
    ab : A ≡ A2 → ⊥
    ab e = cc e
three g n l c true false false = pairs_one WasReadBefore (g V)
three g n l c false true false = pairs_one WasReadBefore (g A)
three g n l c false false true = pairs_one WasReadBefore (g A2)
three g n l c false false false = pairs_none WasReadBefore

line_pairs : (t : Bool) (rate : Rate) (block : Block) (before : List Block) → (record_in rate block == record_out rate block) ≡ t → AllPairs WasReadBefore (events_at rate block before)
line_pairs true rate block before e = subst (λ l. AllPairs WasReadBefore l) (sym (at_by true rate block before e)) (pairs_none WasReadBefore)
line_pairs false rate block before e =
    let ch = block.says.channels in
    subst (λ l. AllPairs WasReadBefore l) (sym (at_by false rate block before e)) (three (event_on rate block before) block.line (λ c. refl) (λ c. refl) ch.picture ch.first_sound ch.second_sound)

line_lines : (t : Bool) (rate : Rate) (block : Block) (before : List Block) → (record_in rate block == record_out rate block) ≡ t → All (λ (e : listed.Event). e.line ≡ block.line) (events_at rate block before)
line_lines true rate block before e = subst (λ l. All (λ (x : listed.Event). x.line ≡ block.line) l) (sym (at_by true rate block before e)) (All-nil (λ (x : listed.Event). x.line ≡ block.line))
line_lines false rate block before e =
    subst (λ l. All (λ (x : listed.Event). x.line ≡ block.line) l) (sym (at_by false rate block before e))
    (All-map (λ (x : listed.Event). x.line ≡ block.line) (event_on rate block before) (channels_of block.says.channels) (λ k d h. refl))

line_some : (t : Bool) (rate : Rate) (block : Block) (before : List Block) → (record_in rate block == record_out rate block) ≡ t → record_in rate block ≤ record_out rate block
    → All (λ (e : listed.Event). e.rec_in <ℤ e.rec_out) (events_at rate block before)
line_some true rate block before e h = subst (λ l. All (λ (x : listed.Event). x.rec_in <ℤ x.rec_out) l) (sym (at_by true rate block before e)) (All-nil (λ (x : listed.Event). x.rec_in <ℤ x.rec_out))
line_some false rate block before e h =
    let apart : record_in rate block ≢ record_out rate block = λ same. no_test (record_in rate block == record_out rate block) e ((Decides-eqb (record_in rate block) (record_out rate block)).1 same) in
    let below : pos (record_in rate block) <ℤ pos (record_out rate block) = less (record_in rate block) (record_out rate block) h apart in
    subst (λ l. All (λ (x : listed.Event). x.rec_in <ℤ x.rec_out) l) (sym (at_by false rate block before e))
    (All-map (λ (x : listed.Event). x.rec_in <ℤ x.rec_out) (event_on rate block before) (channels_of block.says.channels) (λ k d l. below))
  where
    no_test : (t : Bool) → t ≡ false → t ≡ true → ⊥
    no_test true p q = cc p
    no_test false p q = cc q

    less : (a b : ℕ) → a ≤ b → a ≢ b → pos a <ℤ pos b
    less a b p q = omega (arith, ints, p, q)

-- all events
lines_before : (rate : Rate) (n : ℕ) (blocks : List Block) → Below n blocks → All (λ (e : listed.Event). e.line < n) (events_of rate blocks)
unfolding Below
lines_before rate n [] h = All-nil (λ (e : listed.Event). e.line < n)
lines_before rate n (block ∷ before) h =
    All-append (λ (e : listed.Event). e.line < n) (events_of rate before) (events_at rate block before) (lines_before rate n before h.1)
    (All-weaker (λ (e : listed.Event). e.line ≡ block.line) (λ (e : listed.Event). e.line < n) (λ x e. omega (arith, e, h.0)) (events_at rate block before)
    (line_lines (record_in rate block == record_out rate block) rate block before refl))

all_some : (rate : Rate) (blocks : List Block) → AreFit rate blocks → All (λ (e : listed.Event). e.rec_in <ℤ e.rec_out) (events_of rate blocks)
unfolding AreFit
all_some rate [] h = All-nil (λ (e : listed.Event). e.rec_in <ℤ e.rec_out)
all_some rate (block ∷ before) h =
    All-append (λ (e : listed.Event). e.rec_in <ℤ e.rec_out) (events_of rate before) (events_at rate block before) (all_some rate before h.2)
    (line_some (record_in rate block == record_out rate block) rate block before refl h.0)

all_pairs : (rate : Rate) (blocks : List Block) → AreFit rate blocks → AllPairs WasReadBefore (events_of rate blocks)
unfolding AreFit
all_pairs rate [] h = pairs_none WasReadBefore
all_pairs rate (block ∷ before) h =
    let here = line_lines (record_in rate block == record_out rate block) rate block before refl in
    pairs_append WasReadBefore (events_of rate before) (events_at rate block before) (all_pairs rate before h.2) (line_pairs (record_in rate block == record_out rate block) rate block before refl)
    (All-weaker (λ (x : listed.Event). x.line < block.line) (λ (x : listed.Event). All (WasReadBefore x) (events_at rate block before))
    (λ x e. All-weaker (λ (y : listed.Event). y.line ≡ block.line) (WasReadBefore x) (λ y f. inl (omega (arith, e, f))) (events_at rate block before) here)
    (events_of rate before) (lines_before rate block.line before h.1))

-- the events of lines that have no fault
pub read_events : (rate : Rate) (past : List Statement) → AreSaid rate past → AreRead (events_in rate past)
read_events rate past h = record { order = all_pairs rate (blocks_in past) (fit_past rate past h); some = all_some rate (blocks_in past) (fit_past rate past h) }

-- sound lines were said
pub sound_said : (rate : Rate) (p q : List Statement) (lines : List (List ℕ)) → AreSound rate p lines q → AreSaid rate p → AreSaid rate q
sound_said rate p q [] h k = subst (AreSaid rate) (sym h) k
sound_said rate p q (line ∷ lines) h k = sound_said rate (h.0 ∷ p) q lines h.2 (line, h.1, k)
