-- Bytes are a JSON text of at most one value, or have at most one fault, and never both.
use Rattle.std.proofs.Common.{◌≡◌, ◌<◌, ◌≤◌, ◌+◌, ℕ, List, [], ◌∷◌, ◌++◌, Result, Ok, Err, Some, length, take, drop, get_or, refl, sym, ap, subst, ◌∙◌, inl, inr, arith, append_assoc, append-nil, take-append-drop}
use Rattle.std.proofs.lemmas.List.{take_more, take-take}
use Rattle.json_value.specs.declared.Json.{Json}
use Rattle.limits.specs.Limits.{most_bytes}
use Rattle.json_text.specs.Grammar.{text_of, IsLive, IsLiveWithin, IsTextWithin}
use Rattle.json_text.specs.Strings.{IsInString}
use Rattle.json_text.specs.Faults.{IsDeadAt, BreaksUtf8, IsTooDeep, IsFault}
use Rattle.json_text.specs.State.Machine.{Hand, value, first_item, first_name, next_name, colon, behind, done, word, number, text, MachineState, start, step, run, run_on, at_last}
use Rattle.json_text.specs.State.Opened.{Unclosed}
use Rattle.json_text.specs.declared.state.Stop.{Stop}
use Rattle.json_text.specs.declared.state.Stop.TheVariants as stops
use Rattle.json_text.specs.declared.faults.JsonFault.{JsonFault}
use Rattle.json_text.specs.declared.faults.JsonFault.TheVariants.{Syntax, Utf8, Depth, Large, Memory}
use Rattle.json_text.proofs.Finishes.{IsState}
use Rattle.json_text.proofs.FinalStates.{last_text}
use Rattle.json_text.proofs.OutsideStrings.{IsOutside}
use Rattle.json_text.proofs.RunLemmas.{run_then, run_on-nil}
use Rattle.json_text.proofs.SeenTexts.{Sees, sees, sees_start, sees_step, facts, is_live, is_dead, is_dead_deeper, not_in_string}
use Rattle.json_text.proofs.Utf8Steps.{text_step}

-- a front of live bytes is live
live_front : (front rest : List ℕ) → IsLive (front ++ rest) → IsLive front
live_front front rest h = (rest ++ h.0, h.1, subst (λ l. IsTextWithin 127 l h.1) (append_assoc front rest h.0) h.2)

live_take : (n : ℕ) (bytes : List ℕ) → IsLive bytes → IsLive (take n bytes)
live_take n bytes h = live_front (take n bytes) (drop n bytes) (subst IsLive (sym (take-append-drop n bytes)) h)

live_less : (m n : ℕ) (bytes : List ℕ) → m ≤ n → IsLive (take n bytes) → IsLive (take m bytes)
live_less m n bytes l h = subst IsLive (take-take m n bytes l) (live_take m (take n bytes) h)

-- the machine takes live bytes
run_on_live : (front more : List ℕ) (s : MachineState) → run 127 start front ≡ Ok s → Sees 127 front s → IsLive (front ++ more) → (t : MachineState) × (run 127 s more ≡ Ok t)
run_on_live front [] s e seen h = (s, refl)
run_on_live front (b ∷ more) s e seen h =
    by (λ (u : MachineState) (f : step 127 s.levels s.hand b ≡ Ok u).
    run_on_live (front ++ (b ∷ [])) more u (run_then 127 start s front (b ∷ []) e ∙ run_on-nil 127 (step 127 s.levels s.hand b) ∙ f) (sees_step 127 front s u b seen f) (subst IsLive (sym (append_assoc front (b ∷ []) more)) h))
    (λ (k : Stop) (f : step 127 s.levels s.hand b ≡ Err k).
    is_dead 127 front s b k seen f (live_front (front ++ (b ∷ [])) more (subst IsLive (sym (append_assoc front (b ∷ []) more)) h)))
    (step 127 s.levels s.hand b) refl
  where
    by : ((u : MachineState) → step 127 s.levels s.hand b ≡ Ok u → (t : MachineState) × (run 127 u more ≡ Ok t)) → ((k : Stop) → step 127 s.levels s.hand b ≡ Err k → ⊥)
        → (r : Result MachineState Stop) → step 127 s.levels s.hand b ≡ r → (t : MachineState) × (run_on 127 r more ≡ Ok t)
    by go dead (Ok u) f = go u f
    by go dead (Err k) f = absurd (dead k f)

run_live : (bytes : List ℕ) → IsLive bytes → (s : MachineState) × (run 127 start bytes ≡ Ok s)
run_live bytes h = run_on_live [] bytes start refl (sees_start 127) h

-- a text is live
text_live : (bytes : List ℕ) (v : Json) → text_of bytes v → IsLive bytes
text_live bytes v h = ([], v, subst (λ l. IsTextWithin 127 l v) (sym (append-nil bytes)) h)

-- bytes are a text of one value at the most
pub text_once : (bytes : List ℕ) (v w : Json) → text_of bytes v → text_of bytes w → v ≡ w
text_once bytes v w p q =
    let r = run_live bytes (text_live bytes v p) in
    let e : at_last r.0 ≡ Some v = last_text bytes r.0 v r.1 p in
    let f : at_last r.0 ≡ Some w = last_text bytes r.0 w r.1 q in
    cc (e, f)

-- where the machine stops for depth it stands outside of strings
depth_outside : (levels : List Unclosed) (hand : Hand) (b : ℕ) → length levels ≤ 127 → IsState levels hand → step 127 levels hand b ≡ Err stops.Depth → IsOutside hand
depth_outside levels value b f h e = tt
depth_outside levels first_item b f h e = tt
depth_outside levels first_name b f h e = tt
depth_outside levels next_name b f h e = tt
depth_outside levels colon b f h e = tt
depth_outside levels behind b f h e = tt
depth_outside levels (done x) b f h e = tt
depth_outside levels (word x left) b f h e = tt
depth_outside levels (number t place) b f h e = tt
depth_outside levels (text role t part) b f h e = absurd ((text_step 127 b levels role t part f h.1).depth e)

-- a dead byte in a string doesn't open a level too many
not_deep_inside : (front : List ℕ) (b : ℕ) (s : MachineState) → Sees 127 front s → (IsLive (front ++ (b ∷ [])) → ⊥) → IsInString front → IsLiveWithin 128 (front ++ (b ∷ []))
    → (k : Result MachineState Stop) → step 127 s.levels s.hand b ≡ k → ⊥
not_deep_inside front b s seen dead inside deep (Ok t) e = dead (is_live 127 (front ++ (b ∷ [])) t (sees_step 127 front s t b seen e))
not_deep_inside front b s seen dead inside deep (Err stops.Syntax) e = is_dead_deeper 127 front s b stops.Syntax seen ((facts 127 s.levels s.hand b seen.few seen.is).syntax e).0 deep
not_deep_inside front b s seen dead inside deep (Err stops.Utf8) e = is_dead_deeper 127 front s b stops.Utf8 seen ((facts 127 s.levels s.hand b seen.few seen.is).utf8 e).0 deep
not_deep_inside front b s seen dead inside deep (Err stops.Depth) e = not_in_string 127 front s seen (depth_outside s.levels s.hand b seen.few seen.is e) inside.0 inside.1 inside.2

not_both : (n : ℕ) (bytes : List ℕ) → IsDeadAt n bytes → BreaksUtf8 n bytes → IsTooDeep n bytes → ⊥
not_both n bytes at utf8 deep =
    let b = get_or bytes n 0 in
    let through = take_more bytes n 0 at.within in
    let r = run_live (take n bytes) at.live in
    not_deep_inside (take n bytes) b r.0 (sees (take n bytes) r.0 r.1) (λ live. at.dead (subst IsLive (sym through) live)) utf8.inside (subst (IsLiveWithin 128) through deep)
    (step 127 r.0.levels r.0.hand b) refl

-- the bytes before the first dead byte are live, and no more of them are
not_before : (m n : ℕ) (bytes : List ℕ) → IsDeadAt m bytes → IsLive (take n bytes) → m < n → ⊥
not_before m n bytes at live l = at.dead (live_less (m + 1) n bytes (omega arith) live)

not_whole : (n : ℕ) (bytes : List ℕ) → IsDeadAt n bytes → IsLive bytes → ⊥
not_whole n bytes at live = at.dead (live_take (n + 1) bytes live)

dead_once : (m n : ℕ) (bytes : List ℕ) → IsDeadAt m bytes → IsDeadAt n bytes → m ≡ n
dead_once m n bytes p q =
    let a = not_before m n bytes p q.live in
    let b = not_before n m bytes q p.live in
    omega (arith, a, b)

syntax_once : (m n : ℕ) (bytes : List ℕ) → IsFault (Syntax m) bytes → IsFault (Syntax n) bytes → m ≡ n
syntax_once m n bytes (inl p) (inl q) = dead_once m n bytes p.0.dead q.0.dead
syntax_once m n bytes (inl p) (inr q) = absurd (not_whole m bytes p.0.dead q.2)
syntax_once m n bytes (inr p) (inl q) = absurd (not_whole n bytes q.0.dead p.2)
syntax_once m n bytes (inr p) (inr q) = p.0 ∙ sym q.0

not_syntax_utf8 : (m n : ℕ) (bytes : List ℕ) → IsFault (Syntax m) bytes → IsFault (Utf8 n) bytes → ⊥
not_syntax_utf8 m n bytes (inl p) q = p.0.utf8 (subst (λ k. BreaksUtf8 k bytes) (dead_once n m bytes q.0 p.0.dead) q.1)
not_syntax_utf8 m n bytes (inr p) q = not_whole n bytes q.0 p.2

not_syntax_depth : (m n : ℕ) (bytes : List ℕ) → IsFault (Syntax m) bytes → IsFault (Depth n) bytes → ⊥
not_syntax_depth m n bytes (inl p) q = p.0.depth (subst (λ k. IsTooDeep k bytes) (dead_once n m bytes q.0 p.0.dead) q.1)
not_syntax_depth m n bytes (inr p) q = not_whole n bytes q.0 p.2

not_utf8_depth : (m n : ℕ) (bytes : List ℕ) → IsFault (Utf8 m) bytes → IsFault (Depth n) bytes → ⊥
not_utf8_depth m n bytes p q = not_both m bytes p.0 p.1 (subst (λ k. IsTooDeep k bytes) (dead_once n m bytes q.0 p.0) q.1)

not_large : (n : ℕ) (bytes : List ℕ) → IsDeadAt n bytes → n < most_bytes → IsFault Large bytes → ⊥
not_large n bytes at l q = not_before n most_bytes bytes at q.1 l

not_syntax_large : (n : ℕ) (bytes : List ℕ) → IsFault (Syntax n) bytes → IsFault Large bytes → ⊥
not_syntax_large n bytes (inl p) q = not_large n bytes p.0.dead p.1 q
not_syntax_large n bytes (inr p) q = let small = p.1 in let large = q.0 in absurd (omega (arith, small, large))

-- bytes have one fault at the most
pub fault_once : (bytes : List ℕ) (f g : JsonFault) → IsFault f bytes → IsFault g bytes → f ≡ g
fault_once bytes (Syntax m) (Syntax n) p q = ap Syntax (syntax_once m n bytes p q)
fault_once bytes (Syntax m) (Utf8 n) p q = absurd (not_syntax_utf8 m n bytes p q)
fault_once bytes (Syntax m) (Depth n) p q = absurd (not_syntax_depth m n bytes p q)
fault_once bytes (Syntax m) Large p q = absurd (not_syntax_large m bytes p q)
fault_once bytes (Syntax m) Memory p q = absurd q
fault_once bytes (Utf8 m) (Syntax n) p q = absurd (not_syntax_utf8 n m bytes q p)
fault_once bytes (Utf8 m) (Utf8 n) p q = ap Utf8 (dead_once m n bytes p.0 q.0)
fault_once bytes (Utf8 m) (Depth n) p q = absurd (not_utf8_depth m n bytes p q)
fault_once bytes (Utf8 m) Large p q = absurd (not_large m bytes p.0 p.2 q)
fault_once bytes (Utf8 m) Memory p q = absurd q
fault_once bytes (Depth m) (Syntax n) p q = absurd (not_syntax_depth n m bytes q p)
fault_once bytes (Depth m) (Utf8 n) p q = absurd (not_utf8_depth n m bytes q p)
fault_once bytes (Depth m) (Depth n) p q = ap Depth (dead_once m n bytes p.0 q.0)
fault_once bytes (Depth m) Large p q = absurd (not_large m bytes p.0 p.2 q)
fault_once bytes (Depth m) Memory p q = absurd q
fault_once bytes Large (Syntax n) p q = absurd (not_syntax_large n bytes q p)
fault_once bytes Large (Utf8 n) p q = absurd (not_large n bytes q.0 q.2 p)
fault_once bytes Large (Depth n) p q = absurd (not_large n bytes q.0 q.2 p)
fault_once bytes Large Large p q = refl
fault_once bytes Large Memory p q = absurd q
fault_once bytes Memory g p q = absurd p

-- a text within the limit has no fault
pub fault_or_text : (bytes : List ℕ) (v : Json) (f : JsonFault) → length bytes ≤ most_bytes → text_of bytes v → IsFault f bytes → ⊥
fault_or_text bytes v (Syntax n) l h (inl p) = not_whole n bytes p.0.dead (text_live bytes v h)
fault_or_text bytes v (Syntax n) l h (inr p) = p.3 v h
fault_or_text bytes v (Utf8 n) l h p = not_whole n bytes p.0 (text_live bytes v h)
fault_or_text bytes v (Depth n) l h p = not_whole n bytes p.0 (text_live bytes v h)
fault_or_text bytes v Large l h p = let large = p.0 in absurd (omega (arith, l, large))
fault_or_text bytes v Memory l h p = p
