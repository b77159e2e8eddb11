-- What the machine stands for after some bytes: which continuations are texts, and which are UTF-8.
use Rattle.std.proofs.Common.{◌≡◌, ℕ, suc, ◌-◌, ◌<◌, ◌≤◌, List, [], ◌∷◌, ◌++◌, length, Result, Ok, Err, refl, sym, ap, ◌∙◌, append_assoc, append-nil, arith, subst, ◌⊎◌, inl, inr}
use Rattle.std.proofs.lemmas.Str.{encode_ascii}
use Rattle.std.specs.Str.{IsUtf8}
use lib.Utf8.{low_scalar}
use Rattle.json_value.specs.declared.Json.{Json}
use Rattle.json_text.specs.Grammar.{Chars, plain as plain_of, Value, IsTextWithin, IsLiveWithin}
use Rattle.json_text.specs.Strings.{HasNoQuote}
use Rattle.json_text.specs.State.Machine.{StringPlace, Hand, value, first_item, first_name, next_name, colon, behind, done, word, number, text, MachineState, state, start, step, run, run_on}
use Rattle.json_text.specs.declared.state.Stop.{Stop}
use Rattle.json_text.specs.declared.state.Stop.TheVariants.{Syntax, Utf8, Depth}
use Rattle.json_text.specs.declared.state.Role.{Role}
use Rattle.json_text.specs.State.Opened.{Unclosed}
use Rattle.json_text.proofs.Finishes.{Finishes, Goes, IsState, IsPart}
use Rattle.json_text.proofs.TextSteps.{Same}
use Rattle.json_text.proofs.Steps.{step_same}
use Rattle.json_text.proofs.ValidStates.{sound_step}
use Rattle.json_text.proofs.LiveStates.{finishes, part_reaches, role_ends, ended}
use Rattle.json_text.proofs.OutsideStrings.{IsOutside, IsWhole, out_step}
use Rattle.json_text.proofs.Utf8Steps.{Utf8Rest, whole_rest, ascii_same, text_step}

-- ---- one step, whatever the hand
pub record Facts (limit : ℕ) (levels : List Unclosed) (hand : Hand) (b : ℕ) : Type 0 where
  pub goes : (t : MachineState) → step limit levels hand b ≡ Ok t → (step (suc limit) levels hand b ≡ Ok t) × (length t.levels ≤ limit) × ((more : List ℕ) → Same (Utf8Rest hand (b ∷ more)) (Utf8Rest t.hand more))
  pub syntax : step limit levels hand b ≡ Err Syntax → (step (suc limit) levels hand b ≡ Err Syntax) × (IsOutside hand ⊎ ((more : List ℕ) × Utf8Rest hand (b ∷ more)))
  pub utf8 : step limit levels hand b ≡ Err Utf8 → (step (suc limit) levels hand b ≡ Err Utf8) × (IsOutside hand → ⊥) × ((more : List ℕ) → Utf8Rest hand (b ∷ more) → ⊥)
  pub depth : step limit levels hand b ≡ Err Depth → (t : MachineState) × (step (suc limit) levels hand b ≡ Ok t)

outside_whole : (hand : Hand) → IsOutside hand → IsWhole hand
outside_whole value o = tt
outside_whole first_item o = tt
outside_whole first_name o = tt
outside_whole next_name o = tt
outside_whole colon o = tt
outside_whole behind o = tt
outside_whole (done x) o = tt
outside_whole (word x left) o = tt
outside_whole (number t place) o = tt
outside_whole (text role t part) o = absurd o

outside_facts : (limit : ℕ) (levels : List Unclosed) (hand : Hand) (b : ℕ) → length levels ≤ limit → IsState levels hand → IsOutside hand → Facts limit levels hand b
outside_facts limit levels hand b f h o =
    let s = out_step limit b levels hand f h o in
    record {
      goes = λ t e.
          let g = s.goes t e in (
            g.1,
            g.0.few,
            λ more.
                let p = whole_rest hand (b ∷ more) (outside_whole hand o) in
                let q = ascii_same b more g.0.ascii in
                let r = whole_rest t.hand more g.0.whole in
                (λ u. r.0 (q.0 (p.1 u)), λ u. p.0 (q.1 (r.1 u))),
          );
      syntax = λ e. (s.syntax e, inl o);
      utf8 = λ e. absurd (s.utf8 e);
      depth = s.depth;
    }

text_facts : (limit : ℕ) (levels : List Unclosed) (role : Role) (t : List ℕ) (part : StringPlace) (b : ℕ) → length levels ≤ limit → IsPart part t → Facts limit levels (text role t part) b
text_facts limit levels role t part b f h =
    let s = text_step limit b levels role t part f h in
    record {
      goes = λ u e. let g = s.goes u e in (e, g.1, g.0);
      syntax = λ e. (e, inr (s.syntax e));
      utf8 = λ e. (e, λ o. o, s.utf8 e);
      depth = λ e. absurd (s.depth e);
    }

pub facts : (limit : ℕ) (levels : List Unclosed) (hand : Hand) (b : ℕ) → length levels ≤ limit → IsState levels hand → Facts limit levels hand b
facts limit levels value b f h = outside_facts limit levels value b f h tt
facts limit levels first_item b f h = outside_facts limit levels first_item b f h tt
facts limit levels first_name b f h = outside_facts limit levels first_name b f h tt
facts limit levels next_name b f h = outside_facts limit levels next_name b f h tt
facts limit levels colon b f h = outside_facts limit levels colon b f h tt
facts limit levels behind b f h = outside_facts limit levels behind b f h tt
facts limit levels (done x) b f h = outside_facts limit levels (done x) b f h tt
facts limit levels (word x left) b f h = outside_facts limit levels (word x left) b f h tt
facts limit levels (number t place) b f h = outside_facts limit levels (number t place) b f h tt
facts limit levels (text role t part) b f h = text_facts limit levels role t part b f h.1

-- ---- the bytes so far
pub record Sees (limit : ℕ) (bytes : List ℕ) (s : MachineState) : Type 0 where
  pub is : IsState s.levels s.hand
  pub few : length s.levels ≤ limit
  pub same : (more : List ℕ) (v : Json) → Same (IsTextWithin limit (bytes ++ more) v) (Finishes limit s.levels s.hand more v)
  pub deep : (more : List ℕ) (v : Json) → Same (IsTextWithin (suc limit) (bytes ++ more) v) (Finishes (suc limit) s.levels s.hand more v)
  pub utf8 : (more : List ℕ) → Same (IsUtf8 (bytes ++ more)) (Utf8Rest s.hand more)

text_starts : (limit : ℕ) (more : List ℕ) (v : Json) → Same (IsTextWithin limit more v) (Finishes limit [] value more v)
text_starts limit more v =
    let e : limit - 0 ≡ limit = omega arith in (
      λ h. (v, h.0, subst (λ n. Value n more v h.0) (sym e) h.1, (h.2, refl)),
      λ h. (h.1, subst (λ n. Value n more v h.1) e (subst (λ x. Value (limit - 0) more x h.1) h.3.1 h.2), h.3.0),
    )

pub sees_start : (limit : ℕ) → Sees limit [] start
sees_start limit = record { is = tt; few = omega arith; same = text_starts limit; deep = text_starts (suc limit); utf8 = λ more. (λ u. u, λ u. u) }

regrouped : (bytes : List ℕ) (b : ℕ) (more : List ℕ) → (bytes ++ (b ∷ [])) ++ more ≡ bytes ++ (b ∷ more)
regrouped bytes b more = append_assoc bytes (b ∷ []) more

-- one byte more, within a limit
same_step : (limit : ℕ) (bytes : List ℕ) (s t : MachineState) (b : ℕ) (more : List ℕ) (v : Json) → IsState s.levels s.hand → step limit s.levels s.hand b ≡ Ok t
    → Same (IsTextWithin limit (bytes ++ (b ∷ more)) v) (Finishes limit s.levels s.hand (b ∷ more) v) → Same (IsTextWithin limit ((bytes ++ (b ∷ [])) ++ more) v) (Finishes limit t.levels t.hand more v)
same_step limit bytes s t b more v is e old =
    let both = step_same limit s.levels s.hand b more v is in (
      λ h. subst (λ x. Goes limit x more v) e (both.0 (old.0 (subst (λ x. IsTextWithin limit x v) (regrouped bytes b more) h))),
      λ h. subst (λ x. IsTextWithin limit x v) (sym (regrouped bytes b more)) (old.1 (both.1 (subst (λ x. Goes limit x more v) (sym e) h))),
    )

pub sees_step : (limit : ℕ) (bytes : List ℕ) (s t : MachineState) (b : ℕ) → Sees limit bytes s → step limit s.levels s.hand b ≡ Ok t → Sees limit (bytes ++ (b ∷ [])) t
sees_step limit bytes s t b seen e =
    let f = (facts limit s.levels s.hand b seen.few seen.is).goes t e in
    record {
      is = (sound_step limit s.levels s.hand b seen.is).is t e;
      few = f.1;
      same = λ more v. same_step limit bytes s t b more v seen.is e (seen.same (b ∷ more) v);
      deep = λ more v. same_step (suc limit) bytes s t b more v seen.is f.0 (seen.deep (b ∷ more) v);
      utf8 = λ more.
          let old = seen.utf8 (b ∷ more) in
          let new = f.2 more in
          (λ u. new.0 (old.0 (subst IsUtf8 (regrouped bytes b more) u)), λ u. subst IsUtf8 (sym (regrouped bytes b more)) (old.1 (new.1 u)));
    }

-- many bytes more
sees_on : (limit : ℕ) (bytes more : List ℕ) (s t : MachineState) → Sees limit bytes s → run limit s more ≡ Ok t → Sees limit (bytes ++ more) t
sees_on limit bytes [] s t seen e = let f : s ≡ t = cc e in subst (Sees limit (bytes ++ [])) f (subst (λ x. Sees limit x s) (sym (append-nil bytes)) seen)
sees_on limit bytes (b ∷ more) s t seen e =
    subst (λ x. Sees limit x t) (regrouped bytes b more)
    (by (λ (u : MachineState) (f : step limit s.levels s.hand b ≡ Ok u) (k : run_on limit (Ok u) more ≡ Ok t). sees_on limit (bytes ++ (b ∷ [])) more u t (sees_step limit bytes s u b seen f) k) (step limit s.levels s.hand b) refl e)
  where
    by : ((u : MachineState) → step limit s.levels s.hand b ≡ Ok u → run_on limit (Ok u) more ≡ Ok t → Sees limit ((bytes ++ (b ∷ [])) ++ more) t)
        → (r : Result MachineState Stop) → step limit s.levels s.hand b ≡ r → run_on limit r more ≡ Ok t → Sees limit ((bytes ++ (b ∷ [])) ++ more) t
    by go (Ok u) f e = go u f e
    by go (Err k) f e = cc e

pub sees : (bytes : List ℕ) (s : MachineState) → run 127 start bytes ≡ Ok s → Sees 127 bytes s
sees bytes s e = sees_on 127 [] bytes start s (sees_start 127) e

-- ---- live and dead
pub is_live : (limit : ℕ) (bytes : List ℕ) (s : MachineState) → Sees limit bytes s → IsLiveWithin limit bytes
is_live limit bytes s seen = let f = finishes limit s.levels s.hand seen.is in (f.0, f.1, (seen.same f.0 f.1).1 f.2)

dead_within : (limit : ℕ) (bytes : List ℕ) (s : MachineState) (b : ℕ) (k : Stop) → IsState s.levels s.hand → ((more : List ℕ) (v : Json) → IsTextWithin limit (bytes ++ more) v → Finishes limit s.levels s.hand more v)
    → step limit s.levels s.hand b ≡ Err k → IsLiveWithin limit (bytes ++ (b ∷ [])) → ⊥
dead_within limit bytes s b k is same e live =
    let both = step_same limit s.levels s.hand b live.0 live.1 is in
    subst (λ x. Goes limit x live.0 live.1) e (both.0 (same (b ∷ live.0) live.1 (subst (λ x. IsTextWithin limit x live.1) (regrouped bytes b live.0) live.2)))

pub is_dead : (limit : ℕ) (bytes : List ℕ) (s : MachineState) (b : ℕ) (k : Stop) → Sees limit bytes s → step limit s.levels s.hand b ≡ Err k → IsLiveWithin limit (bytes ++ (b ∷ [])) → ⊥
is_dead limit bytes s b k seen e live = dead_within limit bytes s b k seen.is (λ more v. (seen.same more v).0) e live

pub is_dead_deeper : (limit : ℕ) (bytes : List ℕ) (s : MachineState) (b : ℕ) (k : Stop) → Sees limit bytes s → step (suc limit) s.levels s.hand b ≡ Err k → IsLiveWithin (suc limit) (bytes ++ (b ∷ [])) → ⊥
is_dead_deeper limit bytes s b k seen e live = dead_within (suc limit) bytes s b k seen.is (λ more v. (seen.deep more v).0) e live

pub is_live_deeper : (limit : ℕ) (bytes : List ℕ) (s t : MachineState) (b : ℕ) → Sees limit bytes s → step (suc limit) s.levels s.hand b ≡ Ok t → IsLiveWithin (suc limit) (bytes ++ (b ∷ []))
is_live_deeper limit bytes s t b seen e =
    let is = (sound_step (suc limit) s.levels s.hand b seen.is).is t e in
    let f = finishes (suc limit) t.levels t.hand is in
    (f.0, f.1, (same_step (suc limit) bytes s t b f.0 f.1 seen.is e (seen.deep (b ∷ f.0) f.1)).1 f.2)

-- ---- inside a string, and outside
hash : (rest : List ℕ) → Chars (35 ∷ 34 ∷ rest) (35 ∷ []) rest
hash rest =
    let n : 35 < 128 = omega arith in
    plain_of (35 ∷ 34 ∷ rest) (35 ∷ []) rest 35 (34 ∷ rest) [] (low_scalar 35 (omega arith)) (omega arith) (λ k. absurd (omega arith)) (λ k. absurd (omega arith))
    (ap (λ x. x ++ (34 ∷ rest)) (sym (encode_ascii 35 n))) (ap (λ x. x ++ []) (sym (encode_ascii 35 n))) (ended rest)

pub in_string : (limit : ℕ) (bytes : List ℕ) (levels : List Unclosed) (role : Role) (t : List ℕ) (part : StringPlace) → Sees limit bytes (state levels (text role t part))
    → (on : List ℕ) × HasNoQuote on × IsLiveWithin limit (bytes ++ (on ++ (35 ∷ [])))
in_string limit bytes levels role t part seen =
    let e = part_reaches part t seen.is.1 in
    let k = role_ends limit levels role (t ++ (e.more ++ (35 ∷ []))) seen.is.0 in
    let rest = 34 ∷ k.0 in
    let h : Finishes limit levels (text role t part) (e.front ++ (35 ∷ rest)) k.1 = (e.more ++ (35 ∷ []), k.0, e.is (35 ∷ rest) (35 ∷ []) k.0 (hash k.0), k.2) in
    let g : bytes ++ (e.front ++ (35 ∷ rest)) ≡ (bytes ++ (e.front ++ (35 ∷ []))) ++ rest = ap (λ x. bytes ++ x) (sym (append_assoc e.front (35 ∷ []) rest)) ∙ sym (append_assoc bytes (e.front ++ (35 ∷ [])) rest) in
    (e.front, e.clean, (rest, k.1, subst (λ x. IsTextWithin limit x k.1) g ((seen.same (e.front ++ (35 ∷ rest)) k.1).1 h)))

out_never : (limit : ℕ) (on : List ℕ) (levels : List Unclosed) (hand : Hand) (more : List ℕ) (v : Json) → length levels ≤ limit → IsState levels hand → IsOutside hand → HasNoQuote on → Finishes limit levels hand (on ++ (35 ∷ more)) v → ⊥
out_never limit [] levels hand more v f is o q h = by (step limit levels hand 35) refl ((step_same limit levels hand 35 more v is).0 h)
  where
    by : (r : Result MachineState Stop) → step limit levels hand 35 ≡ r → Goes limit r more v → ⊥
    by (Ok t) e h = ((out_step limit 35 levels hand f is o).goes t e).0.no_hash refl
    by (Err k) e h = h
out_never limit (b ∷ on) levels hand more v f is o q h =
    by (λ (t : MachineState) (g : length t.levels ≤ limit) (i : IsState t.levels t.hand) (n : IsOutside t.hand) (k : Finishes limit t.levels t.hand (on ++ (35 ∷ more)) v). out_never limit on t.levels t.hand more v g i n q.1 k)
    (step limit levels hand b) refl ((step_same limit levels hand b (on ++ (35 ∷ more)) v is).0 h)
  where
    by : ((t : MachineState) → length t.levels ≤ limit → IsState t.levels t.hand → IsOutside t.hand → Finishes limit t.levels t.hand (on ++ (35 ∷ more)) v → ⊥)
        → (r : Result MachineState Stop) → step limit levels hand b ≡ r → Goes limit r (on ++ (35 ∷ more)) v → ⊥
    by go (Ok t) e h = let g = ((out_step limit b levels hand f is o).goes t e).0 in go t g.few ((sound_step limit levels hand b is).is t e) (g.outside q.0) h
    by go (Err k) e h = h

pub not_in_string : (limit : ℕ) (bytes : List ℕ) (s : MachineState) → Sees limit bytes s → IsOutside s.hand → (on : List ℕ) → HasNoQuote on → IsLiveWithin limit (bytes ++ (on ++ (35 ∷ []))) → ⊥
not_in_string limit bytes s seen o on q live =
    let g : (bytes ++ (on ++ (35 ∷ []))) ++ live.0 ≡ bytes ++ (on ++ (35 ∷ live.0)) = append_assoc bytes (on ++ (35 ∷ [])) live.0 ∙ ap (λ x. bytes ++ x) (append_assoc on (35 ∷ []) live.0) in
    out_never limit on s.levels s.hand live.0 live.1 seen.few seen.is o q ((seen.same (on ++ (35 ∷ live.0)) live.1).0 (subst (λ x. IsTextWithin limit x live.1) g live.2))
