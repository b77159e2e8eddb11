-- Lines behind lines, and a reader that is fed.
use Rattle.std.proofs.Common.{◌≡◌, ℕ, ◌+◌, ◌<◌, ◌≤◌, ◌==◌, ◌⊎◌, false, append-nil, zero-add, suc-add, List, [], ◌∷◌, ◌++◌, length, take, inl, inr, refl, sym, ap, subst, ◌∙◌, arith, rules, append_assoc, length-append}
use Rattle.std.proofs.lemmas.List.Elements.{All-append}
use Rattle.std.proofs.lemmas.Grind.{common_steps}
use Rattle.text_lines.specs.First.{HasNone}
use Rattle.text_lines.specs.Lines.{ended_lines, last_line, without_return}
use Rattle.text_lines.proofs.Pieces.{ended_more, last_more, ended_at, last_at, ended_none, last_none}
use Rattle.tick_time.specs.declared.rates.Rate.{Rate}
use Rattle.edl_text.specs.Statements.{Statement}
use Rattle.edl_text.specs.declared.faults.EdlFault.{EdlFault}
use Rattle.edl_text.specs.declared.faults.EdlFault.TheVariants.{Large, Memory}
use Rattle.edl_text.specs.declared.reader.EdlReader.{EdlReader}
use Rattle.edl_text.specs.Lines.{IsSound, IsFaulty, AreSound, HasFirstFault}
use Rattle.edl_text.specs.Lists.{IsEarlyFault}
use Rattle.limits.specs.Limits.{most_bytes}
use Rattle.edl_text.specs.Reader.{HasRead}
use Rattle.edl_text.specs.StateSaid.{Stands}

pub sound_append : (rate : Rate) (p q r : List Statement) (xs ys : List (List ℕ)) → AreSound rate p xs q → AreSound rate q ys r → AreSound rate p (xs ++ ys) r
sound_append rate p q r [] ys h k = subst (λ s. AreSound rate s ys r) h k
sound_append rate p q r (x ∷ xs) ys h k = (h.0, h.1, sound_append rate (h.0 ∷ p) q r xs ys h.2 k)

pub fault_append : (rate : Rate) (p q : List Statement) (xs ys : List (List ℕ)) (fault : EdlFault) → AreSound rate p xs q → HasFirstFault rate q ys fault → HasFirstFault rate p (xs ++ ys) fault
fault_append rate p q [] ys fault h k = subst (λ s. HasFirstFault rate s ys fault) h k
fault_append rate p q (x ∷ xs) ys fault h k = inr (h.0, h.1, fault_append rate (h.0 ∷ p) q xs ys fault h.2 k)

pub fault_more : (rate : Rate) (p : List Statement) (xs ys : List (List ℕ)) (fault : EdlFault) → HasFirstFault rate p xs fault → HasFirstFault rate p (xs ++ ys) fault
fault_more rate p [] ys fault h = absurd h
fault_more rate p (x ∷ xs) ys fault (inl h) = inl h
fault_more rate p (x ∷ xs) ys fault (inr h) = inr (h.0, h.1, fault_more rate (h.0 ∷ p) xs ys fault h.2)

-- a fault stays when more bytes follow
pub fault_stays : (rate : Rate) (bytes more all : List ℕ) (fault : EdlFault) → all ≡ bytes ++ more → HasFirstFault rate [] (ended_lines bytes) fault → HasFirstFault rate [] (ended_lines all) fault
fault_stays rate bytes more all fault e h =
    subst (λ l. HasFirstFault rate [] l fault) (sym (ap ended_lines e ∙ ended_more bytes more)) (fault_more rate [] (ended_lines bytes) (ended_lines (last_line bytes ++ more)) fault h)

pub no_lines : ended_lines [] ≡ []
unfolding ended_lines
no_lines = refl

pub no_last : last_line [] ≡ []
unfolding last_line
no_last = refl

-- a reader that was fed a piece of a line
pub held_more : (rate : Rate) (bytes piece : List ℕ) (old new : EdlReader) → HasRead rate bytes old → HasNone 10 piece → new.said ≡ old.said → new.fault ≡ old.fault
    → new.held.items ≡ old.held.items ++ piece → new.taken ≡ old.taken + length piece → HasRead rate (bytes ++ piece) new
held_more rate bytes piece old new h none s f held taken =
    let last : last_line bytes ++ piece ≡ new.held.items = ap (λ l. l ++ piece) (sym h.held) ∙ sym held in
    let all : HasNone 10 new.held.items = subst (λ l. HasNone 10 l) (sym held) (All-append (λ b. (b == 10) ≡ false) old.held.items piece h.unended none) in
    let ended : ended_lines (bytes ++ piece) ≡ ended_lines bytes = ended_more bytes piece ∙ ap (λ l. ended_lines bytes ++ ended_lines l) last ∙ ap (λ l. ended_lines bytes ++ l) (ended_none new.held.items all)
    ∙ append-nil (ended_lines bytes) in
    record {
      past = h.past;
      ended = subst (λ l. AreSound rate [] l h.past) (sym ended) h.ended;
      few = omega (arith, h.few, length-append bytes piece);
      stands = subst (Stands rate h.past) (sym s) h.stands;
      held = sym (last_more bytes piece ∙ ap last_line last ∙ last_none new.held.items all);
      unended = all;
      sound = f ∙ h.sound;
      taken = omega (arith, h.taken, taken, length-append bytes piece);
    }

-- what stands before a line feed is the last line, and it ends there
pub ended_here : (bytes line : List ℕ) → line ≡ last_line bytes → HasNone 10 line → ended_lines (bytes ++ 10 ∷ []) ≡ ended_lines bytes ++ without_return line ∷ []
ended_here bytes line e none =
    ended_more bytes (10 ∷ []) ∙ ap (λ l. ended_lines bytes ++ ended_lines (l ++ 10 ∷ [])) (sym e) ∙ ap (λ l. ended_lines bytes ++ l) (ended_at line [] none ∙ ap (λ l. without_return line ∷ l) no_lines)

pub last_here : (bytes line : List ℕ) → line ≡ last_line bytes → HasNone 10 line → last_line (bytes ++ 10 ∷ []) ≡ []
last_here bytes line e none = last_more bytes (10 ∷ []) ∙ ap (λ l. last_line (l ++ 10 ∷ [])) (sym e) ∙ last_at line [] none ∙ no_last

pub none_in_none : HasNone 10 []
none_in_none = search rules

-- a reader whose line ended
pub line_more : (rate : Rate) (bytes : List ℕ) (old new : EdlReader) (statement : Statement) → (h : HasRead rate bytes old) → IsSound rate h.past (without_return old.held.items) statement
    → Stands rate (statement ∷ h.past) new.said → new.fault ≡ old.fault → new.held.items ≡ [] → new.taken ≡ old.taken + 1 → HasRead rate (bytes ++ 10 ∷ []) new
line_more rate bytes old new statement h sound stands f held taken = record {
  past = statement ∷ h.past;
  ended =
      subst (λ l. AreSound rate [] l (statement ∷ h.past)) (sym (ended_here bytes old.held.items h.held h.unended))
      (sound_append rate [] h.past (statement ∷ h.past) (ended_lines bytes) (without_return old.held.items ∷ []) h.ended (statement, sound, refl));
  few = omega (arith, h.few, length-append bytes (10 ∷ []));
  stands = stands;
  held = held ∙ sym (last_here bytes old.held.items h.held h.unended);
  unended = subst (λ l. HasNone 10 l) (sym held) none_in_none;
  sound = f ∙ h.sound;
  taken = omega (arith, h.taken, taken, length-append bytes (10 ∷ []));
}

-- a reader whose line ended with a fault
pub line_faulty : (rate : Rate) (bytes : List ℕ) (old : EdlReader) (fault : EdlFault) → (h : HasRead rate bytes old) → IsFaulty rate h.past (without_return old.held.items) fault
    → HasFirstFault rate [] (ended_lines (bytes ++ 10 ∷ [])) fault
line_faulty rate bytes old fault h faulty =
    subst (λ l. HasFirstFault rate [] l fault) (sym (ended_here bytes old.held.items h.held h.unended))
    (fault_append rate [] h.past (ended_lines bytes) (without_return old.held.items ∷ []) fault h.ended (inl faulty))

-- a fault within the room that there is
pub early_in : (rate : Rate) (bytes within all : List ℕ) (fault : EdlFault) → take most_bytes all ≡ bytes ++ within → HasFirstFault rate [] (ended_lines (bytes ++ within)) fault → IsEarlyFault rate all fault
early_in rate bytes within all fault e h = inl (subst (λ l. HasFirstFault rate [] (ended_lines l) fault) (sym e) h)

pub too_large : (rate : Rate) (bytes within all : List ℕ) (reader : EdlReader) → take most_bytes all ≡ bytes ++ within → most_bytes < length all → HasRead rate (bytes ++ within) reader → IsEarlyFault rate all Large
too_large rate bytes within all reader e large h = inr (refl, record { large = large; past = h.past; sound = subst (λ l. AreSound rate [] (ended_lines l) h.past) (sym e) h.ended })

pub all_taken : (n : ℕ) (bytes : List ℕ) → length bytes ≤ n → take n bytes ≡ bytes
all_taken n bytes h = grind (arith, common_steps)

take_past : (bytes piece : List ℕ) (room : ℕ) → take (length bytes + room) (bytes ++ piece) ≡ bytes ++ take room piece
take_past [] piece room = ap (λ n. take n piece) (zero-add room)
take_past (x ∷ xs) piece room = ap (λ n. take n (x ∷ (xs ++ piece))) (suc-add (length xs) room) ∙ ap (λ l. x ∷ l) (take_past xs piece room)

pub some_taken : (n : ℕ) (bytes piece : List ℕ) (room : ℕ) → length bytes + room ≡ n → take n (bytes ++ piece) ≡ bytes ++ take room piece
some_taken n bytes piece room e = ap (λ k. take k (bytes ++ piece)) (sym e) ∙ take_past bytes piece room

-- what becomes of a line that ends
pub line_read : (rate : Rate) (bytes line all : List ℕ) (old new : EdlReader) → all ≡ bytes ++ 10 ∷ [] → (h : HasRead rate bytes old) → line ≡ without_return old.held.items
    → (statement : Statement) × IsSound rate h.past line statement × Stands rate (statement ∷ h.past) new.said → new.fault ≡ old.fault → new.held.items ≡ [] → new.taken ≡ old.taken + 1
    → HasRead rate all new
line_read rate bytes line all old new a h e t f held taken =
    subst (λ l. HasRead rate l new) (sym a) (line_more rate bytes old new t.0 h (subst (λ l. IsSound rate h.past l t.0) e t.1) t.2 f held taken)

pub line_refused : (rate : Rate) (bytes line : List ℕ) (old : EdlReader) (fault : EdlFault) → (h : HasRead rate bytes old) → line ≡ without_return old.held.items
    → (fault ≡ Memory) ⊎ IsFaulty rate h.past line fault → (fault ≡ Memory) ⊎ HasFirstFault rate [] (ended_lines (bytes ++ 10 ∷ [])) fault
line_refused rate bytes line old fault h e (inl m) = inl m
line_refused rate bytes line old fault h e (inr k) = inr (line_faulty rate bytes old fault h (subst (λ l. IsFaulty rate h.past l fault) e k))

-- the bytes that were fed, a line more, and the rest of the piece
pub regroup : (bytes front line after rest piece : List ℕ) → piece ≡ front ++ rest → rest ≡ line ++ 10 ∷ after → bytes ++ piece ≡ ((bytes ++ front) ++ (line ++ 10 ∷ [])) ++ after
regroup bytes front line after rest piece p r = rw (p, r) (simp append_assoc)

pub refused_stays : (rate : Rate) (bytes more all : List ℕ) (fault : EdlFault) → all ≡ bytes ++ more → (fault ≡ Memory) ⊎ HasFirstFault rate [] (ended_lines bytes) fault
    → (fault ≡ Memory) ⊎ HasFirstFault rate [] (ended_lines all) fault
refused_stays rate bytes more all fault e (inl m) = inl m
refused_stays rate bytes more all fault e (inr h) = inr (fault_stays rate bytes more all fault e h)

pub refused_early : (rate : Rate) (bytes within all : List ℕ) (fault : EdlFault) → take most_bytes all ≡ bytes ++ within → (fault ≡ Memory) ⊎ HasFirstFault rate [] (ended_lines (bytes ++ within)) fault
    → (fault ≡ Memory) ⊎ IsEarlyFault rate all fault
refused_early rate bytes within all fault e (inl m) = inl m
refused_early rate bytes within all fault e (inr h) = inr (early_in rate bytes within all fault e h)
