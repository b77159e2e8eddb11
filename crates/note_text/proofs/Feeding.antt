-- A reader of notes that is fed.
use Rattle.std.proofs.Common.{◌≡◌, ◌≤◌, ◌<◌, ◌+◌, ◌-◌, ◌^◌, ◌==◌, false, ℕ, List, [], ◌∷◌, ◌++◌, length, refl, sym, ap, subst, ◌∙◌, append-nil, length-append, arith}
use Rattle.std.proofs.lemmas.List.Elements.{All-append}
use Rattle.edl_text.proofs.Reading.{ended_here, last_here}
use Rattle.limits.specs.Limits.{most_bytes}
use Rattle.text_lines.specs.First.{HasNone}
use Rattle.text_lines.specs.Lines.{lines_of, ended_lines, last_line, without_return}
use Rattle.text_lines.proofs.Pieces.{ended_more, last_more, ended_none, last_none}
use Rattle.tick_time.specs.declared.rates.Rate.{Rate}
use Rattle.edl_text.specs.Statements.{Statement}
use Rattle.edl_text.specs.Saying.{Says}
use Rattle.edl_text.specs.Lines.{AreSound}
use Rattle.edl_text.proofs.Reading.{none_in_none}
use Rattle.note_text.specs.Heard.{AreHeard, end}
use Rattle.note_text.specs.StateHeard.{Hears}
use Rattle.note_text.specs.Reader.{HasHeard}
use Rattle.note_text.specs.declared.hearing.Hearing.{Hearing}
use Rattle.note_text.specs.declared.hearing.NoteReader.{NoteReader}

pub split_sound : (rate : Rate) (p q : List Statement) (xs ys : List (List ℕ)) → AreSound rate p (xs ++ ys) q → (r : List Statement) × AreSound rate p xs r × AreSound rate r ys q
split_sound rate p q [] ys h = (p, refl, h)
split_sound rate p q (x ∷ xs) ys h = let t = split_sound rate (h.0 ∷ p) q xs ys h.2 in (t.0, (h.0, h.1, t.1), t.2)

pub sound_length : (rate : Rate) (p q : List Statement) (xs : List (List ℕ)) → AreSound rate p xs q → length q ≡ length p + length xs
sound_length rate p q [] h = let k : length q ≡ length p = ap length h in omega (arith, k)
sound_length rate p q (x ∷ xs) h = let k = sound_length rate (h.0 ∷ p) q xs h.2 in omega (arith, k)

-- what a hearing does with a line
abbrev pub Goes : List ℕ → Hearing → Hearing → Type 0
Goes line old new = (rate : Rate) (past : List Statement) (lines : List (List ℕ)) (statement : Statement) → length past < 2 ^ 32 - 1
    → Hears rate past lines old → Says line statement → Hears rate (statement ∷ past) (lines ++ line ∷ []) new

-- a piece of a line
pub heard_more : (rate : Rate) (bytes piece : List ℕ) (old new : NoteReader) → HasHeard rate bytes old → HasNone 10 piece → new.hearing ≡ old.hearing
    → new.held.items ≡ old.held.items ++ piece → HasHeard rate (bytes ++ piece) new
heard_more rate bytes piece old new h clear same held =
    let last : last_line bytes ++ piece ≡ new.held.items = ap (λ l. l ++ piece) (sym h.held) ∙ sym held in
    let all : HasNone 10 new.held.items = subst (λ l. HasNone 10 l) (sym held) (All-append (λ b. (b == 10) ≡ false) old.held.items piece h.unended clear) in
    let ended : ended_lines (bytes ++ piece) ≡ ended_lines bytes = ended_more bytes piece ∙ ap (λ l. ended_lines bytes ++ ended_lines l) last ∙ ap (λ l. ended_lines bytes ++ l) (ended_none new.held.items all)
    ∙ append-nil (ended_lines bytes) in
    record {
      ended = λ past small sound.
          let less : length bytes ≤ most_bytes = omega (arith, small, length-append bytes piece) in
          subst (λ l. Hears rate past l new.hearing) (sym ended)
          (subst (Hears rate past (ended_lines bytes)) (sym same) (h.ended past less (subst (λ l. AreSound rate [] l past) ended sound)));
      few = omega (arith, h.few, ap length ended, length-append bytes piece);
      held = sym (last_more bytes piece ∙ ap last_line last ∙ last_none new.held.items all);
      unended = all;
    }

-- the end of a line
pub line_ended : (rate : Rate) (bytes line : List ℕ) (old new : NoteReader) → HasHeard rate bytes old → line ≡ without_return old.held.items → Goes line old.hearing new.hearing
    → new.held.items ≡ [] → HasHeard rate (bytes ++ 10 ∷ []) new
line_ended rate bytes line old new h e goes held =
    let here : ended_lines (bytes ++ 10 ∷ []) ≡ ended_lines bytes ++ line ∷ [] = ended_here bytes old.held.items h.held h.unended ∙ ap (λ l. ended_lines bytes ++ l ∷ []) (sym e) in
    record {
      ended = λ past small sound.
          let less : length bytes ≤ most_bytes = omega (arith, small, length-append bytes (10 ∷ [])) in
          let parts = split_sound rate [] past (ended_lines bytes) (line ∷ []) (subst (λ l. AreSound rate [] l past) here sound) in
          let one : AreSound rate parts.0 (line ∷ []) past = parts.2 in
          let short : length parts.0 < 2 ^ 32 - 1 = omega (arith, sound_length rate [] parts.0 (ended_lines bytes) parts.1, h.few, less) in
          subst (λ l. Hears rate past l new.hearing) (sym here)
          (subst (λ p. Hears rate p (ended_lines bytes ++ line ∷ []) new.hearing) (sym one.2)
          (goes rate parts.0 (ended_lines bytes) one.0 short (h.ended parts.0 less parts.1) one.1.says));
      few = omega (arith, h.few, ap length here, length-append (ended_lines bytes) (line ∷ []), length-append bytes (10 ∷ []));
      held = held ∙ sym (last_here bytes old.held.items h.held h.unended);
      unended = subst (λ l. HasNone 10 l) (sym held) none_in_none;
    }

-- how far a reader has come in a piece
pub record Went (piece rest : List ℕ) (old new : NoteReader) : Type 0 where
  pub front : List ℕ
  pub split : piece ≡ front ++ rest
  pub read : (rate : Rate) (bytes : List ℕ) → HasHeard rate bytes old → HasHeard rate (bytes ++ front) new

-- what all lines say
pub all_heard : (rate : Rate) (bytes line : List ℕ) (reader : NoteReader) (new : Hearing) (past : List Statement) → HasHeard rate bytes reader → line ≡ reader.held.items → Goes line reader.hearing new
    → length bytes ≤ most_bytes → AreSound rate [] (lines_of bytes) past → AreHeard rate [] (lines_of bytes) new.heard.items
all_heard rate bytes line reader new past h e goes small sound =
    let parts = split_sound rate [] past (ended_lines bytes) (last_line bytes ∷ []) sound in
    let one : AreSound rate parts.0 (last_line bytes ∷ []) past = parts.2 in
    let same : last_line bytes ≡ line = sym (e ∙ h.held) in
    let short : length parts.0 < 2 ^ 32 - 1 = omega (arith, sound_length rate [] parts.0 (ended_lines bytes) parts.1, h.few, small) in
    let k : Hears rate (one.0 ∷ parts.0) (ended_lines bytes ++ line ∷ []) new =
    goes rate parts.0 (ended_lines bytes) one.0 short (h.ended parts.0 small parts.1) (subst (λ l. Says l one.0) same one.1.says) in
    subst (λ l. AreHeard rate [] l new.heard.items) (append-nil (ended_lines bytes ++ line ∷ []) ∙ ap (λ l. ended_lines bytes ++ l ∷ []) (sym same))
    (subst (λ l. AreHeard rate [] ((ended_lines bytes ++ line ∷ []) ++ []) l) (append-nil new.heard.items) (k.heard [] [] (end (one.0 ∷ parts.0))))
