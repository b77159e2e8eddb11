-- Bytes have one fault at most, and none where they are a list.
use Rattle.std.proofs.Common.{◌≡◌, ◌⊎◌, ℕ, ◌<◌, ◌≤◌, List, [], ◌∷◌, length, take, Option, Some, None, inl, inr, refl, sym, ap, subst, ◌∙◌, arith}
use Rattle.text_lines.specs.Lines.{lines_of, ended_lines, last_line}
use Rattle.tick_time.specs.declared.rates.Rate.{Rate}
use Rattle.edl_text.specs.Statements.{Statement}
use Rattle.edl_text.proofs.OneStatement.{says_unique, fault_unique, says_or_fault}
use Rattle.edl_list.specs.declared.list.Event.{Event}
use Rattle.edl_list.specs.declared.list.EventList.{EventList}
use Rattle.edl_text.specs.declared.faults.EdlFault.{EdlFault}
use Rattle.edl_text.specs.declared.faults.EdlFault.TheVariants.{Form, Timecode, Order, Unequal, Key, Split, Overlap, Reverse, Large, Memory}
use Rattle.edl_text.specs.declared.reader.EdlReader.{EdlReader}
use Rattle.edl_text.specs.Past.{line_behind}
use Rattle.edl_text.specs.Lines.{IsSound, IsFaulty, by_form, by_rule, AreSound, HasFirstFault, fault_behind, named}
use Rattle.edl_text.specs.Overlaps.{IsOverlap}
use Rattle.edl_text.specs.Late.{IsUnequalAt, IsLateAt, AreFineBefore, IsLateFault}
use Rattle.edl_text.specs.Lists.{events_in, IsList, IsEarlyFault, IsFault}
use Rattle.limits.specs.Limits.{most_bytes}
use Rattle.edl_text.specs.Reader.{HasRead}
use Rattle.edl_text.proofs.OneList.{one_past}
use Rattle.edl_text.proofs.Reading.{fault_more, all_taken}

both_ways : (o : Option EdlFault) (f : EdlFault) → o ≡ None → o ≡ Some f → ⊥
both_ways o f e g = let h : None ≡ Some f = sym e ∙ g in cc h

-- a line that has a fault isn't sound
faulty_sound : (rate : Rate) (past : List Statement) (line : List ℕ) (fault : EdlFault) (s : Statement) → IsFaulty rate past line fault → IsSound rate past line s → ⊥
faulty_sound rate past line fault s (by_form why has e) k = says_or_fault line s why k.says has
faulty_sound rate past line fault s (by_rule t says e) k =
    both_ways (fault_behind rate past s) fault k.sound (ap (fault_behind rate past) (says_unique line s t k.says says) ∙ e)

one_some : (f g : EdlFault) (o : Option EdlFault) → o ≡ Some f → o ≡ Some g → f ≡ g
one_some f g o e h = let k : Some f ≡ Some g = sym e ∙ h in cc k

-- a line has one fault at most
faulty_once : (rate : Rate) (past : List Statement) (line : List ℕ) (f g : EdlFault) → IsFaulty rate past line f → IsFaulty rate past line g → f ≡ g
faulty_once rate past line f g (by_form why has e) (by_form other hus h) = e ∙ ap (λ w. named w (line_behind past)) (fault_unique line why other has hus) ∙ sym h
faulty_once rate past line f g (by_form why has e) (by_rule t says h) = absurd (says_or_fault line t why says has)
faulty_once rate past line f g (by_rule t says e) (by_form why has h) = absurd (says_or_fault line t why says has)
faulty_once rate past line f g (by_rule s says e) (by_rule t sais h) = one_some f g (fault_behind rate past s) e (ap (fault_behind rate past) (says_unique line s t says sais) ∙ h)

-- so have lines
pub sound_or_fault : (rate : Rate) (p q : List Statement) (lines : List (List ℕ)) (fault : EdlFault) → AreSound rate p lines q → HasFirstFault rate p lines fault → ⊥
sound_or_fault rate p q [] fault h k = k
sound_or_fault rate p q (line ∷ lines) fault h (inl k) = faulty_sound rate p line fault h.0 k h.1
sound_or_fault rate p q (line ∷ lines) fault h (inr k) =
    sound_or_fault rate (h.0 ∷ p) q lines fault h.2 (subst (λ s. HasFirstFault rate (s ∷ p) lines fault) (says_unique line k.0 h.0 k.1.says h.1.says) k.2)

pub fault_once : (rate : Rate) (p : List Statement) (lines : List (List ℕ)) (f g : EdlFault) → HasFirstFault rate p lines f → HasFirstFault rate p lines g → f ≡ g
fault_once rate p [] f g h k = absurd h
fault_once rate p (line ∷ lines) f g (inl h) (inl k) = faulty_once rate p line f g h k
fault_once rate p (line ∷ lines) f g (inl h) (inr k) = absurd (faulty_sound rate p line f k.0 h k.1)
fault_once rate p (line ∷ lines) f g (inr h) (inl k) = absurd (faulty_sound rate p line g h.0 k h.1)
fault_once rate p (line ∷ lines) f g (inr h) (inr k) =
    fault_once rate (h.0 ∷ p) lines f g h.2 (subst (λ s. HasFirstFault rate (s ∷ p) lines g) (says_unique line k.0 h.0 k.1.says h.1.says) k.2)

-- the two kinds of faults of events
record IsEqualLate (events : List Event) (f : EdlFault) : Type 0 where
  n : ℕ
  is : f ≡ Unequal n
  here : IsUnequalAt events n
  before : AreFineBefore events n

record IsOverLate (events : List Event) (f : EdlFault) : Type 0 where
  n : ℕ
  is : f ≡ Overlap n
  here : IsOverlap events n
  not : IsUnequalAt events n → ⊥
  before : AreFineBefore events n

either_late : (events : List Event) (f : EdlFault) → IsLateFault events f → IsEqualLate events f ⊎ IsOverLate events f
either_late events (Unequal n) h = inl (record { n = n; is = refl; here = h.0; before = h.1 })
either_late events (Overlap n) h = inr (record { n = n; is = refl; here = h.0; not = h.1; before = h.2 })
either_late events (Form n) h = absurd h
either_late events (Timecode n) h = absurd h
either_late events (Order n) h = absurd h
either_late events (Key n) h = absurd h
either_late events (Split n) h = absurd h
either_late events (Reverse n) h = absurd h
either_late events Large h = absurd h
either_late events Memory h = absurd h

same_line : (events : List Event) (m n : ℕ) → IsLateAt events m → IsLateAt events n → AreFineBefore events m → AreFineBefore events n → m ≡ n
same_line events m n a b before after =
    let x : m < n → ⊥ = λ h. after m h a in
    let y : n < m → ⊥ = λ h. before n h b in
    omega (arith, x, y)

late_by : (events : List Event) (f g : EdlFault) → IsEqualLate events f ⊎ IsOverLate events f → IsEqualLate events g ⊎ IsOverLate events g → f ≡ g
late_by events f g (inl a) (inl b) = a.is ∙ ap Unequal (same_line events a.n b.n (inl a.here) (inl b.here) a.before b.before) ∙ sym b.is
late_by events f g (inr a) (inr b) = a.is ∙ ap Overlap (same_line events a.n b.n (inr a.here) (inr b.here) a.before b.before) ∙ sym b.is
late_by events f g (inl a) (inr b) = absurd (b.not (subst (IsUnequalAt events) (same_line events a.n b.n (inl a.here) (inr b.here) a.before b.before) a.here))
late_by events f g (inr a) (inl b) = absurd (a.not (subst (IsUnequalAt events) (same_line events b.n a.n (inl b.here) (inr a.here) b.before a.before) b.here))

late_once : (events : List Event) (f g : EdlFault) → IsLateFault events f → IsLateFault events g → f ≡ g
late_once events f g h k = late_by events f g (either_late events f h) (either_late events g k)

-- a fault of bytes that aren't too many, where it shows early
early_small : (rate : Rate) (bytes : List ℕ) (fault : EdlFault) → length bytes ≤ most_bytes → IsEarlyFault rate bytes fault → HasFirstFault rate [] (lines_of bytes) fault
early_small rate bytes fault small (inl h) =
    fault_more rate [] (ended_lines bytes) (last_line bytes ∷ []) fault (subst (λ l. HasFirstFault rate [] (ended_lines l) fault) (all_taken most_bytes bytes small) h)
early_small rate bytes fault small (inr h) = let large = h.1.large in absurd (omega arith)

early_once : (rate : Rate) (bytes : List ℕ) (f g : EdlFault) → IsEarlyFault rate bytes f → IsEarlyFault rate bytes g → f ≡ g
early_once rate bytes f g (inl h) (inl k) = fault_once rate [] (ended_lines (take most_bytes bytes)) f g h k
early_once rate bytes f g (inl h) (inr k) = absurd (sound_or_fault rate [] k.1.past (ended_lines (take most_bytes bytes)) f k.1.sound h)
early_once rate bytes f g (inr h) (inl k) = absurd (sound_or_fault rate [] h.1.past (ended_lines (take most_bytes bytes)) g h.1.sound k)
early_once rate bytes f g (inr h) (inr k) = h.0 ∙ sym k.0

which_once : (rate : Rate) (bytes : List ℕ) (f g : EdlFault) → HasFirstFault rate [] (lines_of bytes) f ⊎ ((past : List Statement) × AreSound rate [] (lines_of bytes) past × IsLateFault (events_in rate past) f)
    → HasFirstFault rate [] (lines_of bytes) g ⊎ ((past : List Statement) × AreSound rate [] (lines_of bytes) past × IsLateFault (events_in rate past) g) → f ≡ g
which_once rate bytes f g (inl h) (inl k) = fault_once rate [] (lines_of bytes) f g h k
which_once rate bytes f g (inl h) (inr k) = absurd (sound_or_fault rate [] k.0 (lines_of bytes) f k.1 h)
which_once rate bytes f g (inr h) (inl k) = absurd (sound_or_fault rate [] h.0 (lines_of bytes) g h.1 k)
which_once rate bytes f g (inr h) (inr k) =
    late_once (events_in rate h.0) f g h.2 (subst (λ past. IsLateFault (events_in rate past) g) (one_past rate [] (lines_of bytes) k.0 h.0 k.1 h.1) k.2)

-- bytes have one fault at most
pub one_fault : (rate : Rate) (bytes : List ℕ) (f g : EdlFault) → IsFault rate bytes f → IsFault rate bytes g → f ≡ g
one_fault rate bytes f g (inl h) (inl k) = early_once rate bytes f g h k
one_fault rate bytes f g (inl h) (inr k) = which_once rate bytes f g (inl (early_small rate bytes f k.small h)) k.which
one_fault rate bytes f g (inr h) (inl k) = which_once rate bytes f g h.which (inl (early_small rate bytes g h.small k))
one_fault rate bytes f g (inr h) (inr k) = which_once rate bytes f g h.which k.which

late_some : (events : List Event) (f : EdlFault) → IsEqualLate events f ⊎ IsOverLate events f → ((n : ℕ) → IsLateAt events n → ⊥) → ⊥
late_some events f (inl a) fine = fine a.n (inl a.here)
late_some events f (inr a) fine = fine a.n (inr a.here)

list_which : (rate : Rate) (bytes : List ℕ) (list : EventList) (f : EdlFault) → IsList rate bytes list
    → HasFirstFault rate [] (lines_of bytes) f ⊎ ((past : List Statement) × AreSound rate [] (lines_of bytes) past × IsLateFault (events_in rate past) f) → ⊥
list_which rate bytes list f l (inl h) = sound_or_fault rate [] l.past (lines_of bytes) f l.sound h
list_which rate bytes list f l (inr h) =
    let late = subst (λ past. IsLateFault (events_in rate past) f) (one_past rate [] (lines_of bytes) h.0 l.past h.1 l.sound) h.2 in
    late_some (events_in rate l.past) f (either_late (events_in rate l.past) f late) l.fine

-- and none where they are a list
pub list_or_fault : (rate : Rate) (bytes : List ℕ) (list : EventList) (fault : EdlFault) → IsList rate bytes list → IsFault rate bytes fault → ⊥
list_or_fault rate bytes list fault l (inl h) = list_which rate bytes list fault l (inl (early_small rate bytes fault l.small h))
list_or_fault rate bytes list fault l (inr h) = list_which rate bytes list fault l h.which

-- a reader that was fed bytes without a fault: none shows in them
pub none_early : (rate : Rate) (bytes : List ℕ) (reader : EdlReader) (fault : EdlFault) → HasRead rate bytes reader → length bytes ≤ most_bytes → IsEarlyFault rate bytes fault → ⊥
none_early rate bytes reader fault h small (inl k) =
    sound_or_fault rate [] h.past (ended_lines bytes) fault h.ended (subst (λ l. HasFirstFault rate [] (ended_lines l) fault) (all_taken most_bytes bytes small) k)
none_early rate bytes reader fault h small (inr k) = let large = k.1.large in absurd (omega arith)
