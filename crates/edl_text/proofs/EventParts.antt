-- The fields of a line are one event at most.
use Rattle.std.proofs.Common.{◌≡◌, ◌≢◌, ◌⊎◌, inl, inr, ℕ, List, [], ◌∷◌, ◌++◌, Some, codes, length, take, drop, refl, sym, ap, subst, ◌∙◌, length-append, arith}
use Rattle.std.specs.declared.option.Option.{Option}
use Rattle.std.proofs.Math.Seq.{drop-append_seam, take-append_seam}
use Rattle.std.proofs.lemmas.List.{append_cancel_left}
use Rattle.edl_text.specs.Statements.{EventLine, Reel, labels_of}
use Rattle.edl_text.specs.Numbers.{IsNumber, IsReel, event_digits, duration_digits, code_digits}
use Rattle.edl_text.specs.EventForms.{AreChannels, IsLasting, IsWipeCode, IsWipe, IsKind, IsEvent}
use Rattle.edl_text.specs.Saying.{first_of}
use Rattle.edl_text.specs.declared.statement_types.Channels.{Channels}
use Rattle.edl_text.specs.declared.statement_types.Kind.{Kind}
use Rattle.edl_text.specs.declared.statement_types.Kind.TheVariants.{Cut, Dissolve, Wipe}
use Rattle.edl_text.proofs.Figures.{number_unique, reel_unique}
use Rattle.edl_text.proofs.Heads.{lead}

-- two lists with ends of one length
abbrev SameParts : {X : Type 0} → List X → List X → List X → List X → Type 0
SameParts xs us ys vs = (xs ≡ ys) × (us ≡ vs)

same_parts : {X : Type 0} (xs us ys vs : List X) → length us ≡ length vs → xs ++ us ≡ ys ++ vs → SameParts xs us ys vs
same_parts xs us ys vs n e =
    let m : length xs ≡ length ys = omega (arith, n, ap length e, length-append xs us, length-append ys vs) in (
      sym (take-append_seam xs us) ∙ ap (λ l. take (length xs) l) e ∙ ap (λ k. take k (ys ++ vs)) m ∙ take-append_seam ys vs,
      sym (drop-append_seam xs us) ∙ ap (λ l. drop (length xs) l) e ∙ ap (λ k. drop k (ys ++ vs)) m ∙ drop-append_seam ys vs,
    )

-- what the parts of the fields of an event say
pub record Parts (number reel channels : List ℕ) (kind labels : List (List ℕ)) (event : EventLine) : Type 0 where
  pub is_number : IsNumber event_digits number event.number
  pub is_reel : IsReel reel event.reel
  pub are_channels : AreChannels channels event.channels
  pub is_kind : IsKind kind event.kind
  pub are_labels : labels ≡ labels_of event

pub parts : (number reel channels : List ℕ) (kind labels : List (List ℕ)) (event : EventLine) → length labels ≡ 4 → IsEvent (number ∷ reel ∷ channels ∷ (kind ++ labels)) event
    → Parts number reel channels kind labels event
parts number reel channels kind labels event four p =
    let n : p.number ≡ number = cc (p.are) in
    let r : p.reel ≡ reel = cc (p.are) in
    let c : p.channels ≡ channels = cc (p.are) in
    let e : kind ++ labels ≡ p.kind ++ labels_of event = cc (p.are) in
    let s = same_parts kind labels p.kind (labels_of event) four e in
    record {
      is_number = subst (λ x. IsNumber event_digits x event.number) n p.is_number;
      is_reel = subst (λ x. IsReel x event.reel) r p.is_reel;
      are_channels = subst (λ x. AreChannels x event.channels) c p.are_channels;
      is_kind = subst (λ x. IsKind x event.kind) (sym s.0) p.is_kind;
      are_labels = s.1;
    }

-- fields with no number, no reel, no channels or no type are no event
pub no_number : (number reel channels : List ℕ) (kind labels : List (List ℕ)) → length labels ≡ 4 → ((n : ℕ) → IsNumber event_digits number n → ⊥)
    → (event : EventLine) → IsEvent (number ∷ reel ∷ channels ∷ (kind ++ labels)) event → ⊥
no_number number reel channels kind labels four none event p = none event.number (parts number reel channels kind labels event four p).is_number

pub no_reel : (number reel channels : List ℕ) (kind labels : List (List ℕ)) → length labels ≡ 4 → ((r : Reel) → IsReel reel r → ⊥)
    → (event : EventLine) → IsEvent (number ∷ reel ∷ channels ∷ (kind ++ labels)) event → ⊥
no_reel number reel channels kind labels four none event p = none event.reel (parts number reel channels kind labels event four p).is_reel

pub no_channels : (number reel channels : List ℕ) (kind labels : List (List ℕ)) → length labels ≡ 4 → ((c : Channels) → AreChannels channels c → ⊥)
    → (event : EventLine) → IsEvent (number ∷ reel ∷ channels ∷ (kind ++ labels)) event → ⊥
no_channels number reel channels kind labels four none event p = none event.channels (parts number reel channels kind labels event four p).are_channels

pub no_kind : (number reel channels : List ℕ) (kind labels : List (List ℕ)) → length labels ≡ 4 → ((k : Kind) → IsKind kind k → ⊥)
    → (event : EventLine) → IsEvent (number ∷ reel ∷ channels ∷ (kind ++ labels)) event → ⊥
no_kind number reel channels kind labels four none event p = none event.kind (parts number reel channels kind labels event four p).is_kind

kind_length : (fields : List (List ℕ)) (kind : Kind) → IsKind fields kind → (length fields ≡ 1) ⊎ (length fields ≡ 2)
kind_length fields Cut p = inl (ap length p)
kind_length fields (Dissolve frames) p = inr (ap length p.are)
kind_length fields (Wipe code frames) p = inr (ap length p.lasts.are)

-- an event has eight or nine fields
pub no_length : (fields : List (List ℕ)) → (length fields ≢ 8) × (length fields ≢ 9) → (event : EventLine) → IsEvent fields event → ⊥
no_length fields other event p = by (kind_length p.kind event.kind p.is_kind)
  where
    by : (length p.kind ≡ 1) ⊎ (length p.kind ≡ 2) → ⊥
    by (inl n) = other.0 (ap length p.are ∙ omega (arith, n, length-append p.kind (labels_of event)))
    by (inr n) = other.1 (ap length p.are ∙ omega (arith, n, length-append p.kind (labels_of event)))

lasting_unique : (fields : List (List ℕ)) (kind other : List ℕ) (a b : ℕ) → IsLasting fields kind a → IsLasting fields other b → (kind ≡ other) × (a ≡ b)
lasting_unique fields kind other a b p q =
    let k : kind ≡ other = cc (p.are, q.are) in
    let d : p.duration ≡ q.duration = cc (p.are, q.are) in
    (k, number_unique duration_digits q.duration a b (subst (λ x. IsNumber duration_digits x a) d p.is_duration) q.is_duration)

code_unique : (kind : List ℕ) (a b : ℕ) → IsWipeCode kind a → IsWipeCode kind b → a ≡ b
code_unique kind a b p q =
    let d : p.digits ≡ q.digits = append_cancel_left (codes "W") p.digits q.digits (sym p.is ∙ q.is) in
    number_unique code_digits q.digits a b (subst (λ x. IsNumber code_digits x a) d p.is_code) q.is_code

wipe_unique : (fields : List (List ℕ)) (a b c d : ℕ) → IsWipe fields a c → IsWipe fields b d → Wipe a c ≡ Wipe b d
wipe_unique fields a b c d p q =
    let l = lasting_unique fields p.kind q.kind c d p.lasts q.lasts in
    let e : a ≡ b = code_unique q.kind a b (subst (λ k. IsWipeCode k a) l.0 p.is_kind) q.is_kind in
    ap (λ x. Wipe x c) e ∙ ap (Wipe b) l.1

dissolve_or_wipe : (fields : List (List ℕ)) (a b c : ℕ) → IsLasting fields (codes "D") a → IsWipe fields b c → ⊥
dissolve_or_wipe fields a b c p q =
    let l = lasting_unique fields (codes "D") q.kind a c p q.lasts in
    let e : 68 ≡ 87 = ap lead (l.0 ∙ q.is_kind.is) in
    omega (arith, e)

one_or_two : (fields : List (List ℕ)) (kind : List ℕ) (a : ℕ) → fields ≡ codes "C" ∷ [] → IsLasting fields kind a → ⊥
one_or_two fields kind a p q = omega (arith, ap length p, ap length q.are)

-- fields are one type
pub kind_unique : (fields : List (List ℕ)) (a b : Kind) → IsKind fields a → IsKind fields b → a ≡ b
kind_unique fields Cut Cut p q = refl
kind_unique fields Cut (Dissolve b) p q = absurd (one_or_two fields (codes "D") b p q)
kind_unique fields Cut (Wipe b d) p q = absurd (one_or_two fields q.kind d p q.lasts)
kind_unique fields (Dissolve a) Cut p q = absurd (one_or_two fields (codes "D") a q p)
kind_unique fields (Dissolve a) (Dissolve b) p q = ap Dissolve (lasting_unique fields (codes "D") (codes "D") a b p q).1
kind_unique fields (Dissolve a) (Wipe b d) p q = absurd (dissolve_or_wipe fields a b d p q)
kind_unique fields (Wipe a c) Cut p q = absurd (one_or_two fields p.kind c q p.lasts)
kind_unique fields (Wipe a c) (Dissolve b) p q = absurd (dissolve_or_wipe fields b a c q p)
kind_unique fields (Wipe a c) (Wipe b d) p q = wipe_unique fields a b c d p q

-- a type and its duration are none where the duration is no number
pub no_duration : (kind duration : List ℕ) → ((n : ℕ) → IsNumber duration_digits duration n → ⊥) → (k : Kind) → IsKind (kind ∷ duration ∷ []) k → ⊥
no_duration kind duration none Cut p = let e : 2 ≡ 1 = ap length p in omega (arith, e)
no_duration kind duration none (Dissolve frames) p = let d : p.duration ≡ duration = cc (p.are) in none frames (subst (λ x. IsNumber duration_digits x frames) d p.is_duration)
no_duration kind duration none (Wipe code frames) p =
    let d : p.lasts.duration ≡ duration = cc (p.lasts.are) in none frames (subst (λ x. IsNumber duration_digits x frames) d p.lasts.is_duration)

-- neither where it is no dissolve and has no code
pub no_code : (kind duration : List ℕ) → (kind ≡ codes "D" → ⊥) → ((code : ℕ) → IsWipeCode kind code → ⊥) → (k : Kind) → IsKind (kind ∷ duration ∷ []) k → ⊥
no_code kind duration other none Cut p = let e : 2 ≡ 1 = ap length p in omega (arith, e)
no_code kind duration other none (Dissolve frames) p = other (cc (p.are))
no_code kind duration other none (Wipe code frames) p = let e : p.kind ≡ kind = cc (p.lasts.are) in none code (subst (λ x. IsWipeCode x code) e p.is_kind)

pub dissolve_is : (kind duration : List ℕ) (frames : ℕ) → kind ≡ codes "D" → IsNumber duration_digits duration frames → IsKind (kind ∷ duration ∷ []) (Dissolve frames)
dissolve_is kind duration frames e p = record { duration = duration; are = ap (λ k. k ∷ duration ∷ []) e; is_duration = p }

pub wipe_is : (kind duration : List ℕ) (code frames : ℕ) → IsWipeCode kind code → IsNumber duration_digits duration frames → IsKind (kind ∷ duration ∷ []) (Wipe code frames)
wipe_is kind duration code frames c p = record { kind = kind; is_kind = c; lasts = record { duration = duration; are = refl; is_duration = p } }

pub no_w : (kind : List ℕ) → ((rest : List ℕ) → kind ≡ codes "W" ++ rest → ⊥) → (code : ℕ) → IsWipeCode kind code → ⊥
no_w kind none code p = none p.digits p.is

digits_same : (kind digits : List ℕ) → kind ≡ codes "W" ++ digits → (code : ℕ) (p : IsWipeCode kind code) → p.digits ≡ digits
digits_same kind digits e code p = append_cancel_left (codes "W") p.digits digits (sym p.is ∙ e)

pub no_digits : (kind digits : List ℕ) → kind ≡ codes "W" ++ digits → (length digits ≡ code_digits → ⊥) → (code : ℕ) → IsWipeCode kind code → ⊥
no_digits kind digits e none code p = none (ap length (sym (digits_same kind digits e code p)) ∙ p.all)

pub no_code_number : (kind digits : List ℕ) → kind ≡ codes "W" ++ digits → ((n : ℕ) → IsNumber code_digits digits n → ⊥) → (code : ℕ) → IsWipeCode kind code → ⊥
no_code_number kind digits e none code p = none code (subst (λ x. IsNumber code_digits x code) (digits_same kind digits e code p) p.is_code)

pub code_is : (kind digits : List ℕ) (code : ℕ) → kind ≡ codes "W" ++ digits → length digits ≡ code_digits → IsNumber code_digits digits code → IsWipeCode kind code
code_is kind digits code e all p = record { digits = digits; is = e; all = all; is_code = p }

some_same : (o : Option Channels) (a b : Channels) → o ≡ Some a → o ≡ Some b → a ≡ b
some_same o a b p q = cc (p, q)

abbrev made : ℕ → Reel → Channels → Kind → List ℕ → List ℕ → List ℕ → List ℕ → EventLine
made number reel channels kind source_in source_out record_in record_out = record {
  number = number;
  reel = reel;
  channels = channels;
  kind = kind;
  source_in = source_in;
  source_out = source_out;
  record_in = record_in;
  record_out = record_out;
}

same_event : (a b : EventLine) → a.number ≡ b.number → a.reel ≡ b.reel → a.channels ≡ b.channels → a.kind ≡ b.kind → a.source_in ≡ b.source_in → a.source_out ≡ b.source_out → a.record_in ≡ b.record_in
    → a.record_out ≡ b.record_out → a ≡ b
same_event a b n r c k e f g h =
    ap (λ x. made x a.reel a.channels a.kind a.source_in a.source_out a.record_in a.record_out) n
    ∙ ap (λ x. made b.number x a.channels a.kind a.source_in a.source_out a.record_in a.record_out) r
    ∙ ap (λ x. made b.number b.reel x a.kind a.source_in a.source_out a.record_in a.record_out) c
    ∙ ap (λ x. made b.number b.reel b.channels x a.source_in a.source_out a.record_in a.record_out) k
    ∙ ap (λ x. made b.number b.reel b.channels b.kind x a.source_out a.record_in a.record_out) e
    ∙ ap (λ x. made b.number b.reel b.channels b.kind b.source_in x a.record_in a.record_out) f
    ∙ ap (λ x. made b.number b.reel b.channels b.kind b.source_in b.source_out x a.record_out) g
    ∙ ap (λ x. made b.number b.reel b.channels b.kind b.source_in b.source_out b.record_in x) h

-- fields are one event at most
pub event_unique : (fields : List (List ℕ)) (a b : EventLine) → IsEvent fields a → IsEvent fields b → a ≡ b
event_unique fields a b p q =
    let s = parts q.number q.reel q.channels q.kind (labels_of b) a refl (subst (λ f. IsEvent f a) q.are p) in
    same_event a b (number_unique event_digits q.number a.number b.number s.is_number q.is_number) (reel_unique q.reel a.reel b.reel s.is_reel q.is_reel)
    (some_same _ a.channels b.channels s.are_channels q.are_channels) (kind_unique q.kind a.kind b.kind s.is_kind q.is_kind) (cc (s.are_labels)) (cc (s.are_labels)) (cc (s.are_labels)) (cc (s.are_labels))

-- the type of an event doesn't begin with `K`
pub kind_lead : (kind more : List (List ℕ)) (k : Kind) → IsKind kind k → lead (first_of (kind ++ more)) ≢ 75
kind_lead kind more Cut p = λ e. let f : 67 ≡ 75 = sym (ap (λ l. lead (first_of (l ++ more))) p) ∙ e in omega (arith, f)
kind_lead kind more (Dissolve frames) p = λ e. let f : 68 ≡ 75 = sym (ap (λ l. lead (first_of (l ++ more))) p.are) ∙ e in omega (arith, f)
kind_lead kind more (Wipe code frames) p = λ e. let f : 87 ≡ 75 = sym (ap (λ l. lead (first_of (l ++ more))) p.lasts.are ∙ ap lead p.is_kind.is) ∙ e in omega (arith, f)
