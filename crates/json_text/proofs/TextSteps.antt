-- One byte inside a string: what finishes the string before it, and after it.
use Rattle.std.proofs.Common.{◌≡◌, ℕ, ◌+◌, ◌*◌, ◌<◌, ◌≤◌, List, [], ◌∷◌, ◌++◌, Option, Some, None, Ok, Err, Bool, true, false, refl, sym, ap, ◌∙◌, append_assoc, append-nil, arith, cond, subst, ◌⊎◌, inl, inr, ◌&&◌}
use Rattle.std.proofs.lemmas.Bool.Decides.{nat_tests}
use Rattle.std.proofs.lemmas.Str.{encode_ascii, is_utf8-from_IsUtf8}
use Rattle.std.specs.Prelude.{◌≢◌, ◌==◌, nat_lt}
use Rattle.std.specs.Char.{IsScalar, digit_value, encode_utf8}
use Rattle.std.specs.Int.{is_in_range}
use Rattle.std.specs.Str.{IsUtf8, is_utf8}
use lib.Utf8.{scalar, low_scalar, scalar_cases}
use Rattle.json_value.specs.declared.Json.{Json}
use Rattle.json_text.specs.Grammar.{escaped, IsDigit16, of_digits16, FourDigits, IsHigh, IsLow, joined, Chars, close, plain as plain_of, short as short_of, code as code_of, pair as pair_of}
use Rattle.json_text.specs.State.Machine.{StringPlace, plain, escape, code, high, slash, low, tail, text, state, tails, refused, refused_by, text_ends, text_goes, wide, in_plain, wanted, escape_goes, in_escape, paired, coded, digit_of_code, in_code, digit_of_low, in_low, behind_tail, in_tail, in_text}
use Rattle.json_text.specs.declared.state.Stop.TheVariants.{Syntax, Utf8}
use Rattle.json_text.specs.declared.state.Digits.{Digits}
use Rattle.json_text.specs.declared.state.Digits.TheVariants.{Zero as NoDigit, One, Two, Three}
use Rattle.json_text.specs.declared.state.Role.{Role}
use Rattle.json_text.specs.declared.state.Role.TheVariants.{Name, Content}
use Rattle.json_text.specs.State.Opened.{Unclosed}
use Rattle.json_text.specs.State.Opened.{list as LevelOfList, map as LevelOfMap}
use Rattle.json_text.proofs.Basics.{head_same, tail_same, is_byte, is_other, other_is, is_below, is_least, below_is, least_is, same_is}
use Rattle.json_text.proofs.Utf8Lemmas.{Within, IsWide, wide_of, of_wide, order}
use Rattle.json_text.proofs.Finishes.{IsHalf, Ends, OfText, Goes, raw, IsPart}

abbrev pub Same : Type 0 → Type 0 → Type 0
Same A B = (A → B) × (B → A)

-- one byte of the text
one_more : (t : List ℕ) (b : ℕ) (more : List ℕ) → t ++ (b ∷ more) ≡ (t ++ (b ∷ [])) ++ more
one_more t b more = sym (append_assoc t (b ∷ []) more)

-- what ends at a text ends at the same text
along : (limit : ℕ) (levels : List Unclosed) (role : Role) (rest : List ℕ) (v : Json) {s t : List ℕ} → s ≡ t → Ends limit levels role s rest v → Ends limit levels role t rest v
along limit levels role rest v e h = subst (λ x. Ends limit levels role x rest v) e h

-- a character's first byte
pub byte_of : (c : ℕ) → c < 128 → encode_utf8 c ≡ c ∷ []
byte_of c h = encode_ascii c h

-- ---- the end of a string
ends_to : (limit : ℕ) (levels : List Unclosed) (role : Role) (t rest : List ℕ) (v : Json) → is_utf8 t ≡ true → Ends limit levels role t rest v → Goes limit (text_ends levels role t) rest v
ends_to limit [] Content t rest v u h = rw u h
ends_to limit (LevelOfList xs ∷ ls) Content t rest v u h = rw u h
ends_to limit (LevelOfMap ps name ∷ ls) Content t rest v u h = rw u h
ends_to limit [] Name t rest v u h = absurd h
ends_to limit (LevelOfList xs ∷ ls) Name t rest v u h = absurd h
ends_to limit (LevelOfMap ps name ∷ ls) Name t rest v u h = rw u h

ends_from : (limit : ℕ) (levels : List Unclosed) (role : Role) (t rest : List ℕ) (v : Json) → is_utf8 t ≡ true → Goes limit (text_ends levels role t) rest v → Ends limit levels role t rest v
ends_from limit [] Content t rest v u h = rw u at h
ends_from limit (LevelOfList xs ∷ ls) Content t rest v u h = rw u at h
ends_from limit (LevelOfMap ps name ∷ ls) Content t rest v u h = rw u at h
ends_from limit [] Name t rest v u h = absurd h
ends_from limit (LevelOfList xs ∷ ls) Name t rest v u h = absurd h
ends_from limit (LevelOfMap ps name ∷ ls) Name t rest v u h = rw u at h

-- ---- between characters
module _ (limit : ℕ) (levels : List Unclosed) (role : Role) (t : List ℕ) (v : Json) where
  plain_ascii : (b : ℕ) (c : List ℕ) (more rest : List ℕ) (d : ℕ) (m after : List ℕ) → d < 128 → 32 ≤ d → d ≢ 34 → d ≢ 92 → b ∷ c ≡ d ∷ m → more ≡ d ∷ after → Chars m after rest
      → Ends limit levels role (t ++ more) rest v → Goes limit (in_plain levels role t b) c v
  plain_ascii b c more rest d m after under least nq ns e f chars h =
      let is : b ≡ d = head_same e in
      let q : (b == 34) ≡ false = other_is b 34 (λ k. nq (sym is ∙ k)) in
      let s : (b == 92) ≡ false = other_is b 92 (λ k. ns (sym is ∙ k)) in
      let l : nat_lt b 32 ≡ false = least_is b 32 (omega arith) in
      let u : nat_lt b 128 ≡ true = below_is b 128 (omega arith) in
      rw (q, s, l, u) (
        after,
        rest,
        subst (λ x. Chars x after rest) (sym (tail_same e)) chars,
        along limit levels role rest v (ap (λ x. t ++ x) f ∙ ap (λ x. t ++ (x ∷ after)) (sym is) ∙ one_more t b after) h,
      )

  plain_wide : (b : ℕ) (c : List ℕ) (more rest : List ℕ) (d : ℕ) (m after : List ℕ) → IsWide d → b ∷ c ≡ encode_utf8 d ++ m → more ≡ encode_utf8 d ++ after → Chars m after rest
      → Ends limit levels role (t ++ more) rest v → Goes limit (in_plain levels role t b) c v
  plain_wide b c more rest d m after w e f chars h =
      let g : b ∷ c ≡ w.lead ∷ (w.bytes ++ m) = e ∙ ap (λ x. x ++ m) w.is in
      let is : b ≡ w.lead = head_same g in
      let hi : 128 ≤ w.lead = w.high in
      let q : (b == 34) ≡ false = other_is b 34 (λ k. absurd (omega (arith, is, k, hi))) in
      let s : (b == 92) ≡ false = other_is b 92 (λ k. absurd (omega (arith, is, k, hi))) in
      let l : nat_lt b 32 ≡ false = least_is b 32 (omega (arith, is, hi)) in
      let u : nat_lt b 128 ≡ false = least_is b 128 (omega (arith, is, hi)) in
      let r : tails b ≡ w.first ∷ w.others = ap tails is ∙ w.ranges in
      rw (q, s, l, u, r) (
        w.bytes ++ after,
        rest,
        record { own = w.bytes; mid = m; after = after; within = w.within; begins = tail_same g; text = refl; chars = chars },
        along limit levels role rest v (ap (λ x. t ++ x) (f ∙ ap (λ x. x ++ after) w.is) ∙ ap (λ x. t ++ (x ∷ (w.bytes ++ after))) (sym is) ∙ one_more t b (w.bytes ++ after)) h,
      )

  plain_to : IsUtf8 t → (b : ℕ) (c : List ℕ) (more rest : List ℕ) → Chars (b ∷ c) more rest → Ends limit levels role (t ++ more) rest v → Goes limit (in_plain levels role t b) c v
  plain_to u b c more rest (close bytes x r e f) h =
      let q : (b == 34) ≡ true = same_is b 34 (head_same e) in
      rw q (subst (λ y. Goes limit (text_ends levels role t) y v) (sym (tail_same e)) (ends_to limit levels role t rest v (is_utf8-from_IsUtf8 t u) (along limit levels role rest v (ap (λ x. t ++ x) f ∙ append-nil t) h)))
  plain_to u b c more rest (plain_of bytes x r d m after scalar least nq ns e f chars) h = by (order d 128)
    where
      by : (d < 128) ⊎ (128 ≤ d) → Goes limit (in_plain levels role t b) c v
      by (inl k) = plain_ascii b c more rest d m after k least nq ns (e ∙ ap (λ y. y ++ m) (byte_of d k)) (f ∙ ap (λ y. y ++ after) (byte_of d k)) chars h
      by (inr k) = plain_wide b c more rest d m after (wide_of d scalar k) e f chars h
  plain_to u b c more rest (short_of bytes x r d d' m after e f g chars) h =
      let q : (b == 34) ≡ false = other_is b 34 (λ k. let n = head_same e in absurd (omega (arith, n, k))) in
      let s : (b == 92) ≡ true = same_is b 92 (head_same e) in
      rw (q, s) (more, rest, short_of (92 ∷ c) more rest d d' m after (ap (λ y. 92 ∷ y) (tail_same e)) f g chars, h)
  plain_to u b c more rest (code_of bytes x r d m mid after e f g k chars) h =
      let q : (b == 34) ≡ false = other_is b 34 (λ k'. let n = head_same e in absurd (omega (arith, n, k'))) in
      let s : (b == 92) ≡ true = same_is b 92 (head_same e) in
      rw (q, s) (more, rest, code_of (92 ∷ c) more rest d m mid after (ap (λ y. 92 ∷ y) (tail_same e)) f g k chars, h)
  plain_to u b c more rest (pair_of bytes x r hi lo m mid next end after e f g k l n o chars) h =
      let q : (b == 34) ≡ false = other_is b 34 (λ k'. let n' = head_same e in absurd (omega (arith, n', k'))) in
      let s : (b == 92) ≡ true = same_is b 92 (head_same e) in
      rw (q, s) (more, rest, pair_of (92 ∷ c) more rest hi lo m mid next end after (ap (λ y. 92 ∷ y) (tail_same e)) f g k l n o chars, h)

  -- and back
  wide_from : (b : ℕ) (c : List ℕ) (rs : List (ℕ × ℕ)) → tails b ≡ rs → Goes limit (wide levels role (t ++ (b ∷ [])) rs) c v → OfText limit levels role t plain (b ∷ c) v
  wide_from b c [] e h = absurd h
  wide_from b c (r ∷ rs) e h =
      let i = h.2 in
      let w = of_wide b r rs i.own e i.within in
      let above : 128 ≤ w.0 = w.2 in (
        b ∷ h.0,
        h.1,
        plain_of (b ∷ c) (b ∷ h.0) h.1 w.0 i.mid i.after w.1 (omega arith) (λ k. absurd (omega arith)) (λ k. absurd (omega arith))
            (ap (λ y. b ∷ y) i.begins ∙ ap (λ y. y ++ i.mid) (sym w.3)) (ap (λ y. b ∷ y) i.text ∙ ap (λ y. y ++ i.after) (sym w.3)) i.chars,
        along limit levels role h.1 v (sym (one_more t b h.0)) h.3,
      )

  plain_from : IsUtf8 t → (b : ℕ) (c : List ℕ) → Goes limit (in_plain levels role t b) c v → OfText limit levels role t plain (b ∷ c) v
  plain_from u b c = by (b == 34) (b == 92) (nat_lt b 32) (nat_lt b 128) refl refl refl refl
    where
      inner : b ≢ 34 → b ≢ 92 → 32 ≤ b → b < 128 → OfText limit levels role (t ++ (b ∷ [])) plain c v → OfText limit levels role t plain (b ∷ c) v
      inner nq ns least under h = (
        b ∷ h.0,
        h.1,
        plain_of (b ∷ c) (b ∷ h.0) h.1 b c h.0 (low_scalar b (omega arith)) least nq ns (ap (λ y. y ++ c) (sym (byte_of b under))) (ap (λ y. y ++ h.0) (sym (byte_of b under))) h.2,
        along limit levels role h.1 v (sym (one_more t b h.0)) h.3,
      )

      by : (p q r s : Bool) → (b == 34) ≡ p → (b == 92) ≡ q → nat_lt b 32 ≡ r → nat_lt b 128 ≡ s
          → Goes limit (cond p (text_ends levels role t) (cond q (text_goes levels role t escape) (cond r (Err Syntax) (cond s (text_goes levels role (t ++ (b ∷ [])) plain) (wide levels role (t ++ (b ∷ [])) (tails b)))))) c v
          → OfText limit levels role t plain (b ∷ c) v
      by true q r s e f g k h = (
        [],
        c,
        close (b ∷ c) [] c (ap (λ y. y ∷ c) (is_byte b 34 e)) refl,
        along limit levels role c v (sym (append-nil t)) (ends_from limit levels role t c v (is_utf8-from_IsUtf8 t u) h),
      )
      by false true r s e f g k h = (h.0, h.1, subst (λ y. Chars (y ∷ c) h.0 h.1) (sym (is_byte b 92 f)) h.2, h.3)
      by false false true s e f g k h = absurd h
      by false false false true e f g k h = inner (is_other b 34 e) (is_other b 92 f) (is_least b 32 g) (is_below b 128 k) h
      by false false false false e f g k h = wide_from b c (tails b) refl h

-- ---- behind a backslash
pub data Escaped (m more rest : List ℕ) : Type 0 where
  in_short : (b c : ℕ) (n after : List ℕ) → m ≡ b ∷ n → escaped b ≡ Some c → more ≡ c ∷ after → Chars n after rest → Escaped m more rest
  in_code_of : (c : ℕ) (n mid after : List ℕ) → m ≡ 117 ∷ n → FourDigits n c mid → IsScalar c → more ≡ encode_utf8 c ++ after → Chars mid after rest → Escaped m more rest
  in_pair : (h : ℕ) (n mid : List ℕ) → m ≡ 117 ∷ n → FourDigits n h mid → IsHigh h → IsHalf h mid more rest → Escaped m more rest

no_slash : (d : ℕ) (m n : List ℕ) → IsScalar d → d ≢ 92 → 92 ∷ m ≡ encode_utf8 d ++ n → ⊥
no_slash d m n scalar ns e = by (order d 128)
  where
    by : (d < 128) ⊎ (128 ≤ d) → ⊥
    by (inl k) = ns (sym (head_same (e ∙ ap (λ y. y ++ n) (byte_of d k))))
    by (inr k) = let w = wide_of d scalar k in let g : 92 ≡ w.lead = head_same (e ∙ ap (λ y. y ++ n) w.is) in let above : 128 ≤ w.lead = w.high in omega arith

pub opens : (m more rest : List ℕ) → Chars (92 ∷ m) more rest → Escaped m more rest
opens m more rest (close bytes x r e f) = absurd (let n : 92 ≡ 34 = head_same e in omega arith)
opens m more rest (plain_of bytes x r d n after scalar least nq ns e f chars) = absurd (no_slash d m n scalar ns e)
opens m more rest (short_of bytes x r b c n after e f g chars) = in_short b c n after (tail_same e) f g chars
opens m more rest (code_of bytes x r c n mid after e f g k chars) = in_code_of c n mid after (tail_same e) f g k chars
opens m more rest (pair_of bytes x r hi lo n mid next end after e f g k l o p chars) =
    in_pair hi n mid (tail_same e) f g (record { next = next; half = lo; mid = end; after = after; begins = k; digits = l; low = o; text = p; chars = chars })

-- behind a backslash and u: the four digits of a character or of its first half
pub data Coded (m more rest : List ℕ) : Type 0 where
  one_code : (c : ℕ) (mid after : List ℕ) → FourDigits m c mid → IsScalar c → more ≡ encode_utf8 c ++ after → Chars mid after rest → Coded m more rest
  half_code : (h : ℕ) (mid : List ℕ) → FourDigits m h mid → IsHigh h → IsHalf h mid more rest → Coded m more rest

no_u : (b c : ℕ) → escaped b ≡ Some c → b ≡ 117 → ⊥
no_u b c e k = let f : escaped 117 ≡ Some c = subst (λ x. escaped x ≡ Some c) k e in cc f

pub opens_code : (m more rest : List ℕ) → Chars (92 ∷ 117 ∷ m) more rest → Coded m more rest
opens_code m more rest chars = by (opens (117 ∷ m) more rest chars)
  where
    by : Escaped (117 ∷ m) more rest → Coded m more rest
    by (in_short b c n after e f g k) = absurd (no_u b c f (sym (head_same e)))
    by (in_code_of c n mid after e f g k l) = one_code c mid after (subst (λ x. FourDigits x c mid) (sym (tail_same e)) f) g k l
    by (in_pair h n mid e f g k) = half_code h mid (subst (λ x. FourDigits x h mid) (sym (tail_same e)) f) g k

module _ (limit : ℕ) (levels : List Unclosed) (role : Role) (t : List ℕ) (v : Json) where
  -- the byte that an escape wants
  wanted_to : (w : ℕ) (part : StringPlace) (b : ℕ) (c : List ℕ) → b ≡ w → OfText limit levels role t part c v → Goes limit (wanted levels w (text role t part) b) c v
  wanted_to w part b c e h = rw (same_is b w e) h

  refused-goes : (b : ℕ) (c : List ℕ) → Goes limit (refused b) c v → ⊥
  refused-goes b c = by (nat_lt b 128) (tails b)
    where
      by : (p : Bool) (rs : List (ℕ × ℕ)) → Goes limit (cond p (Err Syntax) (refused_by rs)) c v → ⊥
      by true rs h = h
      by false [] h = h
      by false (r ∷ rs) h = h

  wanted_from : (w : ℕ) (part : StringPlace) (b : ℕ) (c : List ℕ) → Goes limit (wanted levels w (text role t part) b) c v → (b ≡ w) × OfText limit levels role t part c v
  wanted_from w part b c = by (b == w) refl
    where
      by : (p : Bool) → (b == w) ≡ p → Goes limit (cond p (Ok (state levels (text role t part))) (refused b)) c v → (b ≡ w) × OfText limit levels role t part c v
      by true e h = (is_byte b w e, h)
      by false e h = absurd (refused-goes b c h)

  escape_to : (b : ℕ) (c more rest : List ℕ) → Chars (92 ∷ b ∷ c) more rest → Ends limit levels role (t ++ more) rest v → Goes limit (in_escape levels role t b) c v
  escape_to b c more rest chars h = by (opens (b ∷ c) more rest chars)
    where
      u_to : (m : List ℕ) → b ∷ c ≡ 117 ∷ m → Goes limit (in_escape levels role t b) c v
      u_to m e =
          let n : b ≡ 117 = head_same e in
          let f : escaped b ≡ None = ap escaped n in
          rw f (wanted_to 117 (code NoDigit) b c n (more, rest, subst (λ x. Chars (92 ∷ (x ∷ c)) more rest) n chars, h))

      by : Escaped (b ∷ c) more rest → Goes limit (in_escape levels role t b) c v
      by (in_short b' d n after e f g k) =
          let i : escaped b ≡ Some d = ap escaped (head_same e) ∙ f in
          rw i (after, rest, subst (λ x. Chars x after rest) (sym (tail_same e)) k, along limit levels role rest v (ap (λ x. t ++ x) g ∙ one_more t d after) h)
      by (in_code_of d n mid after e f g k l) = u_to n e
      by (in_pair d n mid e f g k) = u_to n e

  escape_from : (b : ℕ) (c : List ℕ) → Goes limit (in_escape levels role t b) c v → OfText limit levels role t escape (b ∷ c) v
  escape_from b c = by (escaped b) refl
    where
      by : (o : Option ℕ) → escaped b ≡ o → Goes limit (escape_goes levels role t b o) c v → OfText limit levels role t escape (b ∷ c) v
      by (Some d) e h = (d ∷ h.0, h.1, short_of (92 ∷ b ∷ c) (d ∷ h.0) h.1 b d c h.0 refl e refl h.2, along limit levels role h.1 v (sym (one_more t d h.0)) h.3)
      by None e h = let g = wanted_from 117 (code NoDigit) b c h in (g.1.0, g.1.1, subst (λ x. Chars (92 ∷ (x ∷ c)) g.1.0 g.1.1) (sym g.0) g.1.2, g.1.3)

-- ---- digits
first_digit : (m : List ℕ) (k : ℕ) (mid : List ℕ) (b : ℕ) (c : List ℕ) → m ≡ b ∷ c → FourDigits m k mid → IsDigit16 b
first_digit m k mid b c e f = subst IsDigit16 (head_same (sym f.8 ∙ e)) f.4

second_digit : (m : List ℕ) (k : ℕ) (mid : List ℕ) (a b : ℕ) (c : List ℕ) → m ≡ a ∷ b ∷ c → FourDigits m k mid → IsDigit16 b
second_digit m k mid a b c e f = subst IsDigit16 (head_same (tail_same (sym f.8 ∙ e))) f.5

third_digit : (m : List ℕ) (k : ℕ) (mid : List ℕ) (a b d : ℕ) (c : List ℕ) → m ≡ a ∷ b ∷ d ∷ c → FourDigits m k mid → IsDigit16 d
third_digit m k mid a b d c e f = subst IsDigit16 (head_same (tail_same (tail_same (sym f.8 ∙ e)))) f.6

last_digit : (m : List ℕ) (k : ℕ) (mid : List ℕ) (a b d f : ℕ) (c : List ℕ) → m ≡ a ∷ b ∷ d ∷ f ∷ c → FourDigits m k mid → IsDigit16 f
last_digit m k mid a b d f c e g = subst IsDigit16 (head_same (tail_same (tail_same (tail_same (sym g.8 ∙ e))))) g.7

digits_end : (m : List ℕ) (k : ℕ) (mid : List ℕ) (a b d f : ℕ) (c : List ℕ) → m ≡ a ∷ b ∷ d ∷ f ∷ c → FourDigits m k mid → (mid ≡ c) × (k ≡ of_digits16 a b d f)
digits_end m k mid a b d f c e g =
    let l = sym g.8 ∙ e in
    let p = head_same l in
    let q = head_same (tail_same l) in
    let r = head_same (tail_same (tail_same l)) in
    let s = head_same (tail_same (tail_same (tail_same l))) in
    (tail_same (tail_same (tail_same (tail_same l))), g.9 ∙ (λ i. of_digits16 (p i) (q i) (r i) (s i)))

-- a code that is a character or the first half of one
IsUnit : ℕ → Type 0
IsUnit k = IsScalar k ⊎ IsHigh k

unit_range : (k : ℕ) → IsScalar k ⊎ IsHigh k → (k < 0xDC00) ⊎ (0xE000 ≤ k)
unit_range k (inl s) = by (scalar_cases k s)
  where
    by : (k < 55296) ⊎ ((57344 ≤ k) × (k < 1114112)) → (k < 0xDC00) ⊎ (0xE000 ≤ k)
    by (inl h) = inl (omega arith)
    by (inr h) = inr h.0
unit_range k (inr h) = inl (omega (arith, h.1))

not_dead : (x y z w k : ℕ) → y < 16 → z < 16 → w < 16 → k ≡ ((x * 16 + y) * 16 + z) * 16 + w → (k < 0xDC00) ⊎ (0xE000 ≤ k) → (x == 13 && nat_lt 11 y) ≡ false
not_dead x y z w k hy hz hw e u = by (x == 13) (nat_lt 11 y) refl refl u
  where
    by : (p q : Bool) → (x == 13) ≡ p → nat_lt 11 y ≡ q → (k < 0xDC00) ⊎ (0xE000 ≤ k) → (p && q) ≡ false
    by false q i j u = refl
    by true false i j u = refl
    by true true i j (inl h) = let n = is_byte x 13 i in let m = is_below 11 y j in absurd (omega arith)
    by true true i j (inr h) = let n = is_byte x 13 i in let m = is_below 11 y j in absurd (omega arith)

low_first : (x y z w k : ℕ) → x < 16 → y < 16 → z < 16 → w < 16 → k ≡ ((x * 16 + y) * 16 + z) * 16 + w → IsLow k → (x ≡ 13) × (12 ≤ y)
low_first x y z w k hx hy hz hw e l = let p = l.0 in let q = l.1 in (omega arith, omega arith)

low_made : (x y z w : ℕ) → x ≡ 13 → y < 16 → 12 ≤ y → z < 16 → w < 16 → IsLow (((x * 16 + y) * 16 + z) * 16 + w)
low_made x y z w e hy l hz hw = (omega arith, omega arith)

joined_scalar : (h k : ℕ) → IsHigh h → IsLow k → IsScalar (joined h k)
joined_scalar h k a b = let p = a.0 in let q = a.1 in let r = b.0 in let s = b.1 in by (joined h k) (omega arith) (omega arith)
  where
    by : (n : ℕ) → 57344 ≤ n → n < 1114112 → IsScalar n
    by n l h = grind (arith, nat_tests)

pub digits_of : (m more rest : List ℕ) → Coded m more rest → (k : ℕ) × (mid : List ℕ) × FourDigits m k mid × ((k < 0xDC00) ⊎ (0xE000 ≤ k))
digits_of m more rest (one_code k mid after f s e chars) = (k, mid, f, unit_range k (inl s))
digits_of m more rest (half_code k mid f h i) = (k, mid, f, unit_range k (inr h))

module _ (limit : ℕ) (levels : List Unclosed) (role : Role) (t : List ℕ) (v : Json) where
  not_high : (k : ℕ) → IsScalar k → is_in_range 0xD800 0xDBFF k ≡ false
  not_high k s = by (scalar_cases k s)
    where
      by : (k < 55296) ⊎ ((57344 ≤ k) × (k < 1114112)) → is_in_range 0xD800 0xDBFF k ≡ false
      by (inl h) = grind (arith, nat_tests)
      by (inr h) = let l = h.0 in grind (arith, nat_tests)

  is_high : (k : ℕ) → IsHigh k → is_in_range 0xD800 0xDBFF k ≡ true
  is_high k h = let l = h.0 in let m = h.1 in grind (arith, nat_tests)

  high_is : (k : ℕ) → is_in_range 0xD800 0xDBFF k ≡ true → IsHigh k
  high_is k e = (grind (arith, nat_tests), grind (arith, nat_tests))

  paired_to : (k : ℕ) (c more rest after : List ℕ) → IsScalar k → more ≡ encode_utf8 k ++ after → Chars c after rest → Ends limit levels role (t ++ more) rest v → Goes limit (paired levels role t k) c v
  paired_to k c more rest after s e chars h = rw s (after, rest, chars, along limit levels role rest v (ap (λ x. t ++ x) e ∙ sym (append_assoc t (encode_utf8 k) after)) h)

  paired_from : (k : ℕ) (c : List ℕ) → Goes limit (paired levels role t k) c v → IsScalar k × OfText limit levels role (t ++ encode_utf8 k) plain c v
  paired_from k c = by (scalar k) refl
    where
      by : (p : Bool) → scalar k ≡ p → Goes limit (cond p (text_goes levels role (t ++ encode_utf8 k) plain) (Err Syntax)) c v → IsScalar k × OfText limit levels role (t ++ encode_utf8 k) plain c v
      by true e h = (e, h)
      by false e h = absurd h

  coded_to : (k : ℕ) (c more rest : List ℕ) (m : List ℕ) → FourDigits m k c → Coded m more rest → Ends limit levels role (t ++ more) rest v → Goes limit (coded levels role t k) c v
  coded_to k c more rest m f (one_code k' mid after g s e chars) h =
      let l = digits_end m k' mid f.0 f.1 f.2 f.3 c f.8 g in
      let same : k' ≡ k = l.1 ∙ sym f.9 in
      let s' : IsScalar k = subst IsScalar same s in
      rw (not_high k s') (paired_to k c more rest after s' (e ∙ ap (λ x. encode_utf8 x ++ after) same) (subst (λ x. Chars x after rest) l.0 chars) h)
  coded_to k c more rest m f (half_code k' mid g hi i) h =
      let l = digits_end m k' mid f.0 f.1 f.2 f.3 c f.8 g in
      let same : k' ≡ k = l.1 ∙ sym f.9 in
      rw (is_high k (subst IsHigh same hi)) (more, rest, subst (λ x. IsHalf x c more rest) same (subst (λ x. IsHalf k' x more rest) l.0 i), h)

  coded_from : (k : ℕ) (c m : List ℕ) → FourDigits m k c → Goes limit (coded levels role t k) c v → (more : List ℕ) × (rest : List ℕ) × Chars (92 ∷ 117 ∷ m) more rest × Ends limit levels role (t ++ more) rest v
  coded_from k c m f = by (is_in_range 0xD800 0xDBFF k) refl
    where
      by : (p : Bool) → is_in_range 0xD800 0xDBFF k ≡ p → Goes limit (cond p (text_goes levels role t (high k)) (paired levels role t k)) c v
          → (more : List ℕ) × (rest : List ℕ) × Chars (92 ∷ 117 ∷ m) more rest × Ends limit levels role (t ++ more) rest v
      by true e h = let i = h.2 in (h.0, h.1, pair_of (92 ∷ 117 ∷ m) h.0 h.1 k i.half m c i.next i.mid i.after refl f (high_is k e) i.begins i.digits i.low i.text i.chars, h.3)
      by false e h =
          let g = paired_from k c h in (
            encode_utf8 k ++ g.1.0,
            g.1.1,
            code_of (92 ∷ 117 ∷ m) (encode_utf8 k ++ g.1.0) g.1.1 k m c g.1.0 refl f g.0 refl g.1.2,
            along limit levels role g.1.1 v (append_assoc t (encode_utf8 k) g.1.0) g.1.3,
          )

  code_to : (digits : Digits) (b : ℕ) (c more rest : List ℕ) → Chars (92 ∷ 117 ∷ (raw digits ++ (b ∷ c))) more rest → Ends limit levels role (t ++ more) rest v → Goes limit (in_code levels role t digits b) c v
  code_to NoDigit b c more rest chars h =
      let f = digits_of (b ∷ c) more rest (opens_code (b ∷ c) more rest chars) in
      let d : nat_lt (digit_value b) 16 ≡ true = below_is _ _ (first_digit (b ∷ c) f.0 f.1 b c refl f.2) in
      rw d (more, rest, chars, h)
  code_to (One a) b c more rest chars h =
      let f = digits_of (a ∷ b ∷ c) more rest (opens_code (a ∷ b ∷ c) more rest chars) in
      let d : nat_lt (digit_value b) 16 ≡ true = below_is _ _ (second_digit (a ∷ b ∷ c) f.0 f.1 a b c refl f.2) in
      let g = f.2 in
      let p : a ≡ g.0 = head_same g.8 in
      let q : b ≡ g.1 = head_same (tail_same g.8) in
      let n = not_dead (digit_value g.0) (digit_value g.1) (digit_value g.2) (digit_value g.3) f.0 g.5 g.6 g.7 g.9 f.3 in
      let m : (digit_value a == 13 && nat_lt 11 (digit_value b)) ≡ false = (λ i. digit_value (p i) == 13 && nat_lt 11 (digit_value (q i))) ∙ n in
      rw (d, m) (more, rest, chars, h)
  code_to (Two a e) b c more rest chars h =
      let f = digits_of (a ∷ e ∷ b ∷ c) more rest (opens_code (a ∷ e ∷ b ∷ c) more rest chars) in
      let d : nat_lt (digit_value b) 16 ≡ true = below_is _ _ (third_digit (a ∷ e ∷ b ∷ c) f.0 f.1 a e b c refl f.2) in
      rw d (more, rest, chars, h)
  code_to (Three a e g) b c more rest chars h =
      let o = opens_code (a ∷ e ∷ g ∷ b ∷ c) more rest chars in
      let f = digits_of (a ∷ e ∷ g ∷ b ∷ c) more rest o in
      let x = last_digit (a ∷ e ∷ g ∷ b ∷ c) f.0 f.1 a e g b c refl f.2 in
      let d : nat_lt (digit_value b) 16 ≡ true = below_is _ _ x in
      let four : FourDigits (a ∷ e ∷ g ∷ b ∷ c) (of_digits16 a e g b) c = (
        a,
        e,
        g,
        b,
        first_digit (a ∷ e ∷ g ∷ b ∷ c) f.0 f.1 a (e ∷ g ∷ b ∷ c) refl f.2,
        second_digit (a ∷ e ∷ g ∷ b ∷ c) f.0 f.1 a e (g ∷ b ∷ c) refl f.2,
        third_digit (a ∷ e ∷ g ∷ b ∷ c) f.0 f.1 a e g (b ∷ c) refl f.2,
        x,
        refl,
        refl,
      )
      in
      rw d (coded_to (of_digits16 a e g b) c more rest (a ∷ e ∷ g ∷ b ∷ c) four o h)

  code_from : (digits : Digits) (b : ℕ) (c : List ℕ) → IsPart (code digits) t → Goes limit (in_code levels role t digits b) c v → OfText limit levels role t (code digits) (b ∷ c) v
  code_from digits b c is = by (nat_lt (digit_value b) 16) refl
    where
      dead : (a : ℕ) (p : Bool) → Goes limit (cond p (Err Syntax) (text_goes levels role t (code (Two a b)))) c v → OfText limit levels role t (code (One a)) (b ∷ c) v
      dead a true h = absurd h
      dead a false h = h

      inner : (ds : Digits) → IsPart (code ds) t → IsDigit16 b → Goes limit (digit_of_code levels role t ds b) c v → OfText limit levels role t (code ds) (b ∷ c) v
      inner NoDigit is d h = h
      inner (One a) is d h = dead a (digit_value a == 13 && nat_lt 11 (digit_value b)) h
      inner (Two a e) is d h = h
      inner (Three a e g) is d h = coded_from (of_digits16 a e g b) c (a ∷ e ∷ g ∷ b ∷ c) (a, e, g, b, is.1.0, is.1.1, is.1.3, d, refl, refl) h

      by : (p : Bool) → nat_lt (digit_value b) 16 ≡ p → Goes limit (cond p (digit_of_code levels role t digits b) (refused b)) c v → OfText limit levels role t (code digits) (b ∷ c) v
      by true e h = inner digits is (is_below _ _ e) h
      by false e h = absurd (refused-goes limit levels role t v b c h)

  -- ---- the second half of a character
  abbrev half_begins : (h : ℕ) (m more rest : List ℕ) → IsHalf h (92 ∷ 117 ∷ m) more rest → (k : ℕ) × (mid : List ℕ) × FourDigits m k mid × IsLow k
  half_begins h m more rest i = (i.half, i.mid, subst (λ x. FourDigits x i.half i.mid) (sym (tail_same (tail_same i.begins))) i.digits, i.low)

  low_to : (h : ℕ) (digits : Digits) (b : ℕ) (c more rest : List ℕ) → IsHigh h → IsHalf h (92 ∷ 117 ∷ (raw digits ++ (b ∷ c))) more rest → Ends limit levels role (t ++ more) rest v
      → Goes limit (in_low levels role t h digits b) c v
  low_to h NoDigit b c more rest hi i e =
      let f = half_begins h (b ∷ c) more rest i in
      let g = f.2 in
      let d : nat_lt (digit_value b) 16 ≡ true = below_is _ _ (first_digit (b ∷ c) f.0 f.1 b c refl f.2) in
      let p : b ≡ g.0 = head_same g.8 in
      let l = low_first (digit_value g.0) (digit_value g.1) (digit_value g.2) (digit_value g.3) f.0 g.4 g.5 g.6 g.7 g.9 f.3 in
      let m : (digit_value b == 13) ≡ true = same_is _ _ (ap digit_value p ∙ l.0) in
      rw (d, m) (more, rest, i, e)
  low_to h (One a) b c more rest hi i e =
      let f = half_begins h (a ∷ b ∷ c) more rest i in
      let g = f.2 in
      let d : nat_lt (digit_value b) 16 ≡ true = below_is _ _ (second_digit (a ∷ b ∷ c) f.0 f.1 a b c refl f.2) in
      let p : b ≡ g.1 = head_same (tail_same g.8) in
      let l = low_first (digit_value g.0) (digit_value g.1) (digit_value g.2) (digit_value g.3) f.0 g.4 g.5 g.6 g.7 g.9 f.3 in
      let m : nat_lt 11 (digit_value b) ≡ true = below_is _ _ (subst (λ (x : ℕ). 11 < digit_value x) (sym p) (omega (arith, l.1))) in
      rw (d, m) (more, rest, i, e)
  low_to h (Two a x) b c more rest hi i e =
      let f = half_begins h (a ∷ x ∷ b ∷ c) more rest i in
      let d : nat_lt (digit_value b) 16 ≡ true = below_is _ _ (third_digit (a ∷ x ∷ b ∷ c) f.0 f.1 a x b c refl f.2) in
      rw d (more, rest, i, e)
  low_to h (Three a x y) b c more rest hi i e =
      let f = half_begins h (a ∷ x ∷ y ∷ b ∷ c) more rest i in
      let d : nat_lt (digit_value b) 16 ≡ true = below_is _ _ (last_digit (a ∷ x ∷ y ∷ b ∷ c) f.0 f.1 a x y b c refl f.2) in
      let l = digits_end (a ∷ x ∷ y ∷ b ∷ c) f.0 f.1 a x y b c refl f.2 in
      let same : joined h f.0 ≡ joined h (of_digits16 a x y b) = ap (joined h) l.1 in
      let s : IsScalar (joined h (of_digits16 a x y b)) = subst IsScalar same (joined_scalar h f.0 hi f.3) in
      rw d (paired_to (joined h (of_digits16 a x y b)) c more rest i.after s (i.text ∙ ap (λ z. encode_utf8 z ++ i.after) same) (subst (λ z. Chars z i.after rest) l.0 i.chars) e)

  low_from : (h : ℕ) (digits : Digits) (b : ℕ) (c : List ℕ) → IsPart (low h digits) t → Goes limit (in_low levels role t h digits b) c v → OfText limit levels role t (low h digits) (b ∷ c) v
  low_from h digits b c is = by (nat_lt (digit_value b) 16) refl
    where
      test : (p : Bool) (part : StringPlace) → Goes limit (cond p (text_goes levels role t part) (Err Syntax)) c v → OfText limit levels role t part c v
      test true part g = g
      test false part g = absurd g

      inner : (ds : Digits) → IsPart (low h ds) t → IsDigit16 b → Goes limit (digit_of_low levels role t h ds b) c v → OfText limit levels role t (low h ds) (b ∷ c) v
      inner NoDigit is d g = test (digit_value b == 13) (low h (One b)) g
      inner (One a) is d g = test (nat_lt 11 (digit_value b)) (low h (Two a b)) g
      inner (Two a e) is d g = g
      inner (Three a x y) is d g =
          let k = of_digits16 a x y b in
          let hexa : IsDigit16 a = let e = is.2.0 in omega arith in
          let p = paired_from (joined h k) c g in (
            encode_utf8 (joined h k) ++ p.1.0,
            p.1.1,
            record {
              next = a ∷ x ∷ y ∷ b ∷ c;
              half = k;
              mid = c;
              after = p.1.0;
              begins = refl;
              digits = (a, x, y, b, hexa, is.2.1, is.2.3, d, refl, refl);
              low = low_made (digit_value a) (digit_value x) (digit_value y) (digit_value b) is.2.0 is.2.1 is.2.2 is.2.3 d;
              text = refl;
              chars = p.1.2;
            },
            along limit levels role p.1.1 v (append_assoc t (encode_utf8 (joined h k)) p.1.0) p.1.3,
          )

      by : (p : Bool) → nat_lt (digit_value b) 16 ≡ p → Goes limit (cond p (digit_of_low levels role t h digits b) (refused b)) c v → OfText limit levels role t (low h digits) (b ∷ c) v
      by true e g = inner digits is (is_below _ _ e) g
      by false e g = absurd (refused-goes limit levels role t v b c g)

  -- ---- inside a character
  tail_on : (rs : List (ℕ × ℕ)) (b : ℕ) (c mid w after rest : List ℕ) → Within rs w → c ≡ w ++ mid → Chars mid after rest → Ends limit levels role ((t ++ (b ∷ [])) ++ (w ++ after)) rest v
      → Goes limit (text_goes levels role (t ++ (b ∷ [])) (behind_tail rs)) c v
  tail_on [] b c mid [] after rest k e chars h = (after, rest, subst (λ x. Chars x after rest) (sym e) chars, h)
  tail_on [] b c mid (x ∷ w) after rest k e chars h = absurd k
  tail_on (r ∷ rs) b c mid w after rest k e chars h = (w ++ after, rest, record { own = w; mid = mid; after = after; within = k; begins = e; text = refl; chars = chars }, h)

  tail_to : (r : ℕ × ℕ) (rs : List (ℕ × ℕ)) (b : ℕ) (c more rest own mid after : List ℕ) → Within (r ∷ rs) own → b ∷ c ≡ own ++ mid → more ≡ own ++ after → Chars mid after rest → Ends limit levels role (t ++ more) rest v
      → Goes limit (in_tail levels role t (r ∷ rs) b) c v
  tail_to r rs b c more rest [] mid after k e f chars h = absurd k
  tail_to r rs b c more rest (x ∷ w) mid after k e f chars h =
      let n : b ≡ x = head_same e in
      let d : is_in_range r.0 r.1 b ≡ true = ap (is_in_range r.0 r.1) n ∙ k.0 in
      rw d (tail_on rs b c mid w after rest k.1 (tail_same e) chars (along limit levels role rest v (ap (λ y. t ++ y) f ∙ ap (λ y. t ++ (y ∷ (w ++ after))) (sym n) ∙ one_more t b (w ++ after)) h))

  tail_from : (r : ℕ × ℕ) (rs : List (ℕ × ℕ)) (b : ℕ) (c : List ℕ) → Goes limit (in_tail levels role t (r ∷ rs) b) c v → OfText limit levels role t (tail (r ∷ rs)) (b ∷ c) v
  tail_from r rs b c = by (is_in_range r.0 r.1 b) refl
    where
      inner : (qs : List (ℕ × ℕ)) → is_in_range r.0 r.1 b ≡ true → Goes limit (text_goes levels role (t ++ (b ∷ [])) (behind_tail qs)) c v → OfText limit levels role t (tail (r ∷ qs)) (b ∷ c) v
      inner [] e h = (
        b ∷ h.0,
        h.1,
        record { own = b ∷ []; mid = c; after = h.0; within = (e, tt); begins = refl; text = refl; chars = h.2 },
        along limit levels role h.1 v (sym (one_more t b h.0)) h.3,
      )
      inner (q ∷ qs) e h =
          let i = h.2 in (
            b ∷ h.0,
            h.1,
            record { own = b ∷ i.own; mid = i.mid; after = i.after; within = (e, i.within); begins = ap (λ y. b ∷ y) i.begins; text = ap (λ y. b ∷ y) i.text; chars = i.chars },
            along limit levels role h.1 v (sym (one_more t b h.0)) h.3,
          )

      by : (p : Bool) → is_in_range r.0 r.1 b ≡ p → Goes limit (cond p (text_goes levels role (t ++ (b ∷ [])) (behind_tail rs)) (Err Utf8)) c v → OfText limit levels role t (tail (r ∷ rs)) (b ∷ c) v
      by true e h = inner rs e h
      by false e h = absurd h

  -- one byte of a string
  pub text_same : (part : StringPlace) (b : ℕ) (c : List ℕ) → IsPart part t → Same (OfText limit levels role t part (b ∷ c) v) (Goes limit (in_text levels role t part b) c v)
  text_same plain b c is = (λ h. plain_to limit levels role t v is b c h.0 h.1 h.2 h.3, plain_from limit levels role t v is b c)
  text_same escape b c is = (λ h. escape_to limit levels role t v b c h.0 h.1 h.2 h.3, escape_from limit levels role t v b c)
  text_same (code digits) b c is = (λ h. code_to digits b c h.0 h.1 h.2 h.3, code_from digits b c is)
  text_same (high h) b c is = (
    λ k. wanted_to limit levels role t v 92 (slash h) b c (head_same k.2.begins) (k.0, k.1, subst (λ x. IsHalf h (x ∷ c) k.0 k.1) (head_same k.2.begins) k.2, k.3),
    λ g. let k = wanted_from limit levels role t v 92 (slash h) b c g in (k.1.0, k.1.1, subst (λ x. IsHalf h (x ∷ c) k.1.0 k.1.1) (sym k.0) k.1.2, k.1.3),
  )
  text_same (slash h) b c is = (
    λ k. wanted_to limit levels role t v 117 (low h NoDigit) b c (head_same (tail_same k.2.begins)) (k.0, k.1, subst (λ x. IsHalf h (92 ∷ (x ∷ c)) k.0 k.1) (head_same (tail_same k.2.begins)) k.2, k.3),
    λ g. let k = wanted_from limit levels role t v 117 (low h NoDigit) b c g in (k.1.0, k.1.1, subst (λ x. IsHalf h (92 ∷ (x ∷ c)) k.1.0 k.1.1) (sym k.0) k.1.2, k.1.3),
  )
  text_same (low h digits) b c is = (λ k. low_to h digits b c k.0 k.1 is.1 k.2 k.3, low_from h digits b c is)
  text_same (tail []) b c is = absurd is
  text_same (tail (r ∷ rs)) b c is = (λ k. let i = k.2 in tail_to r rs b c k.0 k.1 i.own i.mid i.after i.within i.begins i.text i.chars k.3, tail_from r rs b c)
