-- One byte inside strings, as part of UTF-8.
use Rattle.std.proofs.Common.{◌≡◌, ℕ, ◌<◌, ◌≤◌, List, [], ◌∷◌, ◌++◌, length, Option, Some, None, Result, Ok, Err, Bool, true, false, refl, sym, ap, ◌∙◌, arith, subst, ◌⊎◌, inl, inr, ◌&&◌}
use Rattle.std.proofs.lemmas.Bool.Decides.{nat_tests}
use Rattle.std.proofs.lemmas.Str.{IsUtf8-nil, IsUtf8-append, IsUtf8-encode, encode_ascii, is_utf8-from_IsUtf8}
use Rattle.std.specs.Prelude.{◌==◌, nat_lt}
use Rattle.std.specs.Char.{digit_value, encode_utf8}
use Rattle.std.specs.Int.{is_in_range}
use Rattle.std.specs.Str.{IsUtf8, encode_utf8_all}
use lib.Utf8.{scalar, scalars, low_scalar}
use Rattle.json_value.specs.declared.Json.{Json}
use Rattle.json_value.specs.declared.Json.TheVariants.{Str}
use Rattle.json_text.specs.Grammar.{escaped, of_digits16, joined}
use Rattle.json_text.specs.State.Machine.{StringPlace, plain, escape, code, high, slash, low, tail, Hand, value, first_item, first_name, next_name, colon, behind, done, word, number, text, MachineState, state, placed, tails, refused, refused_by, text_ends, text_goes, wide, in_plain, wanted, escape_goes, in_escape, paired, coded, digit_of_code, in_code, digit_of_low, in_low, behind_tail, in_tail, in_text}
use Rattle.json_text.specs.declared.state.Stop.{Stop}
use Rattle.json_text.specs.declared.state.Stop.TheVariants.{Syntax, Utf8, Depth}
use Rattle.json_text.specs.declared.state.Digits.{Digits}
use Rattle.json_text.specs.declared.state.Digits.TheVariants.{Zero as NoDigit, One, Two, Three}
use Rattle.json_text.specs.declared.state.Role.{Role}
use Rattle.json_text.specs.declared.state.Role.TheVariants.{Name, Content}
use Rattle.json_text.specs.State.Opened.{Unclosed}
use Rattle.json_text.specs.State.Opened.{list as LevelOfList, map as LevelOfMap}
use Rattle.json_text.proofs.Basics.{both, head_same, tail_same, is_byte, other_is, is_below, is_least, chosen}
use Rattle.json_text.proofs.Utf8Lemmas.{Within, wide_of, of_wide, order}
use Rattle.json_text.proofs.TextSteps.{Same}
use Rattle.json_text.proofs.OutsideStrings.{IsWhole}
use Rattle.json_text.proofs.Finishes.{IsPart, AreRanges}
use Rattle.json_text.proofs.LiveStates.{tail_lows, lows_within}
use Rattle.json_text.proofs.ValidStates.{ranges_of}

-- the rest of a character and then UTF-8
pub record Inside (ranges : List (ℕ × ℕ)) (more : List ℕ) : Type 0 where
  pub own : List ℕ
  pub rest : List ℕ
  pub is : more ≡ own ++ rest
  pub within : Within ranges own
  pub utf8 : IsUtf8 rest

-- the bytes go on with UTF-8
abbrev pub PartRest : StringPlace → List ℕ → Type 0
PartRest plain more = IsUtf8 more
PartRest escape more = IsUtf8 more
PartRest (code digits) more = IsUtf8 more
PartRest (high h) more = IsUtf8 more
PartRest (slash h) more = IsUtf8 more
PartRest (low h digits) more = IsUtf8 more
PartRest (tail ranges) more = Inside ranges more

abbrev pub Utf8Rest : Hand → List ℕ → Type 0
Utf8Rest value more = IsUtf8 more
Utf8Rest first_item more = IsUtf8 more
Utf8Rest first_name more = IsUtf8 more
Utf8Rest next_name more = IsUtf8 more
Utf8Rest colon more = IsUtf8 more
Utf8Rest behind more = IsUtf8 more
Utf8Rest (done x) more = IsUtf8 more
Utf8Rest (word x left) more = IsUtf8 more
Utf8Rest (number t place) more = IsUtf8 more
Utf8Rest (text role t part) more = PartRest part more

pub whole_rest : (hand : Hand) (more : List ℕ) → IsWhole hand → Same (IsUtf8 more) (Utf8Rest hand more)
whole_rest value more w = (λ h. h, λ h. h)
whole_rest first_item more w = (λ h. h, λ h. h)
whole_rest first_name more w = (λ h. h, λ h. h)
whole_rest next_name more w = (λ h. h, λ h. h)
whole_rest colon more w = (λ h. h, λ h. h)
whole_rest behind more w = (λ h. h, λ h. h)
whole_rest (done x) more w = (λ h. h, λ h. h)
whole_rest (word x left) more w = (λ h. h, λ h. h)
whole_rest (number t place) more w = (λ h. h, λ h. h)
whole_rest (text role t plain) more w = (λ h. h, λ h. h)
whole_rest (text role t escape) more w = (λ h. h, λ h. h)
whole_rest (text role t (code digits)) more w = (λ h. h, λ h. h)
whole_rest (text role t (high h')) more w = (λ h. h, λ h. h)
whole_rest (text role t (slash h')) more w = (λ h. h, λ h. h)
whole_rest (text role t (low h' digits)) more w = (λ h. h, λ h. h)
whole_rest (text role t (tail ranges)) more w = absurd w

-- ---- the first character
data Begins (b : ℕ) (more : List ℕ) : Type 0 where
  ascii : b < 128 → IsUtf8 more → Begins b more
  many : (r : ℕ × ℕ) (rs : List (ℕ × ℕ)) → tails b ≡ r ∷ rs → 128 ≤ b → Inside (r ∷ rs) more → Begins b more

begins : (b : ℕ) (more : List ℕ) → IsUtf8 (b ∷ more) → Begins b more
begins b more u = by u.0 u.1.0 u.1.1
  where
    by : (cs : List ℕ) → scalars cs ≡ true → encode_utf8_all cs ≡ b ∷ more → Begins b more
    by [] s e = cc e
    by (c ∷ cs) s e = part (order c 128)
      where
        k : (scalar c ≡ true) × (scalars cs ≡ true)
        k = both (scalar c) (scalars cs) s

        part : (c < 128) ⊎ (128 ≤ c) → Begins b more
        part (inl h) =
            let f : c ∷ encode_utf8_all cs ≡ b ∷ more = ap (λ l. l ++ encode_utf8_all cs) (sym (encode_ascii c h)) ∙ e in
            let n : c ≡ b = head_same f in
            ascii (omega arith) (cs, ((both (scalar c) (scalars cs) s).1, tail_same f))
        part (inr h) =
            let w = wide_of c (both (scalar c) (scalars cs) s).0 h in
            let f : w.lead ∷ (w.bytes ++ encode_utf8_all cs) ≡ b ∷ more = ap (λ l. l ++ encode_utf8_all cs) (sym w.is) ∙ e in
            many w.first w.others (ap tails (sym (head_same f)) ∙ w.ranges) (subst (λ (x : ℕ). 128 ≤ x) (head_same f) w.high)
            (record { own = w.bytes; rest = encode_utf8_all cs; is = sym (tail_same f); within = w.within; utf8 = (cs, ((both (scalar c) (scalars cs) s).1, refl)) })

one_utf8 : (b : ℕ) → b < 128 → IsUtf8 (b ∷ [])
one_utf8 b h = subst IsUtf8 (encode_ascii b h) (IsUtf8-encode b (low_scalar b (omega arith)))

pub ascii_same : (b : ℕ) (more : List ℕ) → b < 128 → Same (IsUtf8 (b ∷ more)) (IsUtf8 more)
ascii_same b more h = (λ u. from (begins b more u), λ u. IsUtf8-append (b ∷ []) more (one_utf8 b h) u)
  where
    from : Begins b more → IsUtf8 more
    from (ascii l u) = u
    from (many r rs e l i) = absurd (omega arith)

wide_same : (b : ℕ) (r : ℕ × ℕ) (rs : List (ℕ × ℕ)) (more : List ℕ) → tails b ≡ r ∷ rs → 128 ≤ b → Same (IsUtf8 (b ∷ more)) (Inside (r ∷ rs) more)
wide_same b r rs more e h = (λ u. from (begins b more u), back)
  where
    from : Begins b more → Inside (r ∷ rs) more
    from (ascii l u) = absurd (omega arith)
    from (many q qs f l i) = subst (λ (x : List (ℕ × ℕ)). Inside x more) (sym f ∙ e) i

    back : Inside (r ∷ rs) more → IsUtf8 (b ∷ more)
    back i =
        let o = of_wide b r rs i.own e i.within in
        subst (λ x. IsUtf8 (b ∷ x)) (sym i.is) (IsUtf8-append (b ∷ i.own) i.rest (subst IsUtf8 o.3 (IsUtf8-encode o.0 o.1)) i.utf8)

no_lead : (b : ℕ) (more : List ℕ) → tails b ≡ [] → 128 ≤ b → IsUtf8 (b ∷ more) → ⊥
no_lead b more e h u = from (begins b more u)
  where
    from : Begins b more → ⊥
    from (ascii l u) = omega arith
    from (many r rs f l i) = let g : [] ≡ r ∷ rs = sym e ∙ f in cc g

lead_begins : (b : ℕ) (r : ℕ × ℕ) (rs : List (ℕ × ℕ)) → tails b ≡ r ∷ rs → 128 ≤ b → (more : List ℕ) × IsUtf8 (b ∷ more)
lead_begins b r rs e h =
    let own = tail_lows (r ∷ rs) in
    (own ++ [], (wide_same b r rs (own ++ []) e h).1 (record { own = own; rest = []; is = refl; within = lows_within (r ∷ rs) (subst AreRanges e (ranges_of b).are); utf8 = IsUtf8-nil }))

-- ---- steps
-- a step from the bytes before it: what goes on with UTF-8, and why it stops
pub record TextStep (limit : ℕ) (before : List ℕ → Type 0) (b : ℕ) (r : Result MachineState Stop) : Type 0 where
  pub goes : (s : MachineState) → r ≡ Ok s → ((more : List ℕ) → Same (before (b ∷ more)) (Utf8Rest s.hand more)) × (length s.levels ≤ limit)
  pub utf8 : r ≡ Err Utf8 → (more : List ℕ) → before (b ∷ more) → ⊥
  pub syntax : r ≡ Err Syntax → (more : List ℕ) × before (b ∷ more)
  pub depth : r ≡ Err Depth → ⊥

module _ (limit : ℕ) (before : List ℕ → Type 0) (b : ℕ) where
  on : (s : MachineState) → ((more : List ℕ) → Same (before (b ∷ more)) (Utf8Rest s.hand more)) → length s.levels ≤ limit → TextStep limit before b (Ok s)
  on s f l = record {
    goes = λ t e. let k : s ≡ t = cc e in subst (λ x. ((more : List ℕ) → Same (before (b ∷ more)) (Utf8Rest x.hand more)) × (length x.levels ≤ limit)) k (f, l);
    utf8 = λ e. cc e;
    syntax = λ e. cc e;
    depth = λ e. cc e;
  }

  off_syntax : (more : List ℕ) → before (b ∷ more) → TextStep limit before b (Err Syntax)
  off_syntax more h = record { goes = λ t e. cc e; utf8 = λ e. cc e; syntax = λ e. (more, h); depth = λ e. cc e }

  off_utf8 : ((more : List ℕ) → before (b ∷ more) → ⊥) → TextStep limit before b (Err Utf8)
  off_utf8 h = record { goes = λ t e. cc e; utf8 = λ e. h; syntax = λ e. cc e; depth = λ e. cc e }

-- a step between characters, or in an escape
abbrev Between : ℕ → ℕ → Result MachineState Stop → Type 0
Between limit b r = TextStep limit IsUtf8 b r

module _ (limit b : ℕ) where
  plainly : (levels : List Unclosed) (hand : Hand) → length levels ≤ limit → b < 128 → IsWhole hand → TextStep limit IsUtf8 b (Ok (state levels hand))
  plainly levels hand f h w = on limit IsUtf8 b (state levels hand) (λ more. let p = ascii_same b more h in let q = whole_rest hand more w in (λ u. q.0 (p.0 u), λ u. p.1 (q.1 u))) f

  syntax_ascii : b < 128 → TextStep limit IsUtf8 b (Err Syntax)
  syntax_ascii h = off_syntax limit IsUtf8 b [] (one_utf8 b h)

  placed_plainly : (levels : List Unclosed) (x : Json) → length levels ≤ limit → b < 128 → TextStep limit IsUtf8 b (Ok (placed levels x))
  placed_plainly [] x f h = plainly [] (done x) f h tt
  placed_plainly (LevelOfList xs ∷ ls) x f h = plainly (LevelOfList (xs ++ (x ∷ [])) ∷ ls) behind f h tt
  placed_plainly (LevelOfMap ps name ∷ ls) x f h = plainly (LevelOfMap (ps ++ ((name, x) ∷ [])) [] ∷ ls) behind f h tt

  refused_step : TextStep limit IsUtf8 b (refused b)
  refused_step = chosen (TextStep limit IsUtf8 b) (nat_lt b 128) (λ e. syntax_ascii (is_below b 128 e)) (λ e. by (tails b) refl (is_least b 128 e))
    where
      by : (rs : List (ℕ × ℕ)) → tails b ≡ rs → 128 ≤ b → TextStep limit IsUtf8 b (refused_by rs)
      by [] e h = off_utf8 limit IsUtf8 b (λ more u. no_lead b more e h u)
      by (r ∷ rs) e h = let k = lead_begins b r rs e h in off_syntax limit IsUtf8 b k.0 k.1

  module _ (levels : List Unclosed) (role : Role) (t : List ℕ) (f : length levels ≤ limit) where
    to_part : (u : List ℕ) (part : StringPlace) → b < 128 → IsWhole (text role u part) → TextStep limit IsUtf8 b (text_goes levels role u part)
    to_part u part h w = plainly levels (text role u part) f h w

    wanted_step : (w : ℕ) (part : StringPlace) → w < 128 → IsWhole (text role t part) → TextStep limit IsUtf8 b (wanted levels w (text role t part) b)
    wanted_step w part l h = chosen (TextStep limit IsUtf8 b) (b == w) (λ e. let n = is_byte b w e in to_part t part (omega arith) h) (λ e. refused_step)

    wide_step : (rs : List (ℕ × ℕ)) → tails b ≡ rs → 128 ≤ b → TextStep limit IsUtf8 b (wide levels role (t ++ (b ∷ [])) rs)
    wide_step [] e h = off_utf8 limit IsUtf8 b (λ more u. no_lead b more e h u)
    wide_step (r ∷ rs) e h = on limit IsUtf8 b (state levels (text role (t ++ (b ∷ [])) (tail (r ∷ rs)))) (λ more. wide_same b r rs more e h) f

    paired_step : (c : ℕ) → b < 128 → TextStep limit IsUtf8 b (paired levels role t c)
    paired_step c h = chosen (TextStep limit IsUtf8 b) (scalar c) (λ e. to_part (t ++ encode_utf8 c) plain h tt) (λ e. syntax_ascii h)

    coded_step : (c : ℕ) → b < 128 → TextStep limit IsUtf8 b (coded levels role t c)
    coded_step c h = chosen (TextStep limit IsUtf8 b) (is_in_range 0xD800 0xDBFF c) (λ e. to_part t (high c) h tt) (λ e. paired_step c h)

    digit_low : nat_lt (digit_value b) 16 ≡ true → b < 128
    digit_low e = grind (arith, nat_tests)

    code_step : (digits : Digits) → TextStep limit IsUtf8 b (in_code levels role t digits b)
    code_step digits = chosen (TextStep limit IsUtf8 b) (nat_lt (digit_value b) 16) (λ e. by digits (digit_low e)) (λ e. refused_step)
      where
        by : (ds : Digits) → b < 128 → TextStep limit IsUtf8 b (digit_of_code levels role t ds b)
        by NoDigit h = to_part t (code (One b)) h tt
        by (One a) h = chosen (TextStep limit IsUtf8 b) (digit_value a == 13 && nat_lt 11 (digit_value b)) (λ e. syntax_ascii h) (λ e. to_part t (code (Two a b)) h tt)
        by (Two a c) h = to_part t (code (Three a c b)) h tt
        by (Three a c d) h = coded_step (of_digits16 a c d b) h

    low_step : (half : ℕ) (digits : Digits) → TextStep limit IsUtf8 b (in_low levels role t half digits b)
    low_step half digits = chosen (TextStep limit IsUtf8 b) (nat_lt (digit_value b) 16) (λ e. by digits (digit_low e)) (λ e. refused_step)
      where
        by : (ds : Digits) → b < 128 → TextStep limit IsUtf8 b (digit_of_low levels role t half ds b)
        by NoDigit h = chosen (TextStep limit IsUtf8 b) (digit_value b == 13) (λ e. to_part t (low half (One b)) h tt) (λ e. syntax_ascii h)
        by (One a) h = chosen (TextStep limit IsUtf8 b) (nat_lt 11 (digit_value b)) (λ e. to_part t (low half (Two a b)) h tt) (λ e. syntax_ascii h)
        by (Two a c) h = to_part t (low half (Three a c b)) h tt
        by (Three a c d) h = paired_step (joined half (of_digits16 a c d b)) h

    escaped_low : (c : ℕ) → escaped b ≡ Some c → b < 128
    escaped_low c e = by (nat_lt b 128) refl
      where
        by : (p : Bool) → nat_lt b 128 ≡ p → b < 128
        by true g = is_below b 128 g
        by false g =
            let l = is_least b 128 g in
            let x1 : (b == 34) ≡ false = other_is b 34 (λ k. absurd (omega arith)) in
            let x2 : (b == 92) ≡ false = other_is b 92 (λ k. absurd (omega arith)) in
            let x3 : (b == 47) ≡ false = other_is b 47 (λ k. absurd (omega arith)) in
            let x4 : (b == 98) ≡ false = other_is b 98 (λ k. absurd (omega arith)) in
            let x5 : (b == 102) ≡ false = other_is b 102 (λ k. absurd (omega arith)) in
            let x6 : (b == 110) ≡ false = other_is b 110 (λ k. absurd (omega arith)) in
            let x7 : (b == 114) ≡ false = other_is b 114 (λ k. absurd (omega arith)) in
            let x8 : (b == 116) ≡ false = other_is b 116 (λ k. absurd (omega arith)) in
            let n : escaped b ≡ None = rw (x1, x2, x3, x4, x5, x6, x7, x8) refl in
            let z : None ≡ Some c = sym n ∙ e in
            cc z

    escape_step : TextStep limit IsUtf8 b (in_escape levels role t b)
    escape_step = by (escaped b) refl
      where
        by : (o : Option ℕ) → escaped b ≡ o → TextStep limit IsUtf8 b (escape_goes levels role t b o)
        by (Some c) e = to_part (t ++ (c ∷ [])) plain (escaped_low c e) tt
        by None e = wanted_step 117 (code NoDigit) (omega arith) tt

  ends_step : (levels : List Unclosed) (role : Role) (t : List ℕ) → length levels ≤ limit → IsUtf8 t → b < 128 → TextStep limit IsUtf8 b (text_ends levels role t)
  ends_step [] Content t f u h = let k = is_utf8-from_IsUtf8 t u in rw k (placed_plainly [] (Str t) f h)
  ends_step (LevelOfList xs ∷ ls) Content t f u h = let k = is_utf8-from_IsUtf8 t u in rw k (placed_plainly (LevelOfList xs ∷ ls) (Str t) f h)
  ends_step (LevelOfMap ps name ∷ ls) Content t f u h = let k = is_utf8-from_IsUtf8 t u in rw k (placed_plainly (LevelOfMap ps name ∷ ls) (Str t) f h)
  ends_step [] Name t f u h = syntax_ascii h
  ends_step (LevelOfList xs ∷ ls) Name t f u h = syntax_ascii h
  ends_step (LevelOfMap ps name ∷ ls) Name t f u h = let k = is_utf8-from_IsUtf8 t u in rw k (plainly (LevelOfMap ps t ∷ ls) colon f h tt)

  plain_step : (levels : List Unclosed) (role : Role) (t : List ℕ) → length levels ≤ limit → IsUtf8 t → TextStep limit IsUtf8 b (in_plain levels role t b)
  plain_step levels role t f u =
      chosen (TextStep limit IsUtf8 b) (b == 34) (λ e. let n = is_byte b 34 e in ends_step levels role t f u (omega arith)) (λ e.
      chosen (TextStep limit IsUtf8 b) (b == 92) (λ e. let n = is_byte b 92 e in to_part levels role t f t escape (omega arith) tt) (λ e.
      chosen (TextStep limit IsUtf8 b) (nat_lt b 32) (λ e. let n = is_below b 32 e in syntax_ascii (omega arith)) (λ e.
      chosen (TextStep limit IsUtf8 b) (nat_lt b 128) (λ e. to_part levels role t f (t ++ (b ∷ [])) plain (is_below b 128 e) tt) (λ e. wide_step levels role t f (tails b) refl (is_least b 128 e)))))

  tail_step : (levels : List Unclosed) (role : Role) (t : List ℕ) → length levels ≤ limit → (r : ℕ × ℕ) (rs : List (ℕ × ℕ)) → TextStep limit (Inside (r ∷ rs)) b (in_tail levels role t (r ∷ rs) b)
  tail_step levels role t f r rs = chosen (TextStep limit (Inside (r ∷ rs)) b) (is_in_range r.0 r.1 b) (λ e. by rs e) (λ e. off_utf8 limit (Inside (r ∷ rs)) b (λ more i. wrong e more i.own i.rest i.is i.within))
    where
      wrong : is_in_range r.0 r.1 b ≡ false → (more own rest : List ℕ) → b ∷ more ≡ own ++ rest → Within (r ∷ rs) own → ⊥
      wrong e more [] rest i w = w
      wrong e more (x ∷ own) rest i w = let k : false ≡ true = sym e ∙ ap (is_in_range r.0 r.1) (head_same i) ∙ w.0 in cc k

      last_to : (more own rest : List ℕ) → b ∷ more ≡ own ++ rest → Within (r ∷ []) own → IsUtf8 rest → IsUtf8 more
      last_to more [] rest i w u = absurd w
      last_to more (x ∷ []) rest i w u = subst IsUtf8 (sym (tail_same i)) u
      last_to more (x ∷ y ∷ own) rest i w u = absurd w.1

      next_to : (q : ℕ × ℕ) (qs : List (ℕ × ℕ)) (more own rest : List ℕ) → b ∷ more ≡ own ++ rest → Within (r ∷ q ∷ qs) own → IsUtf8 rest → Inside (q ∷ qs) more
      next_to q qs more [] rest i w u = absurd w
      next_to q qs more (x ∷ own) rest i w u = record { own = own; rest = rest; is = tail_same i; within = w.1; utf8 = u }

      by : (qs : List (ℕ × ℕ)) → is_in_range r.0 r.1 b ≡ true → TextStep limit (Inside (r ∷ qs)) b (text_goes levels role (t ++ (b ∷ [])) (behind_tail qs))
      by [] e = on limit (Inside (r ∷ [])) b (state levels (text role (t ++ (b ∷ [])) plain)) (λ more. (λ i. last_to more i.own i.rest i.is i.within i.utf8, λ u. record { own = b ∷ []; rest = more; is = refl; within = (e, tt); utf8 = u })) f
      by (q ∷ qs) e = on limit (Inside (r ∷ q ∷ qs)) b (state levels (text role (t ++ (b ∷ [])) (tail (q ∷ qs)))) (λ more.
          (λ i. next_to q qs more i.own i.rest i.is i.within i.utf8, λ i. record { own = b ∷ i.own; rest = i.rest; is = ap (λ x. b ∷ x) i.is; within = (e, i.within); utf8 = i.utf8 })) f

  pub text_step : (levels : List Unclosed) (role : Role) (t : List ℕ) (part : StringPlace) → length levels ≤ limit → IsPart part t → TextStep limit (PartRest part) b (in_text levels role t part b)
  text_step levels role t plain f h = plain_step levels role t f h
  text_step levels role t escape f h = escape_step levels role t f
  text_step levels role t (code digits) f h = code_step levels role t f digits
  text_step levels role t (high half) f h = wanted_step levels role t f 92 (slash half) (omega arith) tt
  text_step levels role t (slash half) f h = wanted_step levels role t f 117 (low half NoDigit) (omega arith) tt
  text_step levels role t (low half digits) f h = low_step levels role t f half digits
  text_step levels role t (tail []) f h = absurd h
  text_step levels role t (tail (r ∷ rs)) f h = tail_step levels role t f r rs
