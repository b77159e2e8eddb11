-- Steps at one byte list after another.
use Rattle.std.proofs.Common.{◌≡◌, ℕ, zero, suc, ◌+◌, ◌<◌, ◌≤◌, ◌⊎◌, inl, inr, List, [], ◌∷◌, ◌++◌, take, length, get_or, refl, sym, ap, ◌∙◌, append_assoc, append-nil, arith, subst, Ok, Err, Result, Option, Some, None}
use Rattle.std.proofs.Common.{length-take}
use Rattle.std.proofs.lemmas.Bool.Decides.{nat_tests}
use Rattle.std.proofs.lemmas.List.{take_more, take_all}
use Rattle.std.proofs.lemmas.Str.{IsUtf8-from_is_utf8, encode_ascii}
use lib.Seq.{take-add}
use lib.Utf8.{scalar, scalars}
use Rattle.std.specs.Prelude.{◌==◌, nat_lt, true, false, drop}
use Rattle.std.specs.Char.{encode_utf8}
use Rattle.std.specs.Int.{is_in_range}
use Rattle.std.specs.Str.{IsUtf8, is_utf8, encode_utf8_all}
use Rattle.json_value.specs.declared.Json.{Json}
use Rattle.json_text.specs.Grammar.{is_whitespace, AreBlank}
use Rattle.json_text.specs.State.Runs.{is_open, AreOpen, place_behind}
use Rattle.json_text.specs.declared.state.Place.{Place}
use Rattle.json_text.specs.declared.state.Role.{Role}
use Rattle.json_text.specs.State.Opened.{Unclosed}
use Rattle.json_text.specs.State.Opened.{list as LevelOfList, map as LevelOfMap}
use Rattle.json_text.specs.declared.state.Stop.{Stop}
use Rattle.json_text.specs.State.Machine.{Hand, MachineState, state, value, first_item, first_name, next_name, behind, number, text, plain, tail, tails, behind_tail, wide, in_plain, text_ends, item_first, name_first, name_next, behind_in, next_place, number_goes, run, run_on, step}
use Rattle.json_text.proofs.Basics.{both}
use Rattle.json_text.proofs.Steps.{begin_blank, at_blank}
use Rattle.json_text.proofs.Utf8Lemmas.{Within, order, wide_of}

pub run_on-append : (limit : ℕ) (r : Result MachineState Stop) (xs ys : List ℕ) → run_on limit r (xs ++ ys) ≡ run_on limit (run_on limit r xs) ys
run_on-append limit (Err stop) xs ys = refl
run_on-append limit (Ok s) [] ys = refl
run_on-append limit (Ok s) (b ∷ xs) ys = run_on-append limit (step limit s.levels s.hand b) xs ys

pub run_on-nil : (limit : ℕ) (r : Result MachineState Stop) → run_on limit r [] ≡ r
run_on-nil limit (Err stop) = refl
run_on-nil limit (Ok s) = refl

-- one byte more
pub run_more : (limit : ℕ) (s t : MachineState) (bytes : List ℕ) (i : ℕ) → i < length bytes → run limit s (take i bytes) ≡ Ok t → run limit s (take (i + 1) bytes) ≡ step limit t.levels t.hand (get_or bytes i 0)
run_more limit s t bytes i h e =
    ap (run limit s) (take_more bytes i 0 h) ∙ run_on-append limit (Ok s) (take i bytes) (get_or bytes i 0 ∷ []) ∙ ap (λ r. run_on limit r (get_or bytes i 0 ∷ [])) e
    ∙ run_on-nil limit (step limit t.levels t.hand (get_or bytes i 0))

-- all bytes
pub run_whole : (limit : ℕ) (s t : MachineState) (bytes : List ℕ) (i : ℕ) → length bytes ≤ i → run limit s (take i bytes) ≡ Ok t → run limit s bytes ≡ Ok t
run_whole limit s t bytes i h e = sym (ap (run limit s) (take_all i bytes h)) ∙ e

-- one list and then another
pub run_then : (limit : ℕ) (s t : MachineState) (xs ys : List ℕ) → run limit s xs ≡ Ok t → run limit s (xs ++ ys) ≡ run limit t ys
run_then limit s t xs ys e = run_on-append limit (Ok s) xs ys ∙ ap (λ r. run_on limit r ys) e

-- a byte and then some more of the bytes
pub run_skim : (limit : ℕ) (s t u : MachineState) (bytes : List ℕ) (i n : ℕ) → run limit s (take i bytes) ≡ Ok t → run limit t (take n (drop i bytes)) ≡ Ok u → run limit s (take (i + n) bytes) ≡ Ok u
run_skim limit s t u bytes i n e f = ap (run limit s) (take-add i n bytes) ∙ run_then limit s t (take i bytes) (take n (drop i bytes)) e ∙ f

-- white space where it leaves the machine as it is
abbrev pub Stays : ℕ → List Unclosed → Hand → Type 0
Stays limit levels hand = (b : ℕ) → is_whitespace b ≡ true → step limit levels hand b ≡ Ok (state levels hand)

pub run_blank : (limit : ℕ) (levels : List Unclosed) (hand : Hand) (bytes : List ℕ) → Stays limit levels hand → AreBlank bytes
    → run limit (state levels hand) bytes ≡ Ok (state levels hand)
run_blank limit levels hand [] stays h = refl
run_blank limit levels hand (b ∷ bytes) stays h = ap (λ r. run_on limit r bytes) (stays b h.0) ∙ run_blank limit levels hand bytes stays h.1

pub value_stays : (limit : ℕ) (levels : List Unclosed) → Stays limit levels value
value_stays limit levels b h = begin_blank limit levels value b h

pub name_stays : (limit : ℕ) (levels : List Unclosed) → Stays limit levels next_name
name_stays limit levels b h = at_blank (λ x. name_next levels x ≡ Ok (state levels next_name)) b h refl refl refl refl

pub item_stays : (limit : ℕ) (xs : List Json) (ls : List Unclosed) → Stays limit (LevelOfList xs ∷ ls) first_item
item_stays limit xs ls b h =
    at_blank (λ x. item_first limit (LevelOfList xs ∷ ls) x ≡ Ok (state (LevelOfList xs ∷ ls) first_item)) b h refl refl refl refl

pub first_name_stays : (limit : ℕ) (pairs : List (List ℕ × Json)) (name : List ℕ) (ls : List Unclosed) → Stays limit (LevelOfMap pairs name ∷ ls) first_name
first_name_stays limit pairs name ls b h =
    at_blank (λ x. name_first (LevelOfMap pairs name ∷ ls) x ≡ Ok (state (LevelOfMap pairs name ∷ ls) first_name)) b h refl refl refl refl

pub behind_stays : (limit : ℕ) (l : Unclosed) (ls : List Unclosed) → Stays limit (l ∷ ls) behind
behind_stays limit (LevelOfList xs) ls b h =
    at_blank (λ x. behind_in (LevelOfList xs ∷ ls) x ≡ Ok (state (LevelOfList xs ∷ ls) behind)) b h refl refl refl refl
behind_stays limit (LevelOfMap pairs name) ls b h =
    at_blank (λ x. behind_in (LevelOfMap pairs name ∷ ls) x ≡ Ok (state (LevelOfMap pairs name ∷ ls) behind)) b h refl refl refl refl

-- a character of one byte
pub plain_step : (limit : ℕ) (levels : List Unclosed) (role : Role) (t : List ℕ) (b : ℕ) → is_open b ≡ true → b < 128
    → step limit levels (text role t plain) b ≡ Ok (state levels (text role (t ++ (b ∷ [])) plain))
plain_step limit levels role t b e h =
    let q : (b == 34) ≡ false = grind (arith, nat_tests) in
    let s : (b == 92) ≡ false = grind (arith, nat_tests) in
    let l : nat_lt b 32 ≡ false = grind (arith, nat_tests) in
    let u : nat_lt b 128 ≡ true = grind (arith, nat_tests) in
    rw (q, s, l, u) refl

-- the first byte of a character of several
wide_step : (limit : ℕ) (levels : List Unclosed) (role : Role) (t : List ℕ) (b : ℕ) (r : ℕ × ℕ) (rs : List (ℕ × ℕ)) → tails b ≡ r ∷ rs → 128 ≤ b
    → step limit levels (text role t plain) b ≡ Ok (state levels (text role (t ++ (b ∷ [])) (tail (r ∷ rs))))
wide_step limit levels role t b r rs e h =
    let q : (b == 34) ≡ false = grind (arith, nat_tests) in
    let s : (b == 92) ≡ false = grind (arith, nat_tests) in
    let l : nat_lt b 32 ≡ false = grind (arith, nat_tests) in
    let u : nat_lt b 128 ≡ false = grind (arith, nat_tests) in
    let w : in_plain levels role t b ≡ wide levels role (t ++ (b ∷ [])) (tails b) = rw (q, s, l, u) refl in
    w ∙ ap (wide levels role (t ++ (b ∷ []))) e

-- a further byte of a character
tail_step : (limit : ℕ) (levels : List Unclosed) (role : Role) (t : List ℕ) (r : ℕ × ℕ) (rs : List (ℕ × ℕ)) (b : ℕ) → is_in_range r.0 r.1 b ≡ true
    → step limit levels (text role t (tail (r ∷ rs))) b ≡ Ok (state levels (text role (t ++ (b ∷ [])) (behind_tail rs)))
tail_step limit levels role t r rs b h = rw h refl

-- the further bytes of a character
run_tail : (limit : ℕ) (levels : List Unclosed) (role : Role) (r : ℕ × ℕ) (rs : List (ℕ × ℕ)) (t bytes : List ℕ) → Within (r ∷ rs) bytes
    → run limit (state levels (text role t (tail (r ∷ rs)))) bytes ≡ Ok (state levels (text role (t ++ bytes) plain))
run_tail limit levels role r rs t [] h = absurd h
run_tail limit levels role r [] t (b ∷ []) h = ap (λ x. run_on limit x []) (tail_step limit levels role t r [] b h.0)
run_tail limit levels role r [] t (b ∷ x ∷ bytes) h = absurd h.1
run_tail limit levels role r (s ∷ rs) t (b ∷ bytes) h =
    ap (λ x. run_on limit x bytes) (tail_step limit levels role t r (s ∷ rs) b h.0) ∙ run_tail limit levels role s rs (t ++ (b ∷ [])) bytes h.1
    ∙ ap (λ x. Ok (state levels (text role x plain))) (append_assoc t (b ∷ []) bytes)

run_wide : (limit : ℕ) (levels : List Unclosed) (role : Role) (t : List ℕ) (lead : ℕ) (r : ℕ × ℕ) (rs : List (ℕ × ℕ)) (bytes : List ℕ) → tails lead ≡ r ∷ rs → 128 ≤ lead
    → Within (r ∷ rs) bytes → run limit (state levels (text role t plain)) (lead ∷ bytes) ≡ Ok (state levels (text role (t ++ (lead ∷ bytes)) plain))
run_wide limit levels role t lead r rs bytes e h within =
    ap (λ x. run_on limit x bytes) (wide_step limit levels role t lead r rs e h) ∙ run_tail limit levels role r rs (t ++ (lead ∷ [])) bytes within
    ∙ ap (λ x. Ok (state levels (text role x plain))) (append_assoc t (lead ∷ []) bytes)

-- a character
abbrev RunsTo : ℕ → List Unclosed → Role → List ℕ → List ℕ → Type 0
RunsTo limit levels role t bytes = run limit (state levels (text role t plain)) bytes ≡ Ok (state levels (text role (t ++ bytes) plain))

run_char : (limit : ℕ) (levels : List Unclosed) (role : Role) (t : List ℕ) (c : ℕ) → scalar c ≡ true → AreOpen (encode_utf8 c) → RunsTo limit levels role t (encode_utf8 c)
run_char limit levels role t c s opens = by (order c 128)
  where
    by : (c < 128) ⊎ (128 ≤ c) → RunsTo limit levels role t (encode_utf8 c)
    by (inl h) =
        let own : AreOpen (c ∷ []) = subst AreOpen (encode_ascii c h) opens in
        subst (λ (w : List ℕ). RunsTo limit levels role t w) (sym (encode_ascii c h))
        (ap (λ r. run_on limit r []) (plain_step limit levels role t c own.0 h))
    by (inr h) =
        let w = wide_of c s h in
        subst (λ (x : List ℕ). RunsTo limit levels role t x) (sym w.is) (run_wide limit levels role t w.lead w.first w.others w.bytes w.ranges w.high w.within)

open_front : (xs ys : List ℕ) → AreOpen (xs ++ ys) → AreOpen xs
open_front [] ys h = tt
open_front (x ∷ xs) ys h = (h.0, open_front xs ys h.1)

open_back : (xs ys : List ℕ) → AreOpen (xs ++ ys) → AreOpen ys
open_back [] ys h = h
open_back (x ∷ xs) ys h = open_back xs ys h.1

run_chars : (limit : ℕ) (levels : List Unclosed) (role : Role) (t cs : List ℕ) → scalars cs ≡ true → AreOpen (encode_utf8_all cs) → RunsTo limit levels role t (encode_utf8_all cs)
run_chars limit levels role t [] s h = ap (λ x. Ok (state levels (text role x plain))) (sym (append-nil t))
run_chars limit levels role t (c ∷ cs) s h =
    let k = both (scalar c) (scalars cs) s in
    run_then limit (state levels (text role t plain)) (state levels (text role (t ++ encode_utf8 c) plain)) (encode_utf8 c) (encode_utf8_all cs)
    (run_char limit levels role t c k.0 (open_front (encode_utf8 c) (encode_utf8_all cs) h))
    ∙ run_chars limit levels role (t ++ encode_utf8 c) cs k.1 (open_back (encode_utf8 c) (encode_utf8_all cs) h)
    ∙ ap (λ x. Ok (state levels (text role x plain))) (append_assoc t (encode_utf8 c) (encode_utf8_all cs))

-- characters that stand for themselves
pub run_open : (limit : ℕ) (levels : List Unclosed) (role : Role) (t bytes : List ℕ) → AreOpen bytes → IsUtf8 bytes
    → run limit (state levels (text role t plain)) bytes ≡ Ok (state levels (text role (t ++ bytes) plain))
run_open limit levels role t bytes opens u =
    subst (λ (w : List ℕ). RunsTo limit levels role t w) u.1.1 (run_chars limit levels role t u.0 u.1.0 (subst AreOpen (sym u.1.1) opens))

-- a whole string, up to its quote
pub run_string : (limit : ℕ) (levels : List Unclosed) (role : Role) (bytes : List ℕ) (n : ℕ) → n < length bytes → get_or bytes n 0 ≡ 34 → AreOpen (take n bytes)
    → is_utf8 (take n bytes) ≡ true → run limit (state levels (text role [] plain)) (take (n + 1) bytes) ≡ text_ends levels role (take n bytes)
run_string limit levels role bytes n h q opens u =
    run_more limit (state levels (text role [] plain)) (state levels (text role (take n bytes) plain)) bytes n h
    (run_open limit levels role [] (take n bytes) opens (IsUtf8-from_is_utf8 (take n bytes) u))
    ∙ ap (λ b. step limit levels (text role (take n bytes) plain) b) q

-- bytes that go on in a numeral
pub place_append : (r : Option Place) (xs ys : List ℕ) → place_behind r (xs ++ ys) ≡ place_behind (place_behind r xs) ys
place_append None xs ys = refl
place_append (Some place) [] ys = refl
place_append (Some place) (b ∷ xs) ys = place_append (next_place place b) xs ys

place_none : (r : Option Place) → place_behind r [] ≡ r
place_none None = refl
place_none (Some place) = refl

pub more_places : (r : Option Place) (place : Place) (bytes : List ℕ) (i : ℕ) → i < length bytes → place_behind r (take i bytes) ≡ Some place
    → place_behind r (take (i + 1) bytes) ≡ next_place place (get_or bytes i 0)
more_places r place bytes i h e =
    ap (place_behind r) (take_more bytes i 0 h) ∙ place_append r (take i bytes) (get_or bytes i 0 ∷ []) ∙ ap (λ q. place_behind q (get_or bytes i 0 ∷ [])) e
    ∙ place_none (next_place place (get_or bytes i 0))

pub run_number : (limit : ℕ) (levels : List Unclosed) (place next : Place) (t bytes : List ℕ) → place_behind (Some place) bytes ≡ Some next
    → run limit (state levels (number t place)) bytes ≡ Ok (state levels (number (t ++ bytes) next))
run_number limit levels place next t [] e =
    let same : place ≡ next = cc e in
    ap (λ x. Ok (state levels (number x place))) (sym (append-nil t)) ∙ ap (λ p. Ok (state levels (number (t ++ []) p))) same
run_number limit levels place next t (b ∷ bytes) e = by (next_place place b) refl e (λ p g. run_number limit levels p next (t ++ (b ∷ [])) bytes g)
  where
    by : (o : Option Place) → next_place place b ≡ o → place_behind o bytes ≡ Some next
        → ((p : Place) → place_behind (Some p) bytes ≡ Some next → run limit (state levels (number (t ++ (b ∷ [])) p)) bytes ≡ Ok (state levels (number ((t ++ (b ∷ [])) ++ bytes) next)))
        → run limit (state levels (number t place)) (b ∷ bytes) ≡ Ok (state levels (number (t ++ (b ∷ bytes)) next))
    by None f g on = let k : None ≡ Some next = g in cc k
    by (Some p) f g on =
        ap (λ r. run_on limit (number_goes levels t place b r) bytes) f ∙ on p g
        ∙ ap (λ x. Ok (state levels (number x next))) (append_assoc t (b ∷ []) bytes)

-- the first bytes that pass a test
pub more_open : (bytes : List ℕ) (i : ℕ) → i < length bytes → AreOpen (take i bytes) → is_open (get_or bytes i 0) ≡ true → AreOpen (take (i + 1) bytes)
more_open bytes i h f e = subst AreOpen (sym (take_more bytes i 0 h)) (joined (take i bytes) (get_or bytes i 0) f e)
  where
    joined : (xs : List ℕ) (b : ℕ) → AreOpen xs → is_open b ≡ true → AreOpen (xs ++ (b ∷ []))
    joined [] b f e = (e, tt)
    joined (x ∷ xs) b f e = (f.0, joined xs b f.1 e)

-- the first of such bytes, of the first of others
open_take : (n : ℕ) (bytes : List ℕ) → AreOpen bytes → AreOpen (take n bytes)
open_take zero bytes h = tt
open_take (suc n) [] h = tt
open_take (suc n) (b ∷ bytes) h = (h.0, open_take n bytes h.1)

pub take_of_take : (n m : ℕ) (bytes : List ℕ) → n ≤ length (take m bytes) → take n (take m bytes) ≡ take n bytes
take_of_take zero m bytes h = refl
take_of_take (suc n) zero bytes h = absurd (omega arith)
take_of_take (suc n) (suc m) [] h = absurd (omega arith)
take_of_take (suc n) (suc m) (b ∷ bytes) h = ap (λ x. b ∷ x) (take_of_take n m bytes (omega arith))

pub front_of_front : (n m : ℕ) (bytes front : List ℕ) → front ≡ take m bytes → n ≤ length front → take n front ≡ take n bytes
front_of_front n m bytes front is h = ap (take n) is ∙ take_of_take n m bytes (subst (λ (x : List ℕ). n ≤ length x) is h)

pub open_within : (n m : ℕ) (bytes run : List ℕ) → run ≡ take m bytes → AreOpen (take m bytes) → n ≤ length run → AreOpen (take n bytes)
open_within n m bytes run is all h =
    let l : n ≤ length (take m bytes) = subst (λ (x : List ℕ). n ≤ length x) is h in
    subst AreOpen (take_of_take n m bytes l) (open_take n (take m bytes) all)

pub run_within : (n m : ℕ) (bytes front : List ℕ) → front ≡ take m bytes → n ≤ length front
    → n ≤ length bytes
run_within n m bytes front is h = omega (arith, h, ap length is, length-take m bytes)

pub utf8_within : (n v m : ℕ) (bytes front : List ℕ) → front ≡ take m bytes → n ≡ v
    → v < length front → IsUtf8 (take v front) → IsUtf8 (take n bytes)
utf8_within n v m bytes front is same short good =
    let within : n ≤ length (take m bytes) = omega (arith, short, same, ap length is) in
    subst IsUtf8 (ap (λ x. take v x) is ∙ ap (λ k. take k (take m bytes)) (sym same)
    ∙ take_of_take n m bytes within) good

pub whole_within : (m : ℕ) (bytes run : List ℕ) → run ≡ take m bytes → take (length run) bytes ≡ run
whole_within m bytes run is =
    let l : length run ≤ length (take m bytes) = subst (λ (x : List ℕ). length run ≤ length x) is (omega arith) in
    sym (take_of_take (length run) m bytes l) ∙ ap (take (length run)) (sym is) ∙ take_all (length run) run (omega arith)

pub more_blank : (bytes : List ℕ) (i : ℕ) → i < length bytes → AreBlank (take i bytes) → is_whitespace (get_or bytes i 0) ≡ true → AreBlank (take (i + 1) bytes)
more_blank bytes i h f e = subst AreBlank (sym (take_more bytes i 0 h)) (joined (take i bytes) (get_or bytes i 0) f e)
  where
    joined : (xs : List ℕ) (b : ℕ) → AreBlank xs → is_whitespace b ≡ true → AreBlank (xs ++ (b ∷ []))
    joined [] b f e = (e, tt)
    joined (x ∷ xs) b f e = (f.0, joined xs b f.1 e)
