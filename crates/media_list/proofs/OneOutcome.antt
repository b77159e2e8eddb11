-- Bytes have one outcome.
use Rattle.std.proofs.Common.{◌≡◌, ◌<◌, ◌+◌, inl, inr, ℕ, ℤ, true, List, [], ◌∷◌, ◌++◌, length, get_or, drop, Option, None, is_some, true≢false, refl, sym, ap, ⊎_elim, subst, ◌∙◌, append_assoc, arith}
use Rattle.std.proofs.lemmas.Bool.{cases_lt}
use Rattle.tick_time.specs.declared.rates.Rate.{Rate}
use Rattle.text_lines.specs.Lines.{lines_of}
use Rattle.media_rows.specs.Rows.{by_reel, by_url, AreRows}
use Rattle.media_rows.specs.declared.row.MediaRow.{MediaRow}
use Rattle.media_list.specs.Lines.{Fields, IsSkipped, IsForm, IsRow, LineSays, nothing, one, HasNoRate, HasNoSpan, IsSpan, IsNew, IsOwnFault, IsTwice, IsLineFault, own, twice}
use Rattle.tick_time.specs.RateWords.{IsRateWord}
use Rattle.media_list.specs.Lists.{LinesSay, IsMediaList, IsFirstFault, IsFault}
use Rattle.media_list.specs.declared.faults.MediaFault.{MediaFault}
use Rattle.media_list.specs.declared.faults.MediaFault.TheVariants.{Line, Rate as NoRate, Range, ReelTwice, UrlTwice, Large, Memory}
use Rattle.media_list.proofs.LookUps.{earlier_new}
use Rattle.tick_time.proofs.RateWordLemmas.{rate_once}
use Rattle.media_list.proofs.SpanLemmas.{span_once}

abbrev fields_back : List (List ℕ) → Fields
fields_back l = record {
  reel = get_or l 0 [];
  rate = get_or l 1 [];
  start = get_or l 2 [];
  count =
      get_or l 3 [];
  url = get_or l 4 [];
}

-- a line has the fields of one form
pub form_once : (line : List ℕ) (f g : Fields) → IsForm line f → IsForm line g → f ≡ g
form_once line f g p q = ap fields_back (sym p.fields ∙ q.fields)

abbrev made : List ℕ → List ℕ → Rate → ℤ → ℤ → MediaRow
made reel url rate start count = record {
  reel = reel;
  url = url;
  rate = rate;
  start =
      start;
  count = count;
}

same_row : (a b : MediaRow) → a.reel ≡ b.reel → a.url ≡ b.url → a.rate ≡ b.rate → a.start ≡ b.start
    → a.count ≡ b.count → a ≡ b
same_row a b reel url rate start count =
    ap (λ x. made x a.url a.rate a.start a.count) reel
    ∙ ap (λ x. made b.reel x a.rate a.start a.count) url
    ∙ ap (λ x. made b.reel b.url x a.start a.count) rate
    ∙ ap (λ x. made b.reel b.url b.rate x a.count) start
    ∙ ap (λ x. made b.reel b.url b.rate b.start x) count

-- a line says one row
pub row_once : (line : List ℕ) (a b : MediaRow) → IsRow line a → IsRow line b → a ≡ b
row_once line a b p q =
    let f : p.fields ≡ q.fields = form_once line p.fields q.fields p.form q.form in
    let rate : a.rate ≡ b.rate = rate_once q.fields.rate a.rate b.rate
    (subst (λ x. IsRateWord x.rate a.rate) f p.rate) q.rate in
    let span = span_once b.rate q.fields a.start b.start a.count b.count
    (subst (λ x. IsSpan x q.fields a.start a.count) rate
    (subst (λ x. IsSpan a.rate x a.start a.count) f p.span)) q.span in
    same_row a b (p.reel ∙ ap (λ x. x.reel) f ∙ sym q.reel) (p.url ∙ ap (λ x. x.url) f
    ∙ sym q.url) rate span.0 span.1

skipped_no_row : (line : List ℕ) (row : MediaRow) → IsSkipped line → IsRow line row → ⊥
skipped_no_row line row skip is = true≢false (sym skip.comment ∙ is.form.other)

-- and says one list of rows
says_once : (line : List ℕ) (a b : List MediaRow) → LineSays line a → LineSays line b → a ≡ b
says_once line a b (nothing p e) (nothing q h) = e ∙ sym h
says_once line a b (nothing p e) (one row q h) = absurd (skipped_no_row line row p q)
says_once line a b (one row p e) (nothing q h) = absurd (skipped_no_row line row q p)
says_once line a b (one r p e) (one s q h) = e ∙ ap (λ x. x ∷ []) (row_once line r s p q) ∙ sym h

-- lines say one list of rows
pub say_once : (lines : List (List ℕ)) (a b : List MediaRow) → LinesSay lines a → LinesSay lines b
    → a ≡ b
say_once [] a b p q = p ∙ sym q
say_once (line ∷ lines) a b p q =
    p.2 ∙ ap (λ l. l ++ p.1) (says_once line p.0 q.0 p.3 q.3)
    ∙ ap (λ l. q.0 ++ l) (say_once lines p.1 q.1 p.4 q.4) ∙ sym q.2

-- lines that stand one after the other say their rows so
pub say_more : (lines more : List (List ℕ)) (a b : List MediaRow) → LinesSay lines a
    → LinesSay more b → LinesSay (lines ++ more) (a ++ b)
say_more [] more a b p q = subst (LinesSay more) (ap (λ l. l ++ b) (sym p)) q
say_more (line ∷ lines) more a b p q = (
  p.0,
  p.1 ++ b,
  ap (λ l. l ++ b) p.2
      ∙ append_assoc p.0 p.1 b,
  p.3,
  say_more lines more p.1 b p.4 q,
)

-- what lines say that stand one after the other
record SayBoth (lines more : List (List ℕ)) (all : List MediaRow) : Type 0 where
  first : List MediaRow
  last : List MediaRow
  split : all ≡ first ++ last
  here : LinesSay lines first
  there : LinesSay more last

say_split : (lines more : List (List ℕ)) (all : List MediaRow) → LinesSay (lines ++ more) all
    → SayBoth lines more all
say_split [] more all p = record { first = []; last = all; split = refl; here = refl; there = p }
say_split (line ∷ lines) more all p =
    let rest = say_split lines more p.1 p.4 in
    record {
      first = p.0 ++ rest.first;
      last = rest.last;
      split = p.2 ∙ ap (λ l. p.0 ++ l) rest.split ∙ sym (append_assoc p.0 rest.first rest.last);
      here = (p.0, rest.first, refl, p.3, rest.here);
      there = rest.there;
    }

-- a line that is skipped has no fault of its own, and one that says a row has none
own_says : (n : ℕ) (line : List ℕ) (here : List MediaRow) (fault : MediaFault) → LineSays line here
    → IsOwnFault n line fault → ⊥
own_says n line here (Line k) (nothing skip e) w = w.1.kept skip
own_says n line here (Line k) (one row is e) w = w.1.wrong is.fields is.form
own_says n line here (NoRate k) (nothing skip e) w = true≢false (sym skip.comment ∙ w.1.form.other)
own_says n line here (NoRate k) (one row is e) w =
    w.1.none row.rate (subst (λ x. IsRateWord x.rate row.rate)
    (form_once line is.fields w.1.fields is.form w.1.form) is.rate)
own_says n line here (Range k) (nothing skip e) w = true≢false (sym skip.comment ∙ w.1.form.other)
own_says n line here (Range k) (one row is e) w =
    let f = form_once line is.fields w.1.fields is.form w.1.form in
    let rate : row.rate ≡ w.1.rate = rate_once w.1.fields.rate row.rate w.1.rate
    (subst (λ x. IsRateWord x.rate row.rate) f is.rate) w.1.is_rate in
    w.1.none row.start row.count (subst (λ x. IsSpan x w.1.fields row.start row.count) rate
    (subst (λ x. IsSpan row.rate x row.start row.count) f is.span))
own_says n line here (ReelTwice k) says w = w
own_says n line here (UrlTwice k) says w = w
own_says n line here Large says w = w
own_says n line here Memory says w = w

none_some : (o : Option MediaRow) → o ≡ None → is_some o ≡ true → ⊥
none_some o e h = true≢false (sym h ∙ ap is_some e)

twice_new : (rows : List MediaRow) (n : ℕ) (row : MediaRow) (fault : MediaFault) → IsNew rows row
    → IsTwice rows n row fault → ⊥
twice_new rows n row (Line k) new t = t
twice_new rows n row (NoRate k) new t = t
twice_new rows n row (Range k) new t = t
twice_new rows n row (ReelTwice k) new t = none_some (by_reel row.reel rows) new.0 t.1
twice_new rows n row (UrlTwice k) new t = none_some (by_url row.url rows) new.1 t.1.1
twice_new rows n row Large new t = t
twice_new rows n row Memory new t = t

-- a line among those of a list has no fault
refuted : (rows : List MediaRow) (n : ℕ) (line : List ℕ) (here others : List MediaRow)
    (fault : MediaFault) → LineSays line here
    → AreRows (rows ++ (here ++ others)) → IsLineFault rows n line fault → ⊥
refuted rows n line here others fault says apart (own w) = own_says n line here fault says w
refuted rows n line here others fault (nothing skip e) apart (twice row is w) =
    skipped_no_row line row skip is
refuted rows n line here others fault (one other says e) apart (twice row is w) =
    twice_new rows n row fault (earlier_new rows row others
    (subst AreRows (ap (λ l. rows ++ (l ++ others)) (e
    ∙ ap (λ x. x ∷ []) (row_once line other row says is))) apart)) w

-- lines that say distinct rows have no fault
fault_refuted : (before : List (List ℕ)) (line : List ℕ) (behind : List (List ℕ))
    (rows all : List MediaRow) (n : ℕ) (fault : MediaFault)
    → LinesSay before rows → LinesSay (before ++ line ∷ behind) all → AreRows all
    → IsLineFault rows n line fault → ⊥
fault_refuted before line behind rows all n fault say says apart wrong =
    let both = say_split before (line ∷ behind) all says in
    let there = both.there in
    let same : all ≡ rows ++ (there.0 ++ there.1) =
    both.split ∙ ap (λ l. l ++ both.last) (say_once before both.first rows both.here say)
    ∙ ap (λ l. rows ++ l) there.2 in
    refuted rows n line there.0 there.1 fault there.3 (subst AreRows same apart) wrong

-- bytes that are a list have no fault
pub list_or_fault : (bytes : List ℕ) (rows : List MediaRow) (fault : MediaFault)
    → IsMediaList bytes rows → IsFault bytes fault → ⊥
list_or_fault bytes rows fault list (inl large) = omega (arith, list.small, large.1)
list_or_fault bytes rows fault list (inr first) =
    let f = first.1 in
    fault_refuted f.before f.line f.behind f.rows rows _ fault f.say
    (subst (λ l. LinesSay l rows) f.split list.say) list.apart f.wrong

pub list_once : (bytes : List ℕ) (a b : List MediaRow) → IsMediaList bytes a → IsMediaList bytes b
    → a ≡ b
list_once bytes a b p q = say_once (lines_of bytes) a b p.say q.say

-- a line's rate is one or none
rate_or_none : (line : List ℕ) → HasNoRate line → HasNoSpan line → ⊥
rate_or_none line p q =
    p.none q.rate (subst (λ x. IsRateWord x.rate q.rate)
    (form_once line q.fields p.fields q.form p.form) q.is_rate)

-- a line has one fault of its own
own_once : (n : ℕ) (line : List ℕ) (f g : MediaFault) → IsOwnFault n line f → IsOwnFault n line g
    → f ≡ g
own_once n line (Line k) (Line j) p q = ap Line (p.0 ∙ sym q.0)
own_once n line (Line k) (NoRate j) p q = absurd (p.1.wrong q.1.fields q.1.form)
own_once n line (Line k) (Range j) p q = absurd (p.1.wrong q.1.fields q.1.form)
own_once n line (Line k) (ReelTwice j) p q = absurd q
own_once n line (Line k) (UrlTwice j) p q = absurd q
own_once n line (Line k) Large p q = absurd q
own_once n line (Line k) Memory p q = absurd q
own_once n line (NoRate k) (Line j) p q = absurd (q.1.wrong p.1.fields p.1.form)
own_once n line (NoRate k) (NoRate j) p q = ap NoRate (p.0 ∙ sym q.0)
own_once n line (NoRate k) (Range j) p q = absurd (rate_or_none line p.1 q.1)
own_once n line (NoRate k) (ReelTwice j) p q = absurd q
own_once n line (NoRate k) (UrlTwice j) p q = absurd q
own_once n line (NoRate k) Large p q = absurd q
own_once n line (NoRate k) Memory p q = absurd q
own_once n line (Range k) (Line j) p q = absurd (q.1.wrong p.1.fields p.1.form)
own_once n line (Range k) (NoRate j) p q = absurd (rate_or_none line q.1 p.1)
own_once n line (Range k) (Range j) p q = ap Range (p.0 ∙ sym q.0)
own_once n line (Range k) (ReelTwice j) p q = absurd q
own_once n line (Range k) (UrlTwice j) p q = absurd q
own_once n line (Range k) Large p q = absurd q
own_once n line (Range k) Memory p q = absurd q
own_once n line (ReelTwice k) g p q = absurd p
own_once n line (UrlTwice k) g p q = absurd p
own_once n line Large g p q = absurd p
own_once n line Memory g p q = absurd p

-- a row is twice in one way
twice_once : (rows : List MediaRow) (n : ℕ) (row : MediaRow) (f g : MediaFault)
    → IsTwice rows n row f → IsTwice rows n row g → f ≡ g
twice_once rows n row (Line k) g p q = absurd p
twice_once rows n row (NoRate k) g p q = absurd p
twice_once rows n row (Range k) g p q = absurd p
twice_once rows n row (ReelTwice k) (Line j) p q = absurd q
twice_once rows n row (ReelTwice k) (NoRate j) p q = absurd q
twice_once rows n row (ReelTwice k) (Range j) p q = absurd q
twice_once rows n row (ReelTwice k) (ReelTwice j) p q = ap ReelTwice (p.0 ∙ sym q.0)
twice_once rows n row (ReelTwice k) (UrlTwice j) p q = absurd
    (none_some (by_reel row.reel rows) q.1.0 p.1)
twice_once rows n row (ReelTwice k) Large p q = absurd q
twice_once rows n row (ReelTwice k) Memory p q = absurd q
twice_once rows n row (UrlTwice k) (Line j) p q = absurd q
twice_once rows n row (UrlTwice k) (NoRate j) p q = absurd q
twice_once rows n row (UrlTwice k) (Range j) p q = absurd q
twice_once rows n row (UrlTwice k) (ReelTwice j) p q = absurd
    (none_some (by_reel row.reel rows) p.1.0 q.1)
twice_once rows n row (UrlTwice k) (UrlTwice j) p q = ap UrlTwice (p.0 ∙ sym q.0)
twice_once rows n row (UrlTwice k) Large p q = absurd q
twice_once rows n row (UrlTwice k) Memory p q = absurd q
twice_once rows n row Large g p q = absurd p
twice_once rows n row Memory g p q = absurd p

-- a line has one fault
line_fault_once : (rows : List MediaRow) (n : ℕ) (line : List ℕ) (f g : MediaFault)
    → IsLineFault rows n line f → IsLineFault rows n line g → f ≡ g
line_fault_once rows n line f g (own p) (own q) = own_once n line f g p q
line_fault_once rows n line f g (own p) (twice row is q) = absurd
    (own_says n line (row ∷ []) f (one row is refl) p)
line_fault_once rows n line f g (twice row is p) (own q) = absurd
    (own_says n line (row ∷ []) g (one row is refl) q)
line_fault_once rows n line f g (twice a is p) (twice b also q) =
    twice_once rows n b f g (subst (λ r. IsTwice rows n r f) (row_once line a b is also) p) q

-- a line that stands before another
pub stands_before : (xs ys behind more : List (List ℕ)) (x y : List ℕ)
    → xs ++ x ∷ behind ≡ ys ++ y ∷ more → length xs < length ys
    → (between : List (List ℕ)) × (ys ≡ xs ++ x ∷ between)
stands_before xs [] behind more x y e below = absurd (omega (arith, below))
stands_before [] (z ∷ ys) behind more x y e below =
    (ys, ap (λ l. l ++ ys) (ap (λ l. get_or l 0 [] ∷ []) (sym e)))
stands_before (w ∷ xs) (z ∷ ys) behind more x y e below =
    let rest = stands_before xs ys behind more x y (ap (drop 1) e) (omega (arith, below)) in
    (rest.0, ap (λ l. get_or l 0 [] ∷ ys) (sym e) ∙ ap (λ l. w ∷ l) rest.1)

pub stands_same : (xs ys behind more : List (List ℕ)) (x y : List ℕ) → xs ++ x ∷ behind ≡ ys ++ y ∷ more
    → length xs ≡ length ys
    → (xs ≡ ys) × (x ≡ y)
stands_same [] [] behind more x y e same = (refl, ap (λ l. get_or l 0 []) e)
stands_same [] (z ∷ ys) behind more x y e same = absurd (omega (arith, same))
stands_same (w ∷ xs) [] behind more x y e same = absurd (omega (arith, same))
stands_same (w ∷ xs) (z ∷ ys) behind more x y e same =
    let rest = stands_same xs ys behind more x y (ap (drop 1) e) (omega (arith, same)) in
    (ap (λ l. get_or l 0 [] ∷ xs) e ∙ ap (λ l. z ∷ l) rest.0, rest.1)

earlier_wrong : (lines : List (List ℕ)) (f g : MediaFault) (p : IsFirstFault lines f)
    (q : IsFirstFault lines g) → length p.before < length q.before → ⊥
earlier_wrong lines f g p q below =
    let at = stands_before p.before q.before p.behind q.behind p.line q.line (sym p.split
    ∙ q.split) below in
    fault_refuted p.before p.line at.0 p.rows q.rows _ f p.say
    (subst (λ l. LinesSay l q.rows) at.1 q.say) q.apart p.wrong

same_wrong : (lines : List (List ℕ)) (f g : MediaFault) (p : IsFirstFault lines f)
    (q : IsFirstFault lines g) → length p.before ≡ length q.before → f ≡ g
same_wrong lines f g p q same =
    let at = stands_same p.before q.before p.behind q.behind p.line q.line (sym p.split
    ∙ q.split) same in
    let rows : p.rows ≡ q.rows = say_once q.before p.rows q.rows
    (subst (λ l. LinesSay l p.rows) at.0 p.say) q.say in
    let here : IsLineFault q.rows (length q.before + 1) q.line f =
    subst (λ l. IsLineFault q.rows (length q.before + 1) l f) at.1
    (subst (λ n. IsLineFault q.rows (n + 1) p.line f) same
    (subst (λ r. IsLineFault r (length p.before + 1) p.line f) rows p.wrong)) in
    line_fault_once q.rows (length q.before + 1) q.line f g here q.wrong

-- two places of which neither is the earlier one are one place
pub same_place : {A : Type 0} (m n : ℕ) → (m < n → ⊥) → (n < m → ⊥) → (m ≡ n → A) → A
same_place m n before behind same =
    ⊎_elim (λ below. absurd (before below))
    (λ above. ⊎_elim (λ beyond. absurd (behind beyond)) (λ le. same (omega (arith, above, le)))
    (cases_lt n m)) (cases_lt m n)

first_once : (lines : List (List ℕ)) (f g : MediaFault) → IsFirstFault lines f
    → IsFirstFault lines g → f ≡ g
first_once lines f g p q = same_place (length p.before) (length q.before)
    (earlier_wrong lines f g p q) (earlier_wrong lines g f q p) (same_wrong lines f g p q)

-- bytes have one fault
pub fault_once : (bytes : List ℕ) (f g : MediaFault) → IsFault bytes f → IsFault bytes g → f ≡ g
fault_once bytes f g (inl p) (inl q) = p.0 ∙ sym q.0
fault_once bytes f g (inl p) (inr q) = absurd (omega (arith, p.1, q.0))
fault_once bytes f g (inr p) (inl q) = absurd (omega (arith, p.0, q.1))
fault_once bytes f g (inr p) (inr q) = first_once (lines_of bytes) f g p.1 q.1
