-- Bytes have one outcome.
use Rattle.std.proofs.Common.{◌≡◌, ◌≢◌, ◌<◌, ◌+◌, ◌⊎◌, inl, inr, ℕ, List, [], ◌∷◌, ◌++◌, length, Option, Some, None, codes, refl, sym, ap, ap₂, subst, ◌∙◌, arith}
use Rattle.tick_time.specs.declared.rates.Rate.{Rate}
use Rattle.tick_time.proofs.RateWordLemmas.{rate_once}
use Rattle.media_rows.specs.declared.row.MediaRow.{MediaRow}
use Rattle.media_list.proofs.OneOutcome.{stands_before, stands_same}
use Rattle.std.proofs.lemmas.Option.{same_Some}
use Rattle.media_list.proofs.OneOutcome.{same_place}
use Rattle.ale_text.specs.Words.{IsSection, IsLogRate}
use Rattle.ale_text.specs.Lines.{IsHeadingEntry, GivesRate, IsColumns, Taking, Takes, LacksLabel, RowSays, taken, nothing, Follows, LineSays, blank, full, IsMisplaced, LacksRate, LacksLabelAt, IsWrong, IsLineFault, column_word, frame_of, field_of}
use Rattle.ale_text.specs.Logs.{LinesSay, IsLog, IsFirstFault, EndsEarly, MustGoOn, IsFault, log_lines, log_rows}
use Rattle.ale_text.specs.declared.faults.AleFault.{AleFault}
use Rattle.ale_text.specs.declared.faults.AleFault.TheVariants.{Form, Rate as NoRate, Label, Large, Memory}
use Rattle.ale_text.specs.declared.sections.Columns.{Columns}
use Rattle.ale_text.specs.declared.sections.Due.{Due}
use Rattle.ale_text.specs.declared.sections.Due.TheVariants.{Heading, Entry, Names, Data, Row}
use Rattle.ale_text.proofs.HeadingLemmas.{entry_names, entry_values}

-- ---- a line of the heading

same_word : (a b : List ℕ) → a ≡ b → a ≢ b → ⊥
same_word a b e other = other e

-- a name and a value give one rate
gives_once : (before : Option Rate) (name value : List ℕ) (a b : Option Rate)
    → GivesRate before name value a → GivesRate before name value b → a ≡ b
gives_once (Some rate) name value a b p q = p ∙ sym q
gives_once None name value (Some a) (Some b) p q =
    ap Some (rate_once value a b p.1.means q.1.means)
gives_once None name value (Some a) None p q = absurd (q p.0)
gives_once None name value None (Some b) p q = absurd (p q.0)
gives_once None name value None None p q = refl

entry_once : (line : List ℕ) (before a b : Option Rate) → IsHeadingEntry line before a
    → IsHeadingEntry line before b → a ≡ b
entry_once line before a b p q =
    gives_once before q.name q.value a b
    (subst (λ v. GivesRate before q.name v a)
    (entry_values line p.name p.value q.name q.value p.is q.is)
    (subst (λ n. GivesRate before n p.value a)
    (entry_names line p.name p.value q.name q.value p.is q.is) p.gives)) q.gives

-- ---- columns

abbrev made_columns : ℕ → ℕ → ℕ → Columns
made_columns tape start end = record { tape = tape; start = start; end = end }

columns_once : (names : List ℕ) (a b : Columns) → IsColumns names a → IsColumns names b → a ≡ b
columns_once names a b p q =
    ap (λ x. made_columns x a.start a.end) (same_Some _ _ (sym p.tape ∙ q.tape))
    ∙ ap (λ x. made_columns b.tape x a.end) (same_Some _ _ (sym p.start ∙ q.start))
    ∙ ap (made_columns b.tape b.start) (same_Some _ _ (sym p.end ∙ q.end))

-- ---- rows

abbrev made_taking : List ℕ → ℕ → ℕ → Taking
made_taking tape start end = record { tape = tape; start = start; end = end }

takes_once : (rate : Rate) (columns : Columns) (row : List ℕ) (a b : Taking)
    → Takes rate columns row a → Takes rate columns row b → a ≡ b
takes_once rate columns row a b p q =
    ap (λ x. made_taking x a.start a.end) (sym p.tape ∙ q.tape)
    ∙ ap (λ x. made_taking b.tape x a.end) (same_Some _ _ (sym p.start ∙ q.start))
    ∙ ap (made_taking b.tape b.start) (same_Some _ _ (sym p.end ∙ q.end))

row_once : (rate : Rate) (columns : Columns) (row : List ℕ) (a b : List Taking)
    → RowSays rate columns row a → RowSays rate columns row b → a ≡ b
row_once rate columns row a b (taken t p e) (taken u q f) =
    e ∙ ap (λ x. x ∷ []) (takes_once rate columns row t u p q) ∙ sym f
row_once rate columns row a b (taken t p e) (nothing other lacks f) = absurd (other t p)
row_once rate columns row a b (nothing other lacks e) (taken u q f) = absurd (other u q)
row_once rate columns row a b (nothing other lacks e) (nothing more lack f) = e ∙ sym f

none_some : {A : Type 0} (o : Option A) (x : A) → o ≡ None → o ≡ Some x → ⊥
none_some o x e f = let h : None ≡ Some x = sym e ∙ f in cc

-- a row that says something lacks no label
row_right : (rate : Rate) (columns : Columns) (row : List ℕ) (said : List Taking)
    → RowSays rate columns row said → LacksLabel rate columns row → ⊥
row_right rate columns row said (taken t p e) lacks = by lacks.none
  where
    by : (frame_of rate (field_of row columns.start) ≡ None)
        ⊎ (frame_of rate (field_of row columns.end) ≡ None) → ⊥
    by (inl none) = none_some (frame_of rate (field_of row columns.start)) t.start none p.start
    by (inr none) = none_some (frame_of rate (field_of row columns.end)) t.end none p.end
row_right rate columns row said (nothing other right e) lacks = right lacks

-- ---- any line

-- what a line says, and what is due behind it, are one
pub record SameSaid (a b : List Taking) (m n : Due) : Type 0 where
  pub said : a ≡ b
  pub due : m ≡ n

same : (a b : List Taking) (m n : Due) → a ≡ b → m ≡ n → SameSaid a b m n
same a b m n e f = record { said = e; due = f }

follows_once : (due m n : Due) (line : List ℕ) (a b : List Taking) → Follows due line a m
    → Follows due line b n → SameSaid a b m n
follows_once Heading m n line a b p q = same a b m n (p.1 ∙ sym q.1) (p.2 ∙ sym q.2)
follows_once (Entry before) Heading n line a b p q = absurd p
follows_once (Entry before) (Data r c) n line a b p q = absurd p
follows_once (Entry before) (Row r c) n line a b p q = absurd p
follows_once (Entry before) (Entry x) Heading line a b p q = absurd q
follows_once (Entry before) (Entry x) (Data r c) line a b p q = absurd q
follows_once (Entry before) (Entry x) (Row r c) line a b p q = absurd q
follows_once (Entry before) (Entry x) (Entry y) line a b p q =
    same a b (Entry x) (Entry y) (p.1 ∙ sym q.1) (ap Entry (entry_once line before x y p.0 q.0))
follows_once (Entry before) (Entry x) (Names r) line a b p q = absurd (p.0.other q.0)
follows_once (Entry before) (Names r) Heading line a b p q = absurd q
follows_once (Entry before) (Names r) (Data s c) line a b p q = absurd q
follows_once (Entry before) (Names r) (Row s c) line a b p q = absurd q
follows_once (Entry before) (Names r) (Entry y) line a b p q = absurd (q.0.other p.0)
follows_once (Entry before) (Names r) (Names s) line a b p q =
    same a b (Names r) (Names s) (p.2 ∙ sym q.2) (ap Names (same_Some _ _ (sym p.1 ∙ q.1)))
follows_once (Names rate) Heading n line a b p q = absurd p
follows_once (Names rate) (Entry x) n line a b p q = absurd p
follows_once (Names rate) (Names r) n line a b p q = absurd p
follows_once (Names rate) (Row r c) n line a b p q = absurd p
follows_once (Names rate) (Data r c) Heading line a b p q = absurd q
follows_once (Names rate) (Data r c) (Entry x) line a b p q = absurd q
follows_once (Names rate) (Data r c) (Names s) line a b p q = absurd q
follows_once (Names rate) (Data r c) (Row s d) line a b p q = absurd q
follows_once (Names rate) (Data r c) (Data s d) line a b p q =
    same a b (Data r c) (Data s d) (p.2 ∙ sym q.2)
    (ap₂ Data (p.1 ∙ sym q.1) (columns_once line c d p.0 q.0))
follows_once (Data rate columns) m n line a b p q = same a b m n (p.1 ∙ sym q.1) (p.2 ∙ sym q.2)
follows_once (Row rate columns) m n line a b p q =
    same a b m n (row_once rate columns line a b p.0 q.0) (p.1 ∙ sym q.1)

says_once : (due m n : Due) (line : List ℕ) (a b : List Taking) → LineSays due line a m
    → LineSays due line b n → SameSaid a b m n
says_once due m n line a b (blank p e f) (blank q g h) = same a b m n (e ∙ sym g) (f ∙ sym h)
says_once due m n line a b (blank p e f) (full q g) = absurd (q p)
says_once due m n line a b (full p e) (blank q g h) = absurd (p q)
says_once due m n line a b (full p e) (full q g) = follows_once due m n line a b e g

-- lines say one thing
pub say_once : (due m n : Due) (lines : List (List ℕ)) (a b : List Taking)
    → LinesSay due lines a m → LinesSay due lines b n → SameSaid a b m n
say_once due m n [] a b p q = same a b m n (p.0 ∙ sym q.0) (p.1 ∙ sym q.1)
say_once due m n (line ∷ lines) a b p q =
    let here = says_once due p.2 q.2 line p.0 q.0 p.4 q.4 in
    let rest = say_once q.2 m n lines p.1 q.1
    (subst (λ d. LinesSay d lines p.1 m) here.due p.5) q.5 in
    same a b m n (p.3 ∙ ap₂ (λ x y. x ++ y) here.said rest.said ∙ sym q.3) rest.due

-- ---- faults

-- an entry has its form
entry_right : (line : List ℕ) (before behind : Option Rate) → IsHeadingEntry line before behind
    → IsMisplaced (Entry before) line → ⊥
entry_right line before behind p (inl wrong) = wrong.wrong p.name p.value p.is p.tabbed
entry_right line before behind p (inr section) = p.other section.0

-- and gives a rate where it must
rate_right : (line : List ℕ) (before behind : Option Rate) → IsHeadingEntry line before behind
    → LacksRate (Entry before) line → ⊥
rate_right line (Some rate) behind p lacks = lacks
rate_right line None (Some rate) p lacks =
    lacks.none rate (subst (λ v. IsLogRate v rate)
    (entry_values line p.name p.value (codes "FPS") lacks.value p.is lacks.is) p.gives.1)
rate_right line None None p lacks =
    p.gives (entry_names line p.name p.value (codes "FPS") lacks.value p.is lacks.is)

names_right : (line : List ℕ) (before : Option Rate) (rate : Rate)
    → IsSection column_word line → before ≡ Some rate → IsMisplaced (Entry before) line → ⊥
names_right line before rate section e (inl wrong) = wrong.other section
names_right line before rate section e (inr none) = none_some before rate none.1 e

names_rated : (line : List ℕ) (before : Option Rate) → IsSection column_word line
    → LacksRate (Entry before) line → ⊥
names_rated line (Some rate) section lacks = lacks
names_rated line None section lacks = lacks.other section

-- a line that may stand there has no fault
follows_right : (due next : Due) (n : ℕ) (line : List ℕ) (said : List Taking) (fault : AleFault)
    → Follows due line said next → IsWrong due n line fault → ⊥
follows_right Heading next n line said (Form k) f w = w.1 f.0
follows_right Heading next n line said (NoRate k) f w = w.1
follows_right Heading next n line said (Label k) f w = w.1
follows_right Heading next n line said Large f w = w
follows_right Heading next n line said Memory f w = w
follows_right (Entry before) Heading n line said fault f w = f
follows_right (Entry before) (Data r c) n line said fault f w = f
follows_right (Entry before) (Row r c) n line said fault f w = f
follows_right (Entry before) (Entry x) n line said (Form k) f w = entry_right line before x f.0 w.1
follows_right (Entry before) (Entry x) n line said (NoRate k) f w = rate_right line before x f.0 w.1
follows_right (Entry before) (Entry x) n line said (Label k) f w = w.1
follows_right (Entry before) (Entry x) n line said Large f w = w
follows_right (Entry before) (Entry x) n line said Memory f w = w
follows_right (Entry before) (Names r) n line said (Form k) f w =
    names_right line before r f.0 f.1 w.1
follows_right (Entry before) (Names r) n line said (NoRate k) f w = names_rated line before f.0 w.1
follows_right (Entry before) (Names r) n line said (Label k) f w = w.1
follows_right (Entry before) (Names r) n line said Large f w = w
follows_right (Entry before) (Names r) n line said Memory f w = w
follows_right (Names rate) Heading n line said fault f w = f
follows_right (Names rate) (Entry x) n line said fault f w = f
follows_right (Names rate) (Names r) n line said fault f w = f
follows_right (Names rate) (Row r c) n line said fault f w = f
follows_right (Names rate) (Data r c) n line said (Form k) f w = w.1 c f.0
follows_right (Names rate) (Data r c) n line said (NoRate k) f w = w.1
follows_right (Names rate) (Data r c) n line said (Label k) f w = w.1
follows_right (Names rate) (Data r c) n line said Large f w = w
follows_right (Names rate) (Data r c) n line said Memory f w = w
follows_right (Data rate columns) next n line said (Form k) f w = w.1 f.0
follows_right (Data rate columns) next n line said (NoRate k) f w = w.1
follows_right (Data rate columns) next n line said (Label k) f w = w.1
follows_right (Data rate columns) next n line said Large f w = w
follows_right (Data rate columns) next n line said Memory f w = w
follows_right (Row rate columns) next n line said (Form k) f w = w.1
follows_right (Row rate columns) next n line said (NoRate k) f w = w.1
follows_right (Row rate columns) next n line said (Label k) f w =
    row_right rate columns line said f.0 w.1
follows_right (Row rate columns) next n line said Large f w = w
follows_right (Row rate columns) next n line said Memory f w = w

line_right : (due next : Due) (n : ℕ) (line : List ℕ) (said : List Taking) (fault : AleFault)
    → LineSays due line said next → IsLineFault due n line fault → ⊥
line_right due next n line said fault (blank is e f) w = w.0 is
line_right due next n line said fault (full other f) w =
    follows_right due next n line said fault f w.1

-- a misplaced entry gives no rate
misplaced_rate : (due : Due) (line : List ℕ) → IsMisplaced due line → LacksRate due line → ⊥
misplaced_rate Heading line p q = q
misplaced_rate (Entry (Some rate)) line p q = q
misplaced_rate (Entry None) line p q = by p
  where
    by : IsMisplaced (Entry None) line → ⊥
    by (inl wrong) = wrong.wrong (codes "FPS") q.value q.is
        (λ (e : codes "FPS" ≡ codes "FIELD_DELIM"). absurd (omega (arith, ap length e)))
    by (inr section) = q.other section.0
misplaced_rate (Names rate) line p q = q
misplaced_rate (Data rate columns) line p q = q
misplaced_rate (Row rate columns) line p q = p

misplaced_label : (due : Due) (line : List ℕ) → IsMisplaced due line → LacksLabelAt due line → ⊥
misplaced_label Heading line p q = q
misplaced_label (Entry rate) line p q = q
misplaced_label (Names rate) line p q = q
misplaced_label (Data rate columns) line p q = q
misplaced_label (Row rate columns) line p q = p

rate_label : (due : Due) (line : List ℕ) → LacksRate due line → LacksLabelAt due line → ⊥
rate_label Heading line p q = p
rate_label (Entry rate) line p q = q
rate_label (Names rate) line p q = p
rate_label (Data rate columns) line p q = p
rate_label (Row rate columns) line p q = p

-- a line has one fault
wrong_once : (due : Due) (n : ℕ) (line : List ℕ) (f g : AleFault) → IsWrong due n line f
    → IsWrong due n line g → f ≡ g
wrong_once due n line (Form k) (Form j) p q = ap Form (p.0 ∙ sym q.0)
wrong_once due n line (Form k) (NoRate j) p q = absurd (misplaced_rate due line p.1 q.1)
wrong_once due n line (Form k) (Label j) p q = absurd (misplaced_label due line p.1 q.1)
wrong_once due n line (Form k) Large p q = absurd q
wrong_once due n line (Form k) Memory p q = absurd q
wrong_once due n line (NoRate k) (Form j) p q = absurd (misplaced_rate due line q.1 p.1)
wrong_once due n line (NoRate k) (NoRate j) p q = ap NoRate (p.0 ∙ sym q.0)
wrong_once due n line (NoRate k) (Label j) p q = absurd (rate_label due line p.1 q.1)
wrong_once due n line (NoRate k) Large p q = absurd q
wrong_once due n line (NoRate k) Memory p q = absurd q
wrong_once due n line (Label k) (Form j) p q = absurd (misplaced_label due line q.1 p.1)
wrong_once due n line (Label k) (NoRate j) p q = absurd (rate_label due line q.1 p.1)
wrong_once due n line (Label k) (Label j) p q = ap Label (p.0 ∙ sym q.0)
wrong_once due n line (Label k) Large p q = absurd q
wrong_once due n line (Label k) Memory p q = absurd q
wrong_once due n line Large g p q = absurd p
wrong_once due n line Memory g p q = absurd p

-- what lines say that stand one after the other
record SayBoth (due last : Due) (lines more : List (List ℕ)) (all : List Taking) : Type 0 where
  first : List Taking
  others : List Taking
  mid : Due
  here : LinesSay due lines first mid
  there : LinesSay mid more others last

say_split : (due last : Due) (lines more : List (List ℕ)) (all : List Taking)
    → LinesSay due (lines ++ more) all last → SayBoth due last lines more all
say_split due last [] more all p =
    record { first = []; others = all; mid = due; here = (refl, refl); there = p }
say_split due last (line ∷ lines) more all p =
    let rest = say_split p.2 last lines more p.1 p.5 in
    record {
      first = p.0 ++ rest.first;
      others = rest.others;
      mid = rest.mid;
      here = (p.0, rest.first, p.2, refl, p.4, rest.here);
      there = rest.there;
    }

-- lines that are right have no fault
right_lines-no_fault : (before : List (List ℕ)) (line : List ℕ) (behind : List (List ℕ))
    (said all : List Taking) (due last : Due) (n : ℕ) (fault : AleFault)
    → LinesSay Heading before said due → LinesSay Heading (before ++ line ∷ behind) all last
    → IsLineFault due n line fault → ⊥
right_lines-no_fault before line behind said all due last n fault say says wrong =
    let both = say_split Heading last before (line ∷ behind) all says in
    let once = say_once Heading both.mid due before both.first said both.here say in
    let there = both.there in
    line_right both.mid there.2 n line there.0 fault there.4
    (subst (λ d. IsLineFault d n line fault) (sym once.due) wrong)

earlier_wrong : (lines : List (List ℕ)) (f g : AleFault) (p : IsFirstFault lines f)
    (q : IsFirstFault lines g) → length p.before < length q.before → ⊥
earlier_wrong lines f g p q below =
    let at = stands_before p.before q.before p.behind q.behind p.line q.line (sym p.split
    ∙ q.split) below in
    right_lines-no_fault p.before p.line at.0 p.said q.said p.due q.due _ f p.say
    (subst (λ l. LinesSay Heading l q.said q.due) at.1 q.say) p.wrong

same_wrong : (lines : List (List ℕ)) (f g : AleFault) (p : IsFirstFault lines f)
    (q : IsFirstFault lines g) → length p.before ≡ length q.before → f ≡ g
same_wrong lines f g p q same =
    let at = stands_same p.before q.before p.behind q.behind p.line q.line (sym p.split
    ∙ q.split) same in
    let once = say_once Heading p.due q.due q.before p.said q.said
    (subst (λ l. LinesSay Heading l p.said p.due) at.0 p.say) q.say in
    let here : IsLineFault q.due (length q.before + 1) q.line f =
    subst (λ l. IsLineFault q.due (length q.before + 1) l f) at.1
    (subst (λ n. IsLineFault q.due (n + 1) p.line f) same
    (subst (λ d. IsLineFault d (length p.before + 1) p.line f) once.due p.wrong)) in
    wrong_once q.due (length q.before + 1) q.line f g here.1 q.wrong.1

first_once : (lines : List (List ℕ)) (f g : AleFault) → IsFirstFault lines f
    → IsFirstFault lines g → f ≡ g
first_once lines f g p q = same_place (length p.before) (length q.before)
    (earlier_wrong lines f g p q) (earlier_wrong lines g f q p) (same_wrong lines f g p q)

-- lines with a fault aren't all right
right_or_wrong : (lines : List (List ℕ)) (said : List Taking) (last : Due) (fault : AleFault)
    → LinesSay Heading lines said last → IsFirstFault lines fault → ⊥
right_or_wrong lines said last fault say f =
    right_lines-no_fault f.before f.line f.behind f.said said f.due last _ fault f.say
    (subst (λ l. LinesSay Heading l said last) f.split say) f.wrong

both_once : (lines : List (List ℕ)) (f g : AleFault)
    → IsFirstFault lines f ⊎ EndsEarly lines f → IsFirstFault lines g ⊎ EndsEarly lines g → f ≡ g
both_once lines f g (inl p) (inl q) = first_once lines f g p q
both_once lines f g (inl p) (inr q) = absurd (right_or_wrong lines q.said q.due f q.say p)
both_once lines f g (inr p) (inl q) = absurd (right_or_wrong lines p.said p.due g p.say q)
both_once lines f g (inr p) (inr q) = p.is ∙ sym q.is

-- bytes have one fault
pub fault_once : (bytes : List ℕ) (f g : AleFault) → IsFault bytes f → IsFault bytes g → f ≡ g
fault_once bytes f g (inl p) (inl q) = p.0 ∙ sym q.0
fault_once bytes f g (inl p) (inr q) = absurd (omega (arith, p.1, q.0))
fault_once bytes f g (inr p) (inl q) = absurd (omega (arith, p.0, q.1))
fault_once bytes f g (inr p) (inr q) = both_once (log_lines bytes) f g p.1 q.1

rate_of : Due → Option Rate
rate_of (Row rate columns) = Some rate
rate_of Heading = None
rate_of (Entry rate) = None
rate_of (Names rate) = None
rate_of (Data rate columns) = None

-- bytes are one log
pub log_once : (bytes : List ℕ) (a b : List MediaRow) → IsLog bytes a → IsLog bytes b → a ≡ b
unfolding rate_of
log_once bytes a b p q =
    let once = say_once Heading (Row p.rate p.columns) (Row q.rate q.columns) (log_lines bytes)
    p.takings q.takings p.say q.say in
    p.are ∙ ap₂ log_rows (same_Some _ _ (ap rate_of once.due)) once.said ∙ sym q.are

-- bytes that are a log have no fault
pub log_or_fault : (bytes : List ℕ) (rows : List MediaRow) (fault : AleFault) → IsLog bytes rows
    → IsFault bytes fault → ⊥
log_or_fault bytes rows fault log (inl large) = omega (arith, log.small, large.1)
log_or_fault bytes rows fault log (inr wrong) = by wrong.1
  where
    by : IsFirstFault (log_lines bytes) fault ⊎ EndsEarly (log_lines bytes) fault → ⊥
    by (inl first) = right_or_wrong (log_lines bytes) log.takings (Row log.rate log.columns) fault
        log.say first
    by (inr early) =
        let once = say_once Heading early.due (Row log.rate log.columns) (log_lines bytes)
        early.said log.takings early.say log.say in
        subst MustGoOn once.due early.more
