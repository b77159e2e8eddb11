-- What words give, and what it asks for.
use Rattle.std.proofs.Common.{◌≡◌, ℕ, Bool, true, false, List, [], ◌∷◌, Option, Some, None, refl, inl, inr, sym, ◌∙◌, ap, ap₂, subst, get_or, ◌≤◌, arith}
use Rattle.tick_time.specs.declared.rates.Rate.{Rate}
use Rattle.clap.specs.Words.{matches_of}
use Rattle.command_words.specs.Given.{Given, Gives, given_in}
use Rattle.command_words.specs.Options.{reader_of}
use Rattle.command_words.specs.Asked.{IsByNames, IsCat, IsStat, IsTool, IsPull, IsHandles, AreHandles, IsRate, IsInput, IsDefault, IsOutput, IsAskedOf, IsFamily, Ways, ways_in, IsConversion, IsCount, AreFrames, IsListing, IsFrameList, IsEditing, IsEdit, IsLogList, IsAskedBy, IsMedia, IsScript, OtherNames, ReadsOnce, IsRequest, Ask}
use Rattle.command_words.specs.declared.conversions.Form.{Form}
use Rattle.command_words.specs.declared.conversions.Form.TheVariants as form
use Rattle.command_words.specs.declared.requests.Command.{Command}
use Rattle.command_words.specs.declared.requests.Command.TheVariants.{ListToList, ListToObjects, TimelineToList, ToObjects, ToJson, Frames, ListFrames, Edit, ListEdit}
use Rattle.command_words.specs.declared.requests.Command.TheVariants.{Cat, ListCat, Stat, ListStat, Tool, ListTool, Pull, ListPull, LogToMedia}
use Rattle.command_words.specs.declared.requests.FramesAsked.{FramesAsked}
use Rattle.command_words.specs.declared.names.Verb.{Verb}
use Rattle.command_words.specs.declared.names.Verb.TheVariants as verbs
use Rattle.smpte_tc.specs.declared.points.RecordPoint.{RecordPoint}
use Rattle.smpte_tc.specs.Words.{IsWholeNumber, IsPoint}
use Rattle.smpte_tc.proofs.OnePoint.{number_once, point_once}
use Rattle.command_words.specs.Names.{word_of, IsListName}
use Rattle.command_words.proofs.Naming.{verb_once}
use Rattle.command_words.proofs.SameRates.{asked_rate_once}
use Rattle.command_words.proofs.SameTools.{tools_once, value_once}

list_not : (name : List ℕ) (f g : Form) → IsInput None name f → IsInput None name g → f ≡ g
list_not name form.Objects form.Objects p q = refl
list_not name form.Objects form.List p q = absurd (p q)
list_not name form.Objects form.Json p q = absurd q
list_not name form.List form.Objects p q = absurd (q p)
list_not name form.List form.List p q = refl
list_not name form.List form.Json p q = absurd q
list_not name form.Json g p q = absurd p

-- the first byte of a word
abbrev first : List ℕ → ℕ
first word = get_or word 0 0

-- a file is read as at most one form
pub input_once : (from : Option (List ℕ)) (name : List ℕ) (f g : Form) → IsInput from name f
    → IsInput from name g → f ≡ g
input_once None name f g p q = list_not name f g p q
input_once (Some word) name form.Objects form.Objects p q = refl
input_once (Some word) name form.Objects form.List p q =
    absurd (omega (arith, ap first p, ap first q))
input_once (Some word) name form.Objects form.Json p q = absurd q
input_once (Some word) name form.List form.Objects p q =
    absurd (omega (arith, ap first p, ap first q))
input_once (Some word) name form.List form.List p q = refl
input_once (Some word) name form.List form.Json p q = absurd q
input_once (Some word) name form.Json g p q = absurd p

default_once : (target : Option (List ℕ)) (f g : Form) → IsDefault target f → IsDefault target g
    → f ≡ g
default_once None form.Objects form.Objects p q = refl
default_once None form.Objects form.List p q = absurd q
default_once None form.Objects form.Json p q = absurd q
default_once None form.List g p q = absurd p
default_once None form.Json g p q = absurd p
default_once (Some t) form.Objects form.Objects p q = refl
default_once (Some t) form.Objects form.List p q = absurd (p q)
default_once (Some t) form.Objects form.Json p q = absurd q
default_once (Some t) form.List form.Objects p q = absurd (q p)
default_once (Some t) form.List form.List p q = refl
default_once (Some t) form.List form.Json p q = absurd q
default_once (Some t) form.Json g p q = absurd p

word_once : (word : List ℕ) (target : Option (List ℕ)) (f g : Form) → IsOutput (Some word) target f
    → IsOutput (Some word) target g → f ≡ g
word_once word target form.Objects form.Objects p q = refl
word_once word target form.Objects form.List p q = absurd (omega (arith, ap first p, ap first q))
word_once word target form.Objects form.Json p q = absurd (omega (arith, ap first p, ap first q))
word_once word target form.List form.Objects p q = absurd (omega (arith, ap first p, ap first q))
word_once word target form.List form.List p q = refl
word_once word target form.List form.Json p q = absurd (omega (arith, ap first p, ap first q))
word_once word target form.Json form.Objects p q = absurd (omega (arith, ap first p, ap first q))
word_once word target form.Json form.List p q = absurd (omega (arith, ap first p, ap first q))
word_once word target form.Json form.Json p q = refl

-- at most one form is written
pub output_once : (to target : Option (List ℕ)) (f g : Form) → IsOutput to target f
    → IsOutput to target g → f ≡ g
output_once None target f g p q = default_once target f g p q
output_once (Some word) target f g p q = word_once word target f g p q

-- at most one family is asked for
pub family_once : (asked : Option (List ℕ)) (a b : Bool) → IsFamily asked a → IsFamily asked b
    → a ≡ b
family_once None a b p q = p ∙ sym q
family_once (Some word) true true p q = refl
family_once (Some word) true false p q = absurd (omega (arith, ap first p, ap first q))
family_once (Some word) false true p q = absurd (omega (arith, ap first p, ap first q))
family_once (Some word) false false p q = refl

-- what is asked with these values
pub asked_with : (command : Command) (called name : List ℕ) (input output : Form) (rate : Rate)
    (older : Bool) (given : Given) → given.file ≡ Some name → IsInput given.from name input
    → IsOutput given.to given.target output → IsRate given.rate rate → IsFamily given.family older
    → IsConversion command called given
    → IsAskedOf command input output rate (ways_in given older) × (called ≡ name)
asked_with command called name input output rate older given file reads writes is family a =
    let same : called ≡ name = let e = sym a.file ∙ file in cc in
    let read : a.input ≡ input = input_once given.from name a.input input
    (subst (λ n. IsInput given.from n a.input) same a.reads) reads in
    let wrote : a.output ≡ output =
    output_once given.to given.target a.output output a.writes writes in
    let once = asked_rate_once given.rate a.rate rate a.is_rate is in
    let kin = family_once given.family a.older older a.family family in (
      subst (λ i. IsAskedOf command i output rate (ways_in given older)) read
          (subst (λ o. IsAskedOf command a.input o rate (ways_in given older)) wrote
          (subst (λ r. IsAskedOf command a.input a.output r (ways_in given older)) once
          (subst (λ f. IsAskedOf command a.input a.output a.rate (ways_in given f)) kin a.means))),
      same,
    )

first_words : (a b : List ℕ) (more others : List (List ℕ)) → a ∷ more ≡ b ∷ others → a ≡ b
first_words a b more others e = cc

other_words : (a b : List ℕ) (more others : List (List ℕ)) → a ∷ more ≡ b ∷ others → more ≡ others
other_words a b more others e = cc

-- words that begin with the word of a command are of that command alone, and the words after it
-- are the same
pub record SameWords (verb other : Verb) (behind rest : List (List ℕ)) : Type 0 where
  pub verbs : verb ≡ other
  pub words : behind ≡ rest

pub same_words : (words behind rest : List (List ℕ)) (verb other : Verb)
    → words ≡ word_of verb ∷ behind → words ≡ word_of other ∷ rest
    → SameWords verb other behind rest
same_words words behind rest verb other w v =
    let both = sym w ∙ v in record {
      verbs = verb_once verb other (first_words (word_of verb) (word_of other) behind rest both);
      words = other_words (word_of verb) (word_of other) behind rest both;
    }

-- such words give the same
pub same_given : (verb other : Verb) (behind rest : List (List ℕ)) (given found : Given)
    → SameWords verb other behind rest → Gives verb behind given → Gives other rest found
    → given ≡ found
same_given verb other behind rest given found same g h =
    let both = ap₂ (λ v ws. given_in (matches_of (reader_of v) ws)) same.verbs same.words in
    g.is ∙ both ∙ sym h.is

-- the command for what is read and what is written
abbrev asked_for : Form → Form → Rate → Ways → Option Command
asked_for form.List form.List rate ways = Some (ListToList rate ways.drop ways.wide ways.notes)
asked_for form.List form.Objects rate ways = Some (ListToObjects rate ways.older ways.notes)
asked_for form.Objects form.List rate ways = Some (TimelineToList ways.drop ways.wide ways.notes)
asked_for form.Objects form.Objects rate ways = Some (ToObjects ways.older)
asked_for form.Objects form.Json rate ways = Some ToJson
asked_for input output rate ways = None

asked_is : (command : Command) (input output : Form) (rate : Rate) (ways : Ways)
    → IsAskedOf command input output rate ways → asked_for input output rate ways ≡ Some command
asked_is (ListToList r f w t) form.Objects output rate ways p = absurd p
asked_is (ListToList r f w t) form.List form.Objects rate ways p = absurd p
asked_is (ListToList r f w t) form.List form.List rate ways p =
    let e = p.0 in let h = p.1 in let k = p.2 in let m = p.3 in cc
asked_is (ListToList r f w t) form.List form.Json rate ways p = absurd p
asked_is (ListToList r f w t) form.Json output rate ways p = absurd p
asked_is (ListToObjects r o t) form.Objects output rate ways p = absurd p
asked_is (ListToObjects r o t) form.List form.Objects rate ways p =
    let e = p.0 in let h = p.1 in let k = p.2 in cc
asked_is (ListToObjects r o t) form.List form.List rate ways p = absurd p
asked_is (ListToObjects r o t) form.List form.Json rate ways p = absurd p
asked_is (ListToObjects r o t) form.Json output rate ways p = absurd p
asked_is (TimelineToList f w t) form.Objects form.Objects rate ways p = absurd p
asked_is (TimelineToList f w t) form.Objects form.List rate ways p =
    let e = p.0 in let h = p.1 in let k = p.2 in cc
asked_is (TimelineToList f w t) form.Objects form.Json rate ways p = absurd p
asked_is (TimelineToList f w t) form.List output rate ways p = absurd p
asked_is (TimelineToList f w t) form.Json output rate ways p = absurd p
asked_is (ToObjects o) form.Objects form.Objects rate ways p = ap (λ x. Some (ToObjects x)) (sym p)
asked_is (ToObjects o) form.Objects form.List rate ways p = absurd p
asked_is (ToObjects o) form.Objects form.Json rate ways p = absurd p
asked_is (ToObjects o) form.List output rate ways p = absurd p
asked_is (ToObjects o) form.Json output rate ways p = absurd p
asked_is ToJson form.Objects form.Objects rate ways p = absurd p
asked_is ToJson form.Objects form.List rate ways p = absurd p
asked_is ToJson form.Objects form.Json rate ways p = refl
asked_is ToJson form.List output rate ways p = absurd p
asked_is ToJson form.Json output rate ways p = absurd p
asked_is (Frames asked) input output rate ways p = absurd p
asked_is (ListFrames r asked) input output rate ways p = absurd p
asked_is Cat input output rate ways p = absurd p
asked_is (ListCat r) input output rate ways p = absurd p
asked_is Stat input output rate ways p = absurd p
asked_is (Pull k) input output rate ways p = absurd p
asked_is (ListStat r) input output rate ways p = absurd p
asked_is (ListPull r k) input output rate ways p = absurd p
asked_is (Tool t) input output rate ways p = absurd p
asked_is (ListTool r t) input output rate ways p = absurd p
asked_is Edit input output rate ways p = absurd p
asked_is (ListEdit r) input output rate ways p = absurd p
asked_is LogToMedia input output rate ways p = absurd p

-- one file, one output, one rate and one family make at most one command
asked_once : (c d : Command) (input output : Form) (rate : Rate) (ways : Ways)
    → IsAskedOf c input output rate ways → IsAskedOf d input output rate ways → c ≡ d
asked_once c d input output rate ways p q = let e : Some c ≡ Some d =
    sym (asked_is c input output rate ways p) ∙ asked_is d input output rate ways q in cc

convert_once : (c d : Command) (a b : List ℕ) (given : Given) → IsConversion c a given
    → IsConversion d b given → (c ≡ d) × (a ≡ b)
convert_once c d a b given p q =
    let h = asked_with d b a p.input p.output p.rate p.older given p.file p.reads p.writes
    p.is_rate p.family q in
    (asked_once c d p.input p.output p.rate (ways_in given p.older) p.means h.0, sym h.1)

pub count_once : (word : List ℕ) (m n : ℕ) → IsCount word m → IsCount word n → m ≡ n
count_once word m n p q = number_once word m n p.0 q.0

-- a number beyond the limits of a count is none
pub no_count : (word : List ℕ) (n : ℕ) → IsWholeNumber word n → ((1 ≤ n) × (n ≤ 1000000) → ⊥)
    → (m : ℕ) → IsCount word m → ⊥
no_count word n w past m count = let same =
    number_once word m n count.0 w in past (omega (arith, count.1), omega (arith, count.2))

frames_of : Option ℕ → Option RecordPoint → Option ℕ → FramesAsked
frames_of child start count = record { child = child; start = start; count = count }

-- options ask for one listing of frames
listing_once : (given : Given) (a b : FramesAsked) → AreFrames given a → AreFrames given b → a ≡ b
unfolding frames_of
listing_once given a b p q =
    let child = value_once IsWholeNumber number_once given.child a.child b.child p.child q.child in
    let start = value_once IsPoint point_once given.start a.start b.start p.start q.start in
    let count = value_once IsCount count_once given.count a.count b.count p.count q.count in
    ap (λ x. frames_of x a.start a.count) child ∙ ap (λ x. frames_of b.child x a.count) start
    ∙ ap (frames_of b.child b.start) count

-- a file and what is asked of it make one listing
one_listing : (c d : Command) (name : List ℕ) (rate : Rate) (frames : FramesAsked)
    → IsListing c name rate frames → IsListing d name rate frames → c ≡ d
one_listing (Frames x) (Frames y) name rate frames p q = ap Frames (p.1 ∙ sym q.1)
one_listing (Frames x) (ListFrames r y) name rate frames p q = absurd (p.0 q.0)
one_listing (ListFrames r x) (Frames y) name rate frames p q = absurd (q.0 p.0)
one_listing (ListFrames r x) (ListFrames s y) name rate frames p q =
    ap (λ z. ListFrames z x) (p.1 ∙ sym q.1) ∙ ap (ListFrames s) (p.2 ∙ sym q.2)
one_listing (Frames x) (ListToList r f w t) name rate frames p q = absurd q
one_listing (Frames x) (ListToObjects r o t) name rate frames p q = absurd q
one_listing (Frames x) (TimelineToList f w t) name rate frames p q = absurd q
one_listing (Frames x) (ToObjects o) name rate frames p q = absurd q
one_listing (Frames x) ToJson name rate frames p q = absurd q
one_listing (ListFrames r x) (ListToList s f w t) name rate frames p q = absurd q
one_listing (ListFrames r x) (ListToObjects s o t) name rate frames p q = absurd q
one_listing (ListFrames r x) (TimelineToList f w t) name rate frames p q = absurd q
one_listing (ListFrames r x) (ToObjects o) name rate frames p q = absurd q
one_listing (ListFrames r x) ToJson name rate frames p q = absurd q
one_listing (Frames x) Edit name rate frames p q = absurd q
one_listing (Frames x) (ListEdit s) name rate frames p q = absurd q
one_listing (ListFrames r x) Edit name rate frames p q = absurd q
one_listing (ListFrames r x) (ListEdit s) name rate frames p q = absurd q
one_listing (Frames x) Cat name rate frames p q = absurd q
one_listing (Frames x) (ListCat s) name rate frames p q = absurd q
one_listing (Frames x) Stat name rate frames p q = absurd q
one_listing (Frames x) (Pull k) name rate frames p q = absurd q
one_listing (Frames x) (ListStat s) name rate frames p q = absurd q
one_listing (Frames x) (ListPull s k) name rate frames p q = absurd q
one_listing (Frames x) (Tool t) name rate frames p q = absurd q
one_listing (Frames x) (ListTool s t) name rate frames p q = absurd q
one_listing (ListFrames r x) Cat name rate frames p q = absurd q
one_listing (ListFrames r x) (ListCat s) name rate frames p q = absurd q
one_listing (ListFrames r x) Stat name rate frames p q = absurd q
one_listing (ListFrames r x) (Pull k) name rate frames p q = absurd q
one_listing (ListFrames r x) (ListStat s) name rate frames p q = absurd q
one_listing (ListFrames r x) (ListPull s k) name rate frames p q = absurd q
one_listing (ListFrames r x) (Tool t) name rate frames p q = absurd q
one_listing (ListFrames r x) (ListTool s t) name rate frames p q = absurd q
one_listing (Frames x) LogToMedia name rate frames p q = absurd q
one_listing (ListFrames r x) LogToMedia name rate frames p q = absurd q
one_listing Cat d name rate frames p q = absurd p
one_listing (ListCat r) d name rate frames p q = absurd p
one_listing Stat d name rate frames p q = absurd p
one_listing (Pull k) d name rate frames p q = absurd p
one_listing (ListStat r) d name rate frames p q = absurd p
one_listing (ListPull r k) d name rate frames p q = absurd p
one_listing (Tool t) d name rate frames p q = absurd p
one_listing (ListTool r t) d name rate frames p q = absurd p
one_listing (ListToList r f w t) d name rate frames p q = absurd p
one_listing (ListToObjects r o t) d name rate frames p q = absurd p
one_listing (TimelineToList f w t) d name rate frames p q = absurd p
one_listing (ToObjects o) d name rate frames p q = absurd p
one_listing ToJson d name rate frames p q = absurd p
one_listing Edit d name rate frames p q = absurd p
one_listing (ListEdit r) d name rate frames p q = absurd p
one_listing LogToMedia d name rate frames p q = absurd p

-- what is listed of the file of that name
listed_with : (command : Command) (called name : List ℕ) (rate : Rate) (frames : FramesAsked)
    (given : Given) → given.file ≡ Some name → AreFrames given frames → IsRate given.rate rate
    → IsFrameList command called given → IsListing command name rate frames × (called ≡ name)
listed_with command called name rate frames given file are is a =
    let same : called ≡ name = let e = sym a.file ∙ file in cc in
    let listed = listing_once given a.frames frames a.are are in
    let once = asked_rate_once given.rate a.rate rate a.is_rate is in (
      subst (λ n. IsListing command n rate frames) same
          (subst (λ r. IsListing command called r frames) once
          (subst (λ f. IsListing command called a.rate f) listed a.means)),
      same,
    )

frames_once : (c d : Command) (a b : List ℕ) (given : Given) → IsFrameList c a given
    → IsFrameList d b given → (c ≡ d) × (a ≡ b)
frames_once c d a b given p q =
    let h = listed_with d b a p.rate p.frames given p.file p.are p.is_rate q in
    (one_listing c d a p.rate p.frames p.means h.0, sym h.1)

-- the edit of a file of that name at this rate
editing : Command → List ℕ → Rate → Option Rate → Type 0
editing command name rate None = (IsListName name → ⊥) × (command ≡ Edit)
editing command name rate (Some asked) =
    IsListName name × (asked ≡ rate) × (command ≡ ListEdit asked)

editing_is : (command : Command) (name : List ℕ) (rate : Rate) → IsEditing command name rate
    → (asked : Option Rate) × editing command name rate asked
unfolding editing
editing_is Edit name rate p = (None, (p, refl))
editing_is (ListEdit r) name rate p = (Some r, (p.0, p.1, refl))
editing_is Cat name rate p = absurd p
editing_is (ListCat r) name rate p = absurd p
editing_is Stat name rate p = absurd p
editing_is (Pull k) name rate p = absurd p
editing_is (ListStat r) name rate p = absurd p
editing_is (ListPull r k) name rate p = absurd p
editing_is (Tool t) name rate p = absurd p
editing_is (ListTool r t) name rate p = absurd p
editing_is (ListToList r f w t) name rate p = absurd p
editing_is (ListToObjects r o t) name rate p = absurd p
editing_is (TimelineToList f w t) name rate p = absurd p
editing_is (ToObjects o) name rate p = absurd p
editing_is ToJson name rate p = absurd p
editing_is (Frames x) name rate p = absurd p
editing_is (ListFrames r x) name rate p = absurd p
editing_is LogToMedia name rate p = absurd p

editing_once : (c d : Command) (name : List ℕ) (rate : Rate) (a b : Option Rate)
    → editing c name rate a → editing d name rate b → c ≡ d
unfolding editing
editing_once c d name rate None None p q = p.1 ∙ sym q.1
editing_once c d name rate None (Some s) p q = absurd (p.0 q.0)
editing_once c d name rate (Some r) None p q = absurd (q.0 p.0)
editing_once c d name rate (Some r) (Some s) p q =
    p.2 ∙ ap ListEdit (p.1 ∙ sym q.1) ∙ sym q.2

-- a file and a rate make one edit
one_editing : (c d : Command) (name : List ℕ) (rate : Rate) → IsEditing c name rate
    → IsEditing d name rate → c ≡ d
one_editing c d name rate p q =
    let one = editing_is c name rate p in
    let other = editing_is d name rate q in
    editing_once c d name rate one.0 other.0 one.1 other.1

-- what is edited of the file of that name
edited_with : (command : Command) (called name : List ℕ) (rate : Rate) (given : Given)
    → given.file ≡ Some name → IsRate given.rate rate → IsEdit command called given
    → IsEditing command name rate × (called ≡ name)
edited_with command called name rate given file is a =
    let same : called ≡ name = let e = sym a.file ∙ file in cc in
    let once = asked_rate_once given.rate a.rate rate a.is_rate is in (
      subst (λ n. IsEditing command n rate) same
          (subst (λ r. IsEditing command called r) once a.means),
      same,
    )

edit_once : (c d : Command) (a b : List ℕ) (given : Given) → IsEdit c a given
    → IsEdit d b given → (c ≡ d) × (a ≡ b)
edit_once c d a b given p q =
    let h = edited_with d b a p.rate given p.file p.is_rate q in
    (one_editing c d a p.rate p.means h.0, sym h.1)

-- names and a rate make one command
by_names_once : (timelines : Command) (lists : Rate → Command) (c d : Command)
    (names : List (List ℕ)) (rate : Rate) → IsByNames timelines lists c names rate
    → IsByNames timelines lists d names rate → c ≡ d
by_names_once timelines lists c d names rate (inl p) (inl q) = p.1 ∙ sym q.1
by_names_once timelines lists c d names rate (inl p) (inr q) = absurd (p.0 q.0)
by_names_once timelines lists c d names rate (inr p) (inl q) = absurd (q.0 p.0)
by_names_once timelines lists c d names rate (inr p) (inr q) = p.1 ∙ sym q.1

-- the same, where the name and the rate are equal
by_same_names : (timelines : Command) (lists : Rate → Command) (c d : Command) (a b : List ℕ)
    (more : List (List ℕ)) (r s : Rate) → a ≡ b → r ≡ s
    → IsByNames timelines lists c (a ∷ more) r → IsByNames timelines lists d (b ∷ more) s → c ≡ d
by_same_names timelines lists c d a b more r s name rate p q =
    by_names_once timelines lists c d (b ∷ more) s
    (subst (λ n. IsByNames timelines lists c (n ∷ more) s) name
    (subst (IsByNames timelines lists c (a ∷ more)) rate p)) q

one_file : (a b : List ℕ) (given : Given) → given.file ≡ Some a → given.file ≡ Some b → a ≡ b
one_file a b given p q = let e = sym p ∙ q in cc

cat_once : (c d : Command) (a b : List ℕ) (given : Given) → IsCat c a given → IsCat d b given
    → (c ≡ d) × (a ≡ b)
cat_once c d a b given p q =
    let name = one_file a b given p.file q.file in
    let rate = asked_rate_once given.rate p.rate q.rate p.is_rate q.is_rate in
    (by_same_names Cat ListCat c d a b given.more p.rate q.rate name rate p.means q.means, name)

stat_once : (c d : Command) (a b : List ℕ) (given : Given) → IsStat c a given → IsStat d b given
    → (c ≡ d) × (a ≡ b)
stat_once c d a b given p q =
    let name = one_file a b given p.file q.file in
    let rate = asked_rate_once given.rate p.rate q.rate p.is_rate q.is_rate in
    (by_same_names Stat ListStat c d a b [] p.rate q.rate name rate p.means q.means, name)

tool_once : (c d : Command) (a b : List ℕ) (given : Given) → IsTool c a given → IsTool d b given
    → (c ≡ d) × (a ≡ b)
tool_once c d a b given p q =
    let name = one_file a b given p.file q.file in
    let rate = asked_rate_once given.rate p.rate q.rate p.is_rate q.is_rate in
    let tool = tools_once given p.tool q.tool p.are q.are in
    let means =
    subst (λ t. IsByNames (Tool t) (λ r. ListTool r t) c (a ∷ given.more) p.rate) tool p.means in (
      by_same_names (Tool q.tool) (λ r. ListTool r q.tool) c d a b given.more p.rate q.rate name
          rate means q.means,
      name,
    )

-- an option asks for one number of handles
handles_once : (given : Option (List ℕ)) (m n : ℕ) → AreHandles given m → AreHandles given n
    → m ≡ n
handles_once None m n p q = p ∙ sym q
handles_once (Some word) m n p q = number_once word m n p.0 q.0

-- a number beyond the limit of handles is none
pub no_handles : (word : List ℕ) (n : ℕ) → IsWholeNumber word n → (n ≤ 10000 → ⊥)
    → (m : ℕ) → IsHandles word m → ⊥
no_handles word n w past m handles =
    let same = number_once word m n handles.0 w in past (omega (arith, same, handles.1))

pull_once : (c d : Command) (a b : List ℕ) (given : Given) → IsPull c a given → IsPull d b given
    → (c ≡ d) × (a ≡ b)
pull_once c d a b given p q =
    let name = one_file a b given p.file q.file in
    let rate = asked_rate_once given.rate p.rate q.rate p.is_rate q.is_rate in
    let handles = handles_once given.handles p.handles q.handles p.are q.are in
    let means =
    subst (λ h. IsByNames (Pull h) (λ r. ListPull r h) c (a ∷ []) p.rate) handles p.means in (
      by_same_names (Pull q.handles) (λ r. ListPull r q.handles) c d a b [] p.rate q.rate
          name rate means q.means,
      name,
    )

log_once : (c d : Command) (a b : List ℕ) (given : Given) → IsLogList c a given
    → IsLogList d b given → (c ≡ d) × (a ≡ b)
log_once c d a b given p q = (p.means ∙ sym q.means, one_file a b given p.file q.file)

by_once : (verb : Verb) (c d : Command) (a b : List ℕ) (given : Given) → IsAskedBy verb c a given
    → IsAskedBy verb d b given → (c ≡ d) × (a ≡ b)
by_once verbs.Convert c d a b given p q = convert_once c d a b given p q
by_once verbs.Cat c d a b given p q = cat_once c d a b given p q
by_once verbs.Stat c d a b given p q = stat_once c d a b given p q
by_once verbs.Tool c d a b given p q = tool_once c d a b given p q
by_once verbs.Frames c d a b given p q = frames_once c d a b given p q
by_once verbs.Edit c d a b given p q = edit_once c d a b given p q
by_once verbs.Drill c d a b given p q = absurd p
by_once verbs.Pull c d a b given p q = pull_once c d a b given p q
by_once verbs.Media c d a b given p q = log_once c d a b given p q

-- a command reads at most one media list
media_once : (c : Command) (named m n : Option (List ℕ)) → IsMedia c named m → IsMedia c named n
    → m ≡ n
media_once (ListToList r f w t) named m n p q = p.1 ∙ sym q.1
media_once (ListToObjects r o t) named m n p q = p ∙ sym q
media_once (TimelineToList f w t) named m n p q = p ∙ sym q
media_once (ToObjects o) named m n p q = p ∙ sym q
media_once ToJson named m n p q = p ∙ sym q
media_once Cat named m n p q = p ∙ sym q
media_once (ListCat r) named m n p q = p ∙ sym q
media_once Stat named m n p q = p ∙ sym q
media_once (Pull k) named m n p q = p ∙ sym q
media_once (ListStat r) named m n p q = p ∙ sym q
media_once (ListPull r k) named m n p q = p ∙ sym q
media_once (Tool asked) named m n p q = p ∙ sym q
media_once (ListTool r asked) named m n p q = p ∙ sym q
media_once (Frames asked) named m n p q = p ∙ sym q
media_once (ListFrames r asked) named m n p q = p ∙ sym q
media_once Edit named m n p q = p ∙ sym q
media_once (ListEdit r) named m n p q = p ∙ sym q
media_once LogToMedia named m n p q = p ∙ sym q

-- a command reads at most one script
script_once : (c : Command) (named m n : Option (List ℕ)) → IsScript c named m
    → IsScript c named n → m ≡ n
script_once (ListToList r f w t) named m n p q = p ∙ sym q
script_once (ListToObjects r o t) named m n p q = p ∙ sym q
script_once (TimelineToList f w t) named m n p q = p ∙ sym q
script_once (ToObjects o) named m n p q = p ∙ sym q
script_once ToJson named m n p q = p ∙ sym q
script_once Cat named m n p q = p ∙ sym q
script_once (ListCat r) named m n p q = p ∙ sym q
script_once Stat named m n p q = p ∙ sym q
script_once (Pull k) named m n p q = p ∙ sym q
script_once (ListStat r) named m n p q = p ∙ sym q
script_once (ListPull r k) named m n p q = p ∙ sym q
script_once (Tool asked) named m n p q = p ∙ sym q
script_once (ListTool r asked) named m n p q = p ∙ sym q
script_once (Frames asked) named m n p q = p ∙ sym q
script_once (ListFrames r asked) named m n p q = p ∙ sym q
script_once Edit named m n p q = p ∙ sym q
script_once (ListEdit r) named m n p q = p ∙ sym q
script_once LogToMedia named m n p q = p ∙ sym q

names_of : List (List ℕ) → Option (List ℕ) → Option (List ℕ) → OtherNames
names_of more script media = record { more = more; script = script; media = media }

others_once : (c : Command) (given : Given) (m n : OtherNames) → m.more ≡ given.more
    → IsScript c given.script m.script → IsMedia c given.media m.media → n.more ≡ given.more
    → IsScript c given.script n.script → IsMedia c given.media n.media → m ≡ n
unfolding names_of
others_once c given m n f p q g r s =
    ap (λ x. names_of x m.script m.media) (f ∙ sym g)
    ∙ ap (λ x. names_of n.more x m.media) (script_once c given.script m.script n.script p r)
    ∙ ap (names_of n.more n.script) (media_once c given.media m.media n.media q s)

-- the media list of a request is one of the command that is asked for
media_in : (verb : Verb) (c d : Command) (a b : List ℕ) (o : OtherNames) (t : Option (List ℕ))
    (given : Given) → IsAskedBy verb c a given → IsRequest verb d b o t given
    → IsMedia c given.media o.media
media_in verb c d a b o t given is r =
    subst (λ x. IsMedia x given.media o.media) (sym (by_once verb c d a b given is r.asked).0)
    r.media_is

-- where the command can't have the media list that is named, nothing is asked for
pub without_media : (verb : Verb) (c : Command) (a : List ℕ) (given : Given)
    → IsAskedBy verb c a given → ((m : Option (List ℕ)) → IsMedia c given.media m → ⊥)
    → (d : Command) (b : List ℕ) (o : OtherNames) (t : Option (List ℕ))
    → IsRequest verb d b o t given → ⊥
without_media verb c a given is none d b o t r =
    none o.media (media_in verb c d a b o t given is r)

-- the other files of a request are those of the command that is asked for
others_in : (verb : Verb) (c d : Command) (a b : List ℕ) (m n : OtherNames) (t : Option (List ℕ))
    (given : Given) → IsAskedBy verb c a given → m.more ≡ given.more
    → IsScript c given.script m.script → IsMedia c given.media m.media
    → IsRequest verb d b n t given → m ≡ n
others_in verb c d a b m n t given is more script media r =
    let same = (by_once verb c d a b given is r.asked).0 in
    others_once c given m n more script media r.more_are
    (subst (λ x. IsScript x given.script n.script) (sym same) r.script_is)
    (media_in verb c d a b n t given is r)

-- where the standard input would be read twice, nothing is asked for
pub read_twice : (verb : Verb) (c : Command) (a : List ℕ) (m : OtherNames) (given : Given)
    → IsAskedBy verb c a given → m.more ≡ given.more → IsScript c given.script m.script
    → IsMedia c given.media m.media → (ReadsOnce a m → ⊥)
    → (d : Command) (b : List ℕ) (n : OtherNames) (t : Option (List ℕ))
    → IsRequest verb d b n t given → ⊥
read_twice verb c a m given is more script media twice d b n t r =
    let name = (by_once verb c d a b given is r.asked).1 in
    let others = others_in verb c d a b m n t given is more script media r in
    twice (subst (λ x. ReadsOnce x m) (sym name) (subst (ReadsOnce b) (sym others) r.once))

request_once : (verb : Verb) (c d : Command) (a b : List ℕ) (m n : OtherNames)
    (s t : Option (List ℕ)) (given : Given) → IsRequest verb c a m s given
    → IsRequest verb d b n t given → (c ≡ d) × (a ≡ b) × (m ≡ n) × (s ≡ t)
request_once verb c d a b m n s t given p q =
    let same = by_once verb c d a b given p.asked q.asked in (
      same.0,
      same.1,
      others_in verb c d a b m n t given p.asked p.more_are p.script_is p.media_is q,
      sym p.target_is
          ∙ q.target_is,
    )

-- words ask for at most one command on at most one file
pub ask_once : (words : List (List ℕ)) (c d : Command) (a b : List ℕ) (m n : OtherNames)
    (s t : Option (List ℕ)) → Ask words c a m s → Ask words d b n t
    → (c ≡ d) × (a ≡ b) × (m ≡ n) × (s ≡ t)
ask_once words c d a b m n s t p q =
    let same = same_words words p.behind q.behind p.verb q.verb p.words_are q.words_are in
    let given = same_given p.verb q.verb p.behind q.behind p.given q.given same p.gives q.gives in
    request_once q.verb c d a b m n s t q.given
    (subst (λ v. IsRequest v c a m s q.given) same.verbs
    (subst (IsRequest p.verb c a m s) given p.is)) q.is
