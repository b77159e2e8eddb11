-- Lines of the heading say one thing, and a rate is one or none.
use Rattle.std.proofs.Common.{◌≡◌, ◌+◌, ◌==◌, ℕ, List, [], ◌∷◌, Option, Some, None, Result, Ok, Err, MatchOption, IsSome, IfOk, IfErr, codes, drop, length, get_or, refl, sym, ap, subst, ◌∙◌}
use Rattle.std.proofs.Math.Seq.{drop-append-add}
use Rattle.std.proofs.lemmas.List.Splits.{slice_split_at}
use Rattle.tick_time.specs.Rates.{nominal}
use Rattle.tick_time.specs.declared.rates.Rate.{Rate}
use Rattle.tick_time.specs.RateWords.{IsRateWord}
use Rattle.tick_time.proofs.RateWordLemmas.{rate_once}
use Rattle.media_list.specs.Lines.{tab_fields}
use Rattle.ale_text.specs.Words.{spaceless, IsLogRate, IsSection}
use Rattle.ale_text.specs.Lines.{IsEntry, IsTabbed, GivesRate, Follows, IsWrong, column_word}
use Rattle.ale_text.specs.declared.faults.AleFault.{AleFault}
use Rattle.ale_text.specs.declared.faults.AleFault.TheVariants.{Rate as NoRate}
use Rattle.ale_text.specs.declared.sections.Due.{Due}
use Rattle.ale_text.specs.declared.sections.Due.TheVariants.{Entry}

-- the name of an entry is its first field
name_first : (line name value : List ℕ) (e : IsEntry line name value)
    → tab_fields line ≡ name ∷ tab_fields e.rest
unfolding tab_fields
name_first line name value e =
    ap tab_fields e.split ∙ slice_split_at (λ b. b == 9) name 9 e.rest e.plain refl

-- a line is at most one entry
pub entry_names : (line n v m w : List ℕ) → IsEntry line n v → IsEntry line m w → n ≡ m
entry_names line n v m w p q =
    ap (λ l. get_or l 0 []) (sym (name_first line n v p) ∙ name_first line m w q)

rest_is : (line name value : List ℕ) (e : IsEntry line name value)
    → drop (length name + 1) line ≡ e.rest
rest_is line name value e =
    ap (drop (length name + 1)) e.split ∙ drop-append-add name (9 ∷ e.rest) 1

pub entry_values : (line n v m w : List ℕ) → IsEntry line n v → IsEntry line m w → v ≡ w
entry_values line n v m w p q =
    p.is ∙ ap spaceless (sym (rest_is line n v p)
    ∙ ap (λ x. drop (length x + 1) line) (entry_names line n v m w p q) ∙ rest_is line m w q)
    ∙ sym q.is

-- a line that says something else than tabs between fields is no right one
pub other_entry : (line name value : List ℕ) → IsEntry line name value
    → (IsTabbed name value → ⊥)
    → (n v : List ℕ) → IsEntry line n v → IsTabbed n v → ⊥
other_entry line name value e not_tabbed n v is tabbed =
    not_tabbed (subst (λ x. IsTabbed name x) (entry_values line n v name value is e)
    (subst (λ x. IsTabbed x v) (entry_names line n v name value is e) tabbed))

-- behind a line of the heading, what it says
pub goes_on : (line name value : List ℕ) (rate : Option Rate) (r : Result Due AleFault)
    → (IsSection column_word line → ⊥) → IsEntry line name value → IsTabbed name value
    → IfOk r (λ due. (behind : Option Rate) × (due ≡ Entry behind)
    × GivesRate rate name value behind)
    → IfOk r (Follows (Entry rate) line [])
goes_on line name value rate (Err fault) other is tabbed h = tt
goes_on line name value rate (Ok due) other is tabbed h =
    subst (Follows (Entry rate) line []) (sym h.1) (
      record { name = name; value = value; other = other; is = is; tabbed = tabbed; gives = h.2 },
      refl,
    )

-- or why it gives no rate
pub goes_wrong : (line name value : List ℕ) (rate : Option Rate) (n : ℕ) (r : Result Due AleFault)
    → (IsSection column_word line → ⊥) → IsEntry line name value
    → IfErr r (λ fault. (fault ≡ NoRate n) × (rate ≡ None) × (name ≡ codes "FPS")
    × ((some : Rate) → IsLogRate value some → ⊥))
    → IfErr r (IsWrong (Entry rate) n line)
goes_wrong line name value rate n (Ok due) other is h = tt
goes_wrong line name value rate n (Err fault) other is h =
    subst (λ r. IsWrong (Entry r) n line fault) (sym h.1)
    (subst (IsWrong (Entry None) n line) (sym h.0) (
      refl,
      record {
        value = value;
        other = other;
        is = subst (λ x. IsEntry line x value) h.2 is;
        none = h.3;
      },
    ))

-- a word that is a rate is a rate of the log where that has timecode, and else none
pub rate_of_log : (word : List ℕ) (rate : Rate) (result : Option Rate) → IsRateWord word rate
    → MatchOption result (IsSome (nominal rate.num rate.den) → ⊥)
    (λ same. (same ≡ rate) × IsSome (nominal rate.num rate.den))
    → MatchOption result ((r : Rate) → IsLogRate word r → ⊥) (IsLogRate word)
rate_of_log word rate None is none =
    λ r log. none (subst (λ x. IsSome (nominal x.num x.den)) (rate_once word r rate log.means is) log.timecode)
rate_of_log word rate (Some same) is some =
    subst (IsLogRate word) (sym some.0) (record { means = is; timecode = some.1 })

pub no_rate_of_log : (word : List ℕ) → ((r : Rate) → IsRateWord word r → ⊥) → (r : Rate)
    → IsLogRate word r → ⊥
no_rate_of_log word none r log = none r log.means
