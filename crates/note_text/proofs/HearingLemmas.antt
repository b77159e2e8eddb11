-- What the reader of notes keeps, line by line.
use Rattle.std.proofs.Common.{◌≡◌, ◌≢◌, inl, inr, ℕ, suc, List, [], ◌∷◌, ◌++◌, Option, Some, None, length, refl, sym, ap, subst, ◌∙◌, append_assoc}
use Rattle.text_lines.specs.Lines.{trimmed}
use Rattle.tick_time.specs.declared.rates.Rate.{Rate}
use Rattle.edl_text.specs.Statements.{Statement, Nothing}
use Rattle.edl_text.specs.Saying.{Says}
use Rattle.edl_text.specs.Past.{Block, noted, mode_in, blocks_in}
use Rattle.edl_text.proofs.OneStatement.{says_unique}
use Rattle.note_text.specs.Heard.{AreHeard, note, other}
use Rattle.note_text.specs.StateHeard.{latest_line, Hears, Adds}
use Rattle.note_text.specs.declared.notes.Heard.{Heard}
use Rattle.note_text.specs.declared.hearing.Hearing.{Hearing}

latest_is : (blocks : List Block) (at : ℕ) → latest_line blocks ≡ Some at → (block : Block) × (before : List Block) × (blocks ≡ block ∷ before) × (at ≡ block.line)
latest_is [] at e = absurd (let k : None ≡ Some at = e in cc)
latest_is (block ∷ before) at e = (block, before, refl, (let k : Some block.line ≡ Some at = e in cc))

none_before : (blocks before : List Block) (block : Block) → None ≡ latest_line blocks → blocks ≡ block ∷ before → ⊥
none_before blocks before block e f = absurd (let k : None ≡ Some block.line = e ∙ ap latest_line f in cc)

pub noted_latest : (said : Statement) (blocks : List Block) → latest_line (noted said blocks) ≡ latest_line blocks
noted_latest said [] = refl
noted_latest said (block ∷ blocks) = refl

heard_line : (rate : Rate) (past : List Statement) (lines : List (List ℕ)) (line : List ℕ) (latest : Option ℕ) (olds news : List Heard)
    → Says line Nothing
    → ((more : List (List ℕ)) (others : List Heard) → AreHeard rate past more others → AreHeard rate [] (lines ++ more) (olds ++ others))
    → latest ≡ latest_line (blocks_in past) → Adds rate (mode_in past) (trimmed line) latest olds news
    → (more : List (List ℕ)) (others : List Heard) → AreHeard rate (Nothing ∷ past) more others → AreHeard rate [] (lines ++ line ∷ more) (news ++ others)
heard_line rate past lines line None olds news says k e adds more others a =
    subst (λ l. AreHeard rate [] (lines ++ line ∷ more) (l ++ others)) (sym adds)
    (k (line ∷ more) others (other past line more Nothing others says (λ _ heard is. none_before (blocks_in past) is.before is.block e is.latest) a))
heard_line rate past lines line (Some at) olds news says k e (inl quiet) more others a =
    subst (λ l. AreHeard rate [] (lines ++ line ∷ more) (l ++ others)) (sym quiet.1)
    (k (line ∷ more) others (other past line more Nothing others says (λ _ heard is. quiet.0 heard.said is.note) a))
heard_line rate past lines line (Some at) olds news says k e (inr said) more others a =
    let one : Heard = record { line = at; said = said.0 } in
    let p = latest_is (blocks_in past) at (sym e) in
    subst (λ l. AreHeard rate [] (lines ++ line ∷ more) l) (sym (ap (λ l. l ++ others) said.2 ∙ append_assoc olds (one ∷ []) others))
    (k (line ∷ more) (one ∷ others)
    (note past line more one others says (record { block = p.0; before = p.1; latest = p.2; line_is = p.3; note = said.1 }) a))

-- a line that a list ignores
pub hears_line : (rate : Rate) (past : List Statement) (lines : List (List ℕ)) (line : List ℕ) (old new : Hearing)
    → Hears rate past lines old → Says line Nothing → new.rate ≡ old.rate → new.line ≡ suc (length past) → new.drop ≡ old.drop → new.event_line ≡ old.event_line
    → Adds old.rate old.drop (trimmed line) old.event_line old.heard.items new.heard.items
    → Hears rate (Nothing ∷ past) (lines ++ line ∷ []) new
hears_line rate past lines line old new h says r l d v adds = record {
  counted = r ∙ h.counted;
  line = l;
  drop = d ∙ h.drop;
  latest = v ∙ h.latest ∙ sym (noted_latest Nothing (blocks_in past));
  heard = λ more others a.
      subst (λ l. AreHeard rate [] l (new.heard.items ++ others)) (sym (append_assoc lines (line ∷ []) more))
      (heard_line rate past lines line old.event_line old.heard.items new.heard.items says h.heard h.latest (rw (h.counted, h.drop) at adds) more others a);
}

-- another line
pub hears_other : (rate : Rate) (past : List Statement) (lines : List (List ℕ)) (line : List ℕ) (statement : Statement) (old new : Hearing)
    → Hears rate past lines old → Says line statement → statement ≢ Nothing → new.rate ≡ old.rate → new.line ≡ suc (length past)
    → new.drop ≡ mode_in (statement ∷ past) → new.event_line ≡ latest_line (blocks_in (statement ∷ past)) → new.heard.items ≡ old.heard.items
    → Hears rate (statement ∷ past) (lines ++ line ∷ []) new
hears_other rate past lines line statement old new h says loud r l d v e = record {
  counted = r ∙ h.counted;
  line = l;
  drop = d;
  latest = v;
  heard = λ more others a.
      subst (λ l. AreHeard rate [] l (new.heard.items ++ others)) (sym (append_assoc lines (line ∷ []) more))
      (subst (λ l. AreHeard rate [] (lines ++ line ∷ more) (l ++ others)) (sym e)
      (h.heard (line ∷ more) others (other past line more statement others says (λ nothing heard is. absurd (loud nothing)) a)));
}

-- the line that the code reads says one thing
pub other_taken : (rate : Rate) (past : List Statement) (lines : List (List ℕ)) (line : List ℕ) (said statement : Statement) (old new : Hearing)
    → Says line said → Says line statement → Hears rate past lines old → said ≢ Nothing → new.rate ≡ old.rate → new.line ≡ suc (length past)
    → new.drop ≡ mode_in (said ∷ past) → new.event_line ≡ latest_line (blocks_in (said ∷ past)) → new.heard.items ≡ old.heard.items
    → Hears rate (statement ∷ past) (lines ++ line ∷ []) new
other_taken rate past lines line said statement old new p q h loud r l d v e =
    subst (λ s. Hears rate (s ∷ past) (lines ++ line ∷ []) new) (says_unique line said statement p q) (hears_other rate past lines line said old new h p loud r l d v e)

pub nothing_taken : (rate : Rate) (past : List Statement) (lines : List (List ℕ)) (line : List ℕ) (statement : Statement) (old new : Hearing)
    → Says line Nothing → Says line statement → Hears rate past lines old → new.rate ≡ old.rate → new.line ≡ suc (length past) → new.drop ≡ old.drop → new.event_line ≡ old.event_line
    → Adds old.rate old.drop (trimmed line) old.event_line old.heard.items new.heard.items
    → Hears rate (statement ∷ past) (lines ++ line ∷ []) new
nothing_taken rate past lines line statement old new p q h r l d v adds =
    subst (λ s. Hears rate (s ∷ past) (lines ++ line ∷ []) new) (says_unique line Nothing statement p q) (hears_line rate past lines line old new h p r l d v adds)
