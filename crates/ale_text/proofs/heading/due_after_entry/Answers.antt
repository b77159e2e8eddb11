use Rattle.std.proofs.Common.{inl, refl}
use Rattle.std.proofs.lemmas.Bool.{false≢true}
use Rattle.ale_text.proofs.HeadingLemmas.{goes_on, goes_wrong, other_entry}
use Rattle.ale_text.proofs.heading.due_after_entry.Goals as goal

pub returns-then-is_tabbed-clause-due : goal.returns-then-is_tabbed-clause-due
returns-then-is_tabbed-clause-due c =
    goes_on c.args.line.now c.in-Some-entry_of.entry.name.now c.in-Some-entry_of.entry.value.now
    c.args.rate c.due_after_value.result (λ h. false≢true (c.if-is_section.ensures.1 h))
    c.in-Some-entry_of.ensures (c.if-is_tabbed.ensures.0 refl) c.due_after_value.ensures.due

pub returns-then-is_tabbed-clause-fault : goal.returns-then-is_tabbed-clause-fault
returns-then-is_tabbed-clause-fault c =
    goes_wrong c.args.line.now c.in-Some-entry_of.entry.name.now
    c.in-Some-entry_of.entry.value.now c.args.rate c.args.number c.due_after_value.result
    (λ h. false≢true (c.if-is_section.ensures.1 h)) c.in-Some-entry_of.ensures
    c.due_after_value.ensures.fault

pub returns-else-is_tabbed-clause-fault : goal.returns-else-is_tabbed-clause-fault
returns-else-is_tabbed-clause-fault c = (
  refl,
  inl (record {
    other = λ h. false≢true (c.if-is_section.ensures.1 h);
    wrong = other_entry c.args.line.now c.in-Some-entry_of.entry.name.now
        c.in-Some-entry_of.entry.value.now c.in-Some-entry_of.ensures
        (λ h. false≢true (c.if-is_tabbed.ensures.1 h));
  }),
)

pub returns-in-None-entry_of-clause-fault : goal.returns-in-None-entry_of-clause-fault
returns-in-None-entry_of-clause-fault c = (
  refl,
  inl (record {
    other = λ h. false≢true (c.if-is_section.ensures.1 h);
    wrong = λ name value is _. c.in-None-entry_of.ensures name value is;
  }),
)
