use Rattle.std.proofs.Common.{List, Option, ℕ, None, Some, IfErr, ap, subst, sym}
use Rattle.std.specs.Option.{option_map}
use denote.Ref.{Bor}
use Rattle.source_files.specs.HandedFiles.{HandsOver}
use Rattle.source_files.specs.Order.{IsAmong}
use Rattle.source_files.specs.Reading.{names_of}
use Rattle.otio_tools.specs.Asked.{files_alone}
use Rattle.otio_tools.specs.Served.{PlansGiven}
use Rattle.otio_tools.specs.Texts.{text_at}
use Rattle.otio_tools.proofs.planning.plan_alone.Goals as goal

abbrev now : Bor (List ℕ) → List ℕ
now s = s.now

pub edited_file-requires : goal.edited_file-requires
edited_file-requires g c = rw c.in-Some.is at c.requires.scripted

pub plan_work-requires-clause-other : goal.plan_work-requires-clause-other
plan_work-requires-clause-other g c = rw c.in-None.is at c.requires.scripted

pub returns-in-Some-clause-named : goal.returns-in-Some-clause-named
returns-in-Some-clause-named g c =
    subst (λ (s : Option (List ℕ)). IfErr c.plan_edit.result (λ stop. IsAmong (names_of
    (files_alone c.args.command c.args.name.now s (text_at c.args.others.media)))
    stop.name.now)) (sym (ap (option_map now) c.in-Some.is))
    (rw c.edited_file.ensures.name at (c.plan_edit.ensures.named c.args.command))

pub returns-in-Some-clause-given : goal.returns-in-Some-clause-given
returns-in-Some-clause-given g c = λ target.
    subst (λ (s : Option (List ℕ)). HandsOver (PlansGiven (record {
      command = c.args.command;
      files = files_alone c.args.command c.args.name.now s (text_at c.args.others.media);
      target = target;
    }) c.plan_edit.result) (g.F.Files.handed c.args.files.now)
    (g.F.Files.handed c.plan_edit.new.files)) (sym (ap (option_map now) c.in-Some.is))
    (rw c.edited_file.ensures.name at
    (c.plan_edit.ensures.given c.args.command target c.edited_file.ensures.edit))

pub returns-clause-given : goal.returns-clause-given
returns-clause-given g c = λ target.
    subst (λ (s : Option (List ℕ)). HandsOver (PlansGiven (record {
      command = c.args.command;
      files = files_alone c.args.command c.args.name.now s (text_at c.args.others.media);
      target = target;
    }) c.plan_work.result) (g.F.Files.handed c.args.files.now)
    (g.F.Files.handed c.plan_work.new.files)) (sym (ap (option_map now) c.in-None.is))
    (c.plan_work.ensures.given target)
