use Rattle.std.proofs.Common.{◌++◌, [], Ok, take, refl, arith}
use Rattle.std.proofs.lemmas.Grind.{common_steps}
use Rattle.sequences.specs.declared.lists.Sequence.{Sequence}
use Rattle.edl_list.specs.declared.list.EventList.{EventList}
use Rattle.note_text.specs.declared.notes.Note.{Note}
use Rattle.dev_io.specs.declared.files.Failed.{Failed as FailedCall}
use Rattle.source_files.specs.Formats.{IsNotedList, RefusesList, IsCalmList}
use Rattle.source_files.proofs.FollowingLemmas.{follows_none, follows_gave, follows_broke}
use Rattle.source_files.proofs.HandedLemmas.{took_none, took_more, ended, broken, early}
use Rattle.source_files.proofs.ListLemmas.{front_refused, read_is_calm}
use Rattle.source_files.proofs.lists.read_noted_list.Goals as goal

pub pieces-init : goal.pieces-init
pieces-init g c = record {
  fed = (
    [],
    c.new-reader.ensures,
    c.new-listener.ensures,
    refl,
    omega arith,
    took_none (IsCalmList c.args.rate) _,
  );
  followed = follows_none _ _;
  calm = refl;
}

pub pieces-preserved : goal.pieces-preserved
pieces-preserved g c =
    let i = c.pieces.invariant in
    let buf = c.read.new.buf in
    let n = c.in-Ok.count in
    record {
      fed = (
        i.fed.0 ++ take n buf,
        c.in-Ok-feed_both.ensures.read c.args.rate i.fed.0 i.fed.1,
        c.in-Ok-feed_both.ensures.heard c.args.rate i.fed.0 i.fed.2,
        grind (arith, common_steps),
        (c.in-Ok-feed_both.ensures.live c.args.rate i.fed.0 i.fed.1).0,
        took_more FailedCall (IsCalmList c.args.rate) i.fed.0 _ _ _ n buf
            (read_is_calm c.args.rate i.fed.0 _ i.fed.1 i.fed.4) c.in-Ok.count-test.1
            c.in-Ok.ensures.bound.0 (omega arith) i.fed.5 c.in-Ok.ensures.handed,
      );
      followed = follows_gave FailedCall c.in-Ok.count c.read.new.buf _ _ _ _ _ _ i.followed
          c.in-Ok.ensures.bound.0 c.in-Ok.ensures.told c.in-Ok.ensures.handed;
      calm = omega (arith, c.in-Ok.ensures.cause.failed, i.calm);
    }

pub returns-in-Ok-eq0-clause-suits : goal.returns-in-Ok-eq0-clause-suits
returns-in-Ok-eq0-clause-suits g c =
    let i = c.pieces.invariant in
    c.noted_of.ensures.suits c.args.rate i.fed.0 i.fed.1 i.fed.2

pub noted_of-requires : goal.noted_of-requires
noted_of-requires g c =
    let i = c.pieces.invariant in (c.args.rate, i.fed.0, i.fed.1)

pub returns-in-Ok-eq0-clause-given : goal.returns-in-Ok-eq0-clause-given
returns-in-Ok-eq0-clause-given g c =
    let i = c.pieces.invariant in
    let rate = c.args.rate in
    let handed = rw c.in-Ok-eq0.field-0-test at c.in-Ok-eq0.ensures.handed in
    ended (λ bytes read. IsNotedList rate bytes read.0 read.1) (RefusesList rate)
    (IsCalmList rate) i.fed.0 _ _ _ c.noted_of.result
    (read_is_calm rate i.fed.0 _ i.fed.1 i.fed.4) i.fed.5 handed
    (c.noted_of.ensures.read rate i.fed.0 i.fed.1 i.fed.2)

pub returns-in-Err-clause-given : goal.returns-in-Err-clause-given
returns-in-Err-clause-given g c =
    let i = c.pieces.invariant in
    let rate = c.args.rate in
    broken (EventList × Sequence Note) (λ bytes read. IsNotedList rate bytes read.0 read.1)
    (RefusesList rate) (IsCalmList rate) i.fed.0 _ _ _
    (read_is_calm rate i.fed.0 _ i.fed.1 i.fed.4) i.fed.5 c.in-Err.ensures.handed

pub returns-in-Err-feed_both-clause-given : goal.returns-in-Err-feed_both-clause-given
returns-in-Err-feed_both-clause-given g c =
    let i = c.pieces.invariant in
    let rate = c.args.rate in
    let buf = c.read.new.buf in
    let n = c.in-Ok.count in
    early (EventList × Sequence Note) (λ bytes read. IsNotedList rate bytes read.0 read.1)
    (RefusesList rate) (IsCalmList rate) (i.fed.0 ++ take n buf) _ _
    c.list_refusal-refusal.result
    (took_more FailedCall (IsCalmList rate) i.fed.0 _ _ _ n buf
    (read_is_calm rate i.fed.0 _ i.fed.1 i.fed.4) c.in-Ok.count-test.1 c.in-Ok.ensures.bound.0 (omega arith)
    i.fed.5 c.in-Ok.ensures.handed)
    (λ rest. front_refused rate c.in-Err-feed_both.fault (i.fed.0 ++ take n buf) rest
    c.list_refusal-refusal.result (c.in-Err-feed_both.ensures.fault rate i.fed.0 i.fed.1)
    c.list_refusal-refusal.ensures)

pub returns-in-Ok-eq0-clause-followed : goal.returns-in-Ok-eq0-clause-followed
returns-in-Ok-eq0-clause-followed g c =
    let i = c.pieces.invariant in
    follows_gave FailedCall c.in-Ok-eq0.field-0 c.read.new.buf _ _ _ _ _ _ i.followed
    c.in-Ok-eq0.ensures.bound.0 c.in-Ok-eq0.ensures.told c.in-Ok-eq0.ensures.handed

pub returns-in-Err-feed_both-clause-followed : goal.returns-in-Err-feed_both-clause-followed
returns-in-Err-feed_both-clause-followed g c =
    let i = c.pieces.invariant in
    follows_gave FailedCall c.in-Ok.count c.read.new.buf _ _ _ _ _ _ i.followed
    c.in-Ok.ensures.bound.0 c.in-Ok.ensures.told c.in-Ok.ensures.handed

pub returns-in-Err-clause-followed : goal.returns-in-Err-clause-followed
returns-in-Err-clause-followed g c =
    let i = c.pieces.invariant in
    follows_broke _ _ _ _ _ _ i.followed c.in-Err.ensures.told c.in-Err.ensures.handed
