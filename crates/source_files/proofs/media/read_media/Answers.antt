use Rattle.std.proofs.Common.{◌++◌, [], Ok, take, length, refl, sym, ap, ◌∙◌, arith}
use Rattle.std.proofs.lemmas.Grind.{common_steps}
use Rattle.media_list.specs.Lists.{IsMediaList}
use Rattle.media_list.specs.declared.list.MediaList.{MediaList}
use Rattle.dev_io.specs.declared.files.Failed.{Failed as FailedCall}
use Rattle.source_files.specs.Formats.{RefusesMedia, IsCalmMedia}
use Rattle.source_files.proofs.FollowingLemmas.{follows_none, follows_gave, follows_broke}
use Rattle.source_files.proofs.HandedLemmas.{took_none, took_more, ended, broken, early}
use Rattle.source_files.proofs.MediaLemmas.{front_refused}
use Rattle.source_files.proofs.media.read_media.Goals as goal

pub pieces-init : goal.pieces-init
pieces-init g c = record {
  fed = ([], sym c.new-reader.ensures, refl, omega arith, took_none IsCalmMedia _);
  followed = follows_none _ _;
  calm = refl;
}

pub pieces-preserved : goal.pieces-preserved
pieces-preserved g c =
    let i = c.pieces.invariant in
    let next = take c.in-Ok.count c.read.new.buf in
    let is = ap (λ l. l ++ next) i.fed.1 ∙ sym c.in-Ok-feed.ensures.read in
    record {
      fed = (
        i.fed.0 ++ next,
        is,
        grind (arith, common_steps),
        omega (arith, ap length is, c.in-Ok-feed.ensures.few),
        took_more FailedCall IsCalmMedia i.fed.0 _ _ _ c.in-Ok.count c.read.new.buf i.fed.3
            c.in-Ok.count-test.1 c.in-Ok.ensures.bound.0 (omega arith) i.fed.4 c.in-Ok.ensures.handed,
      );
      followed = follows_gave FailedCall c.in-Ok.count c.read.new.buf _ _ _ _ _ _ i.followed
          c.in-Ok.ensures.bound.0 c.in-Ok.ensures.told c.in-Ok.ensures.handed;
      calm = omega (arith, c.in-Ok.ensures.cause.failed, i.calm);
    }

pub returns-in-Ok-eq0-clause-given : goal.returns-in-Ok-eq0-clause-given
returns-in-Ok-eq0-clause-given g c =
    let i = c.pieces.invariant in
    let handed = rw c.in-Ok-eq0.field-0-test at c.in-Ok-eq0.ensures.handed in
    ended IsMediaList RefusesMedia IsCalmMedia i.fed.0 _ _ _ c.rows_of.result i.fed.3 i.fed.4
    handed (rw i.fed.1 c.rows_of.ensures.read)

pub returns-in-Err-clause-given : goal.returns-in-Err-clause-given
returns-in-Err-clause-given g c =
    let i = c.pieces.invariant in
    broken MediaList IsMediaList RefusesMedia IsCalmMedia i.fed.0 _ _ _ i.fed.3 i.fed.4
    c.in-Err.ensures.handed

pub returns-in-Err-feed-clause-given : goal.returns-in-Err-feed-clause-given
returns-in-Err-feed-clause-given g c =
    let i = c.pieces.invariant in
    let bytes = i.fed.0 ++ take c.in-Ok.count c.read.new.buf in
    early MediaList IsMediaList RefusesMedia IsCalmMedia bytes _ _ c.media_refusal.result
    (took_more FailedCall IsCalmMedia i.fed.0 _ _ _ c.in-Ok.count c.read.new.buf i.fed.3
    c.in-Ok.count-test.1 c.in-Ok.ensures.bound.0 (omega arith) i.fed.4 c.in-Ok.ensures.handed)
    (λ rest. front_refused c.in-Err-feed.fault bytes rest c.media_refusal.result
    (rw i.fed.1 c.in-Err-feed.ensures.fault) c.media_refusal.ensures)

pub returns-in-Ok-eq0-clause-followed : goal.returns-in-Ok-eq0-clause-followed
returns-in-Ok-eq0-clause-followed g c =
    let i = c.pieces.invariant in
    follows_gave FailedCall c.in-Ok-eq0.field-0 c.read.new.buf _ _ _ _ _ _ i.followed
    c.in-Ok-eq0.ensures.bound.0 c.in-Ok-eq0.ensures.told c.in-Ok-eq0.ensures.handed

pub returns-in-Err-feed-clause-followed : goal.returns-in-Err-feed-clause-followed
returns-in-Err-feed-clause-followed g c =
    let i = c.pieces.invariant in
    follows_gave FailedCall c.in-Ok.count c.read.new.buf _ _ _ _ _ _ i.followed
    c.in-Ok.ensures.bound.0 c.in-Ok.ensures.told c.in-Ok.ensures.handed

pub returns-in-Err-clause-followed : goal.returns-in-Err-clause-followed
returns-in-Err-clause-followed g c =
    let i = c.pieces.invariant in
    follows_broke _ _ _ _ _ _ i.followed c.in-Err.ensures.told c.in-Err.ensures.handed
