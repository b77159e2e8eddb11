use Rattle.std.proofs.Common.{◌++◌, [], ℕ, List, Ok, take, refl, arith}
use Rattle.std.proofs.lemmas.Grind.{common_steps}
use Rattle.json_text.proofs.NamedFaults.{live_all}
use Rattle.json_text.specs.Reader.{HasRead}
use Rattle.json_text.specs.declared.reader.JsonReader.{JsonReader}
use Rattle.json_value.specs.declared.Json.{Json}
use Rattle.dev_io.specs.declared.files.Failed.{Failed as FailedCall}
use Rattle.source_files.specs.Formats.{IsJson, RefusesJson, IsCalmJson}
use Rattle.source_files.proofs.FollowingLemmas.{follows_none, follows_gave, follows_broke}
use Rattle.source_files.proofs.HandedLemmas.{took_none, took_more, ended, broken, early}
use Rattle.source_files.proofs.JsonLemmas.{front_refused, with_bytes}
use Rattle.source_files.proofs.json.read_json.Goals as goal

-- bytes that were read show no fault
calm_of : (bytes : List ℕ) (reader : JsonReader) → HasRead bytes reader → IsCalmJson bytes
calm_of bytes reader h = record { few = h.few; live = live_all bytes _ h.ran }

pub pieces-init : goal.pieces-init
pieces-init g c = record {
  fed = ([], c.new-reader.ensures, refl, took_none IsCalmJson _);
  followed = follows_none _ _;
  calm = refl;
}

pub pieces-preserved : goal.pieces-preserved
pieces-preserved g c =
    let i = c.pieces.invariant in
    record {
      fed = (
        i.fed.0 ++ take c.in-Ok.count c.read.new.buf,
        c.in-Ok-feed.ensures.read i.fed.0 i.fed.1,
        grind (arith, common_steps),
        took_more FailedCall IsCalmJson i.fed.0 _ _ _ c.in-Ok.count c.read.new.buf
            (calm_of i.fed.0 _ i.fed.1) c.in-Ok.count-test.1 c.in-Ok.ensures.bound.0 (omega arith) i.fed.3
            c.in-Ok.ensures.handed,
      );
      followed = follows_gave FailedCall c.in-Ok.count c.read.new.buf _ _ _ _ _ _ i.followed
          c.in-Ok.ensures.bound.0 c.in-Ok.ensures.told c.in-Ok.ensures.handed;
      calm = omega (arith, c.in-Ok.ensures.cause.failed, i.calm);
    }

pub returns-in-Ok-eq0-clause-text : goal.returns-in-Ok-eq0-clause-text
returns-in-Ok-eq0-clause-text g c =
    let i = c.pieces.invariant in with_bytes i.fed.0 c.value_of.result
    (c.value_of.ensures.text i.fed.0 i.fed.1)

pub returns-in-Ok-eq0-clause-given : goal.returns-in-Ok-eq0-clause-given
returns-in-Ok-eq0-clause-given g c =
    let i = c.pieces.invariant in
    let handed = rw c.in-Ok-eq0.field-0-test at c.in-Ok-eq0.ensures.handed in
    ended IsJson RefusesJson IsCalmJson i.fed.0 _ _ _ c.value_of.result
    (calm_of i.fed.0 _ i.fed.1) i.fed.3 handed (c.value_of.ensures.read i.fed.0 i.fed.1)

pub returns-in-Err-clause-given : goal.returns-in-Err-clause-given
returns-in-Err-clause-given g c =
    let i = c.pieces.invariant in
    broken Json IsJson RefusesJson IsCalmJson i.fed.0 _ _ _ (calm_of i.fed.0 _ i.fed.1) i.fed.3
    c.in-Err.ensures.handed

pub returns-in-Err-feed-clause-given : goal.returns-in-Err-feed-clause-given
returns-in-Err-feed-clause-given g c =
    let i = c.pieces.invariant in
    let bytes = i.fed.0 ++ take c.in-Ok.count c.read.new.buf in
    early Json IsJson RefusesJson IsCalmJson bytes _ _ c.json_refusal.result
    (took_more FailedCall IsCalmJson i.fed.0 _ _ _ c.in-Ok.count c.read.new.buf
    (calm_of i.fed.0 _ i.fed.1) c.in-Ok.count-test.1 c.in-Ok.ensures.bound.0 (omega arith) i.fed.3
    c.in-Ok.ensures.handed)
    (λ rest. front_refused c.in-Err-feed.fault bytes rest c.json_refusal.result
    (c.in-Err-feed.ensures.fault i.fed.0 i.fed.1) c.json_refusal.ensures)

pub returns-in-Ok-eq0-clause-followed : goal.returns-in-Ok-eq0-clause-followed
returns-in-Ok-eq0-clause-followed g c =
    let i = c.pieces.invariant in
    follows_gave FailedCall c.in-Ok-eq0.field-0 c.read.new.buf _ _ _ _ _ _ i.followed
    c.in-Ok-eq0.ensures.bound.0 c.in-Ok-eq0.ensures.told c.in-Ok-eq0.ensures.handed

pub returns-in-Err-feed-clause-followed : goal.returns-in-Err-feed-clause-followed
returns-in-Err-feed-clause-followed g c =
    let i = c.pieces.invariant in
    follows_gave FailedCall c.in-Ok.count c.read.new.buf _ _ _ _ _ _ i.followed
    c.in-Ok.ensures.bound.0 c.in-Ok.ensures.told c.in-Ok.ensures.handed

pub returns-in-Err-clause-followed : goal.returns-in-Err-clause-followed
returns-in-Err-clause-followed g c =
    let i = c.pieces.invariant in
    follows_broke _ _ _ _ _ _ i.followed c.in-Err.ensures.told c.in-Err.ensures.handed
