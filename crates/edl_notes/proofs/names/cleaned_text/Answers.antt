use Rattle.std.proofs.Common.{◌≡◌, ◌∙◌, map, sym, ap, subst, IsUtf8, arith}
use Rattle.std.proofs.lemmas.List.{take_all}
use Rattle.edl_text.specs.Columns.{cleaned, written_byte}
use Rattle.edl_law.proofs.NameLemmas.{cleaned_utf8}
use Rattle.edl_notes.proofs.names.cleaned_text.Goals as goal

pub unreachable-requires : goal.unreachable-requires
unreachable-requires c =
    let whole : c.bytes.bytes.items ≡ cleaned c.as_bytes.result.now =
    c.bytes.invariant ∙ ap (map written_byte) (take_all c.bytes.byte-index c.trim_written-trimmed.result.now (omega (arith, c.bytes-test.false))) ∙ c.trim_written-trimmed.ensures in
    c.in-Err.ensures.cases.0 (subst IsUtf8 (sym (c.as_slice.ensures.value ∙ whole)) (cleaned_utf8 c.as_bytes.result.now c.as_bytes.ensures.utf8))
