use Rattle.std.proofs.Common.{sym, ap, ◌∙◌}
use Rattle.edits.specs.Cuts.{put_between, strip}
use Rattle.edits_law.proofs.Parted.{narrow_between, made_narrow, replaced_middle, between_few}
use Rattle.edits_law.proofs.Touched.{apart, in_parts}
use Rattle.edits_law.proofs.patches.patches_are_narrow.Goals as goal

pub returns : goal.returns
returns c = record {
  parts = in_parts;
  between = λ l a b n h k. ap (λ q. put_between (strip q a b) a n b) (sym (in_parts l a b)) ∙ narrow_between _ _ _ a b n (apart l a b h k);
  made = λ rate l r c. made_narrow rate l c r;
  patched = replaced_middle;
  few = between_few;
}
