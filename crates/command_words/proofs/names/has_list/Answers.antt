use Rattle.std.proofs.Common.{refl, arith}
use Rattle.command_words.proofs.AmongNames.{list_at}
use Rattle.command_words.proofs.names.has_list.Goals as goal

pub returns-then-is_list_name : goal.returns-then-is_list_name
returns-then-is_list_name c = (
  λ _. list_at _ c.loop-name.name-index _ (omega arith)
      (c.is_list_name.ensures.0 c.if-is_list_name.true),
  λ _. refl,
)
