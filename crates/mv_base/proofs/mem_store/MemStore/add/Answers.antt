-- The names beside the key keep what they hold in the map.
use Rattle.std.proofs.Common.{arith}
use Rattle.std.proofs.lemmas.Map.Text.{text_keys}
use Rattle.mv_base.proofs.mem_store.MemStore.add.Goals as goal

pub returns-clause-others_same : goal.returns-clause-others_same
returns-clause-others_same c = λ other differs. grind (arith, text_keys)
