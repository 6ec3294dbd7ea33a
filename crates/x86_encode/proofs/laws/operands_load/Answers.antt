use Rattle.x86_encode.specs.laws.Loads.{operand_loads}
use Rattle.x86_encode.proofs.laws.operands_load.Goals as goal

pub returns : goal.returns
returns c = λ s operand h. operand_loads s operand h
