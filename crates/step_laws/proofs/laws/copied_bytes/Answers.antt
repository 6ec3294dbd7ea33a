use Rattle.step_laws.specs.laws.Copying.{own_meets, system_meets}
use Rattle.step_laws.proofs.laws.copied_bytes.Goals as goal

pub returns : goal.returns
returns c = record {
  own = λ area here next bytes o t i at e own clear. own_meets area here bytes o t at i next e own clear;
  system = λ area here next bytes o t i at e k clear. system_meets area here bytes o t at i next e k clear;
}
