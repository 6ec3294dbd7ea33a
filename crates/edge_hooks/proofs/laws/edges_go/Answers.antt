use Rattle.edge_hooks.specs.laws.Going.{own, chooses, passes, takes}
use Rattle.edge_hooks.proofs.laws.edges_go.Goals as goal

pub returns : goal.returns
returns c = record {
  own = own;
  chooses = λ i here to passed taken s b edge at e. chooses here to passed taken s i b edge at e;
  passed = λ i here to passed taken s edge at. passes here to passed taken s i edge at;
  taken = λ i here to passed taken s edge at low. takes here to passed taken s i edge at low;
}
