use Rattle.std.proofs.Common.{◌∙◌, ap, length}
use Rattle.counter_hooks.specs.laws.Counted.{counter_length}
use Rattle.simulation_laws.proofs.site_pieces.site_piece.Goals as goal

pub edge_piece-requires-clause-passed_len : goal.edge_piece-requires-clause-passed_len
edge_piece-requires-clause-passed_len c = ap length c.counter_piece-passed.ensures ∙ counter_length c.args.anchors.private c.in-Some.field-0.passed

pub edge_piece-requires-clause-taken_len : goal.edge_piece-requires-clause-taken_len
edge_piece-requires-clause-taken_len c = ap length c.counter_piece-taken.ensures ∙ counter_length c.args.anchors.private c.in-Some.field-0.taken
