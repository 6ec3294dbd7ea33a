use Rattle.std.proofs.Common.{sym, ◌∙◌, ap}
use Rattle.x86_machine.proofs.Describing.{base-there, base-absent}
use Rattle.x86_machine.proofs.descs.base_in.Goals as goal

pub returns-in-Some : goal.returns-in-Some
returns-in-Some c = sym (base-there c.args.index c.args.descs.now c.in-Some.place _ (sym c.in-Some.ensures))

pub returns-in-None : goal.returns-in-None
returns-in-None c = sym (base-absent c.args.index c.args.descs.now (sym c.in-None.ensures))
