use Rattle.syscall_log.proofs.OneLog.{one-log}
use Rattle.syscall_log.proofs.laws.one_log.Goals as goal

pub returns : goal.returns
returns c = one-log
