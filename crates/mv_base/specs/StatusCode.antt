-- The numbers with which the program ends. They are this project's own.
use Rattle.std.specs.Prelude.{ℕ}
use Rattle.mv_base.specs.declared.status.Status.{Status}
use Rattle.mv_base.specs.declared.status.Status.TheVariants.{Done, Usage, ReadFault, WriteFault, BadImage, NoRoom, BadLog, NoMemory, SinkFault, TooLarge, BadSource, Differs, NoFrame}

-- the number of a status
abbrev pub code_of : Status → ℕ
code_of Done = 0
code_of Usage = 2
code_of ReadFault = 3
code_of WriteFault = 4
code_of BadImage = 5
code_of NoRoom = 6
code_of BadLog = 7
code_of NoMemory = 8
code_of SinkFault = 9
code_of TooLarge = 10
code_of BadSource = 11
code_of Differs = 12
code_of NoFrame = 13
