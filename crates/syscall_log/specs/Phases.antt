-- Which item may come next, by what came before it.
use Rattle.std.specs.Prelude.{ℕ, ◌+◌, ◌-◌, ◌^◌, ◌<◌, ⊤, List, length}
use Rattle.mv_base.specs.Effects.{IsEffect}
use Rattle.syscall_log.specs.declared.item.Item.{Item}
use Rattle.syscall_log.specs.declared.item.Item.TheVariants as item
use Rattle.syscall_log.specs.declared.phase.Phase.{Phase}
use Rattle.syscall_log.specs.declared.phase.Phase.TheVariants as phase
use Rattle.syscall_log.specs.Meaning.{effect_of}
use Rattle.syscall_log.specs.Rules.{IsArgument}

-- an item's numbers and bytes keep their bounds
abbrev pub IsItem : Item → Type 0
IsItem item.Header = ⊤
IsItem (item.Arg bytes) = IsArgument bytes
IsItem (item.Ret eax) = eax < 2 ^ 32
IsItem (item.Change effect) = IsEffect (effect_of effect)
IsItem item.Gone = ⊤
IsItem (item.Cpuid eax ebx ecx edx) = (eax < 2 ^ 32) × (ebx < 2 ^ 32) × (ecx < 2 ^ 32) × (edx < 2 ^ 32)

-- an item may come in its place: the header first, arguments while there is room, effects behind an answer that takes them
abbrev pub Fits : Phase → Item → Type 0
Fits phase.Start item.Header = ⊤
Fits (phase.Arguments places room) (item.Arg bytes) = (0 < places) × (length bytes < room)
Fits (phase.Arguments places room) (item.Ret eax) = ⊤
Fits (phase.Arguments places room) item.Gone = ⊤
Fits (phase.Arguments places room) (item.Cpuid eax ebx ecx edx) = ⊤
Fits phase.Answers (item.Ret eax) = ⊤
Fits phase.Answers (item.Change effect) = ⊤
Fits phase.Answers item.Gone = ⊤
Fits phase.Answers (item.Cpuid eax ebx ecx edx) = ⊤
Fits phase.Settled (item.Ret eax) = ⊤
Fits phase.Settled item.Gone = ⊤
Fits phase.Settled (item.Cpuid eax ebx ecx edx) = ⊤
Fits _ _ = ⊥

-- an item may come
abbrev pub MayCome : Phase → Item → Type 0
MayCome p i = IsItem i × Fits p i

-- a phase with one argument more
abbrev pub with_argument : Phase → List ℕ → Phase
with_argument (phase.Arguments places room) bytes = phase.Arguments (places - 1) (room - (length bytes + 1))
with_argument p bytes = p

-- the phase after an item
abbrev pub phase_after : Phase → Item → Phase
phase_after p item.Header = phase.Arguments 1024 65536
phase_after p (item.Arg bytes) = with_argument p bytes
phase_after p (item.Ret eax) = phase.Answers
phase_after p (item.Change effect) = phase.Answers
phase_after p item.Gone = phase.Over
phase_after p (item.Cpuid eax ebx ecx edx) = phase.Settled
