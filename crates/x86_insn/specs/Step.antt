-- One step of the user machine: one whole instruction. Intel SDM, volume 2; stops and answers are this project's own.
use Rattle.std.specs.Prelude.{ℕ, zero, suc, Bool, true, false, List, [], ◌∷◌, ◌++◌, length, Option, Some, None, slice_index, slice_set}
use Rattle.mv_base.specs.Memory.{Memory, read_fault, write_fault, bytes_at, put, exec_byte, exec_bytes, address_after}
use Rattle.mv_base.specs.Effects.{Effect, Answer, Ret, Refusal, Executable, NotMapped, NotWritable, Applied, AllApplied, RefusedAt, apply_all, Descs, describe_all}
use Rattle.mv_base.specs.Effects as effects
use Rattle.x86_insn.specs.declared.insn.Insn.{Insn}
use Rattle.x86_insn.specs.declared.insn.Insn.TheVariants as insn
use Rattle.x86_insn.specs.declared.insn.Flow.{Flow}
use Rattle.x86_insn.specs.declared.insn.Flow.TheVariants as flow
use Rattle.x86_insn.specs.Flow.{flow_of}
use Rattle.x86_insn.specs.Spelling.{decoded}
use Rattle.x86_insn.specs.State.{Core, State, Kind, ReadFault, WriteFault, FetchFault, Stop, Trap, Outside, NoAnswer, BadAnswer, Gone, Outcome, Next, Stopped}
use Rattle.x86_insn.specs.Round.{Ask, Reads, Halts, Ends, round, limit, hop}

-- what stands at an address: no executable cell, an instruction and its length, or neither
pub data Fetched : Type 0 where
  Absent : Fetched
  Found : (i : Insn) (len : ℕ) → Fetched
  Unknown : Fetched

abbrev pub found : Option (Insn × ℕ) → Fetched
found None = Unknown
found (Some d) = Found d.0 d.1

-- by the byte that the first cell has to execute, and what the executable bytes from it on decode to
abbrev pub fetched : Option ℕ → Option (Insn × ℕ) → Fetched
fetched None d = Absent
fetched (Some b) d = found d

-- the instruction at an address lies wholly in executable cells
unfoldable pub fetch_in : (ℕ → Option ℕ) → ℕ → Fetched
fetch_in code a = fetched (code a) (decoded (exec_bytes code a 15))

abbrev pub fetch : Memory → ℕ → Fetched
fetch m a = fetch_in (exec_byte m) a

-- what the asks of a round or transfer come to: an end with its core and memory, or a stop
pub data Turn (E : Type 0) : Type 0 where
  Ended : (core : Core) (memory : Memory) (end : E) → Turn E
  Halted : (why : Stop) → Turn E

-- goes on, unless an access faults
abbrev pub unless_fault : {E : Type 0} → Kind → Option ℕ → Turn E → Turn E
unless_fault kind None t = t
unless_fault kind (Some a) t = Halted (Trap kind a)

abbrev pub written : {E : Type 0} → Memory → Core → Option (ℕ × List ℕ) → E → Turn E
written m c None e = Ended c m e
written m c (Some w) e = unless_fault WriteFault (write_fault m w.0 (length w.1)) (Ended c (put m w.0 w.1) e)

-- the answer to an ask, where go takes the bytes read
abbrev pub answered : {E : Type 0} → Memory → (List ℕ → Turn E) → Ask E → Turn E
answered m go (Reads at len) = unless_fault ReadFault (read_fault m at len) (go (bytes_at m at len))
answered m go (Halts why) = Halted why
answered m go (Ends c w e) = written m c w e

-- at most n reads and then an end; nothing asks for more than two
unfoldable pub asks : {E : Type 0} → ℕ → Memory → (List (List ℕ) → Ask E) → List (List ℕ) → Turn E
asks zero m ask got = answered m (λ bytes. Halted Outside) (ask got)
asks (suc n) m ask got = answered m (λ bytes. asks n m ask (got ++ bytes ∷ [])) (ask got)

abbrev pub turn : {E : Type 0} → Memory → (List (List ℕ) → Ask E) → Turn E
turn m ask = asks 2 m ask []

-- what rounds come to: core and memory at the end, or at the stop with what the rounds before it did
pub data Rounds : Type 0 where
  Completed : (core : Core) (memory : Memory) → Rounds
  Broken : (why : Stop) (core : Core) (memory : Memory) → Rounds

abbrev pub after_turn : Turn Bool → Core → Memory → (Core → Memory → Rounds) → Rounds
after_turn (Ended c' m' true) c m again = again c' m'
after_turn (Ended c' m' false) c m again = Completed c' m'
after_turn (Halted why) c m again = Broken why c m

-- at most n rounds
unfoldable pub rounds : ℕ → Insn → Descs → Core → Memory → Rounds
rounds zero i ds c m = Completed c m
rounds (suc n) i ds c m = after_turn (turn m (round i ds c)) c m (rounds n i ds)

abbrev pub after_rounds : State → ℕ → Rounds → Outcome
after_rounds s next (Completed c m) = Next (record s { core = c; memory = m; eip = next })
after_rounds s next (Broken why c m) = Stopped why (record s { core = c; memory = m })

abbrev pub after_hop : State → Turn ℕ → Outcome
after_hop s (Ended c m to) = Next (record s { core = c; memory = m; eip = to })
after_hop s (Halted why) = Stopped why s

-- EAX, EBX, ECX, EDX, ESI, EDI and EBP
abbrev pub call_of : Core → List ℕ
call_of c =
    slice_index c.regs 0 ∷ slice_index c.regs 3 ∷ slice_index c.regs 1 ∷ slice_index c.regs 2 ∷ slice_index c.regs 6 ∷ slice_index c.regs 7 ∷ slice_index c.regs 5 ∷ []

abbrev pub refused : Refusal → Stop
refused Executable = Outside
refused (NotMapped a) = BadAnswer
refused (NotWritable a) = BadAnswer

abbrev pub after_effects : State → ℕ → ℕ → List Answer → Descs → Applied → Outcome
after_effects s next eax rest ds (AllApplied m) =
    Next (record s { core = record (s.core) { regs = slice_set s.core.regs 0 eax }; descs = ds; eip = next; memory = m; answers = rest; calls = s.calls ++ call_of s.core ∷ [] })
after_effects s next eax rest ds (RefusedAt why m) = Stopped (refused why) (record s { descs = ds; memory = m })

-- a system call takes the next answer; one that is CPUID's is none for it
abbrev pub system : State → ℕ → List Answer → Outcome
system s next [] = Stopped NoAnswer s
system s next (effects.Gone ∷ rest) = Stopped Gone (record s { answers = rest; calls = s.calls ++ call_of s.core ∷ [] })
system s next (Ret eax es ∷ rest) = after_effects s next eax rest (describe_all s.memory es s.descs) (apply_all s.memory es)
system s next (effects.Cpuid eax ebx ecx edx ∷ rest) = Stopped BadAnswer s

-- the core with EAX, EBX, ECX and EDX set
abbrev pub with_words : Core → ℕ → ℕ → ℕ → ℕ → Core
with_words c eax ebx ecx edx = record c { regs = slice_set (slice_set (slice_set (slice_set c.regs 0 eax) 3 ebx) 1 ecx) 2 edx }

-- CPUID takes the next answer too, and makes no call
abbrev pub identified : State → ℕ → List Answer → Outcome
identified s next [] = Stopped NoAnswer s
identified s next (effects.Gone ∷ rest) = Stopped BadAnswer s
identified s next (Ret eax es ∷ rest) = Stopped BadAnswer s
identified s next (effects.Cpuid eax ebx ecx edx ∷ rest) = Next (record s { core = with_words s.core eax ebx ecx edx; eip = next; answers = rest })

abbrev pub is_cpuid : Insn → Bool
is_cpuid insn.Cpuid = true
is_cpuid i = false

-- an instruction of flow Plain has rounds, but for CPUID
abbrev pub plainly : Bool → State → Insn → ℕ → Outcome
plainly true s i next = identified s next s.answers
plainly false s i next = after_rounds s next (rounds (limit i s.core) i s.descs s.core s.memory)

-- an instruction of this flow, where next is the address after it
abbrev pub executed : State → Insn → ℕ → Flow → Outcome
executed s i next flow.Plain = plainly (is_cpuid i) s i next
executed s i next flow.Trap = after_rounds s next (rounds (limit i s.core) i s.descs s.core s.memory)
executed s i next flow.System = system s next s.answers
executed s i next flow.Jump = after_hop s (turn s.memory (hop next i s.core))
executed s i next flow.Branch = after_hop s (turn s.memory (hop next i s.core))
executed s i next flow.Count = after_hop s (turn s.memory (hop next i s.core))
executed s i next flow.Call = after_hop s (turn s.memory (hop next i s.core))
executed s i next flow.JumpVia = after_hop s (turn s.memory (hop next i s.core))
executed s i next flow.CallVia = after_hop s (turn s.memory (hop next i s.core))
executed s i next flow.Return = after_hop s (turn s.memory (hop next i s.core))

abbrev pub stepped : State → Fetched → Outcome
stepped s Absent = Stopped (Trap FetchFault s.eip) s
stepped s (Found i len) = executed s i (address_after s.eip len) (flow_of i)
stepped s Unknown = Stopped Outside s

unfoldable pub step : State → Outcome
step s = stepped s (fetch s.memory s.eip)
