-- The law on runs says something: a file, a start and an answer that meet its premises for three steps. The file is
-- that of the worked example: `mov eax,1`, `mov ebx,7`, `int 0x80` at 0x08048054.
use Rattle.std.proofs.Common.{◌≡◌, ℕ, zero, suc, ◌^◌, ◌<◌, ◌≤◌, true, false, List, [], ◌∷◌, length, take, Option, Some, None, is_some, slice_index, refl, sym, ap, ◌∙◌, arith, subst}
use Rattle.std.specs.List.{AllByRecursion}
use Rattle.mv_base.specs.Bytes.{half_at, word_at}
use Rattle.mv_base.specs.Effects.{Answer, Ret, IsAnswer}
use Rattle.mv_base.specs.Memory.{Memory, exec_byte, exec_bytes, address_after, joined}
use Rattle.x86_insn.specs.declared.flags.Flags.{Flags}
use Rattle.x86_insn.specs.declared.insn.Flow.TheVariants as flow
use Rattle.x86_insn.specs.declared.insn.Insn.{Insn}
use Rattle.x86_insn.specs.declared.insn.Insn.TheVariants.{Mov, Int80}
use Rattle.x86_insn.specs.declared.insn.Reg.TheVariants.{Eax, Ebx}
use Rattle.x86_insn.specs.declared.insn.Rm.TheVariants as rm
use Rattle.x86_insn.specs.declared.insn.Src.TheVariants as src
use Rattle.x86_insn.specs.declared.insn.Width.TheVariants.{D}
use Rattle.x86_insn.specs.Flow.{flow_of}
use Rattle.x86_insn.specs.Rows.{rows}
use Rattle.x86_insn.specs.Spelling.{spelled, decoded}
use Rattle.x86_insn.specs.State.{State, Next}
use Rattle.x86_insn.specs.declared.registers.Core.{Core}
use Rattle.x86_insn.specs.Ask.{got_src}
use Rattle.x86_insn.specs.Round.{round, limit}
use Rattle.x86_insn.specs.declared.ask.Ask.TheVariants.{Ends}
use Rattle.x86_insn.specs.Step.{Found, fetch, after_turn, rounds, after_rounds, is_cpuid, plainly, executed, step}
use Rattle.x86_insn.specs.Run.{state_after}
use Rattle.x86_insn.specs.Laws.{decoded_of}
use Rattle.elf32_read.specs.Faults.{refusal, load_refusal, limit_fault, head_fault, headers_fault, header_fault, segment_fault}
use Rattle.elf32_read.specs.Fields.{headers, header_at, segments}
use Rattle.elf32_read.specs.Load.{load, segment_cell}
use Rattle.step_laws.specs.Beside.{IsClearOutcome}
use Rattle.elf32_write.specs.Frame.{Frame, is_added}
use Rattle.x86_insn.specs.TakenUp.{taken_by, taken_of}
use Rattle.simulation_laws.specs.Simulation.{Start, IsStart, begin, run_state, IsClearEffect, IsClearStep, IsClear}
use Rattle.step_laws.specs.laws.Fetching.{from_found}
use Rattle.step_laws.specs.laws.States.{state_next}
use Rattle.step_laws.specs.laws.Turns.{fetched_step, one_round, turn_ends}

abbrev pub file : List ℕ
file =
    0x7F ∷ 0x45 ∷ 0x4C ∷ 0x46 ∷ 1 ∷ 1 ∷ 1 ∷ 0 ∷ 0 ∷ 0 ∷ 0 ∷ 0 ∷ 0 ∷ 0 ∷ 0 ∷ 0
    ∷ 2 ∷ 0 ∷ 3 ∷ 0 ∷ 1 ∷ 0 ∷ 0 ∷ 0 ∷ 0x54 ∷ 0x80 ∷ 4 ∷ 8 ∷ 52 ∷ 0 ∷ 0 ∷ 0
    ∷ 0 ∷ 0 ∷ 0 ∷ 0 ∷ 0 ∷ 0 ∷ 0 ∷ 0 ∷ 52 ∷ 0 ∷ 32 ∷ 0 ∷ 1 ∷ 0 ∷ 0 ∷ 0 ∷ 0 ∷ 0 ∷ 0 ∷ 0
    ∷ 1 ∷ 0 ∷ 0 ∷ 0 ∷ 84 ∷ 0 ∷ 0 ∷ 0 ∷ 0x54 ∷ 0x80 ∷ 4 ∷ 8 ∷ 0x54 ∷ 0x80 ∷ 4 ∷ 8
    ∷ 12 ∷ 0 ∷ 0 ∷ 0 ∷ 12 ∷ 0 ∷ 0 ∷ 0 ∷ 5 ∷ 0 ∷ 0 ∷ 0 ∷ 0 ∷ 0x10 ∷ 0 ∷ 0
    ∷ 0xB8 ∷ 1 ∷ 0 ∷ 0 ∷ 0 ∷ 0xBB ∷ 7 ∷ 0 ∷ 0 ∷ 0 ∷ 0xCD ∷ 0x80 ∷ []

abbrev pub no_flags : Flags
no_flags = record { cf = false; pf = false; af = false; zf = false; sf = false; df = false; of = false; id = false }

-- all registers 0, no further cell
abbrev pub start : Start
start = record { core = record { regs = 0 ∷ 0 ∷ 0 ∷ 0 ∷ 0 ∷ 0 ∷ 0 ∷ 0 ∷ []; flags = no_flags; gs = 0; gs_base = None }; cells = λ a. None }

-- the system call gives 5
abbrev pub answers : List Answer
answers = Ret 5 [] ∷ []

pub file_is_sound : refusal file ≡ None
unfolding refusal load_refusal limit_fault head_fault headers_fault header_fault segment_fault headers header_at segments half_at word_at
file_is_sound = refl

-- the start is one for the file
small : (k : ℕ) → slice_index start.core.regs k < 2 ^ 32
small zero = omega arith
small (suc zero) = omega arith
small (suc (suc zero)) = omega arith
small (suc (suc (suc zero))) = omega arith
small (suc (suc (suc (suc zero)))) = omega arith
small (suc (suc (suc (suc (suc zero))))) = omega arith
small (suc (suc (suc (suc (suc (suc zero)))))) = omega arith
small (suc (suc (suc (suc (suc (suc (suc zero))))))) = omega arith
small (suc (suc (suc (suc (suc (suc (suc (suc k)))))))) = omega arith

pub is_start : IsStart file start
is_start = record {
  core = record { eight = refl; fits = small; selector = omega arith; base = tt };
  cells = record { low = λ a c e. cc; bytes = λ a c e. cc };
  idle = λ a. refl;
  apart = λ a m. refl;
}

pub are_answers : AllByRecursion IsAnswer answers
are_answers = ((omega arith, tt), tt)

-- ---- what stands at the three addresses

abbrev memory : Memory
memory = joined (load file) start.cells

stands : (a y n : ℕ) (bytes : List ℕ) (i : Insn) → exec_byte memory a ≡ Some y → exec_bytes (exec_byte memory) a 15 ≡ bytes → n ≤ length bytes → spelled (take n bytes) ≡ Some i → fetch memory a ≡ Found i n
stands a y n bytes i first there long spells =
    from_found (exec_byte memory) a i n (record { first = (y, first); reads = ap decoded there ∙ decoded_of n bytes i spells long })

-- `mov eax,1`
first_spelled : spelled (0xB8 ∷ 1 ∷ 0 ∷ 0 ∷ 0 ∷ []) ≡ Some (Mov D (rm.R Eax) (src.Imm 1))
unfolding spelled rows
first_spelled = refl

first_found : fetch memory 0x08048054 ≡ Found (Mov D (rm.R Eax) (src.Imm 1)) 5
unfolding exec_bytes load segment_cell segments headers header_at half_at word_at
first_found = stands 0x08048054 0xB8 5 (0xB8 ∷ 1 ∷ 0 ∷ 0 ∷ 0 ∷ 0xBB ∷ 7 ∷ 0 ∷ 0 ∷ 0 ∷ 0xCD ∷ 0x80 ∷ []) _ refl refl (omega arith) first_spelled

-- `mov ebx,7`
second_spelled : spelled (0xBB ∷ 7 ∷ 0 ∷ 0 ∷ 0 ∷ []) ≡ Some (Mov D (rm.R Ebx) (src.Imm 7))
unfolding spelled rows
second_spelled = refl

second_found : fetch memory 0x08048059 ≡ Found (Mov D (rm.R Ebx) (src.Imm 7)) 5
unfolding exec_bytes load segment_cell segments headers header_at half_at word_at
second_found = stands 0x08048059 0xBB 5 (0xBB ∷ 7 ∷ 0 ∷ 0 ∷ 0 ∷ 0xCD ∷ 0x80 ∷ []) _ refl refl (omega arith) second_spelled

-- `int 0x80`
third_spelled : spelled (0xCD ∷ 0x80 ∷ []) ≡ Some Int80
unfolding spelled rows
third_spelled = refl

third_found : fetch memory 0x0804805E ≡ Found Int80 2
unfolding exec_bytes load segment_cell segments headers header_at half_at word_at
third_found = stands 0x0804805E 0xCD 2 (0xCD ∷ 0x80 ∷ []) _ refl refl (omega arith) third_spelled

-- ---- the states

abbrev core_of : ℕ → ℕ → Core
core_of eax ebx = record { regs = eax ∷ 0 ∷ 0 ∷ ebx ∷ 0 ∷ 0 ∷ 0 ∷ 0 ∷ []; flags = no_flags; gs = 0; gs_base = None }

abbrev state_at : ℕ → Core → State
state_at eip core = record { core = core; descs = []; eip = eip; memory = memory; answers = answers; calls = [] }

abbrev last : State
last = record (state_at 0x08048060 (core_of 5 7)) { answers = []; calls = (1 ∷ 7 ∷ 0 ∷ 0 ∷ 0 ∷ 0 ∷ 0 ∷ []) ∷ [] }

-- a move of a number to a register is one round
first_round : (limit (Mov D (rm.R Eax) (src.Imm 1)) (core_of 0 0) ≡ 1) × (round (Mov D (rm.R Eax) (src.Imm 1)) [] (core_of 0 0) [] ≡ Ends (core_of 1 0) None false)
unfolding limit round got_src
first_round = (refl, refl)

second_round : (limit (Mov D (rm.R Ebx) (src.Imm 7)) (core_of 1 0) ≡ 1) × (round (Mov D (rm.R Ebx) (src.Imm 7)) [] (core_of 1 0) [] ≡ Ends (core_of 1 7) None false)
unfolding limit round got_src
second_round = (refl, refl)

moves : (s : State) (i : Insn) (n : ℕ) (c : Core) → fetch s.memory s.eip ≡ Found i n → flow_of i ≡ flow.Plain → is_cpuid i ≡ false → (limit i s.core ≡ 1) × (round i s.descs s.core [] ≡ Ends c None false) → step s ≡ Next (record s { core = c; eip = address_after s.eip n })
moves s i n c found plain other once =
    let next = address_after s.eip n in
    fetched_step s i n found
    ∙ ap (executed s i next) plain
    ∙ ap (λ v. plainly v s i next) other
    ∙ ap (λ k. after_rounds s next (rounds k i s.descs s.core s.memory)) once.0
    ∙ ap (after_rounds s next) (one_round i s.descs s.core s.memory ∙ ap (λ p. after_turn p s.core s.memory (rounds 0 i s.descs)) (turn_ends s.memory (round i s.descs s.core) c false once.1))

first_step : step (state_at 0x08048054 (core_of 0 0)) ≡ Next (state_at 0x08048059 (core_of 1 0))
first_step = moves (state_at 0x08048054 (core_of 0 0)) _ 5 (core_of 1 0) first_found refl refl first_round

second_step : step (state_at 0x08048059 (core_of 1 0)) ≡ Next (state_at 0x0804805E (core_of 1 7))
second_step = moves (state_at 0x08048059 (core_of 1 0)) _ 5 (core_of 1 7) second_found refl refl second_round

third_step : step (state_at 0x0804805E (core_of 1 7)) ≡ Next last
third_step = fetched_step (state_at 0x0804805E (core_of 1 7)) Int80 2 third_found

begins : run_state file start answers 0 ≡ Some (state_at 0x08048054 (core_of 0 0))
unfolding state_after word_at
begins = refl

first_state : run_state file start answers 1 ≡ Some (state_at 0x08048059 (core_of 1 0))
first_state = state_next 0 (begin file start answers) (state_at 0x08048054 (core_of 0 0)) (state_at 0x08048059 (core_of 1 0)) begins first_step

second_state : run_state file start answers 2 ≡ Some (state_at 0x0804805E (core_of 1 7))
second_state = state_next 1 (begin file start answers) (state_at 0x08048059 (core_of 1 0)) (state_at 0x0804805E (core_of 1 7)) first_state second_step

-- three steps complete
pub three_steps : is_some (run_state file start answers 3) ≡ true
three_steps = ap is_some (state_next 2 (begin file start answers) (state_at 0x0804805E (core_of 1 7)) last second_state third_step)

-- ---- they are clear

clear_here : (f : Frame) (o o' : State) (i : Insn) (n : ℕ) → fetch o.memory o.eip ≡ Found i n → step o ≡ Next o' → taken_by i o.answers ≡ [] → IsClearStep file f o
clear_here f o o' i n found steps none = record {
  effects_clear = subst (AllByRecursion (IsClearEffect file f)) (sym (ap (λ r. taken_of r o.answers) found ∙ none)) tt;
  stop_clear = subst (IsClearOutcome (is_added f)) (sym steps) tt;
}

-- a state, where there is one, begins a clear step
abbrev pub ClearAt : Frame → Option State → Type 0
ClearAt f None = Unit {0}
ClearAt f (Some o) = IsClearStep file f o

clear_at : (f : Frame) (j : ℕ) → j < 3 → ClearAt f (run_state file start answers j)
clear_at f zero low = subst (ClearAt f) (sym begins) (clear_here f _ _ _ 5 first_found first_step refl)
clear_at f (suc zero) low = subst (ClearAt f) (sym first_state) (clear_here f _ _ _ 5 second_found second_step refl)
clear_at f (suc (suc zero)) low = subst (ClearAt f) (sym second_state) (clear_here f _ _ _ 2 third_found third_step refl)
clear_at f (suc (suc (suc j))) low = absurd (omega (arith, low))

-- and they are clear, for any frame
pub three_clear : (f : Frame) → IsClear file f start answers 3
three_clear f = record {
  start = λ a added. refl;
  steps = λ j low o e. subst (ClearAt f) e (clear_at f j low);
}
