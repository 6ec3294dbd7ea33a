-- A branch or a loop whose piece has a counter on each of its ways: the piece comes to what the instruction comes to, and
-- counts the way that is chosen.
use Rattle.std.proofs.Common.{◌≡◌, ℕ, suc, ◌⊎◌, inl, inr, ◌+◌, ◌^◌, ◌<◌, ◌≤◌, Bool, true, false, ◌&&◌, ◌==◌, List, [], ◌∷◌, ◌++◌, length, Some, if◌then◌else◌, refl, sym, ap, ◌∙◌, subst, arith}
use Rattle.mv_base.specs.Memory.{IsMemory, address_after}
use Rattle.x86_insn.specs.declared.insn.Insn.{Insn}
use Rattle.x86_insn.specs.declared.insn.Insn.TheVariants as insn
use Rattle.x86_insn.specs.State.{State, Next}
use Rattle.x86_insn.specs.Step.{Found, fetch, step}
use Rattle.step_laws.specs.Jumps.{jump_bytes}
use Rattle.step_laws.specs.Bounds.{IsOutcome}
use Rattle.step_laws.specs.Passes.{Passes}
use Rattle.step_laws.specs.Beside.{ShowsSame}
use Rattle.step_laws.specs.Meeting.{Keeps, AllKeep, Reaches, Moves}
use Rattle.step_laws.specs.laws.Alongside.{keeps_same}
use Rattle.step_laws.specs.laws.Composing.{all_keep_then}
use Rattle.step_laws.specs.laws.Bounding.{step_fits}
use Rattle.step_laws.specs.laws.Copying.{shows_of}
use Rattle.step_laws.specs.laws.Joining.{jump_step}
use Rattle.step_laws.specs.laws.NearJump.{jump_len}
use Rattle.step_laws.specs.laws.Passing.{passes_first, passes_one, passes_then, passes_weaker}
use Rattle.step_laws.specs.laws.Turns.{fetched_step}
use Rattle.superset.specs.Targets.{target_after}
use Rattle.counter_hooks.specs.Counter.{counter}
use Rattle.counter_hooks.specs.laws.Counted.{counter_length}
use Rattle.edge_hooks.specs.Jumping.{insn_jumps, core_after, gone}
use Rattle.edge_hooks.specs.Edges.{counter_size, front_bytes, passed_from, taken_from, jump_from, edge_bytes, IsEdge}
use Rattle.edge_hooks.specs.laws.Going.{own, chooses, passes, takes}
use Rattle.edge_hooks.specs.laws.Lengths.{edge_long}
use Rattle.elf32_write.specs.Frame.{Frame, frame_map, is_added, counted_at, kind_at, counted, AscendPairs}
use Rattle.simulation_laws.specs.declared.anchors.Ways.{Ways}
use Rattle.simulation_laws.specs.Relocated.{StandAt, IsOutput, kind_of}
use Rattle.simulation_laws.specs.Simulation.{is_of_edge, fetched_jumps, jumps, step_bound}
use Rattle.simulation_laws.specs.Stepping.{area_of, counting_area, IsSound, Alike}
use Rattle.simulation_laws.specs.laws.AtSite.{counter_most}
use Rattle.simulation_laws.specs.laws.Parts.{front_of, back_of}
use Rattle.simulation_laws.specs.laws.Sound.{alike_beyond, stands_in}
use Rattle.simulation_laws.specs.laws.Told.{Adds, one_of, adds_if, IsTold, told_by}

-- a counter of a way counts a step from a state
abbrev pub edge_adds : State → ℕ → ℕ → Bool
edge_adds o a kind = a == o.eip && is_of_edge kind (jumps o)

-- what the piece comes to where the instruction completes, with its way counted
pub record EdgeMeets (f : Frame) (o o' t : State) : Type 0 where
  pub count : ℕ
  pub some : 0 < count
  pub most : counter_most + count ≤ step_bound f
  pub meets : Reaches (counting_area f) count (Moves (frame_map f)) o o' t
  pub adds : Adds f (edge_adds o) t.memory meets.last.memory

-- from a state behind a counter, quiet steps lead to where an address is mapped
record Leaves (f : Frame) (o' u : State) : Type 0 where
  steps : ℕ
  few : steps ≤ 2
  passes : Passes (ShowsSame (is_added f) o') steps u (record u { eip = frame_map f o'.eip })
  way : AllKeep (counting_area f) u.memory steps u (record u { eip = frame_map f o'.eip })

-- the way's kind
abbrev kind_by : Bool → ℕ
kind_by taken = if taken then 1 else 2

-- a target is an address
target_below : (next : ℕ) (i : Insn) → next < 2 ^ 32 → target_after next i < 2 ^ 32
target_below next (insn.Jump rel) low = omega arith
target_below next (insn.Branch cond rel) low = omega arith
target_below next (insn.Loop kind rel) low = omega arith
target_below next (insn.Call rel) low = omega arith
target_below next i low = low

kind_counts : (jumped : Bool) (kind : ℕ) → is_of_edge kind (Some jumped) ≡ (kind == kind_by jumped)
kind_counts true kind = refl
kind_counts false kind = refl

module _ (b x : List ℕ) (f : Frame) (rel : IsOutput b x f) (ascends : AscendPairs (counted f)) (o t : State) (i : Insn) (n : ℕ) (sound : IsSound b o) (alike : Alike x f o t) (cells : IsMemory t.memory) (here : ℕ) (place : t.eip ≡ here)
    (found : fetch o.memory o.eip ≡ Found i n) (ways : Ways) (counts_taken : kind_of f 1 o.eip ≡ Some ways.taken) (counts_passed : kind_of f 2 o.eip ≡ Some ways.passed) (jumped : Bool) (goes : insn_jumps i o.core ≡ Some jumped) where
  abbrev next : ℕ
  next = address_after o.eip n

  abbrev to : ℕ
  to = frame_map f (target_after next i)

  abbrev passed : List ℕ
  passed = counter f.private ways.passed

  abbrev taken : List ℕ
  taken = counter f.private ways.taken

  abbrev code : List ℕ
  code = edge_bytes i here to passed taken

  abbrev after : State
  after = gone o i (if jumped then target_after next i else next)

  -- where the counter of the chosen way is
  abbrev chosen_at : ℕ
  chosen_at = here + (if jumped then taken_from i else passed_from i)

  abbrev chosen : State
  chosen = gone t i chosen_at

  to_low : to < 2 ^ 32
  to_low = rel.mapped (target_after next i) (target_below next i (omega arith))

  module _ (stand : StandAt x f here code) (leads : (frame_map f next ≡ here + length code) ⊎ StandAt x f (here + length code) (jump_bytes (here + length code) (frame_map f next))) where
    passed_long : length passed ≡ counter_size
    passed_long = counter_length f.private ways.passed

    taken_long : length taken ≡ counter_size
    taken_long = counter_length f.private ways.taken

    code_long : length code ≡ passed_from i + 99
    code_long = edge_long i here to passed taken passed_long taken_long

    -- the piece stands in each state that is like one of the input's
    edge_there : (o' u : State) → Alike x f o' u → IsEdge i here to passed taken u.memory
    edge_there o' u like = record {
      stands = (stands_in b x f rel o' u here code like stand (omega (arith, code_long))).stands;
      passed_len = passed_long;
      taken_len = taken_long;
    }

    -- ---- the choosing step

    steps_to : step o ≡ Next after
    steps_to = fetched_step o i n found ∙ own i next o jumped goes

    chooses_it : step t ≡ Next chosen
    chooses_it = chooses here to passed taken t i jumped (edge_there o t alike) place (ap (insn_jumps i) alike.beside.core ∙ goes)

    sound_after : IsSound b after
    sound_after = record { bounds = subst IsOutcome steps_to (step_fits o sound.bounds); code = sound.code }

    alike_chosen : Alike x f after chosen
    alike_chosen = alike_beyond x f o after t chosen alike (record { core = ap (core_after i) alike.beside.core; descs = alike.beside.descs; calls = alike.beside.calls; answers = alike.beside.answers; memory = alike.beside.memory }) (keeps_same (counting_area f) t.memory)

    -- ---- the counter of the way

    stand_front : StandAt x f (here + passed_from i) (passed ++ (0xEB ∷ 0x33 ∷ (taken ++ (jump_bytes (address_after here (jump_from i)) to ++ []))))
    stand_front = back_of x f here (front_bytes i) _ stand

    stand_passed : StandAt x f (here + passed_from i) passed
    stand_passed = front_of x f (here + passed_from i) passed _ stand_front

    stand_taken : StandAt x f (here + taken_from i) taken
    stand_taken =
        let behind = back_of x f (here + passed_from i) passed _ stand_front in
        let over = back_of x f (here + passed_from i + length passed) (0xEB ∷ 0x33 ∷ []) _ behind in
        let same : here + passed_from i + length passed + 2 ≡ here + taken_from i = omega (arith, passed_long) in
        subst (λ a. StandAt x f a taken) same (front_of x f (here + passed_from i + length passed + 2) taken _ over)

    -- the counter's place in the code, and in the frame, by the way
    stand_way : (v : Bool) → StandAt x f (here + (if v then taken_from i else passed_from i)) (counter f.private (if v then ways.taken else ways.passed))
    stand_way true = stand_taken
    stand_way false = stand_passed

    counts_way : (v : Bool) → kind_of f (kind_by v) o.eip ≡ Some (if v then ways.taken else ways.passed)
    counts_way true = counts_taken
    counts_way false = counts_passed

    told : IsTold x f after chosen (one_of (kind_by jumped) o.eip) (chosen_at + counter_size)
    told =
        let way = if jumped then ways.taken else ways.passed in
        subst (λ (l : ℕ). IsTold x f after chosen (one_of (kind_by jumped) o.eip) (chosen_at + l)) (counter_length f.private way)
        (told_by b x f rel after chosen sound_after alike_chosen cells chosen_at refl (kind_by jumped) o.eip (Some way) (counts_way jumped) ascends (stand_way jumped))

    -- ---- and from there on

    moved_alike : (o' u : State) (e : ℕ) → Alike x f o' u → Alike x f o' (record u { eip = e })
    moved_alike o' u e like = record { beside = record { core = like.beside.core; descs = like.beside.descs; calls = like.beside.calls; answers = like.beside.answers; memory = like.beside.memory }; idle = like.idle; block = like.block; kept = like.kept }

    -- one jump, or two, lead from the end of a counter to where its way is mapped
    leaves : (v : Bool) (o' u : State) → Alike x f o' u → o'.eip ≡ (if v then target_after next i else next) → u.eip ≡ here + (if v then taken_from i else passed_from i) + counter_size → Leaves f o' u
    leaves true o' u like goes_to at = record {
      steps = 1;
      few = omega arith;
      passes = passes_one (ShowsSame (is_added f) o') u _ (shows_of (is_added f) o' u like.beside) (takes here to passed taken u i (edge_there o' u like) at to_low ∙ ap (λ (a : ℕ). Next (record u { eip = frame_map f a })) (sym goes_to));
      way = passes_one _ u _ (keeps_same (counting_area f) u.memory) (takes here to passed taken u i (edge_there o' u like) at to_low ∙ ap (λ (a : ℕ). Next (record u { eip = frame_map f a })) (sym goes_to));
    }
    leaves false o' u like goes_to at = by_lead leads
      where
        behind : State
        behind = record u { eip = here + length code }

        shows : ShowsSame (is_added f) o' u
        shows = shows_of (is_added f) o' u like.beside

        first : step u ≡ Next (record u { eip = here + length code })
        first = passes here to passed taken u i (edge_there o' u like) at

        by_lead : (frame_map f next ≡ here + length code) ⊎ StandAt x f (here + length code) (jump_bytes (here + length code) (frame_map f next)) → Leaves f o' u
        by_lead (inl e) = record {
          steps = 1;
          few = omega arith;
          passes = passes_one (ShowsSame (is_added f) o') u _ shows (first ∙ ap (λ (a : ℕ). Next (record u { eip = a })) (sym e ∙ ap (frame_map f) (sym goes_to)));
          way = passes_one _ u _ (keeps_same (counting_area f) u.memory) (first ∙ ap (λ (a : ℕ). Next (record u { eip = a })) (sym e ∙ ap (frame_map f) (sym goes_to)));
        }
        by_lead (inr join) =
            let there = moved_alike o' u (here + length code) like in
            let jump = jump_bytes (here + length code) (frame_map f next) in
            let stands = stands_in b x f rel o' (record u { eip = here + length code }) (here + length code) jump there join (omega (arith, jump_len (here + length code) (frame_map f next))) in
            let second = jump_step (area_of f) (record u { eip = here + length code }) (here + length code) (frame_map f next) stands refl (rel.mapped next (omega arith)) in
            record {
              steps = 2;
              few = omega arith;
              passes = passes_first (ShowsSame (is_added f) o') 1 u (record u { eip = here + length code }) _ shows first
                  (passes_one (ShowsSame (is_added f) o') (record u { eip = here + length code }) _ (shows_of (is_added f) o' (record u { eip = here + length code }) there.beside) (second ∙ ap (λ (a : ℕ). Next (record u { eip = frame_map f a })) (sym goes_to)));
              way = passes_first (λ v. Keeps (counting_area f) u.memory v.memory) 1 u (record u { eip = here + length code }) _ (keeps_same (counting_area f) u.memory) first
                  (passes_one (λ v. Keeps (counting_area f) u.memory v.memory) (record u { eip = here + length code }) _ (keeps_same (counting_area f) u.memory) (second ∙ ap (λ (a : ℕ). Next (record u { eip = frame_map f a })) (sym goes_to)));
            }

    -- the piece comes to what the instruction comes to, and counts the way
    pub edge_meets : (step o ≡ Next after) × EdgeMeets f o after t
    edge_meets =
        let leave = leaves jumped after told.told told.alike refl told.place in
        let Q : State → Type 0 = λ u. ShowsSame (is_added f) o u ⊎ ShowsSame (is_added f) after u in
        let last : State = record told.told { eip = frame_map f after.eip } in
        let way : Passes Q (told.steps + leave.steps) chosen last =
        passes_then Q told.steps leave.steps chosen told.told last
        (passes_weaker (ShowsSame (is_added f) after) Q (λ v s. inr s) told.steps chosen told.told told.passes)
        (passes_weaker (ShowsSame (is_added f) after) Q (λ v s. inr s) leave.steps told.told last leave.passes) in
        let jumps_are : jumps o ≡ Some jumped = ap (λ q. fetched_jumps q o.core) found ∙ goes in (
          steps_to,
          record {
            count = suc (told.steps + leave.steps);
            some = omega arith;
            most = omega (arith, told.few, leave.few);
            meets = record {
              last = last;
              passes = passes_first Q (told.steps + leave.steps) t chosen last (inl (shows_of (is_added f) o t alike.beside)) chooses_it way;
              way = passes_first (λ v. Keeps (counting_area f) t.memory v.memory) (told.steps + leave.steps) t chosen last (keeps_same (counting_area f) t.memory) chooses_it
                  (all_keep_then (counting_area f) told.steps leave.steps chosen told.told last told.way told.keeps leave.way);
              alike = record { core = told.alike.beside.core; descs = told.alike.beside.descs; calls = told.alike.beside.calls; answers = told.alike.beside.answers; memory = told.alike.beside.memory };
              keeps = told.keeps;
              arrives = refl;
            };
            adds = adds_if f (one_of (kind_by jumped) o.eip) (edge_adds o) t.memory last.memory
                (λ k lt. ap (λ (v : Bool). counted_at f k == o.eip && v) (sym (kind_counts jumped (kind_at f k)) ∙ ap (is_of_edge (kind_at f k)) (sym jumps_are))) told.adds;
          },
        )
