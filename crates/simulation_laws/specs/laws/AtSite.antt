-- The input stands at a site and the output at the site's piece, wherever that is: what the piece comes to.
use Rattle.std.proofs.Common.{◌≡◌, ℕ, zero, suc, ◌⊎◌, inl, inr, ◌+◌, ◌^◌, ◌<◌, ◌≤◌, true, List, [], ◌∷◌, length, Option, Some, refl, sym, ap, ◌∙◌, subst, arith}
use Rattle.std.specs.List.{AllByRecursion, concat}
use Rattle.mv_base.specs.Memory.{address_after, exec_bytes}
use Rattle.mv_base.specs.Effects.{Effect}
use Rattle.x86_insn.specs.declared.insn.Insn.{Insn}
use Rattle.x86_insn.specs.declared.insn.Insn.TheVariants as insn
use Rattle.x86_insn.specs.declared.insn.Cond.{Cond}
use Rattle.x86_insn.specs.declared.insn.LoopKind.{LoopKind}
use Rattle.x86_insn.specs.declared.insn.Rm.{Rm}
use Rattle.x86_insn.specs.declared.insn.Flow.{Flow}
use Rattle.x86_insn.specs.declared.insn.Flow.TheVariants as flow
use Rattle.x86_insn.specs.Flow.{flow_of, falls}
use Rattle.x86_insn.specs.Transfers.{target_of}
use Rattle.x86_insn.specs.State.{State, Outcome, Next, Stopped}
use Rattle.x86_insn.specs.Step.{Found, fetch, fetch_in, executed, step}
use Rattle.x86_insn.specs.TakenUp.{effects_by_flow, taken_of}
use Rattle.step_laws.specs.Jumps.{jump_bytes}
use Rattle.step_laws.specs.Bounds.{IsState, IsOutcome}
use Rattle.step_laws.specs.Beside.{IsClearOutcome, StatesBeside}
use Rattle.step_laws.specs.Beside as beside
use Rattle.step_laws.specs.Meeting.{Keeps, AtPiece, Reaches, Meets, GoesTo, GoesEither, GoesVia, Moves, IsOwn}
use Rattle.step_laws.specs.laws.Fetching.{IsFound, is_found, found_len, found_pos, found_spelled}
use Rattle.step_laws.specs.laws.NearJump.{jump_len}
use Rattle.step_laws.specs.laws.Cells.{exec_alike}
use Rattle.step_laws.specs.laws.Copying.{own_meets, system_meets}
use Rattle.step_laws.specs.laws.Composing.{keeps_stand, reaches_then, meets_then, meets_wider}
use Rattle.step_laws.specs.laws.Joining.{joins, jump_meets}
use Rattle.step_laws.specs.laws.Turns.{fetched_step}
use Rattle.step_laws.specs.laws.Bounding.{step_fits}
use Rattle.lookup_stub.specs.Finding.{lookup_steps}
use Rattle.branch_lengthen.specs.Near.{branch_bytes, count_bytes}
use Rattle.branch_lengthen.specs.laws.Branches.{branch_len, branch_meets, count_len, count_meets}
use Rattle.call_rewrite.specs.Far.{LoadsOperand, call_parts, jump_via_parts, call_via_parts, return_parts, return_steps, load_bytes}
use Rattle.call_rewrite.specs.laws.Calls.{call_meets}
use Rattle.call_rewrite.specs.laws.Returns.{some_steps, return_meets}
use Rattle.call_rewrite.specs.laws.Via.{jump_via_meets, call_via_meets}
use Rattle.elf32_read.specs.Load.{load}
use Rattle.elf32_write.specs.Frame.{Frame, frame_map, is_added}
use Rattle.superset.specs.declared.site.Site.{Site}
use Rattle.simulation_laws.specs.Code.{code_in}
use Rattle.simulation_laws.specs.laws.Loading.{jump_loads, call_loads}
use Rattle.simulation_laws.specs.Pieces.{piece_of, piece}
use Rattle.simulation_laws.specs.Relocated.{StandAt, LeadsOn, anchors_of, IsOutput}
use Rattle.simulation_laws.specs.Simulation.{IsClearEffect, IsClearStep, step_bound}
use Rattle.simulation_laws.specs.Stepping.{area_of, IsSound, Alike}
use Rattle.simulation_laws.specs.laws.StepTable.{taken_clear, trap_never, is_direct, branch_is, count_is, call_is, jump_via_is, call_via_is, return_is}
use Rattle.simulation_laws.specs.laws.Sound.{alike_after, code_same, at_piece, stands_in}
use Rattle.simulation_laws.specs.laws.ThroughStub.{lookup_most, stub_end, via_goes}

-- the site of an instruction that a state stands at
abbrev pub site_of : State → Insn → ℕ → Site
site_of o i n = record { at = o.eip; len = n; insn = i }

-- the site's own bytes
abbrev pub copy_bytes : List ℕ → State → ℕ → List ℕ
copy_bytes b o n = exec_bytes (code_in b) o.eip n

-- a site's piece stands at an address, and leads on
pub record Placed (b x : List ℕ) (f : Frame) (here : ℕ) (s : Site) : Type 0 where
  pub stands : StandAt x f here (piece (anchors_of f) (frame_map f) (code_in b) here s)
  pub leads : LeadsOn x f (here + length (piece (anchors_of f) (frame_map f) (code_in b) here s)) s

-- how many steps a counter takes at most
abbrev pub counter_most : ℕ
counter_most = 9

-- within the bound of a step and with the time for a counter to spare, the output comes to what the input's step comes to,
-- and to where that is mapped; it leaves the counters
pub record PieceMeets (f : Frame) (o t : State) (X : Outcome) : Type 0 where
  pub count : ℕ
  pub some : 0 < count
  pub most : counter_most + count ≤ step_bound f
  pub meets : Meets (area_of f) count (Moves (frame_map f)) o t X

-- clear effects are clear for both memories
clear_both : (b x : List ℕ) (f : Frame) (o t : State) → IsSound b o → Alike x f o t → (es : List Effect) → AllByRecursion (IsClearEffect b f) es → AllByRecursion (beside.IsClearEffect (is_added f) o.memory t.memory) es
clear_both b x f o t own s [] h = tt
clear_both b x f o t own s (e ∷ es) h = (λ a u. let c = h.0 a u in (c.0, exec_alike (o.memory a) (load b a) (own.code a) ∙ c.1, s.idle a c.0), clear_both b x f o t own s es h.1)

return_long : (n here stub p : ℕ) → 0 < length (concat (return_parts n here stub p))
return_long zero here stub p = omega arith
return_long (suc n) here stub p = omega arith

few_steps : (n : ℕ) → return_steps n ≤ 6
few_steps zero = omega arith
few_steps (suc n) = omega arith

module _ (b x : List ℕ) (f : Frame) (rel : IsOutput b x f) (o t : State) (i : Insn) (n : ℕ) (sound : IsSound b o) (alike : Alike x f o t) (here : ℕ) (place : t.eip ≡ here)
    (found : fetch o.memory o.eip ≡ Found i n) (at : Placed b x f here (site_of o i n)) where
  abbrev next : ℕ
  next = address_after o.eip n

  abbrev copy : List ℕ
  copy = copy_bytes b o n

  -- the instruction is that of the input's file
  site_code : fetch_in (code_in b) o.eip ≡ Found i n
  site_code = subst (λ (code : ℕ → Option ℕ). fetch_in code o.eip ≡ Found i n) (code_same b o sound) found

  site_there : IsFound (code_in b) o.eip i n
  site_there = is_found (code_in b) o.eip i n site_code

  copy_some : 0 < length copy
  copy_some = omega (arith, found_len (code_in b) o.eip i n site_there, found_pos (code_in b) o.eip i n site_there)

  -- the site's piece stands here
  abbrev piece_by : Flow → Insn → List ℕ
  piece_by fl j = piece_of fl (anchors_of f) (frame_map f) (code_in b) here (site_of o j n)

  stands : (fl : Flow) → flow_of i ≡ fl → StandAt x f here (piece_by fl i)
  stands fl k = subst (λ g. StandAt x f here (piece_by g i)) k at.stands

  stands_as : (fl : Flow) (j : Insn) → flow_of i ≡ fl → i ≡ j → StandAt x f here (piece_by fl j)
  stands_as fl j k e = subst (λ m. StandAt x f here (piece_by fl m)) e (stands fl k)

  -- and behind it what leads on
  Behind : List ℕ → Type 0
  Behind p = (frame_map f next ≡ here + length p) ⊎ StandAt x f (here + length p) (jump_bytes (here + length p) (frame_map f next))

  behind : (fl : Flow) → flow_of i ≡ fl → falls fl ≡ true → Behind (piece_by fl i)
  unfolding Behind
  behind fl k on = subst (λ g. falls g ≡ true → (frame_map f next ≡ here + length (piece_by g i)) ⊎ StandAt x f (here + length (piece_by g i)) (jump_bytes (here + length (piece_by g i)) (frame_map f next))) k at.leads on

  behind_as : (fl : Flow) (j : Insn) → flow_of i ≡ fl → i ≡ j → falls fl ≡ true → Behind (piece_by fl j)
  behind_as fl j k e on = subst (λ m. Behind (piece_by fl m)) e (behind fl k on)

  at_bytes : (bytes : List ℕ) → StandAt x f here bytes → 0 < length bytes → AtPiece (area_of f) here bytes o t
  at_bytes bytes stand some = at_piece b x f rel o t here bytes sound alike place stand some

  next_low : next < 2 ^ 32
  next_low = omega arith

  -- where a piece has arrived behind itself, the join there leads on
  leads_on : (p : List ℕ) → StandAt x f (here + length p) (jump_bytes (here + length p) (frame_map f next)) → (o' u : State) → GoesTo next (here + length p) o'.eip u → StatesBeside (is_added f) o' u → Keeps (area_of f) t.memory u.memory → Reaches (area_of f) 1 (Moves (frame_map f)) o' o' u
  leads_on p stand o' u to w k =
      let join = jump_bytes (here + length p) (frame_map f next) in
      let stands = stands_in b x f rel o t (here + length p) join alike stand (omega (arith, jump_len (here + length p) (frame_map f next))) in
      let there = joins (area_of f) o' u (here + length p) (frame_map f next) (keeps_stand (area_of f) t.memory u.memory _ join k stands) to.1 (rel.mapped next next_low) w in
      record { last = there.last; passes = there.passes; way = there.way; alike = there.alike; keeps = there.keeps; arrives = there.arrives ∙ ap (frame_map f) (sym to.0) }

  -- where the successor's entry is there, it has arrived
  chained : (p : List ℕ) → frame_map f next ≡ here + length p → (o' : State) (u : State) → GoesTo next (here + length p) o'.eip u → Moves (frame_map f) o'.eip u
  chained p e o' u to = to.1 ∙ sym e ∙ ap (frame_map f) (sym to.0)

  -- a piece that arrives behind itself
  joined_meets : (p : List ℕ) (X : Outcome) → Behind p → Meets (area_of f) 1 (GoesTo next (here + length p)) o t X → PieceMeets f o t X
  unfolding Behind
  joined_meets p X (inl e) m = record {
    count = 1;
    some = omega arith;
    most = omega arith;
    meets = meets_wider (area_of f) o t 1 (GoesTo next (here + length p)) (Moves (frame_map f)) X (chained p e) m;
  }
  joined_meets p X (inr stand) m = record {
    count = 2;
    some = omega arith;
    most = omega arith;
    meets = meets_then (area_of f) o t 1 1 _ (Moves (frame_map f)) X m (λ o' u e to w k. leads_on p stand o' u to w k);
  }

  -- one that goes to where a target is mapped, or behind itself
  either_meets : (k goal : ℕ) (p : List ℕ) (X : Outcome) → 0 < k → k ≤ 2 → Behind p → Meets (area_of f) k (GoesEither goal (frame_map f goal) next (here + length p)) o t X → PieceMeets f o t X
  unfolding Behind
  either_meets k goal p (Next o') some few behind_it m = go m.arrives behind_it
    where
      go : GoesEither goal (frame_map f goal) next (here + length p) o'.eip m.last → (frame_map f next ≡ here + length p) ⊎ StandAt x f (here + length p) (jump_bytes (here + length p) (frame_map f next)) → PieceMeets f o t (Next o')
      go (inl g) other = record {
        count = k;
        some = some;
        most = omega (arith, few);
        meets = record { last = m.last; passes = m.passes; way = m.way; alike = m.alike; keeps = m.keeps; arrives = g.1 ∙ ap (frame_map f) (sym g.0) };
      }
      go (inr g) (inl e) = record {
        count = k;
        some = some;
        most = omega (arith, few);
        meets = record { last = m.last; passes = m.passes; way = m.way; alike = m.alike; keeps = m.keeps; arrives = chained p e o' m.last g };
      }
      go (inr g) (inr stand) =
          let first : Reaches (area_of f) k (GoesTo next (here + length p)) o o' t = record { last = m.last; passes = m.passes; way = m.way; alike = m.alike; keeps = m.keeps; arrives = g } in
          record {
            count = k + 1;
            some = omega arith;
            most = omega (arith, few);
            meets = reaches_then (area_of f) o t k 1 (GoesTo next (here + length p)) (Moves (frame_map f)) o' first (λ u to w q. leads_on p stand o' u to w q);
          }
  either_meets k goal p (Stopped why o') some few behind_it m = record { count = k; some = some; most = omega (arith, few); meets = m }

  -- one that goes to where a target is mapped
  direct_meets : (k goal : ℕ) (X : Outcome) → 0 < k → k ≤ 2 → Meets (area_of f) k (GoesTo goal (frame_map f goal)) o t X → PieceMeets f o t X
  direct_meets k goal X some few m = record {
    count = k;
    some = some;
    most = omega (arith, few);
    meets = meets_wider (area_of f) o t k (GoesTo goal (frame_map f goal)) (Moves (frame_map f)) X (λ o' u g. g.1 ∙ ap (frame_map f) (sym g.0)) m;
  }

  -- what the instruction comes to keeps the bounds of states
  fits_after : (fl : Flow) (o' : State) → flow_of i ≡ fl → executed o i next fl ≡ Next o' → IsState o'
  fits_after fl o' k e =
      let is = fetched_step o i n found ∙ ap (λ g. executed o i next g) k ∙ e in
      subst IsOutcome is (step_fits o sound.bounds)

  -- one that goes through the stub
  through_meets : (k : ℕ) (X : Outcome) → 0 < k → k ≤ 6 → ((o' : State) → X ≡ Next o' → IsState o') → Meets (area_of f) k (GoesVia (area_of f) f.code.lo) o t X → PieceMeets f o t X
  through_meets k (Next o') some few fits m = record {
    count = k + lookup_steps f.form f.runs o'.eip;
    some = omega (arith, some);
    most = omega (arith, few, lookup_most f.form f.runs o'.eip);
    meets = reaches_then (area_of f) o t k (lookup_steps f.form f.runs o'.eip) (GoesVia (area_of f) f.code.lo) (Moves (frame_map f)) o' m
        (λ u to w q. via_goes b x f rel o' u (fits o' refl) (alike_after x f o o' t u alike w q) to);
  }
  through_meets k (Stopped why o') some few fits m = record { count = k; some = some; most = omega (arith, few); meets = m }

  -- a copy that never arrives
  lone_meets : (X : Outcome) → ((o' : State) → X ≡ Next o' → ⊥) → Meets (area_of f) 1 (GoesTo next (here + length copy)) o t X → PieceMeets f o t X
  lone_meets X stops m = record {
    count = 2;
    some = omega arith;
    most = omega arith;
    meets = meets_then (area_of f) o t 1 1 _ (Moves (frame_map f)) X m (λ o' u e to w k. absurd (stops o' e));
  }

  -- the piece of a copied instruction
  at_copy : (fl : Flow) → StandAt x f here copy → AtPiece (area_of f) here copy o t
  at_copy fl stand = at_bytes copy stand copy_some

  own_piece : (fl : Flow) → flow_of i ≡ fl → IsOwn fl → StandAt x f here copy → IsClearOutcome (is_added f) (executed o i next fl) → Meets (area_of f) 1 (GoesTo next (here + length copy)) o t (executed o i next fl)
  own_piece fl k own stand clear =
      subst (λ g. Meets (area_of f) 1 (GoesTo next (here + length copy)) o t (executed o i next g)) k
      (own_meets (area_of f) here copy o t (at_copy fl stand) i next (found_spelled (code_in b) o.eip i n site_there) (subst IsOwn (sym k) own) (subst (λ g. IsClearOutcome (is_added f) (executed o i next g)) (sym k) clear))

  abbrev goal_of : ℕ → ℕ
  goal_of r = target_of next r

  goal_low : (r : ℕ) → frame_map f (goal_of r) < 2 ^ 32
  goal_low r = rel.mapped (goal_of r) (omega arith)

  stub_low : f.code.lo < 2 ^ 32
  stub_low = omega (arith, stub_end b x f rel)

  -- by the instruction
  jump_piece : (r : ℕ) → i ≡ insn.Jump r → StandAt x f here (piece_by flow.Jump (insn.Jump r)) → PieceMeets f o t (executed o (insn.Jump r) next flow.Jump)
  jump_piece r e stand =
      let to = frame_map f (goal_of r) in
      direct_meets 1 (goal_of r) _ (omega arith) (omega arith) (jump_meets (area_of f) here to next r o t (at_bytes (jump_bytes here to) stand (omega (arith, jump_len here to))) (goal_low r))

  branch_piece : (c : Cond) (r : ℕ) → StandAt x f here (piece_by flow.Branch (insn.Branch c r)) → Behind (piece_by flow.Branch (insn.Branch c r)) → PieceMeets f o t (executed o (insn.Branch c r) next flow.Branch)
  branch_piece c r stand behind_it =
      let to = frame_map f (goal_of r) in
      let p = branch_bytes c here to in
      let long : 0 < length p = omega (arith, branch_len c here to) in
      either_meets 1 (goal_of r) p _ (omega arith) (omega arith) behind_it
      (subst (λ k. Meets (area_of f) 1 (GoesEither (goal_of r) to next (here + k)) o t (executed o (insn.Branch c r) next flow.Branch)) (sym (branch_len c here to)) (branch_meets (area_of f) c here to next r o t (at_bytes p stand long) (goal_low r)))

  count_piece : (c : LoopKind) (r : ℕ) → StandAt x f here (piece_by flow.Count (insn.Loop c r)) → Behind (piece_by flow.Count (insn.Loop c r)) → PieceMeets f o t (executed o (insn.Loop c r) next flow.Count)
  count_piece c r stand behind_it =
      let to = frame_map f (goal_of r) in
      let p = count_bytes c here to in
      let long : 0 < length p = omega (arith, count_len c here to) in
      either_meets 2 (goal_of r) p _ (omega arith) (omega arith) behind_it
      (subst (λ k. Meets (area_of f) 2 (GoesEither (goal_of r) to next (here + k)) o t (executed o (insn.Loop c r) next flow.Count)) (sym (count_len c here to)) (count_meets (area_of f) c here to next r o t (at_bytes p stand long) (goal_low r)))

  call_piece : (r : ℕ) → StandAt x f here (piece_by flow.Call (insn.Call r)) → IsClearOutcome (is_added f) (executed o (insn.Call r) next flow.Call) → PieceMeets f o t (executed o (insn.Call r) next flow.Call)
  call_piece r stand clear =
      let to = frame_map f (goal_of r) in
      direct_meets 2 (goal_of r) _ (omega arith) (omega arith) (call_meets (area_of f) here next r to o t (at_bytes (concat (call_parts next here to)) stand (omega arith)) next_low (goal_low r) clear)

  jump_via_piece : (src : Rm) → ((o' : State) → executed o (insn.JumpVia src) next flow.JumpVia ≡ Next o' → IsState o') → LoadsOperand src (load_bytes src) → StandAt x f here (piece_by flow.JumpVia (insn.JumpVia src))
      → IsClearOutcome (is_added f) (executed o (insn.JumpVia src) next flow.JumpVia) → PieceMeets f o t (executed o (insn.JumpVia src) next flow.JumpVia)
  jump_via_piece src fits loads stand clear =
      through_meets 5 _ (omega arith) (omega arith) fits
      (jump_via_meets (area_of f) here next f.code.lo (load_bytes src) src o t (at_bytes (concat (jump_via_parts (load_bytes src) here f.code.lo f.private)) stand (omega arith)) loads stub_low clear)

  call_via_piece : (src : Rm) → ((o' : State) → executed o (insn.CallVia src) next flow.CallVia ≡ Next o' → IsState o') → LoadsOperand src (load_bytes src) → StandAt x f here (piece_by flow.CallVia (insn.CallVia src))
      → IsClearOutcome (is_added f) (executed o (insn.CallVia src) next flow.CallVia) → PieceMeets f o t (executed o (insn.CallVia src) next flow.CallVia)
  call_via_piece src fits loads stand clear =
      through_meets 6 _ (omega arith) (omega arith) fits
      (call_via_meets (area_of f) here next f.code.lo (load_bytes src) src o t (at_bytes (concat (call_via_parts (load_bytes src) next here f.code.lo f.private)) stand (omega arith)) loads next_low stub_low clear)

  return_piece : (drop : ℕ) → ((o' : State) → executed o (insn.Ret drop) next flow.Return ≡ Next o' → IsState o') → StandAt x f here (piece_by flow.Return (insn.Ret drop))
      → IsClearOutcome (is_added f) (executed o (insn.Ret drop) next flow.Return) → PieceMeets f o t (executed o (insn.Ret drop) next flow.Return)
  return_piece drop fits stand clear =
      through_meets (return_steps drop) _ (some_steps drop) (few_steps drop) fits
      (return_meets (area_of f) here drop next f.code.lo o t (at_bytes (concat (return_parts drop here f.code.lo f.private)) stand (return_long drop here f.code.lo f.private)) stub_low clear)

  -- the piece of a site comes to what its instruction comes to
  flow_meets : (fl : Flow) → flow_of i ≡ fl → AllByRecursion (IsClearEffect b f) (effects_by_flow fl o.answers) → IsClearOutcome (is_added f) (executed o i next fl) → PieceMeets f o t (executed o i next fl)
  flow_meets flow.Plain k h c = joined_meets copy _ (behind flow.Plain k refl) (own_piece flow.Plain k tt (stands flow.Plain k) c)
  flow_meets flow.System k h c =
      joined_meets copy _ (behind flow.System k refl)
      (system_meets (area_of f) here copy o t (at_copy flow.System (stands flow.System k)) i next (found_spelled (code_in b) o.eip i n site_there) k (clear_both b x f o t sound alike _ h))
  flow_meets flow.Trap k h c = lone_meets _ (λ o' e. trap_never o i next k o' e) (own_piece flow.Trap k tt (stands flow.Trap k) c)
  flow_meets flow.Jump k h c =
      let d = is_direct i k in
      subst (λ j. PieceMeets f o t (executed o j next flow.Jump)) (sym d.1) (jump_piece d.0 d.1 (stands_as flow.Jump _ k d.1))
  flow_meets flow.Branch k h c =
      let d = branch_is i k in
      subst (λ j. PieceMeets f o t (executed o j next flow.Branch)) (sym d.2) (branch_piece d.0 d.1 (stands_as flow.Branch _ k d.2) (behind_as flow.Branch _ k d.2 refl))
  flow_meets flow.Count k h c =
      let d = count_is i k in
      subst (λ j. PieceMeets f o t (executed o j next flow.Count)) (sym d.2) (count_piece d.0 d.1 (stands_as flow.Count _ k d.2) (behind_as flow.Count _ k d.2 refl))
  flow_meets flow.Call k h c =
      let d = call_is i k in
      subst (λ j. PieceMeets f o t (executed o j next flow.Call)) (sym d.1)
      (call_piece d.0 (stands_as flow.Call _ k d.1) (subst (λ j. IsClearOutcome (is_added f) (executed o j next flow.Call)) d.1 c))
  flow_meets flow.JumpVia k h c =
      let d = jump_via_is i k in
      let spelt = found_spelled (code_in b) o.eip i n site_there ∙ ap Some d.1 in
      subst (λ j. PieceMeets f o t (executed o j next flow.JumpVia)) (sym d.1)
      (jump_via_piece d.0 (λ o' e. fits_after flow.JumpVia o' k (ap (λ j. executed o j next flow.JumpVia) d.1 ∙ e)) (jump_loads (exec_bytes (code_in b) o.eip n) d.0 spelt)
      (stands_as flow.JumpVia _ k d.1) (subst (λ j. IsClearOutcome (is_added f) (executed o j next flow.JumpVia)) d.1 c))
  flow_meets flow.CallVia k h c =
      let d = call_via_is i k in
      let spelt = found_spelled (code_in b) o.eip i n site_there ∙ ap Some d.1 in
      subst (λ j. PieceMeets f o t (executed o j next flow.CallVia)) (sym d.1)
      (call_via_piece d.0 (λ o' e. fits_after flow.CallVia o' k (ap (λ j. executed o j next flow.CallVia) d.1 ∙ e)) (call_loads (exec_bytes (code_in b) o.eip n) d.0 spelt)
      (stands_as flow.CallVia _ k d.1) (subst (λ j. IsClearOutcome (is_added f) (executed o j next flow.CallVia)) d.1 c))
  flow_meets flow.Return k h c =
      let d = return_is i k in
      subst (λ j. PieceMeets f o t (executed o j next flow.Return)) (sym d.1)
      (return_piece d.0 (λ o' e. fits_after flow.Return o' k (ap (λ j. executed o j next flow.Return) d.1 ∙ e))
      (stands_as flow.Return _ k d.1) (subst (λ j. IsClearOutcome (is_added f) (executed o j next flow.Return)) d.1 c))

  -- whatever its flow
  pub piece_meets : IsClearStep b f o → PieceMeets f o t (step o)
  piece_meets clear =
      let is = fetched_step o i n found in
      subst (PieceMeets f o t) (sym is) (flow_meets (flow_of i) refl
      (taken_clear (IsClearEffect b f) i o.answers (subst (λ r. AllByRecursion (IsClearEffect b f) (taken_of r o.answers)) found clear.effects_clear))
      (subst (IsClearOutcome (is_added f)) is clear.stop_clear))
