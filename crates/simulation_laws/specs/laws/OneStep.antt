-- One step of the input: from agreeing states the output comes within its bound to what the step comes to, completed or
-- stopped; where nothing stands, it stops at once.
use Rattle.std.proofs.Common.{◌≡◌, ℕ, false, List, Option, Some, None, refl, sym, ap, ◌∙◌, subst, ⊎_elim, arith}
use Rattle.std.proofs.lemmas.Bool.{cases_Bool, cond-false}
use Rattle.mv_base.specs.Memory.{Cell, IsMemory, exec_byte, exec_byte_of, exec_bytes}
use Rattle.x86_insn.specs.Spelling.{decoded}
use Rattle.x86_insn.specs.State.{State, Outcome, Next, Stopped}
use Rattle.x86_insn.specs.declared.stop.Kind.TheVariants.{FetchFault}
use Rattle.x86_insn.specs.declared.stop.Stop.{Stop}
use Rattle.x86_insn.specs.declared.stop.Stop.TheVariants.{Trap}
use Rattle.x86_insn.specs.Step.{Fetched, Absent, Found, Unknown, fetch, fetch_in, fetched, stepped, step}
use Rattle.step_laws.specs.Beside.{IsClearOutcome}
use Rattle.step_laws.specs.laws.Cells.{may_execute}
use Rattle.elf32_write.specs.Frame.{Frame, frame_map, is_added}
use Rattle.superset.specs.Sites.{site_found}
use Rattle.simulation_laws.specs.Code.{site_at, code_in}
use Rattle.superset.specs.declared.site.Site.{Site}
use Rattle.simulation_laws.specs.Simulation.{IsClearStep}
use Rattle.simulation_laws.specs.Stepping.{IsSound, Alike, MeetsWithin}
use Rattle.simulation_laws.specs.Followed.{IsCarried}
use Rattle.simulation_laws.specs.laws.Sound.{code_same}

-- ---- what is no instruction

-- neither there nor an instruction
abbrev IsNoSite : Fetched → Type 0
IsNoSite Absent = Unit {0}
IsNoSite (Found i n) = ⊥
IsNoSite Unknown = Unit {0}

no_site : (code : ℕ → Option ℕ) (a : ℕ) (r : Fetched) → IsNoSite r → fetch_in code a ≡ r → site_at code a ≡ None
no_site code a Absent h e = ap (site_found a) e
no_site code a (Found i n) h e = absurd h
no_site code a Unknown h e = ap (site_found a) e

absent_where_none : (code : ℕ → Option ℕ) (a : ℕ) → code a ≡ None → fetch_in code a ≡ Absent
unfolding fetch_in
absent_where_none code a e = ap (λ (y : Option ℕ). fetched y (decoded (exec_bytes code a 15))) e

no_byte : (c : Option Cell) → may_execute c ≡ false → exec_byte_of c ≡ None
no_byte None e = refl
no_byte (Some c) e = cond-false c.exec (Some c.byte) None e

-- the stop of a step that has no site
abbrev IsClearMiss : Frame → ℕ → Fetched → Type 0
IsClearMiss f a Absent = is_added f a ≡ false
IsClearMiss f a (Found i n) = Unit {0}
IsClearMiss f a Unknown = Unit {0}

-- a stop completes nothing
stops_never : {why : Stop} {s u : State} → Stopped why s ≡ Next u → ⊥
stops_never e = subst Stops e tt
  where
    Stops : Outcome → Type 0
    Stops (Next s) = ⊥
    Stops (Stopped w s) = Unit {0}

unknown_there : Absent ≡ Unknown → ⊥
unknown_there e = grind arith

-- ---- one step

-- what the output comes to, by what the input fetches: at a site what the input comes to, else at once a fetch fault there
abbrev pub Goes : Frame → State → State → Outcome → Fetched → Type 0
Goes f o t X Absent = step t ≡ Stopped (Trap FetchFault o.eip) t
Goes f o t X (Found i n) = MeetsWithin f o.eip o t X
Goes f o t X Unknown = step t ≡ Stopped (Trap FetchFault o.eip) t

module _ (b x : List ℕ) (f : Frame) (rel : IsCarried b x f) (o t : State) (own : IsSound b o) (s : Alike x f o t) (cells : IsMemory t.memory) (place : t.eip ≡ frame_map f o.eip) where
  miss_stops : (r : Fetched) → IsNoSite r → fetch o.memory o.eip ≡ r → IsClearMiss f o.eip r → step t ≡ Stopped (Trap FetchFault o.eip) t
  unfolding step
  miss_stops r miss e clear =
      let place' : t.eip ≡ o.eip = place ∙ rel.others o.eip (no_site (code_in b) o.eip r miss (subst (λ (code : ℕ → Option ℕ). fetch_in code o.eip ≡ r) (code_same b o own) e)) in
      let idle = no_byte (t.memory o.eip) (s.idle o.eip (not_added r miss e clear)) in
      let absent : fetch t.memory t.eip ≡ Absent = ap (fetch_in (exec_byte t.memory)) place' ∙ absent_where_none (exec_byte t.memory) o.eip idle in
      ap (stepped t) absent ∙ ap (λ (a : ℕ). Stopped (Trap FetchFault a) t) place'
    where
      not_added : (r : Fetched) → IsNoSite r → fetch o.memory o.eip ≡ r → IsClearMiss f o.eip r → is_added f o.eip ≡ false
      not_added Absent miss e c = c
      not_added (Found i n) miss e c = absurd miss
      not_added Unknown miss e c = ⊎_elim (λ i. absurd (unknown_there (sym (absent_where_none (exec_byte o.memory) o.eip (ap exec_byte_of (s.beside.memory.free o.eip i))) ∙ e))) (λ i. i) (cases_Bool (is_added f o.eip))

  fetched_goes : IsClearStep b f o → (r : Fetched) → fetch o.memory o.eip ≡ r → Goes f o t (step o) r
  unfolding step
  fetched_goes clear Absent e = miss_stops Absent tt e (subst (λ q. IsClearOutcome (is_added f) (stepped o q)) e clear.stop_clear)
  fetched_goes clear (Found i n) e =
      let site : Site = record { at = o.eip; len = n; insn = i } in
      let here : site_at (code_in b) o.eip ≡ Some site = ap (site_found o.eip) (subst (λ (code : ℕ → Option ℕ). fetch_in code o.eip ≡ Found i n) (code_same b o own) e) in
      rel.laws o.eip site here o t (record { sound = own; alike = s; cells = cells; at = refl; place = place; found = e }) clear
  fetched_goes clear Unknown e = miss_stops Unknown tt e tt

  -- from a clear step of the input
  pub step_goes : IsClearStep b f o → Goes f o t (step o) (fetch o.memory o.eip)
  step_goes clear = fetched_goes clear (fetch o.memory o.eip) refl

  -- so where the input completes a step, the output reaches what it comes to
  pub step_meets : (o' : State) → IsClearStep b f o → step o ≡ Next o' → MeetsWithin f o.eip o t (Next o')
  unfolding step
  step_meets o' clear st = go (fetch o.memory o.eip) refl (step_goes clear)
    where
      go : (r : Fetched) → fetch o.memory o.eip ≡ r → Goes f o t (step o) r → MeetsWithin f o.eip o t (Next o')
      go Absent e m = absurd (stops_never (sym (ap (stepped o) e) ∙ st))
      go (Found i n) e m = subst (MeetsWithin f o.eip o t) st m
      go Unknown e m = absurd (stops_never (sym (ap (stepped o) e) ∙ st))
