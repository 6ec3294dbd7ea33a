-- What is found in a pair of files, put together.
use Rattle.std.proofs.Common.{◌≡◌, ℕ, ◌≤◌, List, length, Option, Some, None, refl, sym, ap, ◌∙◌, subst, arith}
use mathlib.Core.Path.{fun_ext}
use Rattle.std.specs.Prelude.{Result, Ok, Err, IfOk}
use Rattle.std.specs.Option.{option_or}
use Rattle.std.specs.List.{filter_map}
use Rattle.mv_base.specs.Bytes.{AreBytes}
use Rattle.elf32_read.specs.declared.fault.ImageFault.{ImageFault}
use Rattle.elf32_read.specs.declared.run.Run.{Run}
use Rattle.elf32_read.specs.declared.reader.ReadImage.{ReadImage}
use Rattle.elf32_read.specs.declared.reader.ReadImage.TheVariants.{Bad}
use Rattle.elf32_read.specs.Reading.{IsRead}
use Rattle.elf32_read.specs.Faults.{or_else, load_refusal, limit_fault, refusal}
use Rattle.elf32_read.specs.RunCount.{bytes_len-runs_of, code_size-admitted, length-runs_of, header_count-admitted}
use Rattle.elf32_read.specs.Runs.{runs_of, code_of, AreSpread}
use Rattle.elf32_read.specs.Segments.{code_of-runs_of, AreApart-runs_of, AreSpread-apart}
use Rattle.elf32_read.specs.Whole.{or_else-none}
use Rattle.elf32_write.specs.Frame.{Frame, frame, counted}
use Rattle.superset.specs.Sites.{addresses, sites_in}
use Rattle.simulation_laws.specs.Code.{site_at, code_in}
use Rattle.simulation_laws.specs.Stopping.{Simulates}
use Rattle.image_layout.specs.laws.SiteFacts.{length-addresses}
use Rattle.pair_check.specs.declared.checking.CheckFault.{CheckFault}
use Rattle.pair_check.specs.declared.differs.Differs.{Differs}
use Rattle.pair_check.specs.Parts.{parts_differ, sites_differ, pairs_differ, differs}
use Rattle.pair_check.specs.Checking.{Compares, IsChecked}
use Rattle.pair_check.specs.Walking.{IsSeen, FitWays}
use Rattle.pair_check.proofs.NoDifference.{neither}
use Rattle.pair_check.proofs.Sound.{parts_none, simulated}

pub no_refusal : (b : List ℕ) → load_refusal b ≡ None → limit_fault b ≡ None → refusal b ≡ None
unfolding refusal
no_refusal b whole admitted = ap (λ (o : Option ImageFault). or_else o (limit_fault b)) whole ∙ admitted

refused_read : (b : List ℕ) (f : ImageFault) → load_refusal b ≡ Some f → refusal b ≡ Some f
unfolding refusal
refused_read b f e = ap (λ (o : Option ImageFault). or_else o (limit_fault b)) e

pub refused_bad : (b : List ℕ) (e : ReadImage) (f : ImageFault) → IsRead b (Err e) → e ≡ Bad f → refusal b ≡ Some f
refused_bad b e f read is = refused_read b f (subst (λ (x : ReadImage). IsRead b (Err x)) is read)

pub refused_limit : (b : List ℕ) (f : ImageFault) → load_refusal b ≡ None → limit_fault b ≡ Some f → refusal b ≡ Some f
unfolding refusal
refused_limit b f whole e = ap (λ (o : Option ImageFault). or_else o (limit_fault b)) whole ∙ e

pub both_none : (b : List ℕ) → refusal b ≡ None → (load_refusal b ≡ None) × (limit_fault b ≡ None)
unfolding refusal
both_none b e = or_else-none (load_refusal b) (limit_fault b) e

-- ---- runs

pub spread : (b : List ℕ) → load_refusal b ≡ None → AreSpread 0 (runs_of b)
spread b whole = AreSpread-apart 0 (runs_of b) (AreApart-runs_of b whole)

pub few_runs : (b : List ℕ) → limit_fault b ≡ None → length (runs_of b) ≤ 64
few_runs b admitted = omega (arith, length-runs_of b, header_count-admitted b admitted)

pub few_addresses : (b : List ℕ) → load_refusal b ≡ None → limit_fault b ≡ None → length (addresses (runs_of b)) ≤ 16777216
few_addresses b whole admitted = omega (arith, length-addresses (runs_of b), bytes_len-runs_of b whole, code_size-admitted b admitted)

-- ---- the code of the runs is the file's

code_same : (b : List ℕ) (rs : List Run) → load_refusal b ≡ None → rs ≡ runs_of b → code_of rs ≡ code_in b
code_same b rs whole e = ap code_of e ∙ fun_ext (λ a. sym (code_of-runs_of b whole a))

pub pairs_there : (b : List ℕ) (f : Frame) (rs : List Run) → load_refusal b ≡ None → rs ≡ runs_of b → pairs_differ f (code_of rs) 0 None (counted f) ≡ pairs_differ f (code_in b) 0 None (counted f)
pairs_there b f rs whole e = ap (λ code. pairs_differ f code 0 None (counted f)) (code_same b rs whole e)

pub seen_there : (b : List ℕ) (f : Frame) (rs : List Run) (r : Result ℕ Differs) → load_refusal b ≡ None → rs ≡ runs_of b → IsSeen f (code_of rs) (addresses rs) r → IsSeen f (code_in b) (addresses (runs_of b)) r
seen_there b f rs r whole e seen = subst (λ at. IsSeen f (code_in b) at r) (ap addresses e) (subst (λ code. IsSeen f code (addresses rs) r) (code_same b rs whole e) seen)

-- ---- ways

pub fits_there : (b : List ℕ) (f : Frame) (rs : List Run) → load_refusal b ≡ None → rs ≡ runs_of b → FitWays f (code_in b) → FitWays f (code_of rs)
fits_there b f rs whole e fits = subst (FitWays f) (sym (code_same b rs whole e)) fits

-- ---- the parts in their order

pub fourth_of : (o1 o2 o3 o4 o5 : Option Differs) (d : Differs) → o1 ≡ None → o2 ≡ None → o3 ≡ None → o4 ≡ Some d → Some d ≡ option_or o1 (option_or o2 (option_or o3 (option_or o4 o5)))
fourth_of o1 o2 o3 o4 o5 d n1 n2 n3 e = sym (λ i. option_or (n1 i) (option_or (n2 i) (option_or (n3 i) (option_or (e i) o5))))

pub fifth_of : (o1 o2 o3 o4 o5 : Option Differs) → o1 ≡ None → o2 ≡ None → o3 ≡ None → o4 ≡ None → o5 ≡ option_or o1 (option_or o2 (option_or o3 (option_or o4 o5)))
fifth_of o1 o2 o3 o4 o5 n1 n2 n3 n4 = sym (λ i. option_or (n1 i) (option_or (n2 i) (option_or (n3 i) (option_or (n4 i) o5))))

-- ---- the whole

pub compares : (b x : List ℕ) (f : Frame) (o : Option Differs) → load_refusal b ≡ None → limit_fault b ≡ None → frame x ≡ Some f → differs b x f ≡ o → Compares b x o
compares b x f o whole admitted framed e = record { whole = no_refusal b whole admitted; found = f; framed = framed; differs_so = e }

pub parts_first : (b x : List ℕ) (f : Frame) (d : Differs) → parts_differ b x f ≡ Some d → differs b x f ≡ Some d
parts_first b x f d e = ap (λ o. option_or o (sites_differ (code_in b) (runs_of b) f)) e

pub sites_then : (b x : List ℕ) (f : Frame) (o : Option Differs) → parts_differ b x f ≡ None → sites_differ (code_in b) (runs_of b) f ≡ o → differs b x f ≡ o
sites_then b x f o none e = ap (λ q. option_or q (sites_differ (code_in b) (runs_of b) f)) none ∙ e

pub all_sites : (b : List ℕ) → length (filter_map (site_at (code_in b)) (addresses (runs_of b))) ≡ length (sites_in (code_in b) (runs_of b))
unfolding sites_in
all_sites b = refl

-- ---- what a yes says

pub yes_simulates : (b x : List ℕ) → AreBytes b → AreBytes x → length b ≤ 268435456 → Compares b x None → Simulates b x
yes_simulates b x bytes there small is =
    let faults = both_none b is.whole in
    let n = neither (parts_differ b x is.found) (sites_differ (code_in b) (runs_of b) is.found) is.differs_so in
    simulated b x is.found (parts_none b x is.found bytes there small faults.0 faults.1 is.framed n.0) n.1

pub all_simulate : (b x : List ℕ) (r : Result ℕ CheckFault) → AreBytes b → AreBytes x → length b ≤ 268435456 → IsChecked b x r → IfOk r (λ n. Simulates b x)
all_simulate b x (Ok n) bytes there small is = yes_simulates b x bytes there small is.compares
all_simulate b x (Err e) bytes there small is = tt
