-- What the plan of a file gives its writer, and that its file is the output.
use Rattle.std.proofs.Common.{◌≡◌, ℕ, ◌≤◌, List, length, Option, Some, None, refl, sym, ap, ◌∙◌, subst, arith}
use Rattle.std.specs.Prelude.{IfOk, Result, Ok, Err}
use Rattle.std.specs.Option.{option_map}
use Rattle.mv_base.specs.Bytes.{AreBytes}
use Rattle.mv_base.specs.declared.range.RunPlace.{RunPlace}
use Rattle.elf32_read.specs.declared.image.Phdr.{Phdr}
use Rattle.elf32_read.specs.declared.run.Run.{Run}
use Rattle.std.proofs.lemmas.Option.{none-some, same_Some}
use Rattle.elf32_read.specs.declared.fault.ImageFault.{ImageFault}
use Rattle.elf32_read.specs.declared.image.Image.{Image}
use Rattle.elf32_read.specs.Fields.{headers}
use Rattle.elf32_read.specs.Faults.{or_else, load_refusal, limit_fault, refusal}
use Rattle.elf32_read.specs.Limits.{exceeded, exceeded-image}
use Rattle.elf32_read.specs.declared.reader.ReadImage.{ReadImage}
use Rattle.elf32_read.specs.declared.reader.ReadImage.TheVariants.{Bad}
use Rattle.elf32_read.specs.Reading.{IsImage, IsRead}
use Rattle.elf32_read.specs.RunCount.{length-runs_of, header_count-admitted}
use Rattle.elf32_read.specs.Runs.{runs_of, code_of}
use Rattle.elf32_read.specs.Whole.{or_else-none, length-headers}
use Rattle.elf32_write.specs.declared.plan.Plan.{Plan}
use Rattle.elf32_write.specs.File.{added_len, file_of}
use Rattle.elf32_write.specs.Frame.{Frame}
use Rattle.elf32_write.specs.Writing.{EndsLow}
use Rattle.image_layout.specs.Rules.{Rules}
use Rattle.image_layout.specs.declared.layout.LayFault.{LayFault}
use Rattle.image_layout.specs.declared.layout.LayFault.TheVariants as lay_fault
use Rattle.mv_rewrite.specs.declared.rewriting.Rewritten.{Rewritten}
use Rattle.mv_rewrite.specs.declared.rewriting.RewriteFault.{RewriteFault}
use Rattle.superset.specs.declared.site.Site.{Site}
use Rattle.mv_rewrite.specs.Sites.{sites, sites_in}
use Rattle.sequence_join.specs.Chains.{Chain}
use Rattle.image_layout.specs.Fit.{first_fit}
use Rattle.image_layout.specs.Laying.{IsLaid, LaysOut}
use Rattle.image_layout.specs.Layout as layout
use Rattle.image_layout.specs.laws.LayFacts.{AreLaid}
use Rattle.mv_rewrite.specs.Layout.{base_of, size, chains, listed_at, plan_at, IsPlanned}
use Rattle.mv_rewrite.specs.Rewriting.{laid_fault, IsRewritten}
use Rattle.mv_rewrite.specs.Output.{output, output_at}
use Rattle.simulation_laws.specs.Stopping.{Simulates}
use Rattle.mv_rewrite.specs.OutputFile.{IsWrittenFor}
use Rattle.mv_rewrite.proofs.Planned.{IsInput, length-code, length-table_of, length-counted, plan_runs, length-runs_at, size_is, has_room_at}
use Rattle.mv_rewrite.proofs.LayoutFacts.{sites_of_runs}
use Rattle.mv_rewrite.proofs.Recorded.{frame_is}
use Rattle.mv_rewrite.proofs.Outputs.{simulated, image_input}
use Rattle.mv_rewrite.proofs.OutputFacts.{written_for}

added_by : (b : List ℕ) (rules : Rules) (base : ℕ) → AreLaid (runs_of b) (sites b) (chains b) → added_len (plan_at b rules base) ≡ size b rules
added_by b rules base laid =
    let c = length-code b rules base laid in
    let t = length-table_of b rules base in
    let k = length-counted b rules base in
    omega (arith, c, t, k, size_is b rules base)

-- the block of a planned file has the file's size
pub added_is : (b : List ℕ) (rules : Rules) (p : Plan) → AreLaid (runs_of b) (sites b) (chains b) → IsPlanned b rules p → added_len p ≡ size b rules
added_is b rules p laid is = ap added_len is.plan_is ∙ added_by b rules p.base laid

pub ends_low : (b : List ℕ) (rules : Rules) (p : Plan) → AreLaid (runs_of b) (sites b) (chains b) → IsPlanned b rules p → EndsLow p
ends_low b rules p laid is =
    let room = has_room_at b rules p.base is.base_is in
    omega (arith, room.low, added_is b rules p laid is)

-- the plan of a file within the limits has few runs
pub few_runs : (b : List ℕ) (rules : Rules) (p : Plan) → limit_fault b ≡ None → IsPlanned b rules p → length p.runs ≤ 64
few_runs b rules p admitted laid =
    omega (arith, ap (λ (q : Plan). length q.runs) laid.plan_is, ap (λ (l : List RunPlace). length l) (plan_runs b rules p.base), length-runs_at b rules p.base, length-runs_of b, header_count-admitted b admitted)

-- it lists what is counted
pub counted_are : (b : List ℕ) (rules : Rules) (p : Plan) → IsPlanned b rules p → length p.counted ≡ length (listed_at b rules)
counted_are b rules p laid = ap (λ (q : Plan). length q.counted) laid.plan_is ∙ length-counted b rules p.base

pub few_headers : (b : List ℕ) (hs : List Phdr) → limit_fault b ≡ None → hs ≡ headers b → length hs ≤ 61
few_headers b hs admitted are = omega (arith, ap (λ (l : List Phdr). length l) are, length-headers b, header_count-admitted b admitted)

-- no fault: none that keeps a file from being loaded, and no limit is exceeded
pub no_refusal : (b : List ℕ) → load_refusal b ≡ None → limit_fault b ≡ None → refusal b ≡ None
unfolding refusal
no_refusal b whole admitted = ap (λ (o : Option ImageFault). or_else o (limit_fault b)) whole ∙ admitted

-- the first fault is the reader's, else that of the limits
pub read_fault : (b : List ℕ) (e : ReadImage) (f : ImageFault) → IsRead b (Err e) → e ≡ Bad f → refusal b ≡ Some f
unfolding refusal
read_fault b e f read is = ap (λ (o : Option ImageFault). or_else o (limit_fault b)) (subst (λ (x : ReadImage). IsRead b (Err x)) is read)

pub excess_fault : (b : List ℕ) (image : Image) (f : ImageFault) → IsImage b image → exceeded image ≡ Some f → refusal b ≡ Some f
unfolding refusal
excess_fault b image f is fault =
    ap (λ (o : Option ImageFault). or_else o (limit_fault b)) is.whole ∙ sym (exceeded-image b image is) ∙ fault

-- the file of a file's plan is the output
pub output_is : (b : List ℕ) (rules : Rules) (p : Plan) → IsPlanned b rules p → output b rules ≡ Some (file_of b p)
unfolding output
output_is b rules p laid = ap (option_map (output_at b rules)) laid.base_is ∙ ap (λ (q : Plan). Some (file_of b q)) (sym laid.plan_is)

-- the output of a file with no fault is that of an input
pub record IsOutputOf (b : List ℕ) (rules : Rules) (x : List ℕ) : Type 0 where
  pub base : ℕ
  pub input : IsInput b rules base
  pub same : output_at b rules base ≡ x

output_by : (b : List ℕ) (rules : Rules) (x : List ℕ) (o : Option ℕ) → refusal b ≡ None → AreBytes b → length b ≤ 268435456 → base_of b rules ≡ o → option_map (output_at b rules) o ≡ Some x → IsOutputOf b rules x
unfolding refusal
output_by b rules x None whole bytes small at e = absurd (none-some x e)
output_by b rules x (Some base) whole bytes small at e =
    let both = or_else-none (load_refusal b) (limit_fault b) whole in
    let same = same_Some (output_at b rules base) x e in
    record { base = base; input = image_input b rules base both.0 both.1 bytes small at; same = same }

pub output_of : (b : List ℕ) (rules : Rules) (x : List ℕ) → refusal b ≡ None → AreBytes b → length b ≤ 268435456 → output b rules ≡ Some x → IsOutputOf b rules x
unfolding output
output_of b rules x whole bytes small e = output_by b rules x (base_of b rules) whole bytes small refl e

-- each output that a file is rewritten to simulates it
pub all_simulate : (b : List ℕ) (rules : Rules) (r : Result Rewritten RewriteFault) → AreBytes b → IfOk r (λ x. AreBytes x.bytes) → length b ≤ 268435456 → IsRewritten b rules r → IfOk r (λ x. Simulates b x.bytes)
all_simulate b rules (Ok r) bytes there small is =
    let o = output_of b rules r.bytes is.whole bytes small is.bytes in
    subst (Simulates b) o.same (simulated b rules o.base o.input (subst (λ (l : List ℕ). AreBytes l) (sym o.same) there))
all_simulate b rules (Err e) bytes there small is = tt

-- and is what is written for it
pub all_written : (b : List ℕ) (rules : Rules) (r : Result Rewritten RewriteFault) → AreBytes b → IfOk r (λ x. AreBytes x.bytes) → length b ≤ 268435456 → IsRewritten b rules r → IfOk r (λ x. (f : Frame) × IsWrittenFor b rules x.bytes f)
all_written b rules (Ok r) bytes there small is =
    let o = output_of b rules r.bytes is.whole bytes small is.bytes in (
      frame_is b rules o.base,
      subst (λ (x : List ℕ). IsWrittenFor b rules x (frame_is b rules o.base)) o.same (written_for b rules o.base o.input (subst (λ (l : List ℕ). AreBytes l) (sym o.same) there)),
    )
all_written b rules (Err e) bytes there small is = tt

-- ---- from the image's runs, sites and chains to the file's

-- the segments and the entry are the file's, and so are its runs, sites and chains
pub record AreOf (b : List ℕ) (image : Image) (rs : List Run) (ss : List Site) (cs : List Chain) : Type 0 where
  pub image_is : IsImage b image
  pub runs_are : rs ≡ runs_of b
  pub sites_are : ss ≡ sites b
  pub chains_are : cs ≡ chains b

same_size : (b : List ℕ) (rules : Rules) (image : Image) (rs : List Run) (ss : List Site) (cs : List Chain) → AreOf b image rs ss cs → layout.size rules rs ss cs ≡ size b rules
same_size b rules image rs ss cs of = λ i. layout.size rules (of.runs_are i) (of.sites_are i) (of.chains_are i)

base_is : (b : List ℕ) (rules : Rules) (image : Image) (rs : List Run) (ss : List Site) (cs : List Chain) → AreOf b image rs ss cs → first_fit image.segments (layout.size rules rs ss cs) ≡ base_of b rules
unfolding base_of
base_is b rules image rs ss cs of = λ i. first_fit (of.image_is.segments_are i) (same_size b rules image rs ss cs of i)

pub planned : (b : List ℕ) (rules : Rules) (image : Image) (rs : List Run) (ss : List Site) (cs : List Chain) (p : Plan) → AreOf b image rs ss cs → IsLaid image rules rs ss cs p → IsPlanned b rules p
planned b rules image rs ss cs p of laid = record {
  base_is = sym (base_is b rules image rs ss cs of) ∙ laid.base_is;
  plan_is = laid.plan_is ∙ (λ i. layout.plan (of.image_is.entry i) rules (of.runs_are i) (of.sites_are i) (of.chains_are i) p.base);
}

-- the answer where a file with no fault wasn't laid out
no_plan : (b : List ℕ) (rules : Rules) (image : Image) (rs : List Run) (ss : List Site) (cs : List Chain) (fault : LayFault) → AreOf b image rs ss cs → refusal b ≡ None → LaysOut image rules rs ss cs (Err fault) → IsRewritten b rules (Err (laid_fault fault))
no_plan b rules image rs ss cs (lay_fault.NoRoom n) of whole is = record { whole = whole; full = sym (base_is b rules image rs ss cs of) ∙ is.0; size_is = is.1 ∙ same_size b rules image rs ss cs of }
no_plan b rules image rs ss cs lay_fault.NoMemory of whole is = tt

pub laid_passes : (b : List ℕ) (rules : Rules) (image : Image) (rs : List Run) (ss : List Site) (cs : List Chain) (fault : LayFault) (e : RewriteFault) → AreOf b image rs ss cs → refusal b ≡ None → LaysOut image rules rs ss cs (Err fault) → e ≡ laid_fault fault → IsRewritten b rules (Err e)
laid_passes b rules image rs ss cs fault e of whole is passed = subst (λ (x : RewriteFault). IsRewritten b rules (Err x)) (sym passed) (no_plan b rules image rs ss cs fault of whole is)

-- the placed sites of the runs are those of the file
pub sites_are : (b : List ℕ) (rs : List Run) (ss : List Site) → load_refusal b ≡ None → rs ≡ runs_of b → ss ≡ sites_in (code_of rs) rs → ss ≡ sites b
sites_are b rs ss whole runs found = found ∙ (ap (λ (rs : List Run). sites_in (code_of rs) rs) runs ∙ sym (sites_of_runs b whole))
