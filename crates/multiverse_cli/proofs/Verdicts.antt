-- Over the same files a command has one verdict.
use Rattle.std.proofs.Common.{◌≡◌, ℕ, List, [], ◌∷◌, Option, Some, None, IsSome, is_some, false, Ok, Err, refl, sym, ◌∙◌, ap, subst, subst₂}
use Rattle.std.specs.Option.{option_map}
use Rattle.std.proofs.lemmas.Option.{same_Some}
use Rattle.elf32_read.specs.declared.fault.ImageFault.{ImageFault}
use Rattle.elf32_read.specs.Faults.{refusal}
use Rattle.elf32_write.specs.Frame.{Frame, frame, frame_input}
use Rattle.image_layout.specs.Rules.{Rules}
use Rattle.mv_rewrite.specs.Layout.{base_of}
use Rattle.mv_rewrite.specs.Rewriting.{LacksRoom}
use Rattle.mv_rewrite.specs.Upgrading.{rules_back}
use Rattle.pair_check.specs.Checking.{Compares}
use Rattle.pair_check.specs.Parts.{differs}
use Rattle.pair_check.specs.declared.differs.Differs.{Differs as Found}
use Rattle.syscall_log.specs.declared.answer.Answer.{Answer}
use Rattle.syscall_log.specs.declared.log.Log.{Log}
use Rattle.syscall_log.specs.Faults.{IsBadLine}
use Rattle.syscall_log.specs.Grammar.{text_of as log_text}
use Rattle.syscall_log.specs.Rules.{IsLog, IsLog-prop}
use Rattle.trace_run.specs.declared.tracing.TraceFault.TheVariants as tracing
use Rattle.trace_run.specs.Reports.{IsBeyond}
use Rattle.trace_run.specs.laws.OneTrace.{one_outcome}
use Rattle.multiverse_cli.specs.declared.refusal.Defect.{Defect}
use Rattle.multiverse_cli.specs.declared.refusal.Defect.TheVariants.{NoFrame, BadImage, BadLog, BadSource, Differs, TooLarge, NoRoom}
use Rattle.multiverse_cli.specs.Commands.{NewFile, Delivery, IsRewritable, IsNotRewritten, IsNotTraced, IsTracing, IsNotListed, IsNotExtracted, IsExtracting, IsNotUpgraded, IsUpgrading, IsNotAlike, IsNotAssembled, IsAssembling, Lacks, Delivers}
use Rattle.multiverse_cli.specs.Texts.{defect_status}
use Rattle.multiverse_cli.specs.Words.{Work, ToRewrite, ToTrace, ToList, ToSample, ToExtract, ToUpgrade, ToCheck, ToAssemble, output_of}

-- a value that isn't there is none
pub absent : {A : Type 0} (o : Option A) → o ≡ None → IsSome o → ⊥
absent o e h = let none : is_some o ≡ false = ap is_some e in cc

-- a first fault that is there, and none
pub fault-none : (o : Option ImageFault) (fault : ImageFault) → o ≡ None → o ≡ Some fault → ⊥
fault-none o fault none some = let e : None ≡ Some fault = sym none ∙ some in cc

-- ---- rewrite

rewrite-one : (b : List ℕ) (which : Rules) (why other : Defect) → IsNotRewritten b which why → IsNotRewritten b which other → defect_status why ≡ defect_status other
rewrite-one b which NoFrame other h k = absurd h
rewrite-one b which (BadImage f) NoFrame h k = absurd k
rewrite-one b which (BadImage f) (BadImage g) h k = refl
rewrite-one b which (BadImage f) (BadLog n) h k = absurd k
rewrite-one b which (BadImage f) (BadSource n) h k = absurd k
rewrite-one b which (BadImage f) (TooLarge n) h k = absurd k
rewrite-one b which (BadImage f) (Differs found) h k = absurd k
rewrite-one b which (BadImage f) (NoRoom n) h k = absurd (fault-none _ f k.whole h)
rewrite-one b which (BadLog n) other h k = absurd h
rewrite-one b which (BadSource n) other h k = absurd h
rewrite-one b which (TooLarge n) other h k = absurd h
rewrite-one b which (Differs found) other h k = absurd h
rewrite-one b which (NoRoom n) NoFrame h k = absurd k
rewrite-one b which (NoRoom n) (BadImage f) h k = absurd (fault-none _ f h.whole k)
rewrite-one b which (NoRoom n) (BadLog m) h k = absurd k
rewrite-one b which (NoRoom n) (BadSource m) h k = absurd k
rewrite-one b which (NoRoom n) (TooLarge m) h k = absurd k
rewrite-one b which (NoRoom n) (Differs found) h k = absurd k
rewrite-one b which (NoRoom n) (NoRoom m) h k = refl

rewrite-clash : (b : List ℕ) (which : Rules) (why : Defect) → IsNotRewritten b which why → IsRewritable b which → ⊥
rewrite-clash b which NoFrame h k = h
rewrite-clash b which (BadImage f) h k = fault-none _ f k.sound h
rewrite-clash b which (BadLog n) h k = h
rewrite-clash b which (BadSource n) h k = h
rewrite-clash b which (TooLarge n) h k = h
rewrite-clash b which (Differs found) h k = h
rewrite-clash b which (NoRoom n) h k = absent (base_of b which) h.full k.room

-- ---- trace

-- a text that is a log's has no bad line
log-clash : (l : List ℕ) (line : ℕ) (log : Log) → IsBadLine l line → l ≡ log_text log.args log.answers → ⊥
log-clash l line log bad spelled =
    bad.no_log (record { args = log.args; answers = log.answers; is_log = log.bounds; is_text = spelled })

trace-one :
    (steps : ℕ) (b l : List ℕ) (why other : Defect) → IsNotTraced steps b l why → IsNotTraced steps b l other
    → defect_status why ≡ defect_status other
trace-one steps b l NoFrame other h k = absurd h
trace-one steps b l (BadImage f) NoFrame h k = absurd k
trace-one steps b l (BadImage f) (BadImage g) h k = refl
trace-one steps b l (BadImage f) (BadLog n) h k = absurd (fault-none _ f k.sound h)
trace-one steps b l (BadImage f) (BadSource n) h k = absurd k
trace-one steps b l (BadImage f) (TooLarge n) h k = absurd (fault-none _ f k.traceable.sound h)
trace-one steps b l (BadImage f) (Differs found) h k = absurd k
trace-one steps b l (BadImage f) (NoRoom n) h k = absurd k
trace-one steps b l (BadLog n) NoFrame h k = absurd k
trace-one steps b l (BadLog n) (BadImage f) h k = absurd (fault-none _ f h.sound k)
trace-one steps b l (BadLog n) (BadLog m) h k = refl
trace-one steps b l (BadLog n) (BadSource m) h k = absurd k
trace-one steps b l (BadLog n) (TooLarge m) h k = absurd (log-clash l n k.log h.bad k.traceable.spelled)
trace-one steps b l (BadLog n) (Differs found) h k = absurd k
trace-one steps b l (BadLog n) (NoRoom m) h k = absurd k
trace-one steps b l (BadSource n) other h k = absurd h
trace-one steps b l (TooLarge n) NoFrame h k = absurd k
trace-one steps b l (TooLarge n) (BadImage f) h k = absurd (fault-none _ f h.traceable.sound k)
trace-one steps b l (TooLarge n) (BadLog m) h k = absurd (log-clash l m h.log k.bad h.traceable.spelled)
trace-one steps b l (TooLarge n) (BadSource m) h k = absurd k
trace-one steps b l (TooLarge n) (TooLarge m) h k = refl
trace-one steps b l (TooLarge n) (Differs found) h k = absurd k
trace-one steps b l (TooLarge n) (NoRoom m) h k = absurd k
trace-one steps b l (Differs found) other h k = absurd h
trace-one steps b l (NoRoom n) other h k = absurd h

-- a text spells one log
abbrev pub SpellsOne : Type 0
SpellsOne =
    (args args' : List (List ℕ)) (answers answers' : List Answer) → IsLog args answers → IsLog args' answers'
    → log_text args answers ≡ log_text args' answers' → (args ≡ args') × (answers ≡ answers')

-- what holds of a log holds of a log with the same text
same-log : SpellsOne → (x y : Log) (P : Log → Type 0) → log_text x.args x.answers ≡ log_text y.args y.answers → P x → P y
same-log one x y P e h =
    let parts = one x.args y.args x.answers y.answers x.bounds y.bounds e in
    let Q : List (List ℕ) → List Answer → Type 0 =
    λ args answers. (keeps : IsLog args answers) → P (record { args = args; answers = answers; bounds = keeps }) in
    let R : IsLog x.args x.answers → Type 0 = λ keeps. P (record { args = x.args; answers = x.answers; bounds = keeps }) in
    let here : Q x.args x.answers = λ keeps. subst R (IsLog-prop x.args x.answers x.bounds keeps) h in
    subst₂ Q parts.0 parts.1 here y.bounds

trace-clash : SpellsOne → (steps : ℕ) (b l : List ℕ) (why : Defect) (d : Delivery) → IsNotTraced steps b l why → IsTracing steps b l d → ⊥
trace-clash one steps b l NoFrame d h k = h
trace-clash one steps b l (BadImage f) d h k = fault-none _ f k.traceable.sound h
trace-clash one steps b l (BadLog n) d h k = log-clash l n k.log h.bad k.traceable.spelled
trace-clash one steps b l (BadSource n) d h k = h
trace-clash one steps b l (TooLarge n) d h k =
    let P : Log → Type 0 = λ log. IsBeyond b log steps n in
    one_outcome b k.log steps (Ok k.report) (Err (tracing.TooLarge n)) k.reports
    (same-log one h.log k.log P (sym h.traceable.spelled ∙ k.traceable.spelled) h.beyond)
trace-clash one steps b l (Differs found) d h k = h
trace-clash one steps b l (NoRoom n) d h k = h

-- ---- list

list-one : (b : List ℕ) (why other : Defect) → IsNotListed b why → IsNotListed b other → defect_status why ≡ defect_status other
list-one b NoFrame other h k = absurd h
list-one b (BadImage f) NoFrame h k = absurd k
list-one b (BadImage f) (BadImage g) h k = refl
list-one b (BadImage f) (BadLog n) h k = absurd k
list-one b (BadImage f) (BadSource n) h k = absurd k
list-one b (BadImage f) (TooLarge n) h k = absurd k
list-one b (BadImage f) (Differs found) h k = absurd k
list-one b (BadImage f) (NoRoom n) h k = absurd k
list-one b (BadLog n) other h k = absurd h
list-one b (BadSource n) other h k = absurd h
list-one b (TooLarge n) other h k = absurd h
list-one b (Differs found) other h k = absurd h
list-one b (NoRoom n) other h k = absurd h

list-clash : (b : List ℕ) (why : Defect) → IsNotListed b why → refusal b ≡ None → ⊥
list-clash b NoFrame h k = h
list-clash b (BadImage f) h k = fault-none _ f k h
list-clash b (BadLog n) h k = h
list-clash b (BadSource n) h k = h
list-clash b (TooLarge n) h k = h
list-clash b (Differs found) h k = h
list-clash b (NoRoom n) h k = h

-- ---- extract

-- a frame that is there, and none
frame-none : (x : List ℕ) (f : Frame) → frame x ≡ None → frame x ≡ Some f → ⊥
frame-none x f none some = let e : None ≡ Some f = sym none ∙ some in cc

extract-one : (x : List ℕ) (why other : Defect) → IsNotExtracted x why → IsNotExtracted x other → defect_status why ≡ defect_status other
extract-one x NoFrame NoFrame h k = refl
extract-one x NoFrame (BadImage f) h k = absurd k
extract-one x NoFrame (BadLog n) h k = absurd k
extract-one x NoFrame (BadSource n) h k = absurd k
extract-one x NoFrame (TooLarge n) h k = absurd k
extract-one x NoFrame (Differs found) h k = absurd k
extract-one x NoFrame (NoRoom n) h k = absurd k
extract-one x (BadImage f) other h k = absurd h
extract-one x (BadLog n) other h k = absurd h
extract-one x (BadSource n) other h k = absurd h
extract-one x (TooLarge n) other h k = absurd h
extract-one x (Differs found) other h k = absurd h
extract-one x (NoRoom n) other h k = absurd h

extract-clash : (x output : List ℕ) (why : Defect) (d : Delivery) → IsNotExtracted x why → IsExtracting output x d → ⊥
extract-clash x output NoFrame d h k = frame-none x k.frame_of h k.framed
extract-clash x output (BadImage f) d h k = h
extract-clash x output (BadLog n) d h k = h
extract-clash x output (BadSource n) d h k = h
extract-clash x output (TooLarge n) d h k = h
extract-clash x output (Differs found) d h k = h
extract-clash x output (NoRoom n) d h k = h

-- ---- upgrade

-- a file has one frame
one-frame : (x : List ℕ) (f g : Frame) → frame x ≡ Some f → frame x ≡ Some g → f ≡ g
one-frame x f g h k = same_Some f g (sym h ∙ k)

-- an input with a fault finds no room for want of which it is refused
fault-or-room : (x : List ℕ) (fault : ImageFault) (n : ℕ) → IsNotUpgraded x (BadImage fault) → IsNotUpgraded x (NoRoom n) → ⊥
fault-or-room x fault n h k =
    let P : Frame → Type 0 = λ f. refusal (frame_input f) ≡ Some fault in
    fault-none _ fault k.2.whole (subst P (one-frame x h.0 k.0 h.1 k.1) h.2)

upgrade-one : (x : List ℕ) (why other : Defect) → IsNotUpgraded x why → IsNotUpgraded x other → defect_status why ≡ defect_status other
upgrade-one x NoFrame NoFrame h k = refl
upgrade-one x NoFrame (BadImage f) h k = absurd (frame-none x k.0 h k.1)
upgrade-one x NoFrame (BadLog n) h k = absurd k
upgrade-one x NoFrame (BadSource n) h k = absurd k
upgrade-one x NoFrame (TooLarge n) h k = absurd k
upgrade-one x NoFrame (Differs found) h k = absurd k
upgrade-one x NoFrame (NoRoom n) h k = absurd (frame-none x k.0 h k.1)
upgrade-one x (BadImage f) NoFrame h k = absurd (frame-none x h.0 k h.1)
upgrade-one x (BadImage f) (BadImage g) h k = refl
upgrade-one x (BadImage f) (BadLog n) h k = absurd k
upgrade-one x (BadImage f) (BadSource n) h k = absurd k
upgrade-one x (BadImage f) (TooLarge n) h k = absurd k
upgrade-one x (BadImage f) (Differs found) h k = absurd k
upgrade-one x (BadImage f) (NoRoom n) h k = absurd (fault-or-room x f n h k)
upgrade-one x (BadLog n) other h k = absurd h
upgrade-one x (BadSource n) other h k = absurd h
upgrade-one x (TooLarge n) other h k = absurd h
upgrade-one x (Differs found) other h k = absurd h
upgrade-one x (NoRoom n) NoFrame h k = absurd (frame-none x h.0 k h.1)
upgrade-one x (NoRoom n) (BadImage f) h k = absurd (fault-or-room x f n k h)
upgrade-one x (NoRoom n) (BadLog m) h k = absurd k
upgrade-one x (NoRoom n) (BadSource m) h k = absurd k
upgrade-one x (NoRoom n) (TooLarge m) h k = absurd k
upgrade-one x (NoRoom n) (Differs found) h k = absurd k
upgrade-one x (NoRoom n) (NoRoom m) h k = refl

-- what an input of a frame lacks clashes with its rewriting
module _ (x output : List ℕ) (d : Delivery) (k : IsUpgrading output x d) where
  abbrev b : List ℕ
  b = frame_input k.old

  upgrade-clash : (why : Defect) → IsNotUpgraded x why → ⊥
  upgrade-clash NoFrame h = frame-none x k.old h k.framed
  upgrade-clash (BadImage fault) h =
      let P : Frame → Type 0 = λ f. refusal (frame_input f) ≡ Some fault in
      rewrite-clash b (rules_back k.old) (BadImage fault) (subst P (one-frame x h.0 k.old h.1 k.framed) h.2) k.rewriting.rewrites.rewritable
  upgrade-clash (BadLog n) h = h
  upgrade-clash (BadSource n) h = h
  upgrade-clash (TooLarge n) h = h
  upgrade-clash (Differs found) h = h
  upgrade-clash (NoRoom n) h =
      let P : Frame → Type 0 = λ f. LacksRoom (frame_input f) (rules_back f) n in
      rewrite-clash b (rules_back k.old) (NoRoom n) (subst P (one-frame x h.0 k.old h.1 k.framed) h.2) k.rewriting.rewrites.rewritable

-- ---- check

check-one : (b x : List ℕ) (why other : Defect) → IsNotAlike b x why → IsNotAlike b x other → defect_status why ≡ defect_status other
check-one b x NoFrame NoFrame h k = refl
check-one b x NoFrame (BadImage f) h k = absurd (fault-none _ f h.whole k)
check-one b x NoFrame (BadLog n) h k = absurd k
check-one b x NoFrame (BadSource n) h k = absurd k
check-one b x NoFrame (Differs found) h k = absurd (frame-none x k.found h.none k.framed)
check-one b x NoFrame (TooLarge n) h k = absurd k
check-one b x NoFrame (NoRoom n) h k = absurd k
check-one b x (BadImage f) NoFrame h k = absurd (fault-none _ f k.whole h)
check-one b x (BadImage f) (BadImage g) h k = refl
check-one b x (BadImage f) (BadLog n) h k = absurd k
check-one b x (BadImage f) (BadSource n) h k = absurd k
check-one b x (BadImage f) (Differs found) h k = absurd (fault-none _ f k.whole h)
check-one b x (BadImage f) (TooLarge n) h k = absurd k
check-one b x (BadImage f) (NoRoom n) h k = absurd k
check-one b x (BadLog n) other h k = absurd h
check-one b x (BadSource n) other h k = absurd h
check-one b x (Differs found) NoFrame h k = absurd (frame-none x h.found k.none h.framed)
check-one b x (Differs found) (BadImage f) h k = absurd (fault-none _ f h.whole k)
check-one b x (Differs found) (BadLog n) h k = absurd k
check-one b x (Differs found) (BadSource n) h k = absurd k
check-one b x (Differs found) (Differs other) h k = refl
check-one b x (Differs found) (TooLarge n) h k = absurd k
check-one b x (Differs found) (NoRoom n) h k = absurd k
check-one b x (TooLarge n) other h k = absurd h
check-one b x (NoRoom n) other h k = absurd h

-- a file in which nothing differs has no part that does
alike-differs : (b x : List ℕ) (found : Found) → Compares b x None → Compares b x (Some found) → ⊥
alike-differs b x found h k =
    let P : Frame → Type 0 = λ f. differs b x f ≡ Some found in
    let e : None ≡ Some found = sym h.differs_so ∙ subst P (one-frame x k.found h.found k.framed h.framed) k.differs_so in cc

pub check-clash : (b x : List ℕ) (why : Defect) → Compares b x None → IsNotAlike b x why → ⊥
check-clash b x NoFrame k h = frame-none x k.found h.none k.framed
check-clash b x (BadImage f) k h = fault-none _ f k.whole h
check-clash b x (BadLog n) k h = h
check-clash b x (BadSource n) k h = h
check-clash b x (Differs found) k h = alike-differs b x found k h
check-clash b x (TooLarge n) k h = h
check-clash b x (NoRoom n) k h = h

-- ---- assemble

assemble-one : (s : List ℕ) (why other : Defect) → IsNotAssembled s why → IsNotAssembled s other → defect_status why ≡ defect_status other
assemble-one s NoFrame other h k = absurd h
assemble-one s (BadImage f) other h k = absurd h
assemble-one s (BadLog n) other h k = absurd h
assemble-one s (BadSource n) NoFrame h k = absurd k
assemble-one s (BadSource n) (BadImage f) h k = absurd k
assemble-one s (BadSource n) (BadLog m) h k = absurd k
assemble-one s (BadSource n) (BadSource m) h k = refl
assemble-one s (BadSource n) (Differs found) h k = absurd k
assemble-one s (BadSource n) (TooLarge m) h k = absurd k
assemble-one s (BadSource n) (NoRoom m) h k = absurd k
assemble-one s (Differs found) other h k = absurd h
assemble-one s (TooLarge n) other h k = absurd h
assemble-one s (NoRoom n) other h k = absurd h

assemble-clash : (s output : List ℕ) (why : Defect) (d : Delivery) → IsNotAssembled s why → IsAssembling output s d → ⊥
assemble-clash s output NoFrame d h k = h
assemble-clash s output (BadImage f) d h k = h
assemble-clash s output (BadLog n) d h k = h
assemble-clash s output (BadSource n) d h k = k.faultless n h
assemble-clash s output (Differs found) d h k = h
assemble-clash s output (TooLarge n) d h k = h
assemble-clash s output (NoRoom n) d h k = h

-- ---- all commands

-- two defects have one answer
pub one-defect :
    (w : Work) (files : List (List ℕ)) (why other : Defect) → Lacks w files why → Lacks w files other
    → defect_status why ≡ defect_status other
one-defect (ToRewrite which output) [] why other h k = absurd h
one-defect (ToRewrite which output) (b ∷ []) why other h k = rewrite-one b which why other h k
one-defect (ToRewrite which output) (b ∷ c ∷ files) why other h k = absurd h
one-defect (ToTrace steps) [] why other h k = absurd h
one-defect (ToTrace steps) (b ∷ []) why other h k = absurd h
one-defect (ToTrace steps) (b ∷ l ∷ []) why other h k = trace-one steps b l why other h k
one-defect (ToTrace steps) (b ∷ l ∷ c ∷ files) why other h k = absurd h
one-defect ToList [] why other h k = absurd h
one-defect ToList (b ∷ []) why other h k = list-one b why other h k
one-defect ToList (b ∷ c ∷ files) why other h k = absurd h
one-defect (ToSample number size output) [] why other h k = absurd h
one-defect (ToSample number size output) (b ∷ files) why other h k = absurd h
one-defect (ToExtract output) [] why other h k = absurd h
one-defect (ToExtract output) (x ∷ []) why other h k = extract-one x why other h k
one-defect (ToExtract output) (x ∷ c ∷ files) why other h k = absurd h
one-defect (ToUpgrade output) [] why other h k = absurd h
one-defect (ToUpgrade output) (x ∷ []) why other h k = upgrade-one x why other h k
one-defect (ToUpgrade output) (x ∷ c ∷ files) why other h k = absurd h
one-defect ToCheck [] why other h k = absurd h
one-defect ToCheck (b ∷ []) why other h k = absurd h
one-defect ToCheck (b ∷ x ∷ []) why other h k = check-one b x why other h k
one-defect ToCheck (b ∷ x ∷ c ∷ files) why other h k = absurd h
one-defect (ToAssemble output) [] why other h k = absurd h
one-defect (ToAssemble output) (s ∷ []) why other h k = assemble-one s why other h k
one-defect (ToAssemble output) (s ∷ c ∷ files) why other h k = absurd h

-- files that lack something have nothing that is delivered over them
pub defect-clash : SpellsOne → (w : Work) (files : List (List ℕ)) (why : Defect) (d : Delivery) → Lacks w files why → Delivers w files d → ⊥
defect-clash one (ToRewrite which output) [] why d h k = h
defect-clash one (ToRewrite which output) (b ∷ []) why d h k = rewrite-clash b which why h k.rewrites.rewritable
defect-clash one (ToRewrite which output) (b ∷ c ∷ files) why d h k = h
defect-clash one (ToTrace steps) [] why d h k = h
defect-clash one (ToTrace steps) (b ∷ []) why d h k = h
defect-clash one (ToTrace steps) (b ∷ l ∷ []) why d h k = trace-clash one steps b l why d h k
defect-clash one (ToTrace steps) (b ∷ l ∷ c ∷ files) why d h k = h
defect-clash one ToList [] why d h k = h
defect-clash one ToList (b ∷ []) why d h k = list-clash b why h k.sound
defect-clash one ToList (b ∷ c ∷ files) why d h k = h
defect-clash one (ToSample number size output) [] why d h k = h
defect-clash one (ToSample number size output) (b ∷ files) why d h k = h
defect-clash one (ToExtract output) [] why d h k = h
defect-clash one (ToExtract output) (x ∷ []) why d h k = extract-clash x output why d h k
defect-clash one (ToExtract output) (x ∷ c ∷ files) why d h k = h
defect-clash one (ToUpgrade output) [] why d h k = h
defect-clash one (ToUpgrade output) (x ∷ []) why d h k = upgrade-clash x output d k why h
defect-clash one (ToUpgrade output) (x ∷ c ∷ files) why d h k = h
defect-clash one ToCheck [] why d h k = h
defect-clash one ToCheck (b ∷ []) why d h k = h
defect-clash one ToCheck (b ∷ x ∷ []) why d h k = check-clash b x why k.alike h
defect-clash one ToCheck (b ∷ x ∷ c ∷ files) why d h k = h
defect-clash one (ToAssemble output) [] why d h k = h
defect-clash one (ToAssemble output) (s ∷ []) why d h k = assemble-clash s output why d h k
defect-clash one (ToAssemble output) (s ∷ c ∷ files) why d h k = h

-- the file that is delivered has the name that the command writes
pub output-named :
    (w : Work) (files : List (List ℕ)) (d : Delivery) (f : NewFile) → Delivers w files d → d.file ≡ Some f
    → output_of w ≡ Some f.name
output-named (ToRewrite which output) [] d f h e = absurd h
output-named (ToRewrite which output) (b ∷ []) d f h e = ap (option_map (λ g. g.name)) (sym h.file_is ∙ e)
output-named (ToRewrite which output) (b ∷ c ∷ files) d f h e = absurd h
output-named (ToTrace steps) [] d f h e = absurd h
output-named (ToTrace steps) (b ∷ []) d f h e = absurd h
output-named (ToTrace steps) (b ∷ l ∷ []) d f h e = let clash : None ≡ Some f = sym h.file_is ∙ e in cc
output-named (ToTrace steps) (b ∷ l ∷ c ∷ files) d f h e = absurd h
output-named ToList [] d f h e = absurd h
output-named ToList (b ∷ []) d f h e = let clash : None ≡ Some f = sym h.file_is ∙ e in cc
output-named ToList (b ∷ c ∷ files) d f h e = absurd h
output-named (ToSample number size output) [] d f h e = ap (option_map (λ g. g.name)) (sym h.file_is ∙ e)
output-named (ToSample number size output) (b ∷ files) d f h e = absurd h
output-named (ToExtract output) [] d f h e = absurd h
output-named (ToExtract output) (x ∷ []) d f h e = ap (option_map (λ g. g.name)) (sym h.file_is ∙ e)
output-named (ToExtract output) (x ∷ c ∷ files) d f h e = absurd h
output-named (ToUpgrade output) [] d f h e = absurd h
output-named (ToUpgrade output) (x ∷ []) d f h e = ap (option_map (λ g. g.name)) (sym h.rewriting.file_is ∙ e)
output-named (ToUpgrade output) (x ∷ c ∷ files) d f h e = absurd h
output-named ToCheck [] d f h e = absurd h
output-named ToCheck (b ∷ []) d f h e = absurd h
output-named ToCheck (b ∷ x ∷ []) d f h e = let clash : None ≡ Some f = sym h.file_is ∙ e in cc
output-named ToCheck (b ∷ x ∷ c ∷ files) d f h e = absurd h
output-named (ToAssemble output) [] d f h e = absurd h
output-named (ToAssemble output) (s ∷ []) d f h e = ap (option_map (λ g. g.name)) (sym h.file_is ∙ e)
output-named (ToAssemble output) (s ∷ c ∷ files) d f h e = absurd h
