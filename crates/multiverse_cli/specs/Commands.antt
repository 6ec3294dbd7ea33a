-- What each command makes of the files that it reads. This project's own.
use Rattle.std.specs.Prelude.{◌≡◌, ℕ, List, [], ◌∷◌, length, codes, Option, Some, None, IsSome, unwrap_or}
use Rattle.elf32_read.specs.Faults.{refusal, load_refusal}
use Rattle.elf32_write.specs.Frame.{Frame, frame, frame_input}
use Rattle.simulation_laws.specs.Stopping.{Simulates}
use Rattle.elf32_read.specs.Runs.{runs_of}
use Rattle.simulation_laws.specs.Code.{code_in}
use Rattle.superset.specs.Sites.{sites_in}
use Rattle.mv_rewrite.specs.Sites.{sites}
use Rattle.image_layout.specs.Rules.{Rules, alone}
use Rattle.counter_hooks.specs.declared.rules.Rule.TheVariants as rule
use Rattle.mv_rewrite.specs.Layout.{base_of, size, listed_at}
use Rattle.mv_rewrite.specs.Output.{output}
use Rattle.mv_rewrite.specs.OutputFile.{IsWrittenFor}
use Rattle.mv_rewrite.specs.Rewriting.{LacksRoom}
use Rattle.mv_rewrite.specs.Upgrading.{rules_back}
use Rattle.pair_check.specs.Checking.{Compares, LacksFrame}
use Rattle.mini_asm.specs.declared.listings.Listed.{Listed}
use Rattle.mini_asm.specs.Faults.{IsFault}
use Rattle.mini_asm.specs.Listings.{listing_of}
use Rattle.mini_asm.specs.Sources.{IsAssembled}
use Rattle.syscall_log.specs.declared.log.Log.{Log}
use Rattle.syscall_log.specs.Faults.{IsBadLine}
use Rattle.syscall_log.specs.Grammar.{text_of as log_text}
use Rattle.trace_run.specs.declared.report.Report.{Report}
use Rattle.trace_run.specs.Reports.{IsReport, IsBeyond}
use Rattle.trace_run.specs.Texts.{text_of as report_text}
use Rattle.multiverse_cli.specs.declared.refusal.Defect.{Defect}
use Rattle.multiverse_cli.specs.declared.refusal.Defect.TheVariants.{NoFrame, BadImage, BadLog, BadSource, Differs, TooLarge, NoRoom}
use Rattle.multiverse_cli.specs.Listing.{listing}
use Rattle.multiverse_cli.specs.Sample.{sample}
use Rattle.multiverse_cli.specs.Texts.{count_line, rewritten_text, sample_text}
use Rattle.multiverse_cli.specs.Words.{Work, ToRewrite, ToTrace, ToList, ToSample, ToExtract, ToUpgrade, ToCheck, ToAssemble}

-- a file that a command writes
pub record NewFile : Type 0 where
  pub name : List ℕ
  pub bytes : List ℕ

-- what a command delivers: a text that is printed, and the file that it writes, if any
pub record Delivery : Type 0 where
  pub text : List ℕ
  pub file : Option NewFile

-- ---- rewrite

-- a file that is rewritten by rules of what is counted: it has no fault, and its addresses have room
pub record IsRewritable (b : List ℕ) (which : Rules) : Type 0 where
  pub sound : refusal b ≡ None
  pub room : IsSome (base_of b which)

-- a file that is rewritten, and its one output, which simulates it: while the file completes steps that are clear of
-- the added addresses and of changes to its code, the output passes in order through a state that agrees after each
-- one, shows nothing in between, and stops where the file stops (by a fetch fault at the same address, where the file
-- meets bytes that are no instruction); and it is what is written for the file: an image with a frame, in which the
-- file, its code, the table and the private area stand and load so; each site that the rule picks has a counter, which
-- holds how often the site was executed, and each branch or loop that the edge rule picks has two, which hold how often it
-- was taken and how often it was passed
pub record Rewrites (b : List ℕ) (which : Rules) (x : List ℕ) : Type 0 where
  pub rewritable : IsRewritable b which
  pub output_is : output b which ≡ Some x
  pub simulates : Simulates b x
  pub written : (f : Frame) × IsWrittenFor b which x f

-- what is printed of a file that is rewritten: the number of its sites, the added addresses, and the number of counters
abbrev pub sites_text : List ℕ → Rules → List ℕ
sites_text b which = rewritten_text (length (sites b)) (unwrap_or (base_of b which) 0) (size b which) (length (listed_at b which))

-- why a file is not rewritten: its first fault, or no room for its block, which has this size
abbrev pub IsNotRewritten : List ℕ → Rules → Defect → Type 0
IsNotRewritten b which NoFrame = ⊥
IsNotRewritten b which (BadImage fault) = refusal b ≡ Some fault
IsNotRewritten b which (BadLog line) = ⊥
IsNotRewritten b which (BadSource line) = ⊥
IsNotRewritten b which (Differs found) = ⊥
IsNotRewritten b which (TooLarge n) = ⊥
IsNotRewritten b which (NoRoom n) = LacksRoom b which n

-- the one output of a file is written, and three lines are printed
pub record IsRewriting (output b : List ℕ) (which : Rules) (d : Delivery) : Type 0 where
  pub bytes : List ℕ
  pub rewrites : Rewrites b which bytes
  pub text_is : d.text ≡ sites_text b which
  pub file_is : d.file ≡ Some (record { name = output; bytes = bytes })

-- ---- trace

-- a log that a file spells, where the image has none of the first 19 faults
pub record IsTraceable (b l : List ℕ) (log : Log) : Type 0 where
  pub sound : load_refusal b ≡ None
  pub spelled : l ≡ log_text log.args log.answers

-- a line that no log has, where the image has none of these faults
pub record HasBadLine (b l : List ℕ) (line : ℕ) : Type 0 where
  pub sound : load_refusal b ≡ None
  pub bad : IsBadLine l line

-- so many bytes would be mapped, at the start or by a map of a step that is tried, which are too many
pub record MapsTooMuch (steps : ℕ) (b l : List ℕ) (n : ℕ) : Type 0 where
  pub log : Log
  pub traceable : IsTraceable b l log
  pub beyond : IsBeyond b log steps n

-- why an image is not traced: the first of its faults 1 to 19, the first bad line of the log, or too many mapped bytes
abbrev pub IsNotTraced : ℕ → List ℕ → List ℕ → Defect → Type 0
IsNotTraced steps b l NoFrame = ⊥
IsNotTraced steps b l (BadImage fault) = load_refusal b ≡ Some fault
IsNotTraced steps b l (BadLog line) = HasBadLine b l line
IsNotTraced steps b l (BadSource line) = ⊥
IsNotTraced steps b l (Differs found) = ⊥
IsNotTraced steps b l (TooLarge n) = MapsTooMuch steps b l n
IsNotTraced steps b l (NoRoom n) = ⊥

-- the report of the image, the log and the number of steps is printed, and no file is written
pub record IsTracing (steps : ℕ) (b l : List ℕ) (d : Delivery) : Type 0 where
  pub log : Log
  pub traceable : IsTraceable b l log
  pub report : Report
  pub reports : IsReport b log steps report
  pub text_is : d.text ≡ report_text report
  pub file_is : d.file ≡ None

-- ---- list

-- why the sites of an image are not listed: its first fault
abbrev pub IsNotListed : List ℕ → Defect → Type 0
IsNotListed b NoFrame = ⊥
IsNotListed b (BadImage fault) = refusal b ≡ Some fault
IsNotListed b (BadLog line) = ⊥
IsNotListed b (BadSource line) = ⊥
IsNotListed b (Differs found) = ⊥
IsNotListed b (TooLarge n) = ⊥
IsNotListed b (NoRoom n) = ⊥

-- each site of the image has its line, and no file is written
pub record IsListing (b : List ℕ) (d : Delivery) : Type 0 where
  pub sound : refusal b ≡ None
  pub text_is : d.text ≡ listing b
  pub file_is : d.file ≡ None

-- ---- sample

-- the one output of a sample is written, and three lines are printed
pub record IsSampling (number size : ℕ) (output : List ℕ) (d : Delivery) : Type 0 where
  pub bytes : List ℕ
  pub rewrites : Rewrites (sample number size) (alone rule.None) bytes
  pub text_is : d.text ≡ sample_text (length (sites (sample number size))) (length (sample number size)) (length bytes)
  pub file_is : d.file ≡ Some (record { name = output; bytes = bytes })

-- ---- extract

-- why no input is taken out of a file: it has no frame
abbrev pub IsNotExtracted : List ℕ → Defect → Type 0
IsNotExtracted x NoFrame = frame x ≡ None
IsNotExtracted x (BadImage fault) = ⊥
IsNotExtracted x (BadLog line) = ⊥
IsNotExtracted x (BadSource line) = ⊥
IsNotExtracted x (Differs found) = ⊥
IsNotExtracted x (TooLarge n) = ⊥
IsNotExtracted x (NoRoom n) = ⊥

-- the input that the file's frame has is written, and how many bytes it has is printed
pub record IsExtracting (output x : List ℕ) (d : Delivery) : Type 0 where
  pub frame_of : Frame
  pub framed : frame x ≡ Some frame_of
  pub text_is : d.text ≡ count_line (codes "input") (length (frame_input frame_of))
  pub file_is : d.file ≡ Some (record { name = output; bytes = frame_input frame_of })

-- ---- upgrade

-- why a file is not written anew: it has no frame; or its input has this first fault, or no room for the block of the frame's rules,
-- which has this size
abbrev pub IsNotUpgraded : List ℕ → Defect → Type 0
IsNotUpgraded x NoFrame = frame x ≡ None
IsNotUpgraded x (BadImage fault) = (f : Frame) × (frame x ≡ Some f) × (refusal (frame_input f) ≡ Some fault)
IsNotUpgraded x (BadLog line) = ⊥
IsNotUpgraded x (BadSource line) = ⊥
IsNotUpgraded x (Differs found) = ⊥
IsNotUpgraded x (TooLarge n) = ⊥
IsNotUpgraded x (NoRoom n) = (f : Frame) × (frame x ≡ Some f) × LacksRoom (frame_input f) (rules_back f) n

-- the one output of the frame's input by the frame's rules is written, and three lines are printed
pub record IsUpgrading (output x : List ℕ) (d : Delivery) : Type 0 where
  pub old : Frame
  pub framed : frame x ≡ Some old
  pub rewriting : IsRewriting output (frame_input old) (rules_back old) d

-- ---- check

-- why a file is not found to be a rewriting of an image: the image has this first fault; or it has none, and the file no frame; or
-- the file has a frame, and this is the first part that differs
abbrev pub IsNotAlike : List ℕ → List ℕ → Defect → Type 0
IsNotAlike b x NoFrame = LacksFrame b x
IsNotAlike b x (BadImage fault) = refusal b ≡ Some fault
IsNotAlike b x (BadLog line) = ⊥
IsNotAlike b x (BadSource line) = ⊥
IsNotAlike b x (Differs found) = Compares b x (Some found)
IsNotAlike b x (TooLarge n) = ⊥
IsNotAlike b x (NoRoom n) = ⊥

-- nothing differs, so the file simulates the image, whoever made it; the number of the image's sites is printed
pub record IsChecking (b x : List ℕ) (d : Delivery) : Type 0 where
  pub alike : Compares b x None
  pub simulates : Simulates b x
  pub text_is : d.text ≡ count_line (codes "checked") (length (sites_in (code_in b) (runs_of b)))
  pub file_is : d.file ≡ None

-- ---- assemble

-- why a source isn't assembled: this line is at fault
abbrev pub IsNotAssembled : List ℕ → Defect → Type 0
IsNotAssembled s NoFrame = ⊥
IsNotAssembled s (BadImage fault) = ⊥
IsNotAssembled s (BadLog line) = ⊥
IsNotAssembled s (BadSource line) = IsFault s line
IsNotAssembled s (Differs found) = ⊥
IsNotAssembled s (TooLarge n) = ⊥
IsNotAssembled s (NoRoom n) = ⊥

-- the source has no line at fault; the image that it assembles to is written, which has no fault, and its listing is printed
pub record IsAssembling (output s : List ℕ) (d : Delivery) : Type 0 where
  pub bytes : List ℕ
  pub lines : List Listed
  pub assembled : IsAssembled s bytes lines
  pub sound : refusal bytes ≡ None
  pub faultless : (line : ℕ) → IsFault s line → ⊥
  pub text_is : d.text ≡ listing_of lines
  pub file_is : d.file ≡ Some (record { name = output; bytes = bytes })

-- ---- all commands

-- why nothing is delivered over the bytes of the files that are read
abbrev pub Lacks : Work → List (List ℕ) → Defect → Type 0
Lacks (ToRewrite which output) (b ∷ []) why = IsNotRewritten b which why
Lacks (ToTrace steps) (b ∷ l ∷ []) why = IsNotTraced steps b l why
Lacks ToList (b ∷ []) why = IsNotListed b why
Lacks (ToExtract output) (x ∷ []) why = IsNotExtracted x why
Lacks (ToUpgrade output) (x ∷ []) why = IsNotUpgraded x why
Lacks ToCheck (b ∷ x ∷ []) why = IsNotAlike b x why
Lacks (ToAssemble output) (s ∷ []) why = IsNotAssembled s why
Lacks work inputs why = ⊥

-- what is delivered over the bytes of the files that are read
abbrev pub Delivers : Work → List (List ℕ) → Delivery → Type 0
Delivers (ToRewrite which output) (b ∷ []) d = IsRewriting output b which d
Delivers (ToTrace steps) (b ∷ l ∷ []) d = IsTracing steps b l d
Delivers ToList (b ∷ []) d = IsListing b d
Delivers (ToSample number size output) [] d = IsSampling number size output d
Delivers (ToExtract output) (x ∷ []) d = IsExtracting output x d
Delivers (ToUpgrade output) (x ∷ []) d = IsUpgrading output x d
Delivers ToCheck (b ∷ x ∷ []) d = IsChecking b x d
Delivers (ToAssemble output) (s ∷ []) d = IsAssembling output s d
Delivers work inputs d = ⊥
