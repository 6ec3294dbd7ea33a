-- The words of a command. This project's own. A word is the list of its bytes.
use Rattle.std.specs.Prelude.{ℕ, ◌-◌, ◌^◌, ◌≤◌, Bool, not, ◌&&◌, nat_lt, nat_le, List, [], ◌∷◌, map, take, drop, Option, Some, None, IsSome, unwrap_or, if◌then◌else◌, codes, decimal, String, string_bytes}
use Rattle.std.specs.Str.{bytes_eq}
use Rattle.std.specs.Str.Parse.{digits_value}
use Rattle.std.specs.List.{starts_with}
use Rattle.std.specs.Option.{option_map, option_and_then}
use Rattle.std.specs.Prelude.{nat_eq}
use Rattle.std.specs.Borrow.{Bor}
use Rattle.std.specs.declared.alloc.Global.{Global}
use Rattle.counter_hooks.specs.RuleTexts.{rule_of}
use Rattle.counter_hooks.specs.declared.rules.Rule.{Rule}
use Rattle.edge_hooks.specs.RuleTexts.{edge_rule_of}
use Rattle.edge_hooks.specs.declared.rules.EdgeRule.{EdgeRule}
use Rattle.edge_hooks.specs.declared.rules.EdgeRule.TheVariants as edges
use Rattle.image_layout.specs.Rules.{Rules, both, alone}
use Rattle.multiverse_cli.specs.declared.words.RuleTexts.{RuleTexts}
use Rattle.counter_hooks.specs.declared.rules.Rule.TheVariants as rule
use Rattle.multiverse_cli.specs.declared.words.Command.{Command}
use Rattle.multiverse_cli.specs.declared.words.Task.{Task}
use Rattle.multiverse_cli.specs.declared.words.Task.TheVariants.{Rewrite, Trace, Listing, Sample, Extract, Upgrade, Check, Assemble}

-- what is done with the files that a command reads: the rewritten image, with the counters that the rules pick,
-- is written to this name; or the image is run on the log for at most so many steps; or its sites are listed; or no file is read, and the rewritten sample of a number,
-- with so many bytes of code, is written to this name; or the input of a rewritten file is written to this name, or the output of that
-- input by the rules that the file has; or an image and a file are looked at, whether the file is a rewriting of the image; or the image that a source assembles to is
-- written to this name
pub data Work : Type 0 where
  ToRewrite : (which : Rules) (output : List ℕ) → Work
  ToTrace : (steps : ℕ) → Work
  ToList : Work
  ToSample : (number size : ℕ) (output : List ℕ) → Work
  ToExtract : (output : List ℕ) → Work
  ToUpgrade : (output : List ℕ) → Work
  ToCheck : Work
  ToAssemble : (output : List ℕ) → Work

-- what the program is asked: which files it reads, by their names in order, and what is done with them
pub record Asked : Type 0 where
  pub reads : List (List ℕ)
  pub work : Work

-- how many files are read
abbrev pub input_count : Work → ℕ
input_count (ToRewrite which output) = 1
input_count (ToTrace steps) = 2
input_count ToList = 1
input_count (ToSample number size output) = 0
input_count (ToExtract output) = 1
input_count (ToUpgrade output) = 1
input_count ToCheck = 2
input_count (ToAssemble output) = 1

-- the name that is written
abbrev pub output_of : Work → Option (List ℕ)
output_of (ToRewrite which output) = Some output
output_of (ToTrace steps) = None
output_of ToList = None
output_of (ToSample number size output) = Some output
output_of (ToExtract output) = Some output
output_of (ToUpgrade output) = Some output
output_of ToCheck = None
output_of (ToAssemble output) = Some output

-- how many bytes of code a sample has at most: 1 MiB
abbrev pub largest_sample : ℕ
largest_sample = 1048576

-- a sample has at least one byte of code, and no more than these
abbrev pub HasSize : Work → Type 0
HasSize (ToRewrite which output) = Unit {0}
HasSize (ToTrace steps) = Unit {0}
HasSize ToList = Unit {0}
HasSize (ToSample number size output) = (1 ≤ size) × (size ≤ largest_sample)
HasSize (ToExtract output) = Unit {0}
HasSize (ToUpgrade output) = Unit {0}
HasSize ToCheck = Unit {0}
HasSize (ToAssemble output) = Unit {0}

-- the bytes of each word
abbrev pub texts : List (String Global) → List (List ℕ)
texts words = map string_bytes words

-- a name has a byte, and doesn't begin with two dashes
abbrev pub is_name : List ℕ → Bool
is_name word = not (bytes_eq word []) && not (starts_with nat_eq word (codes "--"))

-- the number below 2^64 of which a word is the decimal, which has no leading zero but in `0`
abbrev pub number_of : List ℕ → Option ℕ
number_of word =
    let n = digits_value 10 word in
    if nat_lt n (2 ^ 64) && bytes_eq word (decimal n) then Some n else None

-- the same of a number of a range
abbrev pub number_within : ℕ → ℕ → List ℕ → Option ℕ
number_within low high word =
    option_and_then (λ n. if nat_le low n && nat_le n high then Some n else None) (number_of word)

-- the rule of a word that is `--count=` and the text of a rule
unfoldable pub option_rule : List ℕ → Option Rule
option_rule word = if bytes_eq (take 8 word) (codes "--count=") then rule_of (drop 8 word) else None

-- the edge rule of a word that is `--edges=` and the text of an edge rule
unfoldable pub option_edges : List ℕ → Option EdgeRule
option_edges word = if bytes_eq (take 8 word) (codes "--edges=") then edge_rule_of (drop 8 word) else None

-- the first of two rules that are there
abbrev pub or_rules : Option Rules → Option Rules → Option Rules
or_rules (Some rules) other = Some rules
or_rules None other = other

-- the rules of one word, which has a rule or an edge rule, and of two, which have a rule and an edge rule
unfoldable pub one_option : List ℕ → Option Rules
one_option word = or_rules (option_map alone (option_rule word)) (option_map (both rule.None) (option_edges word))

unfoldable pub two_options : List ℕ → List ℕ → Option Rules
two_options count ways = option_and_then (λ which. option_map (both which) (option_edges ways)) (option_rule count)

-- `rewrite` and two names: nothing is counted
abbrev pub rewrite_words : List (List ℕ) → Option Asked
rewrite_words (command ∷ input ∷ output ∷ []) =
    if bytes_eq command (codes "rewrite") && is_name input && is_name output
    then Some (record { reads = input ∷ []; work = ToRewrite (alone rule.None) output }) else None
rewrite_words _ = None

-- the same, and behind it the words of rules
unfoldable pub counting_asked : List ℕ → List (List ℕ) → List ℕ → Option Rules → Option Asked
counting_asked command reads output rules =
    if bytes_eq command (codes "rewrite") && is_name output
    then option_map (λ which. record { reads = reads; work = ToRewrite which output }) rules else None

abbrev pub counting_words : List (List ℕ) → Option Asked
counting_words (command ∷ input ∷ output ∷ option ∷ []) =
    if is_name input then counting_asked command (input ∷ []) output (one_option option) else None
counting_words (command ∷ input ∷ output ∷ count ∷ ways ∷ []) =
    if is_name input then counting_asked command (input ∷ []) output (two_options count ways) else None
counting_words _ = None

-- `trace`, two names and a number
abbrev pub trace_words : List (List ℕ) → Option Asked
trace_words (command ∷ input ∷ log ∷ steps ∷ []) =
    if bytes_eq command (codes "trace") && is_name input && is_name log
    then option_map (λ n. record { reads = input ∷ log ∷ []; work = ToTrace n }) (number_of steps) else None
trace_words _ = None

-- `list` and a name
abbrev pub list_words : List (List ℕ) → Option Asked
list_words (command ∷ input ∷ []) =
    if bytes_eq command (codes "list") && is_name input then Some (record { reads = input ∷ []; work = ToList }) else None
list_words _ = None

-- what a sample asks for, where there are both numbers
abbrev pub sample_asked : List ℕ → Option ℕ → Option ℕ → Option Asked
sample_asked output number size =
    option_and_then (λ n. option_map (λ k. record { reads = []; work = ToSample n k output }) size) number

-- `sample`, a number below 2^32, a number of bytes, and a name
abbrev pub sample_words : List (List ℕ) → Option Asked
sample_words (command ∷ number ∷ size ∷ output ∷ []) =
    if bytes_eq command (codes "sample") && is_name output
    then sample_asked output (number_within 0 (2 ^ 32 - 1) number) (number_within 1 largest_sample size) else None
sample_words _ = None

-- `extract` and two names
abbrev pub extract_words : List (List ℕ) → Option Asked
extract_words (command ∷ input ∷ output ∷ []) =
    if bytes_eq command (codes "extract") && is_name input && is_name output
    then Some (record { reads = input ∷ []; work = ToExtract output }) else None
extract_words _ = None

-- `upgrade` and two names
abbrev pub upgrade_words : List (List ℕ) → Option Asked
upgrade_words (command ∷ input ∷ output ∷ []) =
    if bytes_eq command (codes "upgrade") && is_name input && is_name output
    then Some (record { reads = input ∷ []; work = ToUpgrade output }) else None
upgrade_words _ = None

-- `check` and two names
abbrev pub check_words : List (List ℕ) → Option Asked
check_words (command ∷ input ∷ output ∷ []) =
    if bytes_eq command (codes "check") && is_name input && is_name output
    then Some (record { reads = input ∷ output ∷ []; work = ToCheck }) else None
check_words _ = None

-- `assemble` and two names
abbrev pub assemble_words : List (List ℕ) → Option Asked
assemble_words (command ∷ source ∷ output ∷ []) =
    if bytes_eq command (codes "assemble") && is_name source && is_name output
    then Some (record { reads = source ∷ []; work = ToAssemble output }) else None
assemble_words _ = None

-- the first of two commands that is there
abbrev pub or_asked : Option Asked → Option Asked → Option Asked
or_asked (Some a) other = Some a
or_asked None other = other

-- a command that makes an image: a sample, or what a source assembles to
abbrev pub made_words : List (List ℕ) → Option Asked
made_words words = or_asked (sample_words words) (assemble_words words)

-- a command over an image: one that is read, or one that is made
abbrev pub image_words : List (List ℕ) → Option Asked
image_words words =
    or_asked (or_asked (or_asked (or_asked (rewrite_words words) (counting_words words)) (trace_words words)) (list_words words)) (made_words words)

-- a command over what a rewrite wrote
abbrev pub frame_words : List (List ℕ) → Option Asked
frame_words words = or_asked (or_asked (extract_words words) (upgrade_words words)) (check_words words)

-- what the words ask for; none where they are no command
abbrev pub asked_of : List (List ℕ) → Option Asked
asked_of words = or_asked (image_words words) (frame_words words)

-- the same of a command that was read from words; the rules of texts that are some
abbrev pub rule_or_none : List ℕ → Rule
rule_or_none text = unwrap_or (rule_of text) rule.None

abbrev pub edges_or_none : List ℕ → EdgeRule
edges_or_none text = unwrap_or (edge_rule_of text) edges.None

abbrev pub named_rule : Option (Bor (List ℕ)) → Rule
named_rule None = rule.None
named_rule (Some text) = rule_or_none text.now

abbrev pub named_edges : Option (Bor (List ℕ)) → EdgeRule
named_edges None = edges.None
named_edges (Some text) = edges_or_none text.now

abbrev pub named : RuleTexts → Rules
named texts = both (named_rule texts.all) (named_edges texts.ways)

abbrev pub work_of : Task → Work
work_of (Rewrite output rules) = ToRewrite (named rules) output.now
work_of (Trace steps) = ToTrace steps
work_of Listing = ToList
work_of (Sample number size output) = ToSample number size output.now
work_of (Extract output) = ToExtract output.now
work_of (Upgrade output) = ToUpgrade output.now
work_of Check = ToCheck
work_of (Assemble output) = ToAssemble output.now

-- the texts that a rewriting task has for rules are some
abbrev pub IsRule : Option (Bor (List ℕ)) → Type 0
IsRule None = Unit {0}
IsRule (Some text) = IsSome (rule_of text.now)

abbrev pub IsEdgeRule : Option (Bor (List ℕ)) → Type 0
IsEdgeRule None = Unit {0}
IsEdgeRule (Some text) = IsSome (edge_rule_of text.now)

pub record IsRuled (texts : RuleTexts) : Type 0 where
  pub all : IsRule texts.all
  pub ways : IsEdgeRule texts.ways

abbrev pub HasRule : Task → Type 0
HasRule (Rewrite output rules) = IsRuled rules
HasRule (Trace steps) = Unit {0}
HasRule Listing = Unit {0}
HasRule (Sample number size output) = Unit {0}
HasRule (Extract output) = Unit {0}
HasRule (Upgrade output) = Unit {0}
HasRule Check = Unit {0}
HasRule (Assemble output) = Unit {0}

abbrev pub asked : Command → Asked
asked c = record { reads = texts c.reads.now; work = work_of c.task }
