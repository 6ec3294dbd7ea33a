-- The text of a report. This project's own. A text is the list of its bytes.
use Rattle.std.specs.Prelude.{ℕ, List, [], ◌∷◌, ◌++◌, ◌==◌, if◌then◌else◌, codes, decimal}
use Rattle.std.specs.List.{flat_map}
use Rattle.mv_base.specs.Text.{hex8}
use Rattle.x86_insn.specs.declared.stop.Kind.{Kind}
use Rattle.x86_insn.specs.declared.stop.Kind.TheVariants.{ReadFault, WriteFault, FetchFault, Divide, Breakpoint, Invalid, Protection}
use Rattle.trace_run.specs.declared.report.End.{End}
use Rattle.trace_run.specs.declared.report.End.TheVariants.{Steps, Trap, Outside, NoAnswer, BadAnswer, Gone, NoStack}
use Rattle.trace_run.specs.declared.report.Report.{Report}

-- a text and a line feed
abbrev pub line : List ℕ → List ℕ
line text = text ++ (10 ∷ [])

-- a word, and behind it numbers as eight hexadecimal digits, each with a space before it, as a line
abbrev pub words_line : List ℕ → List ℕ → List ℕ
words_line word numbers = line (word ++ flat_map (λ n. 32 ∷ hex8 n) numbers)

-- the end by a trap; an access or a fetch that faults has its address
abbrev pub trap_line : Kind → ℕ → List ℕ
trap_line ReadFault at = words_line (codes "end trap read") (at ∷ [])
trap_line WriteFault at = words_line (codes "end trap write") (at ∷ [])
trap_line FetchFault at = words_line (codes "end trap fetch") (at ∷ [])
trap_line Divide at = words_line (codes "end trap divide") []
trap_line Breakpoint at = words_line (codes "end trap breakpoint") []
trap_line Invalid at = words_line (codes "end trap invalid") []
trap_line Protection at = words_line (codes "end trap protection") []

-- by what a run ended
abbrev pub end_line : End → List ℕ
end_line Steps = words_line (codes "end steps") []
end_line (Trap kind at) = trap_line kind at
end_line Outside = words_line (codes "end outside") []
end_line NoAnswer = words_line (codes "end noanswer") []
end_line BadAnswer = words_line (codes "end badanswer") []
end_line Gone = words_line (codes "end gone") []
end_line NoStack = words_line (codes "end nostack") []

-- the word of a counter's kind: all executions of a site, or those of a branch or a loop that jump, or that don't
abbrev pub kind_word : ℕ → List ℕ
kind_word kind = if kind == 0 then codes "count " else (if kind == 1 then codes "taken " else codes "nottaken ")

-- what is counted, the site's address, and how often
abbrev pub count_line : ℕ × ℕ × ℕ → List ℕ
count_line c = line (kind_word c.1 ++ (hex8 c.0 ++ (32 ∷ decimal c.2)))

-- how many steps were completed
abbrev pub steps_line : ℕ → List ℕ
steps_line steps = line (codes "steps " ++ decimal steps)

-- a line a call, the oldest first; a line a counter; the registers by their number; the image of the flags; the end; the steps
abbrev pub report_lines : List (List ℕ) → List (ℕ × ℕ × ℕ) → List ℕ → ℕ → End → ℕ → List ℕ
report_lines calls counts regs flags end steps =
    flat_map (words_line (codes "call")) calls
    ++ (flat_map count_line counts
    ++ (words_line (codes "regs") regs
    ++ (words_line (codes "flags") (flags ∷ []) ++ (end_line end ++ steps_line steps))))

-- the text of a report
abbrev pub text_of : Report → List ℕ
text_of r = report_lines r.calls.made r.counts r.regs r.flags r.end r.steps
