-- What the only candidate tells of all instructions.
use Rattle.std.specs.Prelude.{IsTrue, is_some, ◌↔◌}
use Rattle.std.proofs.lemmas.Bool.{false≢true}
use Rattle.x86_encode.specs.Encoding.{IsLeastOf}
use Rattle.std.proofs.Common.{◌≡◌, ℕ, ◌^◌, ◌<◌, Bool, List, Option, Some, None, refl, sym, ap, ◌∙◌, subst, arith}
use Rattle.std.proofs.lemmas.Option.{none-some, same_Some}
use Rattle.x86_insn.specs.declared.insn.Insn.{Insn}
use Rattle.x86_insn.specs.declared.insn.Insn.TheVariants as insn
use Rattle.mv_base.specs.Memory.{address_after}
use Rattle.insn_text.specs.Text.{text_of}
use Rattle.mini_asm.specs.Building.{absolute, candidate, relative}
use Rattle.mini_asm.specs.Lines.{HasSpelling, IsJudged, IsReading, loop_target}
use Rattle.mini_asm.proofs.Complete.{candidate-again, relative-again}
use Rattle.mini_asm.proofs.Kept.{Kept}
use Rattle.mini_asm.proofs.Spelled.{spelled-kept}

pub kept-of : (i : Insn) → HasSpelling i → Kept i
kept-of i h = spelled-kept h.0 i h.1

-- where a line has no candidate, it is no text
pub no-candidate : (line : List ℕ) (next : ℕ) (i : Insn) → candidate line ≡ None → Kept i → text_of i next ≡ line → ⊥
no-candidate line next i none kept is = none-some (absolute next i) (sym none ∙ ap candidate (sym is) ∙ candidate-again i next kept)

-- what a line is the text of is its candidate
pub only-candidate : (line : List ℕ) (next : ℕ) (i found : Insn) → next < 2 ^ 32 → candidate line ≡ Some found → Kept i → text_of i next ≡ line → relative next found ≡ i
only-candidate line next i found low one kept is =
    let same = same_Some found (absolute next i) (sym one ∙ ap candidate (sym is) ∙ candidate-again i next kept) in
    ap (relative next) same ∙ relative-again i next low kept

pub one-text : (i j : Insn) (next : ℕ) → next < 2 ^ 32 → HasSpelling i → HasSpelling j → text_of i next ≡ text_of j next → i ≡ j
one-text i j next low hi hj same =
    sym (only-candidate (text_of i next) next i (absolute next i) low (candidate-again i next (kept-of i hi)) (kept-of i hi) refl)
    ∙ only-candidate (text_of i next) next j (absolute next i) low (candidate-again i next (kept-of i hi)) (kept-of j hj) (sym same)

pub reads-again : (i : Insn) (next : ℕ) (found : Option Insn) → next < 2 ^ 32 → HasSpelling i → IsReading (text_of i next) next found → found ≡ Some i
reads-again i next None low h reading = absurd (reading i h refl)
reads-again i next (Some j) low h reading = ap Some (one-text j i next low reading.0 h reading.1)

-- ---- the reader

pub spelled-by : (i : Insn) (o : Option (List ℕ)) (b : Bool) → IsLeastOf i o → b ≡ is_some o → IsTrue b ↔ HasSpelling i
spelled-by i None b least is = (λ t. absurd (false≢true (sym is ∙ t)), λ h. absurd (least h.0 h.1))
spelled-by i (Some s) b least is = (λ t. (s, least.spells), λ h. is)

pub judged-loop : (i : Insn) (to : ℕ) (b : Bool) → Some to ≡ loop_target i → IsTrue b ↔ (to < 2 ^ 32) → IsTrue b ↔ IsJudged i
judged-loop (insn.Loop k n) to b e low = subst (λ (m : ℕ). IsTrue b ↔ (m < 2 ^ 32)) (same_Some to n e) low
judged-loop i to b e low = absurd (none-some to (sym e))

pub judged-other : (i : Insn) (b : Bool) → None ≡ loop_target i → IsTrue b ↔ HasSpelling i → IsTrue b ↔ IsJudged i
judged-other (insn.Loop k n) b e spelled = absurd (none-some n e)
judged-other i b e spelled = spelled

-- what is judged is kept, and as it stands where the address is 0
pub kept-judged : (i : Insn) → IsJudged i → Kept i
kept-judged (insn.Loop k to) h = h
kept-judged i h = kept-of i h

module _ (line : List ℕ) (next : ℕ) (found : Insn) (low : next < 2 ^ 32) (one : candidate line ≡ Some found) where
  pub other-text : (text_of (relative next found) next ≡ line → ⊥) → (i : Insn) → Kept i → text_of i next ≡ line → ⊥
  other-text other i kept is =
      let same = only-candidate line next i found low one kept is in
      other (subst (λ (j : Insn). text_of j next ≡ line) (sym same) is)

  pub other-kind : (P : Insn → Type 0) → (P (relative next found) → ⊥) → (i : Insn) → Kept i → P i → text_of i next ≡ line → ⊥
  other-kind P never i kept holds is = never (subst P (sym (only-candidate line next i found low one kept is)) holds)

-- ---- at address 0

there : (to : ℕ) → to < 2 ^ 32 → address_after 0 to ≡ to
there to low = omega arith

pub absolute-zero : (i : Insn) → Kept i → absolute 0 i ≡ i
absolute-zero (insn.Jump to) low = ap insn.Jump (there to low)
absolute-zero (insn.Branch cond to) low = ap (insn.Branch cond) (there to low)
absolute-zero (insn.Loop kind to) low = ap (insn.Loop kind) (there to low)
absolute-zero (insn.Call to) low = ap insn.Call (there to low)
absolute-zero (insn.Alu op w lock dst s) kept = refl
absolute-zero (insn.Test w dst s) kept = refl
absolute-zero (insn.Mov w dst s) kept = refl
absolute-zero (insn.Xchg w lock dst r) kept = refl
absolute-zero (insn.Lea w dst m) kept = refl
absolute-zero (insn.Movx signed from to dst s) kept = refl
absolute-zero (insn.Bswap r) kept = refl
absolute-zero (insn.Push s) kept = refl
absolute-zero (insn.Pop dst) kept = refl
absolute-zero insn.Pushad kept = refl
absolute-zero insn.Popad kept = refl
absolute-zero insn.Pushfd kept = refl
absolute-zero insn.Popfd kept = refl
absolute-zero insn.Leave kept = refl
absolute-zero (insn.Bump up w lock dst) kept = refl
absolute-zero (insn.Unary op w lock dst) kept = refl
absolute-zero (insn.Mul signed w s) kept = refl
absolute-zero (insn.Div signed w s) kept = refl
absolute-zero (insn.Imul w dst s imm) kept = refl
absolute-zero (insn.Shift op w dst n) kept = refl
absolute-zero (insn.Double left dst s n) kept = refl
absolute-zero (insn.Bit op w lock dst n) kept = refl
absolute-zero (insn.Scan up w dst s) kept = refl
absolute-zero (insn.Cmpxchg w lock dst s) kept = refl
absolute-zero (insn.Xadd w lock dst s) kept = refl
absolute-zero (insn.Set c dst) kept = refl
absolute-zero (insn.Cmov c w dst s) kept = refl
absolute-zero (insn.Cbw w) kept = refl
absolute-zero (insn.Cwd w) kept = refl
absolute-zero (insn.Str op w r) kept = refl
absolute-zero insn.Xlat kept = refl
absolute-zero insn.Lahf kept = refl
absolute-zero insn.Sahf kept = refl
absolute-zero (insn.Flag op) kept = refl
absolute-zero insn.Nop kept = refl
absolute-zero insn.Pause kept = refl
absolute-zero insn.Endbr kept = refl
absolute-zero (insn.ToGs s) kept = refl
absolute-zero (insn.FromGs w dst) kept = refl
absolute-zero insn.Cpuid kept = refl
absolute-zero (insn.JumpVia s) kept = refl
absolute-zero (insn.CallVia s) kept = refl
absolute-zero (insn.Ret n) kept = refl
absolute-zero insn.Int80 kept = refl
absolute-zero insn.Int3 kept = refl
absolute-zero insn.Hlt kept = refl
absolute-zero insn.Ud2 kept = refl

module _ (line : List ℕ) (found : Insn) (one : candidate line ≡ Some found) where
  only-judged : (i : Insn) → Kept i → text_of i 0 ≡ line → found ≡ i
  only-judged i kept is = same_Some found i (sym one ∙ ap candidate (sym is) ∙ candidate-again i 0 kept ∙ ap Some (absolute-zero i kept))

  pub other-judged : (IsJudged found → ⊥) → (i : Insn) → IsJudged i → text_of i 0 ≡ line → ⊥
  other-judged never i judged is = never (subst IsJudged (sym (only-judged i (kept-judged i judged) is)) judged)

  pub other-line : (text_of found 0 ≡ line → ⊥) → (i : Insn) → IsJudged i → text_of i 0 ≡ line → ⊥
  other-line never i judged is = never (subst (λ (j : Insn). text_of j 0 ≡ line) (sym (only-judged i (kept-judged i judged) is)) is)
