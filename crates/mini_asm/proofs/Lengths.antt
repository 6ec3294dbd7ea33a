-- How many bytes an instruction has.
use Rattle.std.proofs.Common.{◌≡◌, ℕ, List, Some, None, sym}
use Rattle.std.proofs.lemmas.Option.{none-some, same_Some}
use Rattle.x86_insn.specs.declared.insn.Insn.{Insn}
use Rattle.x86_insn.specs.declared.insn.Insn.TheVariants as insn
use Rattle.x86_insn.specs.Spelling.{Spells}
use Rattle.mini_asm.specs.Faults.{HasLength, LeastOfLength, transfer_length}
use Rattle.mini_asm.specs.Forms.{IsTransfer}
use Rattle.mini_asm.specs.Lines.{IsJudged}

pub transfer-size : (i : Insn) (n : ℕ) → Some n ≡ transfer_length i → HasLength i n
transfer-size (insn.Jump rel) n e = same_Some n 5 e
transfer-size (insn.Branch cond rel) n e = same_Some n 6 e
transfer-size (insn.Loop kind rel) n e = same_Some n 2 e
transfer-size (insn.Call rel) n e = same_Some n 5 e
transfer-size i n e = absurd (none-some n (sym e))

pub other-size : (i : Insn) (n : ℕ) → None ≡ transfer_length i → ((s : List ℕ) → Spells s i → LeastOfLength i n) → IsJudged i → HasLength i n
other-size (insn.Jump rel) n e least judged = absurd (none-some 5 e)
other-size (insn.Branch cond rel) n e least judged = absurd (none-some 6 e)
other-size (insn.Loop kind rel) n e least judged = absurd (none-some 2 e)
other-size (insn.Call rel) n e least judged = absurd (none-some 5 e)
other-size i n e least judged = least judged.0 judged.1

pub no-transfer : (i : Insn) → None ≡ transfer_length i → IsTransfer i → ⊥
no-transfer (insn.Jump rel) e transfer = none-some 5 e
no-transfer (insn.Branch cond rel) e transfer = none-some 6 e
no-transfer (insn.Loop kind rel) e transfer = none-some 2 e
no-transfer (insn.Call rel) e transfer = none-some 5 e
no-transfer i e transfer = transfer
