-- A line has one form at most.
use Rattle.std.proofs.Common.{◌≡◌, ℕ, Bool, true, false, not, ◌&&◌, ◌||◌, ◌==◌, List, [], ◌∷◌, ◌++◌, length, drop, Some, None, refl, sym, ap, ◌∙◌, subst, arith, append_assoc, append-nil, codes, inl, inr, ◌⊎◌, ⊎_elim}
use Rattle.std.specs.List.{list_all}
use Rattle.std.proofs.lemmas.Bool.{and_parts, false≢true}
use Rattle.std.proofs.lemmas.List.{append_cancel_right, length-append}
use Rattle.std.proofs.lemmas.List.Folds.{list_all-append}
use Rattle.std.proofs.lemmas.Option.{none-some, same_Some}
use Rattle.mv_base.specs.Reading.{behind}
use Rattle.mv_base.specs.Text.{hex_text}
use Rattle.x86_insn.specs.declared.insn.AluOp.TheVariants as alu
use Rattle.x86_insn.specs.declared.insn.ShiftOp.TheVariants as shift
use Rattle.x86_insn.specs.declared.insn.UnOp.TheVariants as unary
use Rattle.x86_insn.specs.declared.insn.BitOp.TheVariants as bit
use Rattle.x86_insn.specs.declared.insn.StrOp.TheVariants as string
use Rattle.x86_insn.specs.declared.insn.FlagOp.TheVariants as flag
use Rattle.x86_insn.specs.declared.insn.LoopKind.TheVariants as loop
use Rattle.x86_insn.specs.declared.insn.Width.TheVariants as width
use Rattle.x86_insn.specs.declared.insn.Cond.TheVariants as cond
use Rattle.x86_insn.specs.declared.insn.Rep.TheVariants as rep
use Rattle.x86_insn.specs.declared.insn.Rm.TheVariants as rm
use Rattle.x86_insn.specs.declared.insn.Reg.{Reg}
use Rattle.x86_insn.specs.declared.insn.Reg.TheVariants as reg
use Rattle.x86_insn.specs.declared.insn.Insn.{Insn}
use Rattle.x86_insn.specs.declared.insn.Insn.TheVariants as insn
use Rattle.insn_text.specs.declared.operand.Operand.{Operand}
use Rattle.insn_text.specs.Names.{front_word, lock_word, register_name, stem, ending}
use Rattle.insn_text.specs.Operands.{operands}
use Rattle.insn_text.specs.Text.{operand_text, operands_text, rest_text, text_of}
use Rattle.mini_asm.specs.declared.form.Form.{Form}
use Rattle.mini_asm.specs.declared.form.Form.TheVariants as form
use Rattle.mini_asm.specs.declared.mnemonic.Mnemonic.{Mnemonic}
use Rattle.mini_asm.specs.declared.mnemonic.Mnemonic.TheVariants as mnemonic
use Rattle.mini_asm.specs.Building.{built, candidate}
use Rattle.mini_asm.specs.Forms.{IsAimed, IsForm, IsLabel, IsTransfer}
use Rattle.mini_asm.specs.Lines.{IsJudged}
use Rattle.mini_asm.specs.Mnemonics.{alu_named, shifting_named, single_named, moving_named, string_named, flag_named, lone_named, transfer_named, low_condition_named, high_condition_named, condition_named, conditional_named, low_mnemonic_named, high_mnemonic_named, mnemonic_named}
use Rattle.mini_asm.specs.Names.{IsName, is_name, is_name_character, is_register, is_word}
use Rattle.mini_asm.specs.Transfers.{aimed_in, named_transfer}
use Rattle.mini_asm.specs.Words.{word_at}
use Rattle.mini_asm.proofs.Complete.{candidate-again}
use Rattle.mini_asm.proofs.Forming.{aimed-again, raw-again}
use Rattle.mini_asm.proofs.Named.{operation, reads}
use Rattle.mini_asm.proofs.Reading.{absolute-zero, kept-judged}

-- a mnemonic has only bytes that a name may have
letters : (i : Insn) → list_all is_name_character (stem i ++ ending i) ≡ true
letters (insn.Alu alu.Add w lock dst s) = refl
letters (insn.Alu alu.Or w lock dst s) = refl
letters (insn.Alu alu.Adc w lock dst s) = refl
letters (insn.Alu alu.Sbb w lock dst s) = refl
letters (insn.Alu alu.And w lock dst s) = refl
letters (insn.Alu alu.Sub w lock dst s) = refl
letters (insn.Alu alu.Xor w lock dst s) = refl
letters (insn.Alu alu.Cmp w lock dst s) = refl
letters (insn.Test w dst s) = refl
letters (insn.Mov w dst s) = refl
letters (insn.Xchg w lock dst r) = refl
letters (insn.Lea w dst m) = refl
letters (insn.Movx true from to dst s) = refl
letters (insn.Movx false from to dst s) = refl
letters (insn.Bswap r) = refl
letters (insn.Push s) = refl
letters (insn.Pop dst) = refl
letters insn.Pushad = refl
letters insn.Popad = refl
letters insn.Pushfd = refl
letters insn.Popfd = refl
letters insn.Leave = refl
letters (insn.Bump true w lock dst) = refl
letters (insn.Bump false w lock dst) = refl
letters (insn.Unary unary.Not w lock dst) = refl
letters (insn.Unary unary.Neg w lock dst) = refl
letters (insn.Mul true w s) = refl
letters (insn.Mul false w s) = refl
letters (insn.Div true w s) = refl
letters (insn.Div false w s) = refl
letters (insn.Imul w dst s imm) = refl
letters (insn.Shift shift.Rol w dst n) = refl
letters (insn.Shift shift.Ror w dst n) = refl
letters (insn.Shift shift.Rcl w dst n) = refl
letters (insn.Shift shift.Rcr w dst n) = refl
letters (insn.Shift shift.Shl w dst n) = refl
letters (insn.Shift shift.Shr w dst n) = refl
letters (insn.Shift shift.Sar w dst n) = refl
letters (insn.Double true dst s n) = refl
letters (insn.Double false dst s n) = refl
letters (insn.Bit bit.Bt w lock dst n) = refl
letters (insn.Bit bit.Bts w lock dst n) = refl
letters (insn.Bit bit.Btr w lock dst n) = refl
letters (insn.Bit bit.Btc w lock dst n) = refl
letters (insn.Scan true w dst s) = refl
letters (insn.Scan false w dst s) = refl
letters (insn.Cmpxchg w lock dst s) = refl
letters (insn.Xadd w lock dst s) = refl
letters (insn.Set cond.O dst) = refl
letters (insn.Set cond.No dst) = refl
letters (insn.Set cond.B dst) = refl
letters (insn.Set cond.Ae dst) = refl
letters (insn.Set cond.E dst) = refl
letters (insn.Set cond.Ne dst) = refl
letters (insn.Set cond.Be dst) = refl
letters (insn.Set cond.A dst) = refl
letters (insn.Set cond.S dst) = refl
letters (insn.Set cond.Ns dst) = refl
letters (insn.Set cond.P dst) = refl
letters (insn.Set cond.Np dst) = refl
letters (insn.Set cond.L dst) = refl
letters (insn.Set cond.Ge dst) = refl
letters (insn.Set cond.Le dst) = refl
letters (insn.Set cond.G dst) = refl
letters (insn.Cmov cond.O w dst s) = refl
letters (insn.Cmov cond.No w dst s) = refl
letters (insn.Cmov cond.B w dst s) = refl
letters (insn.Cmov cond.Ae w dst s) = refl
letters (insn.Cmov cond.E w dst s) = refl
letters (insn.Cmov cond.Ne w dst s) = refl
letters (insn.Cmov cond.Be w dst s) = refl
letters (insn.Cmov cond.A w dst s) = refl
letters (insn.Cmov cond.S w dst s) = refl
letters (insn.Cmov cond.Ns w dst s) = refl
letters (insn.Cmov cond.P w dst s) = refl
letters (insn.Cmov cond.Np w dst s) = refl
letters (insn.Cmov cond.L w dst s) = refl
letters (insn.Cmov cond.Ge w dst s) = refl
letters (insn.Cmov cond.Le w dst s) = refl
letters (insn.Cmov cond.G w dst s) = refl
letters (insn.Cbw width.B) = refl
letters (insn.Cbw width.W) = refl
letters (insn.Cbw width.D) = refl
letters (insn.Cwd width.B) = refl
letters (insn.Cwd width.W) = refl
letters (insn.Cwd width.D) = refl
letters (insn.Str string.Movs width.B r) = refl
letters (insn.Str string.Movs width.W r) = refl
letters (insn.Str string.Movs width.D r) = refl
letters (insn.Str string.Cmps width.B r) = refl
letters (insn.Str string.Cmps width.W r) = refl
letters (insn.Str string.Cmps width.D r) = refl
letters (insn.Str string.Stos width.B r) = refl
letters (insn.Str string.Stos width.W r) = refl
letters (insn.Str string.Stos width.D r) = refl
letters (insn.Str string.Lods width.B r) = refl
letters (insn.Str string.Lods width.W r) = refl
letters (insn.Str string.Lods width.D r) = refl
letters (insn.Str string.Scas width.B r) = refl
letters (insn.Str string.Scas width.W r) = refl
letters (insn.Str string.Scas width.D r) = refl
letters insn.Xlat = refl
letters insn.Lahf = refl
letters insn.Sahf = refl
letters (insn.Flag flag.Cmc) = refl
letters (insn.Flag flag.Clc) = refl
letters (insn.Flag flag.Stc) = refl
letters (insn.Flag flag.Cld) = refl
letters (insn.Flag flag.Std) = refl
letters insn.Nop = refl
letters insn.Pause = refl
letters insn.Endbr = refl
letters (insn.ToGs s) = refl
letters (insn.FromGs w dst) = refl
letters insn.Cpuid = refl
letters (insn.Jump rel) = refl
letters (insn.Branch cond.O rel) = refl
letters (insn.Branch cond.No rel) = refl
letters (insn.Branch cond.B rel) = refl
letters (insn.Branch cond.Ae rel) = refl
letters (insn.Branch cond.E rel) = refl
letters (insn.Branch cond.Ne rel) = refl
letters (insn.Branch cond.Be rel) = refl
letters (insn.Branch cond.A rel) = refl
letters (insn.Branch cond.S rel) = refl
letters (insn.Branch cond.Ns rel) = refl
letters (insn.Branch cond.P rel) = refl
letters (insn.Branch cond.Np rel) = refl
letters (insn.Branch cond.L rel) = refl
letters (insn.Branch cond.Ge rel) = refl
letters (insn.Branch cond.Le rel) = refl
letters (insn.Branch cond.G rel) = refl
letters (insn.Loop loop.Ne rel) = refl
letters (insn.Loop loop.E rel) = refl
letters (insn.Loop loop.Plain rel) = refl
letters (insn.Loop loop.Ecxz rel) = refl
letters (insn.Call rel) = refl
letters (insn.JumpVia s) = refl
letters (insn.CallVia s) = refl
letters (insn.Ret n) = refl
letters insn.Int80 = refl
letters insn.Int3 = refl
letters insn.Hlt = refl
letters insn.Ud2 = refl

-- ---- names

name-letters : (name : List ℕ) → IsName name → list_all is_name_character name ≡ true
unfolding is_name is_word
name-letters name is = (and_parts _ _ (and_parts _ _ (and_parts _ _ is).0).1).1

no-register : (name : List ℕ) → IsName name → not (is_register name) ≡ true
unfolding is_name
no-register name is = (and_parts _ _ is).1

-- what a name may have, or a colon
abbrev label_character : ℕ → Bool
label_character c = is_name_character c || (c == 58)

label-characters : (s : List ℕ) → list_all is_name_character s ≡ true → list_all label_character s ≡ true
label-characters [] h = refl
label-characters (c ∷ s) h =
    let p = and_parts _ _ h in
    ap (λ b. (b || (c == 58)) && list_all label_character s) p.0 ∙ label-characters s p.1

label-line : (line name : List ℕ) → IsLabel line name → list_all label_character line ≡ true
label-line line name is =
    ap (list_all label_character) is.1 ∙ list_all-append label_character name (codes ":")
    ∙ ap (λ b. b && true) (label-characters name (name-letters name is.0))

-- no space
no-space : (line a b : List ℕ) → line ≡ a ++ 32 ∷ b → list_all label_character line ≡ true → ⊥
no-space line a b e all =
    false≢true ((and_parts _ _ (sym (list_all-append label_character a (32 ∷ b)) ∙ ap (list_all label_character) (sym e) ∙ all)).1)

-- no mnemonic ends with a colon
no-colon : (s name : List ℕ) → list_all is_name_character s ≡ true → s ≡ name ++ codes ":" → ⊥
no-colon s name all e =
    false≢true ((and_parts _ _ (sym (list_all-append is_name_character name (codes ":")) ∙ ap (list_all is_name_character) (sym e) ∙ all)).1)

-- ---- a label is no text

no-lock : (lock : Bool) → list_all label_character (lock_word lock) ≡ true → lock_word lock ≡ []
no-lock true h = absurd (false≢true h)
no-lock false h = refl

no-front : (i : Insn) → list_all label_character (front_word i) ≡ true → front_word i ≡ []
no-front (insn.Alu op w lock dst s) h = no-lock lock h
no-front (insn.Xchg w lock dst r) h = no-lock lock h
no-front (insn.Bump up w lock dst) h = no-lock lock h
no-front (insn.Unary op w lock dst) h = no-lock lock h
no-front (insn.Bit op w lock dst n) h = no-lock lock h
no-front (insn.Cmpxchg w lock dst s) h = no-lock lock h
no-front (insn.Xadd w lock dst s) h = no-lock lock h
no-front (insn.Str op w rep.Once) h = refl
no-front (insn.Str op w rep.F2) h = absurd (false≢true h)
no-front (insn.Str string.Movs w rep.F3) h = absurd (false≢true h)
no-front (insn.Str string.Stos w rep.F3) h = absurd (false≢true h)
no-front (insn.Str string.Lods w rep.F3) h = absurd (false≢true h)
no-front (insn.Str string.Cmps w rep.F3) h = absurd (false≢true h)
no-front (insn.Str string.Scas w rep.F3) h = absurd (false≢true h)
no-front i h = refl

no-operands : (os : List Operand) → list_all label_character (operands_text os) ≡ true → operands_text os ≡ []
no-operands [] h = refl
no-operands (o ∷ os) h = absurd (false≢true h)

no-label : (line name : List ℕ) (i : Insn) → IsLabel line name → text_of i 0 ≡ line → ⊥
no-label line name i is text =
    let f = front_word i in
    let w = stem i ++ ending i in
    let o = operands_text (operands i 0) in
    let shape : text_of i 0 ≡ f ++ (w ++ o) = ap (λ t. t ++ o) (append_assoc f (stem i) (ending i)) ∙ append_assoc f w o in
    let all : (list_all label_character f && list_all label_character (w ++ o)) ≡ true =
    sym (list_all-append label_character f (w ++ o)) ∙ ap (list_all label_character) (sym shape ∙ text) ∙ label-line line name is in
    let parts = and_parts _ _ all in
    let none = no-front i parts.0 in
    let bare = no-operands (operands i 0) (and_parts _ _ (sym (list_all-append label_character w o) ∙ parts.1)).1 in
    no-colon w name (letters i) (
    sym (append-nil w) ∙ ap (λ t. w ++ t) (sym bare) ∙ ap (λ t. t ++ (w ++ o)) (sym none) ∙ sym shape ∙ text ∙ is.1)

-- ---- a direct transfer to a label is no text

no-number : (t : List ℕ) → IsName (48 ∷ t) → ⊥
unfolding is_name is_word
no-number t is = false≢true is

no-register-name : (r : Reg) → IsName (register_name width.D r) → ⊥
unfolding is_name is_word is_register
no-register-name reg.Eax is = false≢true is
no-register-name reg.Ecx is = false≢true is
no-register-name reg.Edx is = false≢true is
no-register-name reg.Ebx is = false≢true is
no-register-name reg.Esp is = false≢true is
no-register-name reg.Ebp is = false≢true is
no-register-name reg.Esi is = false≢true is
no-register-name reg.Edi is = false≢true is

no-memory : (t : List ℕ) → IsName (codes "dword " ++ t) → ⊥
no-memory t is = false≢true (name-letters (codes "dword " ++ t) is)

abbrev goes : Mnemonic → Bool
goes mnemonic.Jump = true
goes (mnemonic.Branch c) = true
goes (mnemonic.Loop k) = true
goes mnemonic.Call = true
goes m = false

transfer-goes : (i : Insn) → IsTransfer i → goes (operation i) ≡ true
transfer-goes (insn.Jump rel) is = refl
transfer-goes (insn.Branch c rel) is = refl
transfer-goes (insn.Loop k rel) is = refl
transfer-goes (insn.Call rel) is = refl
transfer-goes i is = absurd is

-- the operand of what goes somewhere is no name
no-aim : (j : Insn) (name : List ℕ) → goes (operation j) ≡ true → IsName name → operands_text (operands j 0) ≡ 32 ∷ name → ⊥
no-aim (insn.Jump rel) name to is e = no-number _ (subst IsName (sym (ap (drop 1) e)) is)
no-aim (insn.Branch c rel) name to is e = no-number _ (subst IsName (sym (ap (drop 1) e)) is)
no-aim (insn.Loop k rel) name to is e = no-number _ (subst IsName (sym (ap (drop 1) e)) is)
no-aim (insn.Call rel) name to is e = no-number _ (subst IsName (sym (ap (drop 1) e)) is)
no-aim (insn.JumpVia (rm.R r)) name to is e = no-register-name r (subst IsName (sym (ap (drop 1) e) ∙ append-nil (register_name width.D r)) is)
no-aim (insn.CallVia (rm.R r)) name to is e = no-register-name r (subst IsName (sym (ap (drop 1) e) ∙ append-nil (register_name width.D r)) is)
no-aim (insn.JumpVia (rm.M m)) name to is e = no-memory _ (subst IsName (sym (ap (drop 1) e)) is)
no-aim (insn.CallVia (rm.M m)) name to is e = no-memory _ (subst IsName (sym (ap (drop 1) e)) is)
no-aim (insn.Cbw width.B) name to is e = absurd (false≢true to)
no-aim (insn.Cbw width.W) name to is e = absurd (false≢true to)
no-aim (insn.Cbw width.D) name to is e = absurd (false≢true to)
no-aim (insn.Cwd width.B) name to is e = absurd (false≢true to)
no-aim (insn.Cwd width.W) name to is e = absurd (false≢true to)
no-aim (insn.Cwd width.D) name to is e = absurd (false≢true to)
no-aim j name to is e = absurd (false≢true to)

-- a word in front names no operation
abbrev FrontNamesNone : List ℕ → Type 0
FrontNamesNone front = (t : List ℕ) → mnemonic_named (word_at (front ++ t)).0 ≡ None

lock-alone : (lock : Bool) → (lock_word lock ≡ []) ⊎ FrontNamesNone (lock_word lock)
unfolding word_at mnemonic_named low_mnemonic_named high_mnemonic_named alu_named shifting_named single_named moving_named string_named flag_named lone_named transfer_named conditional_named condition_named low_condition_named high_condition_named behind
lock-alone true = inr (λ t. refl)
lock-alone false = inl refl

front-alone : (j : Insn) → (front_word j ≡ []) ⊎ FrontNamesNone (front_word j)
unfolding word_at mnemonic_named low_mnemonic_named high_mnemonic_named alu_named shifting_named single_named moving_named string_named flag_named lone_named transfer_named conditional_named condition_named low_condition_named high_condition_named behind
front-alone (insn.Alu op w lock dst s) = lock-alone lock
front-alone (insn.Xchg w lock dst r) = lock-alone lock
front-alone (insn.Bump up w lock dst) = lock-alone lock
front-alone (insn.Unary op w lock dst) = lock-alone lock
front-alone (insn.Bit op w lock dst n) = lock-alone lock
front-alone (insn.Cmpxchg w lock dst s) = lock-alone lock
front-alone (insn.Xadd w lock dst s) = lock-alone lock
front-alone (insn.Str op w rep.Once) = inl refl
front-alone (insn.Str op w rep.F2) = inr (λ t. refl)
front-alone (insn.Str string.Movs w rep.F3) = inr (λ t. refl)
front-alone (insn.Str string.Stos w rep.F3) = inr (λ t. refl)
front-alone (insn.Str string.Lods w rep.F3) = inr (λ t. refl)
front-alone (insn.Str string.Cmps w rep.F3) = inr (λ t. refl)
front-alone (insn.Str string.Scas w rep.F3) = inr (λ t. refl)
front-alone j = inl refl

no-aimed : (line : List ℕ) (i j : Insn) (name : List ℕ) → IsAimed line i name → text_of j 0 ≡ line → ⊥
no-aimed line i j name is text = ⊎_elim plain fronted (front-alone j) where
  shape : text_of j 0 ≡ front_word j ++ ((stem j ++ ending j) ++ operands_text (operands j 0))
  shape =
      ap (λ t. t ++ operands_text (operands j 0)) (append_assoc (front_word j) (stem j) (ending j))
      ∙ append_assoc (front_word j) (stem j ++ ending j) (operands_text (operands j 0))

  words : word_at line ≡ (stem i ++ ending i, name)
  words = ap word_at is.text ∙ (reads i).spaced name

  fronted : FrontNamesNone (front_word j) → ⊥
  fronted never =
      none-some (operation i) (
      sym (never ((stem j ++ ending j) ++ operands_text (operands j 0)))
      ∙ ap (λ t. mnemonic_named (word_at t).0) (sym shape ∙ text)
      ∙ ap (λ (p : List ℕ × List ℕ). mnemonic_named p.0) words ∙ (reads i).named)

  go : front_word j ≡ [] → (os : List Operand) → operands j 0 ≡ os → ⊥
  go none [] e =
      let bare : line ≡ stem j ++ ending j =
      sym text ∙ shape ∙ ap (λ t. t ++ ((stem j ++ ending j) ++ operands_text (operands j 0))) none
      ∙ ap (λ os. (stem j ++ ending j) ++ operands_text os) e ∙ append-nil (stem j ++ ending j) in
      false≢true ((and_parts _ _ (
      sym (list_all-append is_name_character (stem i ++ ending i) (32 ∷ name))
      ∙ ap (list_all is_name_character) (sym is.text ∙ bare) ∙ letters j)).1)
  go none (o ∷ os) e =
      let rest = operand_text o ++ rest_text os in
      let two : line ≡ (stem j ++ ending j) ++ 32 ∷ rest =
      sym text ∙ shape ∙ ap (λ t. t ++ ((stem j ++ ending j) ++ operands_text (operands j 0))) none
      ∙ ap (λ ps. (stem j ++ ending j) ++ operands_text ps) e in
      let same : (stem j ++ ending j, rest) ≡ (stem i ++ ending i, name) = sym ((reads j).spaced rest) ∙ ap word_at (sym two) ∙ words in
      let named : operation j ≡ operation i = same_Some (operation j) (operation i) (
      sym ((reads j).named) ∙ ap (λ (p : List ℕ × List ℕ). mnemonic_named p.0) same ∙ (reads i).named) in
      no-aim j name (ap goes named ∙ transfer-goes i is.transfer) is.is_name (
      ap operands_text e ∙ ap (λ (p : List ℕ × List ℕ). 32 ∷ p.1) same)

  plain : front_word j ≡ [] → ⊥
  plain none = go none (operands j 0) refl

-- ---- nothing and bytes are no other form

empty : (line a b : List ℕ) (c : ℕ) → line ≡ [] → line ≡ a ++ c ∷ b → ⊥
empty line a b c none some = absurd (omega (arith, ap length (sym none ∙ some), length-append a (c ∷ b)))

none-empty : candidate [] ≡ None
unfolding candidate built behind word_at mnemonic_named low_mnemonic_named high_mnemonic_named alu_named shifting_named single_named moving_named string_named flag_named lone_named transfer_named conditional_named condition_named low_condition_named high_condition_named
none-empty = refl

none-raw : (t : List ℕ) → candidate (codes "bytes " ++ t) ≡ None
unfolding candidate built behind word_at mnemonic_named low_mnemonic_named high_mnemonic_named alu_named shifting_named single_named moving_named string_named flag_named lone_named transfer_named conditional_named condition_named low_condition_named high_condition_named
none-raw t = refl

no-aim-raw : (t : List ℕ) → aimed_in (codes "bytes " ++ t) ≡ None
unfolding aimed_in named_transfer word_at mnemonic_named low_mnemonic_named high_mnemonic_named alu_named shifting_named single_named moving_named string_named flag_named lone_named transfer_named conditional_named condition_named low_condition_named high_condition_named behind
no-aim-raw t = refl

code-found : (line : List ℕ) (j : Insn) → IsJudged j × (text_of j 0 ≡ line) → candidate line ≡ Some j
code-found line j is =
    ap candidate (sym is.1) ∙ candidate-again j 0 (kept-judged j is.0) ∙ ap Some (absolute-zero j (kept-judged j is.0))

abbrev Apart : Form → Form → Type 0
Apart f g = (line : List ℕ) → IsForm line f → IsForm line g → ⊥

nothing-label : (n : List ℕ) → Apart form.Nothing (form.Label n)
nothing-label n line f g = empty line n [] 58 f g.1

nothing-raw : (b : List ℕ) → Apart form.Nothing (form.Raw b)
nothing-raw b line f g = empty line [] _ 98 f g.text

nothing-code : (j : Insn) → Apart form.Nothing (form.Code j)
nothing-code j line f g = none-some j (sym none-empty ∙ ap candidate (sym f) ∙ code-found line j g)

nothing-aimed : (j : Insn) (n : List ℕ) → Apart form.Nothing (form.Aimed j n)
nothing-aimed j n line f g = empty line (stem j ++ ending j) n 32 f g.text

label-raw : (n b : List ℕ) → Apart (form.Label n) (form.Raw b)
label-raw n b line f g = no-space line (codes "bytes") (hex_text b) g.text (label-line line n f)

label-code : (n : List ℕ) (j : Insn) → Apart (form.Label n) (form.Code j)
label-code n j line f g = no-label line n j f g.1

label-aimed : (n : List ℕ) (j : Insn) (m : List ℕ) → Apart (form.Label n) (form.Aimed j m)
label-aimed n j m line f g = no-space line (stem j ++ ending j) m g.text (label-line line n f)

raw-code : (b : List ℕ) (j : Insn) → Apart (form.Raw b) (form.Code j)
raw-code b j line f g = none-some j (sym (none-raw (hex_text b)) ∙ ap candidate (sym f.text) ∙ code-found line j g)

raw-aimed : (b : List ℕ) (j : Insn) (m : List ℕ) → Apart (form.Raw b) (form.Aimed j m)
raw-aimed b j m line f g = none-some (j, m) (sym (no-aim-raw (hex_text b)) ∙ ap aimed_in (sym f.text) ∙ aimed-again line j m g)

aimed-code : (i : Insn) (n : List ℕ) (j : Insn) → Apart (form.Aimed i n) (form.Code j)
aimed-code i n j line f g = no-aimed line i j n f g.1

pub one-form : (line : List ℕ) (f g : Form) → IsForm line f → IsForm line g → f ≡ g
one-form line form.Nothing form.Nothing f g = refl
one-form line form.Nothing (form.Label m) f g = absurd (nothing-label m line f g)
one-form line form.Nothing (form.Raw c) f g = absurd (nothing-raw c line f g)
one-form line form.Nothing (form.Code j) f g = absurd (nothing-code j line f g)
one-form line form.Nothing (form.Aimed j m) f g = absurd (nothing-aimed j m line f g)
one-form line (form.Label n) form.Nothing f g = absurd (nothing-label n line g f)
one-form line (form.Label n) (form.Label m) f g = ap form.Label (append_cancel_right n m (codes ":") (sym f.1 ∙ g.1))
one-form line (form.Label n) (form.Raw c) f g = absurd (label-raw n c line f g)
one-form line (form.Label n) (form.Code j) f g = absurd (label-code n j line f g)
one-form line (form.Label n) (form.Aimed j m) f g = absurd (label-aimed n j m line f g)
one-form line (form.Raw b) form.Nothing f g = absurd (nothing-raw b line g f)
one-form line (form.Raw b) (form.Label m) f g = absurd (label-raw m b line g f)
one-form line (form.Raw b) (form.Raw c) f g = ap form.Raw (same_Some b c (sym (raw-again line b f) ∙ raw-again line c g))
one-form line (form.Raw b) (form.Code j) f g = absurd (raw-code b j line f g)
one-form line (form.Raw b) (form.Aimed j m) f g = absurd (raw-aimed b j m line f g)
one-form line (form.Code i) form.Nothing f g = absurd (nothing-code i line g f)
one-form line (form.Code i) (form.Label m) f g = absurd (label-code m i line g f)
one-form line (form.Code i) (form.Raw c) f g = absurd (raw-code c i line g f)
one-form line (form.Code i) (form.Code j) f g = ap form.Code (same_Some i j (sym (code-found line i f) ∙ code-found line j g))
one-form line (form.Code i) (form.Aimed j m) f g = absurd (aimed-code j m i line g f)
one-form line (form.Aimed i n) form.Nothing f g = absurd (nothing-aimed i n line g f)
one-form line (form.Aimed i n) (form.Label m) f g = absurd (label-aimed m i n line g f)
one-form line (form.Aimed i n) (form.Raw c) f g = absurd (raw-aimed c i n line g f)
one-form line (form.Aimed i n) (form.Code j) f g = absurd (aimed-code i n j line f g)
one-form line (form.Aimed i n) (form.Aimed j m) f g =
    ap (λ (p : Insn × List ℕ). form.Aimed p.0 p.1) (same_Some (i, n) (j, m) (sym (aimed-again line i n f) ∙ aimed-again line j m g))
