-- What is found in a line is what the line is, and nothing is missed.
use Rattle.std.specs.Prelude.{codes, nat_lt, if◌then◌else◌}
use Rattle.std.specs.Option.{option_map_or}
use Rattle.std.specs.Str.{bytes_eq}
use Rattle.std.proofs.Common.{◌≡◌, ◌≢◌, ℕ, ◌*◌, ◌<◌, ◌≤◌, ◌==◌, Bool, true, false, List, [], ◌∷◌, ◌++◌, length, Option, Some, None, option_map, option_and_then, refl, sym, ap, ◌∙◌, subst, arith}
use Rattle.std.proofs.lemmas.Bool.{eqb-true, ne_eqb, le-ltb, false≢true}
use Rattle.std.proofs.lemmas.Bool.Decides.{nat_tests}
use Rattle.std.proofs.lemmas.List.{length-append}
use Rattle.std.proofs.lemmas.Option.{none-some, same_Some, option_and_then_some}
use Rattle.std.proofs.lemmas.Slice.Eq.{bytes_eq-Decides}
use Rattle.mv_base.specs.Bytes.{AreBytes}
use Rattle.mv_base.specs.Digits.{digits-found, pairs-again, pairs-found}
use Rattle.mv_base.specs.Prefixes.{behind-takes, behind-again}
use Rattle.mv_base.specs.Reading.{behind, hex_value, pairs_in}
use Rattle.mv_base.specs.Text.{byte_text, hex_text}
use Rattle.x86_insn.specs.declared.insn.Insn.{Insn}
use Rattle.x86_insn.specs.declared.insn.Insn.TheVariants as insn
use Rattle.insn_text.specs.Names.{stem, ending}
use Rattle.x86_encode.specs.laws.Addressed.{bytes_after, no_bytes}
use Rattle.mini_asm.specs.declared.form.Form.{Form}
use Rattle.mini_asm.specs.declared.form.Form.TheVariants as form
use Rattle.mini_asm.specs.Lines.{IsJudgment}
use Rattle.mini_asm.specs.Forms.{IsAimed, IsAimedOf, IsForm, IsLabelOf, IsRaw, IsRawOf, IsTransfer}
use Rattle.mini_asm.specs.declared.mnemonic.Mnemonic.{Mnemonic}
use Rattle.mini_asm.specs.declared.mnemonic.Mnemonic.TheVariants as mnemonic
use Rattle.mini_asm.specs.Mnemonics.{mnemonic_named}
use Rattle.mini_asm.specs.Names.{IsName, is_name, is_word}
use Rattle.mini_asm.specs.Transfers.{aimed_at, aimed_in, digits_in, is_mnemonic, named_transfer, raw_in, transfer}
use Rattle.mini_asm.specs.Words.{word_at}
use Rattle.mini_asm.proofs.Named.{operation, reads}

-- ---- bytes

length-hex : (bytes : List ℕ) → length (hex_text bytes) ≡ 2 * length bytes
unfolding byte_text
length-hex [] = refl
length-hex (b ∷ bytes) = omega (arith, length-hex bytes, length-append (byte_text b) (hex_text bytes))

one-byte : (h l b : ℕ) → hex_value 0 (h ∷ l ∷ []) ≡ Some b → b < 256
one-byte h l b is = let high = (digits-found (h ∷ l ∷ []) 0 b is).0 in omega (arith, high)

pairs-bytes : (text bytes : List ℕ) → pairs_in text ≡ Some bytes → AreBytes bytes
unfolding pairs_in
pairs-bytes [] bytes is = subst AreBytes (same_Some [] bytes is) no_bytes
pairs-bytes (h ∷ []) bytes is = absurd (none-some bytes is)
pairs-bytes (h ∷ l ∷ text) bytes is =
    option_and_then_some _ (hex_value 0 (h ∷ l ∷ [])) bytes is (λ b is_byte more. go b (one-byte h l b is_byte) (pairs_in text) (λ rest found. pairs-bytes text rest found) more)
  where
    go : (b : ℕ) → b < 256 → (o : Option (List ℕ)) → ((rest : List ℕ) → o ≡ Some rest → AreBytes rest) → option_map (λ rest. b ∷ rest) o ≡ Some bytes → AreBytes bytes
    go b small None all h = absurd (none-some bytes h)
    go b small (Some rest) all h = subst AreBytes (same_Some (b ∷ rest) bytes h) (bytes_after b rest small (all rest refl))

-- the tests of the length
pub record SomeDigits (text bytes : List ℕ) : Type 0 where
  pub some : 1 ≤ length text
  pub most : length text ≤ 8192
  pub pairs : pairs_in text ≡ Some bytes

digits-taken : (text bytes : List ℕ) → digits_in text ≡ Some bytes → SomeDigits text bytes
unfolding digits_in
digits-taken text bytes is = go (length text == 0) (nat_lt 8192 (length text)) refl refl is where
  go : (a b : Bool) → (length text == 0) ≡ a → nat_lt 8192 (length text) ≡ b → (if a then None else (if b then None else pairs_in text)) ≡ Some bytes → SomeDigits text bytes
  go true b ea eb h = absurd (none-some bytes h)
  go false true ea eb h = absurd (none-some bytes h)
  go false false ea eb h = record { some = grind (arith, nat_tests); most = grind (arith, nat_tests); pairs = h }

digits-again : (text : List ℕ) → 1 ≤ length text → length text ≤ 8192 → digits_in text ≡ pairs_in text
unfolding digits_in
digits-again text some most =
    let a : (length text == 0) ≡ false = ne_eqb (length text) 0 (omega arith) in
    let b : nat_lt 8192 (length text) ≡ false = le-ltb 8192 (length text) most in
    rw (a, b) refl

raw-taken : (line bytes : List ℕ) → raw_in line ≡ Some bytes → IsRaw line bytes
unfolding raw_in
raw-taken line bytes is =
    option_and_then_some (λ text. digits_in text) (behind (codes "bytes ") line) bytes is (λ text found more.
    let digits = digits-taken text bytes more in
    let e : text ≡ hex_text bytes = pairs-found text bytes digits.pairs in
    let len : length text ≡ 2 * length bytes = ap length e ∙ length-hex bytes in
    record {
      some = omega (arith, digits.some, len);
      most = omega (arith, digits.most, len);
      are_bytes = pairs-bytes text bytes digits.pairs;
      text = behind-takes (codes "bytes ") line text found ∙ ap (λ t. codes "bytes " ++ t) e;
    })

pub raw-again : (line bytes : List ℕ) → IsRaw line bytes → raw_in line ≡ Some bytes
unfolding raw_in
raw-again line bytes raw =
    let len = length-hex bytes in
    ap (λ l. option_and_then (λ text. digits_in text) (behind (codes "bytes ") l)) raw.text
    ∙ ap (option_and_then (λ text. digits_in text)) (behind-again (codes "bytes ") (hex_text bytes))
    ∙ digits-again (hex_text bytes) (omega (arith, len, raw.some)) (omega (arith, len, raw.most))
    ∙ pairs-again bytes raw.are_bytes

pub raw-exact : (line : List ℕ) (o : Option (List ℕ)) → o ≡ raw_in line → IsRawOf line o
raw-exact line None e = λ bytes raw. none-some bytes (e ∙ raw-again line bytes raw)
raw-exact line (Some bytes) e = raw-taken line bytes (sym e)

-- ---- direct transfers

-- a word and what stands behind its space
joined : (line : List ℕ) → (word_at line).1 ≢ [] → line ≡ (word_at line).0 ++ 32 ∷ (word_at line).1
unfolding word_at
joined [] some = absurd (some refl)
joined (c ∷ text) some = go (c == 32) refl (word_at (c ∷ text)) refl some (joined text) where
  go : (b : Bool) → (c == 32) ≡ b → (p : List ℕ × List ℕ) → p ≡ (if b then ([], text) else (c ∷ (word_at text).0, (word_at text).1)) → p.1 ≢ []
      → ((word_at text).1 ≢ [] → text ≡ (word_at text).0 ++ 32 ∷ (word_at text).1) → c ∷ text ≡ p.0 ++ 32 ∷ p.1
  go true is p e some rest = ap (λ x. x ∷ text) (eqb-true c 32 is) ∙ ap (λ (q : List ℕ × List ℕ). q.0 ++ 32 ∷ q.1) (sym e)
  go false is p e some rest =
      ap (λ t. c ∷ t) (rest (λ h. some (ap (λ (q : List ℕ × List ℕ). q.1) e ∙ h))) ∙ ap (λ (q : List ℕ × List ℕ). q.0 ++ 32 ∷ q.1) (sym e)

no-name : is_name [] ≡ false
unfolding is_name is_word
no-name = refl

some-name : (name : List ℕ) → IsName name → name ≢ []
some-name name is e = false≢true (sym no-name ∙ ap is_name (sym e) ∙ is)

mnemonic-taken : (word : List ℕ) (i : Insn) → is_mnemonic word i ≡ true → word ≡ stem i ++ ending i
unfolding is_mnemonic
mnemonic-taken word i is = go (behind (stem i) word) refl is where
  go : (o : Option (List ℕ)) → behind (stem i) word ≡ o → option_map_or (λ rest. bytes_eq rest (ending i)) o false ≡ true → word ≡ stem i ++ ending i
  go None e h = absurd (false≢true h)
  go (Some rest) e h = behind-takes (stem i) word rest e ∙ ap (λ t. stem i ++ t) ((bytes_eq-Decides rest (ending i)).0 h)

mnemonic-again : (i : Insn) → is_mnemonic (stem i ++ ending i) i ≡ true
unfolding is_mnemonic
mnemonic-again i =
    ap (λ o. option_map_or (λ rest. bytes_eq rest (ending i)) o false) (behind-again (stem i) (ending i)) ∙ (bytes_eq-Decides (ending i) (ending i)).1 refl

is-transfer : (m : Mnemonic) (i : Insn) → transfer m ≡ Some i → IsTransfer i
is-transfer mnemonic.Jump i is = subst IsTransfer (same_Some (insn.Jump 0) i is) refl
is-transfer (mnemonic.Branch c) i is = subst IsTransfer (same_Some (insn.Branch c 0) i is) refl
is-transfer (mnemonic.Loop k) i is = subst IsTransfer (same_Some (insn.Loop k 0) i is) refl
is-transfer mnemonic.Call i is = subst IsTransfer (same_Some (insn.Call 0) i is) refl
is-transfer m i is = absurd (none-some i is)

transfer-again : (i : Insn) → IsTransfer i → transfer (operation i) ≡ Some i
transfer-again (insn.Jump rel) zero-far = ap (λ n. Some (insn.Jump n)) (sym zero-far)
transfer-again (insn.Branch c rel) zero-far = ap (λ n. Some (insn.Branch c n)) (sym zero-far)
transfer-again (insn.Loop k rel) zero-far = ap (λ n. Some (insn.Loop k n)) (sym zero-far)
transfer-again (insn.Call rel) zero-far = ap (λ n. Some (insn.Call n)) (sym zero-far)
transfer-again i never = absurd never

named-taken : (word : List ℕ) (i : Insn) → named_transfer word ≡ Some i → IsTransfer i
unfolding named_transfer
named-taken word i is = option_and_then_some (λ m. transfer m) (mnemonic_named word) i is (λ m found more. is-transfer m i more)

named-again : (i : Insn) → IsTransfer i → named_transfer (stem i ++ ending i) ≡ Some i
unfolding named_transfer
named-again i is = ap (option_and_then (λ m. transfer m)) ((reads i).named) ∙ transfer-again i is

aimed-taken : (line : List ℕ) (p : Insn × List ℕ) → aimed_in line ≡ Some p → IsAimed line p.0 p.1
unfolding aimed_in aimed_at
aimed-taken line p is =
    let word = (word_at line).0 in
    let name = (word_at line).1 in
    option_and_then_some (λ i. aimed_at word name i) (named_transfer word) p is (λ i found more. go i (named-taken word i found) (is_name name) (is_mnemonic word i) refl refl more)
  where
    go : (i : Insn) → IsTransfer i → (a b : Bool) → is_name (word_at line).1 ≡ a → is_mnemonic (word_at line).0 i ≡ b
        → (if a then (if b then Some (i, (word_at line).1) else None) else None) ≡ Some p → IsAimed line p.0 p.1
    go i t true true ea eb h =
        subst (λ (q : Insn × List ℕ). IsAimed line q.0 q.1) (same_Some (i, (word_at line).1) p h)
        (record {
          transfer = t;
          is_name = ea;
          text = joined line (some-name (word_at line).1 ea) ∙ ap (λ w. w ++ 32 ∷ (word_at line).1) (mnemonic-taken (word_at line).0 i eb);
        })
    go i t true false ea eb h = absurd (none-some p h)
    go i t false b ea eb h = absurd (none-some p h)

pub aimed-again : (line : List ℕ) (i : Insn) (name : List ℕ) → IsAimed line i name → aimed_in line ≡ Some (i, name)
unfolding aimed_in aimed_at
aimed-again line i name h =
    let split : word_at line ≡ (stem i ++ ending i, name) = ap word_at h.text ∙ (reads i).spaced name in
    ap (λ (s : List ℕ × List ℕ). option_and_then (λ j. aimed_at s.0 s.1 j) (named_transfer s.0)) split
    ∙ ap (option_and_then (λ j. aimed_at (stem i ++ ending i) name j)) (named-again i h.transfer)
    ∙ ap (λ b. if b then (if is_mnemonic (stem i ++ ending i) i then Some (i, name) else None) else None) h.is_name
    ∙ ap (λ b. if b then Some (i, name) else None) (mnemonic-again i)

pub aimed-exact : (line : List ℕ) (o : Option (Insn × List ℕ)) → o ≡ aimed_in line → IsAimedOf line o
aimed-exact line None e = λ i name h. none-some (i, name) (e ∙ aimed-again line i name h)
aimed-exact line (Some p) e = aimed-taken line p (sym e)

-- ---- all forms

-- what is no form of any kind is no line
pub no-form : (line : List ℕ) → line ≢ [] → IsLabelOf line None → IsRawOf line None → IsAimedOf line None → IsJudgment line None → (f : Form) → IsForm line f → ⊥
no-form line some label raw aimed judged form.Nothing h = some h
no-form line some label raw aimed judged (form.Label name) h = label name h
no-form line some label raw aimed judged (form.Raw bytes) h = raw bytes h
no-form line some label raw aimed judged (form.Code i) h = judged i h.0 h.1
no-form line some label raw aimed judged (form.Aimed i name) h = aimed i name h
