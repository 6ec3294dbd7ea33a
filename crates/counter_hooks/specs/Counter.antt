-- The bytes of a counter: one line an instruction. Intel SDM, volume 2; the counter is this project's own.
-- ECX is kept in the word at p. The counter is the eight bytes from k on, the least byte first. No instruction here changes
-- a flag.
use Rattle.std.specs.Prelude.{ℕ, ◌+◌, List, [], ◌∷◌}
use Rattle.std.specs.List.{concat}
use Rattle.mv_base.specs.Bytes.{word}

-- ECX is kept and the low word raised; where that wraps to 0 the high one too; and ECX comes back
abbrev pub counter_parts : ℕ → ℕ → List (List ℕ)
counter_parts p k =
    -- mov [p],ecx
    (0x89 ∷ 0x0D ∷ word p)
    -- mov ecx,[k]; lea ecx,[ecx+1]; mov [k],ecx
    ∷ (0x8B ∷ 0x0D ∷ word k)
    ∷ (0x8D ∷ 0x49 ∷ 0x01 ∷ [])
    ∷ (0x89 ∷ 0x0D ∷ word k)
    -- jecxz to the high word, over a jump over it
    ∷ (0xE3 ∷ 0x02 ∷ [])
    ∷ (0xEB ∷ 0x0F ∷ [])
    -- mov ecx,[k+4]; lea ecx,[ecx+1]; mov [k+4],ecx
    ∷ (0x8B ∷ 0x0D ∷ word (k + 4))
    ∷ (0x8D ∷ 0x49 ∷ 0x01 ∷ [])
    ∷ (0x89 ∷ 0x0D ∷ word (k + 4))
    -- mov ecx,[p]
    ∷ (0x8B ∷ 0x0D ∷ word p)
    ∷ []

-- the counter at k
unfoldable pub counter : ℕ → ℕ → List ℕ
counter p k = concat (counter_parts p k)
