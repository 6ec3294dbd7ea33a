-- The bytes of the lookup stub: one line an instruction. Intel SDM, volume 2; the stub is this project's own.
-- The private area lies from p on: the address to look up stands in its word at p+4, ESP is kept at p+8, and the stub's
-- own stack begins at p+64.
use Rattle.std.specs.Prelude.{ℕ, ◌+◌, ◌*◌, ◌==◌, List, [], ◌∷◌, ◌++◌, length, if◌then◌else◌}
use Rattle.std.specs.List.{concat}
use Rattle.mv_base.specs.Bytes.{word}
use Rattle.mv_base.specs.declared.range.RunPlace.{RunPlace}

-- ESP, the flags, EAX, ECX and EDX are kept, and the address is loaded
abbrev pub head : ℕ → List (List ℕ)
head p =
    -- mov [p+8],esp
    (0x89 ∷ 0x25 ∷ word (p + 8))
    -- mov esp,p+64
    ∷ (0xBC ∷ word (p + 64))
    -- pushfd; push eax; push ecx; push edx
    ∷ (0x9C ∷ [])
    ∷ (0x50 ∷ [])
    ∷ (0x51 ∷ [])
    ∷ (0x52 ∷ [])
    -- mov eax,[p+4]
    ∷ (0xA1 ∷ word (p + 4))
    ∷ []

-- the test of one run, where as many more are behind it: an address in it goes to the tail with its offset in ECX and
-- the run's directory in EDX
abbrev pub search : RunPlace → ℕ → List (List ℕ)
search r behind =
    -- mov ecx,eax
    (0x89 ∷ 0xC1 ∷ [])
    -- sub ecx,lo
    ∷ (0x81 ∷ 0xE9 ∷ word r.lo)
    -- cmp ecx,len
    ∷ (0x81 ∷ 0xF9 ∷ word r.len)
    -- jae to the next run
    ∷ (0x73 ∷ 0x0A ∷ [])
    -- mov edx,dir
    ∷ (0xBA ∷ word r.dir)
    -- jmp to the tail
    ∷ (0xE9 ∷ word (26 * behind + 2))
    ∷ []

abbrev pub searches : List RunPlace → List (List ℕ)
searches [] = []
searches (r ∷ rs) = search r (length rs) ++ searches rs

-- an entry that isn't 0 takes the address's place in EAX
abbrev pub choose : List (List ℕ)
choose =
    -- mov ecx,[edx+ecx*4]; test ecx,ecx; cmovne eax,ecx
    (0x8B ∷ 0x0C ∷ 0x8A ∷ [])
    ∷ (0x85 ∷ 0xC9 ∷ [])
    ∷ (0x0F ∷ 0x45 ∷ 0xC1 ∷ [])
    ∷ []

-- the directory's page takes the directory's place in EDX, and the place in the page the offset's in ECX
abbrev pub turn_page : List (List ℕ)
turn_page =
    -- push ecx; shr ecx,10; mov edx,[edx+ecx*4]; pop ecx; and ecx,0x3FF
    (0x51 ∷ [])
    ∷ (0xC1 ∷ 0xE9 ∷ 0x0A ∷ [])
    ∷ (0x8B ∷ 0x14 ∷ 0x8A ∷ [])
    ∷ (0x59 ∷ [])
    ∷ (0x81 ∷ 0xE1 ∷ 0xFF ∷ 0x03 ∷ 0 ∷ 0 ∷ [])
    ∷ []

-- by the table's form: 1 is flat, 2 has pages
abbrev pub tail : ℕ → List (List ℕ)
tail form = if form == 1 then choose else turn_page ++ choose

-- a jump over the tail, for an address in no run
abbrev pub over_tail : ℕ → List ℕ
over_tail form = if form == 1 then 0xEB ∷ 0x08 ∷ [] else 0xEB ∷ 0x16 ∷ []

-- the new address is kept, the registers and flags come back, and the stub goes there
abbrev pub finish : ℕ → List (List ℕ)
finish p =
    -- mov [p+4],eax
    (0xA3 ∷ word (p + 4))
    -- pop edx; pop ecx; pop eax; popfd
    ∷ (0x5A ∷ [])
    ∷ (0x59 ∷ [])
    ∷ (0x58 ∷ [])
    ∷ (0x9D ∷ [])
    -- mov esp,[p+8]
    ∷ (0x8B ∷ 0x25 ∷ word (p + 8))
    -- jmp [p+4]
    ∷ (0xFF ∷ 0x25 ∷ word (p + 4))
    ∷ []

abbrev pub ending : ℕ → ℕ → List (List ℕ)
ending form p = over_tail form ∷ (tail form ++ finish p)

-- the stub for a table of a form over runs. It does not depend on where it stands.
unfoldable pub stub : ℕ → List RunPlace → ℕ → List ℕ
stub form runs p = concat (head p ++ (searches runs ++ ending form p))

-- how many bytes it has
abbrev pub stub_size : ℕ → ℕ → ℕ
stub_size form runs = (if form == 1 then 51 else 65) + 26 * runs
