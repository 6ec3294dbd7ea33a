-- Where a site's instruction ends, and where its direct transfer goes. Intel SDM, volume 2. Sums of addresses are taken
-- modulo 2^32.
use Rattle.std.specs.Prelude.{ℕ}
use Rattle.mv_base.specs.Memory.{address_after}
use Rattle.x86_insn.specs.declared.insn.Insn.{Insn}
use Rattle.x86_insn.specs.declared.insn.Insn.TheVariants as insn
use Rattle.superset.specs.declared.site.Site.{Site}

-- the address after a site's instruction
abbrev pub successor : Site → ℕ
successor s = address_after s.at s.len

-- where a direct transfer goes, by the address after it; that address for every other instruction
abbrev pub target_after : ℕ → Insn → ℕ
target_after next (insn.Jump rel) = address_after next rel
target_after next (insn.Branch cond rel) = address_after next rel
target_after next (insn.Loop kind rel) = address_after next rel
target_after next (insn.Call rel) = address_after next rel
target_after next i = next

abbrev pub target : Site → ℕ
target s = target_after (successor s) s.insn
