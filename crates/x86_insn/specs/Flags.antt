-- The image of the flags. Intel SDM, volume 1, section 3.4.3, and volume 2, PUSHFD; bit 9 is this project's own.
use Rattle.std.specs.Prelude.{ℕ, ◌+◌, Bool, if◌then◌else◌}
use Rattle.x86_insn.specs.declared.flags.Flags.{Flags}

-- a value where a flag is set, else 0
abbrev pub bit : Bool → ℕ → ℕ
bit set value = if set then value else 0

-- CF 0, bit 1 set, PF 2, AF 4, ZF 6, SF 7, bit 9 set, DF 10, OF 11, ID 21, other bits 0
abbrev pub flag_image : Flags → ℕ
flag_image f =
    bit f.cf 0x1 + 0x2 + bit f.pf 0x4 + bit f.af 0x10 + bit f.zf 0x40 + bit f.sf 0x80 + 0x200 + bit f.df 0x400 + bit f.of 0x800 + bit f.id 0x200000
