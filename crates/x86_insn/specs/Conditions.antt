-- Conditions on the flags. Intel SDM, volume 2, appendix B, table B-10.
use Rattle.std.specs.Prelude.{Bool, true, false, not, ◌||◌}
use Rattle.x86_insn.specs.declared.flags.Flags.{Flags}
use Rattle.x86_insn.specs.declared.insn.Cond.{Cond}
use Rattle.x86_insn.specs.declared.insn.Cond.TheVariants.{O, No, B, Ae, E, Ne, Be, A, S, Ns, P, Np, L, Ge, Le, G}

abbrev pub differ : Bool → Bool → Bool
differ true b = not b
differ false b = b

-- a condition holds of the flags
abbrev pub holds : Cond → Flags → Bool
holds O f = f.of
holds No f = not f.of
holds B f = f.cf
holds Ae f = not f.cf
holds E f = f.zf
holds Ne f = not f.zf
holds Be f = f.cf || f.zf
holds A f = not (f.cf || f.zf)
holds S f = f.sf
holds Ns f = not f.sf
holds P f = f.pf
holds Np f = not f.pf
holds L f = differ f.sf f.of
holds Ge f = not (differ f.sf f.of)
holds Le f = f.zf || differ f.sf f.of
holds G f = not (f.zf || differ f.sf f.of)
