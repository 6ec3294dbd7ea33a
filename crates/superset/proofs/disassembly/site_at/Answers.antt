use Rattle.std.proofs.Common.{Some, None, ap, sym, ◌∙◌}
use Rattle.x86_insn.specs.Spelling.{decoded}
use Rattle.superset.proofs.RunSites.{site_of_run, front_of_tail}
use Rattle.superset.proofs.disassembly.site_at.Goals as goal

pub returns-in-Insn : goal.returns-in-Insn
returns-in-Insn c = sym (site_of_run c.args.run.now c.args.offset (Some (c.in-Insn.insn, c.in-Insn.len)) c.requires.within (ap decoded (sym (front_of_tail _ _ c.args.offset _ c.as_slice.ensures c.min.ensures)) ∙ c.in-Insn.ensures.0))

pub returns-in-Short : goal.returns-in-Short
returns-in-Short c = sym (site_of_run c.args.run.now c.args.offset None c.requires.within (ap decoded (sym (front_of_tail _ _ c.args.offset _ c.as_slice.ensures c.min.ensures)) ∙ c.in-Short.ensures.0))

pub returns-in-Unknown : goal.returns-in-Unknown
returns-in-Unknown c = sym (site_of_run c.args.run.now c.args.offset None c.requires.within (ap decoded (sym (front_of_tail _ _ c.args.offset _ c.as_slice.ensures c.min.ensures)) ∙ c.in-Unknown.ensures.0))
