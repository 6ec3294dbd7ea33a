use Rattle.std.proofs.Common.{◌≡◌, ◌+◌, ◌≤◌, length, map, take, drop, count_by}
use Rattle.std.specs.List.{AllByRecursion}
use Rattle.mv_base.specs.Effects.{IsEffect, AllApplied, describe_all, is_descriptor}
use Rattle.syscall_log.specs.Meaning.{effect_of}
use Rattle.proc_image.specs.Paged.{cells}
use Rattle.x86_machine.specs.Bounded.{apply_bounded, Within}
use Rattle.x86_machine.proofs.system.apply_all.Given as goal

abbrev pub invariant-loop-effect : goal.invariant-loop-effect
invariant-loop-effect l = record {
  bounds : AllByRecursion IsEffect (map effect_of (drop l.effect-index l.effects));
  stand : apply_bounded (cells l.fn.memory) (map effect_of (take l.effect-index l.effects)) ≡ Within (AllApplied (cells l.memory));
  described : l.descs.made ≡ describe_all (cells l.fn.memory) (map effect_of (take l.effect-index l.effects)) l.fn.descs.made;
  spare : l.descs.spare + length l.descs.made ≡ l.fn.descs.spare + length l.fn.descs.made;
  left : l.fn.descs.spare + count_by is_descriptor (map effect_of (drop l.effect-index l.effects)) ≤ l.descs.spare + count_by is_descriptor (map effect_of l.effects);
}
