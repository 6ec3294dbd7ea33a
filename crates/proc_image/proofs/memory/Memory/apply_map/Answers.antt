use Rattle.std.proofs.Common.{◌≡◌, ◌*◌, Bool, ℕ, refl, ap, ap₂, ◌∙◌, arith}
use Rattle.std.proofs.lemmas.Result.{err_from_is_err_and}
use Rattle.mv_base.specs.Effects.{MapAt, is_write_mode, is_exec_mode, applied}
use Rattle.syscall_log.specs.Meaning.{mode_of}
use Rattle.proc_image.specs.Counting.{mapped_size}
use Rattle.proc_image.specs.Mapping.{filled}
use Rattle.proc_image.specs.Paged.{cells}
use Rattle.proc_image.proofs.Effecting.{refusal-map, applied-map}
use Rattle.proc_image.proofs.memory.Memory.apply_map.Goals as goal

pub returns-then-size-gt-MOST_MAPPED : goal.returns-then-size-gt-MOST_MAPPED
returns-then-size-gt-MOST_MAPPED c = record {
  allowed = refusal-map (cells c.args.self.now) c.args.lo c.args.len (mode_of c.args.mode) c.args.bytes.now c.if-is_exec.ensures c.if-touches_code.ensures;
  map = refl;
  size =
      ap (λ (n : ℕ). 4096 * n) (c.from-size.ensures ∙ c.pages_with.ensures c.args.bytes.now (is_write_mode (mode_of c.args.mode)) (is_exec_mode (mode_of c.args.mode)))
      ∙ ap mapped_size (applied-map (cells c.args.self.now) c.args.lo c.args.len (mode_of c.args.mode) c.args.bytes.now);
  above = omega arith;
  same = refl;
}

pub returns-in_err-map : goal.returns-in_err-map
returns-in_err-map c =
    let p = err_from_is_err_and c.from_residual.result c.from_residual.ensures.1 in
    let size : 4096 * c.from-size.result ≡ mapped_size (applied (cells c.args.self.now) (MapAt c.args.lo c.args.len (mode_of c.args.mode) c.args.bytes.now)) =
    ap (λ (n : ℕ). 4096 * n) (c.from-size.ensures ∙ c.pages_with.ensures c.args.bytes.now (is_write_mode (mode_of c.args.mode)) (is_exec_mode (mode_of c.args.mode)))
    ∙ ap mapped_size (applied-map (cells c.args.self.now) c.args.lo c.args.len (mode_of c.args.mode) c.args.bytes.now) in
    rw (p.1, p.2) (record {
      allowed = refusal-map (cells c.args.self.now) c.args.lo c.args.len (mode_of c.args.mode) c.args.bytes.now c.if-is_exec.ensures c.if-touches_code.ensures;
      map = refl;
      limit = λ _. omega (arith, size);
      same = c.in_err-map.ensures.err;
    })

pub returns : goal.returns
returns c =
    let size : 4096 * c.from-size.result ≡ mapped_size (applied (cells c.args.self.now) (MapAt c.args.lo c.args.len (mode_of c.args.mode) c.args.bytes.now)) =
    ap (λ (n : ℕ). 4096 * n) (c.from-size.ensures ∙ c.pages_with.ensures c.args.bytes.now (is_write_mode (mode_of c.args.mode)) (is_exec_mode (mode_of c.args.mode)))
    ∙ ap mapped_size (applied-map (cells c.args.self.now) c.args.lo c.args.len (mode_of c.args.mode) c.args.bytes.now) in
    record {
      allowed = refusal-map (cells c.args.self.now) c.args.lo c.args.len (mode_of c.args.mode) c.args.bytes.now c.if-is_exec.ensures c.if-touches_code.ensures;
      limit = λ _. omega (arith, size);
      done =
          c.in_ok-map.ensures.ok
          ∙ ap₂ (λ (w x : Bool). filled (cells c.args.self.now) c.args.lo c.args.len c.args.bytes.now w x) c.is_write.ensures c.if-is_exec.ensures
          ∙ applied-map (cells c.args.self.now) c.args.lo c.args.len (mode_of c.args.mode) c.args.bytes.now;
    }
