-- Where memory ran out, the name holds what it held.
use Rattle.std.proofs.Common.{ℕ, List, Option, ap, inl}
use Rattle.std.proofs.lemmas.Result.{err_from_is_err_and}
use Rattle.mv_base.proofs.mem_store.MemStoreStore.put.Goals as goal

pub returns-in_err-add-clause-puts : goal.returns-in_err-add-clause-puts
returns-in_err-add-clause-puts c =
    let p = err_from_is_err_and c.from_residual.result c.from_residual.ensures.1 in
    rw p.1 (inl (ap (λ (h : List ℕ → Option (List ℕ)). h c.args.name.now) c.in_err-add.ensures.err))
