use Rattle.std.proofs.Common.{ℕ, List, ◌∙◌, subst}
use Rattle.std.specs.List.Sorted.{IsBinarySearchResult}
use Rattle.std.specs.Ordering.{nat_cmp}
use Rattle.counter_hooks.proofs.Searched.{found}
use Rattle.counter_hooks.proofs.rules.is_listed.Goals as goal

pub returns : goal.returns
returns c =
    let at = c.args.address in
    let ordered = subst (λ (xs : List ℕ). IsBinarySearchResult (λ y. nat_cmp y at) xs c.binary_search.result) c.as_slice.ensures c.binary_search.ensures.position in
    c.is_ok.ensures.value ∙ found c.args.addresses.now at c.requires c.binary_search.result ordered
