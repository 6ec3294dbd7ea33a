use Rattle.std.proofs.Common.{ℕ, ◌<◌, ◌++◌, ◌||◌, [], ◌∷◌, List, length, drop, Some, None, append-nil, append_assoc, sym, ap, ◌∙◌, arith}
use Rattle.std.proofs.lemmas.List.{length-append}
use Rattle.sequence_join.specs.Chains.{Chain, is_among}
use Rattle.sequence_join.specs.Walking.{is_taken, chain_at}
use Rattle.sequence_join.proofs.Marks.{behind, behind_first, still_first, marked_more, not_among, next_link, next_chain}
use Rattle.sequence_join.proofs.joining.put_chain.Goals as goal

pub loop-taken-preserved : goal.loop-taken-preserved
loop-taken-preserved c =
    let l = c.loop-taken in
    let sites = c.args.sites.now in
    let taken = c.args.taken.now in
    let old = c.args.links.now.items in
    let ks = drop (length old) l.links.items in
    let size : l.here < length l.taken = omega (arith, l.invariant.inside, l.auto.taken, c.requires.marks) in
    let pushed = behind_first old l.links.items c.push.new.self.items l.here l.invariant.split c.in_ok-push.ensures.items in
    let step = next_link sites taken l.taken ks l.here l.invariant.marks l.invariant.fresh c.after-next.result (Some c.in-Some.index) _ size l.invariant.inside c.after-next.ensures c.in-Some.ensures.next in
    let next = next_chain sites taken l.taken ks l.here l.invariant.marks l.invariant.fresh c.in-Some.index size c.in-Some.ensures.behind.0 in
    let split = still_first old l.links.items c.push.new.self.items l.here l.invariant.split c.in_ok-push.ensures.items in
    let more = ks ++ l.here ∷ [] in
    record {
      split = split;
      whole = ap (λ (xs : List ℕ). behind xs (chain_at (is_taken taken) sites c.in-Some.index)) pushed ∙ (sym (step ∙ ap (behind more) next) ∙ l.invariant.whole);
      marks = λ j. marked_more taken l.taken ks l.here j size (l.invariant.marks j) ∙ ap (λ (xs : List ℕ). is_taken taken j || is_among xs j) (sym pushed);
      fresh = λ j low. ap (λ (xs : List ℕ). is_among xs j) pushed ∙ not_among ks l.here j (omega (arith, low, c.in-Some.ensures.behind)) (l.invariant.fresh j (omega (arith, low, c.in-Some.ensures.behind)));
      inside = c.in-Some.ensures.behind.1;
    }

pub returns-in-None-clause-links : goal.returns-in-None-clause-links
returns-in-None-clause-links c =
    let l = c.loop-taken in
    let old = c.args.links.now.items in
    let ks = drop (length old) l.links.items in
    let size : l.here < length l.taken = omega (arith, l.invariant.inside, l.auto.taken, c.requires.marks) in
    let step = next_link c.args.sites.now c.args.taken.now l.taken ks l.here l.invariant.marks l.invariant.fresh c.after-next.result None _ size l.invariant.inside c.after-next.ensures c.in-None.ensures.next in
    let ended = sym step ∙ l.invariant.whole in
    let own = sym (append-nil (ks ++ l.here ∷ [])) ∙ ap (λ (x : Chain). x.links) ended in
    c.in_ok-push.ensures.items ∙ (ap (λ (xs : List ℕ). xs ++ l.here ∷ []) l.invariant.split ∙ (append_assoc old ks (l.here ∷ []) ∙ ap (λ (xs : List ℕ). old ++ xs) own))

pub returns-in-None-clause-span : goal.returns-in-None-clause-span
returns-in-None-clause-span c =
    let l = c.loop-taken in
    let old = c.args.links.now.items in
    let ks = drop (length old) l.links.items in
    let size : l.here < length l.taken = omega (arith, l.invariant.inside, l.auto.taken, c.requires.marks) in
    let step = next_link c.args.sites.now c.args.taken.now l.taken ks l.here l.invariant.marks l.invariant.fresh c.after-next.result None _ size l.invariant.inside c.after-next.ensures c.in-None.ensures.next in
    let ended = sym step ∙ l.invariant.whole in
    let own = sym (append-nil (ks ++ l.here ∷ [])) ∙ ap (λ (x : Chain). x.links) ended in
    let first = chain_at (is_taken c.args.taken.now) c.args.sites.now c.args.first in
    let links = ap (λ (xs : List ℕ). length xs) (returns-in-None-clause-links c) ∙ length-append old first.links in
    record {
      from = omega (arith, c.len-from.ensures, c.args.links.now.ok.0);
      len = omega (arith, links, c.len.ensures, c.push.new.self.ok.0, c.len-from.ensures, c.args.links.now.ok.0);
      next = ap (λ (x : Chain). x.next) ended;
    }

pub returns-in-None-clause-marked : goal.returns-in-None-clause-marked
returns-in-None-clause-marked c =
    let l = c.loop-taken in
    let old = c.args.links.now.items in
    let ks = drop (length old) l.links.items in
    let size : l.here < length l.taken = omega (arith, l.invariant.inside, l.auto.taken, c.requires.marks) in
    let step = next_link c.args.sites.now c.args.taken.now l.taken ks l.here l.invariant.marks l.invariant.fresh c.after-next.result None _ size l.invariant.inside c.after-next.ensures c.in-None.ensures.next in
    let ended = sym step ∙ l.invariant.whole in
    let own = sym (append-nil (ks ++ l.here ∷ [])) ∙ ap (λ (x : Chain). x.links) ended in
    λ k. marked_more c.args.taken.now l.taken ks l.here k size (l.invariant.marks k) ∙ ap (λ (xs : List ℕ). is_taken c.args.taken.now k || is_among xs k) own
