use Rattle.std.proofs.Common.{◌≡◌, ℕ, ◌+◌, ◌<◌, ◌++◌, [], Bool, Vec, Global, false, List, length, drop, map, refl, sym, ap, ◌∙◌, subst, arith}
use Rattle.sequence_join.specs.Chains.{Chain, with_links, chains_from, order, EachOnce, IsLinked, AreGreedy}
use Rattle.sequence_join.specs.Spans.{chain_in}
use Rattle.sequence_join.specs.Walking.{is_taken, chain_at, IsSpanOf}
use Rattle.sequence_join.specs.laws.Making.{few, skipped, started, finished}
use Rattle.sequence_join.specs.laws.Once.{each_once}
use Rattle.sequence_join.specs.laws.Linked.{all_linked}
use Rattle.sequence_join.proofs.Greedy.{all_greedy}
use Rattle.sequence_join.proofs.Spanning.{one_more, all_within}
use Rattle.std.proofs.lemmas.List.{get_or_read, with_items_is}
use Rattle.std.specs.List.{AllByRecursion}
use Rattle.sequence_join.proofs.joining.chains.Goals as goal
use Rattle.sequence_join.proofs.joining.chains.Goals.{then-not-index+in_ok-put_chain+in_ok-push, else-not-index}

pub put_chain-requires-clause-few : goal.put_chain-requires-clause-few
put_chain-requires-clause-few c = few c.args.sites.now c.requires.ascend c.requires.ends

pub loop-first-preserved : goal.loop-first-preserved
loop-first-preserved c =
    let l = c.loop-first in
    let sites = c.args.sites.now in
    let marked : l.first < length l.taken.items = omega (arith, l.invariant.marks, c.loop-first-test.true) in
    let mark = get_or_read l.taken.items l.first c.index.result.now marked c.index.ensures false in
    elim c.if-not-index.branch [
      | then-not-index+in_ok-put_chain+in_ok-push w ↦
          let chain : Chain = chain_at (is_taken l.taken.items) sites l.first in
          let lent = w.deref_mut.ensures.value in
          let here = ap (λ (marks : List Bool). chain_at (is_taken marks) sites l.first) lent in
          let marks = λ (k : ℕ). w.in_ok-put_chain.ensures.marked k ∙ ap (λ (marks : List Bool). with_links (is_taken marks) (chain_at (is_taken marks) sites l.first) k) lent in
          let links = w.in_ok-put_chain.ensures.links ∙ ap (λ (x : Chain). l.links.items ++ x.links) here in
          let span = subst (λ (x : Chain). IsSpanOf (length l.links.items) x w.in_ok-put_chain.field-0) here w.in_ok-put_chain.ensures.span in
          let size : length w.put_chain.new.taken ≡ l.taken.len = omega (arith, w.put_chain.auto.taken, ap length lent, l.taken.ok.0) in
          let items : c.if-not-index.taken.items ≡ w.put_chain.new.taken = ap (λ (v : Vec Bool Global). v.items) w.taken-is ∙ with_items_is l.taken w.put_chain.new.taken size in
          let spans = one_more l.links.items w.put_chain.new.links.items l.spans.items w.push.new.self.items chain _ l.invariant.within links w.in_ok-push.ensures.items span in
          rw (items, w.spans-is, w.links-is) (record {
            whole = started sites (is_taken l.taken.items) (map (chain_in l.links.items) l.spans.items) l.first c.loop-first-test.true l.invariant.whole (is_taken w.put_chain.new.taken) chain (sym mark ∙ w.if-not-index.true) refl marks
                ∙ ap (λ (cs : List Chain). cs ++ chains_from (is_taken w.put_chain.new.taken) (l.first + 1) (drop (l.first + 1) sites)) (sym spans);
            within = all_within l.links.items w.put_chain.new.links.items l.spans.items w.push.new.self.items chain _ l.invariant.within links w.in_ok-push.ensures.items span;
            marks = w.put_chain.auto.taken ∙ ap length lent ∙ l.invariant.marks;
          })
      | else-not-index w ↦
          rw (w.taken-is, w.spans-is, w.links-is) (record { whole = skipped sites (is_taken l.taken.items) (map (chain_in l.links.items) l.spans.items) l.first c.loop-first-test.true l.invariant.whole (sym mark ∙ w.if-not-index.false); within = l.invariant.within; marks = l.invariant.marks })
    ]

pub returns-clause-exact : goal.returns-clause-exact
returns-clause-exact c =
    let l = c.loop-first in
    let made = c.new.ensures ∙ finished c.args.sites.now (is_taken l.taken.items) (map (chain_in l.links.items) l.spans.items) l.first c.loop-first-test.false l.invariant.whole in
    made

pub returns-clause-once : goal.returns-clause-once
returns-clause-once c =
    let l = c.loop-first in
    let made = c.new.ensures ∙ finished c.args.sites.now (is_taken l.taken.items) (map (chain_in l.links.items) l.spans.items) l.first c.loop-first-test.false l.invariant.whole in
    subst (λ (cs : List Chain). EachOnce (length c.args.sites.now) (order cs)) (sym made) (each_once c.args.sites.now)

pub returns-clause-linked : goal.returns-clause-linked
returns-clause-linked c =
    let l = c.loop-first in
    let made = c.new.ensures ∙ finished c.args.sites.now (is_taken l.taken.items) (map (chain_in l.links.items) l.spans.items) l.first c.loop-first-test.false l.invariant.whole in
    subst (AllByRecursion (IsLinked c.args.sites.now)) (sym made) (all_linked c.args.sites.now (λ k. false) 0 c.args.sites.now refl)

pub returns-clause-greedy : goal.returns-clause-greedy
returns-clause-greedy c =
    let l = c.loop-first in
    let made = c.new.ensures ∙ finished c.args.sites.now (is_taken l.taken.items) (map (chain_in l.links.items) l.spans.items) l.first c.loop-first-test.false l.invariant.whole in
    subst (AreGreedy c.args.sites.now []) (sym made) (all_greedy c.args.sites.now c.requires.ascend c.requires.ends (λ k. false) [] 0 c.args.sites.now refl (λ j. refl) (λ j l. absurd (omega (arith, l))))
