use Rattle.std.proofs.Common.{◌+◌, ◌∙◌, ap, arith}
use Rattle.map_table.specs.Pairs.{or_zero, entry_in}
use Rattle.map_table.specs.laws.Skips.{ascends_from}
use Rattle.map_table.proofs.Pages.{word_more, no_words}
use Rattle.map_table.proofs.page.put_entries.Goals as goal

pub loop-offset-init : goal.loop-offset-init
loop-offset-init c = record {
  bytes_are = no_words (entry_in c.args.pairs.now) c.args.group.lo c.args.bytes.now.items;
  ascend = ascends_from (c.args.group.lo + 0) c.args.group.lo _ (omega arith) c.pairs_from-rest.ensures.ascend;
  same = λ a low. c.pairs_from-rest.ensures.same a (omega arith);
}

pub first_entry-requires : goal.first_entry-requires
first_entry-requires c = c.loop-offset.invariant.ascend.ascend

pub behind-rest-requires : goal.behind-rest-requires
behind-rest-requires c = c.loop-offset.invariant.ascend.ascend

pub loop-offset-preserved : goal.loop-offset-preserved
loop-offset-preserved c =
    let here = c.args.group.lo + c.loop-offset.offset in
    record {
      bytes_are = word_more (entry_in c.args.pairs.now) c.args.group.lo c.loop-offset.offset c.first_entry.result c.put_word.new.bytes.items c.loop-offset.bytes.items c.args.bytes.now.items (c.first_entry.ensures ∙ ap or_zero (c.loop-offset.invariant.same here (omega arith))) c.loop-offset.invariant.bytes_are c.in_ok-put_word.ensures;
      ascend = ascends_from (c.args.group.lo + (c.loop-offset.offset + 1)) (here + 1) _ (omega arith) c.behind-rest.ensures.ascend;
      same = λ a low. c.behind-rest.ensures.same a (omega arith) ∙ c.loop-offset.invariant.same a (omega arith);
    }
