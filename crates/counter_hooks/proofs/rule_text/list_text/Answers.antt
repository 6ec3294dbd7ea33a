use Rattle.counter_hooks.proofs.Texts.{reads-list}
use Rattle.counter_hooks.proofs.rule_text.list_text.Goals as goal

pub returns : goal.returns
returns c =
    reads-list c.args.text.now c.as_bytes.result.now c.as_slice.result.now c.as_bytes.ensures.value c.as_slice.ensures c.strip_prefix.result c.strip_prefix.ensures.cases
