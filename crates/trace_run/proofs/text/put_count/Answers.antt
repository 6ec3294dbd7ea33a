use Rattle.std.proofs.Common.{◌++◌, decimal, ap, ◌∙◌}
use Rattle.mv_base.specs.Text.{hex8}
use Rattle.trace_run.specs.Texts.{kind_word}
use Rattle.trace_run.proofs.OneByOne.{count_text}
use Rattle.trace_run.proofs.text.put_count.Goals as goal

pub returns : goal.returns
returns c =
    count_text c.args.to.now.items (kind_word c.args.count.1) (hex8 c.args.count.0) (decimal c.args.count.2) _ _ _ _ _
    (c.in_ok-extend_from_slice.ensures.items ∙ ap (λ w. c.args.to.now.items ++ w) (c.as_bytes.ensures.value ∙ c.kind_word.ensures)) c.in_ok-put_hex8.ensures.ok c.in_ok-push.ensures.items c.in_ok-put_decimal.ensures.ok c.in_ok-push-2.ensures.items
