-- The headers are those of the table.
use Rattle.std.proofs.Common.{◌≡◌, ◌+◌, ◌*◌, ◌∷◌, [], ◌++◌, ap, ◌∙◌, sym, arith}
use Rattle.elf32_read.specs.Fields.{headers, header_at, header_count}
use Rattle.elf32_read.proofs.Tables.{headers_until, headers_until-more}
use Rattle.elf32_read.proofs.headers.headers.Goals as goal

pub loop-index-init : goal.loop-index-init
unfolding headers_until
loop-index-init c = c.in_ok-headers.ensures.items

pub loop-index-preserved : goal.loop-index-preserved
loop-index-preserved c =
    c.in_ok-push.ensures.items
    ∙ ap (λ x. x ++ c.phdr_at.result ∷ []) c.loop-index.invariant
    ∙ ap (λ h. headers_until c.args.bytes.now c.loop-index.index ++ h ∷ []) (c.phdr_at.ensures ∙ ap (λ p. header_at c.args.bytes.now (p + 32 * c.loop-index.index)) c.u32_field-first.ensures)
    ∙ sym (headers_until-more c.args.bytes.now c.loop-index.index)

pub returns : goal.returns
unfolding headers headers_until
returns c =
    let all : c.loop-index.index ≡ header_count c.args.bytes.now = omega arith in
    c.loop-index.invariant ∙ ap (headers_until c.args.bytes.now) all
