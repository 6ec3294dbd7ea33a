use Rattle.mv_base.specs.Bytes.{word}
use Rattle.multiverse_cli.proofs.Samples.{made}
use Rattle.multiverse_cli.proofs.sample.sample.Goals as goal

pub returns : goal.returns
unfolding word
returns c =
    made c.args.number c.args.size _ _ _ _ _ _ _ _ c.in_ok-image.ensures.items c.in_ok-extend_from_slice.ensures.items
    c.in_ok-extend_from_slice-2.ensures.items c.to_le_bytes.ensures c.in_ok-extend_from_slice-3.ensures.items c.to_le_bytes-2.ensures
    c.in_ok-extend_from_slice-4.ensures.items c.in_ok-put_code.ensures
