use Rattle.std.proofs.Common.{◌≡◌, ◌^◌, ◌<◌, drop}
use Rattle.mv_base.specs.Reading.{hex_value}
use Rattle.mv_base.proofs.reading.hex_value.Given as goal

abbrev pub invariant-loop-digit : goal.invariant-loop-digit
invariant-loop-digit l =
    record {
      small : l.value < 16 ^ l.digit-index;
      on : hex_value l.value (drop l.digit-index l.text) ≡ hex_value 0 l.text;
    }
