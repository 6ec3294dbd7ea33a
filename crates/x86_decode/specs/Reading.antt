-- A reading as a scan.
use Rattle.std.specs.Prelude.{ℕ, true, false, nat_le}
use Rattle.x86_insn.specs.Scanning as scanning
use Rattle.x86_insn.specs.Scanning.{Scan}
use Rattle.x86_decode.specs.declared.decoding.Decoded.{Decoded}
use Rattle.x86_decode.specs.declared.decoding.Decoded.TheVariants as decoded_as
use Rattle.x86_decode.specs.declared.reading.Reading.{Reading}
use Rattle.x86_decode.specs.declared.reading.Reading.TheVariants.{Found, More, Nothing}

abbrev pub scan_of : Reading → Scan
scan_of (Found i n) = scanning.Found i n
scan_of (More n) = scanning.More n
scan_of Nothing = scanning.Nothing

-- what bytes decode to by a scan: an instruction has at most 15 bytes
abbrev pub decided : Scan → Decoded
decided (scanning.Found i n) = elim (nat_le n 15) [ true ↦ decoded_as.Insn i n | false ↦ decoded_as.Unknown ]
decided (scanning.More n) = elim (nat_le n 15) [ true ↦ decoded_as.Short | false ↦ decoded_as.Unknown ]
decided scanning.Nothing = decoded_as.Unknown

-- how many bytes a scan speaks of
abbrev pub len_of : Scan → ℕ
len_of (scanning.Found i n) = n
len_of (scanning.More n) = n
len_of scanning.Nothing = 0
