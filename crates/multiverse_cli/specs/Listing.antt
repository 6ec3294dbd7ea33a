-- The listing of a file's sites. Its form is this project's own.
use Rattle.std.specs.Prelude.{ℕ, List, ◌++◌, Option, codes}
use Rattle.std.specs.List.{flat_map}
use Rattle.mv_base.specs.Memory.{exec_bytes}
use Rattle.mv_base.specs.Text.{hex8, hex_digits}
use Rattle.elf32_read.specs.Runs.{code_of}
use Rattle.superset.specs.declared.site.Site.{Site}
use Rattle.superset.specs.Targets.{successor}
use Rattle.insn_text.specs.Text.{text_of}
use Rattle.mv_rewrite.specs.Sites.{sites, code_in}
use Rattle.multiverse_cli.specs.declared.listing.Listing.{Listing}
use Rattle.multiverse_cli.specs.declared.listing.Printout.{Printout}
use Rattle.multiverse_cli.specs.declared.listing.Printout.TheVariants as printout
use Rattle.multiverse_cli.specs.Texts.{line}

-- bytes as two hexadecimal digits each
abbrev pub hex_pairs : List ℕ → List ℕ
hex_pairs bytes = flat_map (hex_digits 2) bytes

-- the line of a site of executable bytes: its address in eight hexadecimal digits, its bytes, and its text
abbrev pub site_line : (ℕ → Option ℕ) → Site → List ℕ
site_line code s =
    line (hex8 s.at ++ codes " " ++ hex_pairs (exec_bytes code s.at s.len) ++ codes " " ++ text_of s.insn (successor s))

-- the lines of sites
abbrev pub site_lines : (ℕ → Option ℕ) → List Site → List ℕ
site_lines code ss = flat_map (site_line code) ss

-- the lines of all sites of a file, in ascending order
abbrev pub listing : List ℕ → List ℕ
listing b = site_lines (code_in b) (sites b)

-- the same, of sites that were found in runs
abbrev pub listing_of : Listing → List ℕ
listing_of l = site_lines (code_of l.runs.items) l.sites.items

-- what is printed
abbrev pub printout_text : Printout → List ℕ
printout_text (printout.Text text) = text.items
printout_text (printout.Lines l) = listing_of l
