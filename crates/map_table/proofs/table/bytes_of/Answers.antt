use Rattle.std.proofs.Common.{◌+◌, ◌*◌, ◌++◌, List, ap, sym, subst, ◌∙◌, length, arith}
use Rattle.std.specs.List.{count_by}
use Rattle.map_table.specs.declared.group.Group.{Group}
use Rattle.map_table.specs.Ends.{EndLow}
use Rattle.map_table.specs.Groups.{has_site}
use Rattle.map_table.specs.Pairs.{firsts}
use Rattle.map_table.specs.Paged.{directory, pages}
use Rattle.mv_base.specs.Bytes.{words}
use Rattle.map_table.specs.laws.Reading.{has_room, table_is, groups_end}
use Rattle.map_table.proofs.table.bytes_of.Goals as goal

pub overflow_cast-first : goal.overflow_cast-first
overflow_cast-first c = omega (arith, has_room (record { runs = c.args.runs.now; pairs = c.args.pairs.now; lo = c.args.lo }) c.requires, ap (λ (l : List Group). length l) c.in_ok-groups.ensures, c.len.ensures)

pub overflow_mul-first : goal.overflow_mul-first
overflow_mul-first c = omega (arith, has_room (record { runs = c.args.runs.now; pairs = c.args.pairs.now; lo = c.args.lo }) c.requires, ap (λ (l : List Group). length l) c.in_ok-groups.ensures, c.len.ensures)

pub overflow_add-first-2 : goal.overflow_add-first-2
overflow_add-first-2 c = omega (arith, has_room (record { runs = c.args.runs.now; pairs = c.args.pairs.now; lo = c.args.lo }) c.requires, ap (λ (l : List Group). length l) c.in_ok-groups.ensures, c.len.ensures)

pub put_directories-requires-clause-room : goal.put_directories-requires-clause-room
put_directories-requires-clause-room c = omega (arith, has_room (record { runs = c.args.runs.now; pairs = c.args.pairs.now; lo = c.args.lo }) c.requires, ap (λ (l : List Group). length l) c.in_ok-groups.ensures, c.len.ensures, ap (count_by (has_site (firsts c.args.pairs.now))) (c.deref.ensures.value ∙ c.in_ok-groups.ensures))

pub put_pages-requires-clause-ends : goal.put_pages-requires-clause-ends
put_pages-requires-clause-ends c = subst EndLow (sym (c.deref-2.ensures.value ∙ c.in_ok-groups.ensures)) (groups_end 0 c.args.runs.now c.requires.runs.apart)

pub returns : goal.returns
returns c =
    table_is c.args.runs.now c.args.pairs.now c.args.lo (c.args.lo + 4096 + 4 * c.len.result) c.in_ok-groups.groups.items c.new-bytes.result.items c.put_zeros.new.bytes.items c.put_directories.new.bytes.items c.put_pages.new.bytes.items
    c.in_ok-groups.ensures (omega (arith, c.len.ensures)) c.new-bytes.ensures.items c.in_ok-put_zeros.ensures
    (c.in_ok-put_directories.ensures ∙ ap (λ (l : List Group). c.put_zeros.new.bytes.items ++ words (directory (firsts c.args.pairs.now) c.args.lo (c.args.lo + 4096 + 4 * c.len.result) l)) c.deref.ensures.value)
    (c.in_ok-put_pages.ensures ∙ ap (λ (l : List Group). c.put_directories.new.bytes.items ++ words (pages c.args.pairs.now l)) c.deref-2.ensures.value)
