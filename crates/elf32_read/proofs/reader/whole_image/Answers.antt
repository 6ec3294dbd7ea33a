-- The image has the file's fields, its headers and their segments.
use Rattle.std.proofs.Common.{◌≡◌, ◌^◌, ◌+◌, ◌≤◌, true, List, length, ap, subst, sym, ◌∙◌, arith}
use Rattle.std.specs.List.{All, filter_map}
use Rattle.elf32_read.specs.declared.image.Phdr.{Phdr}
use Rattle.elf32_read.specs.Fields.{headers, maps, segment_of, segments}
use Rattle.elf32_read.specs.Whole.{IsSoundHead-whole, AreSound-whole, All-ends}
use Rattle.elf32_read.proofs.reader.whole_image.Goals as goal

pub segments-requires : goal.segments-requires
segments-requires c =
    subst (λ (hs : List Phdr). All (λ h. maps h ≡ true → h.vaddr + h.memsz ≤ 2 ^ 32) hs) (sym (c.deref.ensures.value ∙ c.requires.headers_are))
    (All-ends (length c.args.bytes.now) 0 (headers c.args.bytes.now) (AreSound-whole c.args.bytes.now c.requires.whole))

pub u32_field-requires : goal.u32_field-requires
u32_field-requires c =
    let head = IsSoundHead-whole c.args.bytes.now c.requires.whole in
    omega arith

pub u32_field-requires-2 : goal.u32_field-requires-2
u32_field-requires-2 c =
    let head = IsSoundHead-whole c.args.bytes.now c.requires.whole in
    omega arith

pub ident_rest-requires : goal.ident_rest-requires
ident_rest-requires c =
    let head = IsSoundHead-whole c.args.bytes.now c.requires.whole in
    omega arith

-- the segments that were made are those of the file
pub returns : goal.returns
unfolding segments
returns c = record {
  whole = c.requires.whole;
  entry = c.u32_field.ensures;
  e_flags = c.u32_field-2.ensures;
  ident = c.ident_rest.ensures;
  headers_are = c.new.ensures ∙ c.requires.headers_are;
  segments_are = c.new-2.ensures ∙ c.in_ok-segments.ensures ∙ ap (filter_map segment_of) (c.deref.ensures.value ∙ c.requires.headers_are);
}
