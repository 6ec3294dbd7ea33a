-- The first fault, in the order of the tests.
use Rattle.std.proofs.Common.{not, length, ap, sym, ◌∙◌, arith}
use Rattle.std.specs.List.{list_any}
use Rattle.elf32_read.specs.declared.fault.ImageFault.TheVariants.{NoLoad}
use Rattle.elf32_read.specs.Fields.{is_load}
use Rattle.elf32_read.specs.Faults.{fault_if}
use Rattle.elf32_read.specs.Whole.{IsSoundHead-from_fault, length-headers}
use Rattle.elf32_read.proofs.Refusals.{in_head, in_headers, after_headers}
use Rattle.elf32_read.proofs.reader.read_image.Goals as goal

pub returns-in-Some : goal.returns-in-Some
returns-in-Some c = in_head c.args.bytes.now c.head_fault.result c.in-Some.fault c.head_fault.ensures c.in-Some.is

pub headers-requires-clause-room : goal.headers-requires-clause-room
headers-requires-clause-room c = (IsSoundHead-from_fault c.args.bytes.now (sym c.head_fault.ensures ∙ c.in_default.is)).room

pub headers-requires-clause-inside : goal.headers-requires-clause-inside
headers-requires-clause-inside c = (IsSoundHead-from_fault c.args.bytes.now (sym c.head_fault.ensures ∙ c.in_default.is)).inside

pub headers_fault-requires : goal.headers_fault-requires
headers_fault-requires c =
    let head = IsSoundHead-from_fault c.args.bytes.now (sym c.head_fault.ensures ∙ c.in_default.is) in
    omega (arith, ap length (c.deref.ensures.value ∙ c.in_ok-headers.ensures), length-headers c.args.bytes.now, head.most)

pub returns-in-Some-headers_fault : goal.returns-in-Some-headers_fault
returns-in-Some-headers_fault c =
    in_headers c.args.bytes.now c.deref.result.now c.head_fault.result c.headers_fault.result c.in-Some-headers_fault.fault
    c.head_fault.ensures c.in_default.is (c.deref.ensures.value ∙ c.in_ok-headers.ensures) c.headers_fault.ensures c.in-Some-headers_fault.is

pub returns-then-not-has_load : goal.returns-then-not-has_load
returns-then-not-has_load c =
    after_headers c.args.bytes.now c.deref.result.now c.head_fault.result c.headers_fault.result c.has_load.result
    c.head_fault.ensures c.in_default.is (c.deref.ensures.value ∙ c.in_ok-headers.ensures) c.headers_fault.ensures c.in_default-headers_fault.is
    (c.has_load.ensures ∙ ap (list_any is_load) (c.deref-2.ensures.value ∙ sym c.deref.ensures.value))
    ∙ ap (λ t. fault_if (not t) NoLoad) c.if-not-has_load.true

pub whole_image-requires-clause-whole : goal.whole_image-requires-clause-whole
whole_image-requires-clause-whole c =
    after_headers c.args.bytes.now c.deref.result.now c.head_fault.result c.headers_fault.result c.has_load.result
    c.head_fault.ensures c.in_default.is (c.deref.ensures.value ∙ c.in_ok-headers.ensures) c.headers_fault.ensures c.in_default-headers_fault.is
    (c.has_load.ensures ∙ ap (list_any is_load) (c.deref-2.ensures.value ∙ sym c.deref.ensures.value))
    ∙ ap (λ t. fault_if (not t) NoLoad) c.if-not-has_load.false
