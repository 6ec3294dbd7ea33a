-- What a header without a fault keeps, and that it keeps it in the output.
use Rattle.std.proofs.Common.{◌≡◌, ℕ, ◌+◌, ◌*◌, ◌/◌, ◌%◌, ◌^◌, ◌<◌, ◌≤◌, Bool, true, false, not, cond, eqb, ltb, ◌&&◌, ◌||◌, Option, Some, None, refl, sym, ap, ◌∙◌, inl, inr, arith}
use Rattle.std.proofs.lemmas.Bool.{cases_Bool, ltb-true, ltb-false, le-ltb, lt-ltb, eq-eqb, eqb-true, ne_eqb, not-false, and_parts, and_from, and_left, and_right, true≢false}
use Rattle.elf32_read.specs.declared.fault.ImageFault.TheVariants.{Interpreter, Dynamic, FileRange, MemorySmaller, AddressRange, NoPermission, WritableCode, NotCongruent, SharedPage}
use Rattle.elf32_read.specs.declared.image.Phdr.{Phdr}
use Rattle.elf32_read.specs.Fields.{is_load, maps, has_exec, has_write, has_read}
use Rattle.elf32_read.specs.Faults.{segment_fault, header_fault}
use Rattle.elf32_write.specs.File.{head_len, kept_header}
pub use Rattle.simulation_laws.specs.laws.Bounded.{passed, neither}

-- ---- chains of tests

pub passes : {A : Type 0} (t : Bool) (f : A) (rest : Option A) → t ≡ false → rest ≡ None → cond t (Some f) rest ≡ None
passes t f rest fails none = ap (λ u. cond u (Some f) rest) fails ∙ none

-- ---- a header without a fault

-- a header that is loaded
pub record IsLoaded (len : ℕ) (h : Phdr) : Type 0 where
  pub inside : 0 < h.filesz → h.offset + h.filesz ≤ len
  pub smaller : h.filesz ≤ h.memsz

-- a header that maps addresses, in pages from one on
pub record IsMapped (free : ℕ) (h : Phdr) : Type 0 where
  pub low : h.vaddr + h.memsz ≤ 0xFFFFF000
  pub fixed : (has_write h && has_exec h) ≡ false
  pub congruent : h.offset % 4096 ≡ h.vaddr % 4096
  pub first_page : free ≤ h.vaddr / 4096

-- a header that has none of its faults
pub record IsFine (len free : ℕ) (h : Phdr) : Type 0 where
  pub no_interpreter : eqb h.kind 3 ≡ false
  pub no_dynamic : eqb h.kind 2 ≡ false
  pub loaded : is_load h ≡ true → IsLoaded len h
  pub mapped : maps h ≡ true → IsMapped free h
  pub permitted : maps h ≡ true → (has_read h || has_write h || has_exec h) ≡ true

segment_is : (free i : ℕ) (h : Phdr) → segment_fault free i h ≡ None → IsMapped free h × ((has_read h || has_write h || has_exec h) ≡ true)
unfolding segment_fault
segment_is free i h e =
    let a = passed (ltb 0xFFFFF000 (h.vaddr + h.memsz)) (AddressRange i) _ e in
    let p = passed (not (has_read h || has_write h || has_exec h)) (NoPermission i) _ a.1 in
    let w = passed (has_write h && has_exec h) (WritableCode i) _ p.1 in
    let c = passed (not (eqb (h.offset % 4096) (h.vaddr % 4096))) (NotCongruent i) _ w.1 in
    let s = passed (ltb (h.vaddr / 4096) free) (SharedPage i) None c.1 in (
      record {
        low = ltb-false 0xFFFFF000 (h.vaddr + h.memsz) a.0;
        fixed = w.0;
        congruent = eqb-true (h.offset % 4096) (h.vaddr % 4096) (not-false (eqb (h.offset % 4096) (h.vaddr % 4096)) c.0);
        first_page = ltb-false (h.vaddr / 4096) free s.0;
      },
      not-false (has_read h || has_write h || has_exec h) p.0,
    )

abbrev of_range : ℕ → Phdr → Bool
of_range len h = is_load h && ltb 0 h.filesz && ltb len (h.offset + h.filesz)

pub fine_is : (len free i : ℕ) (h : Phdr) → header_fault len free i h ≡ None → IsFine len free h
unfolding header_fault
fine_is len free i h e =
    let k3 = passed (eqb h.kind 3) (Interpreter i) _ e in
    let k2 = passed (eqb h.kind 2) (Dynamic i) _ k3.1 in
    let r = passed (of_range len h) (FileRange i) _ k2.1 in
    let m = passed (is_load h && ltb h.memsz h.filesz) (MemorySmaller i) _ r.1 in
    let seg : maps h ≡ true → segment_fault free i h ≡ None = λ t. sym (ap (λ u. cond u (segment_fault free i h) None) t) ∙ m.1 in
    record {
      no_interpreter = k3.0;
      no_dynamic = k2.0;
      loaded = λ l. record {
        inside = λ some. ltb-false len (h.offset + h.filesz)
            (sym (ap (λ u. u && ltb len (h.offset + h.filesz)) (and_from (is_load h) (ltb 0 h.filesz) l (lt-ltb 0 h.filesz some))) ∙ r.0);
        smaller = ltb-false h.memsz h.filesz (sym (ap (λ u. u && ltb h.memsz h.filesz) l) ∙ m.0);
      };
      mapped = λ t. (segment_is free i h (seg t)).0;
      permitted = λ t. (segment_is free i h (seg t)).1;
    }

segment_none : (free i : ℕ) (h : Phdr) → IsMapped free h → (has_read h || has_write h || has_exec h) ≡ true → segment_fault free i h ≡ None
unfolding segment_fault
segment_none free i h is may =
    passes _ (AddressRange i) _ (le-ltb 0xFFFFF000 (h.vaddr + h.memsz) is.low)
    (passes _ (NoPermission i) _ (ap not may)
    (passes _ (WritableCode i) _ is.fixed
    (passes _ (NotCongruent i) _ (ap not (eq-eqb (h.offset % 4096) (h.vaddr % 4096) is.congruent))
    (passes _ (SharedPage i) _ (le-ltb (h.vaddr / 4096) free is.first_page) refl))))

pub fine_none : (len free i : ℕ) (h : Phdr) → IsFine len free h → header_fault len free i h ≡ None
unfolding header_fault
fine_none len free i h is =
    let range : of_range len h ≡ false =
    elim (cases_Bool (is_load h && ltb 0 h.filesz)) [
      | inl t ↦
          let q = and_parts (is_load h) (ltb 0 h.filesz) t in
          and_right (is_load h && ltb 0 h.filesz) (ltb len (h.offset + h.filesz)) (le-ltb len (h.offset + h.filesz) ((is.loaded q.0).inside (ltb-true 0 h.filesz q.1)))
      | inr t ↦ and_left (is_load h && ltb 0 h.filesz) (ltb len (h.offset + h.filesz)) t
    ] in
    let small : (is_load h && ltb h.memsz h.filesz) ≡ false =
    elim (cases_Bool (is_load h)) [
      | inl t ↦ and_right (is_load h) (ltb h.memsz h.filesz) (le-ltb h.memsz h.filesz (is.loaded t).smaller)
      | inr t ↦ and_left (is_load h) (ltb h.memsz h.filesz) t
    ] in
    let seg : cond (maps h) (segment_fault free i h) None ≡ None =
    elim (cases_Bool (maps h)) [
      | inl t ↦ ap (λ u. cond u (segment_fault free i h) None) t ∙ segment_none free i h (is.mapped t) (is.permitted t)
      | inr t ↦ ap (λ u. cond u (segment_fault free i h) None) t
    ] in
    passes _ (Interpreter i) _ is.no_interpreter
    (passes _ (Dynamic i) _ is.no_dynamic
    (passes _ (FileRange i) _ range
    (passes _ (MemorySmaller i) _ small seg)))

-- a lower first free page, and a longer file
pub fine_more : (len len' free free' : ℕ) (h : Phdr) → len ≤ len' → (maps h ≡ true → free' ≤ h.vaddr / 4096) → IsFine len free h → IsFine len' free' h
fine_more len len' free free' h le page is = record {
  no_interpreter = is.no_interpreter;
  no_dynamic = is.no_dynamic;
  loaded = λ t. record { inside = λ some. omega (arith, le, (is.loaded t).inside some); smaller = (is.loaded t).smaller };
  mapped = λ t. record { low = (is.mapped t).low; fixed = (is.mapped t).fixed; congruent = (is.mapped t).congruent; first_page = page t };
  permitted = is.permitted;
}

-- ---- the header in the output

-- what the output's header has of the input's
pub record IsKept (h k : Phdr) : Type 0 where
  pub kind : k.kind ≡ h.kind
  pub vaddr : k.vaddr ≡ h.vaddr
  pub memsz : k.memsz ≡ h.memsz
  pub filesz : k.filesz ≡ h.filesz
  pub offset : k.offset ≡ (h.offset + 0x1000) % 2 ^ 32
  pub readable : is_load h ≡ true → has_read k ≡ true
  pub idle : is_load h ≡ true → has_exec k ≡ false
  pub write : is_load h ≡ true → has_write k ≡ has_write h

new_read : (f : ℕ) → (f / 8 * 8 + 4 + f / 2 % 2 * 2) / 4 % 2 ≡ 1
new_read f = omega arith

new_exec : (f : ℕ) → (f / 8 * 8 + 4 + f / 2 % 2 * 2) % 2 ≡ 0
new_exec f = omega arith

new_write : (f : ℕ) → (f / 8 * 8 + 4 + f / 2 % 2 * 2) / 2 % 2 ≡ f / 2 % 2
new_write f = omega arith

kept_by : (h : Phdr) (t : Bool) → is_load h ≡ t → IsKept h (cond t (record h { offset = (h.offset + head_len) % 2 ^ 32; flags = h.flags / 8 * 8 + 4 + h.flags / 2 % 2 * 2; align = 0x1000 }) (record h { offset = (h.offset + head_len) % 2 ^ 32 }))
kept_by h true e = record {
  kind = refl;
  vaddr = refl;
  memsz = refl;
  filesz = refl;
  offset = refl;
  readable = λ _. eq-eqb ((h.flags / 8 * 8 + 4 + h.flags / 2 % 2 * 2) / 4 % 2) 1 (new_read h.flags);
  idle = λ _. ne_eqb ((h.flags / 8 * 8 + 4 + h.flags / 2 % 2 * 2) % 2) 1 (λ q. omega (arith, q, new_exec h.flags));
  write = λ _. ap (λ n. eqb n 1) (new_write h.flags);
}
kept_by h false e = record {
  kind = refl;
  vaddr = refl;
  memsz = refl;
  filesz = refl;
  offset = refl;
  readable = λ t. absurd (true≢false (sym t ∙ e));
  idle = λ t. absurd (true≢false (sym t ∙ e));
  write = λ t. absurd (true≢false (sym t ∙ e));
}

pub is_kept : (h : Phdr) → IsKept h (kept_header h)
is_kept h = kept_by h (is_load h) refl

pub kept_load : (h : Phdr) → is_load (kept_header h) ≡ is_load h
kept_load h = ap (λ n. eqb n 1) (is_kept h).kind

pub kept_maps : (h : Phdr) → maps (kept_header h) ≡ maps h
kept_maps h = ap (λ t. t && ltb 0 (kept_header h).memsz) (kept_load h) ∙ ap (λ n. is_load h && ltb 0 n) (is_kept h).memsz

-- a moved offset, where the bytes lie in a file of at most 256 MiB
pub moved_offset : (o n : ℕ) → o + n ≤ 268435456 → (o + 0x1000) % 2 ^ 32 ≡ o + 0x1000
moved_offset o n le = omega arith

moved_mod : (o : ℕ) → (o + 0x1000) % 2 ^ 32 % 4096 ≡ o % 4096
moved_mod o = omega arith

-- a header without a fault has none in the output, which is longer by the head
pub kept_fine : (len len' free : ℕ) (h : Phdr) → len ≤ 268435456 → len + 0x1000 ≤ len' → IsFine len free h → IsFine len' free (kept_header h)
kept_fine len len' free h small long is =
    let k = is_kept h in
    record {
      no_interpreter = ap (λ n. eqb n 3) k.kind ∙ is.no_interpreter;
      no_dynamic = ap (λ n. eqb n 2) k.kind ∙ is.no_dynamic;
      loaded = λ t.
          let l = is.loaded (sym (kept_load h) ∙ t) in
          record {
            inside = λ some.
                let inside = l.inside (omega (arith, some, k.filesz)) in
                omega (arith, inside, moved_offset h.offset h.filesz (omega (arith, inside, small)), k.offset, k.filesz, long);
            smaller = omega (arith, l.smaller, k.filesz, k.memsz);
          };
      mapped = λ t.
          let m = is.mapped (sym (kept_maps h) ∙ t) in
          let l : is_load h ≡ true = (and_parts (is_load h) (ltb 0 h.memsz) (sym (kept_maps h) ∙ t)).0 in
          record {
            low = omega (arith, m.low, k.vaddr, k.memsz);
            fixed = and_right (has_write (kept_header h)) (has_exec (kept_header h)) (k.idle l);
            congruent = ap (λ n. n % 4096) k.offset ∙ (moved_mod h.offset ∙ (m.congruent ∙ ap (λ n. n % 4096) (sym k.vaddr)));
            first_page = omega (arith, m.first_page, ap (λ n. n / 4096) k.vaddr);
          };
      permitted = λ t.
          let l : is_load h ≡ true = (and_parts (is_load h) (ltb 0 h.memsz) (sym (kept_maps h) ∙ t)).0 in
          ap (λ u. u || has_write (kept_header h) || has_exec (kept_header h)) (k.readable l);
    }
