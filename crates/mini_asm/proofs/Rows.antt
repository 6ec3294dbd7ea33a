-- The rows of a source where nothing is at fault, and what is written of them.
use Rattle.std.specs.Prelude.{slice_get}
use Rattle.std.specs.List.{All, cons_option, filter, flat_map}
use Rattle.std.specs.Option.{option_map_or}
use Rattle.std.proofs.Common.{◌≡◌, ℕ, suc, ◌+◌, ◌%◌, ◌^◌, ◌<◌, ◌==◌, Bool, true, false, cond, not, List, [], ◌∷◌, ◌++◌, length, map, get_or, Option, Some, None, refl, sym, ap, ◌∙◌, subst, arith, append-nil}
use Rattle.std.proofs.lemmas.Bool.{eqb-true, ne_eqb}
use Rattle.std.proofs.lemmas.List.{length-append}
use Rattle.std.proofs.lemmas.List.Elements.{All-map}
use Rattle.std.proofs.lemmas.Option.{none-some, same_Some, slice_get-get_or}
use Rattle.mv_base.specs.Memory.{address_after}
use Rattle.elf32_read.specs.CodeImage.{code_base, image_of}
use Rattle.x86_insn.specs.declared.insn.Insn.{Insn}
use Rattle.insn_text.specs.Text.{text_of}
use Rattle.mini_asm.specs.declared.form.Form.{Form}
use Rattle.mini_asm.specs.declared.form.Form.TheVariants as form
use Rattle.mini_asm.specs.declared.listings.Listed.{Listed}
use Rattle.mini_asm.specs.declared.spots.Spot.{Spot}
use Rattle.mini_asm.specs.Building.{relative}
use Rattle.mini_asm.specs.Faults.{AreDrafts, Draft, Following, HasSize, end_of, ended}
use Rattle.mini_asm.specs.Forms.{IsForm}
use Rattle.mini_asm.specs.Labels.{first_place}
use Rattle.mini_asm.specs.Lines.{IsJudged}
use Rattle.mini_asm.specs.Sources.{AreRows, Chained, IsAssembled, IsCode, IsSaid, Row, Says, SaysLabel, Takes, Writes, code_of, has_bytes, listed, listed_of, next_of}
use Rattle.mini_asm.specs.Sources.Says.{Nothing, Label, Raw, Code}
use Rattle.mini_asm.specs.Sources.Writes.{ByLabel, ByNumber}
use Rattle.mini_asm.specs.Spots.{Fits, address_in, is_far, is_long, total, with_target}
use Rattle.mini_asm.specs.Writing.{code_line, line_of as listed_line, lines_of, written}
use Rattle.mini_asm.proofs.Drafting.{Placed, form-at, got-map, line_of, map-got, once, says_of, size-at, spot_of}
use Rattle.mini_asm.proofs.Faulting.{addresses, below-all, defined-at, ends, named-at}
use Rattle.mini_asm.proofs.Transferring.{aimed-judged, aimed-length, aimed-target, aimed-word, length-written, shifted, some-length, spelled-at, takes-written}

-- ---- what a row says, has and shows

abbrev pub said : (List ℕ → ℕ) → Form → ℕ → Says
said a form.Nothing next = Nothing
said a (form.Label name) next = Label name
said a (form.Raw bytes) next = Raw
said a (form.Code i) next = Code (relative next i)
said a (form.Aimed i name) next = Code (relative next (with_target (a name) i))

abbrev pub bytes_in : (List ℕ → ℕ) → Form → ℕ → List ℕ
bytes_in a form.Nothing next = []
bytes_in a (form.Label name) next = []
bytes_in a (form.Raw bytes) next = bytes
bytes_in a (form.Code i) next = written (relative next i)
bytes_in a (form.Aimed i name) next = written (relative next (with_target (a name) i))

abbrev pub shown : (List ℕ → ℕ) → Form → ℕ → List ℕ → List ℕ
shown a form.Nothing next line = line
shown a (form.Label name) next line = line
shown a (form.Raw bytes) next line = line
shown a (form.Code i) next line = text_of (relative next i) next
shown a (form.Aimed i name) next line = text_of (relative next (with_target (a name) i)) next

abbrev pub row_with : (List ℕ → ℕ) → Form → Draft → Row
row_with a f d = record {
  line = d.line;
  says = said a f (end_of d);
  at = d.at;
  bytes = bytes_in a f (end_of d);
  text = shown a f (end_of d) d.line;
}

abbrev pub row_of : (List ℕ → ℕ) → Draft → Row
row_of a d = row_with a d.says d

abbrev label-in : Says → Option (List ℕ)
label-in (Label name) = Some name
label-in s = None

said-label : (a : List ℕ → ℕ) (f : Form) (next : ℕ) (name : List ℕ) → said a f next ≡ Label name → f ≡ form.Label name
said-label a (form.Label n) next name e = ap form.Label (same_Some n name (ap label-in e))
said-label a form.Nothing next name e = absurd (none-some name (ap label-in e))
said-label a (form.Raw bytes) next name e = absurd (none-some name (ap label-in e))
said-label a (form.Code i) next name e = absurd (none-some name (ap label-in e))
said-label a (form.Aimed i n) next name e = absurd (none-some name (ap label-in e))

-- ---- one line

module _ (a : List ℕ → ℕ) (small : (name : List ℕ) → a name < 2 ^ 32) where
  -- what is known of a draft
  pub record Known (d : Draft) : Type 0 where
    pub is_form : IsForm d.line d.says
    pub has_size : HasSize d.says d.size
    pub low : end_of d < 2 ^ 32
    pub near : is_far a (says_of d) (spot_of d) ≡ false

  here : (d : Draft) → Known d → address_after (d.at % 2 ^ 32) d.size ≡ end_of d
  here d k = let low = k.low in omega (arith, low)

  near-there : (d : Draft) (t : Insn) → Known d → is_long t (address_after (d.at % 2 ^ 32) d.size) ≡ false → is_long t (end_of d) ≡ false
  near-there d t k near = ap (is_long t) (sym (here d k)) ∙ near

  length-with : (d : Draft) → Known d → (f : Form) → IsForm d.line f → HasSize f d.size → is_far a (Some f) (spot_of d) ≡ false → length (bytes_in a f (end_of d)) ≡ d.size
  length-with d k form.Nothing is size near = sym size
  length-with d k (form.Label name) is size near = sym size
  length-with d k (form.Raw bytes) is size near = sym size
  length-with d k (form.Code i) is size near = length-written i (end_of d) d.size is.0 (near-there d i k near) size
  length-with d k (form.Aimed i name) is size near =
      let t = with_target (a name) i in
      length-written t (end_of d) d.size (aimed-judged i (a name) (small name) is.transfer) (near-there d t k near) (aimed-length i (a name) d.size is.transfer size)

  pub row-length : (d : Draft) → Known d → length (bytes_in a d.says (end_of d)) ≡ d.size
  row-length d k = length-with d k d.says k.is_form k.has_size k.near

  code-row : (rows : List Row) (r : Row) (t : Insn) (next : ℕ) → next_of r ≡ next → r.bytes ≡ written (relative next t) → r.text ≡ text_of (relative next t) next
      → IsJudged t → is_long t next ≡ false → Writes rows r.line (relative next t) next → IsCode rows r (relative next t)
  code-row rows r t next e bytes text judged near writes =
      let spelled = spelled-at t next judged near in
      record {
        spelling = spelled;
        takes = subst (Takes (relative next t)) (sym bytes) (takes-written (relative next t) spelled);
        writes = subst (Writes rows r.line (relative next t)) (sym e) writes;
        text = text ∙ ap (text_of (relative next t)) (sym e);
      }

  -- where the label of a line is
  pub record Aims (rows : List Row) (name : List ℕ) : Type 0 where
    pub place : ℕ
    pub to : ℕ
    pub label : SaysLabel rows place name to
    pub address_is : a name ≡ to % 2 ^ 32

  row-said : (rows : List Row) (d : Draft) → Known d → (f : Form) → IsForm d.line f → HasSize f d.size → is_far a (Some f) (spot_of d) ≡ false
      → ((i : Insn) (name : List ℕ) → f ≡ form.Aimed i name → Aims rows name) → IsSaid rows (row_with a f d) (said a f (end_of d))
  row-said rows d k form.Nothing is size near aims = (is, refl, refl)
  row-said rows d k (form.Label name) is size near aims = (is, refl, refl)
  row-said rows d k (form.Raw bytes) is size near aims = (is, refl)
  row-said rows d k (form.Code i) is size near aims =
      let e = ap (λ n. d.at + n) (length-with d k (form.Code i) is size near) in
      code-row rows (row_with a (form.Code i) d) i (end_of d) e refl refl is.0 (near-there d i k near) (ByNumber (shifted i (end_of d) k.low ∙ is.1))
  row-said rows d k (form.Aimed i name) is size near aims =
      let t = with_target (a name) i in
      let e = ap (λ n. d.at + n) (length-with d k (form.Aimed i name) is size near) in
      let l = aims i name refl in
      code-row rows (row_with a (form.Aimed i name) d) t (end_of d) e refl refl (aimed-judged i (a name) (small name) is.transfer) (near-there d t k near)
      (ByLabel name l.place l.to is.is_name l.label (aimed-target i (a name) (end_of d) k.low (small name) is.transfer ∙ ap Some l.address_is)
      (is.text ∙ ap (λ w. w ++ 32 ∷ name) (aimed-word i (a name) (end_of d) is.transfer)))

  -- ---- what is listed of a line

  kept : (r : Row) (rows : List Row) → 0 < length r.bytes → listed (r ∷ rows) ≡ listed_of r ∷ listed rows
  kept r rows some =
      let e : (length r.bytes == 0) ≡ false = ne_eqb (length r.bytes) 0 (omega (arith, some)) in
      ap (λ b. map listed_of (cond (not b) (r ∷ filter has_bytes rows) (filter has_bytes rows))) e

  code-listed : (rows : List Row) (d : Draft) (t : Insn) → Known d → (r : Row) → 0 < length r.bytes
      → listed_of r ≡ record { at = d.at; bytes = written (relative (end_of d) t); text = text_of (relative (end_of d) t) (end_of d) }
      → cons_option (Some (code_line t (spot_of d))) (listed rows) ≡ listed (r ∷ rows)
  code-listed rows d t k r some is =
      let at : d.at % 2 ^ 32 ≡ d.at = let low = k.low in omega (arith, low) in
      let next = here d k in
      let line : code_line t (spot_of d) ≡ listed_of r = (λ j. record { at = at j; bytes = written (relative (next j) t); text = text_of (relative (next j) t) (next j) }) ∙ sym is in
      ap (λ l. l ∷ listed rows) line ∙ sym (kept r rows some)

  row-listed : (rows : List Row) (d : Draft) → Known d → (f : Form) → IsForm d.line f → HasSize f d.size → is_far a (Some f) (spot_of d) ≡ false
      → cons_option (listed_line a (Some f) (spot_of d)) (listed rows) ≡ listed (row_with a f d ∷ rows)
  row-listed rows d k form.Nothing is size near = refl
  row-listed rows d k (form.Label name) is size near = refl
  row-listed rows d k (form.Raw bytes) is size near =
      let at : d.at % 2 ^ 32 ≡ d.at = let low = k.low in omega (arith, low) in
      (λ j. record { at = at j; bytes = bytes; text = sym is.text j } ∷ listed rows) ∙ sym (kept (row_with a (form.Raw bytes) d) rows (let some = is.some in omega (arith, some)))
  row-listed rows d k (form.Code i) is size near =
      code-listed rows d i k (row_with a (form.Code i) d) (let long = length-with d k (form.Code i) is size near in let some = some-length i d.size size in omega (arith, long, some)) refl
  row-listed rows d k (form.Aimed i name) is size near =
      code-listed rows d (with_target (a name) i) k (row_with a (form.Aimed i name) d) (let long = length-with d k (form.Aimed i name) is size near in let some = some-length i d.size size in omega (arith, long, some)) refl

-- ---- all lines

no-bytes-left : (s : List ℕ) → length s ≡ 0 → s ≡ []
no-bytes-left [] h = refl
no-bytes-left (c ∷ s) h = absurd (omega (arith, h))

unlisted : (rows : List Row) → flat_map (λ (l : Listed). l.bytes) (listed rows) ≡ code_of rows
unlisted [] = refl
unlisted (r ∷ rows) = go (length r.bytes == 0) refl (unlisted rows) where
  go : (b : Bool) → (length r.bytes == 0) ≡ b → flat_map (λ (l : Listed). l.bytes) (listed rows) ≡ code_of rows
      → flat_map (λ (l : Listed). l.bytes) (map listed_of (cond (not b) (r ∷ filter has_bytes rows) (filter has_bytes rows))) ≡ r.bytes ++ code_of rows
  go true e rest = rest ∙ ap (λ s. s ++ code_of rows) (sym (no-bytes-left r.bytes (eqb-true (length r.bytes) 0 e)))
  go false e rest = ap (λ s. r.bytes ++ s) rest

flat-rows : (a : List ℕ → ℕ) (ds : List Draft) → flat_map ended (map line_of ds) ≡ flat_map (λ (r : Row). r.line ++ 10 ∷ []) (map (row_of a) ds)
flat-rows a [] = refl
flat-rows a (d ∷ ds) = ap (λ s. ended d.line ++ s) (flat-rows a ds)

module _ (a : List ℕ → ℕ) (small : (name : List ℕ) → a name < 2 ^ 32) where
  known-tail : (d : Draft) (ds : List Draft) → All (Known a small) (d ∷ ds) → All (Known a small) ds
  known-tail d ds all k x below = all (suc k) x (omega (arith, below))

  chained-rows : (at to : ℕ) (ds : List Draft) → at ≡ to → Following at ds → All (Known a small) ds → Chained to (map (row_of a) ds)
  chained-rows at to [] same follow all = tt
  chained-rows at to (d ∷ ds) same follow all =
      let e = row-length a small d (all 0 d (omega arith)) in
      (follow.0 ∙ same, chained-rows (end_of d) (d.at + length (bytes_in a d.says (end_of d))) ds (ap (λ n. d.at + n) (sym e)) follow.1 (known-tail d ds all))

  listed-rows : (ds : List Draft) → All (Known a small) ds → lines_of a (map says_of ds) (map spot_of ds) ≡ listed (map (row_of a) ds)
  listed-rows [] all = refl
  listed-rows (d ∷ ds) all =
      let k = all 0 d (omega arith) in
      ap (cons_option (listed_line a (says_of d) (spot_of d))) (listed-rows ds (known-tail d ds all))
      ∙ row-listed a small (map (row_of a) ds) d k d.says k.is_form k.has_size k.near

  total-rows : (ds : List Draft) → All (Known a small) ds → length (code_of (map (row_of a) ds)) ≡ total (map spot_of ds)
  total-rows [] all = refl
  total-rows (d ∷ ds) all =
      let e = row-length a small d (all 0 d (omega arith)) in
      let rest = total-rows ds (known-tail d ds all) in
      omega (arith, e, rest, length-append (bytes_in a d.says (end_of d)) (code_of (map (row_of a) ds)))

module _ (source : List ℕ) (drafts : List Draft) (are : AreDrafts source drafts) (fits : Fits (addresses source drafts are) (map says_of drafts) (map spot_of drafts)) where
  small : (name : List ℕ) → addresses source drafts are name < 2 ^ 32
  small name = go (first_place 0 (map says_of drafts) name) where
    at-most : (o : Option Spot) → ((s : Spot) → o ≡ Some s → s.at < 2 ^ 32) → option_map_or (λ (s : Spot). s.at) o 0 < 2 ^ 32
    at-most None all = omega arith
    at-most (Some s) all = all s refl

    go : (o : Option ℕ) → option_map_or (λ place. option_map_or (λ (s : Spot). s.at) (slice_get (map spot_of drafts) place) 0) o 0 < 2 ^ 32
    go None = omega arith
    go (Some p) = at-most (slice_get (map spot_of drafts) p) (λ s e. let g = got-map spot_of drafts p s e in let same : s.at ≡ g.0.at % 2 ^ 32 = ap (λ (t : Spot). t.at) g.2 in omega (arith, same))

  near-at : (k : ℕ) (d : Draft) → slice_get drafts k ≡ Some d → (b : Bool) → is_far (addresses source drafts are) (says_of d) (spot_of d) ≡ b → is_far (addresses source drafts are) (says_of d) (spot_of d) ≡ false
  near-at k d here true e = absurd (fits.near k (record { says = says_of d; is_form = map-got says_of drafts k d here; spot = spot_of d; is_spot = map-got spot_of drafts k d here; far = e }))
  near-at k d here false e = e

  known : (k : ℕ) (d : Draft) → slice_get drafts k ≡ Some d → Known (addresses source drafts are) small d
  known k d here = record {
    is_form = form-at source drafts are k d here;
    has_size = size-at source drafts are k d here;
    low = let e = ends code_base drafts k d are.follow here in let all = below-all (map spot_of drafts) (suc k) in let most = fits.most in omega (arith, e, all, most);
    near = near-at k d here (is_far (addresses source drafts are) (says_of d) (spot_of d)) refl;
  }

  all-known : All (Known (addresses source drafts are) small) drafts
  all-known k d below = known k (get_or drafts k d) (slice_get-get_or drafts k d below)

  is-source : source ≡ flat_map (λ (r : Row). r.line ++ 10 ∷ []) (map (row_of (addresses source drafts are)) drafts)
  is-source = are.split.whole ∙ append-nil (flat_map ended (map line_of drafts)) ∙ flat-rows (addresses source drafts are) drafts

  one-label : (j k : ℕ) (name : List ℕ) (at to : ℕ) → SaysLabel (map (row_of (addresses source drafts are)) drafts) j name at → SaysLabel (map (row_of (addresses source drafts are)) drafts) k name to → j ≡ k
  one-label j k name at to l m =
      let a = addresses source drafts are in
      let d = got-map (row_of a) drafts j l.row l.here in
      let e = got-map (row_of a) drafts k m.row m.here in
      once source drafts are j k d.0 e.0 name
      d.1 (said-label a d.0.says (end_of d.0) name (sym (ap (λ (r : Row). r.says) d.2) ∙ l.says))
      e.1 (said-label a e.0.says (end_of e.0) name (sym (ap (λ (r : Row). r.says) e.2) ∙ m.says))

  aims : (k : ℕ) (d : Draft) (i : Insn) (name : List ℕ) → slice_get drafts k ≡ Some d → d.says ≡ form.Aimed i name → Aims (addresses source drafts are) small (map (row_of (addresses source drafts are)) drafts) name
  aims k d i name here says =
      let a = addresses source drafts are in
      let n = named-at source drafts are k d i name here says in
      let l = defined-at source drafts are name n.0 n.1 n.2 n.3 in
      record {
        place = l.place;
        to = l.draft.at;
        label = record {
          row = row_of a l.draft;
          here = map-got (row_of a) drafts l.place l.draft l.here;
          says = ap (λ f. said a f (end_of l.draft)) l.says;
          is_at = refl;
        };
        address_is = l.address_is;
      }

  each-row : All (λ d. IsSaid (map (row_of (addresses source drafts are)) drafts) (row_of (addresses source drafts are) d) (row_of (addresses source drafts are) d).says) drafts
  each-row k x below =
      let d = get_or drafts k x in
      let here = slice_get-get_or drafts k x below in
      let h = known k d here in
      row-said (addresses source drafts are) small (map (row_of (addresses source drafts are)) drafts) d h d.says h.is_form h.has_size h.near (λ i name says. aims k d i name here says)

  are-rows : AreRows source (map (row_of (addresses source drafts are)) drafts)
  are-rows = record {
    is_source = is-source;
    chained = chained-rows (addresses source drafts are) small code_base code_base drafts refl are.follow all-known;
    once = one-label;
    each = All-map (λ r. IsSaid (map (row_of (addresses source drafts are)) drafts) r r.says) (row_of (addresses source drafts are)) drafts each-row;
  }

  rows-assembled : IsAssembled source (image_of (flat_map (λ (l : Listed). l.bytes) (lines_of (addresses source drafts are) (map says_of drafts) (map spot_of drafts)))) (lines_of (addresses source drafts are) (map says_of drafts) (map spot_of drafts))
  rows-assembled =
      let e = listed-rows (addresses source drafts are) small drafts all-known in
      record {
        rows = map (row_of (addresses source drafts are)) drafts;
        are_rows = are-rows;
        file = ap image_of (ap (flat_map (λ (l : Listed). l.bytes)) e ∙ unlisted (map (row_of (addresses source drafts are)) drafts));
        entries = e;
      }

  rows-total : length (flat_map (λ (l : Listed). l.bytes) (lines_of (addresses source drafts are) (map says_of drafts) (map spot_of drafts))) ≡ total (map spot_of drafts)
  rows-total =
      let e = listed-rows (addresses source drafts are) small drafts all-known in
      ap length (ap (flat_map (λ (l : Listed). l.bytes)) e ∙ unlisted (map (row_of (addresses source drafts are)) drafts))
      ∙ total-rows (addresses source drafts are) small drafts all-known

-- what is written is what the source assembles to
pub record Written (source : List ℕ) (lines : List Listed) (all : ℕ) : Type 0 where
  pub assembled : IsAssembled source (image_of (flat_map (λ (l : Listed). l.bytes) lines)) lines
  pub long : length (flat_map (λ (l : Listed). l.bytes) lines) ≡ all

abbrev Holds : List ℕ → List (Option Form) → List Spot → Type 0
Holds source forms spots = Fits (address_in (first_place 0 forms) spots) forms spots → Written source (lines_of (address_in (first_place 0 forms) spots) forms spots) (total spots)

pub is-written : (source : List ℕ) (forms : List (Option Form)) (spots : List Spot) → Placed source forms spots → Fits (address_in (first_place 0 forms) spots) forms spots
    → Written source (lines_of (address_in (first_place 0 forms) spots) forms spots) (total spots)
is-written source forms spots p =
    subst (Holds source forms) (sym p.spots_are)
    (subst (λ fs. Holds source fs (map spot_of p.drafts)) (sym p.forms_are)
    (λ fits. record { assembled = rows-assembled source p.drafts p.are fits; long = rows-total source p.drafts p.are fits }))
