-- What the functions' proofs cite: one law for each way out. Assumes nothing.
use mathlib.Core.Path.{◌≡◌, refl, sym, ap, ◌∙◌}
use mathlib.Core.List.{List, ◌∷◌, ◌++◌, append_assoc}
use mathlib.Core.Bool.{Bool, true, false, cond, not}
use Prim.Native.Nat.{ℕ, zero, suc, ◌+◌, ◌-◌, ◌/◌, ◌≤◌, ◌<◌, min}
use native.Mathlib.Omega.{arith}
use lib.Dec.{ltb, lit<}
use lib.ListN.{length, take, drop, set, replicate, length-append, length-drop, length-replicate}
use lib.Seq.{sets, drop-drop, take-take}
use borrow.Author.Tests.{lt-ltb, le-ltb, ltb-false}
use Rattle.std.specs.Prelude.{Result, Ok, Err}
use Rattle.fields.specs.declared.refusal.Refusal.{Refusal}
use Rattle.fields.specs.Refusals.{number_of}
use Rattle.fields.specs.Bytes.{starts, big_bytes}
use Rattle.fields.specs.Files as files
use Rattle.fields.specs.Files.{File, file_of, content, room}
use Rattle.fields.specs.Answers.{Outcome, outcome, decided}
use Rattle.fields.proofs.Tests.{passed}
use Rattle.fields.proofs.Lists.{drop-take}
use Rattle.fields.proofs.FileLaws as file-laws
use Rattle.fields.proofs.FileLaws.{content-length}
use Rattle.fields.proofs.Stored.{laid_next}
use Rattle.fields.proofs.BigLaws.{length-big_bytes}
use Rattle.fields.proofs.AnswerLaws.{number-positive, outcome-refused, outcome-accepted}
use Rattle.table.specs.Entries.{empty_table}
use Rattle.clog.specs.Slots.{clog_magic, set_slot, entries_in, settled}
use Rattle.clog.specs.Calls.{unfit, record_no, compact_no, load_no, recorded, compacted, Loaded, load_outcome, loaded}
use Rattle.clog.proofs.Refusals.{fit-means, compact-ok, record-fits}
use Rattle.clog.proofs.Ways.{load-made, table-none}
use Rattle.clog.proofs.SlotLaws.{record-len}
use Rattle.clog.proofs.Theorems.{accepted-file}
use Rattle.shrunk.specs.Form.{second_header, second_form, base_of, misfits, base_under, to_second, to_first, any_nonzero}
use Rattle.shrunk.specs.Calls.{second_no, form_no, first_no, written, moved_second, moved_first, relength, recorded_second, compacted_second, loaded_second}
use Rattle.shrunk.proofs.FormLaws.{fits-means, length-header}
use Rattle.shrunk.proofs.MoveLaws.{length-second, length-first, magic-long, under-within}

-- ---- the tests before a call on a file of the second form

module _ (f : File) where
  pub form-unfit : (n : ℕ) → files.unfit 1048576 (room f) f.len ≡ true → form_no f n ≡ 1
  unfolding form_no
  form-unfit n u = rw u

  pub form-misfit : (n : ℕ) → files.unfit 1048576 (room f) f.len ≡ false → misfits (content f) ≡ true → form_no f n ≡ 23
  unfolding form_no
  form-misfit n u m = rw (u, m)

  pub form-passes : (n : ℕ) → files.unfit 1048576 (room f) f.len ≡ false → misfits (content f) ≡ false → form_no f n ≡ n
  unfolding form_no
  form-passes n u m = rw (u, m)

  -- a number that is 0 says that the file fits; that of a refusal is the number of any call
  pub form-means : (number : ℕ) → number ≡ form_no f 0 → number ≡ 0 → (room f ≤ 1048576) × (f.len ≤ room f) × (misfits (content f) ≡ false) × ((n : ℕ) → form_no f n ≡ n)
  unfolding form_no
  form-means number e z =
      let p = passed (files.unfit 1048576 (room f) f.len) 1 (cond (misfits (content f)) 23 0) (lit< tt) (sym e ∙ z) in
      let q = passed (misfits (content f)) 23 0 (lit< tt) p.1 in
      let m = file-laws.fit-means 1048576 (room f) f.len p.0 in
      (m.0, m.1, q.0, λ n. form-passes n p.0 q.0)

  pub form-other : (n : ℕ) (r : Refusal) → number_of r ≡ form_no f 0 → number_of r ≡ form_no f n
  unfolding form_no
  form-other n r e = go (files.unfit 1048576 (room f) f.len) (misfits (content f)) e
    where
      go : (x y : Bool) → number_of r ≡ cond x 1 (cond y 23 0) → number_of r ≡ cond x 1 (cond y 23 n)
      go true y e = e
      go false true e = e
      go false false e = absurd (omega (arith, number-positive r))

-- a refusal that is decided tells its number, and no byte changed
refused-file : (r : Refusal) (n : ℕ) (old new : File) (bs : List ℕ) → outcome (Err r) bs ≡ decided n old new → (n ≡ number_of r) × (bs ≡ old.bytes)
unfolding decided
refused-file r zero old new bs o = let z : number_of r ≡ 0 = ap (λ (x : Outcome). x.told.number) o in absurd (omega (arith, number-positive r))
refused-file r (suc n) old new bs o = (sym (ap (λ (x : Outcome). x.told.number) o), ap (λ (x : Outcome). x.bytes) o)

-- ---- the ways out of a move

-- refused: the output is as it was
pub move-no : (r : Refusal) (n : ℕ) (out ys : List ℕ) → number_of r ≡ n → outcome (Err r) out ≡ decided n (file_of out 0) (written out ys)
move-no r n out ys e = outcome-refused r n (file_of out 0) (written out ys) out (sym e) refl

pub move-done : (n len : ℕ) (out ys buf : List ℕ) → 0 ≡ n → buf ≡ sets out 0 ys → len ≡ length ys → outcome (Ok len) buf ≡ decided n (file_of out 0) (written out ys)
unfolding written
move-done n len out ys buf e q l = outcome-accepted len n (file_of out 0) (written out ys) buf (sym e) (rw (q, l))

-- ---- to the second form

module _ (mark len size : ℕ) (clog : List ℕ) where
  pub second-unfit : unfit 8 (length clog) len ≡ true → second_no mark (file_of clog len) size ≡ 1
  unfolding second_no
  second-unfit u = rw u

  module _ (u : unfit 8 (length clog) len ≡ false) where
    body-length : length (drop 8 (take len clog)) ≡ len - 8
    body-length =
        let f = fit-means 8 (length clog) len u in
        length-drop 8 (take len clog) ∙ ap (λ (n : ℕ). n - 8) (content-length (file_of clog len) f.1)

    pub second-magic : starts clog_magic (take len clog) ≡ false → second_no mark (file_of clog len) size ≡ 23
    unfolding second_no
    second-magic m = rw (u, m)

    module _ (m : starts clog_magic (take len clog) ≡ true) where
      -- the bytes below the base, as a part of the buffer
      pub second_below : any_nonzero (take (base_under mark (len - 8) / 4) (drop 8 (take len clog))) ≡ true → second_no mark (file_of clog len) size ≡ 22
      unfolding second_no
      second_below b = rw (u, m, body-length, b)

      module _ (b : any_nonzero (take (base_under mark (len - 8) / 4) (drop 8 (take len clog))) ≡ false) where
        second-size : length (to_second mark (take len clog)) ≡ 13 + (len - (8 + base_under mark (len - 8) / 4))
        second-size =
            let f = fit-means 8 (length clog) len u in
            length-second mark (take len clog) ∙ rw (content-length (file_of clog len) f.1) (omega (arith, f.2, under-within mark (len - 8)))

        pub second_short : size < 13 + (len - (8 + base_under mark (len - 8) / 4)) → second_no mark (file_of clog len) size ≡ 13
        unfolding second_no
        second_short s = rw (u, m, body-length, b, second-size, lt-ltb size (13 + (len - (8 + base_under mark (len - 8) / 4))) s)

        pub second-room : 13 + (len - (8 + base_under mark (len - 8) / 4)) ≤ size → second_no mark (file_of clog len) size ≡ 0
        unfolding second_no
        second-room s = rw (u, m, body-length, b, second-size, le-ltb size (13 + (len - (8 + base_under mark (len - 8) / 4))) s)

  -- what a number that is 0 says
  pub second-means : (number : ℕ) → number ≡ second_no mark (file_of clog len) size → number ≡ 0
      → (length clog ≤ 1048576) × (len ≤ length clog) × (8 ≤ len) × (starts clog_magic (take len clog) ≡ true)
      × (any_nonzero (take (base_under mark (length (drop 8 (take len clog))) / 4) (drop 8 (take len clog))) ≡ false) × (length (to_second mark (take len clog)) ≤ size)
  unfolding second_no
  second-means number e z =
      let a = passed (unfit 8 (length clog) len) 1 _ (lit< tt) (sym e ∙ z) in
      let b = passed (not (starts clog_magic (take len clog))) 23 _ (lit< tt) a.1 in
      let c = passed (any_nonzero (take (base_under mark (length (drop 8 (take len clog))) / 4) (drop 8 (take len clog)))) 22 _ (lit< tt) b.1 in
      let d = passed (ltb size (length (to_second mark (take len clog)))) 13 0 (lit< tt) c.1 in
      let f = fit-means 8 (length clog) len a.0 in
      (f.0, f.1, f.2, magic (starts clog_magic (take len clog)) b.0, c.0, ltb-false _ _ d.0)
    where
      magic : (x : Bool) → not x ≡ false → x ≡ true
      magic true p = refl
      magic false p = let z : ◌≡◌ {A = ℕ} 0 1 = cc in absurd (omega arith)

-- ---- the bytes of a move

pub header-laid : (base n : ℕ) (out out₁ out₂ : List ℕ) → out₁ ≡ sets out 0 (big_bytes 4 (9 + n)) → out₂ ≡ sets (set out₁ 4 2) 5 (big_bytes 8 base) → out₂ ≡ sets out 0 (second_header base n)
unfolding second_header
header-laid base n out out₁ out₂ p q = laid_next 0 4 (big_bytes 4 (9 + n)) (2 ∷ big_bytes 8 base) out out₁ out₂ (omega (arith, length-big_bytes 4 (9 + n))) p q

-- a part of the buffer inside the length is that part of the file
part_of : (a e len : ℕ) (l : List ℕ) → e ≤ len → take (e - a) (drop a (take len l)) ≡ take (e - a) (drop a l)
part_of a e len l h = ap (take (e - a)) (drop-take a len l) ∙ take-take (e - a) (len - a) (drop a l) (omega arith)

tail_of : (a len : ℕ) (l : List ℕ) → drop a (take len l) ≡ take (len - a) (drop a l)
tail_of a len l = drop-take a len l

module _ (mark len : ℕ) (clog : List ℕ) (fits : len ≤ length clog) (head : 8 ≤ len) where
  body-size : length (drop 8 (take len clog)) ≡ len - 8
  body-size = length-drop 8 (take len clog) ∙ ap (λ (n : ℕ). n - 8) (content-length (file_of clog len) fits)

  -- what is looked at for 22
  pub below-part : take (8 + base_under mark (len - 8) / 4 - 8) (drop 8 clog) ≡ take (base_under mark (len - 8) / 4) (drop 8 (take len clog))
  below-part =
      let e : 8 + base_under mark (len - 8) / 4 - 8 ≡ base_under mark (len - 8) / 4 = omega arith in
      sym (part_of 8 (8 + base_under mark (len - 8) / 4) len clog (omega (arith, under-within mark (len - 8)))) ∙ rw e

  second_parts : to_second mark (take len clog)
      ≡ second_header (base_under mark (len - 8)) (len - (8 + base_under mark (len - 8) / 4)) ++ take (len - (8 + base_under mark (len - 8) / 4)) (drop (8 + base_under mark (len - 8) / 4) clog)
  unfolding to_second second_form
  second_parts =
      let d : drop (base_under mark (len - 8) / 4) (drop 8 (take len clog)) ≡ take (len - (8 + base_under mark (len - 8) / 4)) (drop (8 + base_under mark (len - 8) / 4) clog) =
      drop-drop (base_under mark (len - 8) / 4) 8 (take len clog) ∙ tail_of (8 + base_under mark (len - 8) / 4) len clog in
      let n : length (drop (base_under mark (len - 8) / 4) (drop 8 (take len clog))) ≡ len - (8 + base_under mark (len - 8) / 4) =
      length-drop (base_under mark (len - 8) / 4) (drop 8 (take len clog)) ∙ rw body-size (omega arith) in
      rw (body-size, n, d)

  pub second-done : (out out₁ out₂ : List ℕ) → 0 ≡ second_no mark (file_of clog len) (length out)
      → out₁ ≡ sets out 0 (second_header (base_under mark (len - 8)) (len - (8 + base_under mark (len - 8) / 4)))
      → out₂ ≡ sets out₁ 13 (take (len - (8 + base_under mark (len - 8) / 4)) (drop (8 + base_under mark (len - 8) / 4) clog))
      → outcome (Ok (13 + (len - (8 + base_under mark (len - 8) / 4)))) out₂ ≡ moved_second mark (file_of clog len) out
  unfolding moved_second
  second-done out out₁ out₂ e p q =
      move-done _ _ out (to_second mark (take len clog)) out₂ e
      (rw second_parts
      (laid_next 0 13 (second_header (base_under mark (len - 8)) (len - (8 + base_under mark (len - 8) / 4)))
      (take (len - (8 + base_under mark (len - 8) / 4)) (drop (8 + base_under mark (len - 8) / 4) clog)) out out₁ out₂
      (omega (arith, length-header (base_under mark (len - 8)) (len - (8 + base_under mark (len - 8) / 4)))) p q))
      (sym (length-second mark (take len clog) ∙ rw (content-length (file_of clog len) fits) (omega arith)))

-- ---- to the old form

module _ (f : File) (size : ℕ) where
  module _ (e : 0 ≡ form_no f 0) where
    first-size : length (to_first (content f)) ≡ 8 + base_of (content f) / 4 + (f.len - 13)
    first-size = length-first (content f) ∙ rw (content-length f (form-means f 0 e refl).1)

    pub first_short : min 1048576 size < 8 + base_of (content f) / 4 + (f.len - 13) → first_no f size ≡ 13
    unfolding first_no
    first_short h = (form-means f 0 e refl).3 _ ∙ rw (first-size, lt-ltb (min 1048576 size) (8 + base_of (content f) / 4 + (f.len - 13)) h)

    pub first-room : 8 + base_of (content f) / 4 + (f.len - 13) ≤ min 1048576 size → first_no f size ≡ 0
    unfolding first_no
    first-room h = (form-means f 0 e refl).3 _ ∙ rw (first-size, le-ltb (min 1048576 size) (8 + base_of (content f) / 4 + (f.len - 13)) h)

  -- what a number that is 0 says
  pub first-means : (number : ℕ) → number ≡ first_no f size → number ≡ 0
      → (room f ≤ 1048576) × (f.len ≤ room f) × (misfits (content f) ≡ false) × (13 ≤ f.len) × (8 + base_of (content f) / 4 + (f.len - 13) ≤ min 1048576 size)
  unfolding first_no form_no
  first-means number e z =
      let p = passed (files.unfit 1048576 (room f) f.len) 1 _ (lit< tt) (sym e ∙ z) in
      let q = passed (misfits (content f)) 23 _ (lit< tt) p.1 in
      let r = passed (ltb (min 1048576 size) (length (to_first (content f)))) 13 0 (lit< tt) q.1 in
      let m = file-laws.fit-means 1048576 (room f) f.len p.0 in
      let n = content-length f m.1 in
      let l : 13 ≤ f.len = omega (arith, n, fits-means (content f) q.0) in
      let s : length (to_first (content f)) ≡ 8 + base_of (content f) / 4 + (f.len - 13) = length-first (content f) ∙ rw n in
      let w : length (to_first (content f)) ≤ min 1048576 size = ltb-false _ _ r.0 in
      (m.0, m.1, q.0, l, omega arith)

module _ (len : ℕ) (second : List ℕ) (fits : len ≤ length second) where
  pub first_done : (out out₁ out₂ out₃ : List ℕ) → 0 ≡ first_no (file_of second len) (length out)
      → out₁ ≡ sets out 0 clog_magic → out₂ ≡ sets out₁ 8 (replicate (8 + base_of (take len second) / 4 - 8) 0)
      → out₃ ≡ sets out₂ (8 + base_of (take len second) / 4) (take (len - 13) (drop 13 second))
      → outcome (Ok (8 + base_of (take len second) / 4 + (len - 13))) out₃ ≡ moved_first (file_of second len) out
  unfolding moved_first to_first
  first_done out out₁ out₂ out₃ e p q r =
      let k : 8 + base_of (take len second) / 4 - 8 ≡ base_of (take len second) / 4 = omega arith in
      let n : length {A = ℕ} (replicate (base_of (take len second) / 4) 0) ≡ base_of (take len second) / 4 = length-replicate (base_of (take len second) / 4) 0 in
      let a : out₂ ≡ sets out 0 (clog_magic ++ replicate (base_of (take len second) / 4) 0) = laid_next 0 8 clog_magic _ out out₁ out₂ (omega (arith, magic-long)) p (rw k at q) in
      let m : 8 + base_of (take len second) / 4 ≡ 0 + length (clog_magic ++ replicate (base_of (take len second) / 4) 0) = rw (length-append, magic-long, n) (omega arith) in
      let b : out₃ ≡ sets out 0 ((clog_magic ++ replicate (base_of (take len second) / 4) 0) ++ take (len - 13) (drop 13 second)) =
      laid_next 0 (8 + base_of (take len second) / 4) (clog_magic ++ replicate (base_of (take len second) / 4) 0) (take (len - 13) (drop 13 second)) out out₂ out₃ m a r in
      let t : take (len - 13) (drop 13 second) ≡ drop 13 (take len second) = sym (tail_of 13 len second) in
      move-done _ _ out (to_first (take len second)) out₃ e
      (b ∙ rw (t, append_assoc clog_magic (replicate (base_of (take len second) / 4) 0) (drop 13 (take len second))))
      (sym (length-first (take len second) ∙ rw (content-length (file_of second len) fits)))

-- ---- in the second form

module _ (bytes : List ℕ) (len : ℕ) where
  -- refused before the call itself
  module _ (r : Refusal) (e : number_of r ≡ form_no (file_of bytes len) 0) where
    pub recorded-no : (id c : ℕ) → outcome (Err r) bytes ≡ recorded_second (file_of bytes len) id c
    unfolding recorded_second
    recorded-no id c = outcome-refused r _ (file_of bytes len) _ bytes (sym (form-other (file_of bytes len) _ r e)) refl

    pub compacted-no : (w : ℕ) → outcome (Err r) bytes ≡ compacted_second (file_of bytes len) w
    unfolding compacted_second
    compacted-no w = outcome-refused r _ (file_of bytes len) _ bytes (sym e) refl

    pub loaded-no : (N : ℕ) → load_outcome (record { answer = Err r; table = empty_table N }) bytes ≡ loaded_second N (file_of bytes len)
    unfolding loaded_second
    loaded-no N =
        let g = form-other (file_of bytes len) (load_no N 13 (file_of bytes len)) r e in
        load-made N _ _ (file_of bytes len) (settled 13 (file_of bytes len)) (outcome (Err r) bytes) (empty_table N)
        (outcome-refused r _ (file_of bytes len) _ bytes (sym g) refl)
        (table-none N (number_of r) _ (entries_in 13 (base_of (take len bytes)) (take len bytes)) (number-positive r) g)

  module _ (e : 0 ≡ form_no (file_of bytes len) 0) where
    pub form-head : 13 ≤ len
    form-head =
        let m = form-means (file_of bytes len) 0 e refl in
        omega (arith, content-length (file_of bytes len) m.1, (fits-means (take len bytes) m.2).long)

    -- clog's call is the call
    pub compacted-done : (a : Result ℕ Refusal) (w base : ℕ) (bs : List ℕ) → base ≡ base_of (take len bytes) → outcome a bs ≡ compacted 13 base (file_of bytes len) w → outcome a bs ≡ compacted_second (file_of bytes len) w
    unfolding compacted compacted_second
    compacted-done a w base bs b o =
        let m = form-means (file_of bytes len) 0 e refl in
        let k : compact_no 13 (length bytes) len ≡ 0 = compact-ok 13 (length bytes) len m.0 m.1 form-head in
        o ∙ rw (k, b, sym e)

    pub loaded-done : (N : ℕ) (a : Loaded) (base : ℕ) (bs : List ℕ) → base ≡ base_of (take len bytes) → load_outcome a bs ≡ loaded N 13 base (file_of bytes len) → load_outcome a bs ≡ loaded_second N (file_of bytes len)
    unfolding loaded loaded_second
    loaded-done N a base bs b o =
        let m = form-means (file_of bytes len) 0 e refl in
        o ∙ rw (b, m.3 (load_no N 13 (file_of bytes len)))

    module _ (id c base : ℕ) (b : base ≡ base_of (take len bytes)) where
      abbrev new : File
      new = set_slot 13 (id - base) c (file_of bytes len)

      same-no : (k : ℕ) → k ≡ record_no 13 base id (length bytes) len → k ≡ form_no (file_of bytes len) (record_no 13 (base_of (take len bytes)) id (length bytes) len)
      same-no k q = q ∙ rw b (sym ((form-means (file_of bytes len) 0 e refl).3 _))

      -- clog's refusal is that of the call
      pub record-refused : (r : Refusal) (bs : List ℕ) → outcome (Err r) bs ≡ recorded 13 base (file_of bytes len) id c → outcome (Err r) bs ≡ recorded_second (file_of bytes len) id c
      unfolding recorded recorded_second
      record-refused r bs o =
          let p = refused-file r _ (file_of bytes len) new bs o in
          outcome-refused r _ (file_of bytes len) _ bs (sym (same-no _ (sym p.0))) p.1

      module _ (n : ℕ) (bs : List ℕ) (o : outcome (Ok n) bs ≡ recorded 13 base (file_of bytes len) id c) where
        told : (record_no 13 base id (length bytes) len ≡ 0) × (file_of bs n ≡ new)
        unfolding recorded
        told = accepted-file (record_no 13 base id (length bytes) len) n (file_of bytes len) new bs (ap (λ (x : Outcome). x.told) (sym o)) (ap (λ (x : Outcome). x.bytes) (sym o))

        -- an accepted record tells a length that a field of 4 bytes holds
        pub told-length : (13 ≤ n) × (n ≤ 1048576)
        told-length =
            let g = record-fits 13 base id (length bytes) len _ refl told.0 in
            let l = ap (λ (x : File). x.len) told.1 ∙ record-len 13 (id - base) c (file_of bytes len) in
            (omega arith, omega arith)

        pub record-accepted : (buf : List ℕ) → buf ≡ sets bs 0 (big_bytes 4 (n - 4)) → outcome (Ok n) buf ≡ recorded_second (file_of bytes len) id c
        unfolding recorded_second relength
        record-accepted buf q =
            let l : n ≡ new.len = ap (λ (x : File). x.len) told.1 in
            let s : bs ≡ new.bytes = ap (λ (x : File). x.bytes) told.1 in
            outcome-accepted n _ (file_of bytes len) _ buf (sym (same-no 0 (sym told.0))) (rw (q, s, l, b))
