-- The two moves as functions of lists: sizes, there and back again, the slots and entries of both forms. z is how many bytes lie below the base, a fourth of it.
-- Assumes nothing.
use mathlib.Core.Path.{◌≡◌, refl, sym, ap, ◌∙◌}
use mathlib.Core.List.{List, [], ◌∷◌, ◌++◌, append_assoc}
use mathlib.Core.Bool.{true, false, not}
use Prim.Native.Nat.{ℕ, ◌+◌, ◌-◌, ◌*◌, ◌/◌, ◌%◌, ◌≤◌, ◌<◌, min}
use native.Mathlib.Omega.{arith}
use lib.Dec.{eqb}
use lib.ListN.{length, take, drop, get_or, replicate, length-append, length-drop, length-replicate, take-append-drop, get_or-append, get_or-replicate}
use lib.Seq.{drop_at, get_or-append-add, get_or-drop, length-take-le}
use borrow.Author.Tests.{eqb-true, not-false}
use Rattle.fields.specs.Bytes.{starts, Bytes}
use Rattle.fields.proofs.Tests.{neither}
use Rattle.fields.proofs.Stored.{starts-means}
use Rattle.clog.specs.Slots.{clog_magic, slot_of, entries_in}
use Rattle.clog.proofs.FourSlots.{bits-zero}
use Rattle.clog.proofs.ZeroLaws.{entries-zeros}
use Rattle.shrunk.specs.Form.{base_of, base_under, to_second, to_first, any_nonzero}
use Rattle.shrunk.proofs.FormLaws.{Fits, length-form, form-packed, form-base, form_of, form-fits}

pub magic-long : length clog_magic ≡ 8
unfolding clog_magic
magic-long = refl

-- ---- the base under a mark

module _ (mark n : ℕ) where
  pub under-is : min (mark / 4 * 4) (4 * n) ≡ base_under mark n
  unfolding base_under
  under-is = refl

  pub under-fourfold : base_under mark n % 4 ≡ 0
  unfolding base_under
  under-fourfold = omega arith

  pub under-within : base_under mark n / 4 ≤ n
  unfolding base_under
  under-within = omega arith

  pub under-most : base_under mark n ≤ 4 * n
  unfolding base_under
  under-most = omega arith

-- ---- sizes

pub length-second : (mark : ℕ) (old : List ℕ) → length (to_second mark old) ≡ 13 + (length old - 8 - base_under mark (length old - 8) / 4)
unfolding to_second
length-second mark old = rw (length-form, length-drop, length-drop)

pub length-first : (xs : List ℕ) → length (to_first xs) ≡ 8 + base_of xs / 4 + (length xs - 13)
unfolding to_first
length-first xs =
    let n : length {A = ℕ} (replicate (base_of xs / 4) 0) ≡ base_of xs / 4 = length-replicate (base_of xs / 4) 0 in
    rw (length-append, magic-long, length-append, length-drop, n) (omega arith)

-- ---- bytes that are all 0

pub zeros-are : (xs : List ℕ) → any_nonzero xs ≡ false → xs ≡ replicate (length xs) 0
unfolding any_nonzero
zeros-are [] h = refl
zeros-are (x ∷ xs) h =
    let p = neither (not (eqb x 0)) (any_nonzero xs) h in
    let z : x ≡ 0 = eqb-true x 0 (not-false (eqb x 0) p.0) in
    rw z (ap (λ (l : List ℕ). 0 ∷ l) (zeros-are xs p.1))

-- ---- there and back

module _ (mark : ℕ) (old : List ℕ) (magic : starts clog_magic old ≡ true) (short : length old ≤ 1048576) where
  old-parts : old ≡ clog_magic ++ drop 8 old
  old-parts = rw magic-long at (starts-means clog_magic old magic)

  base-small : base_under mark (length (drop 8 old)) ≤ 4194272
  base-small = let n : length (drop 8 old) ≡ length old - 8 = length-drop 8 old in omega (arith, under-most mark (length (drop 8 old)))

  pub second-base : base_of (to_second mark old) ≡ base_under mark (length (drop 8 old))
  unfolding to_second
  second-base = form-base (base_under mark (length (drop 8 old))) (drop (base_under mark (length (drop 8 old)) / 4) (drop 8 old)) (omega (arith, base-small))

  pub second_fits : Fits (to_second mark old)
  unfolding to_second
  second_fits =
      let n : length (drop 8 old) ≡ length old - 8 = length-drop 8 old in
      let m : length (drop (base_under mark (length (drop 8 old)) / 4) (drop 8 old)) ≡ length (drop 8 old) - base_under mark (length (drop 8 old)) / 4 =
      length-drop (base_under mark (length (drop 8 old)) / 4) (drop 8 old) in
      form-fits (base_under mark (length (drop 8 old))) (drop (base_under mark (length (drop 8 old)) / 4) (drop 8 old))
      (under-fourfold mark (length (drop 8 old))) base-small (omega arith)

  pub old-back : any_nonzero (take (base_under mark (length (drop 8 old)) / 4) (drop 8 old)) ≡ false → to_first (to_second mark old) ≡ old
  unfolding to_first
  old-back h =
      let p : drop 13 (to_second mark old) ≡ drop (base_under mark (length (drop 8 old)) / 4) (drop 8 old) =
      unfold to_second in form-packed (base_under mark (length (drop 8 old))) (drop (base_under mark (length (drop 8 old)) / 4) (drop 8 old)) in
      let l : length (take (base_under mark (length (drop 8 old)) / 4) (drop 8 old)) ≡ base_under mark (length (drop 8 old)) / 4 =
      length-take-le (base_under mark (length (drop 8 old)) / 4) (drop 8 old) (under-within mark (length (drop 8 old))) in
      let z : replicate (base_under mark (length (drop 8 old)) / 4) 0 ≡ take (base_under mark (length (drop 8 old)) / 4) (drop 8 old) =
      sym (rw l at (zeros-are (take (base_under mark (length (drop 8 old)) / 4) (drop 8 old)) h)) in
      rw (second-base, p, z, take-append-drop (base_under mark (length (drop 8 old)) / 4) (drop 8 old)) (sym old-parts)

-- ---- what stands in the old form of a file of the second

module _ (xs : List ℕ) where
  pub first_body : drop 8 (to_first xs) ≡ replicate (base_of xs / 4) 0 ++ drop 13 xs
  unfolding to_first
  first_body = drop_at clog_magic (replicate (base_of xs / 4) 0 ++ drop 13 xs) 8 magic-long

  -- the bytes before the packed ones, and those
  front_long : length (clog_magic ++ replicate (base_of xs / 4) 0) ≡ 8 + base_of xs / 4
  front_long = rw (length-append, magic-long, length-replicate)

  first-split : to_first xs ≡ (clog_magic ++ replicate (base_of xs / 4) 0) ++ drop 13 xs
  unfolding to_first
  first-split = sym (append_assoc clog_magic (replicate (base_of xs / 4) 0) (drop 13 xs))

  pub first-front : (i : ℕ) → i < 8 + base_of xs / 4 → get_or (to_first xs) i 0 ≡ get_or (clog_magic ++ replicate (base_of xs / 4) 0) i 0
  first-front i h = rw first-split (get_or-append (clog_magic ++ replicate (base_of xs / 4) 0) (drop 13 xs) 0 i (rw front_long h))

  pub first-packed : (j : ℕ) → get_or (to_first xs) (8 + base_of xs / 4 + j) 0 ≡ get_or xs (13 + j) 0
  first-packed j =
      rw first-split
      (ap (λ (k : ℕ). get_or ((clog_magic ++ replicate (base_of xs / 4) 0) ++ drop 13 xs) (k + j) 0) (sym front_long)
      ∙ get_or-append-add (clog_magic ++ replicate (base_of xs / 4) 0) (drop 13 xs) j 0 ∙ get_or-drop 13 xs j 0)

  first-zero : (j : ℕ) → j < base_of xs / 4 → get_or (to_first xs) (8 + j) 0 ≡ 0
  first-zero j h =
      first-front (8 + j) (omega arith)
      ∙ ap (λ (k : ℕ). get_or (clog_magic ++ replicate (base_of xs / 4) 0) (k + j) 0) (sym magic-long)
      ∙ get_or-append-add clog_magic (replicate (base_of xs / 4) 0) j 0 ∙ get_or-replicate (base_of xs / 4) j 0 0 h

  module _ (fourfold : base_of xs % 4 ≡ 0) where
    -- an id below the base is absent, and another has its slot in both
    pub slot-below : (id : ℕ) → id < base_of xs → slot_of 8 (to_first xs) id ≡ 0
    unfolding slot_of
    slot-below id h = rw (first-zero (id / 4) (omega arith)) (bits-zero (id % 4) (omega arith))

    pub slot-above : (id : ℕ) → base_of xs ≤ id → slot_of 8 (to_first xs) id ≡ slot_of 13 xs (id - base_of xs)
    unfolding slot_of
    slot-above id h =
        let p : 8 + id / 4 ≡ 8 + base_of xs / 4 + (id - base_of xs) / 4 = omega arith in
        let m : id % 4 ≡ (id - base_of xs) % 4 = omega arith in
        rw (p, m, first-packed ((id - base_of xs) / 4))

    pub entries-same : entries_in 8 0 (to_first xs) ≡ entries_in 13 (base_of xs) xs
    unfolding entries_in
    entries-same =
        let e : 0 + 4 * (base_of xs / 4) ≡ base_of xs = omega arith in
        rw first_body (entries-zeros (base_of xs / 4) 0 (drop 13 xs) ∙ rw e)

-- ---- and there again, if the base is the one that the rule gives

pub second_back : (mark : ℕ) (xs : List ℕ) → Fits xs → Bytes xs → base_of xs ≡ base_under mark (length (drop 8 (to_first xs))) → to_second mark (to_first xs) ≡ xs
unfolding to_second
second_back mark xs f b e =
    let n : length {A = ℕ} (replicate (base_of xs / 4) 0) ≡ base_of xs / 4 = length-replicate (base_of xs / 4) 0 in
    let p : drop (base_of xs / 4) (drop 8 (to_first xs)) ≡ drop 13 xs = rw first_body (drop_at (replicate (base_of xs / 4) 0) (drop 13 xs) (base_of xs / 4) n) in
    rw (← e, p) (form_of xs f b)
