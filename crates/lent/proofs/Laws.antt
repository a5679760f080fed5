-- Laws of a store in lent arrays: its form, what a refusal leaves, and that a store in form laid where it stands changes nothing. Assumes nothing.
use Prim.Native.Nat.{ℕ, zero, suc, ◌≤◌, ◌<◌}
use native.Mathlib.Omega.{arith}
use mathlib.Core.Path.{◌≡◌, refl, sym, ap, ◌∙◌}
use mathlib.Core.List.{List, map}
use mathlib.Core.Bool.{Bool, true, false, cond, not, ◌||◌, ◌&&◌}
use lib.ListN.{length, length-map, take}
use lib.Dec.{ltb, eqb}
use borrow.Author.Tests.{ltb-false, eqb-true, le-leb, lt-leb, lt-ltb, le-ltb}
use Rattle.fields.specs.declared.TransactionId.{TransactionId}
use Rattle.fields.specs.Answers.{no_id}
use Rattle.fields.proofs.Tests.{neither, passed, Order, less, most, order}
use Rattle.sorted.specs.Sorted.{laid_on}
use Rattle.sorted.proofs.Laws.{laid-own}
use Rattle.table.specs.Entries.{list_of, well_formed}
use Rattle.rows.specs.Rows.{row_of, any_odd, entry_of}
use Rattle.rows.specs.Inside.{bad_rows}
use Rattle.rows.proofs.Laws.{map_first, sound-all, bad-is}
use Rattle.frames.specs.Pages.{frames_formed, touched_formed}
use Rattle.world.specs.World.{files_of}
use Rattle.world.specs.Calls.{Call}
use Rattle.world.specs.Refusals.{front_no, bad_buffers}
use Rattle.form.specs.Store.{world_of, Outcome, outcome, called}
use Rattle.form.specs.Inside.{out_of_form}
use Rattle.form.proofs.Arrays.{Sized}
use Rattle.form.proofs.Front.{form-is, front-is, InForm, front-means, few-frames}
use Rattle.form.proofs.Called.{refused-front}
use Rattle.lent.specs.Lent.{Lent, slot_in, store_of, odd_head, odd, held_of, own_of, head_of, laid_lent, leaving, left_of, odd_no, unless_odd, called_lent}

-- the arrays have their sizes
pub record Fit (s : Lent) : Type 0 where
  pub rows : length s.rows ≡ 256
  pub resident : length s.resident ≡ 64
  pub touched : length s.touched ≡ 64

-- ---- the first test

pub front-lent : (P : ℕ) (s : Lent) (log db clog frames : List ℕ) → front_no P (world_of (store_of s) log db clog frames) ≡
    cond (bad_buffers P (files_of s.head.lens log db clog) frames) 1 (cond (out_of_form P (store_of s) (length frames)) 14 0)
unfolding store_of
front-lent P s log db clog frames = front-is P (store_of s) log db clog frames

-- 1, then 14 for one reason or the other
pub front-all : (P : ℕ) (s : Lent) (log db clog frames : List ℕ) →
    unless_odd P s log db clog frames (λ n. n) (front_no P (world_of (store_of s) log db clog frames)) ≡
    cond (bad_buffers P (files_of s.head.lens log db clog) frames) 1 (cond (odd s || out_of_form P (store_of s) (length frames)) 14 0)
unfolding odd_no
front-all P s log db clog frames = rw (front-lent P s log db clog frames) (go (odd s) (bad_buffers P (files_of s.head.lens log db clog) frames) _)
  where
    go : (b c d : Bool) → ◌≡◌ {A = ℕ} (cond b (cond c 1 14) (cond c 1 (cond d 14 0))) (cond c 1 (cond (b || d) 14 0))
    go true true d = refl
    go true false d = refl
    go false c d = refl

-- what passing it says
pub front-passed : (P : ℕ) (s : Lent) (log db clog frames : List ℕ) (n : ℕ) →
    n ≡ unless_odd P s log db clog frames (λ k. k) (front_no P (world_of (store_of s) log db clog frames)) → n ≡ 0 →
    (odd s ≡ false) × (front_no P (world_of (store_of s) log db clog frames) ≡ 0)
unfolding odd_no
front-passed P s log db clog frames n e h =
    passed (odd s) (cond (bad_buffers P (files_of s.head.lens log db clog) frames) 1 14) _ (some (bad_buffers P (files_of s.head.lens log db clog) frames)) (sym e ∙ h)
  where
    some : (b : Bool) → 0 < cond b 1 14
    some true = omega arith
    some false = omega arith

module _ (s : Lent) (z : Fit s) where
  pub sized : Sized (store_of s)
  unfolding store_of
  sized = record { entries = length-map s.rows entry_of ∙ z.rows; pages = z.resident; touched = z.touched }

  pub form-lent : (P size : ℕ) →
      out_of_form P (store_of s) size ≡
      (ltb s.head.lens.log 8 || (ltb s.head.lens.clog 8 ||
      (not (well_formed 256 (store_of s).table) || (not (touched_formed 64 (record { pages = s.touched; count = s.head.touched })) ||
      not (frames_formed 64 P (record { pages = s.resident; count = s.head.resident }) size)))))
  unfolding store_of
  form-lent P size = form-is P (store_of s) size sized

  -- in the order in which the code tests
  pub bad-lent : (P size : ℕ) →
      (odd s || out_of_form P (store_of s) size) ≡
      (odd_head s.head || (ltb s.head.lens.log 8 || (ltb s.head.lens.clog 8 ||
      ((any_odd (take s.head.entries s.rows) || not (well_formed 256 (store_of s).table)) ||
      (not (touched_formed 64 (record { pages = s.touched; count = s.head.touched })) ||
      not (frames_formed 64 P (record { pages = s.resident; count = s.head.resident }) size))))))
  unfolding odd
  bad-lent P size =
      rw (form-lent P size)
      (go (odd_head s.head) (any_odd (take s.head.entries s.rows)) (ltb s.head.lens.log 8) (ltb s.head.lens.clog 8) (not (well_formed 256 (store_of s).table))
      (not (touched_formed 64 (record { pages = s.touched; count = s.head.touched })) || not (frames_formed 64 P (record { pages = s.resident; count = s.head.resident }) size)))
    where
      go : (o a l k w r : Bool) → ((o || a) || (l || (k || (w || r)))) ≡ (o || (l || (k || ((a || w) || r))))
      go true a l k w r = refl
      go false true true k w r = refl
      go false true false true w r = refl
      go false true false false w r = refl
      go false false l k w r = refl

  pub rows-over : 256 < s.head.entries → (any_odd (take s.head.entries s.rows) || not (well_formed 256 (store_of s).table)) ≡ true
  unfolding store_of well_formed
  rows-over h = rw (lt-leb s.head.entries 256 h) (go (any_odd (take s.head.entries s.rows)))
    where
      go : (a : Bool) → (a || true) ≡ true
      go true = refl
      go false = refl

  pub rows-bad : s.head.entries ≤ 256 →
      (any_odd (take s.head.entries s.rows) || not (well_formed 256 (store_of s).table)) ≡ bad_rows (take s.head.entries s.rows)
  unfolding store_of well_formed
  rows-bad h =
      rw (le-leb s.head.entries 256 h, ← map_first s.head.entries s.rows) (sym (bad-is (take s.head.entries s.rows)))

  -- both tests of the rows
  rows-test : (any_odd (take s.head.entries s.rows) || not (well_formed 256 (store_of s).table)) ≡ (ltb 256 s.head.entries || bad_rows (take s.head.entries s.rows))
  rows-test = go (order 256 s.head.entries)
    where
      go : Order 256 s.head.entries → (any_odd (take s.head.entries s.rows) || not (well_formed 256 (store_of s).table)) ≡ (ltb 256 s.head.entries || bad_rows (take s.head.entries s.rows))
      go (less h) = rows-over h ∙ rw (lt-ltb 256 s.head.entries h)
      go (most h) = rows-bad h ∙ rw (le-ltb 256 s.head.entries h)

  pub bad-tests : (P size : ℕ) →
      (odd s || out_of_form P (store_of s) size) ≡
      (odd_head s.head || (ltb s.head.lens.log 8 || (ltb s.head.lens.clog 8 || ((ltb 256 s.head.entries || bad_rows (take s.head.entries s.rows)) ||
      (not (touched_formed 64 (record { pages = s.touched; count = s.head.touched })) ||
      not (frames_formed 64 P (record { pages = s.resident; count = s.head.resident }) size))))))
  bad-tests P size = bad-lent P size ∙ rw rows-test

-- ---- what a refusal leaves

module _ (P : ℕ) (c : Call) (s : Lent) (log db clog frames : List ℕ) where
  pub odd-left : odd s ≡ true → leaving (odd_no P s log db clog frames) s log db clog frames ≡ called_lent P c s log db clog frames
  unfolding called_lent
  odd-left e = rw e

  -- by the outcome of the call on the store that stands there
  pub by-outcome : odd s ≡ false → (o : Outcome) → o ≡ called P c (store_of s) log db clog frames → left_of s o ≡ called_lent P c s log db clog frames
  unfolding called_lent
  by-outcome e o f = rw e (ap (left_of s) f)

  pub refused-left : odd s ≡ false → (n : ℕ) → (n ≡ 0 → ⊥) →
      outcome (record { number = n; store = store_of s }) log db clog frames ≡ called P c (store_of s) log db clog frames →
      leaving n s log db clog frames ≡ called_lent P c s log db clog frames
  unfolding left_of
  refused-left e zero h f = absurd (h refl)
  refused-left e (suc n) h f = by-outcome e _ f

  -- by the first test, whatever it says
  pub first-left : (n : ℕ) → n ≡ unless_odd P s log db clog frames (λ k. k) (front_no P (world_of (store_of s) log db clog frames)) → (n ≡ 0 → ⊥) →
      leaving n s log db clog frames ≡ called_lent P c s log db clog frames
  first-left n e h = go (odd s) refl
    where
      go : (b : Bool) → odd s ≡ b → leaving n s log db clog frames ≡ called_lent P c s log db clog frames
      go true f = let g : n ≡ odd_no P s log db clog frames = rw f at e in ap (λ (m : ℕ). leaving m s log db clog frames) g ∙ odd-left f
      go false f =
          let g : n ≡ front_no P (world_of (store_of s) log db clog frames) = rw f at e in
          refused-left f n h (refused-front P c (store_of s) (store_of s) log db clog frames n g h)

-- ---- a store in form, laid where it stands

held_back : (held : ℕ) (id : TransactionId) → (ltb 1 held || (eqb held 0 && not (eqb id.0 0))) ≡ false →
    (held_of (slot_in held id) ≡ held) × (own_of (slot_in held id) ≡ id)
held_back zero id h = go (eqb id.0 0) refl h
  where
    go : (b : Bool) → eqb id.0 0 ≡ b → not b ≡ false → (◌≡◌ {A = ℕ} 0 0) × (no_id ≡ id)
    go true q k = (refl, ap (λ (n : ℕ). record { 0 = n }) (sym (eqb-true id.0 0 q)))
    go false q k = let z : ◌≡◌ {A = ℕ} 0 1 = cc in absurd (omega arith)
held_back (suc zero) id h = (refl, refl)
held_back (suc (suc held)) id h =
    let k = neither (ltb 1 (suc (suc held))) _ h in
    absurd (omega (arith, ltb-false 1 (suc (suc held)) k.0))

module _ (s : Lent) (fine : odd s ≡ false) where
  parts : (odd_head s.head ≡ false) × (any_odd (take s.head.entries s.rows) ≡ false)
  unfolding odd
  parts = neither (odd_head s.head) (any_odd (take s.head.entries s.rows)) fine

  -- the head of the store that stands there
  pub head-back : head_of (store_of s) ≡ s.head
  unfolding store_of odd_head
  head-back =
      let a = neither (ltb 4294967295 s.head.pages) _ parts.0 in
      let b = held_back s.head.held s.head.id a.1 in
      rw (b.0, b.1)

  -- the rows that are held are the entries'
  pub rows_are : map row_of (list_of (store_of s).table) ≡ take s.head.entries s.rows
  unfolding store_of
  rows_are =
      ap (map row_of) (sym (map_first s.head.entries s.rows)) ∙ sound-all (take s.head.entries s.rows) parts.1

  pub rows_same : s.head.entries ≤ length s.rows → laid_on s.rows (map row_of (list_of (store_of s).table)) ≡ s.rows
  rows_same h = rw (rows_are) (laid-own s.rows s.head.entries h)

  module _ (z : Fit s) (P : ℕ) (log db clog frames : List ℕ) (e0 : front_no P (world_of (store_of s) log db clog frames) ≡ 0) where
    pub in-form : InForm P (store_of s) log db clog frames
    in-form = front-means P (store_of s) log db clog frames e0

    pub few-entries : s.head.entries ≤ 256
    unfolding store_of
    few-entries = in-form.entries

    pub few-touched : s.head.touched ≤ 64
    unfolding store_of
    few-touched = in-form.touched

    pub few-resident : s.head.resident ≤ 64
    unfolding store_of
    few-resident = few-frames P (store_of s) log db clog frames in-form

    pub resident-same : laid_on s.resident (take s.head.resident s.resident) ≡ s.resident
    resident-same = laid-own s.resident s.head.resident (omega (arith, few-resident, z.resident))

    pub touched-same : laid_on s.touched (take s.head.touched s.touched) ≡ s.touched
    touched-same = laid-own s.touched s.head.touched (omega (arith, few-touched, z.touched))

    pub laid_same : laid_lent s (store_of s) ≡ s
    unfolding laid_lent store_of
    laid_same = rw (head-back, rows_same (omega (arith, few-entries, z.rows)), resident-same, touched-same)
