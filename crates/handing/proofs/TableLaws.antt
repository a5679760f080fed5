-- The table of a store that passes the tests of 1 and 14 is in form, and its entries are those of the store's world; so what `hand_after` gives is what the
-- call must give. Assumes nothing.
use mathlib.Core.Path.{◌≡◌, refl}
use Prim.Native.Nat.{ℕ, zero, suc, ◌≤◌}
use native.Mathlib.Omega.{arith}
use mathlib.Core.Bool.{true}
use mathlib.Core.List.{List}
use lib.ListN.{length}
use borrow.Author.Tests.{le-leb}
use Rattle.table.specs.declared.Entry.{Entry}
use Rattle.table.specs.declared.Table.{Table}
use Rattle.table.specs.Entries.{blank, list_of, ascending, well_formed}
use Rattle.world.specs.Refusals.{or_else, front_no}
use Rattle.form.specs.declared.Store.{Store}
use Rattle.form.specs.Store.{entries_of, mem_of, world_of}
use Rattle.form.proofs.Arrays.{length-first, first_fits}
use Rattle.form.proofs.Front.{front-means}
use Rattle.hands.specs.Handing.{handed_by, short_no, hand_no, handed}
use Rattle.handing.specs.Tables.{table_handed}

module _ (t : Table) (len : length t.entries ≡ 256) (few : t.count ≤ 256) where
  same : entries_of t ≡ list_of t
  same = first_fits blank t.count t.entries (omega (arith, len, few))

  formed : ascending (entries_of t) ≡ true → well_formed 256 t ≡ true
  unfolding well_formed
  formed up = let a : ascending (list_of t) ≡ true = rw (← same) up in rw (le-leb t.count 256 few, a)

  -- no number before
  passes : ascending (entries_of t) ≡ true → (slice : List Entry) →
      handed 256 t slice 0 ≡ handed_by (entries_of t) slice (short_no (length (entries_of t)) (length slice))
  unfolding handed hand_no
  passes up slice = rw (formed up, length-first blank t.count t.entries, same)

module _ (P : ℕ) (s : Store) (log db clog frames : List ℕ) (len : length s.table.entries ≡ 256) (slice : List Entry) where
  by_number : (k : ℕ) → front_no P (world_of s log db clog frames) ≡ k →
      handed 256 s.table slice k ≡ handed_by (entries_of s.table) slice (or_else k (short_no (length (entries_of s.table)) (length slice)))
  unfolding handed hand_no handed_by
  by_number zero e = let i = front-means P s log db clog frames e in passes s.table len i.entries i.rising slice
  by_number (suc k) e = refl

  pub table-handed : handed 256 s.table slice (front_no P (world_of s log db clog frames)) ≡ table_handed P s log db clog frames slice
  unfolding table_handed world_of mem_of
  table-handed = by_number (front_no P (world_of s log db clog frames)) refl
