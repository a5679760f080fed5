-- Laws of the table's entries as they are told: the ways out of the code. Assumes nothing.
use Prim.Native.Nat.{ℕ, zero, suc, ◌≤◌, ◌<◌}
use native.Mathlib.Omega.{arith}
use native.Mathlib.Nat.{not-suc-le-zero, le_of_suc-le-suc}
use mathlib.Core.Path.{◌≡◌, refl, sym}
use mathlib.Core.List.{List, [], ◌∷◌, map}
use mathlib.Core.Bool.{false}
use lib.ListN.{length, length-map, get_or, take, drop}
use Rattle.std.specs.Prelude.{Option, Result}
use Rattle.std.specs.Result.{IsErr, IsErrAnd}
use Rattle.fields.specs.declared.refusal.Refusal.{Refusal}
use Rattle.fields.specs.Refusals.{number_of}
use Rattle.fields.proofs.AnswerLaws.{handed-on}
use Rattle.sorted.proofs.Laws.{front, done}
use Rattle.table.specs.declared.Entry.{Entry}
use Rattle.table.specs.Entries.{blank}
use Rattle.rows.specs.Rows.{entry_of}
use Rattle.world.specs.Refusals.{front_no}
use Rattle.form.specs.Store.{mem_of, world_of}
use Rattle.form.proofs.Arrays.{length-first}
use Rattle.form.proofs.Front.{front-means, entries-are}
use Rattle.lent.specs.Lent.{Lent, store_of, odd}
use Rattle.lent.proofs.Laws.{Fit, sized, few-entries, front-passed}
use Rattle.quiet.specs.Entries.{EntryCount, count_told, EntryTold, entry_told}
use Rattle.quiet.proofs.Refused.{decided-refused}
use Rattle.still.specs.Entries.{first_no, entries_counted, entry_read}

row_at : (l : List (List ℕ)) (i : ℕ) → i < length l → get_or (map entry_of l) i blank ≡ entry_of (get_or l i [])
row_at [] i h = absurd (not-suc-le-zero h)
row_at (x ∷ l) zero h = refl
row_at (x ∷ l) (suc i) h = row_at l i (le_of_suc-le-suc h)

module _ (P : ℕ) (s : Lent) (log db clog frames : List ℕ) where
  module _ (r : Refusal) (e : number_of r ≡ first_no P s log db clog frames) where
    pub count-first : (x : Result ℕ Refusal) → IsErr x × IsErrAnd x (λ q. q ≡ r) → count_told x ≡ entries_counted P s log db clog frames
    unfolding entries_counted
    count-first x h = rw (handed-on x r h, ← e, decided-refused (length (mem_of (store_of s)).table) 0 r)

    pub read_first : (i : ℕ) (x : Result (Option Entry) Refusal) → IsErr x × IsErrAnd x (λ q. q ≡ r) → entry_told x ≡ entry_read P i s log db clog frames
    unfolding entry_read
    read_first i x h = rw (handed-on x r h, ← e, decided-refused (take 1 (drop i (mem_of (store_of s)).table)) [] r)

  module _ (ok : 0 ≡ first_no P s log db clog frames) where
    accepted : first_no P s log db clog frames ≡ 0
    accepted = sym ok

    fine : odd s ≡ false
    fine = (front-passed P s log db clog frames 0 ok refl).0

    e0 : front_no P (world_of (store_of s) log db clog frames) ≡ 0
    e0 = (front-passed P s log db clog frames 0 ok refl).1

    -- the list is as long as the count
    pub count-out : ◌≡◌ {A = EntryCount} (record { number = 0; entries = s.head.entries }) (entries_counted P s log db clog frames)
    unfolding entries_counted store_of mem_of
    count-out = rw (accepted, length-first blank s.head.entries (map entry_of s.rows))

    module _ (z : Fit s) (i : ℕ) where
      table_is : (mem_of (store_of s)).table ≡ take s.head.entries (map entry_of s.rows)
      unfolding store_of mem_of
      table_is = entries-are P (store_of s) log db clog frames (front-means P (store_of s) log db clog frames e0) (sized s z)

      pub read_past : s.head.entries ≤ i → ◌≡◌ {A = EntryTold} (record { number = 0; entries = [] }) (entry_read P i s log db clog frames)
      unfolding entry_read
      read_past h = rw (accepted, table_is, done (map entry_of s.rows) s.head.entries i (omega arith))

      pub read_is : (e : Entry) → e ≡ entry_of (get_or s.rows i []) → i < s.head.entries →
          ◌≡◌ {A = EntryTold} (record { number = 0; entries = e ∷ [] }) (entry_read P i s log db clog frames)
      unfolding entry_read
      read_is e f h =
          let few = few-entries s fine z P log db clog frames e0 in
          let inside : i < length s.rows = omega (arith, few, z.rows) in
          rw (
            accepted,
            table_is,
            front (map entry_of s.rows) s.head.entries i blank h (rw (length-map s.rows entry_of) inside),
            row_at s.rows i inside,
            f,
          )
