-- Laws of the table's entries as they are told: the ways out of the code. Assumes nothing.
use Prim.Native.Nat.{ℕ, ◌≤◌, ◌<◌}
use native.Mathlib.Omega.{arith}
use mathlib.Core.Path.{◌≡◌}
use mathlib.Core.List.{List, [], ◌∷◌}
use lib.ListN.{length, take, drop, get_or}
use Rattle.sorted.proofs.Laws.{front, done}
use Rattle.std.specs.Prelude.{Option, Result}
use Rattle.std.specs.Result.{IsErr, IsErrAnd}
use Rattle.fields.specs.declared.refusal.Refusal.{Refusal}
use Rattle.fields.specs.Refusals.{number_of}
use Rattle.fields.proofs.AnswerLaws.{handed-on}
use Rattle.table.specs.declared.Entry.{Entry}
use Rattle.table.specs.Entries.{blank}
use Rattle.world.specs.Refusals.{front_no}
use Rattle.form.specs.declared.Store.{Store}
use Rattle.form.specs.Store.{entries_of, mem_of, world_of}
use Rattle.form.proofs.Arrays.{Sized, length-first}
use Rattle.form.proofs.Front.{front-means, entries-are}
use Rattle.quiet.specs.Entries.{EntryCount, count_told, entries_counted, EntryTold, entry_told, entry_read}
use Rattle.quiet.proofs.Refused.{decided-refused}

module _ (P : ℕ) (s : Store) (log db clog frames : List ℕ) where
  pub count-refused : (x : Result ℕ Refusal) (r : Refusal) → IsErr x × IsErrAnd x (λ e. e ≡ r) → number_of r ≡ front_no P (world_of s log db clog frames) →
      count_told x ≡ entries_counted P s log db clog frames
  unfolding entries_counted world_of mem_of
  count-refused x r h e =
      rw (
        handed-on x r h,
        ← e,
        decided-refused (length (entries_of s.table)) 0 r,
      )

  pub read-refused : (i : ℕ) (x : Result (Option Entry) Refusal) (r : Refusal) → IsErr x × IsErrAnd x (λ e. e ≡ r) →
      number_of r ≡ front_no P (world_of s log db clog frames) → entry_told x ≡ entry_read P i s log db clog frames
  unfolding entry_read world_of mem_of
  read-refused i x r h e =
      rw (
        handed-on x r h,
        ← e,
        decided-refused (take 1 (drop i (entries_of s.table))) [] r,
      )

  module _ (e0 : front_no P (world_of s log db clog frames) ≡ 0) where
    -- the list is as long as the count
    pub count-out : ◌≡◌ {A = EntryCount} (record { number = 0; entries = s.table.count }) (entries_counted P s log db clog frames)
    unfolding entries_counted world_of mem_of
    count-out = rw (e0, length-first blank s.table.count s.table.entries)

    -- a count in form lies inside the array
    pub in_array : (i : ℕ) → i < s.table.count → i < 256
    in_array i h = omega (arith, (front-means P s log db clog frames e0).entries)

    module _ (z : Sized s) (i : ℕ) where
      pub read_past : s.table.count ≤ i → ◌≡◌ {A = EntryTold} (record { number = 0; entries = [] }) (entry_read P i s log db clog frames)
      unfolding entry_read world_of mem_of
      read_past h =
          rw (
            e0,
            entries-are P s log db clog frames (front-means P s log db clog frames e0) z,
            done s.table.entries s.table.count i (omega arith),
          )

      pub read_is : i < s.table.count →
          ◌≡◌ {A = EntryTold} (record { number = 0; entries = get_or s.table.entries i blank ∷ [] }) (entry_read P i s log db clog frames)
      unfolding entry_read world_of mem_of
      read_is h =
          rw (
            e0,
            entries-are P s log db clog frames (front-means P s log db clog frames e0) z,
            front s.table.entries s.table.count i blank h (omega (arith, z.entries, in_array i h)),
          )
