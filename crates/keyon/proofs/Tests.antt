-- Laws for the ways out of `test`, over the page size P: the number of the opening is that of the first test that fails, and where none does both tables are held.
-- Assumes nothing.
use Prim.Native.Nat.{ℕ, zero, suc, ◌≤◌, ◌<◌}
use native.Mathlib.Omega.{arith}
use mathlib.Core.Path.{◌≡◌, refl, sym, ap, ◌∙◌}
use mathlib.Core.List.{List}
use mathlib.Core.Bool.{Bool, true, false, cond, ◌||◌}
use lib.ListN.{length}
use lib.Dec.{ltb}
use borrow.Author.Tests.{lt-ltb, le-ltb}
use Rattle.fields.proofs.Tests.{Order, less, most, order}
use Rattle.fields.specs.Files.{room}
use Rattle.fields.specs.Refusals.{number_in}
use Rattle.rows.specs.Rows.{Rowed, rowed}
use Rattle.rows.proofs.Several.{rows_of, holding, held_back}
use Rattle.meta.specs.Page.{format_no}
use Rattle.world.specs.World.{Files}
use Rattle.world.specs.Refusals.{or_else, bad_buffers}
use Rattle.world.proofs.FormLaws.{none_of}
use Rattle.opening.specs.Opening.{log_table, full_table, open_room_no, open_no}
use Rattle.opening.proofs.Tables.{log-within}
use Rattle.scan.proofs.Surveys.{clog-fits}
use Rattle.survey.specs.declared.Found.{Found}
use Rattle.survey.specs.Survey.{Survey, survey_of, found, surveyed}
use Rattle.survey.proofs.Logged.{logged-fits, logged-full}
use Rattle.keyon.specs.Inside.{Tested, room_by, joined, Tests}
use Rattle.keyon.proofs.Tables.{joined-fits, joined-full, joined-none}

or-first : (n m : ℕ) → (n ≡ 0 → ⊥) → or_else n m ≡ n
or-first zero m h = absurd (h refl)
or-first (suc n) m h = refl

module _ (P : ℕ) (f : Files) (frames : List ℕ) where
  -- refused: the tables do not matter
  stop : (r : Tested) (n : ℕ) (logged full : List (List ℕ)) → r ≡ record { number = n; logged = 0; full = 0 } → (n ≡ 0 → ⊥) → open_no P f frames ≡ n →
      Tests P f frames r logged full
  stop r n logged full e h k =
      let m : r.number ≡ n = ap (λ (x : Tested). x.number) e in
      (m ∙ sym k, λ z. absurd (h (sym m ∙ z)))

  pub test-unfit : (r : Tested) (logged full : List (List ℕ)) → r ≡ record { number = 1; logged = 0; full = 0 } → bad_buffers P f frames ≡ true → Tests P f frames r logged full
  unfolding open_no
  test-unfit r logged full e b = stop r 1 logged full e (λ z. omega arith) (rw b)

  module _ (b : bad_buffers P f frames ≡ false) where
    pub test-format : (r : Tested) (n : ℕ) (logged full : List (List ℕ)) → r ≡ record { number = n; logged = 0; full = 0 } → n ≡ format_no P f.db → (n ≡ 0 → ⊥) → Tests P f frames r logged full
    unfolding open_no
    test-format r n logged full e k h = stop r n logged full e h (rw (b, ← k) (or-first n _ h))

    module _ (z : format_no P f.db ≡ 0) (s : Found) (old logged : List (List ℕ)) (e : survey_of s logged ≡ surveyed P (room f.db) (room f.clog) f.log old) where
      is_found : survey_of s logged ≡ found P (room f.db) (room f.clog) f.log old
      unfolding bad_buffers surveyed
      is_found = e ∙ rw (none_of _ 0 b)

      images-are : s.images ≡ (found P (room f.db) (room f.clog) f.log old).images
      images-are = ap (λ (x : Survey). x.images) is_found

      ids-are : s.ids ≡ (found P (room f.db) (room f.clog) f.log old).ids
      ids-are = ap (λ (x : Survey). x.ids) is_found

      room-is : open_room_no P f ≡ or_else (room_by s.images s.ids (room f.log) (room f.clog)) (cond (ltb 256 (length (full_table P f))) 7 0)
      unfolding open_room_no room_by found
      room-is =
          let k = found P (room f.db) (room f.clog) f.log old in
          rw (images-are, ids-are) (go (ltb (room f.log) 8) k.images (ltb (room f.clog) 8 || k.ids))
        where
          go : (x y w : Bool) → cond x 4 (cond y 5 (cond w 6 (cond (ltb 256 (length (full_table P f))) 7 0)))
              ≡ or_else (cond x 4 (cond y 5 (cond w 6 0))) (cond (ltb 256 (length (full_table P f))) 7 0)
          go true y w = refl
          go false true w = refl
          go false false true = refl
          go false false false = refl

      pub test-room : (r : Tested) (n : ℕ) (rows full : List (List ℕ)) → r ≡ record { number = n; logged = 0; full = 0 } →
          n ≡ room_by s.images s.ids (room f.log) (room f.clog) → (n ≡ 0 → ⊥) → Tests P f frames r rows full
      unfolding open_no
      test-room r n rows full g k h = stop r n rows full g h (rw (b, z, room-is, ← k, or-first n _ h) (or-first n _ h))

      module _ (y : room_by s.images s.ids (room f.log) (room f.clog) ≡ 0) (under : List (List ℕ)) (t : Rowed) (g : t ≡ joined s.held logged f.clog under) where
        held-is : length (log_table P f.log) ≤ 256 → rowed s.held logged ≡ holding old (log_table P f.log)
        unfolding found
        held-is h = ap (λ (x : Survey). x.held) is_found ∙ logged-fits P f.log old h

        held-full : 256 < length (log_table P f.log) → s.held.number ≡ 7
        unfolding found
        held-full h = ap (λ (x : Survey). x.held.number) is_found ∙ logged-full P f.log old h

        seven : 256 < length (full_table P f) → t.number ≡ 7
        seven p = go (order 256 (length (log_table P f.log)))
          where
            go : Order 256 (length (log_table P f.log)) → t.number ≡ 7
            go (less q) = joined-none P f (clog-fits P f frames b) under old s.held logged t g (λ n. omega (arith, held-full q))
            go (most q) = joined-full P f (clog-fits P f frames b) under old s.held logged t g (held-is q) p

        both : length (full_table P f) ≤ 256 → t ≡ holding under (full_table P f)
        both p = joined-fits P f (clog-fits P f frames b) under old s.held logged t g (held-is (omega (arith, log-within P f))) p

        pub test-full : (r : Tested) (rows full : List (List ℕ)) → r ≡ record { number = 7; logged = 0; full = 0 } → (t.number ≡ 0 → ⊥) → Tests P f frames r rows full
        unfolding open_no
        test-full r rows full q n = go (order 256 (length (full_table P f)))
          where
            go : Order 256 (length (full_table P f)) → Tests P f frames r rows full
            go (less p) = stop r 7 rows full q (λ x. omega arith) (rw (b, z, room-is, y, lt-ltb 256 (length (full_table P f)) p))
            go (most p) = absurd (n (ap (λ (x : Rowed). x.number) (both p)))

        module _ (n : t.number ≡ 0) where
          few : length (full_table P f) ≤ 256
          few = go (order 256 (length (full_table P f)))
            where
              go : Order 256 (length (full_table P f)) → length (full_table P f) ≤ 256
              go (most p) = p
              go (less p) = absurd (omega (arith, seven p, n))

          no-is : open_no P f frames ≡ number_in s.ending
          unfolding open_no found
          no-is = rw (b, z, room-is, y, le-ltb 256 (length (full_table P f)) few) (sym (ap (λ (x : Survey). x.ending) is_found))

          pub test-ending : (r : Tested) (rows full : List (List ℕ)) → r ≡ record { number = number_in s.ending; logged = 0; full = 0 } → (number_in s.ending ≡ 0 → ⊥) → Tests P f frames r rows full
          test-ending r rows full q h = stop r (number_in s.ending) rows full q h no-is

          pub test-passed : number_in s.ending ≡ 0 → Tests P f frames (record { number = 0; logged = s.held.count; full = t.count }) logged t.rows
          test-passed h =
              let k = held-is (omega (arith, few, log-within P f)) in
              let c : s.held.count ≡ length (log_table P f.log) = ap (λ (x : Rowed). x.count) k in
              let l : logged ≡ rows_of old (log_table P f.log) = ap (λ (x : Rowed). x.rows) k in
              let d : t.count ≡ length (full_table P f) = ap (λ (x : Rowed). x.count) (both few) in
              let u : t.rows ≡ rows_of under (full_table P f) = ap (λ (x : Rowed). x.rows) (both few) in
              (sym (no-is ∙ h), λ x. ((c, rw (c, l) (held_back old (log_table P f.log))), (d, rw (d, u) (held_back under (full_table P f)))))
