-- Laws of install, uninstall and the allocations: their numbers, and what they leave where they are accepted. Assumes nothing.
use Prim.Native.Nat.{ℕ, ◌+◌, ◌≤◌, ◌<◌}
use native.Mathlib.Omega.{arith}
use mathlib.Core.Path.{◌≡◌, refl}
use mathlib.Core.List.{List}
use mathlib.Core.Bool.{true, false}
use lib.ListN.{length}
use borrow.Author.Tests.{le-leb, lt-leb}
use Rattle.table.specs.Entries.{next64}
use Rattle.frames.specs.declared.Transaction.{Transaction}
use Rattle.world.specs.declared.Slot.TheVariants.{Installed, Empty}
use Rattle.world.specs.Steps.{apply_all}
use Rattle.world.specs.Calls.{Uninstall, AllocId, AllocPage, steps, keeps}
use Rattle.world.specs.Refusals.{bad_touched, is_installed, argument_no, call_no, front_no}
use Rattle.world.specs.Run.{done}
use Rattle.form.specs.declared.Store.{Store}
use Rattle.form.specs.Store.{no_held, touched_of, mem_of, world_of, laid_store, outcome, called, called_on, with_array, installed, given}
use Rattle.form.proofs.Arrays.{Sized, length-first}
use Rattle.form.proofs.Front.{front-means, touched-few, entries-length, touched-length, resident-length, table_same, frames-same, touched-same}
use Rattle.form.proofs.Called.{accepted-call, quiet, handed-accepted}
use Rattle.fields.specs.Answers.{no_id}
use Rattle.quiet.specs.Handed.{uninstalled, id_allocated, page_allocated}

-- ---- install

module _ (P : ℕ) (x : Transaction) (s : Store) (log db clog frames : List ℕ) where
  pub install-14 : bad_touched (touched_of x.touched) ≡ true → call_no P (installed x) (world_of s log db clog frames) ≡ 14
  unfolding call_no argument_no
  install-14 h = rw h

  module _ (good : bad_touched (touched_of x.touched) ≡ false) where
    pub install-9 : is_installed s.held.slot ≡ true → call_no P (installed x) (world_of s log db clog frames) ≡ 9
    unfolding call_no argument_no world_of mem_of
    install-9 h = rw (good, h)

    module _ (e0 : front_no P (world_of s log db clog frames) ≡ 0) (empty : is_installed s.held.slot ≡ false) where
      install-0 : call_no P (installed x) (world_of s log db clog frames) ≡ 0
      unfolding argument_no steps keeps world_of mem_of
      install-0 =
          let i = front-means P s log db clog frames e0 in
          quiet P (installed x) s log db clog frames i (rw (good, empty)) refl
          (rw (length-first 0 x.touched.count x.touched.pages) (touched-few x.touched good).0) (entries-length P s log db clog frames i)
          (resident-length P s log db clog frames i)

      pub install-out : Sized s → length x.touched.pages ≡ 64 →
          outcome
          (record {
            number = 0;
            store = record {
              lens = s.lens;
              pages = s.pages;
              next = s.next;
              time = s.time;
              mark = s.mark;
              table = s.table;
              frames = s.frames;
              held = record { slot = Installed x.id; touched = x.touched };
            };
          })
          log db clog frames ≡ called_on P (installed x) (with_array s x.touched) s log db clog frames
      unfolding with_array done apply_all steps keeps laid_store world_of mem_of
      install-out z len =
          let i = front-means P s log db clog frames e0 in
          rw (
            accepted-call P (installed x) (with_array s x.touched) s log db clog frames e0 install-0,
            table_same P s log db clog frames i z,
            frames-same P s log db clog frames i z,
            touched-same x.touched len (touched-few x.touched good).0,
          )

-- ---- uninstall and the allocations

module _ (P : ℕ) (s : Store) (log db clog frames : List ℕ) where
  module _ (e0 : front_no P (world_of s log db clog frames) ≡ 0) where
    uninstall-0 : call_no P Uninstall (world_of s log db clog frames) ≡ 0
    unfolding argument_no steps keeps world_of mem_of
    uninstall-0 =
        let i = front-means P s log db clog frames e0 in
        quiet P Uninstall s log db clog frames i refl refl (omega arith) (entries-length P s log db clog frames i) (resident-length P s log db clog frames i)

    id-0 : call_no P AllocId (world_of s log db clog frames) ≡ 0
    unfolding argument_no steps keeps world_of mem_of
    id-0 =
        let i = front-means P s log db clog frames e0 in
        quiet P AllocId s log db clog frames i refl refl (touched-length P s log db clog frames i) (entries-length P s log db clog frames i)
        (resident-length P s log db clog frames i)

    page-0 : s.pages < 4294967295 → call_no P AllocPage (world_of s log db clog frames) ≡ 0
    unfolding argument_no steps keeps world_of mem_of
    page-0 h =
        let i = front-means P s log db clog frames e0 in
        quiet P AllocPage s log db clog frames i (rw (lt-leb 4294967295 s.pages h)) refl (touched-length P s log db clog frames i)
        (entries-length P s log db clog frames i) (resident-length P s log db clog frames i)

    pub page-10 : 4294967295 ≤ s.pages → call_no P AllocPage (world_of s log db clog frames) ≡ 10
    unfolding call_no argument_no world_of mem_of
    page-10 h = rw (le-leb 4294967295 s.pages h)

    module _ (z : Sized s) where
      uninstall-called :
          outcome
          (record {
            number = 0;
            store = record {
              lens = s.lens;
              pages = s.pages;
              next = s.next;
              time = s.time;
              mark = s.mark;
              table = s.table;
              frames = s.frames;
              held = record { slot = Empty; touched = record { pages = s.held.touched.pages; count = 0 } };
            };
          })
          log db clog frames ≡ called P Uninstall s log db clog frames
      unfolding done apply_all steps keeps laid_store world_of mem_of
      uninstall-called =
          let i = front-means P s log db clog frames e0 in
          rw (
            accepted-call P Uninstall s s log db clog frames e0 uninstall-0,
            table_same P s log db clog frames i z,
            frames-same P s log db clog frames i z,
          )

      pub uninstall-out :
          given s.held
          (record {
            number = 0;
            store = record {
              lens = s.lens;
              pages = s.pages;
              next = s.next;
              time = s.time;
              mark = s.mark;
              table = s.table;
              frames = s.frames;
              held = record { slot = Empty; touched = record { pages = s.held.touched.pages; count = 0 } };
            };
          })
          log db clog frames ≡ uninstalled P s log db clog frames
      unfolding uninstalled
      uninstall-out = handed-accepted s.held no_held _ log db clog frames (called P Uninstall s log db clog frames) uninstall-called

      -- the store of an allocation: next id n, page count k
      abbrev counted : ℕ → ℕ → Store
      counted k n =
          record {
            lens = s.lens;
            pages = k;
            next = record { 0 = n };
            time = s.time;
            mark = s.mark;
            table = s.table;
            frames = s.frames;
            held = s.held;
          }

      id-called : outcome (record { number = 0; store = counted s.pages (next64 s.next.0) }) log db clog frames ≡ called P AllocId s log db clog frames
      unfolding done apply_all steps keeps laid_store world_of mem_of
      id-called =
          let i = front-means P s log db clog frames e0 in
          rw (
            accepted-call P AllocId s s log db clog frames e0 id-0,
            table_same P s log db clog frames i z,
            frames-same P s log db clog frames i z,
            touched-same s.held.touched z.touched i.touched,
          )

      pub id-out : given s.next (record { number = 0; store = counted s.pages (next64 s.next.0) }) log db clog frames ≡ id_allocated P s log db clog frames
      unfolding id_allocated
      id-out = handed-accepted s.next no_id _ log db clog frames (called P AllocId s log db clog frames) id-called

      page-called : s.pages < 4294967295 →
          outcome (record { number = 0; store = counted (s.pages + 1) s.next.0 }) log db clog frames ≡ called P AllocPage s log db clog frames
      unfolding done apply_all steps keeps laid_store world_of mem_of
      page-called h =
          let i = front-means P s log db clog frames e0 in
          rw (
            accepted-call P AllocPage s s log db clog frames e0 (page-0 h),
            table_same P s log db clog frames i z,
            frames-same P s log db clog frames i z,
            touched-same s.held.touched z.touched i.touched,
          )

      pub page-out : s.pages < 4294967295 →
          given s.pages (record { number = 0; store = counted (s.pages + 1) s.next.0 }) log db clog frames ≡ page_allocated P s log db clog frames
      unfolding page_allocated
      page-out h = handed-accepted s.pages 0 _ log db clog frames (called P AllocPage s log db clog frames) (page-called h)
