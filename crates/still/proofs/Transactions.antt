-- Laws of install, uninstall and the allocations on a lent store, one for each way out of the code. Assumes nothing.
use Prim.Native.Nat.{ℕ, zero, suc, ◌+◌, ◌≤◌, ◌<◌}
use native.Mathlib.Nat.{zero-add}
use native.Mathlib.Omega.{arith}
use mathlib.Core.Path.{◌≡◌, refl, sym, ap, ◌∙◌}
use mathlib.Core.List.{List, ◌++◌, map}
use mathlib.Core.Bool.{Bool, true, false, cond, not, ◌&&◌, ◌||◌}
use lib.ListN.{length, take, drop}
use lib.Dec.{ltb, eqb}
use lib.Seq.{sets, sets-eq, take_all}
use borrow.Author.Tests.{lt-ltb, le-ltb, ne_eqb, eq-eqb}
use Rattle.std.specs.Prelude.{Result}
use Rattle.std.specs.Result.{IsErr, IsErrAnd}
use Rattle.fields.specs.declared.refusal.Refusal.{Refusal}
use Rattle.fields.specs.declared.refusal.Refusal.TheVariants.{BadPage}
use Rattle.fields.specs.Refusals.{number_of}
use Rattle.fields.proofs.AnswerLaws.{handed-on}
use Rattle.fields.specs.declared.TransactionId.{TransactionId}
use Rattle.fields.specs.Answers.{no_id}
use Rattle.fields.proofs.Tests.{Order, less, most, order}
use Rattle.sorted.specs.Sorted.{laid_on}
use Rattle.sorted.proofs.Laws.{laid-back}
use Rattle.table.specs.Entries.{next64, list_of}
use Rattle.rows.specs.Rows.{row_of}
use Rattle.frames.specs.Pages as pages
use Rattle.frames.specs.Pages.{any_bad, touched_formed}
use Rattle.frames.proofs.Values.{touched-over, touched-fit, formed-touched}
use Rattle.seats.specs.Seats.{touched_in}
use Rattle.world.specs.declared.Slot.TheVariants.{Installed, Empty}
use Rattle.world.specs.Steps.{apply_all}
use Rattle.world.specs.Calls.{Call, Install, Uninstall, AllocId, AllocPage, steps, keeps}
use Rattle.world.specs.Refusals.{any_of, bad_touched, is_installed, argument_no, call_no, front_no}
use Rattle.world.specs.Run.{done}
use Rattle.form.specs.declared.Store.{Store}
use Rattle.form.specs.declared.Held.{Held}
use Rattle.form.specs.Store.{mem_of, world_of, laid_store, outcome, called, Given}
use Rattle.form.proofs.Front.{InForm, front-means, entries-length, resident-length, touched-are, table_same, frames-same}
use Rattle.form.proofs.Called.{refused-call, accepted-call, quiet}
use Rattle.quiet.specs.Handed as handed
use Rattle.quiet.proofs.Refused.{by-call, refused-with}
use Rattle.quiet.proofs.Transactions as by_value
use Rattle.lent.specs.declared.Head.{Head}
use Rattle.lent.specs.Lent.{Lent, lent, held_of, own_of, store_of, odd, laid_lent, leaving, left_of, called_lent}
use Rattle.lent.proofs.Laws.{Fit, sized, by-outcome, refused-left, head-back, rows_same, few-entries, few-touched, resident-same, touched-same}
use Rattle.still.specs.declared.Gone.{Gone}
use Rattle.still.specs.Still.{beside, value_in, replied_in, handed_out, id_allocated, page_allocated, taken, no_gone, taken_of, shortened, uninstalled}
use Rattle.still.specs.Entries.{first_no}
use Rattle.still.proofs.Refused.{refusal-number, answered, refused-first}
use Rattle.still.proofs.Handed.{handed-none, handed-some}

-- ---- the list that is handed in

listed : (ps : List ℕ) → bad_touched ps ≡ not (touched_formed 64 (touched_in ps (length ps)))
unfolding bad_touched any_of
listed ps = go (order 64 (length ps))
  where
    not-both : (a b : Bool) → (not a || (b || false)) ≡ not (a && not b)
    not-both true true = refl
    not-both true false = refl
    not-both false b = refl

    go : Order 64 (length ps) → (ltb 64 (length ps) || (not (pages.ascending ps) || (any_bad ps || false))) ≡ not (touched_formed 64 (touched_in ps (length ps)))
    go (less h) = rw (touched-over 64 (touched_in ps (length ps)) h, lt-ltb 64 (length ps) h)
    go (most h) =
        rw (touched-fit 64 (touched_in ps (length ps)) h, le-ltb 64 (length ps) h, take_all (length ps) ps (omega arith)) (not-both (pages.ascending ps) (any_bad ps))

-- ---- what the first test leaves

module _ (P : ℕ) (out : List ℕ) (s : Lent) (log db clog frames : List ℕ) (r : Refusal) (e : number_of r ≡ first_no P s log db clog frames) where
  -- where it is refused, nothing is handed out, whether the array is long enough or not
  pub uninstall-first : (x : Result (Gone × Head) Refusal) → IsErr x × IsErrAnd x (λ q. q ≡ r) →
      beside (taken_of (value_in no_gone x) out) (answered P s log db clog frames (replied_in s.head x)) ≡ uninstalled P out s log db clog frames
  unfolding uninstalled
  uninstall-first x h =
      rw (handed-on x r h, ← refused-first P s log db clog frames r e Uninstall) (go (number_of r) (refusal-number r))
    where
      go : (n : ℕ) → (n ≡ 0 → ⊥) →
          beside (taken 0 no_id 0 out) (leaving n s log db clog frames) ≡
          handed_out (taken s.head.held s.head.id s.head.touched (laid_on out (take s.head.touched s.touched))) (taken 0 no_id 0 out)
          (shortened (ltb (length out) s.head.touched) s log db clog frames (leaving n s log db clog frames))
      go zero h = absurd (h refl)
      go (suc n) h = refl

-- ---- past the first test

module _ (P : ℕ) (s : Lent) (log db clog frames : List ℕ) (z : Fit s) (fine : odd s ≡ false) (e0 : front_no P (world_of (store_of s) log db clog frames) ≡ 0) where
  abbrev u : Store
  u = store_of s

  form : InForm P u log db clog frames
  form = front-means P u log db clog frames e0

  rows_stay : laid_on s.rows (map row_of (list_of u.table)) ≡ s.rows
  rows_stay = rows_same s fine (omega (arith, few-entries s fine z P log db clog frames e0, z.rows))

  held-is : held_of u.held.slot ≡ s.head.held
  held-is = ap (λ (h : Head). h.held) (head-back s fine)

  id-is : own_of u.held.slot ≡ s.head.id
  id-is = ap (λ (h : Head). h.id) (head-back s fine)

  -- the head with another page count and another next id
  abbrev counted : ℕ → TransactionId → Head
  counted k n =
      record {
        lens = s.head.lens;
        pages = k;
        next = n;
        time = s.head.time;
        mark = s.head.mark;
        held = s.head.held;
        id = s.head.id;
        entries = s.head.entries;
        resident = s.head.resident;
        touched = s.head.touched;
      }

  counts-laid : (k : ℕ) (n : TransactionId) →
      lent (counted k n) s.rows s.resident s.touched ≡
      laid_lent s (record { lens = u.lens; pages = k; next = n; time = u.time; mark = u.mark; table = u.table; frames = u.frames; held = u.held })
  unfolding laid_lent store_of
  counts-laid k n = rw (rows_stay, resident-same s fine z P log db clog frames e0, touched-same s fine z P log db clog frames e0, held-is, id-is)

  -- what an accepted call leaves, by its outcome on the store by value
  accepted-left : (c : Call) (v : Store) (l : Lent) → l ≡ laid_lent s v → outcome (record { number = 0; store = v }) log db clog frames ≡ called P c u log db clog frames →
      leaving 0 l log db clog frames ≡ called_lent P c s log db clog frames
  unfolding left_of
  accepted-left c v l e f = ap (λ (x : Lent). leaving 0 x log db clog frames) e ∙ by-outcome P c s log db clog frames fine _ f

  id-called : outcome
      (record {
        number = 0;
        store = record {
          lens = u.lens;
          pages = u.pages;
          next = record { 0 = next64 u.next.0 };
          time = u.time;
          mark = u.mark;
          table = u.table;
          frames = u.frames;
          held = u.held;
        };
      })
      log db clog frames ≡ called P AllocId u log db clog frames
  unfolding handed.id_allocated
  id-called = ap (λ (g : Given TransactionId). g.outcome) (by_value.id-out P u log db clog frames e0 (sized s z))

  pub id_left : (n : TransactionId) → n ≡ record { 0 = next64 s.head.next.0 } →
      beside s.head.next (leaving 0 (lent (counted s.head.pages n) s.rows s.resident s.touched) log db clog frames) ≡ id_allocated P s log db clog frames
  unfolding id_allocated store_of
  id_left n e =
      rw e (handed-some s.head.next no_id _ (called_lent P AllocId s log db clog frames)
      (accepted-left AllocId _ _ (counts-laid s.head.pages (record { 0 = next64 s.head.next.0 })) id-called) s.head.next refl refl)

  page-none-called : 4294967295 ≤ u.pages → outcome (record { number = 10; store = u }) log db clog frames ≡ called P AllocPage u log db clog frames
  page-none-called h =
      refused-with P AllocPage u log db clog frames u BadPage
      (by-call P AllocPage u log db clog frames 10 (sym e0) (by_value.page-10 P u log db clog frames e0 h))

  pages-is : u.pages ≡ s.head.pages
  unfolding store_of
  pages-is = refl

  pub page-10 : 4294967295 ≤ s.head.pages → beside 0 (leaving 10 s log db clog frames) ≡ page_allocated P s log db clog frames
  unfolding page_allocated
  page-10 h =
      handed-none s.head.pages 0 (leaving 10 s log db clog frames) (called_lent P AllocPage s log db clog frames)
      (refused-left P AllocPage s log db clog frames fine 10 (λ e. omega arith) (page-none-called (omega (arith, pages-is)))) (λ e. omega arith)

  page-called : u.pages < 4294967295 → outcome
      (record {
        number = 0;
        store = record {
          lens = u.lens;
          pages = u.pages + 1;
          next = u.next;
          time = u.time;
          mark = u.mark;
          table = u.table;
          frames = u.frames;
          held = u.held;
        };
      })
      log db clog frames ≡ called P AllocPage u log db clog frames
  unfolding handed.page_allocated
  page-called h = ap (λ (g : Given ℕ). g.outcome) (by_value.page-out P u log db clog frames e0 (sized s z) h)

  pub page-left : s.head.pages < 4294967295 →
      beside s.head.pages (leaving 0 (lent (counted (s.head.pages + 1) s.head.next) s.rows s.resident s.touched) log db clog frames) ≡ page_allocated P s log db clog frames
  unfolding page_allocated store_of
  page-left h =
      handed-some s.head.pages 0 _ (called_lent P AllocPage s log db clog frames)
      (accepted-left AllocPage _ _ (counts-laid (s.head.pages + 1) s.head.next) (page-called (omega (arith, pages-is)))) s.head.pages refl refl

  -- ---- uninstall

  -- the touched pages are pages' numbers
  pub touched-good : any_bad (take s.head.touched s.touched) ≡ false
  unfolding store_of
  touched-good = ap any_bad (sym (touched-are P u log db clog frames form (sized s z))) ∙ form.touched-good

  pub touched-few : s.head.touched ≤ 64
  touched-few = few-touched s fine z P log db clog frames e0

  abbrev emptied : Head
  emptied =
      record {
        lens = s.head.lens;
        pages = s.head.pages;
        next = s.head.next;
        time = s.head.time;
        mark = s.head.mark;
        held = 0;
        id = no_id;
        entries = s.head.entries;
        resident = s.head.resident;
        touched = 0;
      }

  abbrev emptied_store : Store
  emptied_store =
      record {
        lens = u.lens;
        pages = u.pages;
        next = u.next;
        time = u.time;
        mark = u.mark;
        table = u.table;
        frames = u.frames;
        held = record { slot = Empty; touched = record { pages = u.held.touched.pages; count = 0 } };
      }

  emptied-laid : lent emptied s.rows s.resident s.touched ≡ laid_lent s emptied_store
  unfolding laid_lent store_of
  emptied-laid = rw (rows_stay, resident-same s fine z P log db clog frames e0)

  uninstall-called : outcome (record { number = 0; store = emptied_store }) log db clog frames ≡ called P Uninstall u log db clog frames
  unfolding handed.uninstalled
  uninstall-called = ap (λ (g : Given Held). g.outcome) (by_value.uninstall-out P u log db clog frames e0 (sized s z))

  uninstall-is : leaving 0 (lent emptied s.rows s.resident s.touched) log db clog frames ≡ called_lent P Uninstall s log db clog frames
  uninstall-is = accepted-left Uninstall emptied_store _ emptied-laid uninstall-called

  pub uninstall-13 : (out : List ℕ) → length out < s.head.touched → beside (taken 0 no_id 0 out) (leaving 13 s log db clog frames) ≡ uninstalled P out s log db clog frames
  unfolding uninstalled
  uninstall-13 out h = rw (← uninstall-is, lt-ltb (length out) s.head.touched h)

  pub uninstall-left : (out new : List ℕ) → s.head.touched ≤ length out → new ≡ laid_on out (take s.head.touched s.touched) →
      beside (taken s.head.held s.head.id s.head.touched new) (leaving 0 (lent emptied s.rows s.resident s.touched) log db clog frames) ≡
      uninstalled P out s log db clog frames
  unfolding uninstalled
  uninstall-left out new h e = rw (← uninstall-is, le-ltb (length out) s.head.touched h, e)

  -- ---- install

  module _ (id : TransactionId) (ps : List ℕ) where
    pub install-14 : touched_formed 64 (touched_in ps (length ps)) ≡ false → leaving 14 s log db clog frames ≡ called_lent P (Install id ps) s log db clog frames
    unfolding call_no argument_no
    install-14 h =
        let b : bad_touched ps ≡ true = listed ps ∙ ap not h in
        refused-left P (Install id ps) s log db clog frames fine 14 (λ e. omega arith)
        (refused-call P (Install id ps) u u log db clog frames 13 e0 (rw b))

    module _ (formed : touched_formed 64 (touched_in ps (length ps)) ≡ true) where
      good : bad_touched ps ≡ false
      good = listed ps ∙ ap not formed

      few : length ps ≤ 64
      few = (formed-touched 64 (touched_in ps (length ps)) formed).few

      slot_is : is_installed u.held.slot ≡ eqb s.head.held 1
      unfolding store_of
      slot_is = go (eqb s.head.held 1)
        where
          go : (b : Bool) → is_installed (cond b (Installed s.head.id) Empty) ≡ b
          go true = refl
          go false = refl

      pub install-9 : s.head.held ≡ 1 → leaving 9 s log db clog frames ≡ called_lent P (Install id ps) s log db clog frames
      unfolding call_no argument_no world_of mem_of
      install-9 h =
          let i : is_installed u.held.slot ≡ true = slot_is ∙ eq-eqb s.head.held 1 h in
          refused-left P (Install id ps) s log db clog frames fine 9 (λ e. omega arith)
          (refused-call P (Install id ps) u u log db clog frames 8 e0 (rw (good, i)))

      module _ (free : s.head.held ≡ 1 → ⊥) where
        empty : is_installed u.held.slot ≡ false
        empty = slot_is ∙ ne_eqb s.head.held 1 free

        install-0 : call_no P (Install id ps) (world_of u log db clog frames) ≡ 0
        unfolding argument_no steps keeps world_of mem_of
        install-0 =
            quiet P (Install id ps) u log db clog frames form (rw (good, empty)) refl few (entries-length P u log db clog frames form)
            (resident-length P u log db clog frames form)

        abbrev filled : Store
        filled =
            record {
              lens = u.lens;
              pages = u.pages;
              next = u.next;
              time = u.time;
              mark = u.mark;
              table = u.table;
              frames = u.frames;
              held = record { slot = Installed id; touched = touched_in (laid_on u.held.touched.pages ps) (length ps) };
            }

        install-called : outcome (record { number = 0; store = filled }) log db clog frames ≡ called P (Install id ps) u log db clog frames
        unfolding done apply_all steps keeps laid_store world_of mem_of
        install-called =
            rw (
              accepted-call P (Install id ps) u u log db clog frames e0 install-0,
              table_same P u log db clog frames form (sized s z),
              frames-same P u log db clog frames form (sized s z),
            )

        abbrev taking : Head
        taking =
            record {
              lens = s.head.lens;
              pages = s.head.pages;
              next = s.head.next;
              time = s.head.time;
              mark = s.head.mark;
              held = 1;
              id = id;
              entries = s.head.entries;
              resident = s.head.resident;
              touched = length ps;
            }

        taking-laid : lent taking s.rows s.resident (laid_on s.touched ps) ≡ laid_lent s filled
        unfolding laid_lent store_of
        taking-laid = rw (rows_stay, resident-same s fine z P log db clog frames e0, laid-back s.touched ps)

        pub install-left : (new : List ℕ) → new ≡ sets s.touched 0 ps →
            leaving 0 (lent taking s.rows s.resident new) log db clog frames ≡ called_lent P (Install id ps) s log db clog frames
        install-left new e =
            let laid : new ≡ laid_on s.touched ps = e ∙ sets-eq ps s.touched 0 (omega (arith, few, z.touched)) ∙ ap (λ (n : ℕ). ps ++ drop n s.touched) (zero-add (length ps)) in
            ap (λ (l : List ℕ). leaving 0 (lent taking s.rows s.resident l) log db clog frames) laid
            ∙ accepted-left (Install id ps) filled _ taking-laid install-called
