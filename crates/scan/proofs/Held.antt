-- Laws of the statuses that a pass holds: each way out of `hold`, and that holding statuses one after the other is setting them all, or 7. Assumes nothing.
use mathlib.Core.Path.{◌≡◌, refl, sym, ap, ◌∙◌}
use mathlib.Core.List.{List, [], ◌∷◌}
use Prim.Native.Nat.{ℕ, zero, suc, ◌<◌}
use native.Mathlib.Omega.{arith}
use lib.ListN.{length}
use Rattle.std.specs.Prelude.{Result, Ok, Err}
use Rattle.fields.specs.declared.refusal.Refusal.{Refusal}
use Rattle.fields.specs.Refusals.{number_of}
use Rattle.fields.proofs.AnswerLaws.{number-positive}
use Rattle.fields.proofs.Tests.{Order, less, most, order}
use Rattle.sorted.specs.Sorted.{insert_all_by}
use Rattle.table.specs.declared.Entry.{Entry}
use Rattle.table.specs.declared.Table.{Table}
use Rattle.table.specs.Entries.{Inserted, inserted_of, list_of, empty_table, laid, insert_entry, insert_all, bounded, inserted}
use Rattle.table.proofs.Facts.{list-laid, laid-laid, set-grows, bounded-yes, bounded-no}
use Rattle.world.specs.Run.{decided}
use Rattle.scan.specs.Scans.{held_of}
use Rattle.scan.specs.Inside.{held_with}

pub decided-no : {A : Type 0} (n : ℕ) (a b : A) → (n ≡ 0 → ⊥) → decided n a b ≡ b
decided-no zero a b h = absurd (h refl)
decided-no (suc n) a b h = refl

-- a table that has no room for the entries says 7
pub too-many : (N : ℕ) (t u : Table) (l : List Entry) (r : Refusal) → inserted_of t (Err r) ≡ bounded N u l → number_of r ≡ 7
too-many N t u l r e = go (order N (length l))
  where
    go : Order N (length l) → number_of r ≡ 7
    go (less p) = ap (λ (h : Inserted). h.number) e ∙ rw (bounded-no N u l p)
    go (most p) =
        let z : number_of r ≡ 0 = ap (λ (h : Inserted). h.number) e ∙ rw (bounded-yes N u l p) in
        absurd (omega (arith, number-positive r))

-- a status more: the table says whether it has room, and else nothing is held
pub hold-set : (e : Entry) (t : Table) (r : Result Table Refusal) → inserted_of t r ≡ inserted 256 t e → held_of r ≡ held_with 256 (held_of (Ok t)) e
unfolding held_with
hold-set e t (Ok u) f = rw (← f)
hold-set e t (Err r) f =
    let n : number_of r ≡ 7 = unfold inserted in too-many 256 t t (insert_entry e (list_of t)) r f in
    rw (← f, n)

pub hold-shut : (e : Entry) (h : Result Table Refusal) (r : Refusal) → h ≡ Err r → held_of (Err r) ≡ held_with 256 (held_of h) e
unfolding held_with
hold-shut e h r f = rw f (sym (decided-no (number_of r) _ (held_of (Err r)) (λ z. omega (arith, number-positive r))))

-- one more status, in a table of N places
hold-more : (N : ℕ) (e : Entry) (l : List Entry) → held_with N (bounded N (empty_table N) l) e ≡ bounded N (empty_table N) (insert_entry e l)
unfolding held_with inserted
hold-more N e l = go (order N (length l)) (order N (length (insert_entry e l)))
  where
    grown : laid (laid (empty_table N) l) (insert_entry e l) ≡ laid (empty_table N) (insert_entry e l)
    grown = laid-laid (empty_table N) l (insert_entry e l) (set-grows e l)

    go : Order N (length l) → Order N (length (insert_entry e l)) →
        held_with N (bounded N (empty_table N) l) e ≡ bounded N (empty_table N) (insert_entry e l)
    go (less p) q =
        let m : N < length (insert_entry e l) = omega (arith, set-grows e l) in
        rw (bounded-no N (empty_table N) l p, bounded-no N (empty_table N) (insert_entry e l) m)
    go (most p) (less q) =
        rw (
          bounded-yes N (empty_table N) l p,
          list-laid,
          bounded-no N (laid (empty_table N) l) (insert_entry e l) q,
          bounded-no N (empty_table N) (insert_entry e l) q,
        )
    go (most p) (most q) =
        rw (
          bounded-yes N (empty_table N) l p,
          list-laid,
          bounded-yes N (laid (empty_table N) l) (insert_entry e l) q,
          bounded-yes N (empty_table N) (insert_entry e l) q,
          grown,
        )

-- several, one after the other
unfoldable pub hold_all : ℕ → List Entry → Inserted → Inserted
hold_all N [] h = h
hold_all N (e ∷ es) h = hold_all N es (held_with N h e)

pub hold-all : (N : ℕ) (es l : List Entry) → hold_all N es (bounded N (empty_table N) l) ≡ bounded N (empty_table N) (insert_all es l)
unfolding hold_all insert_all_by
hold-all N [] l = refl
hold-all N (e ∷ es) l = rw (hold-more N e l) (hold-all N es (insert_entry e l))

pub hold-none : (N : ℕ) → bounded N (empty_table N) [] ≡ record { number = 0; table = empty_table N }
unfolding empty_table
hold-none N = bounded-yes N (empty_table N) [] (omega arith)
