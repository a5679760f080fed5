-- Laws of several entries set in rows, one after the other: turn by turn, and what comes of it where the array holds a list of entries in front. Assumes nothing.
use Prim.Native.Nat.{ℕ, zero, suc, ◌+◌, ◌≤◌, ◌<◌, min, max}
use native.Mathlib.Nat.{not-suc-le-zero, le_of_suc-le-suc}
use native.Mathlib.Numerals.{add-one}
use native.Mathlib.Omega.{arith}
use mathlib.Core.Path.{◌≡◌, refl, sym, ap, ◌∙◌}
use mathlib.Core.List.{List, [], ◌∷◌, ◌++◌, map}
use mathlib.Core.Bool.{Bool, true, false, cond}
use lib.ListN.{length, drop_of_length-le, length-map, length-take, take, drop, get_or, set}
use lib.Dec.{ltb, eqb}
use borrow.Author.Tests.{le-leb, lt-leb, ne_eqb, lt-ltb, ltb-true}
use Rattle.fields.proofs.Tests.{Order, less, most, order}
use Rattle.sorted.specs.Sorted.{laid_on, insert_by, insert_all_by, ascending_by}
use Rattle.sorted.proofs.Laws.{at-turn, take_min, laid-back, laid-over}
use Rattle.sorted.proofs.Order.{insert-grows, all-grows, ascending-head, ascending-tail}
use Rattle.table.specs.declared.Entry.{Entry}
use Rattle.table.specs.Entries.{id_of, insert_entry, insert_all, largest_by, time_of}
use Rattle.rows.specs.Rows.{row_id, status_in, entry_of, row_of, Rowed, rowed_as, set_row, held_row, set_all}
use Rattle.rows.proofs.Laws.{no_row}

-- ---- the turns of the loops

pub all-on : (N : ℕ) (r s : Rowed) (top : List (List ℕ)) (i : ℕ) → i < length top → s ≡ held_row N r (entry_of (get_or top i no_row)) →
    set_all N s (map entry_of (drop (i + 1) top)) ≡ set_all N r (map entry_of (drop i top))
unfolding set_all
all-on N r s top i h e = rw (at-turn top i no_row h, e)

pub all_end : (N : ℕ) (r : Rowed) (top : List (List ℕ)) (i : ℕ) → length top ≤ i → set_all N r (map entry_of (drop i top)) ≡ r
unfolding set_all
all_end N r top i h = rw (drop_of_length-le top {i = i} h)

copy-suc : (a l : List (List ℕ)) (i : ℕ) → i < length a → i < length l → set (take i a ++ drop i l) i (get_or a i no_row) ≡ take (suc i) a ++ drop (suc i) l
copy-suc [] l i p q = absurd (not-suc-le-zero p)
copy-suc (x ∷ a) [] i p q = absurd (not-suc-le-zero q)
copy-suc (x ∷ a) (y ∷ l) zero p q = refl
copy-suc (x ∷ a) (y ∷ l) (suc i) p q = ap (λ (m : List (List ℕ)). x ∷ m) (copy-suc a l i (le_of_suc-le-suc p) (le_of_suc-le-suc q))

pub copy-on : (a l : List (List ℕ)) (i : ℕ) → i < length a → i < length l → set (take i a ++ drop i l) i (get_or a i no_row) ≡ take (i + 1) a ++ drop (i + 1) l
copy-on a l i p q = rw (add-one i) (copy-suc a l i p q)

pub largest-on : (f : Entry → ℕ) (rows : List (List ℕ)) (i : ℕ) → i < length rows →
    largest_by f (map entry_of (drop i rows)) ≡ max (f (entry_of (get_or rows i no_row))) (largest_by f (map entry_of (drop (i + 1) rows)))
unfolding largest_by
largest-on f rows i h = rw (at-turn rows i no_row h)

pub largest-end : (f : Entry → ℕ) (rows : List (List ℕ)) (i : ℕ) → length rows ≤ i → largest_by f (map entry_of (drop i rows)) ≡ 0
unfolding largest_by
largest-end f rows i h = rw (drop_of_length-le rows {i = i} h)

-- the time of a row by its tag
pub time-one : (g t : ℕ) → g ≡ 1 → t ≡ time_of (status_in g t)
unfolding status_in
time-one g t e = rw e

pub time-other : (g t : ℕ) → (g ≡ 1 → ⊥) → 0 ≡ time_of (status_in g t)
unfolding status_in
time-other zero t h = refl
time-other (suc zero) t h = absurd (h refl)
time-other (suc (suc g)) t h = rw (ne_eqb (suc (suc g)) 0 (λ e. omega arith), ne_eqb (suc (suc g)) 1 (λ e. omega arith))

-- ---- a map that keeps the keys goes through insertions

module _ {A B : Type 0} (key : A → ℕ) (other : B → ℕ) (f : A → B) (same : (x : A) → other (f x) ≡ key x) where
  pub insert-map : (e : A) (l : List A) → map f (insert_by key e l) ≡ insert_by other (f e) (map f l)
  unfolding insert_by
  insert-map e [] = refl
  insert-map e (x ∷ l) = rw (same x, same e) (go (ltb (key x) (key e)) (eqb (key x) (key e)) (insert-map e l))
    where
      go : (b c : Bool) → map f (insert_by key e l) ≡ insert_by other (f e) (map f l) →
          map f (cond b (x ∷ insert_by key e l) (cond c (e ∷ l) (e ∷ x ∷ l))) ≡ cond b (f x ∷ insert_by other (f e) (map f l)) (cond c (f e ∷ map f l) (f e ∷ f x ∷ map f l))
      go true c h = ap (λ (m : List B). f x ∷ m) h
      go false true h = refl
      go false false h = refl

  pub insert-map-all : (es l : List A) → map f (insert_all_by key es l) ≡ insert_all_by other (map f es) (map f l)
  unfolding insert_all_by
  insert-map-all [] l = refl
  insert-map-all (e ∷ es) l = insert-map-all es (insert_by key e l) ∙ ap (insert_all_by other (map f es)) (insert-map e l)

-- ---- what ascends, set one after the other, stands as it is

module _ {A : Type 0} (key : A → ℕ) where
  first-less : (x : A) (m : List A) (e : A) (l : List A) → ascending_by key (x ∷ (m ++ e ∷ l)) ≡ true → key x < key e
  first-less x [] e l h = ltb-true (key x) (key e) (ascending-head key x (e ∷ l) h)
  first-less x (y ∷ m) e l h =
      let a : key x < key y = ltb-true (key x) (key y) (ascending-head key x (y ∷ (m ++ e ∷ l)) h) in
      let b : key y < key e = first-less y m e l (ascending-tail key x (y ∷ (m ++ e ∷ l)) h) in
      omega arith

  insert-last : (m : List A) (e : A) (l : List A) → ascending_by key (m ++ e ∷ l) ≡ true → insert_by key e m ≡ m ++ (e ∷ [])
  unfolding insert_by
  insert-last [] e l h = refl
  insert-last (x ∷ m) e l h =
      rw (lt-ltb (key x) (key e) (first-less x m e l h)) (ap (λ (k : List A). x ∷ k) (insert-last m e l (ascending-tail key x (m ++ e ∷ l) h)))

  join_one : (m : List A) (e : A) (l : List A) → (m ++ (e ∷ [])) ++ l ≡ m ++ e ∷ l
  join_one [] e l = refl
  join_one (x ∷ m) e l = ap (λ (k : List A). x ∷ k) (join_one m e l)

  join-none : (m : List A) → m ++ [] ≡ m
  join-none [] = refl
  join-none (x ∷ m) = ap (λ (k : List A). x ∷ k) (join-none m)

  all_after : (l m : List A) → ascending_by key (m ++ l) ≡ true → insert_all_by key l m ≡ m ++ l
  unfolding insert_all_by
  all_after [] m h = sym (join-none m)
  all_after (e ∷ l) m h =
      ap (insert_all_by key l) (insert-last m e l h) ∙ all_after l (m ++ (e ∷ [])) (ap (ascending_by key) (join_one m e l) ∙ h) ∙ join_one m e l

  pub all_own : (l : List A) → ascending_by key l ≡ true → insert_all_by key l [] ≡ l
  all_own l h = all_after l [] h

-- ---- the array a with the entries l in front

abbrev pub rows_of : List (List ℕ) → List Entry → List (List ℕ)
rows_of a l = laid_on a (map row_of l)

abbrev pub holding : List (List ℕ) → List Entry → Rowed
holding a l = rowed_as 0 (length l) (rows_of a l)

-- the entries that are held
pub held_back : (a : List (List ℕ)) (l : List Entry) → take (length l) (rows_of a l) ≡ map row_of l
held_back a l = rw (← length-map l row_of) (laid-back a (map row_of l))

more-held : (a : List (List ℕ)) (l m : List Entry) → length l ≤ length m → map row_of m ++ drop (length m) (rows_of a l) ≡ map row_of m ++ drop (length m) a
more-held a l m h = rw (length-map m row_of) at (laid-over a (map row_of l) (map row_of m) (rw (length-map l row_of, length-map m row_of) h))

module _ (N : ℕ) (a : List (List ℕ)) where
  insert-held : (l : List Entry) (e : Entry) → insert_by row_id (row_of e) (take (length l) (rows_of a l)) ≡ map row_of (insert_entry e l)
  insert-held l e = rw (held_back a l) (sym (insert-map id_of row_id row_of (λ x. refl) e l))

  one-fits : (l : List Entry) (e : Entry) → length (insert_entry e l) ≤ N → held_row N (holding a l) e ≡ holding a (insert_entry e l)
  unfolding held_row set_row
  one-fits l e h =
      rw (insert-held l e, length-map (insert_entry e l) row_of, le-leb (length (insert_entry e l)) N h, more-held a l (insert_entry e l) (insert-grows id_of e l))

  one-full : (l : List Entry) (e : Entry) → N < length (insert_entry e l) → held_row N (holding a l) e ≡ rowed_as 7 (length l) (rows_of a l)
  unfolding held_row set_row
  one-full l e h = rw (insert-held l e, length-map (insert_entry e l) row_of, lt-leb (length (insert_entry e l)) N h)

  ended : (n : ℕ) (rows : List (List ℕ)) (es : List Entry) → set_all N (rowed_as 7 n rows) es ≡ rowed_as 7 n rows
  unfolding set_all held_row
  ended n rows [] = refl
  ended n rows (e ∷ es) = ended n rows es

  pub all-fits : (es l : List Entry) → length (insert_all es l) ≤ N → set_all N (holding a l) es ≡ holding a (insert_all es l)
  unfolding set_all insert_all_by
  all-fits [] l h = refl
  all-fits (e ∷ es) l h =
      let k : length (insert_entry e l) ≤ N = omega (arith, all-grows id_of es (insert_entry e l)) in
      ap (λ (r : Rowed). set_all N r es) (one-fits l e k) ∙ all-fits es (insert_entry e l) h

  pub all-full : (es l : List Entry) → length l ≤ N → N < length (insert_all es l) → (set_all N (holding a l) es).number ≡ 7
  unfolding set_all insert_all_by
  all-full [] l p h = absurd (omega arith)
  all-full (e ∷ es) l p h = go (order N (length (insert_entry e l))) (all-full es (insert_entry e l))
    where
      go : Order N (length (insert_entry e l)) → (length (insert_entry e l) ≤ N → N < length (insert_all es (insert_entry e l)) → (set_all N (holding a (insert_entry e l)) es).number ≡ 7) →
          (set_all N (held_row N (holding a l) e) es).number ≡ 7
      go (less q) ih = ap (λ (r : Rowed). (set_all N r es).number) (one-full l e q) ∙ ap (λ (r : Rowed). r.number) (ended (length l) (rows_of a l) es)
      go (most q) ih = ap (λ (r : Rowed). (set_all N r es).number) (one-fits l e q) ∙ ih q h

-- ---- a table's entries laid in front

table-suc : (es : List Entry) (l : List (List ℕ)) (i : ℕ) (d : Entry) → i < length es → i < length l →
    set (map row_of (take i es) ++ drop i l) i (row_of (get_or es i d)) ≡ map row_of (take (suc i) es) ++ drop (suc i) l
table-suc [] l i d p q = absurd (omega arith)
table-suc (e ∷ es) [] i d p q = absurd (omega arith)
table-suc (e ∷ es) (x ∷ l) zero d p q = refl
table-suc (e ∷ es) (x ∷ l) (suc i) d p q = ap (λ (m : List (List ℕ)). row_of e ∷ m) (table-suc es l i d (omega arith) (omega arith))

pub table_on : (es : List Entry) (l : List (List ℕ)) (i : ℕ) (d : Entry) → i < length es → i < length l →
    set (map row_of (take i es) ++ drop i l) i (row_of (get_or es i d)) ≡ map row_of (take (i + 1) es) ++ drop (i + 1) l
table_on es l i d p q = rw (add-one i) (table-suc es l i d p q)

pub table_done : (es : List Entry) (l : List (List ℕ)) (n i : ℕ) → length es ≡ 256 → i ≡ min n 256 →
    map row_of (take i es) ++ drop i l ≡ laid_on l (map row_of (take n es))
table_done es l n i len e =
    let t : take i es ≡ take n es = rw e (take_min es n 256 len) in
    let k : length (map row_of (take n es)) ≡ i = length-map (take n es) row_of ∙ length-take n es ∙ rw len (sym e) in
    rw (k, ← t)
