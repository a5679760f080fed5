-- Laws of a table in rows: a look-up, each way out of `with_status`, and that all of it is what crate table says of the table that the rows are read as. Assumes nothing.
use Prim.Native.Nat.{ℕ, zero, suc, ◌+◌, ◌-◌, ◌≤◌, ◌<◌, min}
use native.Mathlib.Omega.{arith}
use mathlib.Core.Path.{◌≡◌, refl, sym, ap, ◌∙◌}
use mathlib.Core.List.{List, [], ◌∷◌, ◌++◌, map}
use mathlib.Core.Bool.{Bool, true, false, cond, not, ◌&&◌, ◌||◌}
use lib.ListN.{length, length-map, take, drop, get_or, set, get_or-eq_default}
use lib.Dec.{ltb, leb, eqb}
use borrow.Author.Tests.{le-leb, lt-leb, ne_eqb, lt-ltb, le-ltb, eqb-true}
use Rattle.fields.proofs.Tests.{Order, less, most, order, neither}
use Rattle.fields.specs.declared.TransactionId.{TransactionId}
use Rattle.sorted.specs.Sorted.{Hit, miss, hit, laid_on, insert_by, look_by, below_by, ascending_by}
use Rattle.sorted.specs.Inside.{place_by}
use Rattle.sorted.proofs.Laws.{front, done, take_min, hit-count, hit-array, new-count, new-array}
use Rattle.table.specs.declared.Status.{Status}
use Rattle.table.specs.declared.Status.TheVariants.{Active, Committed, Aborted}
use Rattle.table.specs.declared.Entry.{Entry}
use Rattle.std.specs.Prelude.{Option, Some, None}
use Rattle.table.specs.Entries.{Inserted, id_of, insert_entry, ascending, status_of, known_of, inserted, bounded, time_of}
use Rattle.rows.specs.Inside.{bad_rows}
use Rattle.rows.specs.Rows.{row_id, tag_of, status_in, odd_row, any_odd, entry_of, row_of, table_of, Rowed, rowed_as, row_kept, set_row}

abbrev pub no_row : List ℕ
no_row = []

-- ---- a look-up

abbrev pub found : Hit (List ℕ) → Option Status
found miss = None
found (hit r) = Some (status_in (get_or r 1 0) (get_or r 2 0))

pub found-is : (k : ℕ) (l : List (List ℕ)) → status_of k (map entry_of l) ≡ found (look_by row_id k l)
unfolding status_of look_by
found-is k [] = refl
found-is k (r ∷ l) = go (eqb (row_id r) k) (found-is k l)
  where
    go : (b : Bool) → known_of (look_by id_of k (map entry_of l)) ≡ found (look_by row_id k l) →
        known_of (cond b (hit (entry_of r)) (look_by id_of k (map entry_of l))) ≡ found (cond b (hit r) (look_by row_id k l))
    go true h = refl
    go false h = h

-- ---- an entry is read

pub entry_at : (r : List ℕ) (s : Status) → s ≡ status_in (get_or r 1 0) (get_or r 2 0) → ◌≡◌ {A = Entry} (record { id = record { 0 = get_or r 0 0 }; status = s }) (entry_of r)
entry_at r s e = ap (λ (x : Status). record { id = record { 0 = get_or r 0 0 }; status = x }) e

pub entry_past : (rows : List (List ℕ)) (i : ℕ) → length rows ≤ i → ◌≡◌ {A = Entry} (record { id = record { 0 = 0 }; status = Active }) (entry_of (get_or rows i no_row))
unfolding status_in
entry_past rows i h = rw (get_or-eq_default rows no_row h)

-- ---- `with_status`: n rows are held, p is the place of e's id

accepted : (N : ℕ) (rows : List (List ℕ)) (count : ℕ) (e : Entry) (a : List (List ℕ)) (n : ℕ) → length (insert_by row_id (row_of e) (take count rows)) ≡ n → n ≤ N →
    a ≡ laid_on rows (insert_by row_id (row_of e) (take count rows)) → rowed_as 0 n a ≡ set_row N rows count e
unfolding set_row
accepted N rows count e a n h p f =
    let l = insert_by row_id (row_of e) (take count rows) in
    let few : leb (length l) N ≡ true = le-leb (length l) N (omega arith) in
    rw (f, few, h)

module _ (N : ℕ) (rows : List (List ℕ)) (count : ℕ) (e : Entry) (n p : ℕ) (len : length rows ≡ N) (held : n ≡ min count N) (place : p ≡ place_by row_id (id_of e) (take count rows)) where
  at : p ≡ place_by row_id (id_of e) (take n rows)
  at = rw (held, take_min rows count N len) place

  pub with-hit : p < n → row_id (get_or rows p no_row) ≡ id_of e → rowed_as 0 n (set rows p (row_of e)) ≡ set_row N rows count e
  with-hit h q =
      accepted N rows count e (set rows p (row_of e)) n (hit-count row_id no_row rows count N n p (row_of e) len held at h q) (omega arith)
      (hit-array row_id no_row rows count N n p (row_of e) len held at h q)

  module _ (fresh : p < n → row_id (get_or rows p no_row) ≡ id_of e → ⊥) where
    size : length (insert_by row_id (row_of e) (take count rows)) ≡ n + 1
    size = new-count row_id no_row rows count N n p (row_of e) len held at fresh

    pub with-full : N ≤ n → rowed_as 7 count rows ≡ set_row N rows count e
    unfolding set_row
    with-full h = rw (lt-leb (length (insert_by row_id (row_of e) (take count rows))) N (omega (arith, size)))

    pub with-new : (b : List (List ℕ)) → n < N → b ≡ take p rows ++ row_of e ∷ take (n - p) (drop p rows) ++ drop (n + 1) rows → rowed_as 0 (n + 1) b ≡ set_row N rows count e
    with-new b h q =
        accepted N rows count e b (n + 1) size (omega arith) (new-array row_id no_row rows count N n p (row_of e) len held at fresh b q)

-- number and count are the same whatever the status
same_size : (i : TransactionId) (s t : Status) (l : List (List ℕ)) →
    length (insert_by row_id (row_of (record { id = i; status = s })) l) ≡ length (insert_by row_id (row_of (record { id = i; status = t })) l)
unfolding insert_by
same_size i s t [] = refl
same_size i s t (x ∷ l) = go (ltb (row_id x) i.0) (eqb (row_id x) i.0) (same_size i s t l)
  where
    go : (b c : Bool) → length (insert_by row_id (row_of (record { id = i; status = s })) l) ≡ length (insert_by row_id (row_of (record { id = i; status = t })) l) →
        length (cond b (x ∷ insert_by row_id (row_of (record { id = i; status = s })) l) (cond c (row_of (record { id = i; status = s }) ∷ l) (row_of (record { id = i; status = s }) ∷ x ∷ l))) ≡
        length (cond b (x ∷ insert_by row_id (row_of (record { id = i; status = t })) l) (cond c (row_of (record { id = i; status = t }) ∷ l) (row_of (record { id = i; status = t }) ∷ x ∷ l)))
    go true c h = ap suc h
    go false true h = refl
    go false false h = refl

pub kept_same : (N : ℕ) (rows : List (List ℕ)) (count : ℕ) (i : TransactionId) (s t : Status) →
    row_kept (set_row N rows count (record { id = i; status = s })) ≡ row_kept (set_row N rows count (record { id = i; status = t }))
unfolding set_row
kept_same N rows count i s t =
    go (length (insert_by row_id (row_of (record { id = i; status = s })) (take count rows))) (length (insert_by row_id (row_of (record { id = i; status = t })) (take count rows)))
    (laid_on rows (insert_by row_id (row_of (record { id = i; status = s })) (take count rows))) (laid_on rows (insert_by row_id (row_of (record { id = i; status = t })) (take count rows)))
    (same_size i s t (take count rows))
  where
    pick : (b : Bool) (m : ℕ) (a a' : List (List ℕ)) → row_kept (cond b (rowed_as 0 m a) (rowed_as 7 count rows)) ≡ row_kept (cond b (rowed_as 0 m a') (rowed_as 7 count rows))
    pick true m a a' = refl
    pick false m a a' = refl

    go : (m n : ℕ) (a a' : List (List ℕ)) → m ≡ n → row_kept (cond (leb m N) (rowed_as 0 m a) (rowed_as 7 count rows)) ≡ row_kept (cond (leb n N) (rowed_as 0 n a') (rowed_as 7 count rows))
    go m n a a' e = rw e (pick (leb n N) n a a')

-- ---- what the rows are read as

status-back : (s : Status) → status_in (tag_of s) (time_of s) ≡ s
unfolding status_in
status-back Active = refl
status-back (Committed t) = refl
status-back Aborted = refl

pub row_back : (e : Entry) → entry_of (row_of e) ≡ e
row_back e = ap (λ (s : Status). record { id = e.id; status = s }) (status-back e.status)

pub map-join : (a b : List (List ℕ)) → map entry_of (a ++ b) ≡ map entry_of a ++ map entry_of b
map-join [] b = refl
map-join (x ∷ a) b = ap (λ (l : List Entry). entry_of x ∷ l) (map-join a b)

pub map_first : (n : ℕ) (a : List (List ℕ)) → map entry_of (take n a) ≡ take n (map entry_of a)
map_first zero a = refl
map_first (suc n) [] = refl
map_first (suc n) (x ∷ a) = ap (λ (l : List Entry). entry_of x ∷ l) (map_first n a)

pub map-rest : (n : ℕ) (a : List (List ℕ)) → map entry_of (drop n a) ≡ drop n (map entry_of a)
map-rest zero a = refl
map-rest (suc n) [] = refl
map-rest (suc n) (x ∷ a) = map-rest n a

pub set_is : (e : Entry) (l : List (List ℕ)) → map entry_of (insert_by row_id (row_of e) l) ≡ insert_entry e (map entry_of l)
unfolding insert_by
set_is e [] = ap (λ (x : Entry). x ∷ []) (row_back e)
set_is e (x ∷ l) = go (ltb (row_id x) (id_of e)) (eqb (row_id x) (id_of e)) (set_is e l)
  where
    go : (b c : Bool) → map entry_of (insert_by row_id (row_of e) l) ≡ insert_entry e (map entry_of l) →
        map entry_of (cond b (x ∷ insert_by row_id (row_of e) l) (cond c (row_of e ∷ l) (row_of e ∷ x ∷ l))) ≡ cond b (entry_of x ∷ insert_entry e (map entry_of l)) (cond c (e ∷ map entry_of l) (e ∷ entry_of x ∷ map entry_of l))
    go true c h = ap (λ (m : List Entry). entry_of x ∷ m) h
    go false true h = ap (λ (y : Entry). y ∷ map entry_of l) (row_back e)
    go false false h = ap (λ (y : Entry). y ∷ entry_of x ∷ map entry_of l) (row_back e)

-- the number and the table of crate table's `inserted`
abbrev pub read_as : Rowed → Inserted
read_as r = record { number = r.number; table = table_of r.count r.rows }

pub set-is-inserted : (N : ℕ) (rows : List (List ℕ)) (count : ℕ) (e : Entry) → read_as (set_row N rows count e) ≡ inserted N (table_of count rows) e
unfolding set_row inserted bounded
set-is-inserted N rows count e =
    let l = insert_by row_id (row_of e) (take count rows) in
    let m = insert_entry e (take count (map entry_of rows)) in
    let s : map entry_of l ≡ m = set_is e (take count rows) ∙ ap (insert_entry e) (map_first count rows) in
    let z : length l ≡ length m = sym (length-map l entry_of) ∙ ap length s in
    go (leb (length l) N) l m s z (ap (λ (k : ℕ). leb k N) z)
  where
    laid_as : (l : List (List ℕ)) (m : List Entry) → map entry_of l ≡ m → length l ≡ length m → map entry_of (laid_on rows l) ≡ laid_on (map entry_of rows) m
    laid_as l m s z = rw (map-join l (drop (length l) rows), map-rest (length l) rows, s, z)

    go : (b : Bool) (l : List (List ℕ)) (m : List Entry) → map entry_of l ≡ m → length l ≡ length m → b ≡ leb (length m) N →
        read_as (cond b (rowed_as 0 (length l) (laid_on rows l)) (rowed_as 7 count rows)) ≡ cond (leb (length m) N) (record { number = 0; table = record { entries = laid_on (map entry_of rows) m; count = length m } }) (record { number = 7; table = table_of count rows })
    go true l m s z q = rw (← q, laid_as l m s z, z)
    go false l m s z q = rw (← q)

-- ---- order, and rows that are statuses

not-ltb : (a b : ℕ) → not (ltb a b) ≡ leb b a
not-ltb a b = go (order a b)
  where
    go : Order a b → not (ltb a b) ≡ leb b a
    go (less h) = rw (lt-ltb a b h, lt-leb b a h)
    go (most h) = rw (le-ltb a b h, le-leb b a h)

pub rising-is : (l : List (List ℕ)) → ascending_by row_id l ≡ ascending (map entry_of l)
unfolding ascending_by
rising-is [] = refl
rising-is (x ∷ []) = refl
rising-is (x ∷ y ∷ l) = ap (λ (b : Bool). ltb (row_id x) (row_id y) && b) (rising-is (y ∷ l))

-- what `is_bad` finds: an odd row, or an order that is broken
pub bad-is : (l : List (List ℕ)) → bad_rows l ≡ (any_odd l || not (ascending (map entry_of l)))
unfolding bad_rows any_odd ascending_by
bad-is l = all l ∙ ap (λ (b : Bool). any_odd l || not b) (rising-is l)
  where
    join : (a b c d : Bool) → ((a || not b) || (c || not d)) ≡ ((a || c) || not (b && d))
    join true b c d = refl
    join false true c d = refl
    join false false true d = refl
    join false false false d = refl

    all : (l : List (List ℕ)) → bad_rows l ≡ (any_odd l || not (ascending_by row_id l))
    all [] = refl
    all (r ∷ l) = rw (all l) (join (odd_row r) (below_by row_id (row_id r) l) (any_odd l) (ascending_by row_id l))

pub bad-none : (a : List (List ℕ)) (n : ℕ) → n ≡ 0 → bad_rows (take n a) ≡ false
unfolding bad_rows
bad-none a n h = rw h

-- a row and the next
pub bad-on : (a : List (List ℕ)) (n i : ℕ) → i + 1 < n → n ≤ length a →
    bad_rows (drop i (take n a)) ≡ ((odd_row (get_or a i no_row) || leb (row_id (get_or a (i + 1) no_row)) (row_id (get_or a i no_row))) || bad_rows (drop (i + 1) (take n a)))
unfolding bad_rows
bad-on a n i h p = rw (front a n i no_row (omega arith) (omega arith), front a n (i + 1) no_row (omega arith) (omega arith), not-ltb (row_id (get_or a i no_row)) (row_id (get_or a (i + 1) no_row)))

-- the last row
pub bad_last : (a : List (List ℕ)) (n i : ℕ) → i + 1 ≡ n → n ≤ length a → bad_rows (drop i (take n a)) ≡ (odd_row (get_or a i no_row) || false)
unfolding bad_rows
bad_last a n i h p = rw (front a n i no_row (omega arith) (omega arith), done a n (i + 1) (omega arith)) (go (odd_row (get_or a i no_row)))
  where
    go : (b : Bool) → ((b || false) || false) ≡ (b || false)
    go true = refl
    go false = refl

-- what is no odd row is read and written back
status-sound : (g t : ℕ) → (not (eqb g 1) && (ltb 2 g || not (eqb t 0))) ≡ false → (tag_of (status_in g t) ≡ g) × (time_of (status_in g t) ≡ t)
unfolding status_in
status-sound zero zero h = (refl, refl)
status-sound zero (suc t) h =
    let n : eqb (suc t) 0 ≡ false = ne_eqb (suc t) 0 (λ e. omega arith) in
    let k = rw n at h in
    let z : ◌≡◌ {A = ℕ} 0 1 = cc in absurd (omega arith)
status-sound (suc zero) t h = (refl, refl)
status-sound (suc (suc zero)) zero h = (refl, refl)
status-sound (suc (suc zero)) (suc t) h =
    let n : eqb (suc t) 0 ≡ false = ne_eqb (suc t) 0 (λ e. omega arith) in
    let k = rw n at h in
    let z : ◌≡◌ {A = ℕ} 0 1 = cc in absurd (omega arith)
status-sound (suc (suc (suc g))) t h =
    let o : ltb 2 (suc (suc (suc g))) ≡ true = lt-ltb 2 (suc (suc (suc g))) (omega arith) in
    let n : eqb (suc (suc (suc g))) 1 ≡ false = ne_eqb (suc (suc (suc g))) 1 (λ e. omega arith) in
    let k = rw (n, o) at h in
    let z : ◌≡◌ {A = ℕ} 0 1 = cc in absurd (omega arith)

three : (r : List ℕ) → length r ≡ 3 → get_or r 0 0 ∷ get_or r 1 0 ∷ get_or r 2 0 ∷ [] ≡ r
three [] h = absurd (omega arith)
three (a ∷ []) h = absurd (omega arith)
three (a ∷ b ∷ []) h = absurd (omega arith)
three (a ∷ b ∷ c ∷ []) h = refl
three (a ∷ b ∷ c ∷ d ∷ r) h = absurd (omega arith)

sized : (n : ℕ) → not (eqb n 3) ≡ false → n ≡ 3
sized n h = go (eqb n 3) refl h
  where
    go : (b : Bool) → eqb n 3 ≡ b → not b ≡ false → n ≡ 3
    go true q h = eqb-true n 3 q
    go false q h = let z : ◌≡◌ {A = ℕ} 0 1 = cc in absurd (omega arith)

pub sound : (r : List ℕ) → odd_row r ≡ false → row_of (entry_of r) ≡ r
unfolding odd_row
sound r h =
    let k = neither (not (eqb (length r) 3)) _ h in
    let s = status-sound (get_or r 1 0) (get_or r 2 0) k.1 in
    rw (s.0, s.1) (three r (sized (length r) k.0))

pub sound-all : (l : List (List ℕ)) → any_odd l ≡ false → map row_of (map entry_of l) ≡ l
unfolding any_odd
sound-all [] h = refl
sound-all (r ∷ l) h =
    let k = neither (odd_row r) (any_odd l) h in
    rw (sound r k.0, sound-all l k.1)

-- tests, one after another
pub or-then : (a b d : Bool) → ((a || b) || d) ≡ (a || (b || d))
or-then true b d = refl
or-then false b d = refl

-- the first count of a list are its first n
pub held_first : (l : List (List ℕ)) (n count : ℕ) → length l ≡ 256 → n ≡ min count 256 → take n l ≡ take count l
held_first l n count p e = rw e (take_min l count 256 p)
