-- Laws of rows read as entries, and of the log's rows set over those of the clog. Assumes nothing.
use Prim.Native.Nat.{ℕ, zero, suc, ◌≤◌, ◌<◌}
use native.Mathlib.Omega.{arith}
use mathlib.Core.Path.{◌≡◌, refl, sym, ap, subst, ◌∙◌}
use mathlib.Core.List.{List, [], ◌∷◌, map}
use mathlib.Core.Bool.{false}
use lib.ListN.{length, get_or}
use borrow.Author.Tests.{eq-eqb, ne_eqb}
use Rattle.fields.proofs.Tests.{Order, less, most, order}
use Rattle.fields.specs.Files.{file_of, room, unfit}
use Rattle.table.specs.declared.Entry.{Entry}
use Rattle.table.specs.Entries.{blank, id_of, insert_all}
use Rattle.rows.specs.declared.Filled.{Filled}
use Rattle.rows.specs.Rows.{status_in, entry_of, row_of, Rowed, rowed}
use Rattle.rows.proofs.Laws.{no_row, row_back}
use Rattle.rows.proofs.Several.{all_own, rows_of, holding, held_back, all-fits, all-full}
use Rattle.clog.specs.Slots.{settled}
use Rattle.world.specs.World.{Files}
use Rattle.opening.specs.Opening.{log_table, clog_table, full_table}
use Rattle.opening.proofs.Tables.{clog-ascending, clog-within}
use Rattle.sweeps.specs.Sweeps.{listed}
use Rattle.sweeps.proofs.Laws.{set_ended}
use Rattle.keyon.specs.Inside.{entries_of, joined}

pub entries-back : (l : List Entry) → map entry_of (map row_of l) ≡ l
entries-back [] = refl
entries-back (e ∷ l) = rw (row_back e, entries-back l)

-- the entry at a place
pub entry-there : (rows : List (List ℕ)) (i : ℕ) → get_or (map entry_of rows) i blank ≡ entry_of (get_or rows i no_row)
unfolding status_in
entry-there [] i = refl
entry-there (r ∷ rows) zero = refl
entry-there (r ∷ rows) (suc i) = entry-there rows i

-- what is held in front of an array, read
pub entries-held : (a : List (List ℕ)) (l : List Entry) → entries_of (length l) (rows_of a l) ≡ l
entries-held a l = ap (map entry_of) (held_back a l) ∙ entries-back l

module _ (P : ℕ) (f : Files) (fit : unfit 1048576 (room f.clog) f.clog.len ≡ false) (full : List (List ℕ)) where
  clog-own : insert_all (clog_table f.clog) [] ≡ clog_table f.clog
  clog-own = all_own id_of (clog_table f.clog) (clog-ascending f.clog)

  listed-fits : length (clog_table f.clog) ≤ 256 → listed full f.clog ≡ holding full (clog_table f.clog)
  unfolding listed
  listed-fits h =
      rw fit (all-fits 256 full (clog_table f.clog) [] (subst (λ (l : List Entry). length l ≤ 256) (sym clog-own) h) ∙ ap (holding full) clog-own)

  listed-full : 256 < length (clog_table f.clog) → (listed full f.clog).number ≡ 7
  unfolding listed
  listed-full h = rw fit (all-full 256 full (clog_table f.clog) [] (omega arith) (subst (λ (l : List Entry). 256 < length l) (sym clog-own) h))

  module _ (a : List (List ℕ)) (h : Filled) (logged : List (List ℕ)) (t : Rowed) (e : t ≡ joined h logged f.clog full) where
    -- both tables are held
    pub joined-fits : rowed h logged ≡ holding a (log_table P f.log) → length (full_table P f) ≤ 256 → t ≡ holding full (full_table P f)
    unfolding joined full_table
    joined-fits k m =
        let n : h.number ≡ 0 = ap (λ (r : Rowed). r.number) k in
        let c : h.count ≡ length (log_table P f.log) = ap (λ (r : Rowed). r.count) k in
        let l : logged ≡ rows_of a (log_table P f.log) = ap (λ (r : Rowed). r.rows) k in
        let x : entries_of h.count logged ≡ log_table P f.log = rw (c, l) (entries-held a (log_table P f.log)) in
        let w : length (clog_table f.clog) ≤ 256 = omega (arith, clog-within P f) in
        e ∙ rw (eq-eqb (h.number) 0 n, x, listed-fits w) (all-fits 256 full (log_table P f.log) (clog_table f.clog) m)

    pub joined-full : rowed h logged ≡ holding a (log_table P f.log) → 256 < length (full_table P f) → t.number ≡ 7
    unfolding joined full_table
    joined-full k m = go (order 256 (length (clog_table f.clog)))
      where
        n : h.number ≡ 0
        n = ap (λ (r : Rowed). r.number) k

        x : entries_of h.count logged ≡ log_table P f.log
        x =
            let c : h.count ≡ length (log_table P f.log) = ap (λ (r : Rowed). r.count) k in
            let l : logged ≡ rows_of a (log_table P f.log) = ap (λ (r : Rowed). r.rows) k in
            rw (c, l) (entries-held a (log_table P f.log))

        go : Order 256 (length (clog_table f.clog)) → t.number ≡ 7
        go (less p) =
            let q = listed-full p in
            let w : t ≡ listed full f.clog =
            e ∙ rw (eq-eqb (h.number) 0 n) (set_ended 256 (listed full f.clog) (entries_of h.count logged) (λ z. omega (arith, q, z))) in
            ap (λ (r : Rowed). r.number) w ∙ q
        go (most p) =
            ap (λ (r : Rowed). r.number) e ∙ rw (eq-eqb (h.number) 0 n, x, listed-fits p) (all-full 256 full (log_table P f.log) (clog_table f.clog) p m)

    pub joined-none : (h.number ≡ 0 → ⊥) → t.number ≡ 7
    unfolding joined
    joined-none n = ap (λ (r : Rowed). r.number) e ∙ rw (ne_eqb (h.number) 0 n)

-- a file whose bytes are settled
pub settled-file : (b out : List ℕ) (n : ℕ) → out ≡ (settled 8 (file_of b n)).bytes → file_of out n ≡ settled 8 (file_of b n)
unfolding settled
settled-file b out n e = ap (λ (l : List ℕ). file_of l n) e
