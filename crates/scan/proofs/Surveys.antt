-- Laws of the number of an opening and of its tables, over the page size P: what a valid clog holds, the log's table over it, and one law for each way out of
-- `survey`. Assumes nothing.
use mathlib.Core.Path.{◌≡◌, refl, sym, ap, ◌∙◌}
use mathlib.Core.List.{List, []}
use mathlib.Core.Bool.{Bool, true, false, cond, ◌||◌}
use Prim.Native.Nat.{ℕ, zero, suc, ◌≤◌, ◌<◌}
use native.Mathlib.Omega.{arith}
use borrow.Author.Tests.{lt-ltb, le-ltb}
use lib.Dec.{ltb}
use lib.ListN.{length}
use Rattle.fields.specs.Files.{File, content, room, unfit}
use Rattle.std.specs.Prelude.{Result, Ok, Err}
use Rattle.fields.specs.declared.refusal.Refusal.{Refusal}
use Rattle.fields.specs.declared.refusal.Refusal.TheVariants.{Unfit}
use Rattle.fields.specs.Refusals.{number_of}
use Rattle.fields.specs.Answers.{decided, told}
use Rattle.fields.proofs.AnswerLaws.{number-positive, number-same, number_in-same}
use Rattle.fields.proofs.Tests.{Order, less, most, order}
use Rattle.fields.proofs.FileLaws.{fit-means}
use Rattle.table.specs.declared.Entry.{Entry}
use Rattle.table.specs.declared.Table.{Table}
use Rattle.table.specs.Entries.{Inserted, inserted_of, list_of, empty_table, laid, insert_all, active_to_aborted, bounded, overlaid, settled_table}
use Rattle.table.proofs.Facts.{list-laid, laid-laid, over-grows, settle-size, bounded-yes, bounded-no}
use Rattle.clog.specs.Slots.{valid_clog, entries_in, in_use}
use Rattle.clog.proofs.Refusals.{fit-ok}
use Rattle.clog.specs.Calls as calls
use Rattle.clog.specs.Calls.{Loaded, loaded_of, load_no, table_by, load_decided, loaded, Seen, seen, seen_of}
use Rattle.clog.proofs.TableLaws.{valid-long}
use Rattle.meta.specs.Page.{format_no}
use Rattle.world.specs.World.{Files}
use Rattle.world.specs.Refusals.{or_else, bad_buffers}
use Rattle.world.proofs.FormLaws.{none_of}
use Rattle.opening.specs.Opening.{records, statuses, log_table, clog_table, full_table, open_room_no, open_no}
use Rattle.opening.proofs.Tables.{clog-none, clog-held, log-within}
use Rattle.scan.specs.declared.Findings.{Findings}
use Rattle.scan.specs.declared.Tables.{Tables}
use Rattle.scan.specs.Scans.{held_of, Scanned, scanned_of, found, scanned}
use Rattle.scan.specs.Surveys.{Surveyed, surveyed_of, surveyed}
use Rattle.scan.specs.Inside.{refusal, room_by, together}
use Rattle.scan.proofs.Held.{too-many, hold-none, decided-no}

-- ---- what a clog holds

module _ (clog : File) where
  pub in-none : valid_clog clog ≡ false → held_of (Ok (empty_table 256)) ≡ bounded 256 (empty_table 256) (clog_table clog)
  in-none v = rw (clog-none clog v, hold-none 256)

  -- a clog that fits its buffer and is valid can be read
  can-read : unfit 1048576 (room clog) clog.len ≡ false → valid_clog clog ≡ true → calls.unfit 8 (room clog) clog.len ≡ false
  can-read u v = let m = fit-means _ _ _ u in fit-ok 8 (room clog) clog.len m.0 m.1 (valid-long clog v)

  -- what a load says, in a table's terms
  loaded-held : (len : ℕ) (r : Result Table Refusal) →
      held_of r ≡ record { number = (told (loaded_of len r).answer).number; table = (loaded_of len r).table }
  loaded-held len (Ok t) = refl
  loaded-held len (Err r) = refl

  in-loaded : unfit 1048576 (room clog) clog.len ≡ false → valid_clog clog ≡ true → (l : Loaded) → seen l ≡ seen_of (loaded 256 8 0 clog) →
      Order 256 (length (entries_in 8 0 (content clog))) →
      ◌≡◌ {A = Inserted} (record { number = (told l.answer).number; table = l.table }) (bounded 256 (empty_table 256) (entries_in 8 0 (content clog)))
  unfolding loaded load_no in_use load_decided table_by decided
  in-loaded u v l e (less p) =
      let n = ap (λ (s : Seen). s.told.number) e in
      let t = ap (λ (s : Seen). s.table) e in
      rw (n, t, can-read u v, lt-ltb _ _ p, bounded-no 256 (empty_table 256) _ p)
  in-loaded u v l e (most p) =
      let n = ap (λ (s : Seen). s.told.number) e in
      let t = ap (λ (s : Seen). s.table) e in
      rw (n, t, can-read u v, le-ltb _ _ p, bounded-yes 256 (empty_table 256) _ p)

  pub in-read : unfit 1048576 (room clog) clog.len ≡ false → valid_clog clog ≡ true → (len : ℕ) (r : Result Table Refusal) →
      seen (loaded_of len r) ≡ seen_of (loaded 256 8 0 clog) → held_of r ≡ bounded 256 (empty_table 256) (clog_table clog)
  in-read u v len r e = loaded-held len r ∙ rw (clog-held clog v) (in-loaded u v (loaded_of len r) e (order _ _))

-- ---- the log's table over the clog's

-- both tables by the length of the second, m: 7 where it is over N
unfoldable tables_by : ℕ → List Entry → List Entry → Surveyed
tables_by N a m =
    let n : ℕ = cond (ltb N (length m)) 7 0 in
    record { number = n; logged = table_by N n a; full = table_by N n m }

tables-full : (N : ℕ) (a m : List Entry) → N < length m → tables_by N a m ≡ refusal N 7
unfolding tables_by refusal table_by
tables-full N a m h = rw (lt-ltb N (length m) h)

tables-fit : (N : ℕ) (a m : List Entry) → length m ≤ N → tables_by N a m ≡ record { number = 0; logged = laid (empty_table N) a; full = laid (empty_table N) m }
unfolding tables_by table_by
tables-fit N a m h = rw (le-ltb N (length m) h)

settled-laid : (t : Table) (l : List Entry) → settled_table (laid t l) ≡ laid t (active_to_aborted l)
unfolding settled_table
settled-laid t l = rw list-laid (laid-laid t l (active_to_aborted l) (omega (arith, settle-size l)))

module _ (N : ℕ) (l k : List Entry) (long : length (active_to_aborted l) ≤ length (insert_all (active_to_aborted l) k)) where
  join : Order N (length l) → Order N (length k) → Order N (length (insert_all (active_to_aborted l) k)) →
      together N (bounded N (empty_table N) l) (bounded N (empty_table N) k) ≡ tables_by N (active_to_aborted l) (insert_all (active_to_aborted l) k)
  unfolding together overlaid
  join (less p) q r =
      let h : N < length (insert_all (active_to_aborted l) k) = omega (arith, settle-size l) in
      rw (bounded-no N (empty_table N) l p, tables-full N (active_to_aborted l) _ h)
  join (most p) (less q) r =
      let h : N < length (insert_all (active_to_aborted l) k) = omega (arith, over-grows (active_to_aborted l) k) in
      rw (bounded-yes N (empty_table N) l p, bounded-no N (empty_table N) k q, tables-full N (active_to_aborted l) _ h)
  join (most p) (most q) (less r) =
      rw (
        bounded-yes N (empty_table N) l p,
        bounded-yes N (empty_table N) k q,
        settled-laid (empty_table N) l,
        list-laid (empty_table N) (active_to_aborted l),
        list-laid (empty_table N) k,
        bounded-no N (laid (empty_table N) k) _ r,
        tables-full N (active_to_aborted l) _ r,
      )
  join (most p) (most q) (most r) =
      rw (
        bounded-yes N (empty_table N) l p,
        bounded-yes N (empty_table N) k q,
        settled-laid (empty_table N) l,
        list-laid (empty_table N) (active_to_aborted l),
        list-laid (empty_table N) k,
        bounded-yes N (laid (empty_table N) k) _ r,
        laid-laid (empty_table N) k (insert_all (active_to_aborted l) k) (over-grows (active_to_aborted l) k),
        tables-fit N (active_to_aborted l) _ r,
      )

-- each way that laying the one over the other goes
module _ (N : ℕ) (h c : Inserted) where
  over-log : (h.number ≡ 0 → ⊥) → refusal N 7 ≡ together N h c
  unfolding together
  over-log p = sym (decided-no h.number _ (refusal N 7) p)

  over-clog : h.number ≡ 0 → (c.number ≡ 0 → ⊥) → refusal N 7 ≡ together N h c
  unfolding together
  over-clog p q = rw p (sym (decided-no c.number _ (refusal N 7) q))

  module _ (p : h.number ≡ 0) (q : c.number ≡ 0) (t : Table) (e : t ≡ settled_table h.table) (r : Inserted) (f : r ≡ overlaid N c.table t) where
    over-both : (r.number ≡ 0 → ⊥) → refusal N 7 ≡ together N h c
    unfolding together
    over-both n = rw (p, q, ← e, ← f) (sym (decided-no r.number _ (refusal N 7) n))

    over-fits : r.number ≡ 0 → ◌≡◌ {A = Surveyed} (record { number = 0; logged = t; full = r.table }) (together N h c)
    unfolding together
    over-fits n = rw (p, q, ← e, ← f, n)

-- ---- the ways out of `survey`

or-first : (n m : ℕ) → (n ≡ 0 → ⊥) → or_else n m ≡ n
or-first zero m h = absurd (h refl)
or-first (suc n) m h = refl

module _ (P : ℕ) (f : Files) (frames : List ℕ) where
  numbered : (n : ℕ) → (n ≡ 0 → ⊥) → open_no P f frames ≡ n → refusal 256 n ≡ surveyed P f frames
  unfolding refusal surveyed table_by
  numbered zero h e = absurd (h refl)
  numbered (suc n) h e = rw e

  -- a result that is refused
  refused : (r : Refusal) (n : ℕ) → number_of r ≡ n → refusal 256 n ≡ surveyed P f frames → surveyed_of (Err r) ≡ surveyed P f frames
  unfolding refusal
  refused r n e g = rw (← e) at g

  met : (r : Refusal) → number_of r ≡ 0 → ⊥
  met r z = omega (arith, number-positive r)

  pub survey-unfit : bad_buffers P f frames ≡ true → surveyed_of (Err Unfit) ≡ surveyed P f frames
  unfolding open_no
  survey-unfit b = refused Unfit 1 refl (numbered 1 (λ z. omega arith) (rw b))

  module _ (b : bad_buffers P f frames ≡ false) where
    pub clog-fits : unfit 1048576 (room f.clog) f.clog.len ≡ false
    unfolding bad_buffers
    clog-fits = none_of _ 2 b

    pub survey-format : (r : Refusal) → number_of r ≡ format_no P f.db → surveyed_of (Err r) ≡ surveyed P f frames
    unfolding open_no
    survey-format r e = refused r _ refl (numbered (number_of r) (met r) (rw (b, ← e) (or-first (number_of r) _ (met r))))

    module _ (z : format_no P f.db ≡ 0) (s : Scanned) (e : s ≡ scanned P (room f.db) (room f.clog) f.log) where
      is_found : s ≡ found P (room f.db) (room f.clog) f.log
      unfolding bad_buffers scanned
      is_found = e ∙ rw (none_of _ 0 b)

      room-is : open_room_no P f ≡ or_else (room_by s (room f.log) (room f.clog)) (cond (ltb 256 (length (full_table P f))) 7 0)
      unfolding open_room_no room_by found
      room-is =
          let k = found P (room f.db) (room f.clog) f.log in
          rw is_found (go (ltb (room f.log) 8) k.images (ltb (room f.clog) 8 || k.ids))
        where
          go : (x y w : Bool) → cond x 4 (cond y 5 (cond w 6 (cond (ltb 256 (length (full_table P f))) 7 0)))
              ≡ or_else (cond x 4 (cond y 5 (cond w 6 0))) (cond (ltb 256 (length (full_table P f))) 7 0)
          go true y w = refl
          go false true w = refl
          go false false true = refl
          go false false false = refl

      pub survey-room : (r : Refusal) → number_of r ≡ room_by s (room f.log) (room f.clog) → surveyed_of (Err r) ≡ surveyed P f frames
      unfolding open_no
      survey-room r g =
          let n = number_of r in
          refused r n refl (numbered n (met r) (rw (b, z, room-is, ← g, or-first n _ (met r)) (or-first n _ (met r))))

      module _ (y : room_by s (room f.log) (room f.clog) ≡ 0) (t : Surveyed)
          (g : t ≡ together 256 s.held (bounded 256 (empty_table 256) (clog_table f.clog))) where
        tables-are : t ≡ tables_by 256 (log_table P f.log) (full_table P f)
        unfolding found log_table full_table
        tables-are =
            g
            ∙ rw is_found
            (join 256 (insert_all (statuses (records P f.log)) []) (clog_table f.clog) (log-within P f) (order _ _) (order _ _) (order _ _))

        over-full : (t.number ≡ 0 → ⊥) → t ≡ surveyed P f frames
        unfolding open_no
        over-full n = go (order 256 (length (full_table P f)))
          where
            go : Order 256 (length (full_table P f)) → t ≡ surveyed P f frames
            go (less p) =
                tables-are ∙ tables-full 256 _ _ p ∙ numbered 7 (λ z. omega arith) (rw (b, z, room-is, y, lt-ltb 256 (length (full_table P f)) p))
            go (most p) = absurd (n (rw (tables-are ∙ tables-fit 256 _ _ p)))

        module _ (n : t.number ≡ 0) where
          few : length (full_table P f) ≤ 256
          few = go (order 256 (length (full_table P f)))
            where
              go : Order 256 (length (full_table P f)) → length (full_table P f) ≤ 256
              go (most p) = p
              go (less p) =
                  let k : t.number ≡ 7 = unfold refusal in ap (λ (x : Surveyed). x.number) (tables-are ∙ tables-full 256 _ _ p) in
                  absurd (omega arith)

          no-is : open_no P f frames ≡ s.ending
          unfolding open_no found
          no-is = rw (b, z, room-is, y, le-ltb 256 (length (full_table P f)) few, is_found)

          bad-ending : (s.ending ≡ 0 → ⊥) → refusal 256 s.ending ≡ surveyed P f frames
          bad-ending h = numbered s.ending h no-is

          well-ended : s.ending ≡ 0 → t ≡ surveyed P f frames
          unfolding surveyed table_by
          well-ended h = tables-are ∙ tables-fit 256 _ _ few ∙ rw (no-is, h)

      module _ (y : room_by s (room f.log) (room f.clog) ≡ 0) where
        in_log : s.held ≡ bounded 256 (empty_table 256) (insert_all (statuses (records P f.log)) [])
        unfolding found
        in_log = ap (λ (x : Scanned). x.held) is_found

        no-room : (r : Refusal) → number_of r ≡ 7 → refusal 256 7 ≡ together 256 s.held (bounded 256 (empty_table 256) (clog_table f.clog)) →
            surveyed_of (Err r) ≡ surveyed P f frames
        unfolding refusal
        no-room r n g = refused r 7 n (over-full y (refusal 256 7) g (λ k. omega arith))

        -- the log's statuses are of too many ids
        pub survey-log : (r : Refusal) → s.held ≡ held_of (Err r) → surveyed_of (Err r) ≡ surveyed P f frames
        survey-log r h =
            no-room r (too-many 256 _ _ _ r (sym h ∙ in_log))
            (over-log 256 s.held _ (λ k. met r (sym (ap (λ (x : Inserted). x.number) h) ∙ k)))

        module _ (t : Table) (h : s.held ≡ held_of (Ok t)) where
          -- what the clog holds is too much
          pub survey-clog : (r : Refusal) → held_of (Err r) ≡ bounded 256 (empty_table 256) (clog_table f.clog) → surveyed_of (Err r) ≡ surveyed P f frames
          survey-clog r g =
              no-room r (too-many 256 _ _ _ r g)
              (over-clog 256 s.held _ (ap (λ (x : Inserted). x.number) h) (λ k. met r (ap (λ (x : Inserted). x.number) g ∙ k)))

          module _ (logged : Table) (l : logged ≡ settled_table t) (old : Table) (o : held_of (Ok old) ≡ bounded 256 (empty_table 256) (clog_table f.clog)) where
            settled_is : logged ≡ settled_table s.held.table
            settled_is = l ∙ ap (λ (x : Inserted). settled_table x.table) (sym h)

            over_is : (r : Inserted) → r ≡ overlaid 256 old logged → r ≡ overlaid 256 (bounded 256 (empty_table 256) (clog_table f.clog)).table logged
            over_is r g = g ∙ ap (λ (x : Inserted). overlaid 256 x.table logged) o

            -- both together are too many
            pub survey-both : (r : Refusal) → inserted_of old (Err r) ≡ overlaid 256 old logged → surveyed_of (Err r) ≡ surveyed P f frames
            survey-both r g =
                let n : number_of r ≡ 7 = unfold overlaid in too-many 256 old old (insert_all (list_of logged) (list_of old)) r g in
                no-room r n
                (over-both 256 s.held _ (ap (λ (x : Inserted). x.number) h) (sym (ap (λ (x : Inserted). x.number) o)) logged settled_is (inserted_of old (Err r)) (over_is _ g)
                (met r))

            module _ (full : Table) (g : inserted_of old (Ok full) ≡ overlaid 256 old logged) where
              fits : ◌≡◌ {A = Surveyed} (record { number = 0; logged = logged; full = full }) (together 256 s.held (bounded 256 (empty_table 256) (clog_table f.clog)))
              fits =
                  over-fits 256 s.held _ (ap (λ (x : Inserted). x.number) h) (sym (ap (λ (x : Inserted). x.number) o)) logged settled_is (inserted_of old (Ok full))
                  (over_is _ g) refl

              -- the log ends at a bad record
              pub survey-ending : (r : Refusal) → number_of r ≡ s.ending → surveyed_of (Err r) ≡ surveyed P f frames
              survey-ending r n = refused r s.ending n (bad-ending y _ fits refl (λ k. met r (n ∙ k)))

              pub survey-passed : s.ending ≡ 0 → surveyed_of (Ok (record { logged = logged; full = full })) ≡ surveyed P f frames
              survey-passed n = well-ended y _ fits refl n

-- ---- what is found and what is read fix the results

held-same : (a b : Result Table Refusal) → held_of a ≡ held_of b → a ≡ b
held-same (Ok t) (Ok u) e = ap (λ (h : Inserted). Ok h.table) e
held-same (Ok t) (Err r) e = let z : 0 ≡ number_of r = ap (λ (h : Inserted). h.number) e in absurd (omega (arith, number-positive r))
held-same (Err r) (Ok t) e = let z : number_of r ≡ 0 = ap (λ (h : Inserted). h.number) e in absurd (omega (arith, number-positive r))
held-same (Err r) (Err q) e = ap (λ q. Err q) (number-same r q (ap (λ (h : Inserted). h.number) e))

pub scanned-same : (a b : Findings) → scanned_of a ≡ scanned_of b → a ≡ b
scanned-same a b e =
    let i = ap (λ (s : Scanned). s.images) e in
    let d = ap (λ (s : Scanned). s.ids) e in
    let h = held-same a.held b.held (ap (λ (s : Scanned). s.held) e) in
    let n = number_in-same a.ending b.ending (ap (λ (s : Scanned). s.ending) e) in
    rw (i, d, h, n)

pub surveyed-same : (a b : Result Tables Refusal) → surveyed_of a ≡ surveyed_of b → a ≡ b
surveyed-same (Ok t) (Ok u) e = let l = ap (λ (s : Surveyed). s.logged) e in let f = ap (λ (s : Surveyed). s.full) e in let k : t ≡ u = rw (l, f) in ap (λ x. Ok x) k
surveyed-same (Ok t) (Err r) e = let z : 0 ≡ number_of r = ap (λ (s : Surveyed). s.number) e in absurd (omega (arith, number-positive r))
surveyed-same (Err r) (Ok t) e = let z : number_of r ≡ 0 = ap (λ (s : Surveyed). s.number) e in absurd (omega (arith, number-positive r))
surveyed-same (Err r) (Err q) e = ap (λ q. Err q) (number-same r q (ap (λ (s : Surveyed). s.number) e))
