-- Laws of the clog's part in an opening: an accepted answer and the buffer's bytes are the new file; a table recorded entry by entry, from the last one on; and
-- opening, loading and recording one after the other. Assumes nothing.
use mathlib.Core.Path.{◌≡◌, refl, sym, ap, ◌∙◌}
use mathlib.Core.List.Memᴰ
use mathlib.Core.List.{List, [], ◌∷◌, ◌++◌, map}
use mathlib.Core.Bool.{Bool, true, false}
use Prim.Native.Nat.{ℕ, zero, suc, ◌+◌, ◌-◌, ◌/◌, ◌≤◌, ◌<◌, max}
use native.Mathlib.Omega.{arith}
use borrow.Author.Tests.{lt-leb, le-ltb, leb-false}
use lib.ListN.{length, take, get_or, length-take}
use lib.Seq.{take-suc, get_or-take}
use Rattle.fields.proofs.Tests.{neither}
use Rattle.std.specs.Prelude.{Result, Ok, Err}
use Rattle.fields.specs.declared.refusal.Refusal.{Refusal}
use Rattle.fields.specs.Refusals.{number_of}
use Rattle.fields.proofs.AnswerLaws.{number-positive}
use Rattle.fields.specs.Files.{File, file_of, content, room, header, unfit}
use Rattle.fields.specs.Answers.{length_of, Outcome, told, outcome, decided}
use Rattle.fields.proofs.FileLaws.{fit-means, header-content}
use Rattle.table.specs.declared.Entry.{Entry}
use Rattle.table.specs.Entries.{blank, id_of}
use Rattle.table.specs.declared.Table.{Table}
use Rattle.clog.specs.Slots.{clog_magic, code_of, valid_clog, open_clog, set_slot, record_all, codes, entries_from, entries_in, in_use, settled}
use Rattle.clog.proofs.Refusals.{fit-ok}
use Rattle.clog.specs.Calls as calls
use Rattle.clog.specs.Calls.{Loaded, loaded_of, reset_no, record_no, load_no, wiped, recorded, LoadOutcome, load_outcome, load_decided, loaded}
use Rattle.clog.proofs.SlotLaws.{record-len, settled-len}
use Rattle.clog.proofs.TableLaws.{AllFit, record-append, open_kept, open-reset, open-room}
use Rattle.world.specs.Refusals.{any_of}
use Rattle.opening.specs.Opening.{past_clog, clog_table}
use Rattle.opening.proofs.Tables.{clog-held}
use Rattle.opening.proofs.Formed.{open-fits}

-- ---- an accepted answer

length-told : (r : Result ℕ Refusal) → length_of r ≡ get_or (told r).values 0 0
length-told (Ok len) = refl
length-told (Err r) = refl

pub answered : (r : Result ℕ Refusal) (bytes : List ℕ) (n : ℕ) (old new : File) → n ≡ 0 → outcome r bytes ≡ decided n old new → file_of bytes (length_of r) ≡ new
unfolding decided
answered r bytes n old new z e =
    let k : outcome r bytes ≡ record { told = record { number = 0; values = new.len ∷ [] }; bytes = new.bytes } = rw z at e in
    rw (length-told r) (ap (λ (o : Outcome). file_of o.bytes (get_or o.told.values 0 0)) k)

-- another length that fits
pub fit-len : (limit size len n : ℕ) → unfit limit size len ≡ false → n ≤ size → unfit limit size n ≡ false
unfolding unfit
fit-len limit size len n u h = let m = fit-means limit size len u in rw (le-ltb limit size m.0, le-ltb size n h)

-- ---- ids that have room

pub none-past : (size : ℕ) (l : List Entry) → AllFit 8 0 size l → any_of (map (past_clog size) l) ≡ false
unfolding any_of
none-past size [] a = refl
none-past size (e ∷ es) a =
    let z : id_of e - 0 ≡ id_of e = omega arith in
    let h : 8 + id_of e / 4 < size = rw z at (a e (Memᴰ.head refl)).1 in
    rw (lt-leb size (8 + id_of e / 4) h) (none-past size es (λ x m. a x (Memᴰ.tail m)))

index-false : (f : Entry → Bool) (l : List Entry) (i : ℕ) → any_of (map f l) ≡ false → i < length l → f (get_or l i blank) ≡ false
unfolding any_of
index-false f [] i a h = absurd (omega arith)
index-false f (x ∷ xs) zero a h = (neither (f x) _ a).0
index-false f (x ∷ xs) (suc i) a h = index-false f xs i (neither (f x) _ a).1 (omega arith)

-- ---- a turn of `record_all`: the entry k - 1 of the array is recorded, those before it are left

module _ (es : List Entry) (count k n : ℕ) (clog : List ℕ) (low : 0 < k) (held : k ≤ count) (inside : k ≤ length es)
    (past : any_of (map (past_clog (length clog)) (take count es)) ≡ false) (head : 8 ≤ n) (fits : n ≤ length clog) (small : length clog ≤ 1048576) where
  fit-here : past_clog (length clog) (get_or es (k - 1) blank) ≡ false
  fit-here =
      let l : k - 1 < length (take count es) = rw length-take (omega arith) in
      let c : k - 1 < count = omega arith in
      rw (get_or-take count es (k - 1) blank c) at (index-false (past_clog (length clog)) (take count es) (k - 1) past l)

  no_zero : record_no 8 0 (id_of (get_or es (k - 1) blank)) (length clog) n ≡ 0
  unfolding record_no
  no_zero =
      let z : id_of (get_or es (k - 1) blank) - 0 ≡ id_of (get_or es (k - 1) blank) = omega arith in
      rw (fit-ok 8 (length clog) n small fits head, le-ltb (id_of (get_or es (k - 1) blank)) 0 (omega arith), z, fit-here)

  pub record Put (r : Result ℕ Refusal) (out : List ℕ) : Type 0 where
    pub same : record_all 8 0 (take (k - 1) es) (file_of out (length_of r)) ≡ record_all 8 0 (take k es) (file_of clog n)
    pub longer : n ≤ length_of r
    pub within : length_of r ≤ length clog

  pub put : (r : Result ℕ Refusal) (out : List ℕ) →
      outcome r out ≡ recorded 8 0 (file_of clog n) (id_of (get_or es (k - 1) blank)) (code_of (get_or es (k - 1) blank).status) → Put r out
  unfolding recorded record_all
  put r out e =
      let x = get_or es (k - 1) blank in
      let z : id_of (get_or es (k - 1) blank) - 0 ≡ id_of (get_or es (k - 1) blank) = omega arith in
      let b : 8 + id_of (get_or es (k - 1) blank) / 4 < length clog = leb-past in
      let s : file_of out (length_of r) ≡ set_slot 8 (id_of x - 0) (code_of x.status) (file_of clog n) = answered r out _ _ _ no_zero e in
      let l : length_of r ≡ max n (8 + (id_of x - 0) / 4 + 1) = ap (λ (g : File). g.len) s ∙ record-len 8 (id_of x - 0) (code_of x.status) (file_of clog n) in
      let m : length_of r ≡ max n (8 + id_of x / 4 + 1) = rw z at l in
      let t : take k es ≡ take (k - 1) es ++ (x ∷ []) = one_more in
      record {
        same = rw (s, t) (sym (record-append 8 0 (take (k - 1) es) (x ∷ []) (file_of clog n)));
        longer = omega arith;
        within = omega arith;
      }
    where
      leb-past : 8 + id_of (get_or es (k - 1) blank) / 4 < length clog
      leb-past = leb-false _ _ fit-here

      one_more : take k es ≡ take (k - 1) es ++ (get_or es (k - 1) blank ∷ [])
      one_more =
          let i : k - 1 < length es = omega arith in
          let j : suc (k - 1) ≡ k = omega arith in
          rw j at (take-suc es (k - 1) blank i)

-- ---- open, load and reset are accepted

module _ (clog : File) (fit : unfit 1048576 (room clog) clog.len ≡ false) (large : 8 ≤ room clog) where
  reset-zero : reset_no (room clog) clog.len ≡ 0
  unfolding reset_no
  reset-zero =
      let m = fit-means _ _ _ fit in
      let z : 0 ≤ clog.len = omega arith in
      rw (fit-ok 0 (room clog) clog.len m.0 m.1 z, le-ltb (room clog) 8 large)

  pub is-reset : (r : Result ℕ Refusal) (out : List ℕ) → outcome r out ≡ wiped clog → file_of out (length_of r) ≡ header clog_magic clog
  unfolding wiped
  is-reset r out e = answered r out _ _ _ reset-zero e

  pub is_open : (r : Result ℕ Refusal) (out : List ℕ) → outcome r out ≡ calls.opened clog → file_of out (length_of r) ≡ open_clog clog
  unfolding calls.opened
  is_open r out e = answered r out _ _ _ reset-zero e

  open-use : length (clog_table clog) ≤ 256 → in_use 8 (content (open_clog clog)) ≤ 256
  unfolding in_use
  open-use h = go (valid_clog clog) refl
    where
      go : (x : Bool) → valid_clog clog ≡ x → length (entries_in 8 0 (content (open_clog clog))) ≤ 256
      go true v = rw (open_kept clog v) (rw (clog-held clog v) at h)
      go false v =
          let m : length clog_magic ≤ room clog = unfold clog_magic in large in
          let z : length (entries_in 8 0 clog_magic) ≡ 0 = unfold clog_magic entries_in codes entries_from in refl in
          rw (open-reset clog v, header-content clog_magic clog m, z) (omega arith)

  load-zero : length (clog_table clog) ≤ 256 → load_no 256 8 (open_clog clog) ≡ 0
  unfolding load_no
  load-zero h =
      let m = fit-means _ _ _ fit in
      let o = open-fits clog m.1 large in
      let s : room (open_clog clog) ≤ 1048576 = rw (open-room clog) m.0 in
      rw (fit-ok 8 (room (open_clog clog)) (open_clog clog).len s o.0 o.1, le-ltb 256 (in_use 8 (content (open_clog clog))) (open-use h))

  pub is-loaded : length (clog_table clog) ≤ 256 → (len : ℕ) (r : Result Table Refusal) (out : List ℕ) →
      load_outcome (loaded_of len r) out ≡ loaded 256 8 0 (open_clog clog) → file_of out len ≡ settled 8 (open_clog clog)
  unfolding loaded load_decided decided
  is-loaded h len (Ok t) out e =
      answered (Ok len) out (load_no 256 8 (open_clog clog)) (open_clog clog) (settled 8 (open_clog clog)) (load-zero h)
      (ap (λ (o : LoadOutcome). record { told = o.told; bytes = o.bytes }) e)
  is-loaded h len (Err r) out e =
      let n : number_of r ≡ 0 = ap (λ (o : LoadOutcome). o.told.number) e ∙ rw (load-zero h) in
      absurd (omega (arith, number-positive r))

  -- what is then recorded in
  pub record Loads (n : ℕ) : Type 0 where
    pub head : 8 ≤ n
    pub within : n ≤ room clog

  pub loads : (out : List ℕ) (n : ℕ) → file_of out n ≡ settled 8 (open_clog clog) → Loads n
  loads out n e =
      let m = fit-means _ _ _ fit in
      let o = open-fits clog m.1 large in
      let l : n ≡ (open_clog clog).len = ap (λ (g : File). g.len) e ∙ settled-len 8 (open_clog clog) in
      record { head = omega (arith, o.1); within = omega (arith, o.0, open-room clog) }
