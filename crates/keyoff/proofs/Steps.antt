-- The kinds of stores that keep the invariant: a status logged and recorded, a page logged and written, meta written, the log cut back with a status recorded,
-- the clog compacted. P is the page size. Assumes nothing.
use mathlib.Core.Path.{◌≡◌, refl, sym, ap, ◌∙◌, subst}
use mathlib.Core.List.{List, [], ◌∷◌, ◌++◌, map-append, append-nil}
use mathlib.Core.Bool.{true, false}
use Prim.Native.Nat.{ℕ, ◌+◌, ◌*◌, ◌/◌, ◌^◌, ◌≤◌, ◌<◌}
use native.Mathlib.Omega.{arith}
use lib.ListN.{length, take, get_or}
use borrow.Author.Tests.{lt-leb}
use Rattle.fields.specs.declared.CommitTime.{CommitTime}
use Rattle.fields.specs.Files.{File, content, room, lay, append, header}
use Rattle.fields.proofs.Tests.{Equal, equal, other, equality, Order, less, most, order}
use Rattle.fields.proofs.ByteLaws.{length-bytes_of}
use Rattle.fields.proofs.FileLaws.{content-length, lay-room, lay-len, header-room, header-len}
use Rattle.wal.specs.Records.{log_magic, Record, image, begin, abort, encode}
use Rattle.wal.proofs.RecordLaws.{Sound}
use Rattle.table.specs.declared.Status.{Status}
use Rattle.table.specs.declared.Status.TheVariants.{Active, Committed, Aborted}
use Rattle.table.specs.declared.Entry.{Entry}
use Rattle.std.specs.Prelude.{Option, Some, None}
use Rattle.table.specs.Entries.{insert_entry, status_of}
use Rattle.table.proofs.Facts.{set-ascending, status-set, status-kept, or_known, absent-not, no-status, own-status}
use Rattle.clog.specs.Slots.{code_of, slot_of, valid_clog, set_slot, clear_slots}
use Rattle.clog.proofs.FourSlots.{code-small}
use Rattle.clog.proofs.SlotLaws.{record-room, record-fit, record-header, record_same, record-other, compact-room, compact-len, compact-low, compact-high, compact-header}
use Rattle.clog.proofs.TableLaws.{known_as, valid-long, valid_same}
use Rattle.meta.specs.Page.{meta_page}
use Rattle.meta.proofs.Laws.{length-meta}
use Rattle.world.specs.World.{Files}
use Rattle.world.specs.Refusals.{any_of}
use Rattle.world.proofs.FormLaws.{none_more}
use Rattle.world.specs.Steps.{Log, Page, SetSlot, Compact, Truncate, apply}
use Rattle.opening.specs.Opening.{records, noted, statuses, past_clog}
use Rattle.opening.proofs.Tables.{last_word, other_word, statuses-more, word_more, word_none}
use Rattle.opening.proofs.LogFiles.{reads-long, cut-reads, cut-records, more-reads, more-records}
use Rattle.keyoff.specs.KeyOff.{kept}
use Rattle.opening.proofs.Replays.{imaged, imaged_all, imaged-append, agrees-none}
use Rattle.keyoff.proofs.Images.{Rest, all-longer, rest-append, agrees-page, agrees-zero}
use Rattle.keyoff.proofs.Page.{stands-kept, stands-laid}
use Rattle.keyoff.proofs.Invariant.{Marks, Inv}
use Rattle.keyoff.proofs.Start.{kept-code}

-- ---- statuses, id by id

-- one id takes a word, and no other changes
abbrev pub Sets : (ℕ → Option Status) → (ℕ → Option Status) → ℕ → Option Status → Type 0
Sets A B id k = (B id ≡ k) × ((t : ℕ) → (id ≡ t → ⊥) → B t ≡ A t)

sets-at : (A B : ℕ → Option Status) (id t : ℕ) (k : Option Status) → Sets A B id k → id ≡ t → B t ≡ k
sets-at A B id t k s e = subst (λ (j : ℕ). B j ≡ k) e s.0

-- clog and table take the status s of an id; the log says that of it or nothing, no commit, and of other ids no more than before
module _ (L C T L' C' T' : ℕ → Option Status) (id : ℕ) (s : Status) (mark size : ℕ) (fit : 8 + id / 4 < size)
    (clog : Sets C C' id (kept (Some s))) (table : Sets T T' id (Some s))
    (here : (u : Status) → L' id ≡ Some u → Some u ≡ Some s) (plain : (u : CommitTime) → L' id ≡ Some (Committed u) → ⊥)
    (elsewhere : (t : ℕ) → (id ≡ t → ⊥) → (u : Status) → L' t ≡ Some u → L t ≡ Some u) (m : Marks L C T mark size) where
  untimed : (t : ℕ) → Equal id t → (u : CommitTime) → L' t ≡ Some (Committed u) → ⊥
  untimed t (equal p) u h = plain u (subst (λ (j : ℕ). L' j ≡ Some (Committed u)) (sym p) h)
  untimed t (other n) u h = m.untimed t u (elsewhere t n (Committed u) h)

  logged : (t : ℕ) → Equal id t → (u : Status) → L' t ≡ Some u → T' t ≡ None → ⊥
  logged t (equal p) u h q = absent-not (T' t) s q (sets-at T T' id t (Some s) table p)
  logged t (other n) u h q = m.logged t u (elsewhere t n u h) (sym (table.1 t n) ∙ q)

  slotted : (t : ℕ) → Equal id t → T' t ≡ None → C' t ≡ None
  slotted t (equal p) q = absurd (absent-not (T' t) s q (sets-at T T' id t (Some s) table p))
  slotted t (other n) q = clog.1 t n ∙ m.slotted t (sym (table.1 t n) ∙ q)

  last : (t : ℕ) → Equal id t → mark ≤ t → (u : Status) → L' t ≡ Some u → T' t ≡ Some u
  last t (equal p) l u h = sets-at T T' id t (Some s) table p ∙ sym (here u (subst (λ (j : ℕ). L' j ≡ Some u) (sym p) h))
  last t (other n) l u h = table.1 t n ∙ m.last t l u (elsewhere t n u h)

  slots : (t : ℕ) → Equal id t → mark ≤ t → C' t ≡ kept (T' t)
  slots t (equal p) l = sets-at C C' id t (kept (Some s)) clog p ∙ sym (ap kept (sets-at T T' id t (Some s) table p))
  slots t (other n) l = clog.1 t n ∙ m.slots t l ∙ sym (ap kept (table.1 t n))

  fits : (t : ℕ) → Equal id t → (u : Status) → T' t ≡ Some u → 8 + t / 4 < size
  fits t (equal p) u h = rw p at fit
  fits t (other n) u h = m.fits t u (sym (table.1 t n) ∙ h)

  marks-set : Marks L' C' T' mark size
  marks-set = record {
    untimed = λ t. untimed t (equality id t);
    logged = λ t. logged t (equality id t);
    slotted = λ t. slotted t (equality id t);
    last = λ t. last t (equality id t);
    slots = λ t. slots t (equality id t);
    fits = λ t. fits t (equality id t);
  }

-- the slots under a higher mark go
marks-cut : (L C T C' : ℕ → Option Status) (mark w size : ℕ) → mark ≤ w → ((t : ℕ) → t < w → C' t ≡ None) → ((t : ℕ) → w ≤ t → C' t ≡ C t) →
    Marks L C T mark size → Marks L C' T w size
marks-cut L C T C' mark w size h low high m = record {
  untimed = m.untimed;
  logged = m.logged;
  slotted = λ t. go t (order t w);
  last = λ t l. m.last t (omega arith);
  slots = λ t l. high t l ∙ m.slots t (omega arith);
  fits = m.fits;
}
  where
    go : (t : ℕ) → Order t w → T t ≡ None → C' t ≡ None
    go t (less p) q = low t p
    go t (most p) q = high t p ∙ m.slotted t q

-- ---- the status of an id in the table and in the clog

abbrev pub entry : ℕ → Status → Entry
entry id s = record { id = record { 0 = id }; status = s }

pub table-sets : (id : ℕ) (s : Status) (l : List Entry) → Sets (λ t. status_of t l) (λ t. status_of t (insert_entry (entry id s) l)) id (Some s)
table-sets id s l = (status-set (entry id s) l, λ t n. status-kept (entry id s) l t n)

pub clog-sets : (id : ℕ) (s : Status) (f : File) → f.len ≤ room f → 8 + id / 4 < room f →
    Sets (λ t. known_as (slot_of 8 (content f) t)) (λ t. known_as (slot_of 8 (content (set_slot 8 id (code_of s) f)) t)) id (kept (Some s))
clog-sets id s f h l = (
  ap known_as (record_same 8 id (code_of s) f h l (code-small s)) ∙ kept-code s,
  λ t n. ap known_as (record-other 8 id (code_of s) f h l (code-small s) t n),
)

-- what recording leaves of the clog's form
pub record SlotSet (f g : File) : Type 0 where
  pub size : room g ≡ room f
  pub len : g.len ≤ room g
  pub valid : valid_clog f ≡ true → valid_clog g ≡ true

pub slot-set : (id : ℕ) (s : Status) (f : File) → f.len ≤ room f → 8 + id / 4 < room f → SlotSet f (set_slot 8 id (code_of s) f)
slot-set id s f h l = record {
  size = record-room 8 id (code_of s) f;
  len = record-fit 8 id (code_of s) f h l;
  valid = λ v. valid_same f (set_slot 8 id (code_of s) f) (record-header 8 id (code_of s) f h l (valid-long f v)) ∙ v;
}

-- ---- a record that sets a status: begin, abort

pub record Sign (r : Record) (id : ℕ) (s : Status) : Type 0 where
  pub size : length (encode r) ≡ 9
  pub notes : noted r ≡ entry id s ∷ []
  pub rests : (P len : ℕ) → Rest P len r
  pub still : (P i b : ℕ) → imaged P r i b ≡ b
  pub sound : (P : ℕ) → id < 2 ^ 64 → Sound P r
  pub plain : (u : CommitTime) → s ≡ Committed u → ⊥

pub begin-sign : (id : ℕ) → Sign (begin id) id Active
unfolding encode
begin-sign id = record {
  size = rw (length-bytes_of 8 id);
  notes = refl;
  rests = λ P len. tt;
  still = λ P i b. refl;
  sound = λ P h. h;
  plain = λ u q. let z : ◌≡◌ {A = ℕ} 0 1 = cc in omega arith;
}

pub abort-sign : (id : ℕ) → Sign (abort id) id Aborted
unfolding encode
abort-sign id = record {
  size = rw (length-bytes_of 8 id);
  notes = refl;
  rests = λ P len. tt;
  still = λ P i b. refl;
  sound = λ P h. h;
  plain = λ u q. let z : ◌≡◌ {A = ℕ} 0 1 = cc in omega arith;
}

module _ (P : ℕ) (big : 36 ≤ P) (f : Files) (frames : ℕ) (table : List Entry) (mark : ℕ) (v : Inv P f frames table mark) where
  -- ---- a status logged, and recorded in clog and table

  module _ (r : Record) (id : ℕ) (s : Status) (g : Sign r id s) (has : 8 + id / 4 < room f.clog) (fit : f.log.len + 9 ≤ room f.log) where
    space : f.log.len + length (encode r) ≤ room f.log
    space = rw g.size fit

    sound : Sound P r
    sound = g.sound P (omega (arith, v.clog-size))

    now-records : records P (append f.log (encode r)) ≡ records P f.log ++ (r ∷ [])
    now-records = more-records P f.log v.reads r sound space

    -- the log's words: the record's own, and else what it said
    word : (t : ℕ) → last_word t (records P (append f.log (encode r))) ≡ or_known (status_of t (entry id s ∷ [])) (last_word t (records P f.log))
    word t = rw now-records (word_more t (records P f.log) r ∙ rw g.notes)

    set_word : last_word id (records P (append f.log (encode r))) ≡ Some s
    set_word = word id ∙ rw (own-status (entry id s) [])

    here : (u : Status) → last_word id (records P (append f.log (encode r))) ≡ Some u → Some u ≡ Some s
    here u h = sym h ∙ set_word

    plain : (u : CommitTime) → last_word id (records P (append f.log (encode r))) ≡ Some (Committed u) → ⊥
    plain u h = let e : Some s ≡ Some (Committed u) = sym set_word ∙ h in g.plain u cc

    elsewhere : (t : ℕ) → (id ≡ t → ⊥) → (u : Status) → last_word t (records P (append f.log (encode r))) ≡ Some u → last_word t (records P f.log) ≡ Some u
    elsewhere t n u h = sym (word t ∙ rw (other_word t (entry id s) n)) ∙ h

    pub inv-signed : length (insert_entry (entry id s) table) ≤ 256 →
        Inv P (apply P (SetSlot id s) (apply P (Log r) f)) frames (insert_entry (entry id s) table) mark
    unfolding apply imaged_all
    inv-signed few =
        let lr = lay-room f.log f.log.len (encode r) in
        let ll = lay-len f.log f.log.len (encode r) in
        let c : SlotSet f.clog (set_slot 8 id (code_of s) f.clog) = slot-set id s f.clog v.clog-len has in
        let within : any_of (past_clog (room f.clog) (entry id s) ∷ []) ≡ false = unfold any_of in rw (lt-leb _ _ has) in
        record {
          log-size = omega (arith, v.log-size, lr);
          log-len = omega (arith, v.log-len, lr, ll);
          db-size = v.db-size;
          db-len = v.db-len;
          clog-size = omega (arith, v.clog-size, c.size);
          clog-len = c.len;
          one-frame = v.one-frame;
          reads = more-reads P f.log v.reads r sound space;
          rest = rw now-records (rest-append P f.db.len (records P f.log) (r ∷ []) v.rest (g.rests P f.db.len, tt));
          agrees = rw now-records (λ i.
              imaged-append P (records P f.log) (r ∷ []) i (get_or (content f.db) i 0)
              ∙ g.still P i (imaged_all P (records P f.log) i (get_or (content f.db) i 0))
              ∙ v.agrees i);
          ids = rw (now-records, statuses-more, g.notes, map-append, c.size) (none_more _ _ v.ids within);
          valid = c.valid v.valid;
          marks =
              rw c.size
              (marks-set _ _ _ _ _ _ id s mark (room f.clog) has (clog-sets id s f.clog v.clog-len has) (table-sets id s table)
              here plain elsewhere v.marks);
          sorted = set-ascending (entry id s) table v.sorted;
          few = few;
          page = v.page;
          small = v.small;
        }

  -- ---- a page logged and written, not page 0

  module _ (p : ℕ) (bs : List ℕ) (p0 : 0 < p) (p32 : p < 4294967295) (whole : length bs ≡ P)
      (space : f.log.len + length (encode (image p bs)) ≤ room f.log) (has : p * P + length bs ≤ room f.db) where
    page-records : records P (append f.log (encode (image p bs))) ≡ records P f.log ++ (image p bs ∷ [])
    page-records = more-records P f.log v.reads (image p bs) (omega arith, whole) space

    same-statuses : statuses (records P (append f.log (encode (image p bs)))) ≡ statuses (records P f.log)
    same-statuses = rw (page-records, statuses-more, append-nil)

    same_word : (t : ℕ) → last_word t (records P (append f.log (encode (image p bs)))) ≡ last_word t (records P f.log)
    same_word t = rw page-records (word_more t (records P f.log) (image p bs) ∙ rw (no-status t))

    pub inv-page : Inv P (apply P (Page p bs) (apply P (Log (image p bs)) f)) frames table mark
    unfolding apply
    inv-page =
        let lr = lay-room f.log f.log.len (encode (image p bs)) in
        let ll = lay-len f.log f.log.len (encode (image p bs)) in
        let dr = lay-room f.db (p * P) bs in
        let dl = lay-len f.db (p * P) bs in
        record {
          log-size = omega (arith, v.log-size, lr);
          log-len = omega (arith, v.log-len, lr, ll);
          db-size = omega (arith, v.db-size, dr);
          db-len = omega (arith, v.db-len, dr, dl);
          clog-size = v.clog-size;
          clog-len = v.clog-len;
          one-frame = v.one-frame;
          reads = more-reads P f.log v.reads (image p bs) (omega arith, whole) space;
          rest =
              rw page-records
              (rest-append P (lay f.db (p * P) bs).len (records P f.log) (image p bs ∷ [])
              (all-longer P f.db.len (lay f.db (p * P) bs).len (omega (arith, dl)) (records P f.log) v.rest) ((p0, p32, whole, omega (arith, dl)), tt));
          agrees = rw page-records (agrees-page P (records P f.log) f.db p bs v.db-len has v.agrees);
          ids = rw same-statuses v.ids;
          valid = v.valid;
          marks = record {
            untimed = λ t u h. v.marks.untimed t u (sym (same_word t) ∙ h);
            logged = λ t s h. v.marks.logged t s (sym (same_word t) ∙ h);
            slotted = v.marks.slotted;
            last = λ t l s h. v.marks.last t l s (sym (same_word t) ∙ h);
            slots = v.marks.slots;
            fits = v.marks.fits;
          };
          sorted = v.sorted;
          few = v.few;
          page = stands-kept P big f.db v.db-len p bs mark p0 has v.page;
          small = v.small;
        }

  -- ---- meta written, over the log as it stands; the mark is as it was, or the clog was compacted under a higher one

  pub inv-meta : (next time w : ℕ) (clog : File) → w < 2 ^ 64 → P ≤ room f.db → room clog ≡ room f.clog → clog.len ≡ f.clog.len →
      take 8 (content clog) ≡ take 8 (content f.clog) →
      Marks (λ t. last_word t (records P f.log)) (λ t. known_as (slot_of 8 (content clog) t)) (λ t. status_of t table) w (room f.clog) →
      Inv P (record { log = f.log; db = lay f.db (0 * P) (meta_page P next time w); clog = clog }) frames table w
  inv-meta next time w clog w64 d cr cl ch m =
      let e : length (meta_page P next time w) ≡ P = length-meta P big next time w in
      let dr = lay-room f.db (0 * P) (meta_page P next time w) in
      let dl = lay-len f.db (0 * P) (meta_page P next time w) in
      let fit : 0 * P + length (meta_page P next time w) ≤ room f.db = omega arith in
      record {
        log-size = v.log-size;
        log-len = v.log-len;
        db-size = omega (arith, v.db-size, dr);
        db-len = omega (arith, v.db-len, dr, dl);
        clog-size = omega (arith, v.clog-size);
        clog-len = omega (arith, v.clog-len);
        one-frame = v.one-frame;
        reads = v.reads;
        rest = all-longer P f.db.len (lay f.db (0 * P) (meta_page P next time w)).len (omega (arith, dl)) (records P f.log) v.rest;
        agrees = agrees-zero P (records P f.log) f.db (meta_page P next time w) e v.db-len d v.rest v.agrees;
        ids = rw cr v.ids;
        valid = valid_same f.clog clog ch ∙ v.valid;
        marks = rw cr m;
        sorted = v.sorted;
        few = v.few;
        page = stands-laid P big f.db v.db-len next time w w64 d;
        small = w64;
      }

  -- with the mark as it was
  pub inv-again : (next time : ℕ) → P ≤ room f.db → Inv P (apply P (Page 0 (meta_page P next time mark)) f) frames table mark
  unfolding apply
  inv-again next time d = inv-meta next time mark f.clog v.small d refl refl refl v.marks

  -- the mark advanced: compaction, then meta
  pub inv-advance : (next time w : ℕ) → mark ≤ w → w < 2 ^ 64 → P ≤ room f.db →
      Inv P (apply P (Page 0 (meta_page P next time w)) (apply P (Compact w) f)) frames table w
  unfolding apply
  inv-advance next time w h w64 d =
      let l = valid-long f.clog v.valid in
      inv-meta next time w (clear_slots 8 w f.clog) w64 d (compact-room 8 w f.clog) (compact-len 8 w f.clog)
      (compact-header 8 w f.clog v.clog-len l)
      (marks-cut _ _ _ _ mark w (room f.clog) h (λ t q. rw (compact-low 8 w f.clog v.clog-len l t q))
      (λ t q. ap known_as (compact-high 8 w f.clog v.clog-len l t q)) v.marks)

  -- ---- a status recorded, the log cut back, meta written last. g has the files before the log is cut back

  pub inv-fresh : (g : Files) (next time id : ℕ) (s : Status) → g.clog ≡ set_slot 8 id (code_of s) f.clog → room g.log ≡ room f.log →
      room g.db ≡ room f.db → g.db.len ≤ room f.db → 8 + id / 4 < room f.clog → P ≤ room f.db → length (insert_entry (entry id s) table) ≤ 256 →
      Inv P (apply P (Page 0 (meta_page P next time mark)) (apply P Truncate g)) frames (insert_entry (entry id s) table) mark
  unfolding apply
  inv-fresh g next time id s gc gl gr gd has d few =
      let e : length (meta_page P next time mark) ≡ P = length-meta P big next time mark in
      let m8 : length log_magic ≡ 8 = unfold log_magic in refl in
      let hr = header-room log_magic g.log in
      let hl = header-len log_magic g.log in
      let l8 : 8 ≤ room g.log = omega (arith, reads-long P f.log v.reads, content-length f.log v.log-len, v.log-len) in
      let dr = lay-room g.db (0 * P) (meta_page P next time mark) in
      let dl = lay-len g.db (0 * P) (meta_page P next time mark) in
      let fit : 0 * P + length (meta_page P next time mark) ≤ room g.db = omega arith in
      let c : SlotSet f.clog g.clog = rw gc (slot-set id s f.clog v.clog-len has) in
      let none : records P (header log_magic g.log) ≡ [] = cut-records P g.log l8 in
      let silent : (t : ℕ) (u : Status) → last_word t (records P (header log_magic g.log)) ≡ Some u → ⊥ = λ t u h. absent-not _ u (rw none (word_none t)) h in
      record {
        log-size = omega (arith, v.log-size, hr);
        log-len = omega (arith, hr, hl);
        db-size = omega (arith, v.db-size, dr);
        db-len = omega (arith, dr, dl);
        clog-size = omega (arith, v.clog-size, c.size);
        clog-len = c.len;
        one-frame = v.one-frame;
        reads = cut-reads P g.log l8;
        rest = rw none tt;
        agrees = rw none (agrees-none P (lay g.db (0 * P) (meta_page P next time mark)));
        ids = rw none (unfold statuses any_of in refl);
        valid = c.valid v.valid;
        marks =
            rw c.size
            (marks-set _ _ _ _ _ _ id s mark (room f.clog) has (rw gc (clog-sets id s f.clog v.clog-len has)) (table-sets id s table)
            (λ u h. absurd (silent id u h)) (λ u h. silent id (Committed u) h) (λ t n u h. absurd (silent t u h)) v.marks);
        sorted = set-ascending (entry id s) table v.sorted;
        few = few;
        page = stands-laid P big g.db (omega arith) next time mark v.small (omega arith);
        small = v.small;
      }
