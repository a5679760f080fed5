-- One store: what its function leaves is what the store does, and what it leaves of the room. P is the page size. Assumes nothing.
use mathlib.Core.Path.{◌≡◌, refl, sym, ap, ◌∙◌}
use mathlib.Core.List.{List, [], ◌∷◌}
use mathlib.Core.Bool.{false, cond}
use Prim.Native.Nat.{ℕ, ◌+◌, ◌-◌, ◌*◌, ◌/◌, ◌%◌, ◌≤◌, ◌<◌, max}
use native.Mathlib.Omega.{arith}
use borrow.Author.Tests.{le-ltb}
use lib.Dec.{ltb}
use lib.ListN.{length, take, drop, get_or, replicate}
use lib.Seq.{sets, length-sets}
use Rattle.std.specs.Prelude.{Result, Ok}
use Rattle.fields.specs.declared.refusal.Refusal.{Refusal}
use Rattle.fields.specs.Bytes.{part}
use Rattle.fields.specs.Files.{File, file_of, room, lay, append, header, unfit}
use Rattle.fields.specs.Answers.{length_of, outcome, decided}
use Rattle.fields.proofs.ByteLaws.{part_in}
use Rattle.fields.proofs.FileLaws.{lay-room, lay-len, lay-within, append-is, header-room, header-len, fit-ok}
use Rattle.fields.proofs.AnswerLaws.{outcome-same, outcome-accepted}
use Rattle.wal.specs.Records.{Record, image, encode, log_magic}
use Rattle.wal.specs.Writing.{bad_page, append_no, appended_bytes, appended, truncate_no, truncated}
use Rattle.wal.proofs.WriteLaws.{append-0, page-size}
use Rattle.table.specs.declared.Status.{Status}
use Rattle.clog.specs.Slots.{clog_magic, code_of, with_bits, set_slot, clear_slots, cleared}
use Rattle.clog.specs.Calls as clog
use Rattle.clog.specs.Calls.{record_no, compact_no, recorded, compacted}
use Rattle.clog.proofs.Refusals as clog-laws
use Rattle.clog.proofs.Theorems.{recorded-plain, compacted-plain}
use Rattle.world.specs.World.{Files, files_of}
use Rattle.world.specs.Steps as world
use Rattle.world.specs.Steps.{apply, with_log, with_db, with_clog, log_bytes, clog_end, sum_of, most_of}
use Rattle.stores.specs.Inside.{Enough}

-- ---- a call on one file that is accepted

accepted-file : (a : Result ℕ Refusal) (bytes : List ℕ) (n : ℕ) (old new : File) → outcome a bytes ≡ decided n old new → n ≡ 0 → file_of bytes (length_of a) ≡ new
accepted-file a bytes n old new e z =
    let q : outcome a bytes ≡ outcome (Ok new.len) new.bytes = e ∙ sym (outcome-accepted new.len n old new new.bytes z refl) in
    let s = outcome-same a (Ok new.len) bytes new.bytes q in
    ap (λ (x : Result ℕ Refusal). file_of bytes (length_of x)) s.0 ∙ ap (λ (l : List ℕ). file_of l new.len) s.1

-- a page's frame, laid into the log after its tag and number, and into the database
pub image-file : (P : ℕ) (page : ℕ) (bytes log out : List ℕ) (len : ℕ) → length bytes ≡ P → out ≡ sets log len (encode (image page bytes)) → file_of out (len + (5 + P)) ≡ append (file_of log len) (encode (image page bytes))
image-file P page bytes log out len l e =
    rw (e, ← page-size P page bytes l) (sym (append-is (file_of log len) (encode (image page bytes))))

pub page-file : (P at end len : ℕ) (bytes db d₁ d₂ : List ℕ) → length bytes ≡ P → d₁ ≡ sets db len (replicate (at - len) 0) → d₂ ≡ sets d₁ at bytes → end ≡ max len (at + P) → file_of d₂ end ≡ lay (file_of db len) at bytes
unfolding lay
page-file P at end len bytes db d₁ d₂ l p q e = rw (q, p, e, l)

-- page 0 leaves no gap
pub meta-file : (P n len : ℕ) (ys db bytes : List ℕ) → length ys ≡ P → bytes ≡ sets db 0 ys → n ≡ max len P → file_of bytes n ≡ lay (file_of db len) 0 ys
meta-file P n len ys db bytes l q m = rw (lay-within (file_of db len) 0 ys (omega arith), q, m, l) (ap (λ (k : ℕ). file_of (sets db 0 ys) (max len k)) (omega arith))

pub whole-frame : (P : ℕ) (b frames : List ℕ) (at slot n : ℕ) (out : List ℕ) → n ≡ P → slot * P + P ≤ length frames → out ≡ sets b at (take n (drop (slot * P) frames)) → out ≡ sets b at (part P frames (slot * P))
whole-frame P b frames at slot n out e h q = q ∙ ap (λ (m : ℕ). sets b at (take m (drop (slot * P) frames))) e ∙ sym (ap (λ (ys : List ℕ). sets b at ys) (part_in P frames (slot * P) h))

-- ---- the files after a store, from what its function left of one of them

module _ (P : ℕ) (f : Files) (s : world.Step) where
  abbrev log_out : ℕ → List ℕ → Files
  log_out n bytes = files_of (record { log = n; db = f.db.len; clog = f.clog.len }) bytes f.db.bytes f.clog.bytes

  abbrev db_out : ℕ → List ℕ → Files
  db_out n bytes = files_of (record { log = f.log.len; db = n; clog = f.clog.len }) f.log.bytes bytes f.clog.bytes

  abbrev clog_out : ℕ → List ℕ → Files
  clog_out n bytes = files_of (record { log = f.log.len; db = f.db.len; clog = n }) f.log.bytes f.db.bytes bytes

  pub log-file : (r : Record) (n : ℕ) (bytes : List ℕ) → s ≡ world.Log r → file_of bytes n ≡ append f.log (encode r) → log_out n bytes ≡ apply P s f
  unfolding apply
  log-file r n bytes e q = ap (λ (g : File). with_log g f) q ∙ sym (ap (λ (x : world.Step). apply P x f) e)

  pub db-file : (p : ℕ) (ys : List ℕ) (n : ℕ) (bytes : List ℕ) → s ≡ world.Page p ys → file_of bytes n ≡ lay f.db (p * P) ys → db_out n bytes ≡ apply P s f
  unfolding apply
  db-file p ys n bytes e q = ap (λ (g : File). with_db g f) q ∙ sym (ap (λ (x : world.Step). apply P x f) e)

  module _ (enough : Enough P (s ∷ []) f) where
    log-room : (r : Record) → s ≡ world.Log r → f.log.len + length (encode r) ≤ room f.log
    unfolding sum_of
    log-room r e = omega (arith, enough.log_fits, ap log_bytes e)

    log-fit : unfit 16777216 (room f.log) f.log.len ≡ false
    unfolding sum_of
    log-fit = fit-ok 16777216 (room f.log) f.log.len enough.log_limit (omega (arith, enough.log_fits))

    -- an image is P bytes and five more
    pub image-room : (p : ℕ) (ys : List ℕ) → s ≡ world.Log (image p ys) → length ys ≡ P → f.log.len + (5 + P) ≤ room f.log
    image-room p ys e l = omega (arith, log-room (image p ys) e, page-size P p ys l)

    pub log-done : (r : Record) (a : Result ℕ Refusal) (n : ℕ) (bytes : List ℕ) → s ≡ world.Log r → bad_page r ≡ false → outcome a bytes ≡ appended r f.log → n ≡ length_of a → log_out n bytes ≡ apply P s f
    unfolding appended appended_bytes
    log-done r a n bytes e b o q =
        let h : length (encode r) ≤ room f.log - f.log.len = omega (arith, log-room r e) in
        let z = sym (append-0 (bad_page r) (length (encode r)) (room f.log) f.log.len log-fit b h) in
        let g = accepted-file a bytes (append_no (bad_page r) (length (encode r)) (room f.log) f.log.len) f.log (append f.log (encode r)) o z in
        log-file r n bytes e (ap (λ (k : ℕ). file_of bytes k) q ∙ g)

    pub truncate-done : (a : Result ℕ Refusal) (n : ℕ) (bytes : List ℕ) → s ≡ world.Truncate → outcome a bytes ≡ truncated f.log → n ≡ length_of a → log_out n bytes ≡ apply P s f
    unfolding truncated truncate_no apply sum_of
    truncate-done a n bytes e o q =
        let l : 8 ≤ room f.log = omega (arith, enough.log_fits, enough.log_header) in
        let z : ◌≡◌ {A = ℕ} (cond (unfit 16777216 (room f.log) f.log.len) 1 (cond (ltb (room f.log) 8) 4 0)) 0 = rw (log-fit, le-ltb (room f.log) 8 l) in
        let g = accepted-file a bytes (cond (unfit 16777216 (room f.log) f.log.len) 1 (cond (ltb (room f.log) 8) 4 0)) f.log (header log_magic f.log) o z in
        ap (λ (h : File). with_log h f) (ap (λ (k : ℕ). file_of bytes k) q ∙ g) ∙ sym (ap (λ (x : world.Step). apply P x f) e)

    clog-fit : clog.unfit 8 (room f.clog) f.clog.len ≡ false
    clog-fit = clog-laws.fit-ok 8 (room f.clog) f.clog.len enough.clog_limit enough.clog_len enough.clog_header

    pub slot-done : (id : ℕ) (t : Status) (a : Result ℕ Refusal) (n : ℕ) (bytes : List ℕ) → s ≡ world.SetSlot id t → outcome a bytes ≡ recorded 8 0 f.clog id (code_of t) → n ≡ length_of a → clog_out n bytes ≡ apply P s f
    unfolding apply most_of
    slot-done id t a n bytes e o q =
        let i : id - 0 ≡ id = omega arith in
        let h : 8 + id / 4 < room f.clog = omega (arith, enough.clog_fits, ap clog_end e) in
        let k : 8 + (id - 0) / 4 < room f.clog = rw i h in
        let z : record_no 8 0 id (room f.clog) f.clog.len ≡ 0 =
        clog-laws.record-ok 8 0 id (room f.clog) f.clog.len enough.clog_limit enough.clog_len enough.clog_header (omega arith) k in
        let g = accepted-file a bytes (record_no 8 0 id (room f.clog) f.clog.len) f.clog (set_slot 8 id (code_of t) f.clog) (o ∙ recorded-plain 8 id (code_of t) f.clog) z in
        ap (λ (h : File). with_clog h f) (ap (λ (k : ℕ). file_of bytes k) q ∙ g) ∙ sym (ap (λ (x : world.Step). apply P x f) e)

    pub compact-done : (w : ℕ) (a : Result ℕ Refusal) (n : ℕ) (bytes : List ℕ) → s ≡ world.Compact w → outcome a bytes ≡ compacted 8 0 f.clog w → n ≡ length_of a → clog_out n bytes ≡ apply P s f
    unfolding compact_no apply
    compact-done w a n bytes e o q =
        let z : ◌≡◌ {A = ℕ} (cond (clog.unfit 8 (room f.clog) f.clog.len) 1 0) 0 = rw clog-fit in
        let g = accepted-file a bytes (compact_no 8 (room f.clog) f.clog.len) f.clog (clear_slots 8 w f.clog) (o ∙ compacted-plain 8 w f.clog) z in
        ap (λ (h : File). with_clog h f) (ap (λ (k : ℕ). file_of bytes k) q ∙ g) ∙ sym (ap (λ (x : world.Step). apply P x f) e)

-- ---- what a store leaves of the room

record Next (f g : Files) (s : world.Step) : Type 0 where
  log_header : 8 ≤ g.log.len
  log_grown : g.log.len ≤ f.log.len + log_bytes s
  log_room : room g.log ≡ room f.log
  db_room : room g.db ≡ room f.db
  clog_header : 8 ≤ g.clog.len
  clog_len : g.clog.len ≤ room f.clog
  clog_room : room g.clog ≡ room f.clog

module _ (P : ℕ) (f : Files) where
  apply-next : (s : world.Step) → Enough P (s ∷ []) f → Next f (apply P s f) s
  unfolding apply set_slot clear_slots most_of log_magic clog_magic
  apply-next (world.Log r) e =
      record {
        log_header = omega (arith, lay-len f.log f.log.len (encode r), e.log_header);
        log_grown = omega (arith, lay-len f.log f.log.len (encode r));
        log_room = lay-room f.log f.log.len (encode r);
        db_room = refl;
        clog_header = e.clog_header;
        clog_len = e.clog_len;
        clog_room = refl;
      }
  apply-next (world.Page p ys) e =
      record {
        log_header = e.log_header;
        log_grown = omega arith;
        log_room = refl;
        db_room = lay-room f.db (p * P) ys;
        clog_header = e.clog_header;
        clog_len = e.clog_len;
        clog_room = refl;
      }
  apply-next (world.SetSlot id t) e =
      record {
        log_header = e.log_header;
        log_grown = omega arith;
        log_room = refl;
        db_room = refl;
        clog_header = omega (arith, lay-len f.clog (8 + id / 4) (slot_byte ∷ []), e.clog_header);
        clog_len = omega (arith, lay-len f.clog (8 + id / 4) (slot_byte ∷ []), e.clog_len, e.clog_fits);
        clog_room = lay-room f.clog (8 + id / 4) (slot_byte ∷ []);
      }
    where
      slot_byte : ℕ
      slot_byte = with_bits (id % 4) (code_of t) (get_or (take f.clog.len f.clog.bytes) (8 + id / 4) 0)
  apply-next (world.Compact w) e =
      record {
        log_header = e.log_header;
        log_grown = omega arith;
        log_room = refl;
        db_room = refl;
        clog_header = e.clog_header;
        clog_len = e.clog_len;
        clog_room = length-sets f.clog.bytes 8 (cleared w (drop 8 (take f.clog.len f.clog.bytes)));
      }
  apply-next world.Truncate e =
      record {
        log_header = omega (arith, header-len log_magic f.log);
        log_grown = omega (arith, header-len log_magic f.log, e.log_header);
        log_room = header-room log_magic f.log;
        db_room = refl;
        clog_header = e.clog_header;
        clog_len = e.clog_len;
        clog_room = refl;
      }
  apply-next world.Reset e =
      record {
        log_header = e.log_header;
        log_grown = omega arith;
        log_room = refl;
        db_room = refl;
        clog_header = omega (arith, header-len clog_magic f.clog);
        clog_len = omega (arith, header-len clog_magic f.clog, e.clog_fits);
        clog_room = header-room clog_magic f.clog;
      }

  -- room for stores is room for the first, and leaves room for the others once it is carried out
  pub enough-here : (s : world.Step) (ss : List world.Step) → Enough P (s ∷ ss) f → Enough P (s ∷ []) f
  unfolding sum_of most_of
  enough-here s ss e =
      record {
        log_header = e.log_header;
        log_fits = omega (arith, e.log_fits);
        log_limit = e.log_limit;
        db_fits = omega (arith, e.db_fits);
        clog_header = e.clog_header;
        clog_len = e.clog_len;
        clog_fits = omega (arith, e.clog_fits);
        clog_limit = e.clog_limit;
      }

  pub enough-next : (s : world.Step) (ss : List world.Step) → Enough P (s ∷ ss) f → Enough P ss (apply P s f)
  unfolding sum_of most_of
  enough-next s ss e =
      let n = apply-next s (enough-here s ss e) in
      record {
        log_header = n.log_header;
        log_fits = omega (arith, e.log_fits, n.log_grown, n.log_room);
        log_limit = omega (arith, e.log_limit, n.log_room);
        db_fits = omega (arith, e.db_fits, n.db_room);
        clog_header = n.clog_header;
        clog_len = omega (arith, n.clog_len, n.clog_room);
        clog_fits = omega (arith, e.clog_fits, n.clog_room);
        clog_limit = omega (arith, e.clog_limit, n.clog_room);
      }
