-- (b') A compaction under w that was cut: statuses at or above w stay, and no id comes in. P is the page size. Assumes nothing.
use mathlib.Core.Path.{◌≡◌, refl, sym, ap, ◌∙◌}
use mathlib.Core.List.{List}
use mathlib.Core.Bool.{Bool, true, false, cond}
use mathlib.Core.Logic.{⊎_elim}
use Prim.Native.Nat.{ℕ, ◌≤◌}
use native.Mathlib.Omega.{arith}
use borrow.Author.Tests.{ne_eqb}
use Rattle.fields.proofs.Tests.{Equal, equal, other, equality}
use Rattle.fields.specs.Files.{content, room}
use Rattle.std.specs.Prelude.{Option, Some, None}
use Rattle.table.specs.declared.Status.{Status}
use Rattle.table.specs.Entries.{status_of}
use Rattle.table.proofs.Facts.{or_known, settled_known, absent-not, within}
use Rattle.clog.specs.Slots.{slot_of, valid_clog, loaded_status}
use Rattle.clog.proofs.TableLaws.{known_as, valid_same}
use Rattle.world.specs.World.{Files}
use Rattle.world.specs.Steps.{with_clog}
use Rattle.opening.specs.Opening.{records, end_of, replayed, clog_table, full_table}
use Rattle.opening.proofs.Tables.{last_word, clog-word, full-ascending, full-by-word}
use Rattle.partway.specs.Partway.{cleared_to}
use Rattle.partway.proofs.Clears.{cleared-to-room, cleared-to-len, cleared-to-header, cleared-to-high, cleared-to-low}
use Rattle.torn.specs.Torn.{tail_no, torn_no}
use Rattle.torn.proofs.Laws.{torn-means, torn-passed}
use Rattle.absorbs.proofs.Opens.{fits-passed}

-- a slot that loads as absent is 0
slot-none : (c : ℕ) → known_as c ≡ None → c ≡ 0
slot-none c h = go (equality c 0)
  where
    go : Equal c 0 → c ≡ 0
    go (equal p) = p
    go (other n) = let a : Some (loaded_status c) ≡ None = rw (ne_eqb c 0 n) at h in absurd (absent-not (Some (loaded_status c)) (loaded_status c) a refl)

module _ (P : ℕ) (f : Files) (frames : List ℕ) (n w : ℕ) (head : 8 ≤ f.clog.len) (ok : torn_no P f frames ≡ 0) where
  abbrev pub compacting : Files
  compacting = with_clog (cleared_to n 8 w f.clog) f

  fits : f.clog.len ≤ room f.clog
  fits = (torn-means P f frames ok).clog-len

  valid : valid_clog compacting.clog ≡ valid_clog f.clog
  valid = valid_same f.clog compacting.clog (cleared-to-header n 8 w f.clog fits head)

  clog-high : (k : ℕ) → w ≤ k → status_of k (clog_table compacting.clog) ≡ status_of k (clog_table f.clog)
  clog-high k l =
      clog-word compacting.clog k ∙ ap (λ (b : Bool). cond b (known_as (slot_of 8 (content compacting.clog) k)) None) valid
      ∙ ap (λ (c : ℕ). cond (valid_clog f.clog) (known_as c) None) (cleared-to-high n 8 w f.clog fits head k l) ∙ sym (clog-word f.clog k)

  clog-absent : (k : ℕ) → status_of k (clog_table f.clog) ≡ None → status_of k (clog_table compacting.clog) ≡ None
  clog-absent k e = clog-word compacting.clog k ∙ go (valid_clog compacting.clog) refl
    where
      go : (x : Bool) → valid_clog compacting.clog ≡ x → cond (valid_clog compacting.clog) (known_as (slot_of 8 (content compacting.clog) k)) None ≡ None
      go false v = rw v
      go true v =
          let a : known_as (slot_of 8 (content f.clog) k) ≡ None = sym (clog-word f.clog k ∙ rw (sym valid ∙ v)) ∙ e in
          let z : slot_of 8 (content f.clog) k ≡ 0 = slot-none (slot_of 8 (content f.clog) k) a in
          let y : slot_of 8 (content compacting.clog) k ≡ 0 = ⊎_elim (λ q. q ∙ z) (λ q. q) (cleared-to-low n 8 w f.clog fits head k) in
          rw (v, y)

  pub thinned-high : (k : ℕ) → w ≤ k → status_of k (full_table P compacting) ≡ status_of k (full_table P f)
  thinned-high k l = full-by-word P compacting k ∙ rw (clog-high k l) (sym (full-by-word P f k))

  pub thinned-absent : (k : ℕ) → status_of k (full_table P f) ≡ None → status_of k (full_table P compacting) ≡ None
  thinned-absent k e = full-by-word P compacting k ∙ go (last_word k (records P f.log)) refl
    where
      go : (x : Option Status) → last_word k (records P f.log) ≡ x →
          or_known (settled_known (last_word k (records P f.log))) (status_of k (clog_table compacting.clog)) ≡ None
      go (Some s) q = let z : ◌≡◌ {A = ℕ} 0 1 = cc (rw q at (full-by-word P f k)) in absurd (omega arith)
      go None q = rw q (clog-absent k (sym (rw q at (full-by-word P f k)) ∙ e))

  -- it is accepted, and the database is the same
  pub thinned-accepted : tail_no (end_of P f.log) ≡ 0 → torn_no P compacting frames ≡ 0
  thinned-accepted tail =
      let p = torn-means P f frames ok in
      let r = cleared-to-room n 8 w f.clog in
      torn-passed P compacting frames
      (fits-passed P f compacting frames
      (record {
        log-room = refl;
        db-room = refl;
        clog-room = r;
        log-len = p.log-len;
        db-len = p.db-len;
        clog-len = omega (arith, r, cleared-to-len n 8 w f.clog, fits);
      })
      refl (within (full_table P compacting) (full_table P f) (full-ascending P compacting) (full-ascending P f) thinned-absent) p.format p) tail

  pub thinned-replayed : replayed P compacting ≡ replayed P f
  unfolding replayed
  thinned-replayed = refl
