-- Logs at a cut: whole records, and perhaps the first bytes of one more, or of the magic alone. P is the page size. Assumes nothing.
use mathlib.Core.Path.{◌≡◌, refl, ap, ◌∙◌}
use mathlib.Core.List.{List, [], ◌∷◌, ◌++◌}
use Prim.Native.Nat.{ℕ, zero, suc, ◌+◌, ◌-◌, ◌≤◌, ◌<◌}
use native.Mathlib.Omega.{arith}
use lib.ListN.{length, take, length-take}
use lib.Seq.{take_all}
use Rattle.fields.specs.Files.{File, room, append, header}
use Rattle.fields.proofs.Tests.{Order, less, most, order}
use Rattle.fields.proofs.FileLaws.{content-length, lay-room, lay-len}
use Rattle.wal.specs.Records.{Record, log_magic, encode, Ending}
use Rattle.wal.proofs.RecordLaws.{Sound}
use Rattle.wal.proofs.Partial.{encode-long}
use Rattle.world.specs.World.{Files}
use Rattle.world.specs.Steps.{Log, Truncate, apply}
use Rattle.opening.specs.Opening.{records, end_of}
use Rattle.opening.proofs.LogFiles.{Reads, reads-long, more-reads, more-records, part-records, cut-room, cut_fits, cut-bare, all-magic}
use Rattle.partway.specs.Partway.{points, stopped, apply_to}
use Rattle.partway.proofs.Laws.{Position, before, inside, past, position, to_none, to-point, to_whole}
use Rattle.torn.specs.Torn.{tail_no}
use Rattle.torn.proofs.Laws.{bare-tail, part-tail}

-- ---- what an opening finds of a log: these records, and no unknown tag after them

pub record LogIs (P : ℕ) (log : File) (rs : List Record) : Type 0 where
  pub size : room log ≤ 16777216
  pub fits : log.len ≤ room log
  pub head : 8 ≤ room log
  pub tail : tail_no (end_of P log) ≡ 0
  pub recs : records P log ≡ rs

-- whole records, to which others may be appended
pub record LogWhole (P : ℕ) (log : File) (rs : List Record) : Type 0 where
  pub size : room log ≤ 16777216
  pub fits : log.len ≤ room log
  pub reads : Reads P log
  pub recs : records P log ≡ rs

pub whole_is : (P : ℕ) (log : File) (rs : List Record) → LogWhole P log rs → LogIs P log rs
whole_is P log rs h = record {
  size = h.size;
  fits = h.fits;
  head = omega (arith, reads-long P log h.reads, content-length log h.fits, h.fits);
  tail = ap (λ (e : Ending). tail_no e) h.reads.whole;
  recs = h.recs;
}

-- ---- a record appended, whole or in part

module _ (P : ℕ) (log : File) (rs : List Record) (r : Record) (h : LogWhole P log rs) (s : Sound P r) (l : log.len + length (encode r) ≤ room log) where
  whole-more : LogWhole P (append log (encode r)) (rs ++ (r ∷ []))
  whole-more =
      let a = lay-room log log.len (encode r) in
      let b = lay-len log log.len (encode r) in
      record {
        size = omega (arith, h.size, a);
        fits = omega (arith, h.fits, a, b);
        reads = more-reads P log h.reads r s l;
        recs = more-records P log h.reads r s l ∙ ap (λ (x : List Record). x ++ (r ∷ [])) h.recs;
      }

  part-is : (j : ℕ) → j < length (encode r) → LogIs P (append log (take j (encode r))) rs
  part-is j q =
      let n = length-take j (encode r) in
      let a = lay-room log log.len (take j (encode r)) in
      let b = lay-len log log.len (take j (encode r)) in
      record {
        size = omega (arith, h.size, a);
        fits = omega (arith, h.fits, a, b, n);
        head = omega (arith, (whole_is P log rs h).head, a);
        tail = part-tail P log h.reads r s h.fits j (omega arith) q;
        recs = part-records P log h.reads r s h.fits j (omega arith) q ∙ h.recs;
      }

-- ---- stores on the log, to a position

-- the log holds these records, and the other files are as they were
abbrev pub Stays : ℕ → Files → List Record → Files → Type 0
Stays P f rs g = LogIs P g.log rs × (g.db ≡ f.db) × (g.clog ≡ f.clog)

module _ (P : ℕ) (f : Files) (rs : List Record) (r : Record) where
  module _ (h : LogWhole P f.log rs) (s : Sound P r) (l : f.log.len + length (encode r) ≤ room f.log) where
    -- before the record's last byte it is not there
    pub log-part : (pos : ℕ) → pos < length (encode r) → Stays P f rs (apply_to P pos (Log r) f)
    log-part zero q = rw (to_none P (Log r) f) (whole_is P f.log rs h, refl, refl)
    log-part (suc n) q =
        let e : apply_to P (suc n) (Log r) f ≡ stopped P (suc n) (Log r) f = to-point P (Log r) f n (unfold points in omega arith) in
        rw e (unfold stopped in (part-is P f.log rs r h s l (suc n) q, refl, refl))

    pub log-whole : LogWhole P (apply P (Log r) f).log (rs ++ (r ∷ []))
    unfolding apply
    log-whole = whole-more P f.log rs r h s l

  -- from it on the store is whole
  pub log-done : (pos : ℕ) → length (encode r) ≤ pos → apply_to P pos (Log r) f ≡ apply P (Log r) f
  log-done zero q = absurd (omega (arith, encode-long r))
  log-done (suc n) q = go (order n (length (encode r)))
    where
      go : Order n (length (encode r)) → apply_to P (suc n) (Log r) f ≡ apply P (Log r) f
      go (less a) = to-point P (Log r) f n (unfold points in a) ∙ (unfold stopped apply in rw (take_all (suc n) (encode r) q))
      go (most a) = to_whole P (Log r) f (suc n) (unfold points in omega arith)

-- the log cut back: from the first point on it has no records
module _ (P : ℕ) (f : Files) (size : room f.log ≤ 16777216) (has : 8 ≤ room f.log) where
  bare-is : (n : ℕ) → LogIs P (header (take n log_magic) f.log) []
  bare-is n =
      let a = cut-room n f.log has in
      let b = cut-bare n f.log has P in
      record {
        size = omega (arith, a);
        fits = cut_fits n f.log has;
        head = omega (arith, a);
        tail = bare-tail P (header (take n log_magic) f.log) b;
        recs = b.none;
      }

  pub trunc-whole : Stays P f [] (apply P Truncate f)
  unfolding apply
  trunc-whole = (rw all-magic at (bare-is 8), refl, refl)

  pub trunc-part : (n : ℕ) → Stays P f [] (apply_to P (suc n) Truncate f)
  trunc-part n = go (position P (suc n) Truncate f)
    where
      go : Position P (suc n) Truncate f → Stays P f [] (apply_to P (suc n) Truncate f)
      go (before z e) = absurd (omega arith)
      go (inside m h e) = rw e (unfold stopped in (bare-is (suc m - 1), refl, refl))
      go (past e) = rw e trunc-whole
