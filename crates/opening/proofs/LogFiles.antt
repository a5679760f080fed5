-- Log files, over the page size P: one that has its magic and reads to its end; the same with a record appended, and with the first bytes of one; and a log cut
-- back to bytes of its magic. Assumes nothing.
use mathlib.Core.Path.{◌≡◌, refl, sym, ap, ◌∙◌}
use mathlib.Core.List.{List, [], ◌∷◌, ◌++◌, append-nil, append_assoc}
use Prim.Native.Nat.{ℕ, zero, suc, ◌+◌, ◌-◌, ◌≤◌, ◌<◌}
use native.Mathlib.Omega.{arith}
use lib.ListN.{length, take, length-append, length-take}
use lib.Seq.{take_all}
use Rattle.fields.specs.Files.{File, content, room, append, header}
use Rattle.fields.proofs.Tests.{Order, less, most, order}
use Rattle.fields.proofs.FileLaws.{content-length, append-content, header-room, header-len, header-content}
use Rattle.wal.specs.Records.{log_magic, Record, encode, Placed, clean, cut, Parsed, records_in, log_of}
use Rattle.wal.proofs.RecordLaws.{Sound}
use Rattle.wal.proofs.ParseLaws.{parse-none, length-magic, log-magic, log-more}
use Rattle.wal.proofs.Partial.{log-part}
use Rattle.opening.specs.Opening.{records}
use Rattle.opening.proofs.Laws.{Bare, bare-short, bare-magic}

-- ---- a log that has its magic and reads to its end

pub record Reads (P : ℕ) (log : File) : Type 0 where
  pub body : List ℕ
  pub front : content log ≡ log_magic ++ body
  pub whole : (log_of P (content log)).ending ≡ clean

pub reads-long : (P : ℕ) (log : File) → Reads P log → 8 ≤ length (content log)
reads-long P log r = rw r.front (omega (arith, length-magic, length-append log_magic r.body))

-- ---- a record appended is the last one read

records-more : (ps : List Placed) (p : Placed) → records_in (ps ++ (p ∷ [])) ≡ records_in ps ++ (p.what ∷ [])
unfolding records_in
records-more [] p = refl
records-more (q ∷ ps) p = ap (λ (l : List Record). q.what ∷ l) (records-more ps p)

module _ (P : ℕ) (log : File) (reads : Reads P log) where
  whole-body : (log_of P (log_magic ++ reads.body)).ending ≡ clean
  whole-body = rw (← reads.front) reads.whole

  more-content : (ys : List ℕ) → log.len + length ys ≤ room log → content (append log ys) ≡ (log_magic ++ reads.body) ++ ys
  more-content ys has = append-content log ys has ∙ rw reads.front

  module _ (r : Record) (sound : Sound P r) where
    module _ (has : log.len + length (encode r) ≤ room log) where
      more-log : log_of P (content (append log (encode r)))
          ≡ record { found = (log_of P (content log)).found ++ (record { at = 8 + length reads.body; what = r } ∷ []); ending = clean }
      more-log = rw (more-content (encode r) has, reads.front) (log-more P reads.body r whole-body sound)

      pub more-reads : Reads P (append log (encode r))
      more-reads = record { body = reads.body ++ encode r; front = rw (more-content (encode r) has, append_assoc); whole = rw more-log }

      pub more-records : records P (append log (encode r)) ≡ records P log ++ (r ∷ [])
      more-records = rw more-log (records-more (log_of P (content log)).found (record { at = 8 + length reads.body; what = r }))

    -- ---- the first bytes of a record are no record: the log ends torn where it began, or is as it was

    module _ (fits : log.len ≤ room log) (j : ℕ) (has : log.len + j ≤ room log) (part : j < length (encode r)) where
      body_end : 8 + length reads.body ≡ log.len
      body_end = omega (arith, ap length reads.front, content-length log fits, length-append log_magic reads.body, length-magic)

      part-content : content (append log (take j (encode r))) ≡ (log_magic ++ reads.body) ++ take j (encode r)
      part-content = more-content (take j (encode r)) (omega (arith, length-take j (encode r)))

      pub part-torn : 0 < j →
          log_of P (content (append log (take j (encode r)))) ≡ record { found = (log_of P (content log)).found; ending = cut log.len (length (encode r) - j) }
      part-torn l =
          let e : log_of P ((log_magic ++ reads.body) ++ take j (encode r))
          ≡ record { found = (log_of P (log_magic ++ reads.body)).found; ending = cut (8 + length reads.body) (length (encode r) - j) } =
          log-part P r sound reads.body j whole-body l part in
          rw (part-content, reads.front, ← body_end) e

      pub part_none : j ≡ 0 → log_of P (content (append log (take j (encode r)))) ≡ log_of P (content log)
      part_none z =
          let t : take j (encode r) ≡ [] = rw z in
          rw (part-content, t, append-nil, reads.front)

      pub part-records : records P (append log (take j (encode r))) ≡ records P log
      part-records = go j refl
        where
          go : (i : ℕ) → i ≡ j → records P (append log (take j (encode r))) ≡ records P log
          go zero e = ap (λ (p : Parsed). records_in p.found) (part_none (sym e))
          go (suc i) e = ap (λ (p : Parsed). records_in p.found) (part-torn (omega arith))

-- ---- cut back to the first bytes of its magic, and to all of it

module _ (n : ℕ) (log : File) (has : 8 ≤ room log) where
  pub cut-room : room (header (take n log_magic) log) ≡ room log
  cut-room = header-room (take n log_magic) log

  pub cut_fits : (header (take n log_magic) log).len ≤ room (header (take n log_magic) log)
  cut_fits = omega (arith, cut-room, header-len (take n log_magic) log, length-take n log_magic, length-magic)

  cut-content : content (header (take n log_magic) log) ≡ take n log_magic
  cut-content = header-content (take n log_magic) log (omega (arith, length-take n log_magic, length-magic))

  pub cut-bare : (P : ℕ) → Bare P (header (take n log_magic) log)
  cut-bare P = go (order n 8)
    where
      go : Order n 8 → Bare P (header (take n log_magic) log)
      go (less p) = bare-short P (header (take n log_magic) log) (omega (arith, ap length cut-content, length-take n log_magic, length-magic))
      go (most p) = bare-magic P (header (take n log_magic) log) (cut-content ∙ take_all n log_magic (omega (arith, length-magic)))

pub all-magic : take 8 log_magic ≡ log_magic
all-magic = take_all 8 log_magic (omega (arith, length-magic))

module _ (P : ℕ) (log : File) (has : 8 ≤ room log) where
  whole-content : content (header log_magic log) ≡ log_magic
  whole-content = header-content log_magic log (omega (arith, length-magic))

  cut-none : log_of P (content (header log_magic log)) ≡ record { found = []; ending = clean }
  cut-none = rw whole-content (rw append-nil at (log-magic P []) ∙ parse-none P 8)

  pub cut-reads : Reads P (header log_magic log)
  cut-reads = record { body = []; front = rw (whole-content, append-nil); whole = rw cut-none }

  pub cut-records : records P (header log_magic log) ≡ []
  unfolding records_in
  cut-records = rw cut-none
