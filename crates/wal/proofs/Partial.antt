-- Logs that end in the middle of a record, and logs that stop at a bad one, over the page size P. The first bytes of a record read as torn, with the bytes that
-- it lacks, and leave the records before it. What stands before a bad record, torn or with an unknown tag, reads to its end with the same records.
-- Assumes nothing.
use mathlib.Core.Path.{◌≡◌, refl, ap, ◌∙◌}
use mathlib.Core.List.{List, [], ◌∷◌, ◌++◌, append-nil, append_assoc}
use mathlib.Core.Bool.{Bool, true, false}
use Prim.Native.Nat.{ℕ, zero, suc, ◌+◌, ◌-◌, ◌≤◌, ◌<◌}
use native.Mathlib.Nat.{not-suc-le-zero}
use native.Mathlib.Omega.{arith}
use lib.Dec.{lit<, lit≤}
use lib.ListN.{length, take, drop, length-append}
use lib.Seq.{length-take-le, take-append-add}
use Rattle.fields.specs.Bytes.{bytes_of, starts}
use Rattle.fields.proofs.ByteLaws.{length-bytes_of}
use Rattle.fields.proofs.Stored.{starts-means}
use Rattle.wal.specs.Records.{log_magic, Record, image, begin, commit, abort, checkpoint, encode, body_of, record_of, torn, decode, Ending, clean, cut, strange, joined, parse, log_of}
use Rattle.wal.proofs.RecordLaws.{Fronted, at-end, bad, short, whole, front, Sound, decode-torn}
use Rattle.wal.proofs.ParseLaws.{parse-none, parse-bad, parse-short, parse-front, parse-append, length-magic, log-magic, log-other}

-- ---- the first bytes of a record

-- a record's bytes are a tag of 1 to 5 and a body of its size
record Shape (P : ℕ) (r : Record) : Type 0 where
  tag : ℕ
  body : List ℕ
  low : 0 < tag
  high : tag ≤ 5
  size : length body ≡ body_of P tag
  bytes : encode r ≡ tag ∷ body

shape : (P : ℕ) (r : Record) → Sound P r → Shape P r
unfolding encode body_of
shape P (image p bs) h =
    record { tag = 1; body = bytes_of 4 p ++ bs; low = lit< tt; high = lit≤ tt; size = rw (length-append, length-bytes_of, h.1); bytes = refl }
shape P (begin id) h = record { tag = 2; body = bytes_of 8 id; low = lit< tt; high = lit≤ tt; size = length-bytes_of 8 id; bytes = refl }
shape P (commit id t) h =
    record { tag = 3; body = bytes_of 8 id ++ bytes_of 8 t; low = lit< tt; high = lit≤ tt; size = simp (length-append, length-bytes_of); bytes = refl }
shape P (abort id) h = record { tag = 4; body = bytes_of 8 id; low = lit< tt; high = lit≤ tt; size = length-bytes_of 8 id; bytes = refl }
shape P checkpoint h = record { tag = 5; body = []; low = lit< tt; high = lit≤ tt; size = refl; bytes = refl }

pub encode-long : (r : Record) → 0 < length (encode r)
unfolding encode
encode-long (image p bs) = omega arith
encode-long (begin id) = omega arith
encode-long (commit id t) = omega arith
encode-long (abort id) = omega arith
encode-long checkpoint = omega arith

module _ (P : ℕ) (r : Record) (sound : Sound P r) where
  -- its first j bytes are torn, and lack the others
  pub decode-part : (j : ℕ) → 0 < j → j < length (encode r) → decode P (take j (encode r)) ≡ torn (length (encode r) - j)
  decode-part zero l h = absurd (omega arith)
  decode-part (suc i) l h =
      let s : Shape P r = shape P r sound in
      let n : length (encode r) ≡ suc (length s.body) = ap length s.bytes in
      let m : length (take i s.body) ≡ i = length-take-le i s.body (omega arith) in
      let e : body_of P s.tag - length (take i s.body) ≡ length (encode r) - suc i = omega (arith, n, m, s.size) in
      ap (λ (b : List ℕ). decode P (take (suc i) b)) s.bytes
      ∙ decode-torn P s.tag (take i s.body) s.low s.high (omega (arith, m, n, s.size)) ∙ ap torn e

  -- after bytes that read to their end, and after a log that does
  parse-part : (at j : ℕ) (s : List ℕ) → (parse P at s).ending ≡ clean → 0 < j → j < length (encode r) →
      parse P at (s ++ take j (encode r)) ≡ record { found = (parse P at s).found; ending = cut (at + length s) (length (encode r) - j) }
  parse-part at j s c l h =
      parse-append P at s (take j (encode r)) c
      ∙ rw (parse-short P (at + length s) (length (encode r) - j) (take j (encode r)) (decode-part j l h), append-nil)

  pub log-part : (body : List ℕ) (j : ℕ) → (log_of P (log_magic ++ body)).ending ≡ clean → 0 < j → j < length (encode r) →
      log_of P ((log_magic ++ body) ++ take j (encode r))
      ≡ record { found = (log_of P (log_magic ++ body)).found; ending = cut (8 + length body) (length (encode r) - j) }
  log-part body j c l h =
      let e : log_of P ((log_magic ++ body) ++ take j (encode r)) ≡ parse P 8 (body ++ take j (encode r)) = rw append_assoc (log-magic P (body ++ take j (encode r))) in
      e ∙ rw (log-magic P body) (parse-part 8 j body (rw (log-magic P body) at c) l h)

-- ---- before a bad record

-- a reading that stopped at a bad record, torn or with an unknown tag, at place p
abbrev pub Stops : Ending → ℕ → Type 0
Stops clean p = ⊥
Stops (cut at missing) p = at ≡ p
Stops (strange at) p = at ≡ p

-- the bad record stands within the bytes, and what stands before it reads to its end
record Before (P at : ℕ) (s : List ℕ) (p : ℕ) : Type 0 where
  low : at ≤ p
  high : p ≤ at + length s
  same : parse P at (take (p - at) s) ≡ record { found = (parse P at s).found; ending = clean }

before_here : (P at p : ℕ) (s : List ℕ) → at ≡ p → (parse P at s).found ≡ [] → Before P at s p
before_here P at p s z e =
    let d : p - at ≡ 0 = omega arith in
    record { low = omega arith; high = omega arith; same = rw (d, parse-none, e) }

before-turn : (P at p : ℕ) (s : List ℕ) → Fronted P s → ((at : ℕ) (r : List ℕ) → length r < length s → Stops (parse P at r).ending p → Before P at r p) →
    Stops (parse P at s).ending p → Before P at s p
before-turn P at p s (at-end e) go c = let q : ⊥ = rw (e, parse-none) at c in absurd q
before-turn P at p s (bad e) go c = before_here P at p s (rw (parse-bad P at s e) at c) (rw (parse-bad P at s e))
before-turn P at p s (short n h e) go c = before_here P at p s (rw (parse-short P at n s e) at c) (rw (parse-short P at n s e))
before-turn P at p s (whole tag body rest l h e f) go c =
    let here : parse P at s ≡ joined (record { at = at; what = record_of tag body } ∷ []) (parse P (at + suc (length body)) rest) = parse-front P at tag body rest s l h e f in
    let size : length s ≡ suc (length body) + length rest = rw (f, length-append) (omega arith) in
    let b : Before P (at + suc (length body)) rest p = go (at + suc (length body)) rest (omega arith) (rw here at c) in
    let n : p - at ≡ suc (length body + (p - (at + suc (length body)))) = omega (arith, b.low) in
    let t : take (p - at) s ≡ tag ∷ (body ++ take (p - (at + suc (length body))) rest) =
    rw (f, n) (ap (λ (x : List ℕ). tag ∷ x) (take-append-add body rest (p - (at + suc (length body))))) in
    record {
      low = omega (arith, b.low);
      high = omega (arith, b.high);
      same = parse-front P at tag body (take (p - (at + suc (length body))) rest) (take (p - at) s) l h e t ∙ rw (b.same, here);
    }

before-fuel : (P k at p : ℕ) (s : List ℕ) → length s < k → Stops (parse P at s).ending p → Before P at s p
before-fuel P zero at p s h c = absurd (not-suc-le-zero h)
before-fuel P (suc k) at p s h c = before-turn P at p s (front P s) (λ at r l. before-fuel P k at p r (omega arith)) c

-- the same of a log
pub record BeforeBad (P : ℕ) (log : List ℕ) (p : ℕ) : Type 0 where
  pub low : 8 ≤ p
  pub high : p ≤ length log
  pub same : log_of P (take p log) ≡ record { found = (log_of P log).found; ending = clean }

pub log-before : (P p : ℕ) (log : List ℕ) → Stops (log_of P log).ending p → BeforeBad P log p
log-before P p log c = go (starts log_magic log) refl
  where
    go : (x : Bool) → starts log_magic log ≡ x → BeforeBad P log p
    go false e = let q : ⊥ = rw (log-other P log e) at c in absurd q
    go true e =
        let body = drop (length log_magic) log in
        let f : log ≡ log_magic ++ drop (length log_magic) log = starts-means log_magic log e in
        let here : log_of P log ≡ parse P 8 (drop (length log_magic) log) = ap (log_of P) f ∙ log-magic P (drop (length log_magic) log) in
        let b : Before P 8 (drop (length log_magic) log) p =
        before-fuel P (suc (length body)) 8 p (drop (length log_magic) log) (omega arith) (rw here at c) in
        let n : p ≡ length log_magic + (p - 8) = omega (arith, b.low, length-magic) in
        let t : take p log ≡ log_magic ++ take (p - 8) (drop (length log_magic) log) =
        ap (take p) f ∙ ap (λ (k : ℕ). take k (log_magic ++ drop (length log_magic) log)) n ∙ take-append-add log_magic (drop (length log_magic) log) (p - 8) in
        record {
          low = b.low;
          high = omega (arith, b.high, ap length f, length-append log_magic (drop (length log_magic) log), length-magic);
          same = ap (log_of P) t ∙ log-magic P (take (p - 8) (drop (length log_magic) log)) ∙ b.same ∙ rw here;
        }
