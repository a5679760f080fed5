-- The same call in both forms: record, compact and load on a file g of the second form and on a file o that holds its old form leave two such files again. And
-- what each leaves of the header: a file that fits, with the same base. Assumes nothing.
use mathlib.Core.Path.{◌≡◌, refl, sym, ap, ◌∙◌}
use mathlib.Core.List.{List, ◌++◌, map}
use Prim.Native.Nat.{ℕ, ◌+◌, ◌-◌, ◌*◌, ◌/◌, ◌%◌, ◌≤◌, ◌<◌, max}
use native.Mathlib.Omega.{arith}
use lib.ListN.{length, take, drop, get_or, replicate, take-append-drop}
use lib.Seq.{sets, length-sets, sets-eq, ext_get_or, get_or-drop, get_or-take, take-take, take_at}
use Rattle.fields.specs.Bytes.{be_of, big_bytes, big_field}
use Rattle.fields.specs.Files.{File, content, room}
use Rattle.fields.proofs.Tests.{Order, less, most, order, Equal, equal, other, equality}
use Rattle.fields.proofs.Lists.{drop-take}
use Rattle.fields.proofs.Stored.{past-sets}
use Rattle.fields.proofs.BigLaws.{length-big_bytes, be_of-big_bytes}
use Rattle.fields.proofs.FileLaws.{content-length}
use Rattle.clog.specs.Slots.{clog_magic, with_bits, set_slot, cleared, clear_slots, settled_byte, settled}
use Rattle.clog.proofs.SlotLaws.{record-len, record-fit, record-at, record-off, record-header, compact-body, compact-header, settled-body, settled-header}
use Rattle.clog.proofs.ZeroLaws.{cleared-zeros, settled-zeros}
use Rattle.shrunk.specs.Form.{base_of, to_first}
use Rattle.shrunk.specs.Calls.{relength}
use Rattle.shrunk.proofs.FormLaws.{Fits, base_same}
use Rattle.shrunk.proofs.MoveLaws.{magic-long, length-first, first_body, first-front, first-packed}

-- an id's slot set in a file of the second form, its stated length not yet
abbrev pub slotted : ℕ → ℕ → File → File
slotted id c g = set_slot 13 (id - base_of (content g)) c g

-- ---- the length that the file states

module _ (f : File) (fits : f.len ≤ room f) where
  after : (n : ℕ) → 4 ≤ n → drop n (content (relength f)) ≡ drop n (content f)
  unfolding relength
  after n h =
      let l : 0 + length (big_bytes 4 (f.len - 4)) ≤ n = rw length-big_bytes (omega arith) in
      drop-take n f.len (sets f.bytes 0 (big_bytes 4 (f.len - 4))) ∙ rw (past-sets (big_bytes 4 (f.len - 4)) f.bytes n 0 l) (sym (drop-take n f.len f.bytes))

  pub relength-room : room (relength f) ≡ room f
  unfolding relength
  relength-room = length-sets f.bytes 0 (big_bytes 4 (f.len - 4))

  pub relength-len : (relength f).len ≡ f.len
  unfolding relength
  relength-len = refl

  relength-length : length (content (relength f)) ≡ f.len
  relength-length = content-length (relength f) (rw (relength-room, relength-len) fits) ∙ relength-len

  pub relength-packed : drop 13 (content (relength f)) ≡ drop 13 (content f)
  relength-packed = after 13 (omega arith)

  pub relength-base : base_of (content (relength f)) ≡ base_of (content f)
  unfolding base_of
  relength-base = ap (λ (t : List ℕ). be_of (take 8 t)) (after 5 (omega arith))

  pub relength-byte : (i : ℕ) → get_or (content (relength f)) (13 + i) 0 ≡ get_or (content f) (13 + i) 0
  relength-byte i = sym (get_or-drop 13 (content (relength f)) i 0) ∙ ap (λ (t : List ℕ). get_or t i 0) relength-packed ∙ get_or-drop 13 (content f) i 0

  relength-version : get_or (content (relength f)) 4 0 ≡ get_or (content f) 4 0
  relength-version = sym (get_or-drop 4 (content (relength f)) 0 0) ∙ ap (λ (t : List ℕ). get_or t 0 0) (after 4 (omega arith)) ∙ get_or-drop 4 (content f) 0 0

  pub relength-states : 13 ≤ f.len → f.len ≤ 1048576 → big_field 4 0 (content (relength f)) ≡ f.len - 4
  unfolding relength
  relength-states h s =
      let l : 0 + length (big_bytes 4 (f.len - 4)) ≤ length f.bytes = rw length-big_bytes (omega arith) in
      let t : take 4 (content (relength f)) ≡ big_bytes 4 (f.len - 4) =
      take-take 4 f.len (sets f.bytes 0 (big_bytes 4 (f.len - 4))) (omega arith)
      ∙ rw (sets-eq (big_bytes 4 (f.len - 4)) f.bytes 0 l)
      (take_at (big_bytes 4 (f.len - 4)) (drop (0 + length (big_bytes 4 (f.len - 4))) f.bytes) 4 (length-big_bytes 4 (f.len - 4))) in
      rw t (be_of-big_bytes 4 (f.len - 4) (omega arith))

  -- a file whose first 13 bytes were those of one that fits fits again
  pub relength-fits : (xs : List ℕ) → 13 ≤ f.len → f.len ≤ 1048576 → take 13 (content f) ≡ take 13 xs → Fits xs → Fits (content (relength f))
  relength-fits xs h s e g =
      let b : base_of (content (relength f)) ≡ base_of xs = relength-base ∙ base_same xs (content f) e in
      let v : get_or (content f) 4 0 ≡ get_or xs 4 0 = sym (get_or-take 13 (content f) 4 0 (omega arith)) ∙ ap (λ (t : List ℕ). get_or t 4 0) e ∙ get_or-take 13 xs 4 0 (omega arith) in
      record {
        long = rw relength-length h;
        states = rw (relength-states h s, relength-length) (omega arith);
        version = relength-version ∙ v ∙ g.version;
        fourfold = rw b g.fourfold;
        limited = rw b g.limited;
      }

-- ---- two files, one clog

module _ (g o : File) (same : content o ≡ to_first (content g)) (fg : g.len ≤ room g) (fo : o.len ≤ room o) (fits : Fits (content g)) where
  g-length : length (content g) ≡ g.len
  g-length = content-length g fg

  pub o-len : o.len ≡ 8 + base_of (content g) / 4 + (g.len - 13)
  o-len = sym (content-length o fo) ∙ ap length same ∙ length-first (content g) ∙ ap (λ (n : ℕ). 8 + base_of (content g) / 4 + (n - 13)) g-length

  g-head : 13 ≤ g.len
  g-head = omega (arith, fits.long, g-length)

  o-head : 8 ≤ o.len
  o-head = omega (arith, o-len)

  o-front : take 8 (content o) ≡ clog_magic
  unfolding to_first
  o-front = ap (take 8) same ∙ take_at clog_magic (replicate (base_of (content g) / 4) 0 ++ drop 13 (content g)) 8 magic-long

  o-body : drop 8 (content o) ≡ replicate (base_of (content g) / 4) 0 ++ drop 13 (content g)
  o-body = ap (drop 8) same ∙ first_body (content g)

  fourth : 4 * (base_of (content g) / 4) ≡ base_of (content g)
  fourth = omega (arith, fits.fourfold)

  -- a header and packed bytes, in both
  rejoined : (o₁ g₁ : File) (bs : List ℕ) → take 8 (content o₁) ≡ take 8 (content o) → drop 8 (content o₁) ≡ replicate (base_of (content g) / 4) 0 ++ bs
      → take 13 (content g₁) ≡ take 13 (content g) → drop 13 (content g₁) ≡ bs → content o₁ ≡ to_first (content g₁)
  unfolding to_first
  rejoined o₁ g₁ bs p q r s = sym (take-append-drop 8 (content o₁)) ∙ rw (p, o-front, q, base_same (content g) (content g₁) r, s)

  -- compact
  pub compact-square : (w : ℕ) → content (clear_slots 8 w o) ≡ to_first (content (clear_slots 13 (w - base_of (content g)) g))
  compact-square w =
      rejoined (clear_slots 8 w o) (clear_slots 13 (w - base_of (content g)) g) (cleared (w - base_of (content g)) (drop 13 (content g))) (compact-header 8 w o fo o-head)
      (compact-body 8 w o fo o-head ∙ ap (cleared w) o-body ∙ cleared-zeros (base_of (content g) / 4) w (drop 13 (content g))
      ∙ ap (λ (n : ℕ). replicate (base_of (content g) / 4) 0 ++ cleared (w - n) (drop 13 (content g))) fourth)
      (compact-header 13 (w - base_of (content g)) g fg g-head) (compact-body 13 (w - base_of (content g)) g fg g-head)

  -- load, in the file
  pub settled-square : content (settled 8 o) ≡ to_first (content (settled 13 g))
  settled-square =
      rejoined (settled 8 o) (settled 13 g) (map settled_byte (drop 13 (content g))) (settled-header 8 o fo o-head)
      (settled-body 8 o fo o-head ∙ ap (map settled_byte) o-body ∙ settled-zeros (base_of (content g) / 4) (drop 13 (content g)))
      (settled-header 13 g fg g-head) (settled-body 13 g fg g-head)

  -- record
  module _ (id c : ℕ) (low : base_of (content g) ≤ id) (rg : 13 + (id - base_of (content g)) / 4 < room g) (ro : 8 + id / 4 < room o) where
    at-o : 8 + id / 4 ≡ 8 + base_of (content g) / 4 + (id - base_of (content g)) / 4
    at-o = omega (arith, fits.fourfold)

    low_bits : id % 4 ≡ (id - base_of (content g)) % 4
    low_bits = omega (arith, fits.fourfold)

    recorded-fit : (slotted id c g).len ≤ room (slotted id c g)
    recorded-fit = record-fit 13 (id - base_of (content g)) c g fg rg

    recorded-base : base_of (content (relength (slotted id c g))) ≡ base_of (content g)
    recorded-base =
        relength-base (slotted id c g) recorded-fit
        ∙ base_same (content g) (content (slotted id c g)) (record-header 13 (id - base_of (content g)) c g fg rg g-head)

    recorded-length : length (content (set_slot 8 id c o)) ≡ length (to_first (content (relength (slotted id c g))))
    recorded-length =
        let a : length (content (set_slot 8 id c o)) ≡ max o.len (8 + id / 4 + 1) = content-length (set_slot 8 id c o) (record-fit 8 id c o fo ro) ∙ record-len 8 id c o in
        let b : length (content (relength (slotted id c g))) ≡ max g.len (13 + (id - base_of (content g)) / 4 + 1) =
        relength-length (slotted id c g) recorded-fit ∙ record-len 13 (id - base_of (content g)) c g in
        a ∙ rw (length-first, recorded-base, b) (omega (arith, o-len, at-o, g-head))

    record-byte : (i : ℕ) → Order i (8 + base_of (content g) / 4) → Equal i (8 + id / 4)
        → get_or (content (set_slot 8 id c o)) i 0 ≡ get_or (to_first (content (relength (slotted id c g)))) i 0
    record-byte i (less p) (equal q) = absurd (omega (arith, at-o))
    record-byte i (less p) (other q) =
        let t : i < 8 + base_of (content (relength (slotted id c g))) / 4 = rw recorded-base p in
        record-off 8 id c o fo ro i q ∙ ap (λ (l : List ℕ). get_or l i 0) same ∙ first-front (content g) i p
        ∙ sym (first-front (content (relength (slotted id c g))) i t ∙ rw recorded-base)
    record-byte i (most p) q =
        let e : i ≡ 8 + base_of (content g) / 4 + (i - (8 + base_of (content g) / 4)) = omega arith in
        left q ∙ sym (ap (λ (k : ℕ). get_or (to_first (content (relength (slotted id c g)))) k 0) e ∙ right)
      where
        right : get_or (to_first (content (relength (slotted id c g)))) (8 + base_of (content g) / 4 + (i - (8 + base_of (content g) / 4))) 0
            ≡ get_or (content (slotted id c g)) (13 + (i - (8 + base_of (content g) / 4))) 0
        right =
            rw recorded-base at (first-packed (content (relength (slotted id c g))) (i - (8 + base_of (content g) / 4)))
            ∙ relength-byte (slotted id c g) recorded-fit (i - (8 + base_of (content g) / 4))

        old : get_or (content o) i 0 ≡ get_or (content g) (13 + (i - (8 + base_of (content g) / 4))) 0
        old =
            let e : i ≡ 8 + base_of (content g) / 4 + (i - (8 + base_of (content g) / 4)) = omega arith in
            ap (λ (l : List ℕ). get_or l i 0) same ∙ ap (λ (k : ℕ). get_or (to_first (content g)) k 0) e ∙ first-packed (content g) (i - (8 + base_of (content g) / 4))

        left : Equal i (8 + id / 4) → get_or (content (set_slot 8 id c o)) i 0 ≡ get_or (content (slotted id c g)) (13 + (i - (8 + base_of (content g) / 4))) 0
        left (equal q) =
            let k : 13 + (i - (8 + base_of (content g) / 4)) ≡ 13 + (id - base_of (content g)) / 4 = omega (arith, at-o) in
            ap (λ (n : ℕ). get_or (content (set_slot 8 id c o)) n 0) q ∙ record-at 8 id c o fo ro
            ∙ ap (λ (n : ℕ). with_bits (id % 4) c (get_or (content o) n 0)) (sym q) ∙ ap (with_bits (id % 4) c) old ∙ rw (low_bits, k)
            (sym (record-at 13 (id - base_of (content g)) c g fg rg))
        left (other q) =
            record-off 8 id c o fo ro i q ∙ old
            ∙ sym (record-off 13 (id - base_of (content g)) c g fg rg (13 + (i - (8 + base_of (content g) / 4))) (λ e. q (omega (arith, at-o, e))))

    pub record-square : content (set_slot 8 id c o) ≡ to_first (content (relength (slotted id c g)))
    record-square =
        ext_get_or 0 (content (set_slot 8 id c o)) (to_first (content (relength (slotted id c g)))) recorded-length
        (λ i h. record-byte i (order i (8 + base_of (content g) / 4)) (equality i (8 + id / 4)))
