-- Laws of a clog gone over: zero bytes hold no entry and stay as they are, so that they can be passed over; what a turn of each pass does. Assumes nothing.
use Prim.Native.Nat.{ℕ, zero, suc, ◌+◌, ◌*◌, ◌-◌, ◌/◌, ◌%◌, ◌≤◌, ◌<◌, min}
use native.Mathlib.Nat.{add-zero}
use native.Mathlib.Numerals.{add-one}
use native.Mathlib.Omega.{arith}
use mathlib.Core.Path.{◌≡◌, refl, sym, ap, ◌∙◌}
use mathlib.Core.List.{List, [], ◌∷◌, ◌++◌, map}
use mathlib.Core.Bool.{true, false}
use lib.ListN.{length, take, drop, get_or, set, length-take, drop_of_length-le}
use lib.Seq.{drop-cons, drop-drop, length-take-le, sets, slice, slice-cons, take-set-lt, drop-set-lt, get_or-take}
use borrow.Author.Tests.{eq-eqb, ne_eqb}
use Rattle.fields.proofs.Tests.{Order, less, most, order, Equal, equal, other, equality}
use Rattle.fields.specs.Files.{File, file_of, content, room, unfit}
use Rattle.sorted.proofs.Laws.{take_min}
use Rattle.table.specs.declared.Entry.{Entry}
use Rattle.rows.specs.Rows.{Rowed, rowed_as, held_row, set_all}
use Rattle.clog.specs.Slots.{bits_of, codes, entry_of, entries_from, entries_in, valid_clog, loaded_status, settled_code, settled_byte, settled}
use Rattle.clog.proofs.ZeroLaws.{entries-zeros}
use Rattle.opening.proofs.Tables.{clog-none, clog-held}
use Rattle.sweeps.specs.Sweeps.{listed}
use Rattle.sweeps.specs.Inside.{zeros, busy_from, in_byte, next_from}
use Rattle.sweeps.proofs.Zeros.{zeros-end, zeros-stop, zeros-on, zeros-split, busy-within}

-- ---- several entries, in two parts

pub set-append : (N : ℕ) (r : Rowed) (a b : List Entry) → set_all N r (a ++ b) ≡ set_all N (set_all N r a) b
unfolding set_all
set-append N r [] b = refl
set-append N r (e ∷ a) b = set-append N (held_row N r e) a b

-- nothing is set once one was refused
pub set_ended : (N : ℕ) (r : Rowed) (es : List Entry) → (r.number ≡ 0 → ⊥) → set_all N r es ≡ r
unfolding set_all held_row
set_ended N r [] h = refl
set_ended N r (e ∷ es) h = rw (ne_eqb r.number 0 h) (set_ended N r es h)

-- ---- a slot and a byte

pub slot-none : (r : Rowed) (id c : ℕ) → c ≡ 0 → r ≡ set_all 256 r (entry_of id c)
unfolding entry_of set_all
slot-none r id c e = rw e

pub slot-one : (r s : Rowed) (id c : ℕ) → (c ≡ 0 → ⊥) → s ≡ held_row 256 r (record { id = record { 0 = id }; status = loaded_status c }) → s ≡ set_all 256 r (entry_of id c)
unfolding entry_of set_all
slot-one r s id c h e = rw (ne_eqb c 0 h) e

pub byte-set : (b id : ℕ) (r r0 r1 r2 r3 : Rowed) → r0 ≡ set_all 256 r (entry_of id (b / 1 % 4)) → r1 ≡ set_all 256 r0 (entry_of (id + 1) (b / 4 % 4)) →
    r2 ≡ set_all 256 r1 (entry_of (id + 2) (b / 16 % 4)) → r3 ≡ set_all 256 r2 (entry_of (id + 3) (b / 64 % 4)) → r3 ≡ set_all 256 r (in_byte id b)
unfolding in_byte bits_of
byte-set b id r r0 r1 r2 r3 e0 e1 e2 e3 =
    let x0 = entry_of id (b / 1 % 4) in
    let x1 = entry_of (id + 1) (b / 4 % 4) in
    let x2 = entry_of (id + 2) (b / 16 % 4) in
    let x3 = entry_of (id + 3) (b / 64 % 4) in
    let f2 : set_all 256 r1 (x2 ++ x3) ≡ r3 = set-append 256 r1 x2 x3 ∙ ap (λ (s : Rowed). set_all 256 s x3) (sym e2) ∙ sym e3 in
    let f1 : set_all 256 r0 (x1 ++ (x2 ++ x3)) ≡ r3 = set-append 256 r0 x1 (x2 ++ x3) ∙ ap (λ (s : Rowed). set_all 256 s (x2 ++ x3)) (sym e1) ∙ f2 in
    sym (set-append 256 r x0 (x1 ++ (x2 ++ x3)) ∙ ap (λ (s : Rowed). set_all 256 s (x1 ++ (x2 ++ x3))) (sym e0) ∙ f1)

join-three : (a b c : List Entry) → (a ++ b) ++ c ≡ a ++ (b ++ c)
join-three [] b c = refl
join-three (x ∷ a) b c = ap (λ (l : List Entry). x ∷ l) (join-three a b c)

entries-byte : (t b : ℕ) (bs : List ℕ) → entries_from t (codes (b ∷ bs)) ≡ in_byte t b ++ entries_from (t + 4) (codes bs)
unfolding codes entries_from in_byte
entries-byte t b bs =
    let e2 : t + 1 + 1 ≡ t + 2 = omega arith in
    let e3 : t + 2 + 1 ≡ t + 3 = omega arith in
    let e4 : t + 3 + 1 ≡ t + 4 = omega arith in
    let x0 = entry_of t (bits_of 0 b) in
    let x1 = entry_of (t + 1) (bits_of 1 b) in
    let x2 = entry_of (t + 2) (bits_of 2 b) in
    let x3 = entry_of (t + 3) (bits_of 3 b) in
    let r = entries_from (t + 4) (codes bs) in
    rw (e2, e3, e4) (sym (join-three x0 (x1 ++ (x2 ++ x3)) r ∙ ap (λ (l : List Entry). x0 ++ l) (join-three x1 (x2 ++ x3) r ∙ ap (λ (l : List Entry). x1 ++ l) (join-three x2 x3 r))))

-- ---- the pass that lists

-- what is passed over has no entry
skip : (s : List ℕ) (t at : ℕ) → entries_from t (codes (drop at s)) ≡ entries_from (t + 4 * (busy_from s at - at)) (codes (drop (busy_from s at) s))
unfolding busy_from
skip s t at =
    let z = zeros (drop at s) in
    let e : at + z - at ≡ z = omega arith in
    let f : drop z (drop at s) ≡ drop (at + z) s = drop-drop z at s in
    rw (e, ← f) (ap (λ (l : List ℕ). entries_from t (codes l)) (sym (zeros-split (drop at s))) ∙ entries-zeros z t (drop z (drop at s)))

pub list-start : (s : List ℕ) (rows : List (List ℕ)) (i : ℕ) → 8 ≤ length s → i ≡ busy_from s 8 →
    (8 ≤ i) × (i ≤ length s) × (set_all 256 (rowed_as 0 0 rows) (entries_from (4 * (i - 8)) (codes (drop i s))) ≡ set_all 256 (rowed_as 0 0 rows) (entries_in 8 0 s))
unfolding entries_in
list-start s rows i h e =
    let w = busy-within s 8 h in
    let z : 0 + 4 * (busy_from s 8 - 8) ≡ 4 * (busy_from s 8 - 8) = omega arith in
    let k : entries_from 0 (codes (drop 8 s)) ≡ entries_from (4 * (busy_from s 8 - 8)) (codes (drop (busy_from s 8) s)) = rw z at (skip s 0 8) in
    rw e (w.0, w.1, ap (set_all 256 (rowed_as 0 0 rows)) (sym k))

-- a byte's entries, and what comes after it
turn_byte : (s : List ℕ) (r r2 : Rowed) (i : ℕ) → 8 ≤ i → i < length s → r2 ≡ set_all 256 r (in_byte (4 * (i - 8)) (get_or s i 0)) →
    set_all 256 r2 (entries_from (4 * (i + 1 - 8)) (codes (drop (i + 1) s))) ≡ set_all 256 r (entries_from (4 * (i - 8)) (codes (drop i s)))
turn_byte s r r2 i h p e =
    let k : i + 1 ≡ suc i = omega arith in
    let q : 4 * (i - 8) + 4 ≡ 4 * (suc i - 8) = omega arith in
    let x = in_byte (4 * (i - 8)) (get_or s i 0) in
    let y = entries_from (4 * (suc i - 8)) (codes (drop (suc i) s)) in
    let f : entries_from (4 * (i - 8)) (codes (drop i s)) ≡ x ++ y = rw (drop-cons s i 0 p) (rw q at (entries-byte (4 * (i - 8)) (get_or s i 0) (drop (suc i) s))) in
    rw (k, f) (ap (λ (u : Rowed). set_all 256 u y) e ∙ sym (set-append 256 r x y))

none_left : (s : List ℕ) (t : ℕ) → entries_from t (codes (drop (length s) s)) ≡ []
unfolding codes entries_from
none_left s t = rw (drop_of_length-le s {i = length s} (omega arith))

pub list-turn : (s : List ℕ) (r r2 goal : Rowed) (i j : ℕ) → 8 ≤ i → i < length s → r2 ≡ set_all 256 r (in_byte (4 * (i - 8)) (get_or s i 0)) →
    j ≡ next_from s i r2.number → set_all 256 r (entries_from (4 * (i - 8)) (codes (drop i s))) ≡ goal →
    (i < j) × (8 ≤ j) × (j ≤ length s) × (set_all 256 r2 (entries_from (4 * (j - 8)) (codes (drop j s))) ≡ goal)
unfolding next_from
list-turn s r r2 goal i j h p e f g = go (equality r2.number 0)
  where
    turned : set_all 256 r2 (entries_from (4 * (i + 1 - 8)) (codes (drop (i + 1) s))) ≡ goal
    turned = turn_byte s r r2 i h p e ∙ g

    go : Equal r2.number 0 → (i < j) × (8 ≤ j) × (j ≤ length s) × (set_all 256 r2 (entries_from (4 * (j - 8)) (codes (drop j s))) ≡ goal)
    go (equal z) =
        let w = busy-within s (i + 1) (omega arith) in
        let q : j ≡ busy_from s (i + 1) = rw (eq-eqb r2.number 0 z) at f in
        let m : 4 * (i + 1 - 8) + 4 * (busy_from s (i + 1) - (i + 1)) ≡ 4 * (busy_from s (i + 1) - 8) = omega (arith, w.0) in
        rw q (omega (arith, w.0), omega (arith, w.0), w.1, ap (set_all 256 r2) (sym (rw m at (skip s (4 * (i + 1 - 8)) (i + 1)))) ∙ turned)
    go (other z) =
        let q : j ≡ length s = rw (ne_eqb r2.number 0 z) at f in
        rw q (p, omega arith, omega arith, set_ended 256 r2 _ z ∙ sym (set_ended 256 r2 _ z) ∙ turned)

pub list-end : (s : List ℕ) (r goal : Rowed) (i t : ℕ) → i ≡ length s → set_all 256 r (entries_from t (codes (drop i s))) ≡ goal → r ≡ goal
unfolding set_all
list-end s r goal i t e g = let k : set_all 256 r [] ≡ goal = rw (e, none_left s t) at g in k

-- ---- each way out of `list`

module _ (clog : File) (rows : List (List ℕ)) where
  pub listed-unfit : unfit 1048576 (room clog) clog.len ≡ true → rowed_as 1 0 rows ≡ listed rows clog
  unfolding listed
  listed-unfit u = rw u

  pub listed-none : unfit 1048576 (room clog) clog.len ≡ false → valid_clog clog ≡ false → rowed_as 0 0 rows ≡ listed rows clog
  unfolding listed set_all
  listed-none u v = rw (u, clog-none clog v)

  pub listed-held : unfit 1048576 (room clog) clog.len ≡ false → valid_clog clog ≡ true → (r : Rowed) →
      r ≡ set_all 256 (rowed_as 0 0 rows) (entries_in 8 0 (content clog)) → r ≡ listed rows clog
  unfolding listed
  listed-held u v r e = rw (u, clog-held clog v) e

-- ---- the pass that settles: what a turn does, and where it ends; n is the length, no longer than the buffer

slice-past : (l : List ℕ) (i n : ℕ) → n ≤ i → slice i n l ≡ []
slice-past l i n h = let e : length (take n l) ≤ i = rw length-take (omega arith) in drop_of_length-le (take n l) e

slice_set : (l : List ℕ) (i n v : ℕ) → i < n → slice (suc i) n (set l i v) ≡ slice (suc i) n l
slice_set l i n v h = rw (take-set-lt n l i v h, drop-set-lt (suc i) (take n l) i v (omega arith))

module _ (l : List ℕ) (i n : ℕ) where
  pub settle-turn : i < n → n ≤ length l → (v : ℕ) → v ≡ settled_byte (get_or l i 0)
      → sets (set l i v) (i + 1) (map settled_byte (slice (i + 1) n (set l i v))) ≡ sets l i (map settled_byte (slice i n l))
  settle-turn h f v e = rw (add-one, slice_set l i n v h, slice-cons i n l 0 h f, e)

  pub settle-end : n ≤ i → sets l i (map settled_byte (slice i n l)) ≡ l
  settle-end h = rw (slice-past l i n h)

set_same : (l : List ℕ) (i : ℕ) → get_or l i 0 ≡ 0 → i < length l → set l i 0 ≡ l
set_same [] i e h = absurd (omega arith)
set_same (x ∷ l) zero e h = ap (λ (n : ℕ). n ∷ l) (sym e)
set_same (x ∷ l) (suc i) e h = ap (λ (m : List ℕ). x ∷ m) (set_same l i e (omega arith))

zero_settled : settled_byte 0 ≡ 0
unfolding settled_byte settled_code bits_of
zero_settled = refl

settle-zero : (l : List ℕ) (i n : ℕ) → i < n → n ≤ length l → get_or l i 0 ≡ 0 →
    sets l (i + 1) (map settled_byte (slice (i + 1) n l)) ≡ sets l i (map settled_byte (slice i n l))
settle-zero l i n h p e =
    rw (set_same l i e (omega arith)) at (settle-turn l i n h p 0 (rw e (sym zero_settled)))

settle-zeros : (z : ℕ) (l : List ℕ) (i n : ℕ) → n ≤ length l → zeros (drop i (take n l)) ≡ z →
    sets l (i + z) (map settled_byte (slice (i + z) n l)) ≡ sets l i (map settled_byte (slice i n l))
settle-zeros zero l i n p e = rw (add-zero i)
settle-zeros (suc z) l i n p e = go (order i n) (equality (get_or (take n l) i 0) 0) (settle-zeros z l (i + 1) n p)
  where
    len : length (take n l) ≡ n
    len = length-take-le n l p

    go : Order i n → Equal (get_or (take n l) i 0) 0 →
        (zeros (drop (i + 1) (take n l)) ≡ z → sets l (i + 1 + z) (map settled_byte (slice (i + 1 + z) n l)) ≡ sets l (i + 1) (map settled_byte (slice (i + 1) n l))) →
        sets l (i + suc z) (map settled_byte (slice (i + suc z) n l)) ≡ sets l i (map settled_byte (slice i n l))
    go (less h) (equal x) ih =
        let k : i + suc z ≡ i + 1 + z = omega arith in
        let y : get_or l i 0 ≡ 0 = sym (get_or-take n l i 0 h) ∙ x in
        rw k (ih (omega (arith, zeros-on (take n l) i (omega (arith, len)) x)) ∙ settle-zero l i n h p y)
    go (less h) (other x) ih = absurd (omega (arith, zeros-stop (take n l) i (omega (arith, len)) x))
    go (most h) x ih = absurd (omega (arith, zeros-end (take n l) i (omega (arith, len))))

pub settle-skip : (l : List ℕ) (i at n : ℕ) → n ≤ length l → i ≡ busy_from (take n l) at →
    sets l i (map settled_byte (slice i n l)) ≡ sets l at (map settled_byte (slice at n l))
unfolding busy_from
settle-skip l i at n p e = rw e (settle-zeros (zeros (drop at (take n l))) l at n p refl)

-- the ways out of `settle`: n is the length, no longer than the buffer
module _ (b : List ℕ) (len n : ℕ) (is : n ≡ min len (length b)) where
  first-same : take n b ≡ take len b
  first-same = rw is (take_min b len (length b) refl)

  pub settled-long : (out : List ℕ) → out ≡ sets b 8 (map settled_byte (drop 8 (take n b))) → out ≡ (settled 8 (file_of b len)).bytes
  unfolding settled
  settled-long out e = e ∙ ap (λ (l : List ℕ). sets b 8 (map settled_byte (drop 8 l))) first-same

  pub settled-short : n < 8 → b ≡ (settled 8 (file_of b len)).bytes
  unfolding settled
  settled-short h =
      let k : length (take len b) ≤ 8 = rw length-take (omega arith) in
      rw (drop_of_length-le (take len b) {i = 8} k)
