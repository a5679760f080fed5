-- The second form: its sizes, what is read back of it, and that a file which fits is the form of its own base and packed bytes. Assumes nothing.
use mathlib.Core.Path.{◌≡◌, sym, ap, ◌∙◌}
use mathlib.Core.List.{List, ◌∷◌, ◌++◌, append_assoc}
use mathlib.Core.Bool.{false}
use Prim.Native.Nat.{ℕ, ◌+◌, ◌%◌, ◌^◌, ◌≤◌, ◌<◌}
use native.Mathlib.Omega.{arith}
use lib.ListN.{length, take, drop, get_or, length-append, length-drop, take-append-drop}
use lib.Seq.{drop_at, take_at, get_or_at, get_or-take, drop-drop, drop-cons, length-take-le}
use borrow.Author.Tests.{ltb-false, eqb-true, not-false, le-ltb, eq-eqb}
use Rattle.fields.specs.Bytes.{be_of, big_bytes, big_field, Bytes}
use Rattle.fields.proofs.Tests.{neither}
use Rattle.fields.proofs.Lists.{part-front}
use Rattle.fields.proofs.ByteLaws.{bytes_drop, bytes_take}
use Rattle.fields.proofs.BigLaws.{length-big_bytes, be_of-big_bytes, big_bytes-be_of}
use Rattle.shrunk.specs.Form.{second_header, second_form, base_of, misfits}

-- ---- sizes

pub length-header : (base n : ℕ) → length (second_header base n) ≡ 13
unfolding second_header
length-header base n = rw (length-append, length-big_bytes 4 (9 + n), length-big_bytes 8 base)

pub length-form : (base : ℕ) (packed : List ℕ) → length (second_form base packed) ≡ 13 + length packed
unfolding second_form
length-form base packed = rw (length-append, length-header)

-- ---- what is read back

module _ (base : ℕ) (packed : List ℕ) where
  form-parts : second_form base packed ≡ big_bytes 4 (9 + length packed) ++ (2 ∷ (big_bytes 8 base ++ packed))
  unfolding second_form second_header
  form-parts = append_assoc (big_bytes 4 (9 + length packed)) (2 ∷ big_bytes 8 base) packed

  pub form-packed : drop 13 (second_form base packed) ≡ packed
  unfolding second_form
  form-packed = drop_at (second_header base (length packed)) packed 13 (length-header base (length packed))

  pub form-states : 9 + length packed < 256 ^ 4 → big_field 4 0 (second_form base packed) ≡ 9 + length packed
  form-states h =
      rw (form-parts, take_at (big_bytes 4 (9 + length packed)) (2 ∷ (big_bytes 8 base ++ packed)) 4 (length-big_bytes 4 (9 + length packed)))
      (be_of-big_bytes 4 (9 + length packed) h)

  form-after : drop 4 (second_form base packed) ≡ 2 ∷ (big_bytes 8 base ++ packed)
  form-after = rw form-parts (drop_at (big_bytes 4 (9 + length packed)) (2 ∷ (big_bytes 8 base ++ packed)) 4 (length-big_bytes 4 (9 + length packed)))

  pub form-version : get_or (second_form base packed) 4 0 ≡ 2
  form-version = rw form-parts (get_or_at (big_bytes 4 (9 + length packed)) 2 (big_bytes 8 base ++ packed) 0 4 (length-big_bytes 4 (9 + length packed)))

  pub form-base : base < 256 ^ 8 → base_of (second_form base packed) ≡ base
  unfolding base_of
  form-base h =
      let d : drop 5 (second_form base packed) ≡ big_bytes 8 base ++ packed = sym (drop-drop 1 4 (second_form base packed)) ∙ rw form-after in
      rw (d, take_at (big_bytes 8 base) packed 8 (length-big_bytes 8 base)) (be_of-big_bytes 8 base h)

-- ---- a file that fits

pub record Fits (xs : List ℕ) : Type 0 where
  pub long : 13 ≤ length xs
  pub states : 4 + big_field 4 0 xs ≡ length xs
  pub version : get_or xs 4 0 ≡ 2
  pub fourfold : base_of xs % 4 ≡ 0
  pub limited : base_of xs ≤ 4194272

pub fits-means : (xs : List ℕ) → misfits xs ≡ false → Fits xs
unfolding misfits
fits-means xs h =
    let a = neither _ _ h in
    let b = neither _ _ a.1 in
    let c = neither _ _ b.1 in
    let d = neither _ _ c.1 in
    record {
      long = ltb-false _ _ a.0;
      states = eqb-true _ _ (not-false _ b.0);
      version = eqb-true _ _ (not-false _ c.0);
      fourfold = eqb-true _ _ (not-false _ d.0);
      limited = ltb-false _ _ d.1;
    }

pub fits-ok : (xs : List ℕ) → Fits xs → misfits xs ≡ false
unfolding misfits
fits-ok xs f =
    rw (le-ltb (length xs) 13 f.long, eq-eqb (4 + big_field 4 0 xs) (length xs) f.states, eq-eqb (get_or xs 4 0) 2 f.version, eq-eqb (base_of xs % 4) 0 f.fourfold)
    (le-ltb 4194272 (base_of xs) f.limited)

-- it is the form of its base and its packed bytes
pub form_of : (xs : List ℕ) → Fits xs → Bytes xs → second_form (base_of xs) (drop 13 xs) ≡ xs
unfolding base_of
form_of xs f b =
    let n : 9 + length (drop 13 xs) ≡ big_field 4 0 xs = rw length-drop (omega (arith, f.long, f.states)) in
    let l : length (take 4 xs) ≡ 4 = length-take-le 4 xs (omega (arith, f.long)) in
    let m : length (take 8 (drop 5 xs)) ≡ 8 = length-take-le 8 (drop 5 xs) (rw length-drop (omega (arith, f.long))) in
    let p : big_bytes 4 (big_field 4 0 xs) ≡ take 4 xs = rw l at (big_bytes-be_of (take 4 xs) (bytes_take 4 xs b)) in
    let q : big_bytes 8 (big_field 8 5 xs) ≡ take 8 (drop 5 xs) = rw m at (big_bytes-be_of (take 8 (drop 5 xs)) (bytes_take 8 (drop 5 xs) (bytes_drop 5 xs b))) in
    let r : take 8 (drop 5 xs) ++ drop 13 xs ≡ drop 5 xs = ap (λ (t : List ℕ). take 8 (drop 5 xs) ++ t) (sym (drop-drop 8 5 xs)) ∙ take-append-drop 8 (drop 5 xs) in
    let d : drop 4 xs ≡ 2 ∷ drop 5 xs = drop-cons xs 4 0 (omega (arith, f.long)) ∙ rw f.version in
    form-parts (big_field 8 5 xs) (drop 13 xs) ∙ rw (n, p, q, r, ← d) (take-append-drop 4 xs)

-- ---- what the first 13 bytes decide

pub base-front : (xs : List ℕ) → base_of (take 13 xs) ≡ base_of xs
unfolding base_of
base-front xs = ap be_of (part-front 8 5 13 xs (omega arith))

pub base_same : (xs ys : List ℕ) → take 13 ys ≡ take 13 xs → base_of ys ≡ base_of xs
base_same xs ys e = sym (base-front ys) ∙ ap base_of e ∙ base-front xs

-- with the length they decide whether a file fits
pub fits-same : (xs ys : List ℕ) → take 13 ys ≡ take 13 xs → length ys ≡ length xs → Fits xs → Fits ys
fits-same xs ys e l f =
    let s : big_field 4 0 ys ≡ big_field 4 0 xs = sym (ap be_of (part-front 4 0 13 ys (omega arith))) ∙ ap (λ (t : List ℕ). big_field 4 0 t) e ∙ ap be_of (part-front 4 0 13 xs (omega arith)) in
    let v : get_or ys 4 0 ≡ get_or xs 4 0 = sym (get_or-take 13 ys 4 0 (omega arith)) ∙ ap (λ (t : List ℕ). get_or t 4 0) e ∙ get_or-take 13 xs 4 0 (omega arith) in
    let b : base_of ys ≡ base_of xs = base_same xs ys e in
    record {
      long = omega (arith, f.long);
      states = rw (s, l) f.states;
      version = v ∙ f.version;
      fourfold = rw b f.fourfold;
      limited = rw b f.limited;
    }

-- the form of a base and packed bytes fits
pub form-fits : (base : ℕ) (packed : List ℕ) → base % 4 ≡ 0 → base ≤ 4194272 → length packed < 4294967200 → Fits (second_form base packed)
form-fits base packed m l n =
    let s : big_field 4 0 (second_form base packed) ≡ 9 + length packed = form-states base packed (omega arith) in
    let b : base_of (second_form base packed) ≡ base = form-base base packed (omega arith) in
    record {
      long = rw length-form (omega arith);
      states = rw (s, length-form) (omega arith);
      version = form-version base packed;
      fourfold = rw b m;
      limited = rw b l;
    }
