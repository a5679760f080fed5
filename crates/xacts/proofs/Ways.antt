-- What the functions' proofs cite: lengths in whole pages, what a number that is 0 says, and one law for each way out. Assumes nothing.
use mathlib.Core.Path.{◌≡◌, refl, sym, ap, ◌∙◌}
use mathlib.Core.List.{List, ◌++◌}
use mathlib.Core.Bool.{Bool, true, false, cond, not}
use Prim.Native.Nat.{ℕ, ◌+◌, ◌-◌, ◌/◌, ◌%◌, ◌≤◌, ◌<◌}
use native.Mathlib.Nat.{div-add-mod', mod-lt, mul-mod_left}
use native.Mathlib.Omega.{arith}
use lib.Dec.{ltb, eqb, lit<}
use lib.ListN.{length, take, drop, replicate, length-append, length-replicate}
use lib.Seq.{sets, length-slice}
use borrow.Author.Tests.{ltb-false}
use Rattle.std.specs.Prelude.{Ok, Err}
use Rattle.fields.specs.declared.refusal.Refusal.{Refusal}
use Rattle.fields.specs.Refusals.{number_of}
use Rattle.fields.specs.Files.{File, file_of, room}
use Rattle.fields.specs.Answers.{outcome, decided}
use Rattle.fields.proofs.Tests.{passed}
use Rattle.fields.proofs.Lists.{drop-take}
use Rattle.fields.proofs.Stored.{laid_next}
use Rattle.fields.proofs.AnswerLaws.{number-positive, outcome-refused, outcome-accepted}
use Rattle.clog.specs.Slots.{codes}
use Rattle.clog.specs.Calls.{unfit}
use Rattle.clog.proofs.Refusals.{fit-means}
use Rattle.xacts.specs.Pages.{written_as, remade, whole_pages, status_pages, body_from}
use Rattle.xacts.specs.Calls.{body_of, has, write_no, read_no, over, written, read_back}
use Rattle.xacts.proofs.Remade.{length-remade}

-- ---- whole pages

pub whole-least : (Q n : ℕ) → 1 ≤ Q → n ≤ whole_pages Q n
unfolding whole_pages
whole-least Q n h =
    let l : (n + (Q - 1)) % Q < Q = mod-lt (n + (Q - 1)) (omega arith) in
    omega (arith, div-add-mod' (n + (Q - 1)) Q)

pub whole-rest : (Q n : ℕ) → whole_pages Q n % Q ≡ 0
unfolding whole_pages
whole-rest Q n = mul-mod_left ((n + (Q - 1)) / Q) Q

pub length-pages : (Q mark : ℕ) (body : List ℕ) → 1 ≤ Q → length (status_pages Q mark body) ≡ whole_pages Q (length body)
unfolding status_pages
length-pages Q mark body h =
    let l = whole-least Q (length body) h in
    rw (length-append, length-remade, length-replicate) (omega arith)

pub length_back : (pages : List ℕ) → length (body_from pages) ≡ length pages
unfolding body_from
length_back pages = length-remade _ pages 0

pages-are : (Q mark : ℕ) (body : List ℕ) (n end : ℕ) → length body ≡ n → end ≡ whole_pages Q n → status_pages Q mark body ≡ remade (written_as mark) 0 body ++ replicate (end - n) 0
unfolding status_pages
pages-are Q mark body n end s g = rw (s, g)

-- ---- what a number that is 0 says

pub write-fits : (Q mark : ℕ) (f : File) (size number : ℕ) → number ≡ write_no Q mark f size → number ≡ 0
    → (room f ≤ 1048576) × (f.len ≤ room f) × (8 ≤ f.len) × (has 1 (drop mark (codes (body_of f))) ≡ false) × (length (status_pages Q mark (body_of f)) ≤ size)
unfolding write_no
write-fits Q mark f size number e z =
    let short = ltb size (length (status_pages Q mark (body_of f))) in
    let active = has 1 (drop mark (codes (body_of f))) in
    let p = passed (unfit 8 (room f) f.len) 1 (cond active 19 (cond short 13 0)) (lit< tt) (sym e ∙ z) in
    let q = passed active 19 (cond short 13 0) (lit< tt) p.1 in
    let r = passed short 13 0 (lit< tt) q.1 in
    let m = fit-means 8 (room f) f.len p.0 in
    (m.0, m.1, m.2, q.0, ltb-false _ _ r.0)

pub read_fits : (Q : ℕ) (pages : List ℕ) (size number : ℕ) → number ≡ read_no Q pages size → number ≡ 0 → length pages ≤ size
unfolding read_no
read_fits Q pages size number e z =
    let short = ltb size (length pages) in
    let p = passed (not (eqb (length pages % Q) 0)) 21 (cond (has 3 (codes pages)) 20 (cond short 13 0)) (lit< tt) (sym e ∙ z) in
    let q = passed (has 3 (codes pages)) 20 (cond short 13 0) (lit< tt) p.1 in
    ltb-false _ _ (passed short 13 0 (lit< tt) q.1).0

-- ---- the tests of writing, one after the other; the body is lent as a part of the clog

module _ (Q mark : ℕ) (clog : List ℕ) (len size : ℕ) (fit : unfit 8 (length clog) len ≡ false) where
  lent-body : take (len - 8) (drop 8 clog) ≡ body_of (file_of clog len)
  lent-body = sym (drop-take 8 len clog)

  pub write-tests : 1 ≤ Q → (active short : Bool) (end : ℕ) → active ≡ has 1 (drop mark (codes (take (len - 8) (drop 8 clog)))) → end ≡ whole_pages Q (len - 8)
      → short ≡ ltb size end → cond active 19 (cond short 13 0) ≡ write_no Q mark (file_of clog len) size
  unfolding write_no
  write-tests whole active short end h is l =
      let f = fit-means 8 (length clog) len fit in
      let n : length (status_pages Q mark (body_of (file_of clog len))) ≡ end =
      length-pages Q mark (body_of (file_of clog len)) whole ∙ ap (whole_pages Q) (length-slice 8 len clog f.1) ∙ sym is in
      rw (l, h, lent-body, fit, n)

-- ---- the tests of reading

pub read-tests : (Q : ℕ) (pages : List ℕ) (size : ℕ) (found : Bool) → found ≡ has 3 (codes pages)
    → cond (not (eqb (length pages % Q) 0)) 21 (cond found 20 (cond (ltb size (length pages)) 13 0)) ≡ read_no Q pages size
unfolding read_no
read-tests Q pages size found h = rw h

-- ---- one test after the other

pub first-told : (b : Bool) (e : Refusal) (n rest : ℕ) → number_of e ≡ cond b n 0 → number_of e ≡ cond b n rest
first-told true e n rest h = h
first-told false e n rest h = absurd (omega (arith, number-positive e, h))

pub rest-told : (b : Bool) (n rest : ℕ) → 0 < n → 0 ≡ cond b n 0 → rest ≡ cond b n rest
rest-told true n rest p h = absurd (omega (arith, p, h))
rest-told false n rest p h = refl

-- ---- the ways out

over_no : (out ys : List ℕ) (r : Refusal) (n : ℕ) → number_of r ≡ n → outcome (Err r) out ≡ decided n (file_of out 0) (over out ys)
over_no out ys r n e = outcome-refused r n (file_of out 0) (over out ys) out (sym e) refl

pub over_done : (out ys buf : List ℕ) (len n : ℕ) → 0 ≡ n → len ≡ length ys → buf ≡ sets out 0 ys → outcome (Ok len) buf ≡ decided n (file_of out 0) (over out ys)
unfolding over
over_done out ys buf len n e l b = outcome-accepted len n (file_of out 0) (file_of (sets out 0 ys) (length ys)) buf (sym e) (rw (b, l))

module _ (Q mark : ℕ) (f : File) (out : List ℕ) where
  pub written-no : (r : Refusal) → number_of r ≡ write_no Q mark f (length out) → outcome (Err r) out ≡ written Q mark f out
  unfolding written
  written-no r e = over_no out (status_pages Q mark (body_of f)) r _ e

  -- the body's bytes, then zeros up to the end of the last page
  pub written-done : 0 ≡ write_no Q mark f (length out) → 1 ≤ Q → (n end : ℕ) (mid buf : List ℕ) → n ≡ f.len - 8 → end ≡ whole_pages Q n
      → mid ≡ sets out 0 (remade (written_as mark) 0 (body_of f)) → buf ≡ sets mid n (replicate (end - n) 0) → outcome (Ok end) buf ≡ written Q mark f out
  unfolding written
  written-done is q n end mid buf e g m b =
      let fits = write-fits Q mark f (length out) 0 is refl in
      let s : length (body_of f) ≡ n = length-slice 8 f.len f.bytes fits.1 ∙ sym e in
      let j : n ≡ 0 + length (remade (written_as mark) 0 (body_of f)) = rw length-remade (omega arith) in
      let l : end ≡ length (status_pages Q mark (body_of f)) = g ∙ sym (length-pages Q mark (body_of f) q ∙ ap (whole_pages Q) s) in
      let p : status_pages Q mark (body_of f) ≡ remade (written_as mark) 0 (body_of f) ++ replicate (end - n) 0 = pages-are Q mark (body_of f) n end s g in
      over_done out (status_pages Q mark (body_of f)) buf end _ is l
      (laid_next 0 n (remade (written_as mark) 0 (body_of f)) (replicate (end - n) 0) out mid buf j m b ∙ ap (sets out 0) (sym p))

pub lent_length : (clog : List ℕ) (len : ℕ) → len ≤ length clog → length (take (len - 8) (drop 8 clog)) ≡ len - 8
lent_length clog len h = ap length (sym (drop-take 8 len clog)) ∙ length-slice 8 len clog h

pub lent-room : (Q mark : ℕ) (clog : List ℕ) (len size : ℕ) → 1 ≤ Q → len ≤ length clog → length (status_pages Q mark (body_of (file_of clog len))) ≤ size
    → length (take (len - 8) (drop 8 clog)) ≤ size
lent-room Q mark clog len size q h l =
    let n = lent_length clog len h in
    let m = length-slice 8 len clog h in
    omega (arith, whole-least Q (length (body_of (file_of clog len))) q, length-pages Q mark (body_of (file_of clog len)) q)

pub written-lent : (Q mark : ℕ) (clog : List ℕ) (len : ℕ) (out : List ℕ) → 0 ≡ write_no Q mark (file_of clog len) (length out) → 1 ≤ Q
    → (end : ℕ) (mid buf : List ℕ) → end ≡ whole_pages Q (len - 8) → mid ≡ sets out 0 (remade (written_as mark) 0 (take (len - 8) (drop 8 clog)))
    → buf ≡ sets mid (len - 8) (replicate (end - (len - 8)) 0) → outcome (Ok end) buf ≡ written Q mark (file_of clog len) out
written-lent Q mark clog len out is q end mid buf g m b =
    written-done Q mark (file_of clog len) out is q (len - 8) end mid buf refl g (m ∙ ap (λ (x : List ℕ). sets out 0 (remade (written_as mark) 0 x)) (sym (drop-take 8 len clog))) b

module _ (Q : ℕ) (pages out : List ℕ) where
  pub back-no : (r : Refusal) → number_of r ≡ read_no Q pages (length out) → outcome (Err r) out ≡ read_back Q pages out
  unfolding read_back
  back-no r e = over_no out (body_from pages) r _ e

  pub back_done : 0 ≡ read_no Q pages (length out) → (buf : List ℕ) → buf ≡ sets out 0 (body_from pages) → outcome (Ok (length pages)) buf ≡ read_back Q pages out
  unfolding read_back
  back_done is buf b = over_done out (body_from pages) buf (length pages) _ is (sym (length_back pages)) b
