-- Writing and reading back: slot by slot at the level of lists, then of the two calls. Assumes nothing.
use mathlib.Core.Path.{◌≡◌, refl, sym, ap, subst, ◌∙◌}
use mathlib.Core.List.{List}
use mathlib.Core.Bool.{false}
use Prim.Native.Nat.{ℕ, ◌+◌, ◌-◌, ◌*◌, ◌/◌, ◌%◌, ◌≤◌, ◌<◌}
use native.Mathlib.Omega.{arith}
use lib.Dec.{lit≤}
use lib.ListN.{length, take, drop}
use lib.Seq.{sets, length-slice, get_or-drop}
use borrow.Author.Tests.{eq-eqb, le-ltb}
use Rattle.std.specs.Prelude.{Result, Ok}
use Rattle.fields.specs.declared.refusal.Refusal.{Refusal}
use Rattle.fields.specs.Files.{File, file_of, content}
use Rattle.fields.specs.Answers.{Outcome, outcome}
use Rattle.fields.proofs.AnswerLaws.{outcome-same}
use Rattle.fields.proofs.Tests.{Order, less, most, order}
use Rattle.clog.specs.Slots.{bits_of, slot_of, codes}
use Rattle.clog.proofs.SlotLaws.{slot_small, slice-sets}
use Rattle.clog.proofs.Theorems.{accepted-file}
use Rattle.xacts.specs.Pages.{written_as, read_as, remade, whole_pages, status_pages, body_from}
use Rattle.xacts.specs.Calls.{body_of, has, write_no, read_no, over, written, read_back}
use Rattle.xacts.specs.RoundTrip.{RoundTrip, AllRoundTrip}
use Rattle.xacts.proofs.Remade.{slot-remade, slot-past, slot-filled, length-remade}
use Rattle.xacts.proofs.Slots.{slot-not, slot-none, written_small, read_small, read-zero, back_below, back_above}
use Rattle.xacts.proofs.Ways.{whole-least, whole-rest, length-pages, length_back, write-fits, over_done}

-- ---- of lists

module _ (Q mark : ℕ) (body : List ℕ) where
  page-slot : (t : ℕ) → t < 4 * length body → slot_of 0 (status_pages Q mark body) t ≡ written_as mark t (slot_of 0 body t)
  unfolding status_pages
  page-slot t l = slot-filled (remade (written_as mark) 0 body) (whole_pages Q (length body) - length body) t ∙ slot-remade (written_as mark) (λ t c. omega (arith, written_small mark t c)) body t l

  page-past : (t : ℕ) → 4 * length body ≤ t → slot_of 0 (status_pages Q mark body) t ≡ 0
  unfolding status_pages
  page-past t l = slot-filled (remade (written_as mark) 0 body) (whole_pages Q (length body) - length body) t ∙ slot-past (remade (written_as mark) 0 body) t (omega (arith, length-remade (written_as mark) body 0))

  -- no 3 is written
  pub page-no-3 : has 3 (codes (status_pages Q mark body)) ≡ false
  page-no-3 = slot-none 3 (status_pages Q mark body) (λ t e. go t e (order t (4 * length body)))
    where
      go : (t : ℕ) → slot_of 0 (status_pages Q mark body) t ≡ 3 → Order t (4 * length body) → ⊥
      go t e (less p) = omega (arith, page-slot t p, written_small mark t (slot_of 0 body t))
      go t e (most p) = omega (arith, page-past t p)

  module _ (whole : 1 ≤ Q) where
    -- what was written is read in its turn
    pub pages-read : (size : ℕ) → length (status_pages Q mark body) ≤ size → read_no Q (status_pages Q mark body) size ≡ 0
    unfolding read_no
    pages-read size l =
        let e : length (status_pages Q mark body) % Q ≡ 0 = ap (λ (n : ℕ). n % Q) (length-pages Q mark body whole) ∙ whole-rest Q (length body) in
        rw (eq-eqb _ 0 e, page-no-3, le-ltb size (length (status_pages Q mark body)) l)

    pub back_in : (t : ℕ) → t < 4 * length body → slot_of 0 (body_from (status_pages Q mark body)) t ≡ read_as (written_as mark t (slot_of 0 body t))
    unfolding body_from
    back_in t l =
        let n = whole-least Q (length body) whole in
        let m = length-pages Q mark body whole in
        slot-remade (λ t c. read_as c) (λ t c. read_small c) (status_pages Q mark body) t (omega arith) ∙ ap read_as (page-slot t l)

    pub back-past : (t : ℕ) → 4 * length body ≤ t → slot_of 0 (body_from (status_pages Q mark body)) t ≡ 0
    unfolding body_from
    back-past t l = go (order t (4 * length (status_pages Q mark body)))
      where
        go : Order t (4 * length (status_pages Q mark body)) → slot_of 0 (remade (λ t c. read_as c) 0 (status_pages Q mark body)) t ≡ 0
        go (less p) =
            slot-remade (λ t c. read_as c) (λ t c. read_small c) (status_pages Q mark body) t p ∙ ap read_as (page-past t l) ∙ read-zero
        go (most p) = slot-past (remade (λ t c. read_as c) 0 (status_pages Q mark body)) t (omega (arith, length-remade (λ t c. read_as c) (status_pages Q mark body) 0))

    pub back-same : has 1 (drop mark (codes body)) ≡ false → (t : ℕ) → mark ≤ t → slot_of 0 (body_from (status_pages Q mark body)) t ≡ slot_of 0 body t
    back-same h t l = go (order t (4 * length body))
      where
        go : Order t (4 * length body) → slot_of 0 (body_from (status_pages Q mark body)) t ≡ slot_of 0 body t
        go (less p) = back_in t p ∙ back_above mark t (slot_of 0 body t) l (slot_small 0 body t) (slot-not 1 mark body h t l p)
        go (most p) = back-past t p ∙ sym (slot-past body t p)

-- ---- of the calls

-- the slot of an id after the magic
slot-body : (f : File) (t : ℕ) → slot_of 8 (content f) t ≡ slot_of 0 (body_of f) t
unfolding slot_of
slot-body f t = let z : 0 + t / 4 ≡ t / 4 = omega arith in ap (bits_of (t % 4)) (sym (rw z (get_or-drop 8 (content f) (t / 4) 0)))

-- what lies over the front of a long enough output
over-front : (out ys : List ℕ) → length ys ≤ length out → take (length ys) (sets out 0 ys) ≡ ys
over-front out ys l = slice-sets out ys 0 (length ys) (omega arith) l (omega arith)

module _ (Q mark : ℕ) (f : File) (out : List ℕ) (n : ℕ) (pages : List ℕ) (done : written Q mark f out ≡ outcome (Ok n) pages) where
  written-file : (write_no Q mark f (length out) ≡ 0) × (file_of pages n ≡ over out (status_pages Q mark (body_of f)))
  unfolding written
  written-file =
      accepted-file (write_no Q mark f (length out)) n (file_of out 0) (over out (status_pages Q mark (body_of f))) pages (ap (λ (o : Outcome). o.told) done)
      (ap (λ (o : Outcome). o.bytes) done)

  -- the pages that stand in the output, and their length
  pub written-front : (n ≡ length (status_pages Q mark (body_of f))) × (take n pages ≡ status_pages Q mark (body_of f))
  unfolding over
  written-front =
      let w = written-file in
      let fits = write-fits Q mark f (length out) _ refl w.0 in
      let l : n ≡ length (status_pages Q mark (body_of f)) = ap (λ (g : File). g.len) w.1 in
      (l, ap content w.1 ∙ over-front out (status_pages Q mark (body_of f)) fits.4)

  module _ (back₀ : List ℕ) (whole : 1 ≤ Q) (long : n ≤ length back₀) where
    read_done : read_back Q (take n pages) back₀ ≡ outcome (Ok n) (sets back₀ 0 (body_from (status_pages Q mark (body_of f))))
    unfolding read_back
    read_done =
        let w = written-front in
        let pg = status_pages Q mark (body_of f) in
        let no : read_no Q pg (length back₀) ≡ 0 = pages-read Q mark (body_of f) whole (length back₀) (omega arith) in
        let l : n ≡ length (body_from pg) = w.0 ∙ sym (length_back pg) in
        ap (λ (x : List ℕ). read_back Q x back₀) w.1 ∙ sym (over_done back₀ (body_from pg) (sets back₀ 0 (body_from pg)) n (read_no Q pg (length back₀)) (sym no) l refl)

    read-slot : (t : ℕ) → slot_of 0 (take n (read_back Q (take n pages) back₀).bytes) t ≡ slot_of 0 (body_from (status_pages Q mark (body_of f))) t
    read-slot t =
        let w = written-front in
        let pg = status_pages Q mark (body_of f) in
        let l : n ≡ length (body_from pg) = w.0 ∙ sym (length_back pg) in
        let e : take n (sets back₀ 0 (body_from pg)) ≡ body_from pg = rw l (over-front back₀ (body_from pg) (omega arith)) in
        ap (λ (o : Outcome). slot_of 0 (take n o.bytes) t) read_done ∙ ap (λ (x : List ℕ). slot_of 0 x t) e

    came-back : RoundTrip Q mark f n pages back₀ (read_back Q (take n pages) back₀).bytes
    came-back =
        let fits = write-fits Q mark f (length out) _ refl written-file.0 in
        let s : length (body_of f) ≡ f.len - 8 = length-slice 8 f.len f.bytes fits.1 in
        record {
          accepted = read_done ∙ ap (λ (o : Outcome). outcome (Ok n) o.bytes) (sym read_done);
          same = λ t l. read-slot t ∙ back-same Q mark (body_of f) whole fits.3 t l ∙ sym (slot-body f t);
          absent = λ t l. read-slot t ∙ back-past Q mark (body_of f) whole t (omega arith);
          below = λ t l m. read-slot t ∙ back_in Q mark (body_of f) whole t (omega arith) ∙ back_below mark t (slot_of 0 (body_of f) t) l;
        }

pub round_trip : (Q : ℕ) → AllRoundTrip Q
unfolding AllRoundTrip
round_trip Q mark f out n pages back₀ whole done long = came-back Q mark f out n pages done back₀ whole long

-- the same of what the two functions return, by their contracts
pub round-trip-code : (mark : ℕ) (f : File) (out : List ℕ) (n : ℕ) (pages back₀ back : List ℕ) (r : Result ℕ Refusal) → outcome (Ok n) pages ≡ written 8192 mark f out
    → outcome r back ≡ read_back 8192 (take n pages) back₀ → n ≤ length back₀ → (r ≡ Ok n) × RoundTrip 8192 mark f n pages back₀ back
unfolding AllRoundTrip
round-trip-code mark f out n pages back₀ back r w b long =
    let c = round_trip 8192 mark f out n pages back₀ (lit≤ tt) (sym w) long in
    let e = outcome-same r (Ok n) back (read_back 8192 (take n pages) back₀).bytes (b ∙ c.accepted) in
    (e.0, subst (λ (x : List ℕ). RoundTrip 8192 mark f n pages back₀ x) (sym e.1) c)
