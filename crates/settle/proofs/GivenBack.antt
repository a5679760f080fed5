-- Laws of pages that get the file's bytes back: the code's turns are those of the definitions; and page 0, which is written to file and frame after them, makes
-- no difference to them. P is the page size. Assumes nothing.
use Prim.Native.Nat.{ℕ, zero, suc, ◌+◌, ◌*◌, ◌/◌, ◌≤◌, ◌<◌, max, min}
use native.Mathlib.Nat.{suc-mul, mul-le-mul_right, le-div_iff_mul-le}
use native.Mathlib.Numerals.{add-one}
use native.Mathlib.Omega.{arith}
use mathlib.Core.Path.{◌≡◌, refl, sym, ap, ◌∙◌}
use mathlib.Core.Logic.{◌⊎◌, inl, inr}
use mathlib.Core.List.{List, [], ◌∷◌}
use mathlib.Core.Bool.{Bool, true, false}
use lib.Dec.{eqb}
use lib.ListN.{length, get_or, drop, length-map}
use borrow.Author.Tests.{eqb-true, eqb-false}
use lib.Seq.{sets, length-sets, ext_get_or}
use Rattle.fields.specs.Files.{File, file_of, lay}
use Rattle.fields.proofs.Tests.{Order, less, most, order}
use Rattle.fields.proofs.FileLaws.{lay-within}
use Rattle.fields.proofs.Stored.{sets-before, sets-in, sets-after, sets-again}
use Rattle.frames.specs.Pages.{is_in, slot_of, bad_page}
use Rattle.frames.specs.Copies.{page_of, with_frame}
use Rattle.frames.proofs.Lists.{index_in}
use Rattle.frames.proofs.CopyLaws.{page-has, page-none, length-page, stored-apart}
use Rattle.world.proofs.FrameLaws.{raised, raised-turn, raised-end, refilled, refilled-turn, refilled-end}
use Rattle.picks.specs.declared.Picked.{Picked}
use Rattle.picks.specs.Picks.{seat, seats_of, picked_of}
use Rattle.plans.proofs.Meanings.{page-at, slot_at}
use Rattle.ready.specs.Ready.{refill_to, refill}
use Rattle.settle.specs.Inside.{past, raised_to, raised_by}

-- ---- the page count past one page more

pub raised-start : (x : Picked) (n : ℕ) → n ≡ raised_to x 0 n
unfolding raised_to
raised-start x n = refl

pub raised-next : (x : Picked) (i n k m : ℕ) → k ≡ raised_to x i n → m ≡ past (get_or x.pages i 0) k → m ≡ raised_to x (i + 1) n
unfolding raised_to
raised-next x i n k m e f = f ∙ rw (e, add-one i)

-- ---- turn by turn

module _ (P : ℕ) (resident ps : List ℕ) (few : length ps ≤ 64) where
  abbrev picked : Picked
  picked = picked_of 64 (seats_of resident ps)

  page-is : (i : ℕ) → i < length ps → get_or picked.pages i 0 ≡ get_or ps i 0
  unfolding picked_of
  page-is i h = page-at resident ps _ i h

  slot_is : (i : ℕ) → i < length ps → get_or picked.slots i 0 ≡ slot_of (get_or ps i 0) resident
  unfolding picked_of
  slot_is i h = slot_at resident ps _ i h

  all-of-them : min picked.n 64 ≡ length ps
  unfolding picked_of
  all-of-them = let e = length-map ps (λ p. seat p (slot_of p resident)) in omega (arith, e)

  module _ (db : File) (frames : List ℕ) where
    refill-to : (i : ℕ) → i ≤ length ps → refilled P db resident (drop i ps) (refill_to P db picked i frames) ≡ refilled P db resident ps frames
    unfolding refill_to
    refill-to zero h = refl
    refill-to (suc i) h =
        let b = refill_to P db picked i frames in
        let e : suc i ≡ i + 1 = omega arith in
        rw (page-is i (omega arith), slot_is i (omega arith), e) (sym (refilled-turn P db resident ps i b (omega arith))) ∙ refill-to i (omega arith)

    pub refill-is : refill P db picked frames ≡ refilled P db resident ps frames
    refill-is =
        let n = length ps in
        rw all-of-them (sym (refilled-end P db resident ps n (refill_to P db picked n frames) (omega arith)) ∙ refill-to n (omega arith))

  module _ (good : (p : ℕ) → is_in p ps ≡ true → bad_page p ≡ false) (n : ℕ) where
    raised-to : (i : ℕ) → i ≤ length ps → raised (raised_to picked i n) (drop i ps) ≡ raised n ps
    unfolding raised_to
    raised-to zero h = refl
    raised-to (suc i) h =
        let m = raised_to picked i n in
        let e : suc i ≡ i + 1 = omega arith in
        let g : bad_page (get_or ps i 0) ≡ false = good (get_or ps i 0) (index_in ps i (omega arith)) in
        rw (page-is i (omega arith), g, e) (sym (raised-turn m ps i (omega arith))) ∙ raised-to i (omega arith)

    pub raised_is : raised_by picked n ≡ raised n ps
    raised_is =
        let k = length ps in
        rw all-of-them (sym (raised-end (raised_to picked k n) ps k (omega arith)) ∙ raised-to k (omega arith))

-- ---- page 0 is written after them

-- bytes laid at the front, as long as a page, leave every page but the first
pub other-page : (P : ℕ) → 0 < P → (f : File) (ys : List ℕ) (p : ℕ) → length ys ≡ P → 0 < p → page_of P (lay f 0 ys) p ≡ page_of P f p
other-page P z f ys p e h =
    ap (λ (g : File). page_of P g p) (lay-within f 0 ys (omega arith) ∙ rw e) ∙ go (order p (f.len / P))
  where
    above : P ≤ p * P
    above = let k : 1 * P ≤ p * P = mul-le-mul_right P h in omega arith

    go : Order p (f.len / P) → page_of P (file_of (sets f.bytes 0 ys) (max f.len (0 + P))) p ≡ page_of P f p
    go (less k) =
        let m : suc p * P ≤ f.len = (le-div_iff_mul-le z).0 k in
        let q : p < max f.len (0 + P) / P = (le-div_iff_mul-le z).1 (omega arith) in
        page-has P (file_of (sets f.bytes 0 ys) (max f.len (0 + P))) p q
        ∙ stored-apart P f.bytes 0 (p * P) ys (inl (omega (arith, above)))
        ∙ sym (page-has P f p k)
    go (most k) = page-none P (file_of (sets f.bytes 0 ys) (max f.len (0 + P))) p (low (order p (max f.len (0 + P) / P))) ∙ sym (page-none P f p k)
      where
        low : Order p (max f.len (0 + P) / P) → max f.len (0 + P) / P ≤ p
        low (most q) = q
        low (less q) =
            let m : suc p * P ≤ max f.len (0 + P) = (le-div_iff_mul-le z).0 q in
            let n : suc p * P ≤ f.len = omega (arith, suc-mul p P, above) in
            let o : p < f.len / P = (le-div_iff_mul-le z).1 n in
            absurd (omega arith)

-- bytes stored apart from each other: the order makes no difference
sets-apart : (xs ys l : List ℕ) (i j : ℕ) → i + length xs ≤ j → sets (sets l i xs) j ys ≡ sets (sets l j ys) i xs
sets-apart xs ys l i j h =
    ext_get_or 0 (sets (sets l i xs) j ys) (sets (sets l j ys) i xs) (long ∙ sym (length-sets (sets l j ys) i xs ∙ length-sets l j ys)) (λ n q.
    go n (omega (arith, q, long)) (order n i) (order n (i + length xs)) (order n j) (order n (j + length ys)))
  where
    long : length (sets (sets l i xs) j ys) ≡ length l
    long = length-sets (sets l i xs) j ys ∙ length-sets l i xs

    go : (n : ℕ) → n < length l → Order n i → Order n (i + length xs) → Order n j → Order n (j + length ys) →
        get_or (sets (sets l i xs) j ys) n 0 ≡ get_or (sets (sets l j ys) i xs) n 0
    go n q (less a) b d e =
        sets-before ys (sets l i xs) j n (omega arith) ∙ sets-before xs l i n a ∙ sym (sets-before xs (sets l j ys) i n a ∙ sets-before ys l j n (omega arith))
    go n q (most a) (less b) d e =
        sets-before ys (sets l i xs) j n (omega arith) ∙ sets-in xs l i n a b q ∙ sym (sets-in xs (sets l j ys) i n a b (omega (arith, q, length-sets l j ys)))
    go n q (most a) (most b) (less d) e =
        sets-before ys (sets l i xs) j n d ∙ sets-after xs l i n b ∙ sym (sets-after xs (sets l j ys) i n b ∙ sets-before ys l j n d)
    go n q (most a) (most b) (most d) (less e) =
        sets-in ys (sets l i xs) j n d e (omega (arith, q, length-sets l i xs)) ∙ sym (sets-after xs (sets l j ys) i n b ∙ sets-in ys l j n d e q)
    go n q (most a) (most b) (most d) (most e) =
        sets-after ys (sets l i xs) j n e ∙ sets-after xs l i n b ∙ sym (sets-after xs (sets l j ys) i n b ∙ sets-after ys l j n e)

-- two frame buffers that are the same once frame k is written stay so when a frame of both is written: with the same bytes, or frame k itself
module _ (P k : ℕ) (page : List ℕ) (long : length page ≡ P) where
  frame_apart : (a : List ℕ) (j : ℕ) (xs : List ℕ) → length xs ≡ P → Order j k → (j ≡ k → ⊥) →
      with_frame P (with_frame P a j xs) k page ≡ with_frame P (with_frame P a k page) j xs
  frame_apart a j xs e (less h) d =
      let m : suc j * P ≤ k * P = mul-le-mul_right P h in
      sets-apart xs page a (j * P) (k * P) (omega (arith, suc-mul j P))
  frame_apart a j xs e (most h) d =
      let l : k < j = omega (arith, d) in
      let m : suc k * P ≤ j * P = mul-le-mul_right P l in
      sym (sets-apart page xs a (k * P) (j * P) (omega (arith, suc-mul k P)))

  over-again : (a : List ℕ) (j : ℕ) (xs : List ℕ) → length xs ≡ P → j ≡ k → with_frame P (with_frame P a j xs) k page ≡ with_frame P a k page
  over-again a j xs e f = rw f (sets-again xs page a (k * P) (omega arith))

  both-written : (a b : List ℕ) (j : ℕ) (xs ys : List ℕ) → length xs ≡ P → length ys ≡ P → (xs ≡ ys) ⊎ (j ≡ k) → with_frame P a k page ≡ with_frame P b k page →
      with_frame P (with_frame P a j xs) k page ≡ with_frame P (with_frame P b j ys) k page
  both-written a b j xs ys e f (inr h) same = over-again a j xs e h ∙ same ∙ sym (over-again b j ys f h)
  both-written a b j xs ys e f (inl h) same = rw (← h) (go (eqb j k) refl)
    where
      go : (t : Bool) → eqb j k ≡ t → with_frame P (with_frame P a j xs) k page ≡ with_frame P (with_frame P b j xs) k page
      go true t = over-again a j xs e (eqb-true j k t) ∙ same ∙ sym (over-again b j xs e (eqb-true j k t))
      go false t =
          let n : j ≡ k → ⊥ = eqb-false j k t in
          frame_apart a j xs e (order j k) n ∙ ap (λ (c : List ℕ). with_frame P c j xs) same ∙ sym (frame_apart b j xs e (order j k) n)

-- pages filled from two files that differ in page 0 alone, then page 0's frame written
pub refilled-either : (P : ℕ) (one two : File) (resident : List ℕ) (page : List ℕ) → length page ≡ P → ((p : ℕ) → 0 < p → page_of P one p ≡ page_of P two p) →
    (ps a b : List ℕ) → with_frame P a (slot_of 0 resident) page ≡ with_frame P b (slot_of 0 resident) page →
    with_frame P (refilled P one resident ps a) (slot_of 0 resident) page ≡ with_frame P (refilled P two resident ps b) (slot_of 0 resident) page
unfolding refilled
refilled-either P one two resident page long same [] a b e = e
refilled-either P one two resident page long same (p ∷ ps) a b e =
    refilled-either P one two resident page long same ps (with_frame P a (slot_of p resident) (page_of P one p)) (with_frame P b (slot_of p resident) (page_of P two p))
    (both-written P (slot_of 0 resident) page long a b (slot_of p resident) (page_of P one p) (page_of P two p) (length-page P one p) (length-page P two p) (go p) e)
  where
    go : (p : ℕ) → (page_of P one p ≡ page_of P two p) ⊎ (slot_of p resident ≡ slot_of 0 resident)
    go zero = inr refl
    go (suc p) = inl (same (suc p) (omega arith))
