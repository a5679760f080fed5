-- What is told of a plan's stores depends on the lengths of the log and of the clog alone, and two tellings that say the same are the same. P is the page size.
-- Assumes nothing.
use mathlib.Core.Path.{◌≡◌, refl, sym, ap, ap₂, ◌∙◌}
use mathlib.Core.List.{List, [], ◌∷◌, map}
use Prim.Native.Nat.{ℕ, suc, ◌+◌, ◌-◌, ◌*◌, ◌/◌, ◌≤◌, ◌<◌, max}
use native.Mathlib.Numerals.{add-one}
use native.Mathlib.Omega.{arith}
use borrow.Author.Tests.{le-ltb, lt-ltb}
use lib.ListN.{length, drop, get_or, drop_of_length-le}
use lib.Seq.{drop-cons}
use Rattle.fields.specs.Files.{lay, header}
use Rattle.fields.proofs.FileLaws.{lay-len}
use Rattle.wal.specs.Records.{image, begin, commit, abort, checkpoint, encode, log_magic}
use Rattle.wal.proofs.WriteLaws.{id-size, commit-size, page-size}
use Rattle.clog.specs.Slots.{span_below, set_slot, clear_slots}
use Rattle.meta.proofs.Laws.{length-meta}
use Rattle.frames.specs.Copies.{frame_of}
use Rattle.frames.proofs.CopyLaws.{length-frame}
use Rattle.world.specs.declared.Lens.{Lens}
use Rattle.world.specs.World.{Files, files_of}
use Rattle.world.specs.Steps.{apply, tell, tell_all, telling}
use Rattle.stores.specs.declared.Plan.{Plan}
use Rattle.stores.specs.declared.Telling.{Telling}
use Rattle.std.specs.Prelude.{Option, Some, None, cond, eqb}
use Rattle.stores.specs.declared.StoreKind.{StoreKind}
use Rattle.stores.specs.declared.StoreKind.TheVariants.{Append, Page, Clog, Truncation}
use Rattle.stores.specs.declared.Step.{Step}
use Rattle.stores.specs.declared.Step.TheVariants.{LogImage, LogBegin, LogCommit, LogAbort, LogCheckpoint, WritePage, WriteMeta, SetSlot, Compact, Truncate}
use Rattle.stores.specs.Plans.{steps_of, meaning, meant}
use Rattle.stores.specs.Told.{kind_number, telling_told, first_told, told_at, told_in}
use Rattle.stores.specs.Inside.{told_by, lens_after, tell_steps}

begin-size : (id : ℕ) → length (encode (begin id)) ≡ 9
unfolding encode
begin-size id = id-size 2 id

abort-size : (id : ℕ) → length (encode (abort id)) ≡ 9
unfolding encode
abort-size id = id-size 4 id

checkpoint-size : length (encode checkpoint) ≡ 1
unfolding encode
checkpoint-size = refl

module _ (P : ℕ) (big : 36 ≤ P) (fr : List ℕ) where
  module _ (f : Files) (n : Lens) (p : f.log.len ≡ n.log) (q : f.clog.len ≡ n.clog) where
    tell-is : (s : Step) → tell P (meaning P fr s) f ≡ told_by P s n
    unfolding tell meaning told_by encode
    tell-is (LogImage g k) = ap₂ (telling 1) p (page-size P g (frame_of P fr k) (length-frame P fr k))
    tell-is (LogBegin id) = ap₂ (telling 1) p (id-size 2 id.0)
    tell-is (LogCommit id time) = ap₂ (telling 1) p (commit-size id.0 time.0)
    tell-is (LogAbort id) = ap₂ (telling 1) p (id-size 4 id.0)
    tell-is LogCheckpoint = ap (λ (l : ℕ). telling 1 l 1) p
    tell-is (WritePage g k) = ap (telling 2 (g * P)) (length-frame P fr k)
    tell-is (WriteMeta m) = let z : 0 * P ≡ 0 = omega arith in ap₂ (telling 2) z (length-meta P big m.next.0 m.time.0 m.mark.0)
    tell-is (SetSlot id s) = refl
    tell-is (Compact w) = ap (λ (c : ℕ). telling 3 8 (span_below (c - 8) w.0)) q
    tell-is Truncate = refl

    log_is : (s : Step) → (apply P (meaning P fr s) f).log.len ≡ (lens_after P s n).log
    unfolding apply meaning lens_after header log_magic
    log_is (LogImage g k) = omega (arith, lay-len f.log f.log.len (encode (image g (frame_of P fr k))), page-size P g (frame_of P fr k) (length-frame P fr k))
    log_is (LogBegin id) = omega (arith, lay-len f.log f.log.len (encode (begin id.0)), begin-size id.0)
    log_is (LogCommit id time) = omega (arith, lay-len f.log f.log.len (encode (commit id.0 time.0)), commit-size id.0 time.0)
    log_is (LogAbort id) = omega (arith, lay-len f.log f.log.len (encode (abort id.0)), abort-size id.0)
    log_is LogCheckpoint = omega (arith, lay-len f.log f.log.len (encode checkpoint), checkpoint-size)
    log_is (WritePage g k) = p
    log_is (WriteMeta m) = p
    log_is (SetSlot id s) = p
    log_is (Compact w) = p
    log_is Truncate = refl

    clog-is : (s : Step) → (apply P (meaning P fr s) f).clog.len ≡ (lens_after P s n).clog
    unfolding apply meaning lens_after set_slot clear_slots lay
    clog-is (LogImage g k) = q
    clog-is (LogBegin id) = q
    clog-is (LogCommit id time) = q
    clog-is (LogAbort id) = q
    clog-is LogCheckpoint = q
    clog-is (WritePage g k) = q
    clog-is (WriteMeta m) = q
    clog-is (SetSlot id s) = ap (λ (c : ℕ). max c (8 + id.0 / 4 + 1)) q
    clog-is (Compact w) = q
    clog-is Truncate = q

  -- whatever the frames and the buffers are
  pub told-steps : (ss : List Step) (f : Files) (n : Lens) → f.log.len ≡ n.log → f.clog.len ≡ n.clog → tell_all P (map (meaning P fr) ss) f ≡ tell_steps P ss n
  unfolding tell_all tell_steps
  told-steps [] f n p q = refl
  told-steps (s ∷ ss) f n p q =
      ap₂ ◌∷◌ (tell-is f n p q s) (told-steps ss (apply P (meaning P fr s) f) (lens_after P s n) (log_is f n p q s) (clog-is f n p q s))

-- so every plan is told the same on all files of these lengths
pub told-any : (P : ℕ) → 36 ≤ P → (fr : List ℕ) (p : Plan) (f : Files) (n : Lens) → f.log.len ≡ n.log → f.clog.len ≡ n.clog → tell_all P (meant P fr p) f ≡ tell_all P (meant P [] p) (files_of n [] [] [])
unfolding meant
told-any P big fr p f n a b = told-steps P big fr (steps_of p) f n a b ∙ sym (told-steps P big [] (steps_of p) (files_of n [] [] []) n refl refl)

pub length-told : (P : ℕ) (ss : List Step) (n : Lens) → length (tell_steps P ss n) ≡ length ss
unfolding tell_steps
length-told P [] n = refl
length-told P (s ∷ ss) n = ap suc (length-told P ss (lens_after P s n))

-- ---- the lengths, store by store

pub after-most : (P : ℕ) (s : Step) (n : Lens) → (lens_after P s n).log ≤ n.log + (P + 17)
unfolding lens_after
after-most P (LogImage g k) n = omega arith
after-most P (LogBegin id) n = omega arith
after-most P (LogCommit id time) n = omega arith
after-most P (LogAbort id) n = omega arith
after-most P LogCheckpoint n = omega arith
after-most P (WritePage g k) n = omega arith
after-most P (WriteMeta m) n = omega arith
after-most P (SetSlot id s) n = omega arith
after-most P (Compact w) n = omega arith
after-most P Truncate n = omega arith

module _ (P : ℕ) (ss : List Step) (i : ℕ) (here : i < length ss) where
  pub tell-turn : (k : ℕ) (s : Step) (n : Lens) → i < k → s ≡ get_or ss i Truncate → drop (k - (i + 1)) (tell_steps P (drop (i + 1) ss) (lens_after P s n)) ≡ drop (k - i) (tell_steps P (drop i ss) n)
  unfolding tell_steps
  tell-turn k s n l e =
      let m : k - i ≡ suc (k - suc i) = omega arith in
      rw (add-one, drop-cons ss i Truncate, m, e)

  pub tell-here : (k : ℕ) (n : Lens) → k ≡ i → first_told (told_by P (get_or ss i Truncate) n ∷ []) ≡ first_told (drop (k - i) (tell_steps P (drop i ss) n))
  unfolding tell_steps first_told
  tell-here k n e =
      let m : k - i ≡ 0 = omega arith in
      rw (drop-cons ss i Truncate, m)

-- ---- the ways out

module _ (P : ℕ) (big : 36 ≤ P) (p : Plan) (k : ℕ) (n : Lens) where
  pub told-long : 16777216 < n.log → [] ≡ told_in P p k n
  unfolding told_in
  told-long h = rw (lt-ltb 16777216 n.log h)

  module _ (fits : n.log ≤ 16777216) where
    pub told-zero : k ≡ 0 → [] ≡ told_in P p k n
    unfolding told_in told_at
    told-zero e = rw (le-ltb 16777216 n.log fits, e)

    pub told-store : (j : ℕ) → k ≡ suc j → first_told (drop j (tell_steps P (steps_of p) n)) ≡ told_in P p k n
    unfolding told_in told_at meant
    told-store j e = rw (le-ltb 16777216 n.log fits, e, told-steps P big [] (steps_of p) (files_of n [] [] []) n refl refl)

    pub told-past : (j : ℕ) → k ≡ suc j → length (steps_of p) ≤ j → [] ≡ told_in P p k n
    unfolding first_told
    told-past j e h =
        let l : length (tell_steps P (steps_of p) n) ≤ j = rw length-told h in
        ap first_told (sym (drop_of_length-le (tell_steps P (steps_of p) n) l)) ∙ told-store j e

-- ---- what is told is what the enum holds

kind_of : ℕ → StoreKind
kind_of n = cond (eqb n 1) Append (cond (eqb n 2) Page (cond (eqb n 3) Clog Truncation))

kind-same : (k : StoreKind) → kind_of (kind_number k) ≡ k
unfolding kind_of
kind-same Append = refl
kind-same Page = refl
kind-same Clog = refl
kind-same Truncation = refl

telling_of : List ℕ → Option Telling
telling_of [] = None
telling_of (k ∷ []) = None
telling_of (k ∷ o ∷ []) = None
telling_of (k ∷ o ∷ n ∷ l) = Some (record { kind = kind_of k; offset = o; size = n })

untold : (t : Option Telling) → telling_of (telling_told t) ≡ t
unfolding telling_of
untold (Some t) = rw (kind-same t.kind)
untold None = refl

pub telling-same : (a b : Option Telling) → telling_told a ≡ telling_told b → a ≡ b
telling-same a b e = sym (untold a) ∙ ap telling_of e ∙ untold b
