-- Several stores: their room, and carrying them out one by one. P is the page size. Assumes nothing.
use mathlib.Core.Path.{◌≡◌, refl, sym, ap, ◌∙◌}
use mathlib.Core.List.{List, [], ◌∷◌, map}
use mathlib.Core.Bool.{Bool, true, false}
use Prim.Native.Nat.{ℕ, zero, suc, ◌+◌, ◌-◌, ◌*◌, ◌≤◌, ◌<◌, min, max}
use native.Mathlib.Nat.{not-suc-le-zero, le_of_suc-le-suc}
use native.Mathlib.Numerals.{add-one}
use native.Mathlib.Omega.{arith}
use borrow.Author.Tests.{ltb-true, ltb-false}
use lib.Dec.{ltb, lit<}
use lib.ListN.{length, take, drop, get_or, length-map, get_or-map, drop_of_length-le}
use lib.Seq.{drop-cons, take-nil}
use Rattle.fields.specs.Files.{room, unfit}
use Rattle.fields.specs.declared.refusal.Refusal.{Refusal}
use Rattle.fields.specs.Refusals.{number_of}
use Rattle.fields.proofs.AnswerLaws.{number-positive}
use Rattle.fields.proofs.Tests.{passed}
use Rattle.fields.proofs.FileLaws.{fit-means}
use Rattle.wal.specs.Records.{encode}
use Rattle.wal.proofs.WriteLaws.{id-size, commit-size, page-size}
use Rattle.meta.proofs.Laws.{length-meta}
use Rattle.frames.specs.Copies.{frame_of}
use Rattle.frames.proofs.CopyLaws.{length-frame}
use Rattle.world.proofs.CallLaws.{both_zero}
use Rattle.world.specs.declared.Lens.{Lens}
use Rattle.world.specs.World.{Files, lens_of}
use Rattle.world.specs.Steps as world
use Rattle.world.specs.Steps.{apply, apply_all, log_bytes, db_end, clog_end, sum_of, most_of}
use Rattle.world.specs.Refusals.{or_else, room_no}
use Rattle.world.specs.Run.{decided}
use Rattle.stores.specs.declared.Plan.{Plan}
use Rattle.stores.specs.declared.Step.{Step}
use Rattle.stores.specs.declared.Step.TheVariants.{LogImage, LogBegin, LogCommit, LogAbort, LogCheckpoint, WritePage, WriteMeta, SetSlot, Compact, Truncate}
use Rattle.stores.specs.declared.Needs.{Needs}
use Rattle.stores.specs.Plans.{steps_of, meaning, meant}
use Rattle.stores.specs.Room.{form_no, number_for, Carried, carried}
use Rattle.stores.specs.Inside.{needing, needs_of, cost_of, short_no, Enough}
use Rattle.stores.proofs.StepLaws.{enough-here, enough-next}

-- ---- the stores from a place on

drop-map : {A B : Type 0} (g : A → B) (i : ℕ) (xs : List A) → drop i (map g xs) ≡ map g (drop i xs)
drop-map g zero xs = refl
drop-map g (suc i) [] = refl
drop-map g (suc i) (x ∷ xs) = drop-map g i xs

pub length-meant : (P : ℕ) (fr : List ℕ) (p : Plan) → length (meant P fr p) ≡ length (steps_of p)
unfolding meant
length-meant P fr p = length-map (steps_of p) (meaning P fr)

module _ (P : ℕ) (fr : List ℕ) (p : Plan) (i : ℕ) where
  pub meant-at : get_or (meant P fr p) i world.Truncate ≡ meaning P fr (get_or (steps_of p) i Truncate)
  unfolding meant meaning
  meant-at = get_or-map (meaning P fr) (steps_of p) i Truncate

  pub meant-turn : (s : Step) → i < length (steps_of p) → s ≡ get_or (steps_of p) i Truncate → drop i (meant P fr p) ≡ meaning P fr s ∷ drop (i + 1) (meant P fr p)
  meant-turn s h e =
      let l : i < length (meant P fr p) = rw length-meant h in
      rw (add-one, e, ← meant-at) (drop-cons (meant P fr p) i world.Truncate l)

  pub meant-end : length (steps_of p) ≤ i → drop i (meant P fr p) ≡ []
  meant-end h = let l : length (meant P fr p) ≤ i = rw length-meant h in drop_of_length-le (meant P fr p) l

-- ---- what stores cost

module _ (P : ℕ) (big : 36 ≤ P) (fr : List ℕ) where
  pub cost-is : (s : Step) → needing (log_bytes (meaning P fr s)) (db_end P (meaning P fr s)) (clog_end (meaning P fr s)) ≡ cost_of P s
  unfolding meaning cost_of encode
  cost-is (LogImage p k) = ap (λ (n : ℕ). needing n 0 0) (page-size P p (frame_of P fr k) (length-frame P fr k))
  cost-is (LogBegin id) = ap (λ (n : ℕ). needing n 0 0) (id-size 2 id.0)
  cost-is (LogCommit id time) = ap (λ (n : ℕ). needing n 0 0) (commit-size id.0 time.0)
  cost-is (LogAbort id) = ap (λ (n : ℕ). needing n 0 0) (id-size 4 id.0)
  cost-is LogCheckpoint = refl
  cost-is (WritePage p k) = ap (λ (n : ℕ). needing 0 (p * P + n) 0) (length-frame P fr k)
  cost-is (WriteMeta m) = ap (λ (n : ℕ). needing 0 n 0) (omega (arith, length-meta P big m.next.0 m.time.0 m.mark.0))
  cost-is (SetSlot id s) = refl
  cost-is (Compact w) = refl
  cost-is Truncate = refl

  -- stores of a plan, from their costs: the frame buffer has no part in it
  pub needs-first : (s : Step) (ss : List world.Step) → needs_of P (meaning P fr s ∷ ss) ≡ needing ((cost_of P s).log + sum_of log_bytes ss) (max (cost_of P s).db (most_of (db_end P) ss)) (max (cost_of P s).clog (most_of clog_end ss))
  unfolding sum_of most_of
  needs-first s ss = ap (λ (w : Needs). needing (w.log + sum_of log_bytes ss) (max w.db (most_of (db_end P) ss)) (max w.clog (most_of clog_end ss))) (cost-is s)

pub cost-most : (P : ℕ) (s : Step) → (cost_of P s).log ≤ P + 17
unfolding cost_of
cost-most P (LogImage p k) = omega arith
cost-most P (LogBegin id) = omega arith
cost-most P (LogCommit id time) = omega arith
cost-most P (LogAbort id) = omega arith
cost-most P LogCheckpoint = omega arith
cost-most P (WritePage p k) = omega arith
cost-most P (WriteMeta m) = omega arith
cost-most P (SetSlot id s) = omega arith
cost-most P (Compact w) = omega arith
cost-most P Truncate = omega arith

pub needs-any : (P : ℕ) → 36 ≤ P → (fr gr : List ℕ) (ss : List Step) → needs_of P (map (meaning P fr) ss) ≡ needs_of P (map (meaning P gr) ss)
needs-any P big fr gr [] = refl
needs-any P big fr gr (s ∷ ss) =
    needs-first P big fr s (map (meaning P fr) ss)
    ∙ ap (λ (w : Needs). needing ((cost_of P s).log + w.log) (max (cost_of P s).db w.db) (max (cost_of P s).clog w.clog)) (needs-any P big fr gr ss)
    ∙ sym (needs-first P big gr s (map (meaning P gr) ss))

pub needs-from : (P : ℕ) → 36 ≤ P → (fr gr : List ℕ) (p : Plan) (i : ℕ) → needs_of P (drop i (meant P fr p)) ≡ needs_of P (drop i (meant P gr p))
unfolding meant
needs-from P big fr gr p i =
    ap (needs_of P) (drop-map (meaning P fr) i (steps_of p)) ∙ needs-any P big fr gr (drop i (steps_of p)) ∙ sym (ap (needs_of P) (drop-map (meaning P gr) i (steps_of p)))

-- ---- the loop over the costs: what is counted, and the rest

module _ (P : ℕ) (big : 36 ≤ P) (p : Plan) (i : ℕ) (s : Step) (w : Needs) (here : i < length (steps_of p)) (this : s ≡ get_or (steps_of p) i Truncate) (costs : w ≡ cost_of P s) where
  turned : needs_of P (drop i (meant P [] p)) ≡ needing (w.log + sum_of log_bytes (drop (i + 1) (meant P [] p))) (max w.db (most_of (db_end P) (drop (i + 1) (meant P [] p)))) (max w.clog (most_of clog_end (drop (i + 1) (meant P [] p))))
  turned = ap (needs_of P) (meant-turn P [] p i s here this) ∙ needs-first P big [] s (drop (i + 1) (meant P [] p)) ∙ rw costs

  pub log-turn : (n : ℕ) → n + w.log + sum_of log_bytes (drop (i + 1) (meant P [] p)) ≡ n + sum_of log_bytes (drop i (meant P [] p))
  log-turn n = omega (arith, ap (λ (x : Needs). x.log) turned)

  pub db-turn : (n m : ℕ) → m ≡ max n w.db → max m (most_of (db_end P) (drop (i + 1) (meant P [] p))) ≡ max n (most_of (db_end P) (drop i (meant P [] p)))
  db-turn n m e = omega (arith, ap (λ (x : Needs). x.db) turned)

  pub clog-turn : (n m : ℕ) → m ≡ max n w.clog → max m (most_of clog_end (drop (i + 1) (meant P [] p))) ≡ max n (most_of clog_end (drop i (meant P [] p)))
  clog-turn n m e = omega (arith, ap (λ (x : Needs). x.clog) turned)

pub needs-none : (P : ℕ) (p : Plan) (i : ℕ) → length (steps_of p) ≤ i → needs_of P (drop i (meant P [] p)) ≡ needing 0 0 0
unfolding sum_of most_of
needs-none P p i h = ap (needs_of P) (meant-end P [] p i h)

-- ---- the number

pub or_else-first : (a b : ℕ) → (a ≡ 0 → ⊥) → a ≡ or_else a b
or_else-first zero b h = absurd (h refl)
or_else-first (suc a) b h = refl

pub or_else-refused : (r : Refusal) (a b : ℕ) → number_of r ≡ a → number_of r ≡ or_else a b
or_else-refused r a b e = e ∙ or_else-first a b (λ z. omega (arith, number-positive r, e, z))

pub number_is : (P : ℕ) → 36 ≤ P → (fr : List ℕ) (p : Plan) (i : ℕ) (f : Files) → or_else (form_no (lens_of f) (room f.log) (room f.db) (room f.clog)) (short_no (needs_of P (drop i (meant P [] p))) f.log.len (room f.log) (room f.db) (room f.clog)) ≡ number_for P (drop i (meant P fr p)) f
unfolding number_for room_no short_no
number_is P big fr p i f =
    ap (λ (w : Needs). or_else (form_no (lens_of f) (room f.log) (room f.db) (room f.clog)) (short_no w f.log.len (room f.log) (room f.db) (room f.clog))) (needs-from P big [] fr p i)

record Formed (n : Lens) (log db clog : ℕ) : Type 0 where
  log_fits : (log ≤ 16777216) × (n.log ≤ log)
  db_fits : (db ≤ 16777216) × (n.db ≤ db)
  clog_fits : (clog ≤ 1048576) × (n.clog ≤ clog)
  log_header : 8 ≤ n.log
  clog_header : 8 ≤ n.clog

formed : (n : Lens) (log db clog : ℕ) → form_no n log db clog ≡ 0 → Formed n log db clog
unfolding form_no
formed n log db clog e =
    let a = passed (unfit 16777216 log n.log) 1 _ (lit< tt) e in
    let b = passed (unfit 16777216 db n.db) 1 _ (lit< tt) a.1 in
    let c = passed (unfit 1048576 clog n.clog) 1 _ (lit< tt) b.1 in
    let d = passed (ltb n.log 8) 14 _ (lit< tt) c.1 in
    let g = passed (ltb n.clog 8) 14 0 (lit< tt) d.1 in
    record {
      log_fits = fit-means 16777216 log n.log a.0;
      db_fits = fit-means 16777216 db n.db b.0;
      clog_fits = fit-means 1048576 clog n.clog c.0;
      log_header = ltb-false n.log 8 d.0;
      clog_header = ltb-false n.clog 8 g.0;
    }

pub formed-log : (n : Lens) (log db clog : ℕ) → form_no n log db clog ≡ 0 → n.log ≤ log
formed-log n log db clog e = (formed n log db clog e).log_fits.1

-- stores that are accepted have room
pub accepted-enough : (P : ℕ) (ss : List world.Step) (f : Files) → number_for P ss f ≡ 0 → Enough P ss f
unfolding number_for room_no
accepted-enough P ss f e =
    let o = both_zero (form_no (lens_of f) (room f.log) (room f.db) (room f.clog)) (room_no P ss f) e in
    let g = formed (lens_of f) (room f.log) (room f.db) (room f.clog) o.0 in
    let a = passed (ltb (room f.log) (f.log.len + sum_of log_bytes ss)) 4 _ (lit< tt) o.1 in
    let b = passed (ltb (room f.db) (most_of (db_end P) ss)) 5 _ (lit< tt) a.1 in
    let c = passed (ltb (room f.clog) (most_of clog_end ss)) 6 0 (lit< tt) b.1 in
    record {
      log_header = g.log_header;
      log_fits = ltb-false (room f.log) (f.log.len + sum_of log_bytes ss) a.0;
      log_limit = g.log_fits.0;
      db_fits = ltb-false (room f.db) (most_of (db_end P) ss) b.0;
      clog_header = g.clog_header;
      clog_len = g.clog_fits.1;
      clog_fits = ltb-false (room f.clog) (most_of clog_end ss) c.0;
      clog_limit = g.clog_fits.0;
    }

-- and each of them when its turn comes
pub enough-at : (P : ℕ) (ss : List world.Step) (f : Files) (i : ℕ) → Enough P ss f → i < length ss → Enough P (get_or ss i world.Truncate ∷ []) (apply_all P (take i ss) f)
unfolding apply_all
enough-at P [] f i e h = absurd (not-suc-le-zero h)
enough-at P (s ∷ ss) f zero e h = enough-here P f s ss e
enough-at P (s ∷ ss) f (suc i) e h = enough-at P ss (apply P s f) i (enough-next P f s ss e) (le_of_suc-le-suc h)

-- ---- carrying out, by what is left to do

module _ (P : ℕ) (fr : List ℕ) (p : Plan) (i k : ℕ) (cur : Files) where
  pub carry-end : min k (length (steps_of p)) ≤ i → apply_all P (take (k - i) (drop i (meant P fr p))) cur ≡ cur
  unfolding apply_all
  carry-end h = go (ltb i k) refl
    where
      go : (b : Bool) → ltb i k ≡ b → apply_all P (take (k - i) (drop i (meant P fr p))) cur ≡ cur
      go true e =
          let l : i < k = ltb-true i k e in
          let z : drop i (meant P fr p) ≡ [] = meant-end P fr p i (omega arith) in
          rw (z, take-nil (k - i))
      go false e =
          let l : k ≤ i = ltb-false i k e in
          let z : k - i ≡ 0 = omega arith in
          rw z

  module _ (s : Step) (below : i < length (steps_of p)) (this : s ≡ get_or (steps_of p) i Truncate) where
    pub carry-room : Enough P (drop i (meant P fr p)) cur → Enough P (meaning P fr s ∷ []) cur
    carry-room e = enough-here P cur (meaning P fr s) (drop (i + 1) (meant P fr p)) (rw (meant-turn P fr p i s below this) at e)

    pub carry-next : (next : Files) → Enough P (drop i (meant P fr p)) cur → next ≡ apply P (meaning P fr s) cur → Enough P (drop (i + 1) (meant P fr p)) next
    carry-next next e q = rw q (enough-next P cur (meaning P fr s) (drop (i + 1) (meant P fr p)) (rw (meant-turn P fr p i s below this) at e))

    pub carry-turn : (next : Files) → i < k → next ≡ apply P (meaning P fr s) cur → apply_all P (take (k - (i + 1)) (drop (i + 1) (meant P fr p))) next ≡ apply_all P (take (k - i) (drop i (meant P fr p))) cur
    unfolding apply_all
    carry-turn next l q =
        let e : k - i ≡ suc (k - (i + 1)) = omega arith in
        rw (q, meant-turn P fr p i s below this, e)

-- ---- the two ways out

module _ (P : ℕ) (ss : List world.Step) (k : ℕ) (f : Files) (n : ℕ) (no : n ≡ number_for P ss f) where
  refused : (m : ℕ) → (m ≡ 0 → ⊥) → ◌≡◌ {A = Carried} (record { number = m; files = f }) (record { number = m; files = decided m (apply_all P (take k ss) f) f })
  refused zero h = absurd (h refl)
  refused (suc m) h = refl

  pub carried-refused : (r : Refusal) → number_of r ≡ n → ◌≡◌ {A = Carried} (record { number = number_of r; files = f }) (carried P ss k f)
  unfolding carried
  carried-refused r e = rw (← no, e) (refused n (λ z. omega (arith, number-positive r, e, z)))

  pub carried-done : (g : Files) → n ≡ 0 → g ≡ apply_all P (take k ss) f → ◌≡◌ {A = Carried} (record { number = 0; files = g }) (carried P ss k f)
  unfolding carried
  carried-done g z e = rw (← no, z, e)
