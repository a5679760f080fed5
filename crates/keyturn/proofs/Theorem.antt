-- The key turns in the middle: the invariant holds of the world that the call finds (Times, and keyoff's Calls), each call is walked through (Short, Commits,
-- Backs), and every state in it is opened as Q-7 says (Mid, Build). P is the page size. Assumes nothing.
use mathlib.Core.Path.{◌≡◌, refl, sym, ap, ◌∙◌, subst}
use mathlib.Core.List.{List, [], ◌∷◌, ◌++◌}
use mathlib.Core.Bool.{Bool, true, false}
use Prim.Native.Nat.{ℕ, zero, suc, ◌≤◌}
use native.Mathlib.Omega.{arith}
use lib.Dec.{lit≤}
use lib.ListN.{length, drop}
use lib.Seq.{drop_at}
use Rattle.fields.specs.declared.TransactionId.{TransactionId}
use Rattle.fields.proofs.Tests.{Order, less, most, order}
use Rattle.wal.specs.Records.{commit, Ending, ending_no}
use Rattle.frames.specs.Pages.{is_in}
use Rattle.world.specs.declared.Slot.{Slot}
use Rattle.world.specs.declared.Slot.TheVariants.{Installed, Empty}
use Rattle.world.specs.World.{Files, World}
use Rattle.world.specs.Steps.{Step, Log}
use Rattle.world.specs.Calls.{Call, Install, Uninstall, AllocId, AllocPage, Begin, Read, Write, Flush, Commit, Rollback, Advance, steps, commit_steps, images, held}
use Rattle.world.specs.Refusals.{front_no, call_no, refuses}
use Rattle.world.specs.Run.{call, run}
use Rattle.world.proofs.Counts.{images-count}
use Rattle.world.proofs.FormLaws.{InForm, front-means}
use Rattle.world.proofs.CallLaws as laws
use Rattle.world.proofs.CallLaws.{both_zero}
use Rattle.partway.specs.Partway.{cut_all, cut_at}
use Rattle.partway.proofs.Laws.{all-empty, at-refused, at-accepted}
use Rattle.opening.specs.Opening.{end_no, Opening, open_no, opening}
use Rattle.opening.proofs.Formed.{by-means}
use Rattle.torn.specs.Torn.{opening_torn}
use Rattle.torn.proofs.Laws.{modes-agree}
use Rattle.keyoff.specs.KeyOff.{ZeroFlush, OpenedWithMeta, NoZeroFlush, BytesIn, Typed, AllTyped, Reopens}
use Rattle.keyoff.proofs.Reopen.{reopens}
use Rattle.keyoff.proofs.Calls.{run-keeps}
use Rattle.keyoff.proofs.Invariant.{Kept}
use Rattle.keyturn.specs.KeyTurn.{Cuttable, Turned, KeyTurn}
use Rattle.keyturn.proofs.Asked.{Asked, slot_counts, counts}
use Rattle.keyturn.proofs.Build.{Reached}
use Rattle.keyturn.proofs.Walk.{still}
use Rattle.keyturn.proofs.Short.{begin-turned, flush-turned, advance-turned}
use Rattle.keyturn.proofs.Commits.{commit-turned}
use Rattle.keyturn.proofs.Backs.{rollback-turned}
use Rattle.keyturn.proofs.Times.{Timely, run-timely, started}
use Rattle.keyturn.proofs.Said.{turned}

module _ (P : ℕ) (big : 36 ≤ P) (w : World) (v : Kept P w) (timely : Timely w) where
  abbrev Cut : Bool → Call → Files → Type 0
  Cut b c g = Reached P b c w g

  -- a call with no store
  idle : (c : Call) → Asked P c w → steps P c w ≡ [] → (k pos : ℕ) → Cut false c (cut_all P k pos (steps P c w) w.files)
  idle c q e k pos = rw (e, all-empty P pos k w.files) (still P big w v c q)

  -- what an accepted call has passed
  form : (c : Call) → refuses P c w ≡ 0 → InForm P w
  unfolding refuses
  form c h = front-means P w (both_zero (front_no P w) (call_no P c w) h).0

  number : (c : Call) → refuses P c w ≡ 0 → call_no P c w ≡ 0
  unfolding refuses
  number c h = (both_zero (front_no P w) (call_no P c w) h).1

  flush-cut : (p : ℕ) → Asked P (Flush p) w → refuses P (Flush p) w ≡ 0 → (k pos : ℕ) → Cut false (Flush p) (cut_all P k pos (steps P (Flush p) w) w.files)
  flush-cut p q ok k pos = by-slot w.mem.slot refl
    where
      not-zero : w.mem.slot ≡ Empty → p ≡ 0 → ⊥
      not-zero out z = q.quiet (record { asked = ap (λ (x : ℕ). Flush x) z; outside = out; accepted = ok })

      outside : w.mem.slot ≡ Empty → (x : Bool) → is_in p w.mem.resident ≡ x → Cut false (Flush p) (cut_all P k pos (steps P (Flush p) w) w.files)
      outside out true there = flush-turned P big w v p q (number (Flush p) ok) out there (omega (arith, not-zero out)) k pos
      outside out false absent = idle (Flush p) q (laws.flush-steps-absent P p w out absent) k pos

      by-slot : (s : Slot) → w.mem.slot ≡ s → Cut false (Flush p) (cut_all P k pos (steps P (Flush p) w) w.files)
      by-slot (Installed id) e = idle (Flush p) q (laws.flush-steps-in P p w id e) k pos
      by-slot Empty e = outside e (is_in p w.mem.resident) refl

  commit-cut : Asked P Commit w → refuses P Commit w ≡ 0 → (k pos : ℕ) → Cut (slot_counts k pos w w.mem.slot) Commit (cut_all P k pos (steps P Commit w) w.files)
  unfolding slot_counts
  commit-cut q ok k pos = go w.mem.slot refl
    where
      go : (s : Slot) → w.mem.slot ≡ s → Cut (slot_counts k pos w w.mem.slot) Commit (cut_all P k pos (steps P Commit w) w.files)
      go (Installed id) e =
          subst (λ (x : Slot). Cut (slot_counts k pos w x) Commit (cut_all P k pos (steps P Commit w) w.files)) (sym e)
          (commit-turned P big w v (form Commit ok) id e q (number Commit ok) timely k pos)
      go Empty e =
          subst (λ (x : Slot). Cut (slot_counts k pos w x) Commit (cut_all P k pos (steps P Commit w) w.files)) (sym e)
          (idle Commit q (laws.commit-steps-empty P w e) k pos)

  rollback-cut : (list : List ℕ) → Asked P (Rollback list) w → refuses P (Rollback list) w ≡ 0 → (k pos : ℕ) →
      Cut false (Rollback list) (cut_all P k pos (steps P (Rollback list) w) w.files)
  rollback-cut list q ok k pos = go w.mem.slot refl
    where
      go : (s : Slot) → w.mem.slot ≡ s → Cut false (Rollback list) (cut_all P k pos (steps P (Rollback list) w) w.files)
      go (Installed id) e = rollback-turned P big w v (form (Rollback list) ok) list id e q (number (Rollback list) ok) k pos
      go Empty e = idle (Rollback list) q (laws.rollback-steps-empty P list w e) k pos

  advance-cut : (u : TransactionId) → Asked P (Advance u) w → refuses P (Advance u) w ≡ 0 → (k pos : ℕ) →
      Cut false (Advance u) (cut_all P k pos (steps P (Advance u) w) w.files)
  advance-cut u q ok k pos = go (order w.mem.mark.0 u.0)
    where
      go : Order w.mem.mark.0 u.0 → Cut false (Advance u) (cut_all P k pos (steps P (Advance u) w) w.files)
      go (less h) = advance-turned P big w v u q (number (Advance u) ok) h k pos
      go (most h) = idle (Advance u) q (laws.advance-steps-none P u w h) k pos

  -- each call, accepted
  accepted-cut : (c : Call) → Asked P c w → refuses P c w ≡ 0 → (k pos : ℕ) → Cut (counts P k pos c w) c (cut_all P k pos (steps P c w) w.files)
  unfolding counts steps
  accepted-cut (Install id ps) q ok k pos = idle (Install id ps) q refl k pos
  accepted-cut Uninstall q ok k pos = idle Uninstall q refl k pos
  accepted-cut AllocId q ok k pos = idle AllocId q refl k pos
  accepted-cut AllocPage q ok k pos = idle AllocPage q refl k pos
  accepted-cut (Begin id) q ok k pos = begin-turned P big w v id q (number (Begin id) ok) k pos
  accepted-cut (Read p) q ok k pos = idle (Read p) q refl k pos
  accepted-cut (Write p bytes) q ok k pos = idle (Write p bytes) q refl k pos
  accepted-cut (Flush p) q ok k pos = flush-cut p q ok k pos
  accepted-cut Commit q ok k pos = rw ok (commit-cut q ok k pos)
  accepted-cut (Rollback list) q ok k pos = rollback-cut list q ok k pos
  accepted-cut (Advance u) q ok k pos = advance-cut u q ok k pos

  -- a refused one counts for nothing
  refused-not : (c : Call) (n k pos : ℕ) → refuses P c w ≡ suc n → counts P k pos c w ≡ false
  unfolding counts
  refused-not (Install id ps) n k pos e = refl
  refused-not Uninstall n k pos e = refl
  refused-not AllocId n k pos e = refl
  refused-not AllocPage n k pos e = refl
  refused-not (Begin id) n k pos e = refl
  refused-not (Read p) n k pos e = refl
  refused-not (Write p bytes) n k pos e = refl
  refused-not (Flush p) n k pos e = refl
  refused-not Commit n k pos e = rw e
  refused-not (Rollback list) n k pos e = refl
  refused-not (Advance u) n k pos e = refl

  pub cut-reached : (c : Call) → Asked P c w → (k pos : ℕ) → Cut (counts P k pos c w) c (cut_at P k pos c w)
  cut-reached c q k pos = go (refuses P c w) refl
    where
      go : (n : ℕ) → refuses P c w ≡ n → Cut (counts P k pos c w) c (cut_at P k pos c w)
      go zero e = rw (at-accepted P c w k pos e) (accepted-cut c q e k pos)
      go (suc n) e = rw (refused-not c n k pos e, at-refused P c w n k pos e) (still P big w v c q)

-- the store after the images, number n + 1 of a commit with n images, is the commit record
pub commit-store : (P : ℕ) (w : World) (id : TransactionId) → w.mem.slot ≡ Installed id →
    (rest : List Step) × (drop (length (held w.mem)) (steps P Commit w) ≡ Log (commit id.0 w.mem.time.0) ∷ rest)
unfolding commit_steps
commit-store P w id inside = (
  _,
  ap (drop (length (held w.mem))) (laws.commit-steps P w id inside)
      ∙ drop_at (images P w (held w.mem)) _ (length (held w.mem)) (images-count P w (held w.mem)),
)

-- ---- a run, and a cut after it

-- what is asked of calls and one more is asked of the calls, and of the last one in the world that it finds
typed-front : (cs : List Call) (c : Call) → AllTyped (cs ++ (c ∷ [])) → AllTyped cs × Typed c
typed-front [] c h = (tt, h.0)
typed-front (x ∷ cs) c h = let r = typed-front cs c h.1 in ((h.0, r.0), r.1)

quiet-front : (P : ℕ) (cs : List Call) (c : Call) (w : World) → NoZeroFlush P (cs ++ (c ∷ [])) w → NoZeroFlush P cs w × (ZeroFlush P c (run P cs w) → ⊥)
unfolding run
quiet-front P [] c w h = (tt, h.0)
quiet-front P (x ∷ cs) c w h = let r = quiet-front P cs c (call P x w) h.1 in ((h.0, r.0), r.1)

module _ (P : ℕ) (big : 36 ≤ P) (f : Files) (frames : List ℕ) (cs : List Call) (bytes : BytesIn f) (opened : OpenedWithMeta P f (opening_torn P f frames)) where
  abbrev after : World
  after = run P cs (opening_torn P f frames).world

  module _ (typed : AllTyped cs) (quiet : NoZeroFlush P cs (opening_torn P f frames).world) where
    kept : Kept P after
    kept = run-keeps P big cs (opening_torn P f frames).world (started P f frames bytes opened).keeps quiet typed

    -- the files at the cut, opened: what is found, and that they may be the start of another run
    pub run-reached : (c : Call) (k pos : ℕ) → Asked P c after → Reached P (counts P k pos c after) c after (cut_at P k pos c after)
    run-reached c k pos q = cut-reached P big after kept (run-timely P cs (opening_torn P f frames).world (started P f frames bytes opened).timely) c q k pos

    -- demand 3, with the first opening in the second mode
    pub run-reopens : Reopens P after
    run-reopens = reopens P big after kept

  module _ (c : Call) (typed : AllTyped (cs ++ (c ∷ []))) (quiet : NoZeroFlush P (cs ++ (c ∷ [])) (opening_torn P f frames).world) where
    asked : Cuttable c after → Asked P c after
    asked q = record {
      typed = (typed-front cs c typed).1;
      quiet = (quiet-front P cs c (opening_torn P f frames).world quiet).1;
      zero = q.zero;
      above = q.above;
      active = q.active;
    }

    cut : (k pos : ℕ) → Cuttable c after → Reached P (counts P k pos c after) c after (cut_at P k pos c after)
    cut k pos q = run-reached (typed-front cs c typed).0 (quiet-front P cs c (opening_torn P f frames).world quiet).0 c k pos (asked q)

    -- Q-7
    pub run-turned : (k pos : ℕ) → Cuttable c after → Turned P k pos c after (opening_torn P (cut_at P k pos c after) after.frames)
    run-turned k pos q = turned P k pos after (opening_torn P (cut_at P k pos c after) after.frames) c (cut k pos q).found

    -- and it follows itself: the files at the cut are opened with a meta page of version 0 or 2
    pub run-again : (k pos : ℕ) → Cuttable c after → OpenedWithMeta P (cut_at P k pos c after) (opening_torn P (cut_at P k pos c after) after.frames)
    run-again k pos q = (cut k pos q).again

pub key-turn : (P : ℕ) → 36 ≤ P → KeyTurn P
key-turn P big f frames cs c k pos bytes opened typed quiet q = run-turned P big f frames cs bytes opened c typed quiet k pos q

-- at document 01's page size
pub key-turn-4096 : KeyTurn 4096
key-turn-4096 = key-turn 4096 (lit≤ tt)

-- ---- the first opening in the old mode

-- what the old mode opens has no torn record, so that the two modes agree
module _ (P : ℕ) (f : Files) (frames : List ℕ) (o : OpenedWithMeta P f (opening P f frames)) where
  whole : end_no P f.log ≡ 0
  unfolding opening open_no
  whole = (by-means P (end_no P f.log) f frames o.accepted).1

  pub same-opening : opening_torn P f frames ≡ opening P f frames
  same-opening = modes-agree P f frames (λ at m e. let z : end_no P f.log ≡ 2 = ap (λ (x : Ending). ending_no x) e in omega (arith, whole, z))

pub key-turn-old : (P : ℕ) → 36 ≤ P → (f : Files) (frames : List ℕ) (cs : List Call) (c : Call) (k pos : ℕ) → BytesIn f → OpenedWithMeta P f (opening P f frames) →
    AllTyped (cs ++ (c ∷ [])) → NoZeroFlush P (cs ++ (c ∷ [])) (opening P f frames).world →
    (let w = run P cs (opening P f frames).world in
    Cuttable c w → Turned P k pos c w (opening_torn P (cut_at P k pos c w) w.frames))
key-turn-old P big f frames cs c k pos bytes o typed =
    subst
    (λ (x : Opening).
    OpenedWithMeta P f x → NoZeroFlush P (cs ++ (c ∷ [])) x.world →
    (let w = run P cs x.world in
    Cuttable c w → Turned P k pos c w (opening_torn P (cut_at P k pos c w) w.frames)))
    (same-opening P f frames o) (λ opened. key-turn P big f frames cs c k pos bytes opened typed) o
