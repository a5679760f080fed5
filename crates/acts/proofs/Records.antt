-- Laws of the code's records: the stores and the frames, the arrays, and both together. Assumes nothing.
use Prim.Native.Nat.{ℕ, ◌-◌}
use native.Mathlib.Omega.{arith}
use mathlib.Core.Path.{◌≡◌, refl, sym, ap, ◌∙◌}
use mathlib.Core.List.{List, []}
use mathlib.Core.Bool.{cond}
use lib.ListN.{length, drop}
use Rattle.std.specs.Prelude.{Result, Ok, Err}
use Rattle.std.specs.Result.{result_unwrap_or}
use Rattle.fields.specs.declared.refusal.Refusal.{Refusal}
use Rattle.fields.specs.Refusals.{number_in}
use Rattle.fields.specs.Files.{file_of}
use Rattle.rows.specs.Rows.{Rowed, rowed_as, rowed_in}
use Rattle.frames.specs.Pages.{Seated, Marked}
use Rattle.frames.specs.Copies.{with_frame}
use Rattle.seats.specs.Seats.{seated_in, marked_in}
use Rattle.world.specs.declared.Lens.{Lens}
use Rattle.world.specs.World.{Files, files_of, lens_of}
use Rattle.stores.specs.Plans.{meant}
use Rattle.stores.specs.Room.{Carried, cut, cut_of, carried}
use Rattle.lent.specs.declared.Head.{Head}
use Rattle.lent.specs.Lent.{Lent, lent, store_of, leaving}
use Rattle.ready.specs.declared.Ready.{Ready}
use Rattle.ready.specs.declared.Numbered.{Numbered}
use Rattle.ready.specs.Ready.{readied, meta_of, refill, framed, with_lens, carried_out, cut_as}
use Rattle.ready.proofs.Prepared.{cut-files, cut-lens, all-is}
use Rattle.acts.specs.declared.Made.{Made}
use Rattle.acts.specs.Made.{rows_after, touched_after, resident_after, counted_head, lens_head, after_in, ready_in, made_in, lent_with, left_by, cut_made}
use Rattle.acts.specs.Inside.{FilesLeft, files_left, files_made}

-- ---- an entry that is set where n rows were held: the number and the count of its answer

pub set-parts : (n : ℕ) (r : Result ℕ Refusal) (rows : List (List ℕ)) (x : Rowed) → rowed_in n r rows ≡ x → rowed_as (number_in r) (result_unwrap_or r n) rows ≡ x
set-parts n (Ok k) rows x e = e
set-parts n (Err q) rows x e = e

-- ---- the stores and the frames

module _ (P : ℕ) (m : Made) (log db clog frames log' db' clog' : List ℕ) where
  -- some call made ready with these stores
  abbrev r : Ready
  r = ready_in P (length frames) m [] [] []

  pub cut_out : (k : ℕ) (a : Result Lens Refusal) →
      cut_of (cut m.head.lens a) log' db' clog' ≡ carried P (drop 0 (meant P frames m.plan)) (k - 0) (files_of m.head.lens log db clog) →
      cut_of (cut_as (record { number = m.number; value = result_unwrap_or a m.head.lens })) log' db' clog' ≡ cut_made P k m log db clog frames
  unfolding cut_made readied ready_in store_of after_in counted_head
  cut_out k a e =
      ap (λ (x : Lens). cut_of (cut_as (record { number = m.number; value = x })) log' db' clog') (sym (cut-lens m.head.lens a))
      ∙ ap (λ (x : Files). record { number = m.number; files = x }) (cut-files P r frames log db clog (cut m.head.lens a) log' db' clog' k e)

  pub files-out : (end : Numbered Lens) (a b : List ℕ) → cut_of (cut_as end) log' db' clog' ≡ cut_made P 133 m log db clog frames →
      a ≡ refill P (file_of db' end.value.db) m.back frames → b ≡ cond m.meta (with_frame P a m.slot (meta_of P m.plan.meta)) a →
      files_left end.value log' db' clog' b ≡ files_made P m log db clog frames
  unfolding files_made cut_made readied ready_in store_of after_in counted_head
  files-out end a b e f g =
      let all = ap (λ (x : Carried). x.files) e ∙ all-is P r frames 133 log db clog (omega arith) in
      let h : b ≡ cond m.meta (with_frame P (refill P (file_of db' end.value.db) m.back frames) m.slot (meta_of P m.plan.meta)) (refill P (file_of db' end.value.db) m.back frames) =
      g ∙ rw f in
      ap (λ (x : List ℕ). files_left end.value log' db' clog' x) h
      ∙ ap (λ (x : Files). record { files = x; frames = cond m.meta (with_frame P (refill P x.db m.back frames) m.slot (meta_of P m.plan.meta)) (refill P x.db m.back frames) }) all

-- ---- the arrays

pub arrays-out : (P size : ℕ) (m : Made) (rows rows' : List (List ℕ)) (resident touched resident' touched' : List ℕ) (tn tc fn fc xn xc : ℕ) →
    rowed_as tn tc rows' ≡ rows_after rows m.head.entries m.change →
    seated_in fn resident' fc ≡ resident_after P size resident m.head.resident m.meta →
    marked_in xn touched' xc ≡ touched_after touched m.head.touched m.change →
    lent (counted_head tc fc xc m.head) rows' resident' touched' ≡ after_in P size m rows resident touched
unfolding after_in
arrays-out P size m rows rows' resident touched resident' touched' tn tc fn fc xn xc a b d =
    ap (λ (t : Rowed). lent (counted_head t.count fc xc m.head) t.rows resident' touched') a
    ∙ ap (λ (f : Seated). lent (counted_head (rows_after rows m.head.entries m.change).count f.frames.count xc m.head) (rows_after rows m.head.entries m.change).rows f.frames.pages touched') b
    ∙ ap (λ (x : Marked). lent (counted_head (rows_after rows m.head.entries m.change).count (resident_after P size resident m.head.resident m.meta).frames.count x.touched.count m.head) (rows_after rows m.head.entries m.change).rows (resident_after P size resident m.head.resident m.meta).frames.pages x.touched.pages) d

-- ---- both

module _ (P : ℕ) (m : Made) (rows : List (List ℕ)) (resident touched log db clog frames : List ℕ) where
  left_is : left_by P (made_in P m rows resident touched log db clog frames) log db clog ≡
      (let x = files_made P m log db clog frames in
      leaving m.number (lent_with (lens_of x.files) (after_in P (length frames) m rows resident touched)) x.files.log.bytes x.files.db.bytes x.files.clog.bytes x.frames)
  unfolding left_by made_in carried_out with_lens readied ready_in framed files_made store_of after_in counted_head
  left_is = refl

  pub whole_out : (size : ℕ) (end : Lens) (after : Head) (rows' : List (List ℕ)) (resident' touched' log' db' clog' frames' : List ℕ) → size ≡ length frames →
      files_left end log' db' clog' frames' ≡ files_made P m log db clog frames →
      lent after rows' resident' touched' ≡ after_in P size m rows resident touched →
      leaving m.number (lent (lens_head end after) rows' resident' touched') log' db' clog' frames' ≡ left_by P (made_in P m rows resident touched log db clog frames) log db clog
  whole_out size end after rows' resident' touched' log' db' clog' frames' z a b =
      ap (λ (s : Lent). leaving m.number (lent_with end s) log' db' clog' frames') (b ∙ ap (λ (n : ℕ). after_in P n m rows resident touched) z)
      ∙ ap (λ (x : FilesLeft). leaving m.number (lent_with (lens_of x.files) (after_in P (length frames) m rows resident touched)) x.files.log.bytes x.files.db.bytes x.files.clog.bytes x.frames) a
      ∙ sym left_is
