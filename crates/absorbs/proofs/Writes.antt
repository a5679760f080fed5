-- (a) Replay absorbs: pages written in whole or in part, of which the log has images, leave the same to an opening; the bytes need not be the images'. P is the page
-- size. Assumes nothing.
use mathlib.Core.Path.{◌≡◌, refl, ap, ◌∙◌}
use mathlib.Core.List.{List, [], ◌∷◌}
use mathlib.Core.Bool.{true}
use Prim.Native.Nat.{ℕ, ◌+◌, ◌*◌, ◌≤◌, max}
use native.Mathlib.Omega.{arith}
use lib.ListN.{length, take, length-take}
use Rattle.fields.specs.Files.{File, room}
use Rattle.wal.specs.Records.{Record}
use Rattle.wal.proofs.Sizes.{AllSized}
use Rattle.frames.specs.Pages.{is_in}
use Rattle.frames.proofs.Lists.{head_in_lem, tail-in}
use Rattle.meta.specs.Page.{format_no}
use Rattle.world.specs.World.{Files, World}
use Rattle.world.specs.Steps.{Page, apply}
use Rattle.world.specs.Calls.{held_page, writes}
use Rattle.world.proofs.RoomLaws.{held_page-length}
use Rattle.opening.specs.Opening.{records, end_of, replay, replayed, full_table}
use Rattle.opening.proofs.Replays.{reach, lay-absorbed}
use Rattle.opening.proofs.Pages.{has_image, has-covered, has-reach}
use Rattle.partway.specs.Partway.{grown, laid_to, apply_to, cut_all}
use Rattle.partway.proofs.Laws.{cut-nil, cut-cons, cut-whole}
use Rattle.partway.proofs.Lengths.{grown-room, grown-len}
use Rattle.partway.proofs.Sectors.{Stop, none, some, page-stop, laid-room, laid-fits}
use Rattle.torn.specs.Torn.{tail_no, torn_no}
use Rattle.torn.proofs.Laws.{torn-means}
use Rattle.absorbs.proofs.Opens.{OpensAs, opens_as}

-- one page, to any of its bytes
pub page-absorbed : (P : ℕ) (rs : List Record) → AllSized P rs → (f : File) → f.len ≤ room f → reach P rs ≤ room f → (p : ℕ) (bs : List ℕ) → length bs ≡ P →
    has_image p rs ≡ true → (n : ℕ) → replay P rs (laid_to n f (p * P) bs) ≡ replay P rs f
unfolding laid_to
page-absorbed P rs a f fits has p bs s h n =
    let r : p * P + P ≤ reach P rs = has-reach P p rs a h in
    let e : p * P + length bs + length {A = ℕ} [] ≤ max f.len (reach P rs) = omega arith in
    let g = grown-len f (p * P + length bs) in
    let w = grown-room f (p * P + length bs) in
    let t : length (take n bs) ≤ P = rw length-take (omega arith) in
    lay-absorbed P rs (grown f (p * P + length bs)) (omega arith) (omega arith) (p * P) (take n bs) (omega arith)
    (λ i l m. has-covered P p i l (omega arith) rs a h)
    ∙ lay-absorbed P rs f fits has (p * P + length bs) [] e (λ i l m. absurd (omega arith))

module _ (P : ℕ) (rs : List Record) (a : AllSized P rs) (size : ℕ) (has : reach P rs ≤ size) where
  -- what holds of the files at every cut of such writes
  pub record Repaired (f g : Files) : Type 0 where
    pub log : g.log ≡ f.log
    pub clog : g.clog ≡ f.clog
    pub db-room : room g.db ≡ size
    pub db-len : g.db.len ≤ room g.db
    pub replays : replay P rs g.db ≡ replay P rs f.db

  repaired-trans : (f g h : Files) → Repaired f g → Repaired g h → Repaired f h
  repaired-trans f g h u v = record {
    log = v.log ∙ u.log;
    clog = v.clog ∙ u.clog;
    db-room = v.db-room;
    db-len = v.db-len;
    replays = v.replays ∙ u.replays;
  }

  page-repaired : (p : ℕ) (bs : List ℕ) → length bs ≡ P → has_image p rs ≡ true → (f : Files) → Repaired f f → (pos : ℕ) → Repaired f (apply_to P pos (Page p bs) f)
  page-repaired p bs s h f u pos = go (apply_to P pos (Page p bs) f) (page-stop P p bs f u.db-len room_for pos)
    where
      room_for : p * P + length bs ≤ room f.db
      room_for = omega (arith, u.db-room, has-reach P p rs a h)

      go : (g : Files) → Stop P p bs f g → Repaired f g
      go g (none e) = rw e u
      go g (some n e) = rw e (record {
        log = refl;
        clog = refl;
        db-room = laid-room f.db (p * P) bs (512 * n) ∙ u.db-room;
        db-len = laid-fits f.db (p * P) bs u.db-len room_for (512 * n);
        replays = page-absorbed P rs a f.db u.db-len (omega (arith, u.db-room)) p bs s h (512 * n);
      })

  -- a call's page writes, cut anywhere
  pub writes-repaired : (w : World) (ps : List ℕ) → ((p : ℕ) → is_in p ps ≡ true → has_image p rs ≡ true) → (f : Files) → Repaired f f → (k pos : ℕ) →
      Repaired f (cut_all P k pos (writes P w ps) f)
  unfolding writes
  writes-repaired w [] h f u = cut-nil P (λ (g : Files). Repaired f g) f u
  writes-repaired w (p ∷ ps) h f u =
      let one = page-repaired p (held_page P w p) (held_page-length P w p) (h p (head_in_lem p ps)) f u in
      let whole : Repaired f (apply P (Page p (held_page P w p)) f) = cut-whole P (λ (g : Files). Repaired f g) (Page p (held_page P w p)) f one in
      cut-cons P (λ (g : Files). Repaired f g) (Page p (held_page P w p)) (writes P w ps) f one
      (λ k pos. repaired-trans f (apply P (Page p (held_page P w p)) f) _ whole
      (writes-repaired w ps (λ q i. h q (tail-in q p ps i)) (apply P (Page p (held_page P w p)) f)
      (record { log = refl; clog = refl; db-room = whole.db-room; db-len = whole.db-len; replays = refl }) k pos))

-- so they are opened as if no page had been written, where page 0 is still one that fits
pub writes-open : (P : ℕ) (f g : Files) (frames : List ℕ) (a : AllSized P (records P f.log)) (has : reach P (records P f.log) ≤ room f.db) →
    Repaired P (records P f.log) a (room f.db) has f g → torn_no P f frames ≡ 0 → format_no P g.db ≡ 0 → tail_no (end_of P f.log) ≡ 0 → OpensAs P f g frames
unfolding replayed full_table
writes-open P f g frames a has u ok format tail =
    let p = torn-means P f frames ok in
    opens_as P f g frames
    (record {
      log-room = ap room u.log;
      db-room = u.db-room;
      clog-room = ap room u.clog;
      log-len = rw u.log p.log-len;
      db-len = u.db-len;
      clog-len = rw u.clog p.clog-len;
    })
    (record { recs = rw u.log; db = rw u.log u.replays; full = rw (u.log, u.clog) }) format (rw u.log tail) ok
