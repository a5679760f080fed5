-- What a call adds to the log, and the files in its middle from what happened to each. P is the page size. Assumes nothing.
use mathlib.Core.Path.{◌≡◌, refl, ap, ◌∙◌}
use mathlib.Core.List.{List, [], ◌∷◌, ◌++◌, map, map-append}
use mathlib.Core.Bool.{Bool, true, false}
use Prim.Native.Nat.{ℕ, ◌+◌, ◌*◌, ◌/◌, ◌≤◌, ◌<◌}
use native.Mathlib.Omega.{arith}
use borrow.Author.Tests.{lt-leb}
use Rattle.fields.specs.declared.TransactionId.{TransactionId}
use Rattle.fields.specs.Files.{File, content, room}
use Rattle.wal.specs.Records.{Record, checkpoint}
use Rattle.table.specs.declared.Status.{Status}
use Rattle.table.specs.declared.Entry.{Entry}
use Rattle.std.specs.Prelude.{Some, None}
use Rattle.table.specs.Entries.{id_of, status_of}
use Rattle.table.proofs.Facts.{settled_known, no-status, own-status}
use Rattle.clog.specs.Slots.{code_of, set_slot}
use Rattle.frames.specs.Pages.{is_in}
use Rattle.frames.proofs.Lists.{Within}
use Rattle.world.specs.declared.Slot.{Slot}
use Rattle.world.specs.declared.Slot.TheVariants.{Installed}
use Rattle.world.specs.World.{Files, World}
use Rattle.world.specs.Calls.{held_page}
use Rattle.world.specs.Refusals.{any_of}
use Rattle.world.proofs.FormLaws.{none_more}
use Rattle.opening.specs.Opening.{records, noted, statuses, past_clog}
use Rattle.opening.proofs.Tables.{last_word, other_word, word-append, statuses-append}
use Rattle.opening.proofs.Replays.{imaged_all, imaged-append}
use Rattle.opening.proofs.Pages.{images_of, images-words, images-statuses, images-in, images-out}
use Rattle.keyoff.specs.KeyOff.{kept}
use Rattle.keyoff.proofs.Images.{Rest, AllRest, all-longer, rest-append}
use Rattle.keyoff.proofs.Page.{Stands}
use Rattle.keyoff.proofs.Steps.{slot-set, clog-sets}
use Rattle.keyoff.proofs.Invariant.{Kept}
use Rattle.keyturn.proofs.Logs.{LogIs, LogWhole}
use Rattle.keyturn.proofs.Clogs.{ClogIs, loads, Quiet, same, gone}
use Rattle.keyturn.proofs.Dbs.{byte_of}
use Rattle.keyturn.proofs.Mid as mid
use Rattle.keyturn.proofs.Mid.{NotOwn, MarkIs, Mid, found}
use Rattle.keyturn.proofs.Parts.{AllFine, images-rest}
use Rattle.keyturn.proofs.Build.{Before, Come, as_before, as-image, Half, Full, left}

-- ---- records that are added: images of the call's pages, words on its own id, nothing else. db and clog are the sizes of the buffers

pub record Adds (P : ℕ) (own : Slot) (db clog : ℕ) (zs : List Record) : Type 0 where
  pub rest : AllRest P db zs
  pub ids : any_of (map (past_clog clog) (statuses zs)) ≡ false
  pub quiet : (t : ℕ) → NotOwn own t → last_word t zs ≡ None

module _ (P : ℕ) (own : Slot) (db clog : ℕ) where
  pub adds_none : Adds P own db clog []
  unfolding statuses any_of last_word
  adds_none = record { rest = tt; ids = refl; quiet = λ t n. refl }

  pub adds-append : (ys zs : List Record) → Adds P own db clog ys → Adds P own db clog zs → Adds P own db clog (ys ++ zs)
  adds-append ys zs a b = record {
    rest = rest-append P db ys zs a.rest b.rest;
    ids = rw (statuses-append ys zs, map-append) (none_more _ _ a.ids b.ids);
    quiet = λ t n. word-append t ys zs ∙ rw (b.quiet t n, a.quiet t n);
  }

  pub adds-images : (w : World) (ps : List ℕ) → AllFine P db ps → Adds P own db clog (images_of P w ps)
  unfolding any_of
  adds-images w ps fine = record {
    rest = images-rest P w db ps fine;
    ids = rw (images-statuses P w ps);
    quiet = λ t n. images-words P w t ps;
  }

  pub adds-checkpoint : Adds P own db clog (checkpoint ∷ [])
  unfolding statuses any_of last_word
  adds-checkpoint = record { rest = (tt, tt); ids = refl; quiet = λ t n. no-status t }

  -- a word on the call's own id
  one_word : (r : Record) (e : Entry) → noted r ≡ e ∷ [] → (t : ℕ) → last_word t (r ∷ []) ≡ status_of t (e ∷ [])
  unfolding last_word
  one_word r e h t = rw h

  pub adds-word : (r : Record) (e : Entry) → noted r ≡ e ∷ [] → Rest P db r → 8 + id_of e / 4 < clog → ((t : ℕ) → NotOwn own t → id_of e ≡ t → ⊥) → Adds P own db clog (r ∷ [])
  unfolding statuses any_of
  adds-word r e h q l o = record {
    rest = (q, tt);
    ids = rw (h, lt-leb _ _ l);
    quiet = λ t n. one_word r e h t ∙ other_word t e (o t n);
  }

-- what it says
pub word-said : (r : Record) (e : Entry) → noted r ≡ e ∷ [] → last_word (id_of e) (r ∷ []) ≡ Some e.status
unfolding last_word
word-said r e h = rw h (own-status e [])

pub own-id : (id : TransactionId) (t : ℕ) → NotOwn (Installed id) t → id.0 ≡ t → ⊥
own-id id t n e = n (ap (λ (i : ℕ). Installed (record { 0 = i })) e)

-- ---- what happened to the database and to the clog

pub record DbKept (P : ℕ) (w : World) (above : ℕ) (g : Files) : Type 0 where
  pub size : room g.db ≡ room w.files.db
  pub fits : g.db.len ≤ room g.db
  pub mark : ℕ
  pub stands : Stands P (content g.db) mark
  pub among : MarkIs w above mark

pub record ClogKept (w : World) (own : Slot) (above : ℕ) (g : Files) : Type 0 where
  pub size : room g.clog ≡ room w.files.clog
  pub is : ClogIs g.clog
  pub high : (t : ℕ) → NotOwn own t → above ≤ t → loads g.clog t ≡ loads w.files.clog t
  pub slots : (t : ℕ) → NotOwn own t → Quiet (loads w.files.clog t) (loads g.clog t)

module _ (P : ℕ) (w : World) (v : Kept P w) where
  pub clog-is : ClogIs w.files.clog
  clog-is = record { size = v.clog-size; fits = v.clog-len; valid = v.valid }

  pub log_is : LogWhole P w.files.log (records P w.files.log)
  log_is = record { size = v.log-size; fits = v.log-len; reads = v.reads; recs = refl }

  pub db-same : (above : ℕ) (g : Files) → g.db ≡ w.files.db → DbKept P w above g
  db-same above g e = record { size = ap room e; fits = rw e v.db-len; mark = w.mem.mark.0; stands = rw e v.page; among = mid.old refl }

  pub clog-stays : (g : Files) (own : Slot) (above : ℕ) → room g.clog ≡ room w.files.clog → ClogIs g.clog →
      ((t : ℕ) → loads g.clog t ≡ loads w.files.clog t) → ClogKept w own above g
  clog-stays g own above e c h = record { size = e; is = c; high = λ t n l. h t; slots = λ t n. same (h t) }

  pub clog-same : (g : Files) (own : Slot) (above : ℕ) → g.clog ≡ w.files.clog → ClogKept w own above g
  clog-same g own above e = clog-stays g own above (ap room e) (rw e clog-is) (λ t. ap (λ (f : File). loads f t) e)

  -- the slot of the call's id set
  pub clog-set : (g : Files) (id : TransactionId) (s : Status) (above : ℕ) → g.clog ≡ set_slot 8 id.0 (code_of s) w.files.clog → 8 + id.0 / 4 < room w.files.clog →
      ClogKept w (Installed id) above g
  clog-set g id s above e l =
      let c = slot-set id.0 s w.files.clog v.clog-len l in
      let o : (t : ℕ) → NotOwn (Installed id) t → loads g.clog t ≡ loads w.files.clog t =
      λ t n. ap (λ (f : File). loads f t) e ∙ (clog-sets id.0 s w.files.clog v.clog-len l).1 t (own-id id t n) in
      record {
        size = ap room e ∙ c.size;
        is = rw e (record { size = omega (arith, v.clog-size, c.size); fits = c.len; valid = c.valid v.valid });
        high = λ t n h. o t n;
        slots = λ t n. same (o t n);
      }

  pub set-loads : (g : Files) (id : TransactionId) (s : Status) → g.clog ≡ set_slot 8 id.0 (code_of s) w.files.clog → 8 + id.0 / 4 < room w.files.clog →
      loads g.clog id.0 ≡ kept (Some s)
  set-loads g id s e l = ap (λ (f : File). loads f id.0) e ∙ (clog-sets id.0 s w.files.clog v.clog-len l).0

  -- ---- the files in the middle: the log with something added, or cut back

  abbrev old : List Record
  old = records P w.files.log

  pub mid-added : (own : Slot) (above : ℕ) (zs : List Record) (g : Files) → LogIs P g.log (old ++ zs) → Adds P own (room w.files.db) (room w.files.clog) zs →
      DbKept P w above g → ClogKept w own above g → Mid P w own above (old ++ zs) g
  mid-added own above zs g l a d c = record {
    log = l;
    rest = rw d.size (rest-append P (room w.files.db) old zs (all-longer P w.files.db.len (room w.files.db) v.db-len old v.rest) a.rest);
    ids = rw (c.size, statuses-append old zs, map-append) (none_more _ _ v.ids a.ids);
    words = λ t n. same (word-append t old zs ∙ rw (a.quiet t n));
    db-size = omega (arith, d.size, v.db-size);
    db-fits = d.fits;
    mark = d.mark;
    page = d.stands;
    among = d.among;
    clog = c.is;
    high = c.high;
    slots = c.slots;
  }

  pub mid-cut : (own : Slot) (above : ℕ) (g : Files) → LogIs P g.log [] → DbKept P w above g → ClogKept w own above g → Mid P w own above [] g
  unfolding statuses any_of last_word
  mid-cut own above g l d c = record {
    log = l;
    rest = tt;
    ids = refl;
    words = λ t n. gone refl;
    db-size = omega (arith, d.size, v.db-size);
    db-fits = d.fits;
    mark = d.mark;
    page = d.stands;
    among = d.among;
    clog = c.is;
    high = c.high;
    slots = c.slots;
  }

  -- ---- what is found of the call's own id

  pub found_word : (zs : List Record) (clog : File) (t : ℕ) (s : Status) → last_word t zs ≡ Some s → found (old ++ zs) clog t ≡ settled_known (Some s)
  found_word zs clog t s h = rw (word-append t old zs, h)

  pub found-slot : (clog : File) (t : ℕ) → found [] clog t ≡ loads clog t
  unfolding last_word
  found-slot clog t = refl

  -- ---- pages

  abbrev Plain : List Record → Type 0
  Plain zs = (i b : ℕ) → imaged_all P zs i b ≡ b

  -- before a page is written: those that have an image, and the rest
  pub half-pages : (xs : List Record) (qs ps : List ℕ) (g : Files) → Plain xs → Within qs ps → g.db ≡ w.files.db →
      Half P w ps (left P (old ++ (xs ++ images_of P w qs)) g)
  half-pages xs qs ps g plain inside e = record {
    come = λ p h i. by-image p (is_in p qs) refl;
    rest = λ p h i. before p (outside p i (is_in p qs) refl);
  }
    where
      is : (i : ℕ) → left P (old ++ (xs ++ images_of P w qs)) g i ≡ imaged_all P (images_of P w qs) i (byte_of w.files.db i)
      is i =
          ap (λ (f : File). imaged_all P (old ++ (xs ++ images_of P w qs)) i (byte_of f i)) e
          ∙ imaged-append P old (xs ++ images_of P w qs) i (byte_of w.files.db i)
          ∙ imaged-append P xs (images_of P w qs) i (imaged_all P old i (byte_of w.files.db i))
          ∙ ap (imaged_all P (images_of P w qs) i) (plain i _ ∙ v.agrees i)

      before : (p : ℕ) → is_in p qs ≡ false → Before P p w.files.db (left P (old ++ (xs ++ images_of P w qs)) g)
      before p n i l = is (p * P + i) ∙ images-out P w qs p i (byte_of w.files.db (p * P + i)) n l

      by-image : (p : ℕ) (b : Bool) → is_in p qs ≡ b → Come P p w.files.db (held_page P w p) (left P (old ++ (xs ++ images_of P w qs)) g)
      by-image p true h = as-image (λ i l. is (p * P + i) ∙ images-in P w qs p i (byte_of w.files.db (p * P + i)) h l)
      by-image p false h = as_before (before p h)

      outside : (p : ℕ) → is_in p ps ≡ false → (b : Bool) → is_in p qs ≡ b → is_in p qs ≡ false
      outside p n true h = let z : is_in p ps ≡ true = inside p h in let y : ◌≡◌ {A = ℕ} 0 1 = cc in absurd (omega arith)
      outside p n false h = h

  -- all images in the log, and only bytes of these pages and of page 0 have changed
  pub full-pages : (xs ys : List Record) (ps : List ℕ) (g : Files) → Plain xs → Plain ys →
      ((p i : ℕ) → 0 < p → is_in p ps ≡ false → i < P → byte_of g.db (p * P + i) ≡ byte_of w.files.db (p * P + i)) →
      Full P w ps (left P (old ++ (xs ++ (images_of P w ps ++ ys))) g)
  full-pages xs ys ps g px py out = record {
    all = λ p h i l. is (p * P + i) ∙ images-in P w ps p i _ h l;
    rest = λ p h n i l. is (p * P + i) ∙ images-out P w ps p i _ n l ∙ ap (imaged_all P old (p * P + i)) (out p i h n l) ∙ v.agrees (p * P + i);
  }
    where
      is : (i : ℕ) → left P (old ++ (xs ++ (images_of P w ps ++ ys))) g i ≡ imaged_all P (images_of P w ps) i (imaged_all P old i (byte_of g.db i))
      is i =
          imaged-append P old (xs ++ (images_of P w ps ++ ys)) i (byte_of g.db i)
          ∙ imaged-append P xs (images_of P w ps ++ ys) i (imaged_all P old i (byte_of g.db i))
          ∙ imaged-append P (images_of P w ps) ys i _
          ∙ py i _
          ∙ ap (imaged_all P (images_of P w ps) i) (px i _)

  -- the log cut back, and the pages written
  pub cut-pages : (ps : List ℕ) (g : Files) → ((p : ℕ) → is_in p ps ≡ true → 0 < p) →
      ((p i : ℕ) → 0 < p → i < P → byte_of g.db (p * P + i) ≡ imaged_all P (images_of P w ps) (p * P + i) (byte_of w.files.db (p * P + i))) →
      Full P w ps (left P [] g)
  unfolding imaged_all
  cut-pages ps g pos h = record {
    all = λ p k i l. h p i (pos p k) l ∙ images-in P w ps p i _ k l;
    rest = λ p k n i l. h p i k l ∙ images-out P w ps p i _ n l;
  }
