-- Pages logged one after another, and pages written one after another, cut anywhere. P is the page size. Assumes nothing.
use mathlib.Core.Path.{◌≡◌, refl, ap, ◌∙◌}
use mathlib.Core.List.{List, [], ◌∷◌, ◌++◌, append-nil, append_assoc}
use mathlib.Core.Bool.{true, false}
use Prim.Native.Nat.{ℕ, zero, suc, ◌+◌, ◌*◌, ◌≤◌, ◌<◌}
use native.Mathlib.Nat.{suc-mul}
use native.Mathlib.Omega.{arith}
use lib.ListN.{length}
use Rattle.fields.specs.Files.{content, room}
use Rattle.fields.proofs.Tests.{Order, less, most, order}
use Rattle.fields.proofs.FileLaws.{lay-room, lay-len}
use Rattle.wal.specs.Records.{Record, image, encode}
use Rattle.wal.proofs.RecordLaws.{Sound}
use Rattle.wal.proofs.WriteLaws.{page-size}
use Rattle.frames.specs.Pages.{is_in}
use Rattle.frames.proofs.Lists.{head_in_lem, tail-in, Within, within_more}
use Rattle.world.specs.World.{Files, World}
use Rattle.world.specs.Steps.{Log, Page, apply, apply_all}
use Rattle.world.specs.Calls.{held_page, images, writes}
use Rattle.world.proofs.RoomLaws.{held_page-length}
use Rattle.partway.specs.Partway.{apply_to, cut_all}
use Rattle.partway.proofs.Laws.{all-empty}
use Rattle.opening.proofs.Replays.{imaged_all}
use Rattle.opening.proofs.Pages.{pages-apart, images_of, image-next, writes-replay}
use Rattle.keyoff.proofs.Images.{AllRest}
use Rattle.keyoff.proofs.Page.{Stands}
use Rattle.keyturn.proofs.Logs.{LogIs, LogWhole, whole_is, log-part, log-done, log-whole}
use Rattle.keyturn.proofs.Dbs.{byte_of, PageTo, page-whole, page-to, page-stands, replay-bytes}

-- ---- pages that may be logged and written: not page 0, their number is one, and they have room

abbrev pub Fine : ℕ → ℕ → ℕ → Type 0
Fine P size p = (0 < p) × (p < 4294967295) × (p * P + P ≤ size)

abbrev pub AllFine : ℕ → ℕ → List ℕ → Type 0
AllFine P size ps = (p : ℕ) → is_in p ps ≡ true → Fine P size p

pub images-rest : (P : ℕ) (w : World) (size : ℕ) (ps : List ℕ) → AllFine P size ps → AllRest P size (images_of P w ps)
unfolding images_of
images-rest P w size [] h = tt
images-rest P w size (p ∷ ps) h =
    let f = h p (head_in_lem p ps) in
    ((f.0, f.1, held_page-length P w p, f.2), images-rest P w size ps (λ q k. h q (tail-in q p ps k)))

-- ---- pages logged

-- after the records of base stand the images of some of the pages tot; database and clog are as they were
pub record Logging (P : ℕ) (w : World) (base : List Record) (tot : List ℕ) (f g : Files) : Type 0 where
  pub pages : List ℕ
  pub within : Within pages tot
  pub log : LogIs P g.log (base ++ images_of P w pages)
  pub db : g.db ≡ f.db
  pub clog : g.clog ≡ f.clog

module _ (P : ℕ) (w : World) (base : List Record) (size : ℕ) (tot : List ℕ) (fine : AllFine P size tot) where
  abbrev one : ℕ → Record
  one p = image p (held_page P w p)

  sound : (p : ℕ) → is_in p tot ≡ true → Sound P (one p)
  sound p h = (omega (arith, (fine p h).1), held_page-length P w p)

  one_size : (p : ℕ) → length (encode (one p)) ≡ 5 + P
  one_size p = page-size P p (held_page P w p) (held_page-length P w p)

  module _ (p : ℕ) (qs : List ℕ) (f : Files) (inside : is_in p tot ≡ true) (q : Within qs tot) (h : LogWhole P f.log (base ++ images_of P w qs))
      (n : ℕ) (l : f.log.len + suc n * (5 + P) ≤ room f.log) where
    fits : f.log.len + length (encode (one p)) ≤ room f.log
    fits = omega (arith, one_size p, suc-mul n (5 + P))

    next : LogWhole P (apply P (Log (one p)) f).log (base ++ images_of P w (qs ++ (p ∷ [])))
    next = rw (image-next P w base qs p) at (log-whole P f (base ++ images_of P w qs) (one p) h (sound p inside) fits)

    next_fits : (apply P (Log (one p)) f).log.len + n * (5 + P) ≤ room (apply P (Log (one p)) f).log
    unfolding apply
    next_fits = omega (arith, lay-len f.log f.log.len (encode (one p)), lay-room f.log f.log.len (encode (one p)), one_size p, suc-mul n (5 + P))

    -- the first of them, to a position
    first-image : (pos : ℕ) → Logging P w base tot f (apply_to P pos (Log (one p)) f)
    first-image pos = go (order pos (length (encode (one p))))
      where
        go : Order pos (length (encode (one p))) → Logging P w base tot f (apply_to P pos (Log (one p)) f)
        go (less a) =
            let s = log-part P f (base ++ images_of P w qs) (one p) h (sound p inside) fits pos a in
            record { pages = qs; within = q; log = s.0; db = s.1; clog = s.2 }
        go (most a) =
            rw (log-done P f (base ++ images_of P w qs) (one p) pos a) (record {
              pages = qs ++ (p ∷ []);
              within = within_more qs p tot q inside;
              log = whole_is P (apply P (Log (one p)) f).log (base ++ images_of P w (qs ++ (p ∷ []))) next;
              db = unfold apply in refl;
              clog = unfold apply in refl;
            })

  same-files : (f g h : Files) → g.db ≡ f.db → g.clog ≡ f.clog → Logging P w base tot g h → Logging P w base tot f h
  same-files f g h d c l = record { pages = l.pages; within = l.within; log = l.log; db = l.db ∙ d; clog = l.clog ∙ c }

  pub cut-images : (ps qs : List ℕ) (f : Files) → Within qs tot → Within ps tot → LogWhole P f.log (base ++ images_of P w qs) →
      f.log.len + length ps * (5 + P) ≤ room f.log → (k pos : ℕ) → Logging P w base tot f (cut_all P k pos (images P w ps) f)
  unfolding images cut_all
  cut-images [] qs f q i h l k pos =
      rw (all-empty P pos k f) (record { pages = qs; within = q; log = whole_is P f.log (base ++ images_of P w qs) h; db = refl; clog = refl })
  cut-images (p ∷ ps) qs f q i h l zero pos =
      record { pages = qs; within = q; log = whole_is P f.log (base ++ images_of P w qs) h; db = refl; clog = refl }
  cut-images (p ∷ ps) qs f q i h l (suc zero) pos =
      first-image p qs f (i p (head_in_lem p ps)) q h (length ps) l pos
  cut-images (p ∷ ps) qs f q i h l (suc (suc k)) pos =
      let t = i p (head_in_lem p ps) in
      same-files f (apply P (Log (one p)) f) _ (unfold apply in refl) (unfold apply in refl)
      (cut-images ps (qs ++ (p ∷ [])) (apply P (Log (one p)) f) (within_more qs p tot q t) (λ x y. i x (tail-in x p ps y)) (next p qs f t q h (length ps) l)
      (next_fits p qs f t q h (length ps) l) (suc k) pos)

  -- all of them
  pub whole-images : (ps qs : List ℕ) (f : Files) → Within qs tot → Within ps tot → LogWhole P f.log (base ++ images_of P w qs) →
      f.log.len + length ps * (5 + P) ≤ room f.log → LogWhole P (apply_all P (images P w ps) f).log (base ++ images_of P w (qs ++ ps))
  unfolding images apply_all
  whole-images [] qs f q i h l = rw append-nil h
  whole-images (p ∷ ps) qs f q i h l =
      let t = i p (head_in_lem p ps) in
      let e : (qs ++ (p ∷ [])) ++ ps ≡ qs ++ (p ∷ ps) = append_assoc qs (p ∷ []) ps in
      rw e at (whole-images ps (qs ++ (p ∷ [])) (apply P (Log (one p)) f) (within_more qs p tot q t) (λ x y. i x (tail-in x p ps y)) (next p qs f t q h (length ps) l)
      (next_fits p qs f t q h (length ps) l))

-- ---- pages written

-- the bytes of pages that are not in tot are as they were, page 0 stands if it stood, and log and clog are as they were
pub record Writing (P : ℕ) (tot : List ℕ) (f g : Files) : Type 0 where
  pub log : g.log ≡ f.log
  pub clog : g.clog ≡ f.clog
  pub size : room g.db ≡ room f.db
  pub fits : g.db.len ≤ room g.db
  pub out : (p i : ℕ) → is_in p tot ≡ false → i < P → byte_of g.db (p * P + i) ≡ byte_of f.db (p * P + i)
  pub stands : (mark : ℕ) → Stands P (content f.db) mark → Stands P (content g.db) mark

module _ (P : ℕ) (big : 36 ≤ P) (w : World) (size : ℕ) (tot : List ℕ) (fine : AllFine P size tot) where
  none : (f : Files) → f.db.len ≤ room f.db → Writing P tot f f
  none f h = record { log = refl; clog = refl; size = refl; fits = h; out = λ p i n l. refl; stands = λ mark s. s }

  pub writing_more : (f g h : Files) → Writing P tot f g → Writing P tot g h → Writing P tot f h
  writing_more f g h a b = record {
    log = b.log ∙ a.log;
    clog = b.clog ∙ a.clog;
    size = b.size ∙ a.size;
    fits = b.fits;
    out = λ p i n l. b.out p i n l ∙ a.out p i n l;
    stands = λ mark s. b.stands mark (a.stands mark s);
  }

  from-page : (p : ℕ) (f g : Files) → is_in p tot ≡ true → f.db.len ≤ room f.db → PageTo P p (length (held_page P w p)) f g → Writing P tot f g
  from-page p f g inside h t = record {
    log = t.log;
    clog = t.clog;
    size = t.size;
    fits = t.fits;
    out = λ q i n l. go q i n l (order q p) (order p q);
    stands = λ mark s. page-stands P big p (length (held_page P w p)) mark f g (fine p inside).0 h t s;
  }
    where
      go : (q i : ℕ) → is_in q tot ≡ false → i < P → Order q p → Order p q → byte_of g.db (q * P + i) ≡ byte_of f.db (q * P + i)
      go q i n l (less a) b = t.before (q * P + i) (omega (arith, pages-apart P q p a))
      go q i n l (most a) (less b) = t.after (q * P + i) (omega (arith, pages-apart P p q b, held_page-length P w p))
      go q i n l (most a) (most b) =
          let e : p ≡ q = omega arith in
          let z : is_in q tot ≡ true = rw e at inside in
          let y : ◌≡◌ {A = ℕ} 0 1 = cc in
          absurd (omega arith)

  has : (p : ℕ) (f : Files) → is_in p tot ≡ true → room f.db ≡ size → p * P + length (held_page P w p) ≤ room f.db
  has p f inside e = omega (arith, (fine p inside).2, held_page-length P w p)

  whole-page : (p : ℕ) (f : Files) → is_in p tot ≡ true → f.db.len ≤ room f.db → room f.db ≡ size → Writing P tot f (apply P (Page p (held_page P w p)) f)
  whole-page p f inside h e = from-page p f _ inside h (page-whole P p (held_page P w p) f h (has p f inside e))

  pub cut-writes : (ps : List ℕ) (f : Files) → Within ps tot → f.db.len ≤ room f.db → room f.db ≡ size → (k pos : ℕ) →
      Writing P tot f (cut_all P k pos (writes P w ps) f)
  unfolding writes cut_all
  cut-writes [] f i h e k pos = rw (all-empty P pos k f) (none f h)
  cut-writes (p ∷ ps) f i h e zero pos = none f h
  cut-writes (p ∷ ps) f i h e (suc zero) pos =
      let t = i p (head_in_lem p ps) in
      from-page p f _ t h (page-to P p (held_page P w p) f h (has p f t e) pos)
  cut-writes (p ∷ ps) f i h e (suc (suc k)) pos =
      let a = whole-page p f (i p (head_in_lem p ps)) h e in
      writing_more f (apply P (Page p (held_page P w p)) f) _ a
      (cut-writes ps (apply P (Page p (held_page P w p)) f) (λ x y. i x (tail-in x p ps y)) a.fits (a.size ∙ e) (suc k) pos)

  pub whole-writes : (ps : List ℕ) (f : Files) → Within ps tot → f.db.len ≤ room f.db → room f.db ≡ size → Writing P tot f (apply_all P (writes P w ps) f)
  unfolding writes apply_all
  whole-writes [] f i h e = none f h
  whole-writes (p ∷ ps) f i h e =
      let a = whole-page p f (i p (head_in_lem p ps)) h e in
      writing_more f (apply P (Page p (held_page P w p)) f) _ a
      (whole-writes ps (apply P (Page p (held_page P w p)) f) (λ x y. i x (tail-in x p ps y)) a.fits (a.size ∙ e))

-- each byte that they leave
pub writes_bytes : (P : ℕ) (w : World) (ps : List ℕ) (f : Files) → AllFine P (room f.db) ps → f.db.len ≤ room f.db → (i : ℕ) →
    byte_of (apply_all P (writes P w ps) f).db i ≡ imaged_all P (images_of P w ps) i (byte_of f.db i)
writes_bytes P w ps f fine h i =
    ap (λ (g : Files). byte_of g.db i) (writes-replay P w ps f) ∙ replay-bytes P (images_of P w ps) f.db (images-rest P w (room f.db) ps fine) h i
