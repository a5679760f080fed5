-- Clogs at a cut: lengthened for a slot that is not yet set, or with some of the bytes under a mark cleared. P is the page size. Assumes nothing.
use mathlib.Core.Path.{◌≡◌, refl, ap, ◌∙◌, subst}
use mathlib.Core.Logic.{◌⊎◌, inl, inr}
use mathlib.Core.Bool.{true}
use Prim.Native.Nat.{ℕ, suc, ◌+◌, ◌-◌, ◌/◌, ◌≤◌, ◌<◌}
use native.Mathlib.Omega.{arith}
use Rattle.fields.specs.Files.{File, content, room}
use Rattle.table.specs.declared.Status.{Status}
use Rattle.std.specs.Prelude.{Option, None}
use Rattle.clog.specs.Slots.{slot_of, valid_clog, span_below}
use Rattle.clog.proofs.TableLaws.{known_as, valid-long, valid_same}
use Rattle.world.specs.World.{Files}
use Rattle.world.specs.Steps.{SetSlot, Compact, with_clog, apply}
use Rattle.partway.specs.Partway.{grown, cleared_to, stopped, apply_to}
use Rattle.partway.proofs.Laws.{Position, before, inside, past, position, cut-whole}
use Rattle.partway.proofs.Lengths.{grown-room, grown-fits, grown-valid, grown-slot}
use Rattle.partway.proofs.Clears.{cleared-to-room, cleared-to-len, cleared-to-header, cleared-to-high, cleared-to-low, cleared-to-whole}

pub record ClogIs (clog : File) : Type 0 where
  pub size : room clog ≤ 1048576
  pub fits : clog.len ≤ room clog
  pub valid : valid_clog clog ≡ true

-- what the slot of an id loads as
abbrev pub loads : File → ℕ → Option Status
loads clog t = known_as (slot_of 8 (content clog) t)

-- a word that is the old one, or gone
pub data Quiet (old new : Option Status) : Type 0 where
  same : new ≡ old → Quiet old new
  gone : new ≡ None → Quiet old new

-- ---- a slot's store to a position: either no slot has changed, or it is whole

pub record SlotsStay (f g : Files) : Type 0 where
  pub log : g.log ≡ f.log
  pub db : g.db ≡ f.db
  pub is : ClogIs g.clog
  pub size : room g.clog ≡ room f.clog
  pub slots : (t : ℕ) → loads g.clog t ≡ loads f.clog t

pub data SlotCut (P id : ℕ) (s : Status) (f g : Files) : Type 0 where
  not_yet : SlotsStay f g → SlotCut P id s f g
  whole : g ≡ apply P (SetSlot id s) f → SlotCut P id s f g

pub slot-to : (P id : ℕ) (s : Status) (f : Files) → ClogIs f.clog → 8 + id / 4 < room f.clog → (pos : ℕ) →
    SlotCut P id s f (apply_to P pos (SetSlot id s) f)
slot-to P id s f c l pos = go (position P pos (SetSlot id s) f)
  where
    lengthened : SlotsStay f (with_clog (grown f.clog (8 + id / 4 + 1)) f)
    lengthened =
        let end = 8 + id / 4 + 1 in
        let r = grown-room f.clog end in
        record {
          log = refl;
          db = refl;
          is = record {
            size = omega (arith, c.size, r);
            fits = grown-fits f.clog end c.fits (omega arith);
            valid = grown-valid f.clog end c.fits (omega arith) (valid-long f.clog c.valid) ∙ c.valid;
          };
          size = r;
          slots = λ t. ap known_as (grown-slot f.clog end c.fits (omega arith) t);
        }

    go : Position P pos (SetSlot id s) f → SlotCut P id s f (apply_to P pos (SetSlot id s) f)
    go (before z e) = rw e (not_yet (record { log = refl; db = refl; is = c; size = refl; slots = λ t. refl }))
    go (inside n h e) = rw e (unfold stopped in not_yet lengthened)
    go (past e) = whole e

-- ---- a compaction to a position: a valid clog, slots from w on as they were, those under w so or gone

pub record Compacting (w : ℕ) (f g : Files) : Type 0 where
  pub log : g.log ≡ f.log
  pub db : g.db ≡ f.db
  pub is : ClogIs g.clog
  pub size : room g.clog ≡ room f.clog
  pub high : (t : ℕ) → w ≤ t → loads g.clog t ≡ loads f.clog t
  pub slots : (t : ℕ) → Quiet (loads f.clog t) (loads g.clog t)

module _ (P w : ℕ) (f : Files) (c : ClogIs f.clog) where
  long : 8 ≤ f.clog.len
  long = valid-long f.clog c.valid

  partly : (n : ℕ) → Compacting w f (with_clog (cleared_to n 8 w f.clog) f)
  partly n =
      let r = cleared-to-room n 8 w f.clog in
      record {
        log = refl;
        db = refl;
        is = record {
          size = omega (arith, c.size, r);
          fits = omega (arith, c.fits, r, cleared-to-len n 8 w f.clog);
          valid = valid_same f.clog (cleared_to n 8 w f.clog) (cleared-to-header n 8 w f.clog c.fits long) ∙ c.valid;
        };
        size = r;
        high = λ t h. ap known_as (cleared-to-high n 8 w f.clog c.fits long t h);
        slots = λ t. go t (cleared-to-low n 8 w f.clog c.fits long t);
      }
    where
      go : (t : ℕ) → (slot_of 8 (content (cleared_to n 8 w f.clog)) t ≡ slot_of 8 (content f.clog) t) ⊎ (slot_of 8 (content (cleared_to n 8 w f.clog)) t ≡ 0) →
          Quiet (loads f.clog t) (loads (cleared_to n 8 w f.clog) t)
      go t (inl e) = same (ap known_as e)
      go t (inr e) = gone (rw e)

  -- the whole of it is the told range and no more
  whole_part : with_clog (cleared_to (span_below (f.clog.len - 8) w) 8 w f.clog) f ≡ apply P (Compact w) f
  unfolding apply
  whole_part = ap (λ (x : File). with_clog x f) (cleared-to-whole (span_below (f.clog.len - 8) w) 8 w f.clog c.fits long (omega arith))

  pub compact-to : (pos : ℕ) → Compacting w f (apply_to P pos (Compact w) f)
  compact-to pos = go (position P pos (Compact w) f)
    where
      go : Position P pos (Compact w) f → Compacting w f (apply_to P pos (Compact w) f)
      go (before z e) = rw e (record { log = refl; db = refl; is = c; size = refl; high = λ t h. refl; slots = λ t. same refl })
      go (inside n h e) = rw e (unfold stopped in partly (suc n))
      go (past e) = rw e (subst (λ (g : Files). Compacting w f g) whole_part (partly (span_below (f.clog.len - 8) w)))

  pub compact-whole : Compacting w f (apply P (Compact w) f)
  compact-whole = cut-whole P (λ (g : Files). Compacting w f g) (Compact w) f compact-to
