-- A store that stands where it is lent: a head of numbers, and three arrays: the table's rows, the resident pages, the touched pages. It is read as the store that
-- calls are defined over (crate form); what a call leaves there are the lists of the store after it, laid in front of the arrays. A refusal changes nothing.
-- Not every head and every row is a store's: a page count of more than 32 bits, a place that is neither empty (0, with the id 0) nor taken (1), a row that is no
-- entry's are out of form, 14 after 1, for every call. P is the page size. Assumes nothing.
use Rattle.std.specs.Prelude.{ℕ, List, map, Bool, cond, not, ◌&&◌, ◌||◌, take, ltb, eqb, Result, Ok, Err}
use Rattle.fields.specs.declared.refusal.Refusal.{Refusal}
use Rattle.fields.specs.Refusals.{number_of}
use Rattle.fields.specs.declared.TransactionId.{TransactionId}
use Rattle.fields.specs.Answers.{no_id}
use Rattle.sorted.specs.Sorted.{laid_on}
use Rattle.table.specs.Entries.{list_of}
use Rattle.rows.specs.Rows.{row_of, any_odd, table_of}
use Rattle.frames.specs.Pages.{resident_of, touched_of}
use Rattle.world.specs.declared.Slot.{Slot}
use Rattle.world.specs.declared.Slot.TheVariants.{Installed, Empty}
use Rattle.world.specs.World.{files_of}
use Rattle.world.specs.Calls.{Call}
use Rattle.world.specs.Refusals.{bad_buffers}
use Rattle.world.specs.Run.{decided}
use Rattle.form.specs.declared.Store.{Store}
use Rattle.form.specs.Store.{Outcome, called}
use Rattle.lent.specs.declared.Head.{Head}

pub record Lent : Type 0 where
  pub head : Head
  pub rows : List (List ℕ)
  pub resident : List ℕ
  pub touched : List ℕ

abbrev pub lent : Head → List (List ℕ) → List ℕ → List ℕ → Lent
lent h rows resident touched = record { head = h; rows = rows; resident = resident; touched = touched }

-- ---- the store that stands there

abbrev pub slot_in : ℕ → TransactionId → Slot
slot_in held id = cond (eqb held 1) (Installed id) Empty

unfoldable pub store_of : Lent → Store
store_of s =
    record {
      lens = s.head.lens;
      pages = s.head.pages;
      next = s.head.next;
      time = s.head.time;
      mark = s.head.mark;
      table = table_of s.head.entries s.rows;
      frames = record { pages = s.resident; count = s.head.resident };
      held = record { slot = slot_in s.head.held s.head.id; touched = record { pages = s.touched; count = s.head.touched } };
    }

-- no store is written so
unfoldable pub odd_head : Head → Bool
odd_head h = ltb 4294967295 h.pages || (ltb 1 h.held || (eqb h.held 0 && not (eqb h.id.0 0)))

unfoldable pub odd : Lent → Bool
odd s = odd_head s.head || any_odd (take s.head.entries s.rows)

-- ---- a store, written

abbrev pub held_of : Slot → ℕ
held_of (Installed id) = 1
held_of Empty = 0

abbrev pub own_of : Slot → TransactionId
own_of (Installed id) = id
own_of Empty = no_id

abbrev pub head_of : Store → Head
head_of u =
    record {
      lens = u.lens;
      pages = u.pages;
      next = u.next;
      time = u.time;
      mark = u.mark;
      held = held_of u.held.slot;
      id = own_of u.held.slot;
      entries = u.table.count;
      resident = u.frames.count;
      touched = u.held.touched.count;
    }

-- the store u, its lists laid over the arrays of s
unfoldable pub laid_lent : Lent → Store → Lent
laid_lent s u =
    lent (head_of u) (laid_on s.rows (map row_of (list_of u.table))) (laid_on s.resident (resident_of u.frames))
    (laid_on s.touched (touched_of u.held.touched))

-- ---- what a call answers: its number, and the head after it; a refused call leaves the head h

pub record Reply : Type 0 where
  pub number : ℕ
  pub head : Head

abbrev pub replied : Head → Result Head Refusal → Reply
replied h (Ok g) = record { number = 0; head = g }
replied h (Err r) = record { number = number_of r; head = h }

-- ---- what a call leaves: its number, the store where it stands, and every byte of the four buffers

pub record Left : Type 0 where
  pub number : ℕ
  pub store : Lent
  pub log : List ℕ
  pub db : List ℕ
  pub clog : List ℕ
  pub frames : List ℕ

abbrev pub leaving : ℕ → Lent → List ℕ → List ℕ → List ℕ → List ℕ → Left
leaving n s log db clog frames = record { number = n; store = s; log = log; db = db; clog = clog; frames = frames }

unfoldable pub left_of : Lent → Outcome → Left
left_of s o = leaving o.number (decided o.number (laid_lent s o.store) s) o.log o.db o.clog o.frames

-- the number of what is no store: the buffers are tested first
unfoldable pub odd_no : ℕ → Lent → List ℕ → List ℕ → List ℕ → List ℕ → ℕ
odd_no P s log db clog frames = cond (bad_buffers P (files_of s.head.lens log db clog) frames) 1 14

-- what comes of a call, and what its number gives where there is no store
abbrev pub unless_odd : {A : Type 0} → ℕ → Lent → List ℕ → List ℕ → List ℕ → List ℕ → (ℕ → A) → A → A
unless_odd P s log db clog frames by a = cond (odd s) (by (odd_no P s log db clog frames)) a

unfoldable pub called_lent : ℕ → Call → Lent → List ℕ → List ℕ → List ℕ → List ℕ → Left
called_lent P c s log db clog frames =
    unless_odd P s log db clog frames (λ n. leaving n s log db clog frames) (left_of s (called P c (store_of s) log db clog frames))
