-- What the calls with no store hand out beside what they leave, and what they hand out where they are refused. An odd store is refused as by every call, so nothing
-- is handed out there. P is the page size. Assumes nothing.
use Rattle.std.specs.Prelude.{ℕ, List, Bool, cond, length, take, ltb, Result, Ok, Err}
use Rattle.fields.specs.declared.refusal.Refusal.{Refusal}
use Rattle.fields.specs.Refusals.{number_of}
use Rattle.fields.specs.declared.TransactionId.{TransactionId}
use Rattle.fields.specs.Answers.{no_id}
use Rattle.sorted.specs.Sorted.{laid_on}
use Rattle.world.specs.Calls.{Uninstall, AllocId, AllocPage, Read, held_page}
use Rattle.world.specs.Run.{done, decided}
use Rattle.form.specs.Store.{world_of}
use Rattle.lent.specs.declared.Head.{Head}
use Rattle.lent.specs.Lent.{Lent, store_of, Reply, Left, leaving, called_lent}
use Rattle.still.specs.declared.Gone.{Gone}

-- a value, and what the call leaves
pub record Beside (A : Type 0) : Type 0 where
  pub value : A
  pub left : Left

abbrev pub beside : {A : Type 0} → A → Left → Beside A
beside a l = record { value = a; left = l }

-- what a call answers that hands something out beside the head: b where it is refused
abbrev pub value_in : {A : Type 0} → A → Result (A × Head) Refusal → A
value_in b (Ok x) = x.0
value_in b (Err r) = b

abbrev pub replied_in : {A : Type 0} → Head → Result (A × Head) Refusal → Reply
replied_in h (Ok x) = record { number = 0; head = x.1 }
replied_in h (Err r) = record { number = number_of r; head = h }

-- a where the call is accepted, else b
abbrev pub handed_out : {A : Type 0} → A → A → Left → Beside A
handed_out a b l = beside (decided l.number a b) l

-- the next id
unfoldable pub id_allocated : ℕ → Lent → List ℕ → List ℕ → List ℕ → List ℕ → Beside TransactionId
id_allocated P s log db clog frames = handed_out s.head.next no_id (called_lent P AllocId s log db clog frames)

-- the page count
unfoldable pub page_allocated : ℕ → Lent → List ℕ → List ℕ → List ℕ → List ℕ → Beside ℕ
page_allocated P s log db clog frames = handed_out s.head.pages 0 (called_lent P AllocPage s log db clog frames)

-- the page's frame after the call; where it is refused, the bytes that stood there
unfoldable pub page_read : ℕ → ℕ → List ℕ → Lent → List ℕ → List ℕ → List ℕ → List ℕ → Beside (List ℕ)
page_read P p bytes s log db clog frames =
    handed_out (held_page P (done P (Read p) (world_of (store_of s) log db clog frames)) p) bytes (called_lent P (Read p) s log db clog frames)

-- ---- the transaction that is handed out: whether there was one, its id, how many pages it touched, and the array that they go to the front of

pub record Taken : Type 0 where
  pub held : ℕ
  pub id : TransactionId
  pub count : ℕ
  pub out : List ℕ

abbrev pub taken : ℕ → TransactionId → ℕ → List ℕ → Taken
taken held id count out = record { held = held; id = id; count = count; out = out }

-- no transaction, and what is handed out with the array
abbrev pub no_gone : Gone
no_gone = record { held = 0; id = no_id; count = 0 }

abbrev pub taken_of : Gone → List ℕ → Taken
taken_of g out = taken g.held g.id g.count out

-- 13, and nothing changed, where an accepted call has no place for what it hands out
abbrev pub shortened : Bool → Lent → List ℕ → List ℕ → List ℕ → List ℕ → Left → Left
shortened short s log db clog frames l = decided l.number (cond short (leaving 13 s log db clog frames) l) l

-- where it is refused, the array is as it was
unfoldable pub uninstalled : ℕ → List ℕ → Lent → List ℕ → List ℕ → List ℕ → List ℕ → Beside Taken
uninstalled P out s log db clog frames =
    handed_out (taken s.head.held s.head.id s.head.touched (laid_on out (take s.head.touched s.touched))) (taken 0 no_id 0 out)
    (shortened (ltb (length out) s.head.touched) s log db clog frames (called_lent P Uninstall s log db clog frames))
