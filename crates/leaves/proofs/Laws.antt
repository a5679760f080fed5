-- Laws of what a host gets: a call on one file, whatever it is, told and left; a load. Assumes nothing.
use mathlib.Core.Path.{◌≡◌, ap, ◌∙◌}
use mathlib.Core.List.{List, [], ◌∷◌, map}
use mathlib.Core.Bool.{cond}
use Prim.Native.Nat.{ℕ, suc, ◌≤◌, ◌<◌}
use borrow.Author.Tests.{lt-ltb, le-ltb}
use lib.ListN.{length}
use Rattle.std.specs.Prelude.{Result, Err}
use Rattle.fields.specs.declared.refusal.Refusal.{Refusal}
use Rattle.fields.specs.Refusals.{number_of}
use Rattle.fields.specs.Files.{File, content, room}
use Rattle.fields.specs.Answers.{Told, told, Outcome, outcome, decided}
use Rattle.table.specs.declared.Status.{Status}
use Rattle.table.specs.Entries.{empty_table}
use Rattle.table.proofs.Facts.{list-laid}
use Rattle.clog.specs.Slots.{code_of, entries_in, settled}
use Rattle.clog.specs.Calls.{unfit, load_no, table_by, load_decided, loaded}
use Rattle.sorted.specs.Sorted.{laid_on}
use Rattle.rows.specs.Rows.{status_in, row_of}
use Rattle.words.specs.Values.{said, four}
use Rattle.leaves.specs.Leaves.{said_by, left, left_by, by_tag, handed, handed_by}

-- a call on one file: what it answers is told, and its bytes are left
pub answer-left : (o : Outcome) (a : Result ℕ Refusal) (n : ℕ) (v b : List ℕ) → outcome a b ≡ o → said n v ≡ said_by (told a) → left n v b ≡ left_by o
unfolding left_by
answer-left o a n v b p q =
    let s : left n v b ≡ left_by (outcome a b) = ap (λ (t : Told). record { told = t; bytes = b }) q in
    s ∙ ap left_by p

-- a status goes to a call by its tag, or the tag is none
module _ (least : ℕ) (f : File) (call : ℕ → Outcome) (tag time : ℕ) where
  pub tag-none : (r : Refusal) (n : ℕ) (v : List ℕ) → 2 < tag → number_of r ≡ cond (unfit least (room f) f.len) 1 14 → said n v ≡ said_by (told (Err r)) →
      left n v f.bytes ≡ left_by (by_tag least f call tag time)
  unfolding left_by by_tag
  tag-none r n v h e q = rw (lt-ltb 2 tag h, ← e) (ap (λ (t : Told). record { told = t; bytes = f.bytes }) q)

  pub tag-recorded : (s : Status) (a : Result ℕ Refusal) (n : ℕ) (v b : List ℕ) → tag ≤ 2 → s ≡ status_in tag time → outcome a b ≡ call (code_of s)
      → said n v ≡ said_by (told a) → left n v b ≡ left_by (by_tag least f call tag time)
  unfolding by_tag
  tag-recorded s a n v b h e p q = answer-left (by_tag least f call tag time) a n v b (p ∙ rw (le-ltb 2 tag h, e)) q

-- What a load hands out, by its number: a refused one changes no byte and tells zeros; an accepted one lays the entries of the slots that are not 0 and tells
-- the length and how many they are.
module _ (old : List (List ℕ)) (f : File) where
  pub load-refused : (n : ℕ) → load_no 256 8 f ≡ suc n → handed_by old (loaded 256 8 0 f) ≡ handed (suc n) (0 ∷ 0 ∷ 0 ∷ 0 ∷ []) f.bytes old
  unfolding handed_by four loaded load_decided decided table_by empty_table
  load-refused n e = rw e

  pub load-accepted : load_no 256 8 f ≡ 0 → let l = entries_in 8 0 (content f) in
      handed_by old (loaded 256 8 0 f) ≡ handed 0 (f.len ∷ length l ∷ 0 ∷ 0 ∷ []) (settled 8 f).bytes (laid_on old (map row_of l))
  unfolding handed_by four loaded load_decided decided table_by settled
  load-accepted e = rw (e, list-laid (empty_table 256) (entries_in 8 0 (content f)))
