-- What a host gets of a call that hands something out: the value, and beside it what the call leaves, as in crate words. P is the page size. Assumes nothing.
use Rattle.std.specs.Prelude.{ℕ, List, [], ◌∷◌, cond, length, take, ltb}
use Rattle.fields.specs.declared.TransactionId.{TransactionId}
use Rattle.fields.specs.Answers.{Told}
use Rattle.sorted.specs.Sorted.{laid_on}
use Rattle.table.specs.declared.Entry.{Entry}
use Rattle.rows.specs.Rows.{row_of}
use Rattle.world.specs.Run.{decided}
use Rattle.lent.specs.Lent.{Lent}
use Rattle.still.specs.Still.{Beside, Taken}
use Rattle.quiet.specs.Entries.{EntryTold}
use Rattle.still.specs.Entries.{entries_counted}
use Rattle.words.specs.Values.{said}
use Rattle.words.specs.Words.{Standing, standing_of}

pub record Hosted (A : Type 0) : Type 0 where
  pub value : A
  pub left : Standing

abbrev pub hosted : {A : Type 0} → A → Standing → Hosted A
hosted a s = record { value = a; left = s }

-- `to` is how a value goes to the host
unfoldable pub hosted_by : {A B : Type 0} → (A → B) → Beside A → Hosted B
hosted_by to b = hosted (to b.value) (standing_of b.left)

abbrev pub itself : {A : Type 0} → A → A
itself a = a

abbrev pub id_told : TransactionId → ℕ
id_told t = t.0

-- ---- a transaction that is handed out: four values, and every place of the array that its pages go to

pub record Gone : Type 0 where
  pub values : List ℕ
  pub out : List ℕ

abbrev pub gone : List ℕ → List ℕ → Gone
gone values out = record { values = values; out = out }

abbrev pub gone_told : Taken → Gone
gone_told t = gone (t.held ∷ t.id.0 ∷ t.count ∷ 0 ∷ []) t.out

-- ---- the table

-- 1 and the row of the entry that is told, or zeros
abbrev pub entry_values : List Entry → List ℕ
entry_values [] = 0 ∷ 0 ∷ 0 ∷ 0 ∷ []
entry_values (e ∷ es) = 1 ∷ row_of e

unfoldable pub entry_said : EntryTold → Told
entry_said t = said t.number (entry_values t.entries)

-- the answer, how many entries, and every place of the rows that get them
pub record TableTold : Type 0 where
  pub number : ℕ
  pub entries : ℕ
  pub out : List (List ℕ)

abbrev pub table_told : ℕ → ℕ → List (List ℕ) → TableTold
table_told n entries out = record { number = n; entries = entries; out = out }

-- 13 after 1 and 14, where out has too few places
unfoldable pub hosted_table : ℕ → List (List ℕ) → Lent → List ℕ → List ℕ → List ℕ → List ℕ → TableTold
hosted_table P out s log db clog frames =
    let c = entries_counted P s log db clog frames in
    let n = decided c.number (cond (ltb (length out) c.entries) 13 0) c.number in
    table_told n (decided n c.entries 0) (decided n (laid_on out (take c.entries s.rows)) out)
