-- What a call hands out, with the head that is read from words and written as words; and each way out of handing out the table. Assumes nothing.
use Prim.Native.Nat.{ℕ, zero, suc, ◌≤◌, ◌<◌}
use mathlib.Core.Path.{◌≡◌, refl, ap, ◌∙◌}
use mathlib.Core.List.{List}
use mathlib.Core.Bool.{cond}
use lib.ListN.{length, take}
use lib.Dec.{ltb}
use borrow.Author.Tests.{lt-ltb, le-ltb}
use Rattle.sorted.specs.Sorted.{laid_on}
use Rattle.world.specs.Run.{decided}
use Rattle.lent.specs.declared.Head.{Head}
use Rattle.lent.specs.Lent.{Lent, leaving, lent}
use Rattle.still.specs.Still.{Beside, beside}
use Rattle.quiet.specs.Entries.{EntryCount, EntryTold}
use Rattle.still.specs.Entries.{entries_counted}
use Rattle.words.specs.Values.{said}
use Rattle.words.specs.Words.{head_in, words_of, standing, standing_of}
use Rattle.hostpages.specs.Hosted.{hosted, hosted_by, entry_values, entry_said, TableTold, table_told, hosted_table}

-- f is what the call hands out and leaves for a head; m is the number that the host gets
pub stood-beside : {A B : Type 0} (to : A → B) (f : Head → Beside A) (h₀ h : Head) (ws₀ ws : List ℕ) (a : A) (b : B) (n m : ℕ) (rows : List (List ℕ))
    (resident touched log db clog frames : List ℕ) → h₀ ≡ head_in ws₀ → m ≡ n → ws ≡ words_of h → b ≡ to a →
    beside a (leaving n (lent h rows resident touched) log db clog frames) ≡ f h₀ →
    hosted b (standing m ws rows resident touched log db clog frames) ≡ hosted_by to (f (head_in ws₀))
unfolding hosted_by standing_of
stood-beside to f h₀ h ws₀ ws a b n m rows resident touched log db clog frames e k w t q = rw (k, w, t) (ap (hosted_by to) (q ∙ ap f e))

-- ---- the table

pub counted-at : (f : Head → EntryCount) (h₀ h : Head) (r : EntryCount) → h₀ ≡ h → r ≡ f h₀ → r ≡ f h
counted-at f h₀ h r e p = p ∙ ap f e

pub entry_at : (f : Head → EntryTold) (h₀ h : Head) (t : EntryTold) (v : List ℕ) → h₀ ≡ h → t ≡ f h₀ → v ≡ entry_values t.entries →
    said t.number v ≡ entry_said (f h)
unfolding entry_said
entry_at f h₀ h t v e p q = rw q (ap entry_said (p ∙ ap f e))

-- by the number of the count, and the count
abbrev by_count : List (List ℕ) → List (List ℕ) → ℕ → ℕ → TableTold
by_count out rows n k =
    let m = decided n (cond (ltb (length out) k) 13 0) n in
    table_told m (decided m k 0) (decided m (laid_on out (take k rows)) out)

module _ (P : ℕ) (out : List (List ℕ)) (s : Lent) (log db clog frames : List ℕ) (c : EntryCount) (e : c ≡ entries_counted P s log db clog frames) where
  by_count_lem : by_count out s.rows c.number c.entries ≡ hosted_table P out s log db clog frames
  unfolding hosted_table
  by_count_lem = ap (λ (k : EntryCount). by_count out s.rows k.number k.entries) e

  pub table-no : (c.number ≡ 0 → ⊥) → table_told c.number 0 out ≡ hosted_table P out s log db clog frames
  table-no h = go c.number h ∙ by_count_lem
    where
      go : (n : ℕ) → (n ≡ 0 → ⊥) → table_told n 0 out ≡ by_count out s.rows n c.entries
      go zero h = absurd (h refl)
      go (suc n) h = refl

  pub table-short : c.number ≡ 0 → length out < c.entries → table_told 13 0 out ≡ hosted_table P out s log db clog frames
  table-short z h = rw (z, lt-ltb (length out) c.entries h) at by_count_lem

  pub table-all : c.number ≡ 0 → c.entries ≤ length out → (rows : List (List ℕ)) → rows ≡ laid_on out (take c.entries s.rows) →
      table_told 0 c.entries rows ≡ hosted_table P out s log db clog frames
  table-all z h rows q = rw q (rw (z, le-ltb (length out) c.entries h) at by_count_lem)
