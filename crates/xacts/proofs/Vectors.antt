-- Worked examples of the definitions, at pages of 4 bytes; the output is filled with 9. Assumes nothing.
use mathlib.Core.Path.{◌≡◌, refl}
use Prim.Native.Nat.{ℕ, ◌+◌}
use mathlib.Core.List.{List, [], ◌∷◌, ◌++◌, map}
use lib.ListN.{length, replicate}
use Rattle.std.specs.Prelude.{Ok, Err}
use Rattle.fields.specs.declared.refusal.Refusal.{Refusal}
use Rattle.fields.specs.declared.refusal.Refusal.TheVariants.{Unfit, SliceShort, ActiveAbove, SubCommitted, PartOfPage}
use Rattle.fields.specs.Files as files
use Rattle.fields.specs.Files.{File, file_of}
use Rattle.fields.specs.Answers.{Outcome, outcome, decided}
use Rattle.clog.specs.Slots.{bits_of, codes}
use Rattle.clog.specs.Calls.{unfit}
use Rattle.xacts.specs.Pages.{written_as, read_as, remade, whole_pages, status_pages, body_from}
use Rattle.xacts.specs.Calls.{has, write_no, read_no, over, written, read_back}

pub record Case : Type 0 where
  pub gives : Outcome
  pub wants : Outcome

-- a clog of any eight bytes and a body
abbrev clog : List ℕ → File
clog body = file_of (replicate 8 0 ++ body) (8 + length body)

abbrev writes : ℕ → List ℕ → ℕ → Outcome
writes mark body n = written 4 mark (clog body) (replicate n 9)

abbrev reads : List ℕ → ℕ → Outcome
reads pages n = read_back 4 pages (replicate n 9)

abbrev puts : Outcome → ℕ → List ℕ → Case
puts o n bytes = record { gives = o; wants = outcome (Ok n) bytes }

abbrev refuses : Outcome → Refusal → ℕ → Case
refuses o r n = record { gives = o; wants = outcome (Err r) (replicate n 9) }

abbrev cases : List Case
cases =
    -- id 1 Committed, id 2 Aborted; the same with both below the mark but one, which has no status; bytes after the page stay
    puts (writes 0 (0x38 ∷ []) 4) 4 (0x24 ∷ 0 ∷ 0 ∷ 0 ∷ [])
    ∷ puts (writes 2 (0x38 ∷ []) 5) 4 (0x25 ∷ 0 ∷ 0 ∷ 0 ∷ 9 ∷ [])
    -- four bytes take one page, five take two, none take none
    ∷ puts (writes 0 (2 ∷ 0 ∷ 0 ∷ 3 ∷ []) 4) 4 (1 ∷ 0 ∷ 0 ∷ 2 ∷ [])
    ∷ puts (writes 0 (2 ∷ 0 ∷ 0 ∷ 0 ∷ 3 ∷ []) 8) 8 (1 ∷ 0 ∷ 0 ∷ 0 ∷ 2 ∷ 0 ∷ 0 ∷ 0 ∷ [])
    ∷ puts (writes 9 [] 0) 0 []
    -- id 3 Active, at the mark and below it; a mark past the body
    ∷ refuses (writes 3 (0x40 ∷ []) 4) ActiveAbove 4
    ∷ puts (writes 4 (0x40 ∷ []) 4) 4 (0x55 ∷ 0 ∷ 0 ∷ 0 ∷ [])
    ∷ puts (writes 0xFFFF_FFFF_FFFF_FFFF (0x40 ∷ []) 4) 4 (0x55 ∷ 0 ∷ 0 ∷ 0 ∷ [])
    -- no room; 19 before 13; a clog under 8 bytes, before both
    ∷ refuses (writes 0 (0x38 ∷ []) 3) SliceShort 3
    ∷ refuses (writes 3 (0x40 ∷ []) 3) ActiveAbove 3
    ∷ refuses (written 4 0 (file_of (0x40 ∷ 0x40 ∷ []) 2) []) Unfit 0
    -- read back; sub-committed; not whole pages, though there is a 3; a 3, though there is no room; no room; no page
    ∷ puts (reads (0x24 ∷ 0 ∷ 0 ∷ 0 ∷ []) 5) 4 (0x38 ∷ 0 ∷ 0 ∷ 0 ∷ 9 ∷ [])
    ∷ refuses (reads (0 ∷ 0 ∷ 0 ∷ 0xC0 ∷ []) 4) SubCommitted 4
    ∷ refuses (reads (3 ∷ 0 ∷ 0 ∷ []) 4) PartOfPage 4
    ∷ refuses (reads (3 ∷ 0 ∷ 0 ∷ 0 ∷ []) 1) SubCommitted 1
    ∷ refuses (reads (2 ∷ 0 ∷ 0 ∷ 0 ∷ []) 3) SliceShort 3
    ∷ puts (reads [] 1) 0 (9 ∷ [])
    ∷ []

pub vectors : map (λ (c : Case). c.gives) cases ≡ map (λ (c : Case). c.wants) cases
unfolding written read_back write_no read_no over decided status_pages body_from whole_pages remade written_as read_as has codes bits_of unfit files.unfit
vectors = refl
