-- What the two calls give (document 02, Q-9): the number, how many bytes were put out, and every byte of the output.
--   19 an Active slot at or above the mark, 13 an output slice too short: 13 last            write_no
--   20 a 3 in the input, 21 input that is not whole pages, 13: 21 before 20, 13 last         read_no
-- 1 comes before these as in the other clog calls: a buffer over its limit, a length over its buffer or under 8. Pages are no clog, and what is read is a body
-- without a magic in a plain slice: neither has a limit. A refusal changes no byte; else the bytes go over the output's front, and those after them stay.
-- Assumes nothing.
use Rattle.std.specs.Prelude.{ℕ, ◌%◌, List, [], ◌∷◌, Bool, false, cond, not, ◌||◌, length, drop, ltb, eqb}
use Rattle.std.proofs.lemmas.List.Edits.{sets}
use Rattle.fields.specs.Files.{File, file_of, content, room}
use Rattle.fields.specs.Answers.{Outcome, decided}
use Rattle.clog.specs.Slots.{codes}
use Rattle.clog.specs.Calls.{unfit}
use Rattle.xacts.specs.Pages.{status_pages, body_from}

-- the bytes of a clog after its magic
abbrev pub body_of : File → List ℕ
body_of f = drop 8 (content f)

-- one of the slots is c
unfoldable pub has : ℕ → List ℕ → Bool
has c [] = false
has c (x ∷ xs) = eqb x c || has c xs

-- ---- the refusals, 0 where there is none; size is that of the output

unfoldable pub write_no : ℕ → ℕ → File → ℕ → ℕ
write_no Q mark f size =
    cond (unfit 8 (room f) f.len) 1
    (cond (has 1 (drop mark (codes (body_of f)))) 19
    (cond (ltb size (length (status_pages Q mark (body_of f)))) 13 0))

unfoldable pub read_no : ℕ → List ℕ → ℕ → ℕ
read_no Q pages size =
    cond (not (eqb (length pages % Q) 0)) 21
    (cond (has 3 (codes pages)) 20
    (cond (ltb size (length pages)) 13 0))

-- ---- the calls

-- ys over the front of the output
unfoldable pub over : List ℕ → List ℕ → File
over out ys = file_of (sets out 0 ys) (length ys)

unfoldable pub written : ℕ → ℕ → File → List ℕ → Outcome
written Q mark f out = decided (write_no Q mark f (length out)) (file_of out 0) (over out (status_pages Q mark (body_of f)))

unfoldable pub read_back : ℕ → List ℕ → List ℕ → Outcome
read_back Q pages out = decided (read_no Q pages (length out)) (file_of out 0) (over out (body_from pages))
