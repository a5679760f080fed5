-- Every image that a log holds has P bytes. Assumes nothing.
use mathlib.Core.Path.{◌≡◌}
use mathlib.Core.List.{List, [], ◌∷◌}
use Prim.Native.Nat.{ℕ, zero, suc, ◌+◌, ◌<◌}
use native.Mathlib.Nat.{not-suc-le-zero}
use native.Mathlib.Omega.{arith}
use lib.ListN.{length, drop, length-append, length-drop}
use Rattle.wal.specs.Records.{Record, image, begin, commit, abort, checkpoint, body_of, record_of, parse, records_in}
use Rattle.wal.proofs.RecordLaws.{Fronted, at-end, bad, short, whole, front, Tag, tag1, tag2, tag3, tag4, tag5, tag_of}
use Rattle.wal.proofs.ParseLaws.{parse-none, parse-bad, parse-short, parse-front}

abbrev pub Sized : ℕ → Record → Type 0
Sized P (image page bytes) = length bytes ≡ P
Sized P (begin id) = Unit {0}
Sized P (commit id time) = Unit {0}
Sized P (abort id) = Unit {0}
Sized P checkpoint = Unit {0}

abbrev pub AllSized : ℕ → List Record → Type 0
AllSized P [] = Unit {0}
AllSized P (r ∷ rs) = Sized P r × AllSized P rs

sized-by : (P tag : ℕ) (body : List ℕ) → Tag tag → length body ≡ body_of P tag → Sized P (record_of tag body)
unfolding body_of record_of
sized-by P tag body (tag1 e) l =
    let m : length body ≡ 4 + P = rw e at l in
    let k : length (drop 4 body) ≡ P = rw length-drop (omega arith) in
    rw e k
sized-by P tag body (tag2 e) l = rw e tt
sized-by P tag body (tag3 e) l = rw e tt
sized-by P tag body (tag4 e) l = rw e tt
sized-by P tag body (tag5 e) l = rw e tt

sized-turn : (P at : ℕ) (s : List ℕ) → Fronted P s → ((at : ℕ) (r : List ℕ) → length r < length s → AllSized P (records_in (parse P at r).found)) →
    AllSized P (records_in (parse P at s).found)
unfolding records_in
sized-turn P at s (at-end e) go = rw (e, parse-none) tt
sized-turn P at s (bad e) go = rw (parse-bad P at s e) tt
sized-turn P at s (short m h e) go = rw (parse-short P at m s e) tt
sized-turn P at s (whole tag body rest l h e f) go =
    let n : length s ≡ suc (length body + length rest) = rw (f, length-append) in
    rw (parse-front P at tag body rest s l h e f) (sized-by P tag body (tag_of tag l h) e, go (at + suc (length body)) rest (omega arith))

sized-fuel : (P k at : ℕ) (s : List ℕ) → length s < k → AllSized P (records_in (parse P at s).found)
sized-fuel P zero at s h = absurd (not-suc-le-zero h)
sized-fuel P (suc k) at s h = sized-turn P at s (front P s) (λ at r l. sized-fuel P k at r (omega arith))

pub all-sized : (P at : ℕ) (s : List ℕ) → AllSized P (records_in (parse P at s).found)
all-sized P at s = sized-fuel P (suc (length s)) at s (omega arith)
