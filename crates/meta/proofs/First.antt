-- What is read of page 0 lies in its first 36 bytes: databases that agree there, each empty or with a whole page 0, have the same meta page or none. P is the page
-- size. Assumes nothing.
use mathlib.Core.Path.{◌≡◌, refl, sym, ◌∙◌}
use mathlib.Core.Logic.{◌⊎◌, inl, inr}
use mathlib.Core.List.{List, [], ◌∷◌}
use mathlib.Core.Bool.{Bool, true, false, ◌&&◌}
use Prim.Native.Nat.{ℕ, ◌+◌, ◌≤◌, ◌<◌}
use native.Mathlib.Omega.{arith}
use lib.Dec.{leb}
use lib.ListN.{length, get_or, get_or-eq_default}
use borrow.Author.Tests.{ne_eqb}
use Rattle.fields.specs.Bytes.{starts}
use Rattle.fields.proofs.ByteLaws.{field-same}
use Rattle.fields.proofs.Stored.{starts-same}
use Rattle.meta.specs.Page.{meta_magic, has_meta, stored_next, stored_time, stored_mark, version}
use Rattle.meta.proofs.Laws.{magic-length, meta-long}

pub record SameMeta (P : ℕ) (xs ys : List ℕ) : Type 0 where
  pub has : has_meta P xs ≡ has_meta P ys
  pub next : stored_next xs ≡ stored_next ys
  pub time : stored_time xs ≡ stored_time ys
  pub mark : stored_mark xs ≡ stored_mark ys
  pub version : version xs ≡ version ys

-- a database that is empty or has a whole page 0
abbrev pub Whole : ℕ → ℕ → Type 0
Whole P len = (len ≡ 0) ⊎ (P ≤ len)

-- a page that begins with a zero has not the magic
zero-first : (P : ℕ) (xs : List ℕ) → get_or xs 0 0 ≡ 0 → has_meta P xs ≡ false
unfolding has_meta starts meta_magic
zero-first P [] e = go (leb P (length {A = ℕ} []))
  where
    go : (x : Bool) → (x && false) ≡ false
    go true = refl
    go false = refl
zero-first P (x ∷ xs) e = rw (ne_eqb x 65 (λ h. omega (arith, e))) (go (leb P (length (x ∷ xs))))
  where
    go : (x : Bool) → (x && false) ≡ false
    go true = refl
    go false = refl

pub meta-same : (P : ℕ) → 36 ≤ P → (xs ys : List ℕ) → Whole P (length xs) → Whole P (length ys) → ((i : ℕ) → i < 36 → get_or xs i 0 ≡ get_or ys i 0) →
    SameMeta P xs ys
meta-same P big xs ys a b e =
    record {
      has = go a b;
      next = field-same 8 8 xs ys (λ j l. e (8 + j) (omega arith));
      time = field-same 8 16 xs ys (λ j l. e (16 + j) (omega arith));
      mark = field-same 8 24 xs ys (λ j l. e (24 + j) (omega arith));
      version = field-same 4 32 xs ys (λ j l. e (32 + j) (omega arith));
    }
  where
    none : (zs : List ℕ) → length zs ≡ 0 → get_or zs 0 0 ≡ 0
    none zs h = get_or-eq_default zs 0 (omega arith)

    go : Whole P (length xs) → Whole P (length ys) → has_meta P xs ≡ has_meta P ys
    go (inl h) k = zero-first P xs (none xs h) ∙ sym (zero-first P ys (sym (e 0 (omega arith)) ∙ none xs h))
    go (inr h) (inl k) = zero-first P xs (e 0 (omega arith) ∙ none ys k) ∙ sym (zero-first P ys (none ys k))
    go (inr h) (inr k) =
        meta-long P xs h
        ∙ starts-same meta_magic xs ys (omega (arith, magic-length)) (omega (arith, magic-length)) (λ i l. e i (omega (arith, magic-length)))
        ∙ sym (meta-long P ys k)
