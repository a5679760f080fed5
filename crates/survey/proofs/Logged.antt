-- The rows that a pass over a log sets are the log's table, or more than 256 ids and 7. Assumes nothing.
use Prim.Native.Nat.{ℕ, ◌≤◌, ◌<◌}
use native.Mathlib.Omega.{arith}
use mathlib.Core.Path.{◌≡◌, refl, sym, ap, subst, ◌∙◌}
use mathlib.Core.List.{List, []}
use lib.ListN.{length}
use Rattle.fields.specs.Files.{File}
use Rattle.fields.proofs.AnswerLaws.{number_in-same}
use Rattle.table.specs.declared.Entry.{Entry}
use Rattle.table.specs.Entries.{id_of, insert_all, settled_entry, active_to_aborted}
use Rattle.rows.specs.Rows.{rowed_as, rowed, set_all}
use Rattle.rows.proofs.Several.{insert-map-all, holding, all-fits, all-full}
use Rattle.rows.proofs.Answers.{rowed-same}
use Rattle.opening.specs.Opening.{records, statuses, log_table}
use Rattle.survey.specs.declared.Found.{Found}
use Rattle.survey.specs.Survey.{Survey, survey_of}

module _ (P : ℕ) (log : File) (rows : List (List ℕ)) where
  table_is : log_table P log ≡ insert_all (active_to_aborted (statuses (records P log))) []
  unfolding log_table
  table_is = insert-map-all id_of id_of settled_entry (λ x. refl) (statuses (records P log)) []

  pub logged-fits : length (log_table P log) ≤ 256 → set_all 256 (rowed_as 0 0 rows) (active_to_aborted (statuses (records P log))) ≡ holding rows (log_table P log)
  logged-fits h =
      all-fits 256 rows (active_to_aborted (statuses (records P log))) [] (subst (λ (l : List Entry). length l ≤ 256) table_is h) ∙ ap (holding rows) (sym table_is)

  pub logged-full : 256 < length (log_table P log) → (set_all 256 (rowed_as 0 0 rows) (active_to_aborted (statuses (records P log)))).number ≡ 7
  logged-full h =
      all-full 256 rows (active_to_aborted (statuses (records P log))) [] (omega arith) (subst (λ (l : List Entry). 256 < length l) table_is h)

-- what is told of an answer and the rows says what both are
pub survey-same : (r s : Found) (a b : List (List ℕ)) (o : Survey) → survey_of r a ≡ o → survey_of s b ≡ o → (r ≡ s) × (a ≡ b)
survey-same r s a b o e h =
    let g = e ∙ sym h in
    let i : r.images ≡ s.images = ap (λ (x : Survey). x.images) g in
    let d : r.ids ≡ s.ids = ap (λ (x : Survey). x.ids) g in
    let k = rowed-same r.held s.held a b (rowed s.held b) (ap (λ (x : Survey). x.held) g) refl in
    let n = number_in-same r.ending s.ending (ap (λ (x : Survey). x.ending) g) in
    (rw (i, d, k.0, n), k.1)
