-- Codes that are written one behind the other, behind the start.
use Rattle.std.proofs.Common.{◌≡◌, ℕ, get_or, ◌+◌, ◌<◌, List, [], ◌++◌, map, drop, length, ap, subst, ◌∙◌, append_assoc}
use Rattle.std.specs.Prelude.{All}
use Rattle.std.proofs.lemmas.List.Elements.{All-nil}
use Rattle.rtl_tree.specs.Moves.{Move}
use Rattle.rtl_value.specs.declared.state.LabelAt.{LabelAt}
use Rattle.md_rows.specs.declared.description.RawDescription.{RawDescription}
use Rattle.md_rows.specs.declared.instance.Instance.{Instance}
use Rattle.md_instances.specs.Instances.{IsOfDescription}
use Rattle.temp_code.specs.declared.code.Code.{Code}
use Rattle.temp_code.specs.declared.code.Unit.{Unit as Program}
use Rattle.temp_code.specs.Routines.{main_name, number_in}
use Rattle.temp_shapes.specs.declared.rows.ShapeRows.{ShapeRows}
use Rattle.rtl_machine.specs.Loading.{moves_of}
use Rattle.link_code.specs.Linked.{program, labels_of}
use Rattle.link_lines.specs.Glue.{job_of}
use Rattle.link_lines.specs.Lines.{Writes, start_of, lines_of_code, labels_of_code, lines_of_codes, labels_of_codes}
use Rattle.link_lines.specs.Laws.{AreLinked}
use Rattle.link_lines.proofs.Writing.{drop_at, grown}

-- one more code
module _ (d : RawDescription) (t : ShapeRows) (cs : List Code) (i : ℕ) (x : Code) (within : i < length cs) where
  pub code_lines_next : (now one : List Instance) (whole : List (List Move)) → Writes d now one (lines_of_code d t (get_or cs i x))
      → map (moves_of d) now ++ lines_of_codes d t (drop i cs) ≡ whole → map (moves_of d) one ++ lines_of_codes d t (drop (i + 1) cs) ≡ whole
  code_lines_next now one whole w h =
      ap (λ (xs : List (List Move)). xs ++ lines_of_codes d t (drop (i + 1) cs)) w.moves
      ∙ (append_assoc (map (moves_of d) now) (lines_of_code d t (get_or cs i x)) (lines_of_codes d t (drop (i + 1) cs))
      ∙ subst (λ (ys : List Code). map (moves_of d) now ++ lines_of_codes d t ys ≡ whole) (drop_at cs i x within) h)

  pub code_labels_next : (now one : List Instance) (labels more whole : List LabelAt) → Writes d now one (lines_of_code d t (get_or cs i x))
      → more ≡ labels ++ labels_of_code d t (length now) (get_or cs i x)
      → labels ++ labels_of_codes d t (length now) (drop i cs) ≡ whole → more ++ labels_of_codes d t (length one) (drop (i + 1) cs) ≡ whole
  code_labels_next now one labels more whole w e h =
      ap (λ (xs : List LabelAt). xs ++ labels_of_codes d t (length one) (drop (i + 1) cs)) e
      ∙ (append_assoc labels (labels_of_code d t (length now) (get_or cs i x)) (labels_of_codes d t (length one) (drop (i + 1) cs))
      ∙ (ap (λ (n : ℕ). labels ++ (labels_of_code d t (length now) (get_or cs i x) ++ labels_of_codes d t n (drop (i + 1) cs)))
      (grown d now one (lines_of_code d t (get_or cs i x)) w)
      ∙ subst (λ (ys : List Code). labels ++ labels_of_codes d t (length now) ys ≡ whole) (drop_at cs i x within) h))

-- the codes of a unit behind the start
module _ (d : RawDescription) (t : ShapeRows) (u : Program) (h : AreLinked d t u) (main : ℕ) (is_main : main ≡ number_in u.names.functions main_name) (a : List Instance)
    (start : Writes d [] a (start_of d t main)) where
  started : length a ≡ 3
  started = grown d [] a (start_of d t main) start

  pub lines_made : (b : List Instance) → Writes d a b (lines_of_codes d t u.codes) → map (moves_of d) b ≡ program (job_of d t u)
  lines_made b e =
      e.moves ∙ (ap (λ (xs : List (List Move)). xs ++ lines_of_codes d t u.codes) start.moves
      ∙ (ap (λ (n : ℕ). start_of d t n ++ lines_of_codes d t u.codes) is_main ∙ h.lines))

  pub labels_made : (ls : List LabelAt) → ls ≡ [] ++ labels_of_codes d t (length a) u.codes → ls ≡ labels_of (job_of d t u) (map (λ c. c.function) u.codes)
  labels_made ls e = e ∙ (ap (λ (n : ℕ). labels_of_codes d t n u.codes) started ∙ h.labels)

  pub rows_made : (b : List Instance) → Writes d a b (lines_of_codes d t u.codes) → All (IsOfDescription d) b
  rows_made b e = e.rows (start.rows (All-nil (IsOfDescription d)))
