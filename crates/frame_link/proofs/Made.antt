-- The program that was made, and what was tested of it.
use Rattle.std.proofs.Common.{◌≡◌, ◌≢◌, ℕ, zero, suc, ◌+◌, ◌-◌, ◌<◌, ◌≤◌, ◌==◌, if◌then◌else◌, Bool, true, false, List, [], ◌∷◌, map, length, get_or, Result, refl, sym, ap, subst, ◌∙◌, arith}
use Rattle.std.specs.Prelude.{All, AllPairs, IfOk}
use Rattle.std.proofs.lemmas.Bool.Decides.{nat_tests}
use Rattle.std.proofs.lemmas.List.{length-map}
use Rattle.rtl_tree.specs.declared.memory.NoMemory.{NoMemory}
use Rattle.rtl_value.specs.declared.state.LabelAt.{LabelAt}
use Rattle.md_rows.specs.declared.description.RawDescription.{RawDescription}
use Rattle.md_rows.specs.declared.instance.Instance.{Instance}
use Rattle.md_check.proofs.Rows.{ok_by}
use Rattle.md_shapes.specs.Shapes.{Frame}
use Rattle.md_instances.specs.Instances.{IsOfDescription}
use Rattle.temp_machine.specs.Whole.{IsFramed}
use Rattle.temp_code.specs.declared.code.Code.{Code}
use Rattle.temp_code.specs.declared.code.Unit.{Unit as Program}
use Rattle.temp_code.specs.Routines.{block_of, routine_of, routine_in}
use Rattle.temp_shapes.specs.declared.rows.ShapeRows.{ShapeRows}
use Rattle.temp_shapes.specs.Rows.{AreShapeRows}
use Rattle.temp_laws.specs.Targets.{target_of}
use Rattle.asm_program.specs.Programs.{Assembled, IsAssembled}
use Rattle.asm_program.specs.Rules.{instruction_limit, name_limit}
use Rattle.asm_print.specs.Printable.{IsProgramFor, labelled}
use Rattle.rtl_machine.specs.Loading.{moves_of}
use Rattle.link_code.specs.Linked.{program, labels_of}
use Rattle.link_lines.specs.Glue.{job_of}
use Rattle.frame_link.specs.declared.standing.Standing.{Standing}
use Rattle.frame_link.specs.Linked.{functions_of, IsLinkableUnit, IsLinkedBy}
use Rattle.frame_link.specs.Tested.{HoldsLabels, Differ, IsPlaced, IsLabel, IsAddressIn, AreApart, IsTested, assembled}
use Rattle.frame_link.proofs.Labels.{stands}

-- each code's routine is that of its function

same : (m : ℕ) → (m == m) ≡ true
same m = grind (arith, nat_tests)

not_same : (m n : ℕ) → m ≢ n → (m == n) ≡ false
not_same m n h = cases (m == n) refl
  where
    equal : (m == n) ≡ true → m ≡ n
    equal e = grind (arith, nat_tests, e)

    cases : (b : Bool) → (m == n) ≡ b → b ≡ false
    cases true e = absurd (h (equal e))
    cases false e = refl

routine_there : (cs : List Code) (k : ℕ) (c : Code) → AllPairs (λ b c. b.function ≢ c.function) cs → k < length cs
    → routine_in cs (get_or cs k c).function ≡ routine_of (get_or cs k c)
routine_there [] k c h l = absurd (omega (arith, l))
routine_there (x ∷ cs) zero c h l = ap (λ (b : Bool). if b then routine_of x else routine_in cs x.function) (same x.function)
routine_there (x ∷ cs) (suc k) c h l =
    ap (λ (b : Bool). if b then routine_of x else routine_in cs (get_or cs k c).function)
    (not_same x.function (get_or cs k c).function (h 0 (suc k) c (omega arith) l))
    ∙ routine_there cs k c (λ i j d m n. h (suc i) (suc j) d (omega (arith, m)) (omega (arith, n))) (omega (arith, l))

module _ (d : RawDescription) (frame : Frame) (u : Program) (h : IsLinkableUnit d frame u) where
  pub are_framed : All (λ c. IsFramed (target_of d frame []) (routine_of c)) u.codes
  are_framed k c l =
      let there = routine_there u.codes k c h.different l in
      subst (IsFramed (target_of d frame [])) there
      (h.image.routines (get_or u.codes k c).function
      (subst (λ r. 0 < length r.blocks) (sym there) (has_some (length (get_or u.codes k c).blocks) _ (length-map (get_or u.codes k c).blocks block_of) (h.has_blocks k c l)))).framed
    where
      has_some : (m n : ℕ) → n ≡ m → 0 < m → 0 < n
      has_some m n e l = omega (arith, e, l)

-- what was tested, part by part
module _ (d : RawDescription) (t : Standing) (u : Program) (lines ls : List Instance) (labels ns : List LabelAt) (bytes symbols : List ℕ)
    (lines_are : ls ≡ lines) (labels_are : ns ≡ labels) (bytes_are : bytes ≡ u.bytes) (symbols_are : symbols ≡ u.symbols) where
  pub is_tested : All (λ i. All (IsPlaced u.names t) i.binding) ls → All (IsLabel u.names (length ls)) ns → All (IsAddressIn d bytes) symbols
      → AreApart u.names.objects u.names.functions → length ls ≤ instruction_limit d.word → length u.names.objects + length (labelled ns) ≤ name_limit
      → IsTested d t (assembled lines labels u)
  is_tested a b c e f g = record {
    values = subst (All (λ i. All (IsPlaced u.names t) i.binding)) lines_are a;
    labels = subst (λ (xs : List Instance). All (IsLabel u.names (length xs)) labels) lines_are (subst (All (IsLabel u.names (length ls))) labels_are b);
    symbols = subst (λ (xs : List ℕ). All (IsAddressIn d xs) u.symbols) bytes_are (subst (All (IsAddressIn d bytes)) symbols_are c);
    instructions = subst (λ (xs : List Instance). length xs ≤ instruction_limit d.word) lines_are f;
    names = subst (λ (xs : List LabelAt). length u.names.objects + length (labelled xs) ≤ name_limit) labels_are g;
    apart = e;
  }

-- what was tested makes it a program
module _ (d : RawDescription) (t : Standing) (p : Assembled) (h : IsTested d t p) where
  pub is_assembled : HoldsLabels p.labels t → AllPairs Differ p.labels → length p.symbols ≡ length p.names.objects → IsAssembled p
  is_assembled held differ addresses = record {
    named = λ i x l j y m. (h.values i x l j y m).named;
    standing = λ i x l j y m. stands p.labels t _ held (h.values i x l j y m).held;
    addresses = addresses;
    apart = h.apart;
    different = differ;
    within = λ i x l. (h.labels i x l).within;
    functions = λ i x l. (h.labels i x l).function;
  }

  pub is_printable : All (IsOfDescription d) p.lines → d.base + length p.bytes + d.stack ≤ d.memory → All (λ b. b < 256) p.bytes → IsProgramFor d p
  is_printable rows room bytes = record {
    lines = λ i x l. record { row = (rows i x l).0; is_instance = (rows i x l).1; numbers = λ j y m. (h.values i x l j y m).number };
    addresses = λ i x l. h.symbols i x l p refl;
    instructions = h.instructions;
    statics = above (d.base + length p.bytes) d.stack d.memory room;
    names = h.names;
    blocks = λ i x l. (h.labels i x l).number;
    bytes = bytes;
  }
    where
      above : (a s m : ℕ) → a + s ≤ m → a ≤ m - s
      above a s m l = omega (arith, l)

-- the answer
module _ (d : RawDescription) (t : ShapeRows) (u : Program) (lines : List Instance) (labels : List LabelAt) (r : Result Assembled NoMemory)
    (made : IfOk r (λ p. p ≡ assembled lines labels u)) where
  pub is_linked : AreShapeRows d t → map (moves_of d) lines ≡ program (job_of d t u) → labels ≡ labels_of (job_of d t u) (functions_of u.codes) → IfOk r (IsLinkedBy d u)
  is_linked table e f =
      ok_by r (λ p. p ≡ assembled lines labels u) (IsLinkedBy d u)
      (λ p q. subst (IsLinkedBy d u) (sym q) (record { rows = t; table = table; lines = e; labels = f; symbols = refl; bytes = refl; names = refl })) made

  pub prints : IsProgramFor d (assembled lines labels u) → IfOk r (IsProgramFor d)
  prints h = ok_by r (λ p. p ≡ assembled lines labels u) (IsProgramFor d) (λ p q. subst (IsProgramFor d) (sym q) h) made
