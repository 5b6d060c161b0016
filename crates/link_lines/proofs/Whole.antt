-- Codes that are written one behind the other are the linked program: each function's routine is that of its code, and stands behind those
-- of the codes before it.
use Rattle.std.proofs.Common.{◌≡◌, ◌≢◌, ℕ, suc, ◌+◌, ◌<◌, ◌==◌, if◌then◌else◌, Bool, true, false, List, [], ◌∷◌, ◌++◌, map, length, refl, sym, ap, ◌∙◌, arith}
use Rattle.std.specs.Prelude.{AllPairs, slice_index_or}
use Rattle.std.proofs.lemmas.Bool.Decides.{nat_tests}
use Rattle.rtl_tree.specs.Moves.{Move}
use Rattle.rtl_tree.specs.declared.cells.Lab.{Lab}
use Rattle.rtl_tree.specs.declared.cells.Lab.TheVariants.{Block as BlockLabel, Function}
use Rattle.rtl_value.specs.declared.state.LabelAt.{LabelAt}
use Rattle.md_rows.specs.declared.description.RawDescription.{RawDescription}
use Rattle.temp_machine.specs.Routines.{BasicBlock, Routine}
use Rattle.temp_code.specs.declared.code.Block.{Block}
use Rattle.temp_code.specs.declared.code.Code.{Code}
use Rattle.temp_code.specs.declared.code.Unit.{Unit as Program}
use Rattle.temp_code.specs.Routines.{block_of, routine_of, routine_in}
use Rattle.temp_shapes.specs.declared.rows.ShapeRows.{ShapeRows}
use Rattle.link_code.specs.Linked.{entry, lines_of, offset, code_lines, all_lines, before, function_place, block_place, block_labels, labels_of}
use Rattle.link_lines.specs.Glue.{glue_of, job_of}
use Rattle.link_lines.specs.Lines.{target, frame, entry_of, block_of_lines, blocks_lines, blocks_labels, lines_of_code, lines_of_codes, labels_of_codes, start_of}
use Rattle.link_lines.specs.Laws.{CodesAreLinked}

abbrev functions : List Code → List ℕ
functions cs = map (λ c. c.function) cs

-- codes of different functions

abbrev Apart : Code → List Code → Type 0
Apart c [] = Unit {0}
Apart c (x ∷ xs) = (c.function ≢ x.function) × Apart c xs

abbrev AllApart : List Code → Type 0
AllApart [] = Unit {0}
AllApart (c ∷ cs) = Apart c cs × AllApart cs

apart_from : (c : Code) (cs : List Code) → ((j : ℕ) (x : Code) → j < length cs → c.function ≢ (slice_index_or cs j x).function) → Apart c cs
apart_from c [] h = tt
apart_from c (x ∷ xs) h = (h 0 x (omega arith), apart_from c xs (λ j y l. h (suc j) y (omega (arith, l))))

all_apart : (cs : List Code) → AllPairs (λ b c. b.function ≢ c.function) cs → AllApart cs
all_apart [] h = tt
all_apart (c ∷ cs) h = (
  apart_from c cs (λ j x l. h 0 (suc j) x (omega arith) (omega (arith, l))),
  all_apart cs (λ i j x l m. h (suc i) (suc j) x (omega (arith, l)) (omega (arith, m))),
)

not_same : (m n : ℕ) → m ≢ n → (m == n) ≡ false
not_same m n h = by (m == n) refl
  where
    by : (b : Bool) → (m == n) ≡ b → (m == n) ≡ false
    by true e = absurd (h (let q : m ≡ n = grind (arith, nat_tests, e) in q))
    by false e = e

is_same : (n : ℕ) → (n == n) ≡ true
is_same n = grind (arith, nat_tests)

-- a function's routine is that of its code

abbrev Known : List Code → List Code → Type 0
Known us [] = Unit {0}
Known us (c ∷ cs) = (routine_in us c.function ≡ routine_of c) × Known us cs

known_more : (us : List Code) (c : Code) (cs : List Code) → Apart c cs → Known us cs → Known (c ∷ us) cs
known_more us c [] h k = tt
known_more us c (x ∷ xs) h k =
    (ap (λ (b : Bool). if b then routine_of c else routine_in us x.function) (not_same c.function x.function h.0) ∙ k.0, known_more us c xs h.1 k.1)

known : (cs : List Code) → AllApart cs → Known cs cs
known [] h = tt
known (c ∷ cs) h =
    (ap (λ (b : Bool). if b then routine_of c else routine_in cs c.function) (is_same c.function), known_more cs c cs h.0 (known cs h.1))

abbrev at_place : Lab → ℕ → LabelAt
at_place l n = record { label = l; at = n }

module _ (d : RawDescription) (t : ShapeRows) where
  blocks_are : (c : Code) (bs : List Block) → blocks_lines d t c bs ≡ lines_of (target d t) (glue_of d t) (frame d t).link (routine_of c) (map block_of bs)
  blocks_are c [] = refl
  blocks_are c (b ∷ bs) = ap (λ (xs : List (List Move)). block_of_lines d t c b ++ xs) (blocks_are c bs)

  code_is : (c : Code) → lines_of_code d t c ≡ code_lines (target d t) (glue_of d t) (frame d t).link (routine_of c)
  code_is c = ap (λ (xs : List (List Move)). entry_of d t c ++ xs) (blocks_are c c.blocks)

  module _ (u : Program) where
    lines_are : (cs : List Code) → Known u.codes cs → lines_of_codes d t cs ≡ all_lines (job_of d t u) (functions cs)
    lines_are [] k = refl
    lines_are (c ∷ cs) k =
        ap (λ (xs : List (List Move)). lines_of_code d t c ++ xs) (lines_are cs k.1)
        ∙ ap (λ (xs : List (List Move)). xs ++ all_lines (job_of d t u) (functions cs))
        (code_is c ∙ ap (code_lines (target d t) (glue_of d t) (frame d t).link) (sym k.0))

    -- where the codes stand

    length_is : (c : Code) → routine_in u.codes c.function ≡ routine_of c
        → length (lines_of_code d t c) ≡ length (code_lines (target d t) (glue_of d t) (frame d t).link (routine_in u.codes c.function))
    length_is c e = ap length (code_is c ∙ ap (code_lines (target d t) (glue_of d t) (frame d t).link) (sym e))

    abbrev Stand : ℕ → List ℕ → ℕ → List Code → Type 0
    Stand k fs n [] = Unit {0}
    Stand k fs n (c ∷ cs) = (k + before (job_of d t u) fs c.function ≡ n) × Stand k fs (n + length (lines_of_code d t c)) cs

    stand_more : (k n : ℕ) (c : Code) (fs : List ℕ) (cs : List Code) → routine_in u.codes c.function ≡ routine_of c → Apart c cs
        → Stand (k + length (lines_of_code d t c)) fs n cs → Stand k (c.function ∷ fs) n cs
    stand_more k n c fs [] e h s = tt
    stand_more k n c fs (x ∷ xs) e h s = (
      let there = ap (λ (b : Bool). if b then 0 else length (code_lines (target d t) (glue_of d t) (frame d t).link (routine_in u.codes c.function))
          + before (job_of d t u) fs x.function) (not_same c.function x.function h.0) in
          let same = length_is c e in
          let first = s.0 in
          sum_of _ k (length (lines_of_code d t c)) _ (before (job_of d t u) fs x.function) n there same first,
      stand_more k (n + length (lines_of_code d t x)) c fs xs e h.1 s.1,
    )
      where
        sum_of : (a k l m b n : ℕ) → a ≡ m + b → l ≡ m → k + l + b ≡ n → k + a ≡ n
        sum_of a k l m b n p q r = omega (arith, p, q, r)

    stand : (k : ℕ) (cs : List Code) → Known u.codes cs → AllApart cs → Stand k (functions cs) k cs
    stand k [] e h = tt
    stand k (c ∷ cs) e h = (
      ap (λ (b : Bool). k + (if b then 0 else length (code_lines (target d t) (glue_of d t) (frame d t).link (routine_in u.codes c.function))
          + before (job_of d t u) (functions cs) c.function)) (is_same c.function) ∙ (let q : k + 0 ≡ k = omega arith in q),
      stand_more k (k + length (lines_of_code d t c)) c (functions cs) cs e.0 h.0 (stand (k + length (lines_of_code d t c)) cs e.1 h.1),
    )

    -- the labels of a code's blocks, from the block at position k on

    abbrev size : Code → Block → ℕ
    size c b = length (block_of_lines d t c b)

    abbrev off : Code → List BasicBlock → ℕ → ℕ
    off c full k = offset (target d t) (glue_of d t) (frame d t).link (routine_of c) full k

    abbrev Off : Code → ℕ → List BasicBlock → ℕ → ℕ → List Block → Type 0
    Off c m full k n [] = Unit {0}
    Off c m full k n (b ∷ bs) = (m + off c full k ≡ n) × Off c m full (suc k) (n + size c b) bs

    off_more : (c : Code) (m : ℕ) (full : List BasicBlock) (k n : ℕ) (b : Block) (bs : List Block) → Off c (m + size c b) full k n bs
        → Off c m (block_of b ∷ full) (suc k) n bs
    off_more c m full k n b [] h = tt
    off_more c m full k n b (x ∷ xs) h =
        (let first = h.0 in let q : m + (size c b + off c full k) ≡ n = omega (arith, first) in q, off_more c m full (suc k) (n + size c x) b xs h.1)

    off_all : (c : Code) (m : ℕ) (bs : List Block) → Off c m (map block_of bs) 0 m bs
    off_all c m [] = tt
    off_all c m (b ∷ bs) = (let q : m + 0 ≡ m = omega arith in q, off_more c m (map block_of bs) 0 (m + size c b) b bs (off_all c (m + size c b) bs))

    module _ (c : Code) (e : routine_in u.codes c.function ≡ routine_of c) (m : ℕ) (there : function_place (job_of d t u) c.function + length (entry_of d t c) ≡ m) where
      place_is : (k n : ℕ) → m + off c (routine_of c).blocks k ≡ n → n ≡ block_place (job_of d t u) c.function k
      place_is k n h =
          sym (ap (λ (r : Routine). function_place (job_of d t u) c.function + length (entry (target d t) (glue_of d t) (frame d t).link r)
          + offset (target d t) (glue_of d t) (frame d t).link r r.blocks k) e
          ∙ (ap (λ (x : ℕ). x + off c (routine_of c).blocks k) there ∙ h))

      block_labels_are : (bs : List Block) (k n : ℕ) → Off c m (routine_of c).blocks k n bs
          → blocks_labels d t n c bs ≡ block_labels (job_of d t u) c.function (map block_of bs) k
      block_labels_are [] k n h = refl
      block_labels_are (b ∷ bs) k n h =
          ap (λ (x : ℕ). at_place (BlockLabel b.label) x ∷ blocks_labels d t (n + size c b) c bs) (place_is k n h.0)
          ∙ ap (λ (xs : List LabelAt). at_place (BlockLabel b.label) (block_place (job_of d t u) c.function k) ∷ xs)
          (block_labels_are bs (suc k) (n + size c b) h.1)

    labels_are : (cs : List Code) (n : ℕ) → Known u.codes cs → Stand 3 (functions u.codes) n cs
        → labels_of_codes d t n cs ≡ labels_of (job_of d t u) (functions cs)
    labels_are [] n e h = refl
    labels_are (c ∷ cs) n e h =
        ap (λ (xs : List LabelAt). at_place (Function c.function) n ∷ (blocks_labels d t (n + length (entry_of d t c)) c c.blocks ++ xs))
        (labels_are cs (n + length (lines_of_code d t c)) e.1 h.1)
        ∙ (ap (λ (xs : List LabelAt). at_place (Function c.function) n ∷ (xs ++ labels_of (job_of d t u) (functions cs)))
        (block_labels_are c e.0 (n + length (entry_of d t c)) (ap (λ (x : ℕ). x + length (entry_of d t c)) h.0) c.blocks 0 (n + length (entry_of d t c))
        (off_all c (n + length (entry_of d t c)) c.blocks))
        ∙ (ap (λ (x : ℕ). at_place (Function c.function) x ∷ (block_labels (job_of d t u) c.function (map block_of c.blocks) 0
        ++ labels_of (job_of d t u) (functions cs))) (sym h.0)
        ∙ ap (λ (r : Routine). at_place (Function c.function) (function_place (job_of d t u) c.function)
        ∷ (block_labels (job_of d t u) c.function r.blocks 0 ++ labels_of (job_of d t u) (functions cs))) (sym e.0)))

pub linked : CodesAreLinked
linked d t u h =
    let apart = all_apart u.codes h in
    let k = known u.codes apart in
    record {
      lines = ap (λ (xs : List (List Move)). start_of d t (job_of d t u).p.main ++ xs) (lines_are d t u u.codes k);
      labels = labels_are d t u u.codes 3 k (stand d t u 3 u.codes k apart);
    }
