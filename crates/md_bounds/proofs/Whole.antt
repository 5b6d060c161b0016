-- What an accepted text says is bounded.
use Rattle.std.proofs.Common.{◌≡◌, ℕ, ◌/◌, ◌%◌, ◌<◌, ◌≤◌, ◌^◌, ℤ, pos, negsuc, Bool, true, false, not, ◌&&◌, List, [], ◌∷◌, ◌++◌, filter_map, Option, Some, None, unwrap_or, Contains, inl, inr, refl, sym, subst, arith, ◌∙◌}
use Rattle.std.specs.Prelude.{int_le, ◌==◌}
use Rattle.std.proofs.Math.Nat.{zero-mod}
use Rattle.std.specs.List.{cons_option}
use Rattle.std.proofs.lemmas.Bool.Decides.{nat_tests}
use Rattle.rtl_word.specs.Words.{IsWordSize}
use Rattle.rtl_tree.specs.Moves.{Move}
use Rattle.rtl_tree.specs.WellFormed.{IsWellFormed}
use Rattle.md_rows.specs.declared.description.RawDescription.{RawDescription}
use Rattle.md_text.specs.Forms.{Form, MemorySize}
use Rattle.md_text.specs.Lines.{kept}
use Rattle.md_text.specs.Declarations.{Declaration, Declared, Declares, number_of, first_number, memory_number, memory_in}
use Rattle.md_text.specs.Expansion.{Expanded, expansions}
use Rattle.md_text.specs.Heading.{is_whole, is_from_to, most_memory, is_out_of_range}
use Rattle.md_text.specs.Rules.{HasGoodTransfer}
use Rattle.md_text.specs.Accepted.{OutOfRange, BadTransfer, TooMany, HasBrokenRow, IsAccepted, most_rows, counted_rows, row_of, description_of}
use Rattle.md_said.proofs.Lists.{Each, each_by, each_get, all_of_each}
use Rattle.md_said.proofs.Unbroken.{Unbroken, unbroken_from}
use Rattle.md_said.proofs.Forms.{both_of, some_same}
use Rattle.md_said.proofs.Whole.{within_most, take_all, contains_at, mapped_at, said_sound}
use Rattle.md_bounds.specs.Bounds.{IsBoundedMove, IsBoundedTransfer, IsBounded, SaidIsBounded}
use Rattle.md_bounds.proofs.Cells.{IsOverCells, AreOverCells, rows_over}
use Rattle.md_bounds.proofs.Deciding.{formed, formed_true, formed_is}

-- the memory

not_false : (b : Bool) → not b ≡ false → b ≡ true
not_false true h = refl
not_false false h = let q : true ≡ false = h in cc

at_most : (a b : ℕ) → int_le (pos a) (pos b) ≡ true → a ≤ b
at_most a b e = grind (arith, nat_tests)

most_of_memory : (w : ℕ) (z : ℤ) → not (is_whole w z && is_from_to 4096 (most_memory w) z) ≡ false → number_of z ≤ most_memory w
most_of_memory w (pos n) e =
    let k = both_of (is_whole w (pos n)) (is_from_to 4096 (most_memory w) (pos n)) (not_false (is_whole w (pos n) && is_from_to 4096 (most_memory w) (pos n)) e) in
    at_most n (most_memory w) (both_of (int_le (pos 4096) (pos n)) (int_le (pos n) (pos (most_memory w))) k.1).1
most_of_memory w (negsuc n) e = absurd (cc)

memory_cons : (w : ℕ) (before : List Declaration) (form : Form) (zs : List ℤ) → is_out_of_range w before form ≡ false → first_number zs ≤ most_memory w
    → first_number (cons_option (memory_number form) zs) ≤ most_memory w
memory_cons w before (MemorySize z) zs e h = most_of_memory w z e
memory_cons w before _ zs e h = h

memory_from : (w : ℕ) (before ds : List Declaration) → Unbroken (is_out_of_range w) before ds → memory_in ds ≤ most_memory w
memory_from w before [] u = omega arith
memory_from w before (d ∷ ds) u =
    memory_cons w before d.form (filter_map (λ x. memory_number x.form) ds) u.0 (memory_from w (before ++ d ∷ []) ds u.1)

whole_words : (w : ℕ) (z : ℤ) → not (is_whole w z && is_from_to 4096 (most_memory w) z) ≡ false → number_of z % (w / 8) ≡ 0
whole_words w (pos n) e =
    let k = both_of (is_whole w (pos n)) (is_from_to 4096 (most_memory w) (pos n)) (not_false (is_whole w (pos n) && is_from_to 4096 (most_memory w) (pos n)) e) in
    no_rest (n % (w / 8)) k.0
  where
    no_rest : (m : ℕ) → m == 0 ≡ true → m ≡ 0
    no_rest m e = grind (arith, nat_tests, e)
whole_words w (negsuc n) e = absurd (cc)

words_cons : (w : ℕ) (before : List Declaration) (form : Form) (zs : List ℤ) → is_out_of_range w before form ≡ false → first_number zs % (w / 8) ≡ 0
    → first_number (cons_option (memory_number form) zs) % (w / 8) ≡ 0
words_cons w before (MemorySize z) zs e h = whole_words w z e
words_cons w before _ zs e h = h

words_from : (w : ℕ) (before ds : List Declaration) → Unbroken (is_out_of_range w) before ds → memory_in ds % (w / 8) ≡ 0
words_from w before [] u = zero-mod (w / 8)
words_from w before (d ∷ ds) u =
    words_cons w before d.form (filter_map (λ x. memory_number x.form) ds) u.0 (words_from w (before ++ d ∷ []) ds u.1)

most_is_word : (w : ℕ) → IsWordSize w → most_memory w < 2 ^ w
most_is_word w (inl e) = subst (λ (v : ℕ). most_memory v < 2 ^ v) (sym e) (let h : 65534 < 65536 = omega arith in h)
most_is_word w (inr e) = subst (λ (v : ℕ). most_memory v < 2 ^ v) (sym e) (let h : 16777216 < 4294967296 = omega arith in h)

-- the transfers of rows

true_by : (b : Bool) → (b ≡ false → ⊥) → b ≡ true
true_by true h = refl
true_by false h = absurd (h refl)

clash : (b : Bool) → b ≡ true → b ≡ false → ⊥
clash b h k = let q : true ≡ false = sym h ∙ k in cc

none_some : (ms : List Move) → None ≡ Some ms → ⊥
none_some ms e = cc

well_formed : (row : Expanded) (o : Option (List Move)) → row.transfer ≡ o → ((HasGoodTransfer row → ⊥) → ⊥) → IsWellFormed (unwrap_or o [])
well_formed row (Some ms) e h =
    formed_is ms (true_by (formed ms) (λ t. h (λ g. clash (formed ms)
    (subst (λ (ns : List Move). formed ns ≡ true) (some_same g.moves ms (sym g.transfer ∙ e)) (formed_true g.moves g.well_formed)) t)))
well_formed row None e h = absurd (h (λ g. none_some g.moves (sym e ∙ g.transfer)))

moves_bounded : (o : Option (List Move)) → AreOverCells o → Each IsBoundedMove (unwrap_or o [])
moves_bounded None c = tt
moves_bounded (Some ms) c = each_by IsOverCells IsBoundedMove (λ m k. record { goal = k.0; value = k.1 }) ms c

row_bounded : (d : Declared) (row : Expanded) → Contains (counted_rows d) row → ((line : ℕ) → HasBrokenRow (λ r. HasGoodTransfer r → ⊥) d line → ⊥)
    → AreOverCells row.transfer → IsBoundedTransfer (row_of row).effects
row_bounded d row counted h over = record {
  moves = all_of_each IsBoundedMove (unwrap_or row.transfer []) (moves_bounded row.transfer over);
  formed = well_formed row row.transfer refl (λ none. h row.line (record { row = row; counted = counted; at = refl; breaks = none }));
}

declared_bounded : (text : List ℕ) (d : Declared) → IsAccepted text → Declares text d → IsWordSize d.width → IsBounded (description_of d)
declared_bounded text d a h size =
    let all = expansions d.width d.all in
    let over = rows_over d.width (kept h.lines) d.all h.forms in
    let ranges = unbroken_from (is_out_of_range d.width) d.all [] d.all refl (λ l b. a OutOfRange l (record { declared = d; declares = h; breaks = b })) in
    let few = within_most most_rows all (λ row e. a TooMany row.line (record { declared = d; declares = h; breaks = record { row = row; next = e; at = refl } })) in
    let whole = take_all most_rows all few in
    let most = memory_from d.width [] d.all ranges in
    let word = most_is_word d.width size in
    record {
      memory = omega (arith, most, word);
      words = words_from d.width [] d.all ranges;
      rows = mapped_at row_of (λ r. IsBoundedTransfer r.effects) all
          (λ i e k. row_bounded d e (subst (λ (xs : List Expanded). Contains xs e) (sym whole) (contains_at all i e k))
          (λ l b. a BadTransfer l (record { declared = d; declares = h; breaks = b }))
          (each_get (λ x. AreOverCells x.transfer) all over i e k));
    }

pub said_bounded : SaidIsBounded
said_bounded text raw s =
    subst IsBounded (sym s.same)
    (declared_bounded text s.declared s.accepted s.declares
    (subst (λ (d : RawDescription). IsWordSize d.word) s.same (said_sound text raw s).size))
