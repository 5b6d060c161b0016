-- What the rules on rows give of the rows of the program.
use Rattle.std.proofs.Common.{◌≡◌, ℕ, zero, suc, ◌<◌, ◌≤◌, ◌⊎◌, inl, inr, Bool, true, false, ◌||◌, nat_lt, IsTrue, List, [], ◌∷◌, map, take, length, slice_index_or, refl, sym, ap, ◌∙◌, subst, arith}
use Rattle.std.specs.Prelude.{All, Contains}
use Rattle.std.specs.declared.option.Option.{Option}
use Rattle.std.specs.declared.option.Option.TheVariants.{Some, None}
use Rattle.std.specs.Option.{option_map}
use Rattle.std.specs.List.{slice_get}
use Rattle.std.specs.Global.{Vec}
use Rattle.std.proofs.lemmas.Bool.Decides.{nat_tests}
use Rattle.rtl_tree.specs.Moves.{Move}
use Rattle.md_text.specs.Declarations.{Declared}
use Rattle.md_text.specs.Expansion.{Expanded as Row, holes_in, expansions}
use Rattle.md_text.specs.Rules.{has_deep, HasGoodTransfer, is_too_large}
use Rattle.md_text.specs.Accepted.{HasBrokenRow, HasTooMany, most_rows}
use Rattle.md_expand.specs.declared.expanded.Expanded.{Expanded}
use Rattle.md_expand.specs.declared.moves.Filled.{Filled}
use Rattle.md_expand.specs.Seen.{all_shown}
use Rattle.md_expand.specs.Filled.{assign_of, AllFilled, BothAllFilled}
use Rattle.md_expand.specs.Expanded.{IsExpanded, AllExpanded}
use Rattle.md_expand.specs.Limits.{HasOneToSix, IsWithinLimits}

few_holes : (n : ℕ) (deep : Bool) → (IsTrue (nat_lt 8 n || deep) → ⊥) → n ≤ 8
few_holes n deep small = by (nat_lt 8 n) refl
  where
    by : (b : Bool) → nat_lt 8 n ≡ b → n ≤ 8
    by true e = absurd (small (ap (λ x. x || deep) e))
    by false e = grind (arith, nat_tests)

pub at_most_eight_holes :
    (row : Row) (e : Expanded) → IsExpanded row e → (IsTrue (is_too_large row) → ⊥) → length (holes_in (all_shown e.text.items)) ≤ 8
at_most_eight_holes row e x small =
    subst (λ text. length (holes_in text) ≤ 8) (sym x.text) (few_holes (length (holes_in row.text)) (has_deep row.transfer) small)

as_many : (few : Type 0) (ms : List Move) (fs : List Filled) → AllFilled few ms fs → length ms ≡ length fs
as_many few [] [] a = refl
as_many few [] (f ∷ fs) a = absurd a
as_many few (m ∷ ms) [] a = absurd a
as_many few (m ∷ ms) (f ∷ fs) a = ap suc (as_many few ms fs a.1)

pub one_to_six : (row : Row) (e : Expanded) → IsExpanded row e → HasGoodTransfer row → HasOneToSix e.transfer
one_to_six row e x good = by (length (holes_in row.text) ≤ 256) row.transfer e.transfer x.transfer good.transfer
  where
    by :
        (few : Type 0) (t : Option (List Move)) (o : Option (Vec Filled)) → BothAllFilled few t (option_map (λ v. v.items) o) → t ≡ Some good.moves
        → HasOneToSix o
    by few None o b same = absurd (cc)
    by few (Some ms) None b same = absurd b
    by few (Some ms) (Some v) b same =
        let moves : ms ≡ good.moves = cc in
        let long : length v.items ≡ length good.moves = sym (as_many few ms v.items b) ∙ ap length moves in (
          omega (arith, long, good.well_formed.nonempty),
          omega (arith, long, good.well_formed.short),
        )

-- it can be seen whether a transfer has one to six assignments
unless_never : (o : Option (Vec Filled)) → ((HasOneToSix o → ⊥) → ⊥) → HasOneToSix o
unless_never None twice = twice (λ h. h)
unless_never (Some v) twice = by (sizes (length v.items))
  where
    sizes : (n : ℕ) → ((0 < n) × (n ≤ 6)) ⊎ ((n ≡ 0) ⊎ (6 < n))
    sizes n = grind arith

    by : HasOneToSix (Some v) ⊎ ((length v.items ≡ 0) ⊎ (6 < length v.items)) → HasOneToSix (Some v)
    by (inl h) = h
    by (inr (inl none)) = absurd (twice (λ h. omega (arith, h.0, none)))
    by (inr (inr many)) = absurd (twice (λ h. omega (arith, h.1, many)))

pub within_limits :
    (row : Row) (e : Expanded) → IsExpanded row e → ((HasGoodTransfer row → ⊥) → ⊥) → (IsTrue (is_too_large row) → ⊥) → IsWithinLimits e
within_limits row e x good small = record {
  holes = at_most_eight_holes row e x small;
  transfer = unless_never e.transfer (λ never. good (λ g. never (one_to_six row e x g)));
}

same_moves : (few : Type 0) (ms : List Move) (fs : List Filled) → few → AllFilled few ms fs → map assign_of fs ≡ ms
same_moves few [] [] f a = refl
same_moves few [] (g ∷ fs) f a = absurd a
same_moves few (m ∷ ms) [] f a = absurd a
same_moves few (m ∷ ms) (g ∷ fs) f a = ap (λ x. x ∷ map assign_of fs) (a.0.same f) ∙ ap (λ xs. m ∷ xs) (same_moves few ms fs f a.1)

-- a row with at most 256 holes has just the transfer that it is to have
pub same_transfer :
    (row : Row) (e : Expanded) → IsExpanded row e → length (holes_in (all_shown e.text.items)) ≤ 256
    → option_map (λ v. map assign_of v.items) e.transfer ≡ row.transfer
same_transfer row e x few =
    by (length (holes_in row.text) ≤ 256) row.transfer e.transfer (subst (λ text. length (holes_in text) ≤ 256) x.text few) x.transfer
  where
    by :
        (few : Type 0) (t : Option (List Move)) (o : Option (Vec Filled)) → few → BothAllFilled few t (option_map (λ v. v.items) o)
        → option_map (λ v. map assign_of v.items) o ≡ t
    by few None None f b = refl
    by few None (Some v) f b = absurd b
    by few (Some ms) None f b = absurd b
    by few (Some ms) (Some v) f b = ap Some (same_moves few ms v.items f b)

behind_first : (r row : Row) (rows : List Row) → Contains rows r → Contains (row ∷ rows) r
behind_first r row rows (k, lt, same) = (suc k, omega (arith, lt), same)

all_within_limits :
    (rows : List Row) (es : List Expanded) → AllExpanded rows es → ((row : Row) → Contains rows row → (HasGoodTransfer row → ⊥) → ⊥)
    → ((row : Row) → Contains rows row → IsTrue (is_too_large row) → ⊥) → All IsWithinLimits es
all_within_limits [] [] a good small = λ k d lt. absurd (omega (arith, lt))
all_within_limits [] (e ∷ es) a good small = absurd a
all_within_limits (row ∷ rows) [] a good small = absurd a
all_within_limits (row ∷ rows) (e ∷ es) a good small =
    let first : Contains (row ∷ rows) row = (zero, omega arith, refl) in
    at
    (within_limits row e a.0 (good row first) (small row first))
    (all_within_limits rows es a.1 (λ r c. good r (behind_first r row rows c)) (λ r c. small r (behind_first r row rows c)))
  where
    at : IsWithinLimits e → All IsWithinLimits es → (k : ℕ) (d : Expanded) → k < length (e ∷ es) → IsWithinLimits (slice_index_or (e ∷ es) k d)
    at here there zero d lt = here
    at here there (suc k) d lt = there k d (omega (arith, lt))

none_past : {A : Type 0} (n : ℕ) (xs : List A) → slice_get xs n ≡ None → take (suc n) xs ≡ take n xs
none_past zero [] e = refl
none_past zero (x ∷ xs) e = absurd (cc)
none_past (suc n) [] e = refl
none_past (suc n) (x ∷ xs) e = ap (λ ys. x ∷ ys) (none_past n xs e)

-- the rows of a description that breaks no rule on rows
pub kept_within_limits :
    (d : Declared) (es : List Expanded) → AllExpanded (take 4097 (expansions d.width d.all)) es
    → ((line : ℕ) → HasBrokenRow (λ row. HasGoodTransfer row → ⊥) d line → ⊥) → ((line : ℕ) → HasBrokenRow (λ row. IsTrue (is_too_large row)) d line → ⊥)
    → ((line : ℕ) → HasTooMany d line → ⊥) → All IsWithinLimits es
kept_within_limits d es a good small few =
    let rows = expansions d.width d.all in
    all_within_limits (take most_rows rows) es
    (subst (λ (rs : List Row). AllExpanded rs es) (none_past most_rows rows (none (slice_get rows most_rows) refl)) a)
    (λ row counted bad. good row.line (record { row = row; counted = counted; at = refl; breaks = bad }))
    (λ row counted large. small row.line (record { row = row; counted = counted; at = refl; breaks = large }))
  where
    none : (o : Option Row) → slice_get (expansions d.width d.all) most_rows ≡ o → slice_get (expansions d.width d.all) most_rows ≡ None
    none None e = e
    none (Some row) e = absurd (few row.line (record { row = row; next = e; at = refl }))
