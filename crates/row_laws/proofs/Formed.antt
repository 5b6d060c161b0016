-- The transfer of an instance is well formed.
use Rattle.std.proofs.Common.{◌≡◌, ◌≢◌, ℕ, zero, suc, ◌+◌, true, cond, fold, List, [], ◌∷◌, map, slice_get, Option, Some, None, All, refl, sym, subst, ap, arith, ◌∙◌}
use Rattle.std.specs.Prelude.{AllPairs, filter_map}
use Rattle.std.specs.List.{cons_option}
use Rattle.std.proofs.lemmas.List.{length-map}
use Rattle.std.proofs.lemmas.List.Kept.{AllPairs-cons}
use Rattle.rtl_tree.specs.declared.cells.Cell.{Cell}
use Rattle.rtl_tree.specs.Moves.{Move}
use Rattle.rtl_tree.specs.WellFormed.{is_store, set_apart, IsPlaced, IsWellFormed}
use Rattle.rtl_tree.proofs.Pairs.{AllPairs-first, AllPairs-rest}
use Rattle.rtl_norm.specs.Transfers.{IsMoveFitting}
use Rattle.rtl_norm_value.specs.Effect.{IsMoveFilled}
use Rattle.md_rows.specs.declared.instance.Bound.{Bound}
use Rattle.md_rows.specs.Instances.{filled_move, assigned_register}
use Rattle.md_match.proofs.Apart.{from_at, kept_at}
use Rattle.md_said.specs.Sound.{SaidIsSound}
use Rattle.md_bounds.specs.Bounds.{SaidIsBounded}
use Rattle.md_filled.specs.Doing.{IsHeldMove}
use Rattle.md_filled.proofs.Doing.{all_at, unmapped}
use Rattle.row_laws.specs.Formed.{IsGoodTransfer, RealisedAreFormed}
use Rattle.row_laws.proofs.Rows.{good_rows, instance_held}
use Rattle.row_laws.proofs.Placed.{placed_filled, fits_filled, move_left, stores_filled, apart_filled}

abbrev AreHeld : ℕ → List Bound → List Move → Type 0
AreHeld w b ms = (k : ℕ) (m : Move) → slice_get ms k ≡ Some m → IsHeldMove w b m

abbrev set_by : Move → Option Cell
set_by m = assigned_register m.to

abbrev Different : List Move → Type 0
Different ms = AllPairs (λ (c d : Cell). c ≢ d) (filter_map set_by ms)

-- what holds of each assignment that is filled
all_filled : (b : List Bound) (P : Move → Type 0) (ms : List Move) → ((k : ℕ) (m : Move) → slice_get ms k ≡ Some m → P (filled_move b m)) → All P (map (filled_move b) ms)
all_filled b P ms h = from_at P (map (filled_move b) ms) (λ j x e.
    (let from = unmapped (filled_move b) ms j x e in subst P from.to (h j from.from from.is)))

rest_differ : (o : Option Cell) (cs : List Cell) → AllPairs (λ (c d : Cell). c ≢ d) (cons_option o cs) → AllPairs (λ (c d : Cell). c ≢ d) cs
rest_differ None cs h = h
rest_differ (Some c) cs h = AllPairs-rest (λ (c d : Cell). c ≢ d) c cs h

first_differs : (o : Option Cell) (ns : List Move) (c : Cell) (j : ℕ) (n : Move) → AllPairs (λ (c d : Cell). c ≢ d) (cons_option o (filter_map set_by ns)) → o ≡ Some c
    → slice_get ns j ≡ Some n → set_by n ≡ Some c → ⊥
first_differs o ns c j n h e is q =
    let first : AllPairs (λ (c d : Cell). c ≢ d) (c ∷ filter_map set_by ns) = subst (λ (x : Option Cell). AllPairs (λ (c d : Cell). c ≢ d) (cons_option x (filter_map set_by ns))) e h in
    let at = kept_at set_by ns j n c is q in
    all_at (λ (d : Cell). c ≢ d) (filter_map set_by ns) at.0 c (AllPairs-first (λ (c d : Cell). c ≢ d) c (filter_map set_by ns) first) at.1 refl

once_filled : (w : ℕ) (b : List Bound) (ms : List Move) → AreHeld w b ms → AllPairs (λ m n. set_apart m n ≡ true) ms → Different (map (filled_move b) ms)
    → AllPairs (λ m n. set_apart m n ≡ true) (map (filled_move b) ms)
once_filled w b [] h a d = a
once_filled w b (m ∷ ms) h a d =
    AllPairs-cons (λ m n. set_apart m n ≡ true) (filled_move b m) (map (filled_move b) ms)
    (from_at (λ n. set_apart (filled_move b m) n ≡ true) (map (filled_move b) ms) (λ j x e.
    (let from = unmapped (filled_move b) ms j x e in
    let apart = all_at (λ n. set_apart m n ≡ true) ms j from.from (AllPairs-first (λ m n. set_apart m n ≡ true) m ms a) from.is in
    subst (λ (y : Move). set_apart (filled_move b m) y ≡ true) from.to
    (apart_filled w b m from.from (h zero m refl) (h (suc j) from.from from.is) apart
    (λ c p q. first_differs (set_by (filled_move b m)) (map (filled_move b) ms) c j x d p e (ap set_by (sym from.to) ∙ q))))))
    (once_filled w b ms (λ k n e. h (suc k) n e) (AllPairs-rest (λ m n. set_apart m n ≡ true) m ms a)
    (rest_differ (set_by (filled_move b m)) (filter_map set_by (map (filled_move b) ms)) d))

stores_from : (b : List Bound) (n : ℕ) (ms : List Move) → fold (λ a m. a + cond (is_store m.to) 1 0) n (map (filled_move b) ms) ≡ fold (λ a m. a + cond (is_store m.to) 1 0) n ms
stores_from b n [] = refl
stores_from b n (m ∷ ms) =
    ap (λ q. fold (λ a x. a + cond (is_store x.to) 1 0) (n + cond q 1 0) (map (filled_move b) ms)) (stores_filled 0 b m.to)
    ∙ stores_from b (n + cond (is_store m.to) 1 0) ms

formed_filled : (w : ℕ) (b : List Bound) (ms : List Move) → AreHeld w b ms → IsWellFormed ms → Different (map (filled_move b) ms) → IsWellFormed (map (filled_move b) ms)
formed_filled w b ms h f d =
    let long = length-map ms (filled_move b) in
    let stores = stores_from b 0 ms in
    record {
      nonempty = omega (arith, long, f.nonempty);
      short = omega (arith, long, f.short);
      placed = all_filled b IsPlaced ms (λ k m e. placed_filled w b m (h k m e) (all_at IsPlaced ms k m f.placed e));
      once = once_filled w b ms h f.once d;
      one_store = rw stores f.one_store;
    }

pub realised_formed : SaidIsSound → SaidIsBounded → RealisedAreFormed
realised_formed sound bounded w d t c r =
    let good = good_rows w d sound bounded c t.by.row r.row r.instance.has_row in
    let held = instance_held d t.by r.row good r.instance in
    let b = t.by.binding in
    let es = r.row.effects in
    subst (IsGoodTransfer d.word) (sym r.effects) (record {
      formed = formed_filled d.word b es held good.formed r.instance.different;
      fits = all_filled b (IsMoveFitting d.word) es (λ k m e. fits_filled d.word b m (held k m e) (all_at (IsMoveFitting d.word) es k m good.numbers e));
      filled = all_filled b IsMoveFilled es (λ k m e. move_left d.word b m (held k m e));
    })
