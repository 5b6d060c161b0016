-- What an accepted text says is sound.
use Rattle.std.proofs.Common.{◌≡◌, ◌⊎◌, ℕ, zero, suc, ◌+◌, ◌<◌, ◌≤◌, Bool, true, false, cond, ◌&&◌, ◌||◌, IsTrue, List, [], ◌∷◌, ◌++◌, length, map, take, flat_map, Option, Some, None, slice_get, unwrap_or, get_or, All, Contains, inl, inr, refl, sym, subst, ap, arith, ◌∙◌}
use Rattle.std.specs.List.{list_any}
use Rattle.std.specs.Str.{bytes_eq}
use Rattle.std.specs.Prelude.{codes}
use Rattle.std.proofs.lemmas.Option.{slice_get-get_or, slice_get_within, get_or_from_slice_get}
use Rattle.rtl_word.specs.Words.{IsWordSize}
use Rattle.rtl_tree.specs.declared.cells.Cell.{Cell}
use Rattle.rtl_tree.specs.declared.cells.Cell.TheVariants.{Hard, Temp, Flag, Pc, Input, Output, Halt, Hole as HoleCell}
use Rattle.rtl_tree.specs.Trees.{Tree, Number, Symbol, CodeLabel, Read, Load, Unary, Binary, NoPair, AnyNumber, AnyName}
use Rattle.rtl_tree.specs.Moves.{Goal, ToCell, ToMemory, Move}
use Rattle.rtl_tree.specs.WellFormed.{IsWellFormed}
use Rattle.rtl_norm.specs.Transfers.{IsGoalFitting, IsMoveFitting}
use Rattle.md_rows.specs.declared.description.RawDescription.{RawDescription}
use Rattle.md_rows.specs.declared.row.Row.{Row}
use Rattle.md_rows.specs.declared.row.Hole.{Hole as RowHole}
use Rattle.md_text.specs.Lines.{Line, width_of, kept}
use Rattle.md_text.specs.Declarations.{Declaration, Declared, Declares, registers_in}
use Rattle.md_text.specs.Expansion.{Expanded, holes_in, expansions}
use Rattle.md_text.specs.Heading.{is_out_of_range}
use Rattle.md_text.specs.Rules.{is_declared_twice, has_reserved_name, HasGoodTransfer, is_temporary, cells_in, cells_of_goal, cells_of_move}
use Rattle.md_text.specs.Accepted.{Rule, OutOfRange, DeclaredTwice, ReservedName, BadTransfer, TooMany, Breaks, HasBroken, DeclaresBad, HasBrokenRow, HasTooMany, IsAccepted, most_rows, counted_rows, row_of, description_of, Says}
use Rattle.md_overlap.specs.Premises.{AreInOrder, IsInOrder, HaveRanges, AreNames}
use Rattle.md_covers.specs.Covers.{IsRowTree, IsRowMove}
use Rattle.md_match.specs.Searches.{goal_tree}
use Rattle.md_said.specs.Sound.{IsSoundRow, IsSound, SaidIsSound}
use Rattle.md_said.proofs.Lists.{Each, each_by, each_map, each_get, all_of_each, each_of_get}
use Rattle.md_said.proofs.Unbroken.{Unbroken, unbroken_from}
use Rattle.md_said.proofs.Registers.{names_from}
use Rattle.md_said.proofs.Forms.{IsGoodForm, forms_good, some_same}
use Rattle.md_said.proofs.Fillings.{Stands, IsGood, IsGoodGoal, IsGoodMove, IsGoodRow, rows_good}

-- no temporary in what is spelled

any_step : (a b c d : Bool) → (a || d) ≡ false → (d ≡ false → (b ≡ false) × (c ≡ false)) → ((a || b) ≡ false) × (c ≡ false)
any_step true b c d h f = let q : true ≡ false = h in cc
any_step false b c d h f = f h

any_append : (test : Cell → Bool) (xs ys : List Cell) → list_any test (xs ++ ys) ≡ false → (list_any test xs ≡ false) × (list_any test ys ≡ false)
any_append test [] ys h = (refl, h)
any_append test (x ∷ xs) ys h = any_step (test x) (list_any test xs) (list_any test ys) (list_any test (xs ++ ys)) h (any_append test xs ys)

row_tree : (all : List RowHole) (t : Tree) → Stands all t → list_any is_temporary (cells_in t) ≡ false → IsRowTree all t
row_tree all (Number n) s h = tt
row_tree all (Symbol n) s h = s
row_tree all (CodeLabel l) s h = s
row_tree all (Read (HoleCell n)) s h = s
row_tree all (Read (Temp n)) s h = let q : true ≡ false = h in cc
row_tree all (Read (Hard n)) s h = tt
row_tree all (Read (Flag n)) s h = tt
row_tree all (Read Pc) s h = tt
row_tree all (Read Input) s h = tt
row_tree all (Read Output) s h = tt
row_tree all (Read Halt) s h = tt
row_tree all (Load d a) s h = row_tree all a s h
row_tree all (Unary o a) s h = row_tree all a s h
row_tree all (Binary o a b) s h =
    let k = any_append is_temporary (cells_in a) (cells_in b) h in (row_tree all a s.0 k.0, row_tree all b s.1 k.1)
row_tree all NoPair s h = tt
row_tree all (AnyNumber n) s h = s
row_tree all (AnyName n) s h = s

row_goal : (w : ℕ) (all : List RowHole) (g : Goal) → IsGoodGoal w all g → list_any is_temporary (cells_of_goal g) ≡ false → IsRowTree all (goal_tree g)
row_goal w all (ToCell c) s h = row_tree all (Read c) s h
row_goal w all (ToMemory d a) s h = row_tree all a s.0 h

row_move : (w : ℕ) (all : List RowHole) (m : Move) → IsGoodMove w all m → list_any is_temporary (cells_of_move m) ≡ false → IsRowMove all m
row_move w all m s h =
    let k = any_append is_temporary (cells_of_goal m.to) (cells_in m.value) h in
    record { place = row_goal w all m.to s.0 k.0; value = row_tree all m.value s.1.0 k.1 }

row_moves : (w : ℕ) (all : List RowHole) (ms : List Move) → Each (IsGoodMove w all) ms → list_any is_temporary (flat_map cells_of_move ms) ≡ false
    → Each (IsRowMove all) ms
row_moves w all [] s h = tt
row_moves w all (m ∷ ms) s h =
    let k = any_append is_temporary (cells_of_move m) (flat_map cells_of_move ms) h in
    (row_move w all m s.0 k.0, row_moves w all ms s.1 k.1)

goal_fits : (w : ℕ) (all : List RowHole) (g : Goal) → IsGoodGoal w all g → IsGoalFitting w g
goal_fits w all (ToCell c) s = tt
goal_fits w all (ToMemory d a) s = s.1

move_fits : (w : ℕ) (all : List RowHole) (m : Move) → IsGoodMove w all m → IsMoveFitting w m
move_fits w all m s = (goal_fits w all m.to s.0, s.1.1)

sound_by : (w : ℕ) (all : List RowHole) (o : Option (List Move)) → ((ms : List Move) → o ≡ Some ms → Each (IsGoodMove w all) ms)
    → ((ms : List Move) → o ≡ Some ms → list_any is_temporary (flat_map cells_of_move ms) ≡ false)
    → Each (IsRowMove all) (unwrap_or o []) × Each (IsMoveFitting w) (unwrap_or o [])
sound_by w all None g h = (tt, tt)
sound_by w all (Some ms) g h =
    (row_moves w all ms (g ms refl) (h ms refl), each_by (IsGoodMove w all) (IsMoveFitting w) (move_fits w all) ms (g ms refl))

row_sound : (w : ℕ) (e : Expanded) → IsGoodRow w e
    → ((ms : List Move) → e.transfer ≡ Some ms → list_any is_temporary (flat_map cells_of_move ms) ≡ false) → IsSoundRow w (row_of e)
row_sound w e g h =
    let k = sound_by w (holes_in e.text) e.transfer g.moves h in
    record {
      effects = all_of_each (IsRowMove (holes_in e.text)) (unwrap_or e.transfer []) k.0;
      numbers = all_of_each (IsMoveFitting w) (unwrap_or e.transfer []) k.1;
      copied = refl;
    }

-- the rows that count are all

pub within_most : {A : Type 0} (n : ℕ) (xs : List A) → ((x : A) → slice_get xs n ≡ Some x → ⊥) → length xs ≤ n
within_most zero [] h = omega arith
within_most zero (x ∷ xs) h = absurd (h x refl)
within_most (suc n) [] h = omega arith
within_most (suc n) (x ∷ xs) h = let k = within_most n xs (λ y e. h y e) in omega arith

pub take_all : {A : Type 0} (n : ℕ) (xs : List A) → length xs ≤ n → take n xs ≡ xs
take_all zero [] h = refl
take_all (suc n) [] h = refl
take_all zero (x ∷ xs) h = absurd (let k : suc (length xs) ≤ 0 = h in omega arith)
take_all (suc n) (x ∷ xs) h = ap (λ (ys : List _). x ∷ ys) (take_all n xs (let k : suc (length xs) ≤ suc n = h in omega arith))

pub contains_at : {A : Type 0} (xs : List A) (i : ℕ) (x : A) → slice_get xs i ≡ Some x → Contains xs x
contains_at xs i x e = (i, slice_get_within xs i x e, get_or_from_slice_get xs i x x e)

pub mapped_at : {A B : Type 0} (f : A → B) (P : B → Type 0) (xs : List A) → ((i : ℕ) (x : A) → slice_get xs i ≡ Some x → P (f x))
    → (i : ℕ) (y : B) → slice_get (map f xs) i ≡ Some y → P y
mapped_at f P xs h i y e =
    each_get P (map f xs) (each_map (λ x. P (f x)) P f (λ x k. k) xs (each_of_get (λ x. P (f x)) xs h)) i y e

pub false_by : (b : Bool) → (b ≡ true → ⊥) → b ≡ false
false_by true h = absurd (h refl)
false_by false h = refl

clash : (b : Bool) → b ≡ true → b ≡ false → ⊥
clash b h k = let q : true ≡ false = sym h ∙ k in cc

-- the transfer of a row that counts has no temporary
no_temporary : (d : Declared) (row : Expanded) → Contains (counted_rows d) row
    → ((line : ℕ) → HasBrokenRow (λ r. HasGoodTransfer r → ⊥) d line → ⊥)
    → (ms : List Move) → row.transfer ≡ Some ms → list_any is_temporary (flat_map cells_of_move ms) ≡ false
no_temporary d row counted h ms e =
    false_by (list_any is_temporary (flat_map cells_of_move ms)) (λ t. h row.line (record {
      row = row;
      counted = counted;
      at = refl;
      breaks = λ g. clash (list_any is_temporary (flat_map cells_of_move ms)) t
          (subst (λ (ns : List Move). list_any is_temporary (flat_map cells_of_move ns) ≡ false) (some_same g.moves ms (sym g.transfer ∙ e)) g.no_temporary);
    }))

size_of : (b : Bool) → IsWordSize (cond b 16 32)
size_of true = inl refl
size_of false = inr refl

width_size : (lines : List Line) → IsWordSize (width_of lines)
width_size [] = inr refl
width_size (a ∷ []) = inr refl
width_size (a ∷ b ∷ []) = inr refl
width_size (a ∷ b ∷ word ∷ lines) = size_of (bytes_eq word.bytes (codes "word 16"))

ordered : (w : ℕ) (e : Expanded) → IsGoodRow w e → AreInOrder (row_of e).holes
ordered w e g = record { each = each_get IsInOrder (holes_in e.text) g.ranges }

declared_sound : (text : List ℕ) (d : Declared) → IsAccepted text → Declares text d → IsSound (description_of d)
declared_sound text d a h =
    let forms = forms_good d.width (kept h.lines) [] d.all h.forms
    (unbroken_from (is_out_of_range d.width) d.all [] d.all refl
    (λ l b. a OutOfRange l (record { declared = d; declares = h; breaks = b }))) in
    let good = rows_good d.width d.all forms in
    let few = within_most most_rows (expansions d.width d.all)
    (λ row e. a TooMany row.line (record { declared = d; declares = h; breaks = record { row = row; next = e; at = refl } })) in
    let whole = take_all most_rows (expansions d.width d.all) few in
    record {
      size = subst IsWordSize (sym h.width) (width_size (kept h.lines));
      names = names_from [] d.all
          (unbroken_from is_declared_twice d.all [] d.all refl (λ l b. a DeclaredTwice l (record { declared = d; declares = h; breaks = b })))
          (unbroken_from has_reserved_name d.all [] d.all refl (λ l b. a ReservedName l (record { declared = d; declares = h; breaks = b })));
      ranges = record {
        each = mapped_at row_of (λ r. AreInOrder r.holes) (expansions d.width d.all)
            (λ i e k. ordered d.width e (each_get (IsGoodRow d.width) (expansions d.width d.all) good i e k));
      };
      rows = mapped_at row_of (IsSoundRow d.width) (expansions d.width d.all)
          (λ i e k. row_sound d.width e (each_get (IsGoodRow d.width) (expansions d.width d.all) good i e k)
          (no_temporary d e (subst (λ (xs : List Expanded). Contains xs e) (sym whole) (contains_at (expansions d.width d.all) i e k))
          (λ l b. a BadTransfer l (record { declared = d; declares = h; breaks = b }))));
    }

pub said_sound : SaidIsSound
said_sound text raw s = subst IsSound (sym s.same) (declared_sound text s.declared s.accepted s.declares)
