-- What common forms don't read, and what is known of their operands.
use Rattle.std.proofs.Common.{◌≡◌, ℕ, false, List, [], ◌∷◌, refl}
use Rattle.std.proofs.lemmas.List.Elements.{All-head, All-tail}
use Rattle.std.specs.Prelude.{All}
use Rattle.rtl_tree.specs.Trees.{Tree, Number as Constant, Read, Unary as One, Binary as Two}
use Rattle.rtl_tree.specs.Moves.{Move}
use Rattle.rtl_tree.specs.declared.cells.Cell.TheVariants.{Flag, Pc}
use Rattle.rtl_tree.specs.declared.expressions.UnOp.TheVariants.{Test as Tested}
use Rattle.rtl_tree.specs.declared.expressions.BinOp.TheVariants.{Cmp, When}
use Rattle.rtl_effect.specs.Effects.{is_input, takes}
use Rattle.machine_turn.specs.Held.{IsMadeMove}
use Rattle.machine_forms.specs.declared.forms.Source.{Source}
use Rattle.machine_forms.specs.declared.forms.Source.TheVariants.{Register, Number, Memory}
use Rattle.machine_forms.specs.declared.forms.Value.{Value}
use Rattle.machine_forms.specs.declared.forms.Value.TheVariants.{Plain, Unary, Binary}
use Rattle.machine_forms.specs.declared.forms.FlagTo.{FlagTo}
use Rattle.machine_forms.specs.declared.forms.FlagTo.TheVariants.{Compared, Lost}
use Rattle.machine_forms.specs.declared.forms.FlagsTo.{FlagsTo}
use Rattle.machine_forms.specs.declared.forms.Form.{Form}
use Rattle.machine_forms.specs.declared.forms.Form.TheVariants.{Set, Store, Branch, Test, Jump, Link, SetFlags, StoreFlags}
use Rattle.machine_forms.specs.Forms.{source_tree, value_tree, sets, goes, stores, flag_move, flag_moves, form_moves, IsFlag, AreFlags, IsFit}

source_no_input : (a : Source) → is_input (source_tree a) ≡ false
source_no_input (Register n) = refl
source_no_input (Number k) = refl
source_no_input (Memory d a) = refl

no_input : (v : Value) → is_input (value_tree v) ≡ false
no_input (Plain a) = source_no_input a
no_input (Unary o a) = refl
no_input (Binary o a b) = refl

flag_no_input : (a : FlagTo) (t : Tree) (k : ℕ) → is_input (flag_move a t k).value ≡ false
flag_no_input (Compared n) t k = refl
flag_no_input (Lost n) t k = refl

flags_take_none : (t : Tree) (f : FlagsTo) → takes (flag_moves t f) ≡ false
flags_take_none t f = rw (flag_no_input f.second t f.number, flag_no_input f.third t f.number) refl

pub takes_none : (f : Form) → takes (form_moves f) ≡ false
takes_none (Set n v) = rw (no_input v) refl
takes_none (Store d a v) = rw (no_input v) refl
takes_none (Branch r a b l) = refl
takes_none (Test r f l) = refl
takes_none (Jump a) = rw (source_no_input a) refl
takes_none (Link n l) = refl
takes_none (SetFlags n v f) = rw (no_input v, flags_take_none (value_tree v) f) refl
takes_none (StoreFlags d a v f) = rw (no_input v, flags_take_none (value_tree v) f) refl

first_made : (w : ℕ) (m : Move) (ms : List Move) → All (IsMadeMove w) (m ∷ ms) → IsMadeMove w m
first_made w m ms a = All-head (IsMadeMove w) m ms a

flag_fit : (w : ℕ) (a : FlagTo) (t : Tree) (k : ℕ) → IsMadeMove w (flag_move a t k) → IsFlag a
flag_fit w (Compared n) t k h = h.0
flag_fit w (Lost n) t k h = h.0

flags_fit : (w : ℕ) (t : Tree) (f : FlagsTo) → All (IsMadeMove w) (flag_moves t f) → AreFlags w f
flags_fit w t f h =
    let second = flag_move f.second t f.number in
    let third = flag_move f.third t f.number in
    let first = first_made w (flag_move (Compared f.first) t f.number) (second ∷ (third ∷ [])) h in
    let rest = All-tail (IsMadeMove w) (flag_move (Compared f.first) t f.number) (second ∷ (third ∷ [])) h in
    record {
      number = first.1.1;
      first = first.0;
      second = flag_fit w f.second t f.number (first_made w second (third ∷ []) rest);
      third = flag_fit w f.third t f.number (first_made w third [] (All-tail (IsMadeMove w) second (third ∷ []) rest));
    }

-- a form whose moves the machine makes
pub is_fit : (w : ℕ) (f : Form) → All (IsMadeMove w) (form_moves f) → IsFit w f
is_fit w (Set n v) a = let h = first_made w (sets n (value_tree v)) [] a in (h.0, h.1 (no_input v))
is_fit w (Store d a v) h = first_made w (stores d a (value_tree v)) [] h
is_fit w (Branch r a b l) h = let p = first_made w (goes (Two When (Two (Cmp r) (source_tree a) (source_tree b)) (Constant l))) [] h in (p.0.0, p.0.1, p.1)
is_fit w (Test r f l) h = let p = first_made w (goes (Two When (One (Tested r) (Read (Flag f))) (Constant l))) [] h in p.1
is_fit w (Jump a) h = first_made w (goes (source_tree a)) [] h
is_fit w (Link n l) h = (
  (first_made w (sets n (Read Pc)) (goes (Constant l) ∷ []) h).0,
  first_made w (goes (Constant l)) [] (All-tail (IsMadeMove w) (sets n (Read Pc)) (goes (Constant l) ∷ []) h),
)
is_fit w (SetFlags n v f) h =
    let first = first_made w (sets n (value_tree v)) (flag_moves (value_tree v) f) h in
    (first.0, first.1 (no_input v), flags_fit w (value_tree v) f (All-tail (IsMadeMove w) (sets n (value_tree v)) (flag_moves (value_tree v) f) h))
is_fit w (StoreFlags d a v f) h =
    let first = first_made w (stores d a (value_tree v)) (flag_moves (value_tree v) f) h in
    (first.0, first.1, flags_fit w (value_tree v) f (All-tail (IsMadeMove w) (stores d a (value_tree v)) (flag_moves (value_tree v) f) h))
