-- The transfer that a prepared instruction stands for. Objects and labels are numbers in it already.
use Rattle.std.specs.Prelude.{ℕ, ◌<◌, ◌^◌, List, [], ◌∷◌}
use Rattle.rtl_tree.specs.Trees.{Tree, Number as Constant, Read, Load, Unary as One, Binary as Two, NoPair}
use Rattle.rtl_tree.specs.Moves.{ToCell, ToMemory, Move}
use Rattle.rtl_tree.specs.declared.cells.Cell.TheVariants.{Hard, Flag, Pc}
use Rattle.rtl_tree.specs.declared.expressions.Width.{Width}
use Rattle.rtl_tree.specs.declared.expressions.UnOp.TheVariants.{Test as Tested}
use Rattle.rtl_tree.specs.declared.expressions.BinOp.TheVariants.{Add, Cmp, Pair, When}
use Rattle.machine_turn.specs.Held.{IsPlain}
use Rattle.machine_forms.specs.declared.forms.Address.{Address}
use Rattle.machine_forms.specs.declared.forms.Address.TheVariants.{In, Beyond, Fixed}
use Rattle.machine_forms.specs.declared.forms.Source.{Source}
use Rattle.machine_forms.specs.declared.forms.Source.TheVariants.{Register, Number, Memory}
use Rattle.machine_forms.specs.declared.forms.Value.{Value}
use Rattle.machine_forms.specs.declared.forms.Value.TheVariants.{Plain, Unary, Binary}
use Rattle.machine_forms.specs.declared.forms.FlagTo.{FlagTo}
use Rattle.machine_forms.specs.declared.forms.FlagTo.TheVariants.{Compared, Lost}
use Rattle.machine_forms.specs.declared.forms.FlagsTo.{FlagsTo}
use Rattle.machine_forms.specs.declared.forms.Form.{Form}
use Rattle.machine_forms.specs.declared.forms.Form.TheVariants.{Set, Store, Branch, Test, Jump, Link, SetFlags, StoreFlags}
use Rattle.machine_forms.specs.declared.forms.Prepared.{Prepared}
use Rattle.machine_forms.specs.declared.forms.Prepared.TheVariants.{Common, General}

abbrev pub address_tree : Address → Tree
address_tree (In n) = Read (Hard n)
address_tree (Beyond n k) = Two Add (Read (Hard n)) (Constant k)
address_tree (Fixed k) = Constant k

abbrev pub source_tree : Source → Tree
source_tree (Register n) = Read (Hard n)
source_tree (Number k) = Constant k
source_tree (Memory d a) = Load d (address_tree a)

abbrev pub value_tree : Value → Tree
value_tree (Plain a) = source_tree a
value_tree (Unary o a) = One o (source_tree a)
value_tree (Binary o a b) = Two o (source_tree a) (source_tree b)

abbrev pub sets : ℕ → Tree → Move
sets n t = record { to = ToCell (Hard n); value = t }

abbrev pub goes : Tree → Move
goes t = record { to = ToCell Pc; value = t }

abbrev pub stores : Width → Address → Tree → Move
stores d a t = record { to = ToMemory d (address_tree a); value = t }

abbrev pub flag_move : FlagTo → Tree → ℕ → Move
flag_move (Compared n) t k = record { to = ToCell (Flag n); value = Two Pair t (Constant k) }
flag_move (Lost n) t k = record { to = ToCell (Flag n); value = NoPair }

abbrev pub flag_moves : Tree → FlagsTo → List Move
flag_moves t f = flag_move (Compared f.first) t f.number ∷ (flag_move f.second t f.number ∷ (flag_move f.third t f.number ∷ []))

abbrev pub form_moves : Form → List Move
form_moves (Set n v) = sets n (value_tree v) ∷ []
form_moves (Store d a v) = stores d a (value_tree v) ∷ []
form_moves (Branch r a b l) = goes (Two When (Two (Cmp r) (source_tree a) (source_tree b)) (Constant l)) ∷ []
form_moves (Test r f l) = goes (Two When (One (Tested r) (Read (Flag f))) (Constant l)) ∷ []
form_moves (Jump a) = goes (source_tree a) ∷ []
form_moves (Link n l) = sets n (Read Pc) ∷ (goes (Constant l) ∷ [])
form_moves (SetFlags n v f) = sets n (value_tree v) ∷ flag_moves (value_tree v) f
form_moves (StoreFlags d a v f) = stores d a (value_tree v) ∷ flag_moves (value_tree v) f

-- all that an instruction means
abbrev pub moves_of : Prepared → List Move
moves_of (Common f) = form_moves f
moves_of (General ms) = ms

abbrev pub IsFlag : FlagTo → Type 0
IsFlag (Compared n) = n < 8
IsFlag (Lost n) = n < 8

-- three flags that the machine has, and a word
pub record AreFlags (w : ℕ) (f : FlagsTo) : Type 0 where
  pub number : f.number < 2 ^ w
  pub first : f.first < 8
  pub second : IsFlag f.second
  pub third : IsFlag f.third

-- registers that the machine has, and numbers that are words
abbrev pub IsFit : ℕ → Form → Type 0
IsFit w (Set n v) = (n < 64) × IsPlain w (value_tree v)
IsFit w (Store d a v) = IsPlain w (address_tree a) × IsPlain w (value_tree v)
IsFit w (Branch r a b l) = IsPlain w (source_tree a) × IsPlain w (source_tree b) × (l < 2 ^ w)
IsFit w (Test r f l) = l < 2 ^ w
IsFit w (Jump a) = IsPlain w (source_tree a)
IsFit w (Link n l) = (n < 64) × (l < 2 ^ w)
IsFit w (SetFlags n v f) = (n < 64) × IsPlain w (value_tree v) × AreFlags w f
IsFit w (StoreFlags d a v f) = IsPlain w (address_tree a) × IsPlain w (value_tree v) × AreFlags w f
