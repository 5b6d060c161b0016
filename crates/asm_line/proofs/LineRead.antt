-- The instance of a line that was read, and the names that it brings.
use Rattle.std.proofs.Common.{◌≡◌, ℕ, ◌<◌, ◌≤◌, ◌^◌, List, [], ◌∷◌, ◌++◌, length, take, Some, All, Contains, refl, sym, ap, subst, ◌∙◌, arith}
use Rattle.std.proofs.lemmas.List.Elements.{All-nil, All-cons, All-weaker, All-contains, All-head, All-tail, Contains-append_right}
use Rattle.asm_token.specs.Tokens.{Token, Name as NameToken, Number as NumberToken, Mark as MarkToken}
use Rattle.rtl_tree.specs.Names.{IsName, AreNames as AreCNames}
use Rattle.rtl_tree.specs.declared.cells.Lab.TheVariants.{Block as BlockLabel, Function as FunctionLabel}
use Rattle.rtl_tree.specs.declared.c_names.Names.{Names}
use Rattle.md_rows.specs.declared.description.Register.{Register}
use Rattle.md_rows.specs.declared.description.RawDescription.{RawDescription}
use Rattle.md_rows.specs.declared.row.Hole.{Hole}
use Rattle.md_rows.specs.declared.row.Hole.TheVariants.{Reg as RegHole, Num as NumHole, Sym as SymHole, Label as LabelHole}
use Rattle.md_rows.specs.declared.row.Piece.{Piece}
use Rattle.md_rows.specs.declared.row.Piece.TheVariants.{Name, Num, Byte, Hole as HolePiece}
use Rattle.md_rows.specs.declared.instance.Bound.{Bound}
use Rattle.md_rows.specs.declared.instance.Bound.TheVariants.{Reg, Num as NumBound, Sym, Label}
use Rattle.md_rows.specs.Instances.{symbol_token}
use Rattle.asm_row.specs.Line.{HasNumber}
use Rattle.asm_row.specs.Readable.{IsReadable}
use Rattle.asm_row.specs.Reading.{Value, Register_, Number, Object, Block, Function, Reads, ReadsText, AreValues, value_in}
use Rattle.asm_row.specs.Found.{IsFound, NoRow}
use Rattle.asm_row.specs.Walk.{IsLine, LineOf}
use Rattle.asm_line.specs.Answers.{AddsAll, HasNameValue, IsExtension, IsNamedBy, IsRead, HasInstance}
use Rattle.asm_row.proofs.HoleValues.{same_item}
use Rattle.asm_line.proofs.Growing.{extends_as}
use Rattle.asm_row.proofs.Made.{made, none}

-- what the tokens of a line say of a value in it
abbrev pub IsNamedIn : List Token → Value → Type 0
IsNamedIn ts (Object name) = IsName name × Contains ts (symbol_token name)
IsNamedIn ts (Function name) = IsName name × Contains ts (symbol_token name)
IsNamedIn ts (Block b) = b < 2 ^ 32
IsNamedIn ts _ = Unit {0}

contains_first : (t : Token) (ts : List Token) (x : Token) → t ≡ x → Contains (t ∷ ts) x
contains_first t ts x e = (0, omega arith, e)

module _ (w : ℕ) (rs : List Register) where
  named_one : (h : Hole) (t : Token) (ts : List Token) (v : Value) → Reads w rs h t v → IsNamedIn (t ∷ ts) v
  named_one (RegHole class) (NameToken name) ts (Register_ k) a = tt
  named_one (NumHole low high inverted) (NumberToken z) ts (Number v) a = tt
  named_one SymHole (NameToken name) ts (Object o) a = (a.0, contains_first (NameToken name) ts (symbol_token o) (ap NameToken a.1))
  named_one LabelHole (NameToken name) ts (Block b) a = a.0
  named_one LabelHole (NameToken name) ts (Function f) a = (a.0, contains_first (NameToken name) ts (symbol_token f) (ap NameToken a.1))
  named_one _ _ ts _ a = absurd a

  named_later : (t : Token) (ts : List Token) (v : Value) → IsNamedIn ts v → IsNamedIn (t ∷ ts) v
  named_later t ts (Object name) h = (h.0, Contains-append_right (t ∷ []) ts (symbol_token name) h.1)
  named_later t ts (Function name) h = (h.0, Contains-append_right (t ∷ []) ts (symbol_token name) h.1)
  named_later t ts (Block b) h = h
  named_later t ts (Register_ k) h = h
  named_later t ts (Number v) h = h

  all_later : (t : Token) (ts : List Token) (vs : List Value) → All (IsNamedIn ts) vs → All (IsNamedIn (t ∷ ts)) vs
  all_later t ts vs a = All-weaker (IsNamedIn ts) (IsNamedIn (t ∷ ts)) (named_later t ts) vs a

  all_named : (ps : List Piece) (hs : List Hole) (ts : List Token) (vs : List Value) → ReadsText w rs ps hs ts vs → All (IsNamedIn ts) vs
  all_named [] [] [] [] r = All-nil (IsNamedIn [])
  all_named (Name bytes ∷ ps) hs (t ∷ ts) vs r = all_later t ts vs (all_named ps hs ts vs r.1)
  all_named (Num z ∷ ps) hs (t ∷ ts) vs r = all_later t ts vs (all_named ps hs ts vs r.1)
  all_named (Byte b ∷ ps) hs (t ∷ ts) vs r = all_later t ts vs (all_named ps hs ts vs r.1)
  all_named (HolePiece j ∷ ps) (h ∷ hs) (t ∷ ts) (v ∷ vs) r =
      All-cons (IsNamedIn (t ∷ ts)) v vs (named_one h t ts v r.0) (all_later t ts vs (all_named ps hs ts vs r.1))
  all_named _ _ _ _ r = absurd r

number_of : (n : Names) (ts : List Token) (b : Bound) (v : Value) → value_in n b ≡ Some v → IsNamedIn ts v → HasNumber b
number_of n ts (Label (BlockLabel k)) v e h = subst (IsNamedIn ts) (sym (same_item (Block k) v e)) h
number_of n ts _ v e h = tt

numbers_of : (n : Names) (ts : List Token) (bs : List Bound) (vs : List Value) → AreValues n bs vs → All (IsNamedIn ts) vs → All HasNumber bs
numbers_of n ts [] [] a h = All-nil HasNumber
numbers_of n ts (b ∷ bs) (v ∷ vs) a h =
    All-cons HasNumber b bs (number_of n ts b v a.0 (All-head (IsNamedIn ts) v vs h)) (numbers_of n ts bs vs a.1 (All-tail (IsNamedIn ts) v vs h))
numbers_of n ts [] (v ∷ vs) a h = absurd a
numbers_of n ts (b ∷ bs) [] a h = absurd a

name_value : (ts : List Token) (v : Value) → IsNamedIn ts v → HasNameValue v
name_value ts (Object name) h = h.0
name_value ts (Function name) h = h.0
name_value ts (Block b) h = tt
name_value ts (Register_ k) h = tt
name_value ts (Number v) h = tt

module _ (d : RawDescription) (ts : List Token) (place : ℕ) (vs : List Value) (f : IsFound d ts place vs) where
  found_named : All (IsNamedIn ts) vs
  found_named = all_named d.word d.registers f.row.text f.row.holes ts vs f.reading.reads

  pub found_names : All HasNameValue vs
  found_names = All-weaker (IsNamedIn ts) HasNameValue (name_value ts) vs found_named

  object_by : (name : List ℕ) → Contains vs (Object name) → IsNamedBy ts name
  object_by name c = (All-contains (IsNamedIn ts) vs (Object name) found_named c).1

  function_by : (name : List ℕ) → Contains vs (Function name) → IsNamedBy ts name
  function_by name c = (All-contains (IsNamedIn ts) vs (Function name) found_named c).1

  pub read_of : IsReadable d → (old new : Names) (text : List ℕ) (b : List Bound) → IsLine text ts → AddsAll vs old new → AreValues new b vs
      → AreCNames new.objects → AreCNames new.functions → IsRead d old new text (record { row = place; binding = b })
  read_of readable old new text b line adds are objects functions = record {
    tokens = ts;
    spelled = line;
    extension = extends_as (λ m. Contains vs (Object m)) (λ m. Contains vs (Function m)) (IsNamedBy ts) (IsNamedBy ts) object_by function_by old new adds;
    numbers = numbers_of new ts b vs are found_named;
    line = made d new objects functions place b ts vs readable f are;
  }

pub never_read : (d : RawDescription) (n : Names) (ts : List Token) → IsReadable d → NoRow d ts → HasInstance d n ts → ⊥
never_read d n ts readable no_row h = none d h.names h.objects h.functions ts h.instance readable no_row h.numbers h.line
