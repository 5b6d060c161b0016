-- What holds of the program of a text.
use Rattle.std.proofs.Common.{◌≡◌, ◌≢◌, ℕ, zero, suc, ◌+◌, ◌<◌, ◌≤◌, ◌⊎◌, inl, inr, true, List, [], ◌∷◌, ◌++◌, length, map, get_or, Option, Some, None, option_map, slice_get, All, AllPairs, Contains, refl, sym, ap, subst, ◌∙◌, arith}
use Rattle.std.specs.List.{AllZip, AllByRecursion}
use Rattle.std.proofs.lemmas.List.Elements.{All-from_recursion, All-nil, All-cons, All-contains_itself, All-weaker, Contains-append_right, Contains-append_cases}
use Rattle.std.proofs.lemmas.List.Kept.{AllPairs-cons}
use Rattle.rtl_tree.specs.declared.c_names.Names.{Names}
use Rattle.rtl_tree.specs.declared.cells.Cell.TheVariants.{Hard, Temp, Flag, Pc, Input, Output, Halt, Hole as RegisterHole}
use Rattle.rtl_tree.specs.declared.cells.Lab.{Lab}
use Rattle.rtl_tree.specs.declared.cells.Lab.TheVariants as lab
use Rattle.rtl_value.specs.declared.state.LabelAt.{LabelAt}
use Rattle.md_rows.specs.declared.description.RawDescription.{RawDescription}
use Rattle.md_rows.specs.declared.instance.Bound.{Bound}
use Rattle.md_rows.specs.declared.instance.Bound.TheVariants.{Reg, Num as NumBound, Sym, Label as LabelBound}
use Rattle.md_rows.specs.declared.instance.Instance.{Instance}
use Rattle.asm_token.specs.Tokens.{Token}
use Rattle.asm_row.specs.Line.{IsNamed}
use Rattle.asm_row.specs.Reading.{Value, Object, Function, AreValues, value_in}
use Rattle.asm_program.specs.TextLines.{Label, Block, Symbol, Said, Nothing, Unreadable, TextBegins, DataBegins, Labelled, Mislabelled, Word, Byte, Space, Others}
use Rattle.asm_program.specs.Programs.{HasFunction, IsLab, instructions, text_labels}
use Rattle.asm_jumps.specs.LabelPlaces.{IsAt}
use Rattle.asm_instances.specs.Known.{IsBoundLine}
use Rattle.asm_text.proofs.Joined.{Beside, beside}

has_item : {A B : Type 0} (f : A → B) (xs : List A) (k : ℕ) (v : B) → option_map f (slice_get xs k) ≡ Some v → k < length xs
has_item f [] k v e = absurd (cc)
has_item f (x ∷ xs) zero v e = omega arith
has_item f (x ∷ xs) (suc k) v e = let h = has_item f xs k v e in omega (arith, h)

pub has_name : (xs : List (List ℕ)) (k : ℕ) (x : List ℕ) → slice_get xs k ≡ Some x → k < length xs
has_name [] k x e = absurd (cc)
has_name (y ∷ ys) zero x e = omega arith
has_name (y ∷ ys) (suc k) x e = let h = has_name ys k x e in omega (arith, h)

named_one : (n : Names) (b : Bound) (v : Value) → value_in n b ≡ Some v → IsNamed n b
named_one n (Reg (Hard k)) v e = tt
named_one n (Reg (Temp t)) v e = absurd (cc)
named_one n (Reg (Flag k)) v e = tt
named_one n (Reg Pc) v e = tt
named_one n (Reg Input) v e = tt
named_one n (Reg Output) v e = tt
named_one n (Reg Halt) v e = tt
named_one n (Reg (RegisterHole h)) v e = tt
named_one n (NumBound w) v e = tt
named_one n (Sym s) v e = has_item Object n.objects s v e
named_one n (LabelBound (lab.Block b)) v e = tt
named_one n (LabelBound (lab.Function f)) v e = has_item Function n.functions f v e

named_all : (n : Names) (bs : List Bound) (vs : List Value) → AreValues n bs vs → AllByRecursion (IsNamed n) bs
named_all n [] [] a = tt
named_all n [] (v ∷ vs) a = absurd a
named_all n (b ∷ bs) [] a = absurd a
named_all n (b ∷ bs) (v ∷ vs) a = (named_one n b v a.0, named_all n bs vs a.1)

module _ (d : RawDescription) (n : Names) where
  named_lines : (tss : List (List Token)) (is : List Instance) → AllZip (IsBoundLine d n) tss is → AllByRecursion (λ i. All (IsNamed n) i.binding) is
  named_lines [] [] z = tt
  named_lines [] (i ∷ is) z = absurd z
  named_lines (ts ∷ tss) [] z = absurd z
  named_lines (ts ∷ tss) (i ∷ is) z = (All-from_recursion (IsNamed n) i.binding (named_all n i.binding z.0.values z.0.are), named_lines tss is z.1)

  pub are_named : (tss : List (List Token)) (is : List Instance) → AllZip (IsBoundLine d n) tss is → All (λ i. All (IsNamed n) i.binding) is
  are_named tss is z = All-from_recursion (λ i. All (IsNamed n) i.binding) is (named_lines tss is z)

  pub same_length : (tss : List (List Token)) (is : List Instance) → AllZip (IsBoundLine d n) tss is → length tss ≡ length is
  same_length [] [] z = refl
  same_length [] (i ∷ is) z = absurd z
  same_length (ts ∷ tss) [] z = absurd z
  same_length (ts ∷ tss) (i ∷ is) z = ap suc (same_length tss is z.1)

-- the label of a function has a name
function_named : (n : Names) (l : Label) (t : Lab) → IsLab n l t → IsNamed n (LabelBound t)
function_named n l (lab.Block b) e = tt
function_named n (Symbol s) (lab.Function f) e = has_name n.functions f s e
function_named n (Block b) (lab.Function f) e = absurd (cc)

functions_by : (n : Names) (es : List (Label × ℕ)) (ls : List LabelAt) → AllZip (IsAt n) es ls → AllByRecursion (HasFunction n) ls
functions_by n [] [] z = tt
functions_by n [] (l ∷ ls) z = absurd z
functions_by n (e ∷ es) [] z = absurd z
functions_by n (e ∷ es) (l ∷ ls) z = (function_named n e.0 l.label z.0.label, functions_by n es ls z.1)

pub are_functions : (n : Names) (es : List (Label × ℕ)) (ls : List LabelAt) → AllZip (IsAt n) es ls → All (HasFunction n) ls
are_functions n es ls z = All-from_recursion (HasFunction n) ls (functions_by n es ls z)

-- no label stands behind the last instruction

within_by : (n : Names) (most k : ℕ) (ss : List Said) (ls : List LabelAt) → k + length (instructions ss) ≤ most → AllZip (IsAt n) (text_labels k ss) ls → AllByRecursion (λ l. l.at ≤ most) ls
within_by n most k [] [] h z = tt
within_by n most k [] (l ∷ ls) h z = absurd z
within_by n most k (Labelled l ∷ ss) [] h z = absurd z
within_by n most k (Labelled l ∷ ss) (g ∷ gs) h z = (let e = z.0.at in omega (arith, e, h), within_by n most k ss gs h z.1)
within_by n most k (DataBegins ∷ ss) [] h z = tt
within_by n most k (DataBegins ∷ ss) (l ∷ ls) h z = absurd z
within_by n most k (Others ts ∷ ss) ls h z = within_by n most (suc k) ss ls (omega arith) z
within_by n most k (Nothing ∷ ss) ls h z = within_by n most k ss ls h z
within_by n most k (Unreadable ∷ ss) ls h z = within_by n most k ss ls h z
within_by n most k (TextBegins ∷ ss) ls h z = within_by n most k ss ls h z
within_by n most k (Mislabelled ∷ ss) ls h z = within_by n most k ss ls h z
within_by n most k (Word w ∷ ss) ls h z = within_by n most k ss ls h z
within_by n most k (Byte w ∷ ss) ls h z = within_by n most k ss ls h z
within_by n most k (Space w ∷ ss) ls h z = within_by n most k ss ls h z

pub are_within : (n : Names) (most : ℕ) (ss : List Said) (ls : List LabelAt) → length (instructions ss) ≤ most → AllZip (IsAt n) (text_labels 0 ss) ls → All (λ l. l.at ≤ most) ls
are_within n most ss ls h z = All-from_recursion (λ l. l.at ≤ most) ls (within_by n most 0 ss ls (omega arith) z)
