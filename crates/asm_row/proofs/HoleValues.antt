-- What the token of a hole says of what stands in it, and that it says one thing.
use Rattle.std.proofs.Common.{◌≡◌, ◌⊎◌, inl, inr, ℕ, suc, ◌-◌, ◌^◌, ◌<◌, ℤ, pos, negsuc, Bool, true, false, cond, ◌==◌, ◌&&◌, ◌||◌, IsTrue, List, [], ◌∷◌, length, Option, Some, None, option_map, is_some, slice_get, get_or, refl, sym, ap, subst, ◌∙◌, arith}
use Rattle.std.specs.Prelude.{nat_lt, decimal}
use Rattle.std.specs.List.{list_all}
use Rattle.std.specs.Char.{is_ascii_digit}
use Rattle.std.specs.Str.{all_ascii_digits}
use Rattle.std.proofs.lemmas.Bool.{and_parts, ltb-true, eqb-true, cases_order, and_from}
use Rattle.std.proofs.lemmas.Option.{slice_get_within, get_or_from_slice_get}
use Rattle.std.proofs.lemmas.Fmt.{decimal_injective, decimal_nonempty, digits_decimal}
use Rattle.asm_token.specs.Tokens.{Token, Name as NameToken, Number as NumberToken}
use Rattle.asm_token.proofs.Lengths.{own}
use Rattle.rtl_tree.specs.Names.{IsName, AreNames as AreCNames}
use Rattle.rtl_tree.specs.declared.cells.Cell.TheVariants.{Hard}
use Rattle.rtl_tree.specs.declared.cells.Lab.TheVariants.{Block as BlockLabel, Function as FunctionLabel}
use Rattle.rtl_tree.specs.declared.c_names.Names.{Names}
use Rattle.md_rows.specs.declared.description.Register.{Register}
use Rattle.md_rows.specs.declared.description.RawDescription.{RawDescription}
use Rattle.md_rows.specs.declared.row.Hole.{Hole}
use Rattle.md_rows.specs.declared.row.Hole.TheVariants.{Reg as RegHole, Num as NumHole, Sym as SymHole, Label as LabelHole}
use Rattle.md_rows.specs.declared.instance.Bound.{Bound}
use Rattle.md_rows.specs.declared.instance.Bound.TheVariants.{Reg, Num as NumBound, Sym, Label}
use Rattle.md_rows.specs.Fits.{fits, is_in, printed, within, below_zero, turned}
use Rattle.md_rows.specs.Instances.{register_name, hole_token, symbol_token, block_token}
use Rattle.md_text.specs.Rules.{is_block_label}
use Rattle.md_overlap.specs.Overlap.{FitsHole, IsNamed, is_symbol}
use Rattle.md_overlap.specs.Premises.{IsOther, AreNames}
use Rattle.asm_row.specs.Line.{naming_of, HasNumber}
use Rattle.asm_row.specs.Reading.{Value, Register_, Number, Object, Block, Function, Reads, value_in}

pub no_item : {A : Type 0} (y : A) → None ≡ Some y → ⊥
no_item y e = cc

pub same_item : {A : Type 0} (x y : A) → Some x ≡ Some y → x ≡ y
same_item x y e = cc

-- an option that is mapped to something is something
pub record Mapped {A B : Type 0} (f : A → B) (o : Option A) (y : B) : Type 0 where
  pub it : A
  pub has : o ≡ Some it
  pub is : f it ≡ y

pub mapped : {A B : Type 0} (f : A → B) (o : Option A) (y : B) → option_map f o ≡ Some y → Mapped f o y
mapped f None y e = absurd (no_item y e)
mapped f (Some x) y e = record { it = x; has = refl; is = same_item (f x) y e }

-- different names stand at different places

name_at : (xs : List (List ℕ)) (i : ℕ) (a : List ℕ) → AreCNames xs → slice_get xs i ≡ Some a → IsName a
name_at xs i a names e = subst IsName (get_or_from_slice_get xs i a a e) (names.names i a (slice_get_within xs i a e))

apart : (xs : List (List ℕ)) (i j : ℕ) (a : List ℕ) → AreCNames xs → slice_get xs i ≡ Some a → slice_get xs j ≡ Some a → i < j → ⊥
apart xs i j a names e f less =
    names.different i j a less (slice_get_within xs j a f) (get_or_from_slice_get xs i a a e ∙ sym (get_or_from_slice_get xs j a a f))

pub one_place : (xs : List (List ℕ)) (i j : ℕ) (a : List ℕ) → AreCNames xs → slice_get xs i ≡ Some a → slice_get xs j ≡ Some a → i ≡ j
one_place xs i j a names e f =
    elim (cases_order i j) [
      | inl same ↦ same
      | inr (inl less) ↦ absurd (apart xs i j a names e f less)
      | inr (inr more) ↦ absurd (apart xs j i a names f e more)
    ]

-- a register's name is that of one number

no_other : (b : Bool) (r : Register) (rs : List Register) (k : ℕ) (name : List ℕ) → (name ≡ r.name → ⊥) → (register_name rs k ≡ Some name → ⊥)
    → cond b (Some r.name) (register_name rs k) ≡ Some name → ⊥
no_other true r rs k name other rest e = other (sym (same_item r.name name e))
no_other false r rs k name other rest e = rest e

other_none : (rs : List Register) (k : ℕ) (name : List ℕ) → IsOther name rs → register_name rs k ≡ Some name → ⊥
other_none [] k name o e = no_item name e
other_none (r ∷ rs) k name o e = no_other (r.number == k) r rs k name o.0 (other_none rs k name o.1) e

module _ (r : Register) (rs : List Register) (k m : ℕ) (name : List ℕ) (names : AreNames (r ∷ rs))
    (later : register_name rs k ≡ Some name → register_name rs m ≡ Some name → k ≡ m) where
  not_both : (j : ℕ) → Some r.name ≡ Some name → register_name rs j ≡ Some name → ⊥
  not_both j e f = other_none rs j name (subst (λ (x : List ℕ). IsOther x rs) (same_item r.name name e) names.1) f

  number_by : (b c : Bool) → (b ≡ true → r.number ≡ k) → (c ≡ true → r.number ≡ m)
      → cond b (Some r.name) (register_name rs k) ≡ Some name → cond c (Some r.name) (register_name rs m) ≡ Some name → k ≡ m
  number_by true true p q e f = sym (p refl) ∙ q refl
  number_by true false p q e f = absurd (not_both m e f)
  number_by false true p q e f = absurd (not_both k f e)
  number_by false false p q e f = later e f

pub one_number : (rs : List Register) (k m : ℕ) (name : List ℕ) → AreNames rs → register_name rs k ≡ Some name → register_name rs m ≡ Some name → k ≡ m
one_number [] k m name names e f = absurd (no_item name e)
one_number (r ∷ rs) k m name names e f =
    number_by r rs k m name names (one_number rs k m name names.2) (r.number == k) (r.number == m) (eqb-true r.number k) (eqb-true r.number m) e f

-- a number that is printed is that of one word

chosen : (b c : Bool) (x y p : ℤ) → cond b (Some x) (cond c (Some y) None) ≡ Some p → ((b ≡ true) × (x ≡ p)) ⊎ ((c ≡ true) × (y ≡ p))
chosen true c x y p e = inl (refl, same_item x p e)
chosen false true x y p e = inr (refl, same_item y p e)
chosen false false x y p e = absurd (no_item p e)

pub not_both_signs : (n k : ℕ) → pos n ≡ negsuc k → ⊥
not_both_signs n k e = cc

pub same_pos : (n k : ℕ) → pos n ≡ pos k → n ≡ k
same_pos n k e = cc

pub same_neg : (n k : ℕ) → negsuc n ≡ negsuc k → n ≡ k
same_neg n k e = cc

pub turned_below : (w : ℕ) (inverted : Bool) (v : ℕ) → v < 2 ^ w → turned w inverted v < 2 ^ w
turned_below w true v h = omega arith
turned_below w false v h = h

pub turned_once : (w : ℕ) (inverted : Bool) (v u : ℕ) → v < 2 ^ w → u < 2 ^ w → turned w inverted v ≡ turned w inverted u → v ≡ u
turned_once w true v u h k e = omega (arith, e)
turned_once w false v u h k e = e

module _ (w : ℕ) (low high : ℤ) (inverted : Bool) where
  abbrev pub Choice : ℕ → ℤ → Type 0
  Choice v p =
      ((within low high (pos (turned w inverted v)) ≡ true) × (pos (turned w inverted v) ≡ p))
      ⊎ ((within low high (below_zero w (turned w inverted v)) ≡ true) × (below_zero w (turned w inverted v) ≡ p))

  pub choice : (v : ℕ) (p : ℤ) → printed w low high inverted v ≡ Some p → Choice v p
  choice v p e = chosen (within low high (pos (turned w inverted v))) (within low high (below_zero w (turned w inverted v))) (pos (turned w inverted v)) (below_zero w (turned w inverted v)) p e

  word_by : (v u : ℕ) (p : ℤ) → v < 2 ^ w → u < 2 ^ w → Choice v p → Choice u p → turned w inverted v ≡ turned w inverted u
  word_by v u p h k (inl a) (inl b) = same_pos (turned w inverted v) (turned w inverted u) (a.1 ∙ sym b.1)
  word_by v u p h k (inl a) (inr b) = absurd (not_both_signs (turned w inverted v) (2 ^ w - suc (turned w inverted u)) (a.1 ∙ sym b.1))
  word_by v u p h k (inr a) (inl b) = absurd (not_both_signs (turned w inverted u) (2 ^ w - suc (turned w inverted v)) (b.1 ∙ sym a.1))
  word_by v u p h k (inr a) (inr b) =
      let e : 2 ^ w - suc (turned w inverted v) ≡ 2 ^ w - suc (turned w inverted u) =
      same_neg (2 ^ w - suc (turned w inverted v)) (2 ^ w - suc (turned w inverted u)) (a.1 ∙ sym b.1) in
      omega (arith, e, turned_below w inverted v h, turned_below w inverted u k)

  pub one_word : (v u : ℕ) (p : ℤ) → v < 2 ^ w → u < 2 ^ w → printed w low high inverted v ≡ Some p → printed w low high inverted u ≡ Some p → v ≡ u
  one_word v u p h k e f = turned_once w inverted v u h k (word_by v u p h k (choice v p e) (choice u p f))

  in_range : (v : ℕ) (p : ℤ) → Choice v p → within low high p ≡ true
  in_range v p (inl a) = subst (λ (x : ℤ). within low high x ≡ true) a.1 a.0
  in_range v p (inr a) = subst (λ (x : ℤ). within low high x ≡ true) a.1 a.0

  pub printed_within : (v : ℕ) (p : ℤ) → printed w low high inverted v ≡ Some p → within low high p ≡ true
  printed_within v p e = in_range v p (choice v p e)

-- a token says one value of a hole

same_tail : (a b : ℕ) (xs ys : List ℕ) → a ∷ xs ≡ b ∷ ys → xs ≡ ys
same_tail a b xs ys e = cc

head_differs : (xs ys : List ℕ) → 76 ∷ xs ≡ 95 ∷ ys → ⊥
head_differs xs ys e = let f : 76 ≡ 95 = ap (λ (zs : List ℕ). get_or zs 0 0) e in omega (arith, f)

module _ (w : ℕ) (rs : List Register) (names : AreNames rs) where
  register_once : (class k : ℕ) (name : List ℕ) (u : Value) → register_name rs k ≡ Some name → Reads w rs (RegHole class) (NameToken name) u → Register_ k ≡ u
  register_once class k name (Register_ m) e b = ap Register_ (one_number rs k m name names e b.1)
  register_once class k name _ e b = absurd b

  number_once : (low high : ℤ) (inverted : Bool) (v : ℕ) (z : ℤ) (u : Value) → v < 2 ^ w → printed w low high inverted v ≡ Some z
      → Reads w rs (NumHole low high inverted) (NumberToken z) u → Number v ≡ u
  number_once low high inverted v z (Number x) h e b = ap Number (one_word w low high inverted v x z h b.0 e b.1)
  number_once low high inverted v z _ h e b = absurd b

  object_once : (object name : List ℕ) (u : Value) → name ≡ 95 ∷ object → Reads w rs SymHole (NameToken name) u → Object object ≡ u
  object_once object name (Object x) e b = ap Object (same_tail 95 95 object x (sym e ∙ b.1))
  object_once object name _ e b = absurd b

  block_once : (n : ℕ) (name : List ℕ) (u : Value) → n < 2 ^ 32 → name ≡ 76 ∷ decimal n → Reads w rs LabelHole (NameToken name) u → Block n ≡ u
  block_once n name (Block m) h e b = ap Block (decimal_injective n m (omega (arith, h)) (omega (arith, b.0)) (same_tail 76 76 (decimal n) (decimal m) (sym e ∙ b.1)))
  block_once n name (Function x) h e b = absurd (head_differs (decimal n) x (sym e ∙ b.1))
  block_once n name _ h e b = absurd b

  function_once : (function name : List ℕ) (u : Value) → name ≡ 95 ∷ function → Reads w rs LabelHole (NameToken name) u → Function function ≡ u
  function_once function name (Function x) e b = ap Function (same_tail 95 95 function x (sym e ∙ b.1))
  function_once function name (Block m) e b = absurd (head_differs (decimal m) function (sym b.1 ∙ e))
  function_once function name _ e b = absurd b

  pub reads_once : (h : Hole) (t : Token) (v u : Value) → Reads w rs h t v → Reads w rs h t u → v ≡ u
  reads_once (RegHole class) (NameToken name) (Register_ k) u a b = register_once class k name u a.1 b
  reads_once (NumHole low high inverted) (NumberToken z) (Number v) u a b = number_once low high inverted v z u a.0 a.1 b
  reads_once SymHole (NameToken name) (Object object) u a b = object_once object name u a.1 b
  reads_once LabelHole (NameToken name) (Block n) u a b = block_once n name u a.0 a.1 b
  reads_once LabelHole (NameToken name) (Function function) u a b = function_once function name u a.1 b
  reads_once _ _ _ u a b = absurd a

  -- and the token is one that the hole takes

  named_by : (b : Bool) (r : Register) (ss : List Register) (class k : ℕ) (name : List ℕ) → (b ≡ true → r.number ≡ k) → IsTrue (is_in class k)
      → (register_name ss k ≡ Some name → IsNamed ss class name) → cond b (Some r.name) (register_name ss k) ≡ Some name → IsNamed (r ∷ ss) class name
  named_by true r ss class k name p i rest e = inl (subst (λ (n : ℕ). IsTrue (is_in class n)) (sym (p refl)) i, same_item r.name name e)
  named_by false r ss class k name p i rest e = inr (rest e)

  is_named : (ss : List Register) (class k : ℕ) (name : List ℕ) → IsTrue (is_in class k) → register_name ss k ≡ Some name → IsNamed ss class name
  is_named [] class k name i e = absurd (no_item name e)
  is_named (r ∷ ss) class k name i e = named_by (r.number == k) r ss class k name (eqb-true r.number k) i (is_named ss class k name i) e

  all_digits : (ds : List ℕ) → all_ascii_digits ds ≡ true → list_all is_ascii_digit ds ≡ true
  all_digits [] h = refl
  all_digits (d ∷ ds) h = let k = and_parts (is_ascii_digit d) (all_ascii_digits ds) h in and_from (is_ascii_digit d) (list_all is_ascii_digit ds) k.0 (all_digits ds k.1)

  label_by : (ds : List ℕ) → 0 < length ds → list_all is_ascii_digit ds ≡ true → IsTrue (is_symbol (76 ∷ ds) || is_block_label (76 ∷ ds))
  label_by [] h k = absurd (omega (arith, h))
  label_by (d ∷ ds) h k = k

  block_is_label : (n : ℕ) → n < 2 ^ 32 → IsTrue (is_symbol (76 ∷ decimal n) || is_block_label (76 ∷ decimal n))
  block_is_label n h =
      let fits64 : n < 2 ^ 64 = omega (arith, h) in
      label_by (decimal n) (decimal_nonempty n fits64) (all_digits (decimal n) (digits_decimal own n fits64))

  pub reads_fits : (h : Hole) (t : Token) (v : Value) → Reads w rs h t v → FitsHole rs h t
  reads_fits (RegHole class) (NameToken name) (Register_ k) a = is_named rs class k name (and_parts (nat_lt k 64) (is_in class k) a.0).1 a.1
  reads_fits (NumHole low high inverted) (NumberToken z) (Number v) a = printed_within w low high inverted v z a.1
  reads_fits SymHole (NameToken name) (Object object) a = subst (λ (x : List ℕ). IsTrue (is_symbol x)) (sym a.1) refl
  reads_fits LabelHole (NameToken name) (Block n) a = subst (λ (x : List ℕ). IsTrue (is_symbol x || is_block_label x)) (sym a.1) (block_is_label n a.0)
  reads_fits LabelHole (NameToken name) (Function function) a = subst (λ (x : List ℕ). IsTrue (is_symbol x || is_block_label x)) (sym a.1) refl
  reads_fits _ _ _ a = absurd a

-- from a bound value to what the token says, and back

module _ (d : RawDescription) (n : Names) (objects : AreCNames n.objects) (functions : AreCNames n.functions) where
  pub record ReadsAs (h : Hole) (b : Bound) (t : Token) : Type 0 where
    pub value : Value
    pub reads : Reads d.word d.registers h t value
    pub is : value_in n b ≡ Some value

  object_reads : (s : ℕ) (t : Token) → Mapped symbol_token (slice_get n.objects s) t → ReadsAs SymHole (Sym s) t
  object_reads s t m =
      subst (ReadsAs SymHole (Sym s)) m.is
      (record { value = Object m.it; reads = (name_at n.objects s m.it objects m.has, refl); is = ap (option_map Object) m.has })

  function_reads : (f : ℕ) (t : Token) → Mapped symbol_token (slice_get n.functions f) t → ReadsAs LabelHole (Label (FunctionLabel f)) t
  function_reads f t m =
      subst (ReadsAs LabelHole (Label (FunctionLabel f))) m.is
      (record { value = Function m.it; reads = (name_at n.functions f m.it functions m.has, refl); is = ap (option_map Function) m.has })

  register_reads : (class k : ℕ) (t : Token) → IsTrue (nat_lt k 64 && is_in class k) → Mapped NameToken (register_name d.registers k) t → ReadsAs (RegHole class) (Reg (Hard k)) t
  register_reads class k t f m = subst (ReadsAs (RegHole class) (Reg (Hard k))) m.is (record { value = Register_ k; reads = (f, m.has); is = refl })

  number_reads : (low high : ℤ) (inverted : Bool) (v : ℕ) (t : Token) → v < 2 ^ d.word → Mapped NumberToken (printed d.word low high inverted v) t
      → ReadsAs (NumHole low high inverted) (NumBound v) t
  number_reads low high inverted v t f m = subst (ReadsAs (NumHole low high inverted) (NumBound v)) m.is (record { value = Number v; reads = (f, m.has); is = refl })

  block_reads : (b : ℕ) (t : Token) → b < 2 ^ 32 → block_token b ≡ t → ReadsAs LabelHole (Label (BlockLabel b)) t
  block_reads b t f e = subst (ReadsAs LabelHole (Label (BlockLabel b))) e (record { value = Block b; reads = (f, refl); is = refl })

  pub hole_reads : (g : ℕ) (h : Hole) (b : Bound) (t : Token) → IsTrue (fits d.word g h b) → HasNumber b
      → hole_token d.word (naming_of d n) (Some h) (Some b) ≡ Some t → ReadsAs h b t
  hole_reads g (RegHole class) (Reg (Hard k)) t f k' e = register_reads class k t f (mapped NameToken (register_name d.registers k) t e)
  hole_reads g (NumHole low high inverted) (NumBound v) t f k' e =
      number_reads low high inverted v t (ltb-true v (2 ^ d.word) (and_parts (nat_lt v (2 ^ d.word)) (is_some (printed d.word low high inverted v)) f).0)
      (mapped NumberToken (printed d.word low high inverted v) t e)
  hole_reads g SymHole (Sym s) t f k' e = object_reads s t (mapped symbol_token (slice_get n.objects s) t e)
  hole_reads g LabelHole (Label (BlockLabel b)) t f k' e = block_reads b t k' (same_item (block_token b) t e)
  hole_reads g LabelHole (Label (FunctionLabel s)) t f k' e = function_reads s t (mapped symbol_token (slice_get n.functions s) t e)
  hole_reads g _ _ t f k' e = absurd (no_item t e)

  -- what stands in a hole, told by its value
  abbrev pub IsBoundOf : Value → Bound → Type 0
  IsBoundOf (Register_ k) b = b ≡ Reg (Hard k)
  IsBoundOf (Number v) b = b ≡ NumBound v
  IsBoundOf (Object name) b = (s : ℕ) × (b ≡ Sym s) × (slice_get n.objects s ≡ Some name)
  IsBoundOf (Block m) b = b ≡ Label (BlockLabel m)
  IsBoundOf (Function name) b = (f : ℕ) × (b ≡ Label (FunctionLabel f)) × (slice_get n.functions f ≡ Some name)

  from_object : (s : ℕ) (v : Value) → Mapped Object (slice_get n.objects s) v → IsBoundOf v (Sym s)
  from_object s v m = subst (λ (x : Value). IsBoundOf x (Sym s)) m.is (s, refl, m.has)

  from_function : (f : ℕ) (v : Value) → Mapped Function (slice_get n.functions f) v → IsBoundOf v (Label (FunctionLabel f))
  from_function f v m = subst (λ (x : Value). IsBoundOf x (Label (FunctionLabel f))) m.is (f, refl, m.has)

  pub bound_of : (b : Bound) (v : Value) → value_in n b ≡ Some v → IsBoundOf v b
  bound_of (Reg (Hard k)) v e = subst (λ (x : Value). IsBoundOf x (Reg (Hard k))) (same_item (Register_ k) v e) refl
  bound_of (NumBound x) v e = subst (λ (y : Value). IsBoundOf y (NumBound x)) (same_item (Number x) v e) refl
  bound_of (Sym s) v e = from_object s v (mapped Object (slice_get n.objects s) v e)
  bound_of (Label (BlockLabel m)) v e = subst (λ (y : Value). IsBoundOf y (Label (BlockLabel m))) (same_item (Block m) v e) refl
  bound_of (Label (FunctionLabel f)) v e = from_function f v (mapped Function (slice_get n.functions f) v e)
  bound_of _ v e = absurd (no_item v e)

  bound_once_by : (v : Value) (b c : Bound) → IsBoundOf v b → IsBoundOf v c → b ≡ c
  bound_once_by (Register_ k) b c h g = h ∙ sym g
  bound_once_by (Number x) b c h g = h ∙ sym g
  bound_once_by (Object name) b c h g = h.1 ∙ ap Sym (one_place n.objects h.0 g.0 name objects h.2 g.2) ∙ sym g.1
  bound_once_by (Block m) b c h g = h ∙ sym g
  bound_once_by (Function name) b c h g = h.1 ∙ ap (λ (f : ℕ). Label (FunctionLabel f)) (one_place n.functions h.0 g.0 name functions h.2 g.2) ∙ sym g.1

  pub bound_once : (v : Value) (b c : Bound) → value_in n b ≡ Some v → value_in n c ≡ Some v → b ≡ c
  bound_once v b c e f = bound_once_by v b c (bound_of b v e) (bound_of c v f)
