-- The typed tree of an expression is sound, where its names have the kinds that they stand for and its functions the types that they are called with.
use Rattle.std.proofs.Common.{◌≡◌, ℕ, zero, suc, ◌+◌, ◌-◌, ◌%◌, ◌^◌, ◌<◌, ◌==◌, nat_lt, Bool, true, false, ◌&&◌, ◌||◌, not, if◌then◌else◌, Option, Some, None, List, [], ◌∷◌, ◌++◌, map, length, slice_get, refl, sym, ap, ◌∙◌, subst, arith}
use Rattle.std.specs.Prelude.{⊤}
use Rattle.std.specs.Str.{bytes_eq}
use Rattle.std.proofs.lemmas.Bool.{and_from as both}
use Rattle.std.proofs.lemmas.Bool.Decides.{nat_tests}
use Rattle.std.proofs.lemmas.Nat.{pow_pos, mod_below}
use Rattle.std.proofs.Math.Nat.{pow-suc, mod-eq_of_lt}
use Rattle.rtl_word.specs.Words.{word_of_signed}
use Rattle.c_tree.proofs.ExprFolds.{With, expr_keeps}
use Rattle.c_tree.specs.declared.token.At.{At}
use Rattle.c_tree.specs.declared.types.CType.{CType}
use Rattle.c_tree.specs.declared.types.CType.TheVariants as type
use Rattle.c_tree.specs.declared.syntax.Expr.{Expr}
use Rattle.c_tree.specs.declared.syntax.BinaryOperator.{BinaryOperator}
use Rattle.c_tree.specs.declared.syntax.UnaryOperator.{UnaryOperator}
use Rattle.c_tree.specs.declared.syntax.AssignOperator.TheVariants as assign
use Rattle.c_tree.specs.declared.syntax.Expr.TheOpen.{Expr-F, Comma, Assign, Conditional, Binary, Cast, Unary, Before, After, Name, Element, Call, Number, Character, Paren}
use Rattle.c_tree.specs.declared.syntax.Expr.TheFolds.{map-Expr}
use Rattle.c_tree.specs.declared.typed.Variable.{Variable}
use Rattle.c_tree.specs.declared.typed.Object.{Object}
use Rattle.c_tree.specs.declared.typed.Callee.{Callee}
use Rattle.c_tree.specs.declared.typed.Callee.TheVariants as callee
use Rattle.c_tree.specs.declared.typed.TypedExpr.{TypedExpr, out-TypedExpr}
use Rattle.c_tree.specs.declared.typed.TypedExpr.TheVariants as tree
use Rattle.c_tree.specs.declared.typed.Function.{Function}
use Rattle.c_tree.specs.declared.typed.Typed.{Typed}
use Rattle.c_tree.specs.Heads.{head_of}
use denote.Hole.Carrier
use Rattle.c_limits.specs.Frames.{is_helper}
use Rattle.c_typing.specs.declared.names.Meaning.{Meaning}
use Rattle.c_typing.specs.declared.names.Meaning.TheVariants as means
use Rattle.c_typing.specs.declared.names.Signature.{Signature}
use Rattle.c_typing.specs.declared.names.Usage.TheVariants as usage
use Rattle.c_typing.specs.Scopes.{Entry, or_else, meaning}
use Rattle.c_typing.specs.Types.{head, same_type, converted, type_of_words, promoted, usual, usual_promoted, is_logical, is_relation, is_shift, is_not, binary_type, unary_type}
use Rattle.c_typing.specs.Expressions as typing
use Rattle.c_typing.specs.Expressions.{Within, Setting, Judged, judge, used, assigned, unless, if_proper, one, is_void, is_no_place, is_macro, meaning_at, misuse, wants, undefined, argument, argument_of, arguments, all_sound, params_of, signature_of, call_to, call_of, call_tree, object_tree, element_tree, number, number_type, comma_tree, assign_tree, compound_tree, conditional_tree, binary_tree, cast_tree, unary_tree, before_tree, after_tree}
use Rattle.c_typing.proofs.Trees.{no, left_of, right_of}
use Rattle.c_meaning.specs.Operators.{as_type}
use Rattle.c_meaning.specs.Expressions.{Kind, scalar, array}
use Rattle.c_meaning.specs.Run.{kind_in}
use Rattle.c_sound.proofs.Judged.{Kept, one_keeps, two_keeps, three_keeps, unless_keeps}
use Rattle.naive_run.specs.Sound.{checked, is_word, all_fit, fits_function, are_words, fits_call, has_type}
use Rattle.naive_typed.proofs.Nodes.{alike_is, ok, of_is, constant_ok, object_ok, element_ok, assign_ok, compound_ok, before_ok, after_ok, binary_ok, unary_ok, convert_ok, comma_ok, conditional_ok, call_ok}

-- ---- types

pub same_type_is : (a b : CType) → same_type a b ≡ true → a ≡ b
same_type_is type.Schar type.Schar e = refl
same_type_is type.Schar type.Uchar e = no e
same_type_is type.Schar type.Int e = no e
same_type_is type.Schar type.Unsigned e = no e
same_type_is type.Schar type.Void e = no e
same_type_is type.Uchar type.Schar e = no e
same_type_is type.Uchar type.Uchar e = refl
same_type_is type.Uchar type.Int e = no e
same_type_is type.Uchar type.Unsigned e = no e
same_type_is type.Uchar type.Void e = no e
same_type_is type.Int type.Schar e = no e
same_type_is type.Int type.Uchar e = no e
same_type_is type.Int type.Int e = refl
same_type_is type.Int type.Unsigned e = no e
same_type_is type.Int type.Void e = no e
same_type_is type.Unsigned type.Schar e = no e
same_type_is type.Unsigned type.Uchar e = no e
same_type_is type.Unsigned type.Int e = no e
same_type_is type.Unsigned type.Unsigned e = refl
same_type_is type.Unsigned type.Void e = no e
same_type_is type.Void type.Schar e = no e
same_type_is type.Void type.Uchar e = no e
same_type_is type.Void type.Int e = no e
same_type_is type.Void type.Unsigned e = no e
same_type_is type.Void type.Void e = refl

pub promoted_word : (a : CType) → not (same_type a type.Void) ≡ true → is_word (promoted a) ≡ true
unfolding promoted
promoted_word type.Schar h = refl
promoted_word type.Uchar h = refl
promoted_word type.Int h = refl
promoted_word type.Unsigned h = refl
promoted_word type.Void h = no h

usual_promoted_word : (a b : CType) → is_word (usual_promoted a b) ≡ true
usual_promoted_word type.Schar type.Schar = refl
usual_promoted_word type.Schar type.Uchar = refl
usual_promoted_word type.Schar type.Int = refl
usual_promoted_word type.Schar type.Unsigned = refl
usual_promoted_word type.Schar type.Void = refl
usual_promoted_word type.Uchar type.Schar = refl
usual_promoted_word type.Uchar type.Uchar = refl
usual_promoted_word type.Uchar type.Int = refl
usual_promoted_word type.Uchar type.Unsigned = refl
usual_promoted_word type.Uchar type.Void = refl
usual_promoted_word type.Int type.Schar = refl
usual_promoted_word type.Int type.Uchar = refl
usual_promoted_word type.Int type.Int = refl
usual_promoted_word type.Int type.Unsigned = refl
usual_promoted_word type.Int type.Void = refl
usual_promoted_word type.Unsigned b = refl
usual_promoted_word type.Void type.Schar = refl
usual_promoted_word type.Void type.Uchar = refl
usual_promoted_word type.Void type.Int = refl
usual_promoted_word type.Void type.Unsigned = refl
usual_promoted_word type.Void type.Void = refl

usual_word : (a b : CType) → is_word (usual a b) ≡ true
unfolding usual
usual_word a b = usual_promoted_word (promoted a) (promoted b)

binary_word : (o : BinaryOperator) (a b : CType) → not (same_type a type.Void) ≡ true → is_word (binary_type o a b) ≡ true
binary_word o a b h = by (is_logical o) (is_relation o) (is_shift o)
  where
    by : (l r s : Bool) → is_word (if l || r then type.Int else (if l then a else (if s then promoted a else usual a b))) ≡ true
    by true r s = refl
    by false true s = refl
    by false false true = promoted_word a h
    by false false false = usual_word a b

unary_word : (o : UnaryOperator) (a : CType) → not (same_type a type.Void) ≡ true → is_word (unary_type o a) ≡ true
unary_word o a h = by (is_not o)
  where
    by : (b : Bool) → is_word (if b then type.Int else promoted a) ≡ true
    by true = refl
    by false = promoted_word a h

convert_of : (u : CType) (at : At) (x : TypedExpr) → (head_of (tree.Convert (head u at) x)).of ≡ u
unfolding head_of out-TypedExpr denote.Hole.Carrier.out denote.Hole.Carrier.roll
convert_of u at x = refl

pub converted_of : (u : CType) (x : TypedExpr) → (head_of (converted u x)).of ≡ u
unfolding converted
converted_of u x = by (same_type (head_of x).of u) refl
  where
    by : (b : Bool) → same_type (head_of x).of u ≡ b → (head_of (if b then x else tree.Convert (head u (head_of x).at) x)).of ≡ u
    by true e = same_type_is (head_of x).of u e
    by false e = convert_of u (head_of x).at x

same_number : (v : ℕ) → (v == v) ≡ true
same_number v = grind (arith, nat_tests)

never_more : (n : ℕ) → (0 == suc n) ≡ true → ⊥
never_more n e = grind (arith, nat_tests, e)

never_less : (n : ℕ) → (suc n == 0) ≡ true → ⊥
never_less n e = grind (arith, nat_tests, e)

one_less : (m n : ℕ) → (suc m == suc n) ≡ true → (m == n) ≡ true
one_less m n e = grind (arith, nat_tests, e)

below : (a b : ℕ) → nat_lt a b ≡ true → a < b
below a b e = grind (arith, nat_tests, e)

below_half : (w v : ℕ) → v < 2 ^ (w - 1) → v < 2 ^ w
below_half zero v h = h
below_half (suc n) v h =
    let less : suc n - 1 ≡ n = omega arith in
    let small : v < 2 ^ n = subst (λ (k : ℕ). v < 2 ^ k) less h in
    omega (arith, pow-suc 2 n, small)

is_itself : (w v : ℕ) → v < 2 ^ w → (v % 2 ^ w == v) ≡ true
is_itself w v h = ap (λ (n : ℕ). n == v) (mod-eq_of_lt h) ∙ same_number v

word_constant : (w v : ℕ) (u : CType) → is_word u ≡ true → v < 2 ^ w → (as_type w u v == v) ≡ true
word_constant w v type.Schar h i = no h
word_constant w v type.Uchar h i = no h
word_constant w v type.Int h i = is_itself w v i
word_constant w v type.Unsigned h i = is_itself w v i
word_constant w v type.Void h i = no h

-- a number's type has it as a value
abbrev Fits : ℕ → ℕ → Option CType → Type 0
Fits w v None = ⊤
Fits w v (Some u) = (is_word u ≡ true) × (v < 2 ^ w)

whole_fits : (w v : ℕ) (b : Bool) → nat_lt v (2 ^ w) ≡ b → Fits w v (if b then Some type.Unsigned else None)
whole_fits w v true e = (refl, below v (2 ^ w) e)
whole_fits w v false e = tt

half_fits : (w v : ℕ) (o : Option CType) → Fits w v o → (b : Bool) → nat_lt v (2 ^ (w - 1)) ≡ b → Fits w v (if b then Some type.Int else o)
half_fits w v o h true e = (refl, below_half w v (below v (2 ^ (w - 1)) e))
half_fits w v o h false e = h

number_fits : (w v : ℕ) (d u : Bool) → Fits w v (number_type w v d u)
number_fits w v true true = whole_fits w v _ refl
number_fits w v false true = whole_fits w v _ refl
number_fits w v true false = half_fits w v None tt _ refl
number_fits w v false false = half_fits w v (if nat_lt v (2 ^ w) then Some type.Unsigned else None) (whole_fits w v _ refl) _ refl

-- ---- names

module _ (kind : Variable → Kind) where
  -- what a name stands for
  abbrev pub Stands : Meaning → Type 0
  Stands (means.Scalar v u) = kind v ≡ scalar u
  Stands (means.Array v u m) = kind v ≡ array u m
  Stands (means.Function f) = ⊤
  Stands means.EndOfFile = ⊤

  abbrev pub Meant : Option Meaning → Type 0
  Meant None = ⊤
  Meant (Some m) = Stands m

  abbrev pub Names : List Entry → Type 0
  Names [] = ⊤
  Names (e ∷ es) = Stands e.means × Names es

  either : (a b : Option Meaning) → Meant a → Meant b → Meant (or_else a b)
  either None b h i = i
  either (Some m) b h i = h

  chosen : (b : Bool) (m : Meaning) → Stands m → Meant (if b then Some m else None)
  chosen true m h = h
  chosen false m h = tt

  pub looked_up : (es : List Entry) → Names es → (name : List ℕ) → Meant (meaning es name)
  looked_up [] h name = tt
  looked_up (e ∷ es) h name = either (meaning es name) (if bytes_eq e.name name then Some e.means else None) (looked_up es h.1 name) (chosen (bytes_eq e.name name) e.means h.0)

  pub named_more : (es : List Entry) (e : Entry) → Names es → Stands e.means → Names (es ++ e ∷ [])
  named_more [] e h i = (i, tt)
  named_more (x ∷ es) e h i = (h.0, named_more es e h.1 i)

-- ---- what a signature calls: a function of this type

abbrev pub elements : List Object → List CType
elements os = map (λ o. o.element) os

pub one_each : (os : List Object) → length (elements os) ≡ length os
one_each [] = refl
one_each (o ∷ os) = ap suc (one_each os)

abbrev pub Is_function : CType → List CType → Option Function → Type 0
Is_function u ts None = ⊥
Is_function u ts (Some f) = (f.result ≡ u) × (elements f.params ≡ ts)

abbrev pub Callable : Typed → CType → List CType → Option Callee → Type 0
Callable t u ts None = ⊤
Callable t u ts (Some (callee.Defined k)) = Is_function u ts (slice_get t.functions k)
Callable t u ts (Some callee.Getchar) = (u ≡ type.Int) × (ts ≡ [])
Callable t u ts (Some callee.Putchar) = (u ≡ type.Int) × (ts ≡ type.Int ∷ [])

abbrev pub Signatures : Typed → List Signature → Type 0
Signatures t [] = ⊤
Signatures t (s ∷ ss) = Callable t s.result s.params s.callee × Signatures t ss

abbrev Called : Typed → Option Signature → Type 0
Called t None = ⊤
Called t (Some s) = Callable t s.result s.params s.callee

called_at : (t : Typed) (ss : List Signature) → Signatures t ss → (f : ℕ) → Called t (slice_get ss f)
called_at t [] h f = tt
called_at t (s ∷ ss) h zero = h.0
called_at t (s ∷ ss) h (suc f) = called_at t ss h.1 f

module _ (g : Within) (t : Typed) (f : Function) (plain : not (is_helper f.name) ≡ true) where
  abbrev sound : TypedExpr → Bool
  sound = ok g.bits t f

  abbrev kind : Variable → Kind
  kind = kind_in t f

  -- a sound tree of which the value may be used
  abbrev pub valued : TypedExpr → Bool
  valued x = ok g.bits t f x && not (same_type (head_of x).of type.Void)

  pub record Good (j : Judged) : Type 0 where
    pub keeps : Kept sound j.seen.tree

  value_keeps : (o : Option TypedExpr) → Kept sound o → Kept valued (unless (is_void o) o)
  value_keeps None h = tt
  value_keeps (Some e) h = by (same_type (head_of e).of type.Void) refl
    where
      by : (b : Bool) → same_type (head_of e).of type.Void ≡ b → Kept valued (unless b (Some e))
      by true i = tt
      by false i = both _ _ h (ap not i)

  pub used_keeps : (a : Judged) → Good a → Kept valued (used a).seen.tree
  used_keeps a h = value_keeps a.seen.tree h.keeps

  assigned_keeps : (a : Judged) → Good a → Kept valued (assigned a).seen.tree
  assigned_keeps a h = unless_keeps valued (is_no_place (used a).seen.tree) (used a).seen.tree (used_keeps a h)

  pub converted_ok : (u : CType) (x : TypedExpr) → sound x ≡ true → sound (converted u x) ≡ true
  unfolding converted
  converted_ok u x h = by (same_type (head_of x).of u)
    where
      by : (b : Bool) → sound (if b then x else tree.Convert (head u (head_of x).at) x) ≡ true
      by true = h
      by false = convert_ok g.bits t f (head u (head_of x).at) x h

  pub converted_has : (u : CType) (x : TypedExpr) → valued x ≡ true → has_type g.bits t f u (converted u x) ≡ true
  converted_has u x h = both _ _ (converted_ok u x (left_of _ _ h)) (alike_is _ u (of_is g.bits t f (converted u x) ∙ converted_of u x))

  -- ---- names

  object_keeps : (at : At) (m : Option Meaning) → Meant kind m → Kept sound (object_tree g.bits at m)
  object_keeps at None h = tt
  object_keeps at (Some (means.Scalar v u)) h = object_ok g.bits t f (head u at) v h
  object_keeps at (Some (means.Array v u m)) h = tt
  object_keeps at (Some (means.Function i)) h = tt
  object_keeps at (Some means.EndOfFile) h = constant_ok g.bits t f (head type.Int at) (2 ^ g.bits - 1) (is_itself g.bits (2 ^ g.bits - 1) (omega (arith, pow_pos g.bits)))

  element_keeps : (at : At) (m : Option Meaning) → Meant kind m → (i : Option TypedExpr) → Kept valued i → Kept sound (element_tree at m i)
  element_keeps at None h i j = tt
  element_keeps at (Some (means.Scalar v u)) h i j = tt
  element_keeps at (Some (means.Array v u m)) h i j = one_keeps valued sound (tree.Element (head u at) v) (λ x l. element_ok g.bits t f (head u at) v m x h (left_of _ _ l)) i j
  element_keeps at (Some (means.Function k)) h i j = tt
  element_keeps at (Some means.EndOfFile) h i j = tt

  -- ---- calls

  abbrev pub Goods : List Judged → Type 0
  Goods [] = ⊤
  Goods (a ∷ as_) = Good a × Goods as_

  goods_of : (as_ : List (With Good)) → Goods (map (λ e. e.0) as_)
  goods_of [] = tt
  goods_of (a ∷ as_) = (a.1, goods_of as_)

  one_fits : (p : Option CType) (o : Option TypedExpr) (rest : List TypedExpr) (x : Object) (os : List Object) → p ≡ Some x.element → Kept valued o → typing.is_sound o ≡ true
      → all_fit (map (checked g.bits t f) rest) os ≡ true → all_fit (map (checked g.bits t f) (argument_of p o ++ rest)) (x ∷ os) ≡ true
  one_fits p None rest x os e h i j = no i
  one_fits p (Some y) rest x os e h i j =
      subst (λ q. all_fit (map (checked g.bits t f) (argument_of q (Some y) ++ rest)) (x ∷ os) ≡ true) (sym e) (both _ _ (converted_has x.element y h) j)

  all_given : (ts : List CType) (i : ℕ) (os : List Object) → ((j : ℕ) → slice_get ts (i + j) ≡ slice_get (elements os) j) → (as_ : List Judged) → Goods as_
      → (length os == length as_) ≡ true → all_sound as_ ≡ true → all_fit (map (checked g.bits t f) (arguments ts i as_)) os ≡ true
  all_given ts i [] at [] h e k = refl
  all_given ts i [] at (a ∷ as_) h e k = absurd (never_more (length as_) e)
  all_given ts i (o ∷ os) at [] h e k = absurd (never_less (length os) e)
  all_given ts i (o ∷ os) at (a ∷ as_) h e k =
      let here : i ≡ i + 0 = omega arith in
      let next : (j : ℕ) → suc i + j ≡ i + suc j = λ j. omega arith in
      one_fits (slice_get ts i) (used a).seen.tree (arguments ts (suc i) as_) o os (ap (slice_get ts) here ∙ at 0) (used_keeps a h.0) (left_of _ _ k)
      (all_given ts (suc i) os (λ j. ap (slice_get ts) (next j) ∙ at (suc j)) as_ h.1 (one_less (length os) (length as_) e) (right_of _ _ k))

  from_zero : (j : ℕ) → 0 + j ≡ j
  from_zero j = omega arith

  function_fits : (u : CType) (ts : List CType) (as_ : List Judged) → Goods as_ → (length ts == length as_) ≡ true → all_sound as_ ≡ true
      → (o : Option Function) → Is_function u ts o → fits_function u (map (checked g.bits t f) (arguments ts 0 as_)) o ≡ true
  function_fits u ts as_ gs e k None h = absurd h
  function_fits u ts as_ gs e k (Some x) h = both _ _ (alike_is u x.result (sym h.0))
      (all_given ts 0 x.params (λ j. ap (slice_get ts) (from_zero j) ∙ ap (λ us. slice_get us j) (sym h.1)) as_ gs
      (ap (λ n. n == length as_) (sym (one_each x.params) ∙ ap length h.1) ∙ e) k)

  no_words : (as_ : List Judged) → (0 == length as_) ≡ true → (ts : List CType) → are_words 0 (map (checked g.bits t f) (arguments ts 0 as_)) ≡ true
  no_words [] e ts = refl
  no_words (a ∷ as_) e ts = absurd (never_more (length as_) e)

  word_given : (o : Option TypedExpr) → Kept valued o → typing.is_sound o ≡ true → are_words 1 (map (checked g.bits t f) (argument_of (Some type.Int) o ++ [])) ≡ true
  word_given None h k = no k
  word_given (Some y) h k = both _ _ (both _ _ (converted_ok type.Int y (left_of _ _ h)) (ap is_word (of_is g.bits t f (converted type.Int y) ∙ converted_of type.Int y))) refl

  one_word : (as_ : List Judged) → Goods as_ → (1 == length as_) ≡ true → all_sound as_ ≡ true → are_words 1 (map (checked g.bits t f) (arguments (type.Int ∷ []) 0 as_)) ≡ true
  one_word [] gs e k = absurd (never_less 0 e)
  one_word (a ∷ []) gs e k = word_given (used a).seen.tree (used_keeps a gs.0) (left_of _ _ k)
  one_word (a ∷ b ∷ as_) gs e k = absurd (never_more (length as_) (one_less 0 (suc (length as_)) e))

  callee_fits : (u : CType) (ts : List CType) (as_ : List Judged) → Goods as_ → (length ts == length as_) ≡ true → all_sound as_ ≡ true
      → (c : Callee) → Callable t u ts (Some c) → fits_call g.bits t f u c (map (checked g.bits t f) (arguments ts 0 as_)) ≡ true
  callee_fits u ts as_ gs e k (callee.Defined i) h = both _ _ plain (function_fits u ts as_ gs e k (slice_get t.functions i) h)
  callee_fits u ts as_ gs e k callee.Getchar h = both _ _ (ap is_word h.0) (no_words as_ (ap (λ (us : List CType). length us == length as_) (sym h.1) ∙ e) ts)
  callee_fits u ts as_ gs e k callee.Putchar h = both _ _ (ap is_word h.0)
      (subst (λ us. are_words 1 (map (checked g.bits t f) (arguments us 0 as_)) ≡ true) (sym h.1) (one_word as_ gs (ap (λ (us : List CType). length us == length as_) (sym h.1) ∙ e) k))

  to_callee : (at : At) (u : CType) (ts : List CType) (as_ : List Judged) → Goods as_ → (length ts == length as_) ≡ true → (c : Option Callee) → Callable t u ts c
      → Kept sound (if_proper (undefined c) (unless (not (all_sound as_)) (call_to at u c (arguments ts 0 as_))))
  to_callee at u ts as_ gs e None h = tt
  to_callee at u ts as_ gs e (Some c) h = by (all_sound as_) refl
    where
      by : (b : Bool) → all_sound as_ ≡ b → Kept sound (unless (not b) (Some (tree.Call (head u at) c (arguments ts 0 as_))))
      by true i = call_ok g.bits t f (head u at) c (arguments ts 0 as_) (callee_fits u ts as_ gs e i c h)
      by false i = tt

  to_signature : (at : At) (as_ : List Judged) → Goods as_ → (s : Option Signature) → Called t s
      → Kept sound (if_proper (wants s (length as_)) (unless (not (all_sound as_)) (call_of at s (arguments (params_of s) 0 as_))))
  to_signature at as_ gs None h = tt
  to_signature at as_ gs (Some s) h = by (length s.params == length as_) refl
    where
      by : (b : Bool) → (length s.params == length as_) ≡ b
          → Kept sound (if_proper (if b then undefined s.callee else Some 23) (unless (not (all_sound as_)) (call_to at s.result s.callee (arguments s.params 0 as_))))
      by true e = to_callee at s.result s.params as_ gs e s.callee h
      by false e = tt

  call_keeps : (ss : List Signature) → Signatures t ss → (at : At) (m : Option Meaning) (as_ : List Judged) → Goods as_
      → Kept sound (if_proper (misuse ss m (usage.Function (length as_))) (unless (not (all_sound as_)) (call_tree at m (signature_of ss m) (arguments (params_of (signature_of ss m)) 0 as_))))
  call_keeps ss h at None as_ gs = tt
  call_keeps ss h at (Some (means.Scalar v u)) as_ gs = tt
  call_keeps ss h at (Some (means.Array v u m)) as_ gs = tt
  call_keeps ss h at (Some (means.Function i)) as_ gs = to_signature at as_ gs (slice_get ss i) (called_at t ss h i)
  call_keeps ss h at (Some means.EndOfFile) as_ gs = tt

  number_keeps : (at : At) (v : ℕ) (u : Option CType) → Fits g.bits v u → Good (number at v u)
  number_keeps at v None h = record { keeps = tt }
  number_keeps at v (Some u) h = record { keeps = constant_ok g.bits t f (head u at) v (word_constant g.bits v u h.0 h.1) }

  -- ---- all

  module _ (names : List Entry) (stand : Names kind names) (calls : Signatures t g.signatures) where
    abbrev c : Setting
    c = record { names = names; within = g }

    meant : (name : List ℕ) → Meant kind (meaning_at c name)
    meant name = by (is_macro g.included name)
      where
        by : (b : Bool) → Meant kind (if b then Some means.EndOfFile else meaning names name)
        by true = tt
        by false = looked_up kind names stand name

    step : (y : Expr-F (With Good)) → Good (typing.expression c (map-Expr (With Good) Judged (λ e. e.0) y))
    step (Name at m) = record { keeps = object_keeps at (meaning_at c m) (meant m) }
    step (Element at m a) = record { keeps = element_keeps at (meaning_at c m) (meant m) (used a.0).seen.tree (used_keeps a.0 a.1) }
    step (Call at m as_) = record { keeps = call_keeps g.signatures calls at (meaning_at c m) (map (λ e. e.0) as_) (goods_of as_) }
    step (Number at v d u) = number_keeps at v (number_type g.bits v d u) (number_fits g.bits v d u)
    step (Character at v) = record { keeps = constant_ok g.bits t f (head type.Int at) (word_of_signed g.bits v % 2 ^ g.bits) (is_itself g.bits _ (mod_below _ _ (pow_pos g.bits))) }
    step (Comma at a b) = record { keeps = two_keeps sound sound sound (comma_tree at) (λ x y h i. comma_ok g.bits t f _ x y refl h i) a.0.seen.tree b.0.seen.tree a.1.keeps b.1.keeps }
    step (Assign at a assign.Plain b) = record {
      keeps = two_keeps valued valued sound (assign_tree at) (λ x y h i. assign_ok g.bits t f _ x _ refl (converted_of _ y) (left_of _ _ h) (converted_ok _ y (left_of _ _ i)))
          (assigned a.0).seen.tree (used b.0).seen.tree (assigned_keeps a.0 a.1) (used_keeps b.0 b.1);
    }
    step (Assign at a (assign.Compound o) b) = record {
      keeps = two_keeps valued valued sound (compound_tree at o) (λ x y h i. compound_ok g.bits t f _ x o _ refl (left_of _ _ h) (converted_ok _ y (left_of _ _ i)))
          (assigned a.0).seen.tree (used b.0).seen.tree (assigned_keeps a.0 a.1) (used_keeps b.0 b.1);
    }
    step (Conditional at a b d) = record {
      keeps = unless_keeps sound _ _ (three_keeps valued sound sound sound (conditional_tree at)
          (λ x y u h i j. conditional_ok g.bits t f _ x _ _ (sym (converted_of _ y)) (sym (converted_of _ u)) (left_of _ _ h) (converted_ok _ y i) (converted_ok _ u j))
          (used a.0).seen.tree b.0.seen.tree d.0.seen.tree (used_keeps a.0 a.1) b.1.keeps d.1.keeps);
    }
    step (Binary at a o b) = record {
      keeps = two_keeps valued valued sound (binary_tree at o)
          (λ x y h i. binary_ok g.bits t f _ _ o _ (binary_word o _ _ (right_of _ _ h)) (converted_ok _ x (left_of _ _ h)) (converted_ok _ y (left_of _ _ i)))
          (used a.0).seen.tree (used b.0).seen.tree (used_keeps a.0 a.1) (used_keeps b.0 b.1);
    }
    step (Cast at u a) = record { keeps = one_keeps valued sound (cast_tree at (type_of_words u)) (λ x h. convert_ok g.bits t f _ x (left_of _ _ h)) (used a.0).seen.tree (used_keeps a.0 a.1) }
    step (Unary at o a) = record {
      keeps = one_keeps valued sound (unary_tree at o) (λ x h. unary_ok g.bits t f _ o _ (unary_word o _ (right_of _ _ h)) (converted_ok _ x (left_of _ _ h)))
          (used a.0).seen.tree (used_keeps a.0 a.1);
    }
    step (Before at o a) = record { keeps = one_keeps valued sound (before_tree at o) (λ x h. before_ok g.bits t f _ o x refl (left_of _ _ h)) (assigned a.0).seen.tree (assigned_keeps a.0 a.1) }
    step (After at a o) = record { keeps = one_keeps valued sound (after_tree at o) (λ x h. after_ok g.bits t f _ x o refl (left_of _ _ h)) (assigned a.0).seen.tree (assigned_keeps a.0 a.1) }
    step (Paren at a) = record { keeps = a.1.keeps }

    pub judged_good : (e : Expr) → Good (judge c e)
    judged_good e = expr_keeps Judged (typing.expression c) Good step e
