-- The typed tree of an expression is sound, where its names and functions are.
use Rattle.std.proofs.Common.{◌≡◌, ℕ, zero, suc, ◌-◌, ◌%◌, ◌^◌, ◌<◌, ◌==◌, nat_lt, Bool, true, false, not, if◌then◌else◌, Option, Some, None, List, [], ◌∷◌, ◌++◌, map, length, slice_get, refl, ◌∙◌, arith}
use Rattle.std.specs.Prelude.{⊤}
use Rattle.std.specs.Str.{bytes_eq}
use Rattle.std.proofs.lemmas.Bool.Decides.{nat_tests}
use Rattle.std.proofs.lemmas.Nat.{pow_pos, mod_below}
use Rattle.rtl_word.specs.Words.{IsWordSize, word_of_signed}
use Rattle.c_tree.proofs.ExprFolds.{With, expr_keeps}
use Rattle.c_tree.specs.declared.token.At.{At}
use Rattle.c_tree.specs.declared.types.CType.{CType}
use Rattle.c_tree.specs.declared.types.CType.TheVariants as type
use Rattle.c_tree.specs.declared.syntax.Expr.{Expr}
use Rattle.c_tree.specs.declared.syntax.AssignOperator.TheVariants as assign
use Rattle.c_tree.specs.declared.syntax.Expr.TheOpen.{Expr-F, Comma, Assign, Conditional, Binary, Cast, Unary, Before, After, Name, Element, Call, Number, Character, Paren}
use Rattle.c_tree.specs.declared.syntax.Expr.TheFolds.{map-Expr}
use Rattle.c_tree.specs.declared.typed.Variable.{Variable}
use Rattle.c_tree.specs.declared.typed.Callee.{Callee}
use Rattle.c_tree.specs.declared.typed.Callee.TheVariants as callee
use Rattle.c_tree.specs.declared.typed.TypedExpr.{TypedExpr}
use Rattle.c_tree.specs.declared.typed.TypedExpr.TheVariants as tree
use Rattle.c_tree.specs.Heads.{head_of, is_place}
use Rattle.c_typing.specs.declared.names.Meaning.{Meaning}
use Rattle.c_typing.specs.declared.names.Meaning.TheVariants as means
use Rattle.c_typing.specs.declared.names.Signature.{Signature}
use Rattle.c_typing.specs.declared.names.Usage.TheVariants as usage
use Rattle.c_typing.specs.Scopes.{Entry, or_else, meaning}
use Rattle.c_typing.specs.Types.{head, same_type, converted, type_of_words}
use Rattle.c_typing.specs.Expressions as typing
use Rattle.c_typing.specs.Expressions.{Within, Setting, Judged, judge, used, assigned, unless, if_proper, one, two, three, together, is_void, is_no_place, is_macro, meaning_at, misuse, wants, undefined, argument, argument_of, arguments, all_sound, params_of, signature_of, call_to, call_of, call_tree, object_tree, element_tree, number, number_type, comma_tree, assign_tree, compound_tree, conditional_tree, binary_tree, cast_tree, unary_tree, before_tree, after_tree}
use Rattle.c_meaning.specs.Expressions.{Kind}
use Rattle.c_sound.specs.Sound.{Known, is_scalar, is_array, each, is_given, callee_stands, checked, is_sound}
use Rattle.c_sound.proofs.Outcomes.{half_below}
use Rattle.c_sound.proofs.Fine.{no, left_of}
use Rattle.c_sound.proofs.Nodes.{both, constant_sound, object_sound, element_sound, assign_sound, compound_sound, before_sound, after_sound, binary_sound, unary_sound, convert_sound, comma_sound, conditional_sound, call_sound, place_is}

-- where there is a tree, this holds of it
abbrev pub Kept : {A : Type 0} → (A → Bool) → Option A → Type 0
Kept p None = ⊤
Kept p (Some x) = p x ≡ true

pub one_keeps : {A B : Type 0} (p : A → Bool) (q : B → Bool) (f : A → B) → ((x : A) → p x ≡ true → q (f x) ≡ true) → (o : Option A) → Kept p o → Kept q (one f o)
one_keeps p q f g None h = tt
one_keeps p q f g (Some x) h = g x h

pub two_keeps : {A B C : Type 0} (p : A → Bool) (q : B → Bool) (r : C → Bool) (f : A → B → C) → ((x : A) (y : B) → p x ≡ true → q y ≡ true → r (f x y) ≡ true)
    → (o : Option A) (u : Option B) → Kept p o → Kept q u → Kept r (two f o u)
two_keeps p q r f g None u h i = tt
two_keeps p q r f g (Some x) None h i = tt
two_keeps p q r f g (Some x) (Some y) h i = g x y h i

pub three_keeps : {A B C D : Type 0} (p : A → Bool) (q : B → Bool) (r : C → Bool) (v : D → Bool) (f : A → B → C → D)
    → ((x : A) (y : B) (t : C) → p x ≡ true → q y ≡ true → r t ≡ true → v (f x y t) ≡ true)
    → (o : Option A) (u : Option B) (l : Option C) → Kept p o → Kept q u → Kept r l → Kept v (three f o u l)
three_keeps p q r v f g None u l h i j = tt
three_keeps p q r v f g (Some x) None l h i j = tt
three_keeps p q r v f g (Some x) (Some y) None h i j = tt
three_keeps p q r v f g (Some x) (Some y) (Some t) h i j = g x y t h i j

pub unless_keeps : {A : Type 0} (p : A → Bool) (b : Bool) (o : Option A) → Kept p o → Kept p (unless b o)
unless_keeps p true o h = tt
unless_keeps p false o h = h

proper_keeps : {A : Type 0} (p : A → Bool) (r : Option ℕ) (o : Option A) → Kept p o → Kept p (if_proper r o)
proper_keeps p None o h = h
proper_keeps p (Some rule) o h = tt

pub over : (a b : ℕ) → a < b → nat_lt a b ≡ true
over a b h = grind (arith, nat_tests, h)

not_none : (n : ℕ) → (suc n == 0) ≡ true → ⊥
not_none n e = grind (arith, nat_tests, e)

last_word : (w : ℕ) → 2 ^ w - 1 < 2 ^ w
last_word w = omega (arith, pow_pos w)

abbrev pub known_by : Within → (Variable → Kind) → ℕ → Known
known_by g kind n = record { bits = g.bits; kind = kind; functions = n }

abbrev pub is_filled : List CType → Bool
is_filled [] = false
is_filled (t ∷ ts) = true

module _ (kind : Variable → Kind) where
  -- what a name stands for
  abbrev pub Stands : Meaning → Type 0
  Stands (means.Scalar v t) = is_scalar (kind v) ≡ true
  Stands (means.Array v t m) = is_array (kind v) ≡ true
  Stands (means.Function f) = ⊤
  Stands means.EndOfFile = ⊤

  abbrev pub Meant : Option Meaning → Type 0
  Meant None = ⊤
  Meant (Some m) = Stands m

  abbrev pub Names : List Entry → Type 0
  Names [] = ⊤
  Names (e ∷ es) = Stands e.means × Names es

  either : (a b : Option Meaning) → Meant a → Meant b → Meant (or_else a b)
  either None b h i = i
  either (Some m) b h i = h

  chosen : (b : Bool) (m : Meaning) → Stands m → Meant (if b then Some m else None)
  chosen true m h = h
  chosen false m h = tt

  pub looked_up : (es : List Entry) → Names es → (name : List ℕ) → Meant (meaning es name)
  looked_up [] h name = tt
  looked_up (e ∷ es) h name = either (meaning es name) (if bytes_eq e.name name then Some e.means else None) (looked_up es h.1 name) (chosen (bytes_eq e.name name) e.means h.0)

  pub named_more : (es : List Entry) (e : Entry) → Names es → Stands e.means → Names (es ++ e ∷ [])
  named_more [] e h i = (i, tt)
  named_more (x ∷ es) e h i = (h.0, named_more es e h.1 i)

module _ (n : ℕ) where
  -- what a signature calls
  abbrev pub Callable : List CType → Option Callee → Type 0
  Callable ts None = ⊤
  Callable ts (Some (callee.Defined f)) = nat_lt f n ≡ true
  Callable ts (Some callee.Getchar) = ⊤
  Callable ts (Some callee.Putchar) = is_filled ts ≡ true

  abbrev pub Signatures : List Signature → Type 0
  Signatures [] = ⊤
  Signatures (s ∷ ss) = Callable s.params s.callee × Signatures ss

  abbrev Called : Option Signature → Type 0
  Called None = ⊤
  Called (Some s) = Callable s.params s.callee

  called_at : (ss : List Signature) → Signatures ss → (f : ℕ) → Called (slice_get ss f)
  called_at [] h f = tt
  called_at (s ∷ ss) h zero = h.0
  called_at (s ∷ ss) h (suc f) = called_at ss h.1 f

module _ (g : Within) (kind : Variable → Kind) (n : ℕ) where
  abbrev k : Known
  k = known_by g kind n

  -- ---- expressions

  abbrev pub sound : TypedExpr → Bool
  sound = is_sound k

  pub record Good (j : Judged) : Type 0 where
    pub keeps : Kept sound j.seen.tree

  pub used_keeps : (a : Judged) → Good a → Kept sound (used a).seen.tree
  used_keeps a h = unless_keeps sound (is_void a.seen.tree) a.seen.tree h.keeps

  pub converted_sound : (t : CType) (x : TypedExpr) → sound x ≡ true → sound (converted t x) ≡ true
  unfolding converted
  converted_sound t x h = by (same_type (head_of x).of t)
    where
      by : (b : Bool) → sound (if b then x else tree.Convert (head t (head_of x).at) x) ≡ true
      by true = h
      by false = convert_sound k (head t (head_of x).at) x h

  -- a left side is an object or an element
  abbrev Placed : Option TypedExpr → Type 0
  Placed None = ⊤
  Placed (Some x) = ((checked k x).place ≡ true) × (sound x ≡ true)

  placed : (o : Option TypedExpr) → Kept sound o → Placed (unless (is_no_place o) o)
  placed None h = tt
  placed (Some e) h = by (is_place e) refl
    where
      by : (b : Bool) → is_place e ≡ b → Placed (unless (not b) (Some e))
      by true i = (place_is k e ∙ i, h)
      by false i = tt

  assigned_placed : (a : Judged) → Good a → Placed (assigned a).seen.tree
  assigned_placed a h = placed (used a).seen.tree (used_keeps a h)

  one_placed : (f : TypedExpr → TypedExpr) → ((x : TypedExpr) → (checked k x).place ≡ true → sound x ≡ true → sound (f x) ≡ true) → (o : Option TypedExpr) → Placed o → Kept sound (one f o)
  one_placed f g None h = tt
  one_placed f g (Some x) h = g x h.0 h.1

  two_placed : (f : TypedExpr → TypedExpr → TypedExpr) → ((x y : TypedExpr) → (checked k x).place ≡ true → sound x ≡ true → sound y ≡ true → sound (f x y) ≡ true)
      → (o p : Option TypedExpr) → Placed o → Kept sound p → Kept sound (two f o p)
  two_placed f g None p h i = tt
  two_placed f g (Some x) None h i = tt
  two_placed f g (Some x) (Some y) h i = g x y h.0 h.1 i

  -- ---- names

  object_keeps : (at : At) (m : Option Meaning) → Meant kind m → Kept sound (object_tree g.bits at m)
  object_keeps at None h = tt
  object_keeps at (Some (means.Scalar v t)) h = object_sound k (head t at) v h
  object_keeps at (Some (means.Array v t m)) h = tt
  object_keeps at (Some (means.Function f)) h = tt
  object_keeps at (Some means.EndOfFile) h = constant_sound k (head type.Int at) (2 ^ g.bits - 1) (over _ _ (last_word g.bits))

  element_keeps : (at : At) (m : Option Meaning) → Meant kind m → (i : Option TypedExpr) → Kept sound i → Kept sound (element_tree at m i)
  element_keeps at None h i j = tt
  element_keeps at (Some (means.Scalar v t)) h i j = tt
  element_keeps at (Some (means.Array v t m)) h i j = one_keeps sound sound (tree.Element (head t at) v) (λ x l. element_sound k (head t at) v x h l) i j
  element_keeps at (Some (means.Function f)) h i j = tt
  element_keeps at (Some means.EndOfFile) h i j = tt

  -- ---- calls

  abbrev pub Goods : List Judged → Type 0
  Goods [] = ⊤
  Goods (a ∷ as_) = Good a × Goods as_

  goods_of : (as_ : List (With Good)) → Goods (map (λ e. e.0) as_)
  goods_of [] = tt
  goods_of (a ∷ as_) = (a.1, goods_of as_)

  argument_sound : (t : Option CType) (e : TypedExpr) → sound e ≡ true → sound (argument t e) ≡ true
  argument_sound None e h = h
  argument_sound (Some t) e h = converted_sound t e h

  one_more : (t : Option CType) (o : Option TypedExpr) (rest : List TypedExpr) → Kept sound o → each (map (checked k) rest) ≡ true → each (map (checked k) (argument_of t o ++ rest)) ≡ true
  one_more t None rest h i = i
  one_more t (Some e) rest h i = both _ _ (argument_sound t e h) i

  arguments_sound : (ts : List CType) (i : ℕ) (as_ : List Judged) → Goods as_ → each (map (checked k) (arguments ts i as_)) ≡ true
  arguments_sound ts i [] h = refl
  arguments_sound ts i (a ∷ as_) h = one_more (slice_get ts i) (used a).seen.tree (arguments ts (suc i) as_) (used_keeps a h.0) (arguments_sound ts (suc i) as_ h.1)

  first_given : (t : Option CType) (o : Option TypedExpr) (rest : List TypedExpr) → typing.is_sound o ≡ true → is_given (map (checked k) (argument_of t o ++ rest)) ≡ true
  first_given t None rest h = no h
  first_given t (Some e) rest h = refl

  are_given : (us : List CType) → is_filled us ≡ true → (as_ : List Judged) → (length us == length as_) ≡ true → all_sound as_ ≡ true → (ts : List CType) (i : ℕ) → is_given (map (checked k) (arguments ts i as_)) ≡ true
  are_given [] f as_ e h ts i = no f
  are_given (u ∷ us) f [] e h ts i = absurd (not_none (length us) e)
  are_given (u ∷ us) f (a ∷ as_) e h ts i = first_given (slice_get ts i) (used a).seen.tree (arguments ts (suc i) as_) (left_of _ _ h)

  callee_is : (ts : List CType) (as_ : List Judged) (f : Callee) → Callable n ts (Some f) → (length ts == length as_) ≡ true → all_sound as_ ≡ true
      → callee_stands n f (map (checked k) (arguments ts 0 as_)) ≡ true
  callee_is ts as_ (callee.Defined f) h e i = h
  callee_is ts as_ callee.Getchar h e i = refl
  callee_is ts as_ callee.Putchar h e i = are_given ts h as_ e i ts 0

  to_callee : (at : At) (t : CType) (ts : List CType) (as_ : List Judged) → Goods as_ → (length ts == length as_) ≡ true → (f : Option Callee) → Callable n ts f
      → Kept sound (if_proper (undefined f) (unless (not (all_sound as_)) (call_to at t f (arguments ts 0 as_))))
  to_callee at t ts as_ gs e None h = tt
  to_callee at t ts as_ gs e (Some f) h = by (all_sound as_) refl
    where
      by : (b : Bool) → all_sound as_ ≡ b → Kept sound (unless (not b) (Some (tree.Call (head t at) f (arguments ts 0 as_))))
      by true i = call_sound k (head t at) f (arguments ts 0 as_) (callee_is ts as_ f h e i) (arguments_sound ts 0 as_ gs)
      by false i = tt

  to_signature : (at : At) (as_ : List Judged) → Goods as_ → (s : Option Signature) → Called n s
      → Kept sound (if_proper (wants s (length as_)) (unless (not (all_sound as_)) (call_of at s (arguments (params_of s) 0 as_))))
  to_signature at as_ gs None h = tt
  to_signature at as_ gs (Some s) h = by (length s.params == length as_) refl
    where
      by : (b : Bool) → (length s.params == length as_) ≡ b
          → Kept sound (if_proper (if b then undefined s.callee else Some 23) (unless (not (all_sound as_)) (call_to at s.result s.callee (arguments s.params 0 as_))))
      by true e = to_callee at s.result s.params as_ gs e s.callee h
      by false e = tt

  call_keeps : (ss : List Signature) → Signatures n ss → (at : At) (m : Option Meaning) (as_ : List Judged) → Goods as_
      → Kept sound (if_proper (misuse ss m (usage.Function (length as_))) (unless (not (all_sound as_)) (call_tree at m (signature_of ss m) (arguments (params_of (signature_of ss m)) 0 as_))))
  call_keeps ss h at None as_ gs = tt
  call_keeps ss h at (Some (means.Scalar v t)) as_ gs = tt
  call_keeps ss h at (Some (means.Array v t m)) as_ gs = tt
  call_keeps ss h at (Some (means.Function f)) as_ gs = to_signature at as_ gs (slice_get ss f) (called_at n ss h f)
  call_keeps ss h at (Some means.EndOfFile) as_ gs = tt

  -- ---- constants

  module _ (z : IsWordSize g.bits) where
    abbrev Fits : ℕ → Option CType → Type 0
    Fits v None = ⊤
    Fits v (Some t) = nat_lt v (2 ^ g.bits) ≡ true

    whole_fits : (v : ℕ) (t : CType) (b : Bool) → nat_lt v (2 ^ g.bits) ≡ b → Fits v (if b then Some t else None)
    whole_fits v t true e = e
    whole_fits v t false e = tt

    half_fits : (v : ℕ) (t : CType) (other : Option CType) → Fits v other → (b : Bool) → nat_lt v (2 ^ (g.bits - 1)) ≡ b → Fits v (if b then Some t else other)
    half_fits v t other h true e = over v (2 ^ g.bits) (half_below g.bits v z e)
    half_fits v t other h false e = h

    type_fits : (v : ℕ) (d u : Bool) → Fits v (number_type g.bits v d u)
    type_fits v true true = whole_fits v type.Unsigned _ refl
    type_fits v false true = whole_fits v type.Unsigned _ refl
    type_fits v true false = half_fits v type.Int None tt _ refl
    type_fits v false false = half_fits v type.Int (if nat_lt v (2 ^ g.bits) then Some type.Unsigned else None) (whole_fits v type.Unsigned _ refl) _ refl

    number_keeps : (at : At) (v : ℕ) (t : Option CType) → Fits v t → Good (number at v t)
    number_keeps at v None h = record { keeps = tt }
    number_keeps at v (Some t) h = record { keeps = constant_sound k (head t at) v h }

    -- ---- all

    module _ (names : List Entry) (stand : Names kind names) (calls : Signatures n g.signatures) where
      abbrev c : Setting
      c = record { names = names; within = g }

      meant : (name : List ℕ) → Meant kind (meaning_at c name)
      meant name = by (is_macro g.included name)
        where
          by : (b : Bool) → Meant kind (if b then Some means.EndOfFile else meaning names name)
          by true = tt
          by false = looked_up kind names stand name

      step : (y : Expr-F (With Good)) → Good (typing.expression c (map-Expr (With Good) Judged (λ e. e.0) y))
      step (Name at m) = record { keeps = object_keeps at (meaning_at c m) (meant m) }
      step (Element at m a) = record { keeps = element_keeps at (meaning_at c m) (meant m) (used a.0).seen.tree (used_keeps a.0 a.1) }
      step (Call at m as_) = record { keeps = call_keeps g.signatures calls at (meaning_at c m) (map (λ e. e.0) as_) (goods_of as_) }
      step (Number at v d u) = number_keeps at v (number_type g.bits v d u) (type_fits v d u)
      step (Character at v) = record { keeps = constant_sound k (head type.Int at) (word_of_signed g.bits v % 2 ^ g.bits) (over _ _ (mod_below _ _ (pow_pos g.bits))) }
      step (Comma at a b) = record { keeps = two_keeps sound sound sound (comma_tree at) (λ x y h i. comma_sound k _ x y h i) a.0.seen.tree b.0.seen.tree a.1.keeps b.1.keeps }
      step (Assign at a assign.Plain b) = record {
        keeps = two_placed (assign_tree at) (λ x y p h i. assign_sound k _ x _ p h (converted_sound _ y i))
            (assigned a.0).seen.tree (used b.0).seen.tree (assigned_placed a.0 a.1) (used_keeps b.0 b.1);
      }
      step (Assign at a (assign.Compound o) b) = record {
        keeps = two_placed (compound_tree at o) (λ x y p h i. compound_sound k _ x o _ p h (converted_sound _ y i))
            (assigned a.0).seen.tree (used b.0).seen.tree (assigned_placed a.0 a.1) (used_keeps b.0 b.1);
      }
      step (Conditional at a b d) = record {
        keeps = unless_keeps sound _ _ (three_keeps sound sound sound sound (conditional_tree at)
            (λ x y t h i j. conditional_sound k _ x _ _ h (converted_sound _ y i) (converted_sound _ t j)) (used a.0).seen.tree b.0.seen.tree d.0.seen.tree (used_keeps a.0 a.1) b.1.keeps d.1.keeps);
      }
      step (Binary at a o b) = record {
        keeps = two_keeps sound sound sound (binary_tree at o) (λ x y h i. binary_sound k _ _ o _ (converted_sound _ x h) (converted_sound _ y i))
            (used a.0).seen.tree (used b.0).seen.tree (used_keeps a.0 a.1) (used_keeps b.0 b.1);
      }
      step (Cast at t a) = record { keeps = one_keeps sound sound (cast_tree at (type_of_words t)) (λ x h. convert_sound k _ x h) (used a.0).seen.tree (used_keeps a.0 a.1) }
      step (Unary at o a) = record { keeps = one_keeps sound sound (unary_tree at o) (λ x h. unary_sound k _ o _ (converted_sound _ x h)) (used a.0).seen.tree (used_keeps a.0 a.1) }
      step (Before at o a) = record { keeps = one_placed (before_tree at o) (λ x p h. before_sound k _ o x p h) (assigned a.0).seen.tree (assigned_placed a.0 a.1) }
      step (After at a o) = record { keeps = one_placed (after_tree at o) (λ x p h. after_sound k _ x o p h) (assigned a.0).seen.tree (assigned_placed a.0 a.1) }
      step (Paren at a) = record { keeps = a.1.keeps }

      pub judged_good : (e : Expr) → Good (judge c e)
      judged_good e = expr_keeps Judged (typing.expression c) Good step e
