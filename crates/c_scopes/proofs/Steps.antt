-- One more of a list that is walked: what was gathered, and what comes of the rest, is all.
use Rattle.std.proofs.Common.{◌≡◌, ◌<◌, ◌≤◌, ◌+◌, ℕ, Bool, true, false, ◌&&◌, suc, zero, map, drop, length, get_or, slice_get, nat_le, arith, Option, Some, None, List, [], ◌∷◌, ◌++◌, refl, sym, ap, ◌∙◌, subst}
use mathlib.Core.List.{append_assoc, append-nil}
use Rattle.std.proofs.lemmas.Bool.Decides.{nat_tests}
use Rattle.c_typing.specs.declared.names.Fault.{Fault}
use Rattle.c_typing.specs.Faults.{notes, ◌also◌}
use Rattle.c_typing.specs.Statements as spec
use Rattle.c_tree.specs.declared.types.CType.{CType}
use Rattle.c_tree.specs.declared.syntax.Expr.{Expr}
use Rattle.c_tree.specs.declared.syntax.Parameter.{Parameter}
use Rattle.c_tree.specs.declared.typed.TypedExpr.{TypedExpr}
use Rattle.c_typing.specs.declared.names.Extent.{Extent}
use Rattle.c_typing.specs.Types.{converted}
use Rattle.c_typing.specs.Expressions.{Judged, broken_if, one}
use Rattle.c_typing.specs.Functions.{same_types}
use Rattle.c_scopes.specs.Types.{is_type}

less : (m n : ℕ) → suc m < suc n → m < n
less m n h = omega arith

never : (n : ℕ) → n < 0 → ⊥
never n h = omega arith

one_more : (n : ℕ) → n + 1 ≡ suc n
one_more n = omega arith

item_at : {X : Type 0} (n : ℕ) (xs : List X) (x : X) → n < length xs → x ≡ get_or xs n x → drop n xs ≡ x ∷ drop (suc n) xs
item_at n [] x h e = absurd (never n h)
item_at zero (y ∷ xs) x h e = ap (λ z. z ∷ xs) (sym e)
item_at (suc n) (y ∷ xs) x h e = item_at n xs x (less n (length xs) h) e

pub next_item : {X : Type 0} (n : ℕ) (xs : List X) (x : X) → n < length xs → x ≡ get_or xs n x → drop n xs ≡ x ∷ drop (n + 1) xs
next_item n xs x h e = subst (λ k. drop n xs ≡ x ∷ drop k xs) (sym (one_more n)) (item_at n xs x h e)

pub joined_assoc : {A : Type 0} (a b c : Option (List A)) → spec.joined (spec.joined a b) c ≡ spec.joined a (spec.joined b c)
joined_assoc None b c = refl
joined_assoc (Some a) None c = refl
joined_assoc (Some a) (Some b) None = refl
joined_assoc (Some a) (Some b) (Some c) = ap Some (append_assoc a b c)

pub joined_end : {A : Type 0} (a : Option (List A)) → spec.joined a (Some []) ≡ a
joined_end None = refl
joined_end (Some a) = ap Some (append-nil a)

zero_less : (n : ℕ) → suc n ≤ 0 → ⊥
zero_less n h = omega arith

less_le : (m n : ℕ) → suc m ≤ suc n → m ≤ n
less_le m n h = omega arith

pub drop_end : {X : Type 0} (n : ℕ) (xs : List X) → length xs ≤ n → drop n xs ≡ []
drop_end zero [] h = refl
drop_end (suc n) [] h = refl
drop_end zero (x ∷ xs) h = absurd (zero_less (length xs) h)
drop_end (suc n) (x ∷ xs) h = drop_end n xs (less_le (length xs) n h)

pub joined_nothing : {A : Type 0} (a : Option (List A)) → spec.joined (Some []) a ≡ a
joined_nothing None = refl
joined_nothing (Some a) = refl

module _ {A T : Type 0} (walk : spec.Here → A → spec.Walked T) (all : spec.Here → List A → spec.Walked (List T)) where
  abbrev pub more : spec.Here → A → List A → spec.Walked (List T)
  more h x xs =
      let a = walk h x in
      let b = all a.here xs in
      spec.walked (spec.joined (spec.single a.tree) b.tree) b.here (a.faults also b.faults)

  module _ (is : (h : spec.Here) (x : A) (xs : List A) → all h (x ∷ xs) ≡ more h x xs)
      (d : List A) (x : A) (xs : List A) (next : d ≡ x ∷ xs) (h h2 : spec.Here) (here : h2 ≡ (walk h x).here) where
    rest : all h d ≡ more h x xs
    rest = ap (all h) next ∙ is h x xs

    pub tree_step : (old new whole : Option (List T)) (t : Option T) → spec.joined old (all h d).tree ≡ whole → t ≡ (walk h x).tree
        → new ≡ spec.joined old (spec.single t) → spec.joined new (all h2 xs).tree ≡ whole
    tree_step old new whole t inv tree made =
        ap (λ k. spec.joined new (all k xs).tree) here
        ∙ ap (λ n. spec.joined n (all (walk h x).here xs).tree) (made ∙ ap (λ y. spec.joined old (spec.single y)) tree)
        ∙ joined_assoc old (spec.single (walk h x).tree) (all (walk h x).here xs).tree
        ∙ ap (λ (k : spec.Walked (List T)). spec.joined old k.tree) (sym rest) ∙ inv

    pub here_step : (whole : spec.Here) → (all h d).here ≡ whole → (all h2 xs).here ≡ whole
    here_step whole inv = ap (λ k. (all k xs).here) here ∙ ap (λ (k : spec.Walked (List T)). k.here) (sym rest) ∙ inv

    pub told_step : (old new whole : Option Fault) → notes old (all h d).faults ≡ whole → new ≡ notes old (walk h x).faults → notes new (all h2 xs).faults ≡ whole
    told_step old new whole inv told =
        ap (λ k. notes new (all k xs).faults) here ∙ ap (λ n. notes n (all (walk h x).here xs).faults) told
        ∙ ap (λ (k : spec.Walked (List T)). notes old k.faults) (sym rest) ∙ inv

-- ---- the values of a list in braces

module _ (t : CType) (f : Expr → Judged) (d : List Expr) (e : Expr) (rest : List Expr) (next : d ≡ e ∷ rest) where
  pub values_step : (old new whole : Option (List TypedExpr)) (x : Option TypedExpr) → spec.joined old (spec.values t (map f d)) ≡ whole
      → x ≡ one (converted t) (f e).seen.tree → new ≡ spec.joined old (spec.single x) → spec.joined new (spec.values t (map f rest)) ≡ whole
  values_step old new whole x inv tree made =
      ap (λ n. spec.joined n (spec.values t (map f rest))) (made ∙ ap (λ y. spec.joined old (spec.single y)) tree)
      ∙ joined_assoc old (spec.single (one (converted t) (f e).seen.tree)) (spec.values t (map f rest))
      ∙ ap (λ xs. spec.joined old (spec.values t (map f xs))) (sym next) ∙ inv

  pub values_told : (x : Extent) (i j : ℕ) (old new whole : Option Fault) → notes old (spec.values_faults x i (map f d)) ≡ whole
      → new ≡ notes old ((f e).faults also broken_if (spec.is_full x i) 19 (f e).seen.at) → j ≡ i + 1 → notes new (spec.values_faults x j (map f rest)) ≡ whole
  values_told x i j old new whole inv told later =
      ap (λ k. notes new (spec.values_faults x k (map f rest))) (later ∙ one_more i)
      ∙ ap (λ n. notes n (spec.values_faults x (suc i) (map f rest))) told
      ∙ ap (λ xs. notes old (spec.values_faults x i (map f xs))) (sym next) ∙ inv

-- ---- the types of parameters

and_assoc : (a b c : Bool) → ((a && b) && c) ≡ (a && (b && c))
and_assoc true b c = refl
and_assoc false b c = refl

-- the type at an index, and those from it on
typed_at : (t : CType) (us : List CType) (n : ℕ) (ts : List CType) → (is_type t (slice_get ts n) && same_types us (drop (suc n) ts)) ≡ same_types (t ∷ us) (drop n ts)
typed_at t us zero [] = refl
typed_at t us (suc n) [] = refl
typed_at t us zero (u ∷ ts) = refl
typed_at t us (suc n) (u ∷ ts) = typed_at t us n ts

pub types_step : (f : Parameter → CType) (d : List Parameter) (p : Parameter) (rest : List Parameter) → d ≡ p ∷ rest → (ts : List CType) (i : ℕ) (old new x whole : Bool)
    → (old && same_types (map f d) (drop i ts)) ≡ whole → x ≡ is_type (f p) (slice_get ts i) → new ≡ (old && x) → (new && same_types (map f rest) (drop (i + 1) ts)) ≡ whole
types_step f d p rest next ts i old new x whole inv is made =
    ap (λ k. new && same_types (map f rest) (drop k ts)) (one_more i)
    ∙ ap (λ b. b && same_types (map f rest) (drop (suc i) ts)) (made ∙ ap (λ b. old && b) is)
    ∙ and_assoc old (is_type (f p) (slice_get ts i)) (same_types (map f rest) (drop (suc i) ts))
    ∙ ap (λ b. old && b) (typed_at (f p) (map f rest) i ts)
    ∙ ap (λ xs. old && same_types (map f xs) (drop i ts)) (sym next) ∙ inv

-- no more types are left
none_below : (i : ℕ) → nat_le 0 i ≡ true
none_below i = grind (arith, nat_tests)

some_above : (n : ℕ) → nat_le (suc n) 0 ≡ false
some_above n = grind (arith, nat_tests)

each_less : (n i : ℕ) → nat_le (suc n) (suc i) ≡ nat_le n i
each_less n i = grind (arith, nat_tests)

none_left : (i : ℕ) (ts : List CType) → nat_le (length ts) i ≡ same_types [] (drop i ts)
none_left zero [] = none_below zero
none_left (suc i) [] = none_below (suc i)
none_left zero (t ∷ ts) = some_above (length ts)
none_left (suc i) (t ∷ ts) = each_less (length ts) i ∙ none_left i ts

pub types_end : (f : Parameter → CType) (d : List Parameter) → d ≡ [] → (ts : List CType) (i : ℕ) (old whole : Bool) → (old && same_types (map f d) (drop i ts)) ≡ whole
    → (old && nat_le (length ts) i) ≡ whole
types_end f d is ts i old whole inv = ap (λ b. old && b) (none_left i ts) ∙ ap (λ xs. old && same_types (map f xs) (drop i ts)) (sym is) ∙ inv
