-- One more argument: what was gathered, and what comes of the rest, is all.
use Rattle.std.proofs.Common.{◌≡◌, ◌<◌, ℕ, ◌+◌, suc, zero, Bool, true, false, ◌&&◌, ◌++◌, List, [], ◌∷◌, drop, map, length, get_or, Option, refl, sym, ap, ◌∙◌, subst, slice_get, arith}
use mathlib.Core.List.{append_assoc}
use Rattle.c_tree.specs.declared.syntax.Expr.{Expr}
use Rattle.c_tree.specs.declared.types.CType.{CType}
use Rattle.c_tree.specs.declared.typed.TypedExpr.{TypedExpr}
use Rattle.c_typing.specs.declared.names.Fault.{Fault}
use Rattle.c_typing.specs.declared.names.Typing.{Typing}
use Rattle.c_typing.specs.Faults.{notes}
use Rattle.c_typing.specs.Expressions as spec

and_assoc : (a b c : Bool) → ((a && b) && c) ≡ (a && (b && c))
and_assoc true b c = refl
and_assoc false b c = refl

less : (m n : ℕ) → suc m < suc n → m < n
less m n h = omega arith

never : (n : ℕ) → n < 0 → ⊥
never n h = omega arith

one_more : (n : ℕ) → n + 1 ≡ suc n
one_more n = omega arith

pub item_at : {X : Type 0} (n : ℕ) (xs : List X) (x : X) → n < length xs → x ≡ get_or xs n x → drop n xs ≡ x ∷ drop (suc n) xs
item_at n [] x h e = absurd (never n h)
item_at zero (y ∷ xs) x h e = ap (λ z. z ∷ xs) (sym e)
item_at (suc n) (y ∷ xs) x h e = item_at n xs x (less n (length xs) h) e

pub next_item : {X : Type 0} (n : ℕ) (xs : List X) (x : X) → n < length xs → x ≡ get_or xs n x → drop n xs ≡ x ∷ drop (n + 1) xs
next_item n xs x h e = subst (λ k. drop n xs ≡ x ∷ drop k xs) (sym (one_more n)) (item_at n xs x h e)

pub trees_step : (ts : List CType) (f : Expr → spec.Judged) (all : List TypedExpr) (d : List Expr) (e : Expr) (rest : List Expr) → d ≡ e ∷ rest
    → (i : ℕ) (old new : List TypedExpr) (a : Typing) → old ++ spec.arguments ts i (map f d) ≡ all → a ≡ (spec.used (f e)).seen
    → new ≡ old ++ spec.argument_of (slice_get ts i) a.tree → new ++ spec.arguments ts (i + 1) (map f rest) ≡ all
trees_step ts f all d e rest is i old new a inv seen made =
    let k : old ++ spec.arguments ts i (map f (e ∷ rest)) ≡ all = subst (λ xs. old ++ spec.arguments ts i (map f xs) ≡ all) is inv in
    let n : new ≡ old ++ spec.argument_of (slice_get ts i) (spec.used (f e)).seen.tree = made ∙ ap (λ (x : Typing). old ++ spec.argument_of (slice_get ts i) x.tree) seen in
    ap (λ m. new ++ spec.arguments ts m (map f rest)) (one_more i)
    ∙ ap (λ xs. xs ++ spec.arguments ts (suc i) (map f rest)) n
    ∙ append_assoc old (spec.argument_of (slice_get ts i) (spec.used (f e)).seen.tree) (spec.arguments ts (suc i) (map f rest)) ∙ k

pub sound_step : (f : Expr → spec.Judged) (all : Bool) (d : List Expr) (e : Expr) (rest : List Expr) → d ≡ e ∷ rest
    → (old one new : Bool) (a : Typing) → (old && spec.all_sound (map f d)) ≡ all → a ≡ (spec.used (f e)).seen
    → one ≡ spec.is_sound a.tree → new ≡ (old && one) → (new && spec.all_sound (map f rest)) ≡ all
sound_step f all d e rest is old one new a inv seen made joined =
    let k : (old && spec.all_sound (map f (e ∷ rest))) ≡ all = subst (λ xs. (old && spec.all_sound (map f xs)) ≡ all) is inv in
    let n : new ≡ (old && spec.is_sound (spec.used (f e)).seen.tree) = joined ∙ ap (λ b. old && b) (made ∙ ap (λ (x : Typing). spec.is_sound x.tree) seen) in
    ap (λ b. b && spec.all_sound (map f rest)) n ∙ and_assoc old (spec.is_sound (spec.used (f e)).seen.tree) (spec.all_sound (map f rest)) ∙ k

pub told_step : (f : Expr → spec.Judged) (all : Option Fault) (d : List Expr) (e : Expr) (rest : List Expr) → d ≡ e ∷ rest
    → (first mid last : Option Fault) (a : Typing) → notes first (spec.faults_of (map f d)) ≡ all → a ≡ (f e).seen
    → mid ≡ notes first (f e).faults → last ≡ notes mid (spec.void_used a) → notes last (spec.faults_of (map f rest)) ≡ all
told_step f all d e rest is first mid last a inv seen told used =
    let k : notes first (spec.faults_of (map f (e ∷ rest))) ≡ all = subst (λ xs. notes first (spec.faults_of (map f xs)) ≡ all) is inv in
    let n : last ≡ notes (notes first (f e).faults) (spec.void_used (f e).seen) = used ∙ ap (λ m. notes m (spec.void_used a)) told ∙ ap (λ (x : Typing). notes (notes first (f e).faults) (spec.void_used x)) seen in
    ap (λ m. notes m (spec.faults_of (map f rest))) n ∙ k
