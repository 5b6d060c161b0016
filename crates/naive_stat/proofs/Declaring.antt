-- What declarations append, from what their parts do.
use Rattle.std.proofs.Common.{◌≡◌, ℕ, ◌+◌, ◌<◌, ◌≤◌, if◌then◌else◌, List, [], ◌∷◌, ◌++◌, length, refl, sym, ap, subst, ◌∙◌, append-nil, arith}
use Rattle.std.proofs.lemmas.Bool.{lt-ltb, le-ltb}
use Rattle.std.specs.Prelude.{slice_get}
use Rattle.c_tree.specs.declared.types.CType.{CType}
use Rattle.c_tree.specs.declared.typed.Object.{Object}
use Rattle.c_tree.specs.declared.typed.TypedExpr.{TypedExpr}
use Rattle.c_tree.specs.declared.typed.LocalInit.{LocalInit}
use Rattle.c_tree.specs.declared.typed.LocalInit.TheVariants as init
use Rattle.c_limits.specs.Weights.{length_of}
use Rattle.naive_code.specs.Operations.{add, constant, read_stack}
use Rattle.naive_code.specs.Storage.{Storage}
use Rattle.naive_code.specs.Expressions.{Site}
use Rattle.naive_code.specs.Statements.{Steps, Around, no_steps, joined, put_elements, cleared, cleared_rest, init_steps, storage_of_local}
use Rattle.naive_expr.specs.declared.emission.Emitter.{Emitter}
use Rattle.naive_expr.specs.Emitted.{Adds}
use Rattle.naive_expr.proofs.Adding.{adds_then, adds_as}
use Rattle.naive_stat.specs.Clearing.{cleared_ops, turn_ops}
use Rattle.naive_stat.specs.Runs.{Runs}

pub joined_runs : (old now new : Emitter) (p q : Steps) (a : Around) → Runs old now p a → Runs now new q a → Runs old new (joined p q) a
joined_runs old now new p q a h g =
    let t = old.next_temp in
    let l = old.next_label in
    adds_as
    (ap (λ k. p.ops a t l ++ q.ops a k now.next_label) h.temp ∙ ap (λ k. p.ops a t l ++ q.ops a (t + p.temps) k) h.label)
    refl refl refl (adds_then h g)

module _ (c : Site) (locals : List Object) where
  pub list_is : (x : ℕ) (i : LocalInit) (es fs : List TypedExpr) (s : Storage) (size : ℕ) → i ≡ init.List fs → es ≡ fs → s ≡ storage_of_local c x → size ≡ length_of (slice_get locals x)
      → joined (put_elements c s 0 es) (cleared_rest c.bits s (length es) size) ≡ init_steps c locals x i
  list_is x i es fs s size is got stored sized =
      let k = storage_of_local c x in
      ap (λ ls. joined (put_elements c s 0 ls) (cleared_rest c.bits s (length ls) size)) got
      ∙ (ap (λ r. joined (put_elements c r 0 fs) (cleared_rest c.bits r (length fs) size)) stored
      ∙ (ap (λ n. joined (put_elements c k 0 fs) (cleared_rest c.bits k (length fs) n)) sized ∙ sym (ap (init_steps c locals x) is)))

-- ---- the elements that a list leaves out

pub rest_runs : (w : ℕ) (s : Storage) (m n : ℕ) (old now new : Emitter) (p : Steps) (a : Around) → m < n → Runs old now p a → Runs now new (cleared w s m n) a → Runs old new (joined p (cleared_rest w s m n)) a
rest_runs w s m n old now new p a lt h g =
    subst (λ b. Runs old new (joined p (if b then cleared w s m n else no_steps)) a) (sym (lt-ltb m n lt)) (joined_runs old now new p (cleared w s m n) a h g)

pub no_rest_runs : (w : ℕ) (s : Storage) (m n : ℕ) (old now : Emitter) (p : Steps) (a : Around) → n ≤ m → Runs old now p a → Runs old now (joined p (cleared_rest w s m n)) a
no_rest_runs w s m n old now p a le h =
    let none : Runs now now no_steps a = record { ops = sym (append-nil _); depths = sym (append-nil _); temp = omega arith; label = omega arith } in
    subst (λ b. Runs old now (joined p (if b then cleared w s m n else no_steps)) a) (sym (le-ltb m n le)) (joined_runs old now now p no_steps a h none)

pub cleared_adds : (s s0 s1 s2 s3 s4 s5 s6 s7 s8 s9 s10 : Emitter) (of : CType) (step from to t l : ℕ)
    → Adds s s0 [] (0 ∷ 1 ∷ 2 ∷ 2 ∷ 3 ∷ 4 ∷ []) 6 0 → t ≡ s.next_temp → Adds s0 s1 [] [] 0 2 → l ≡ s0.next_label
    → Adds s1 s2 (read_stack t ∷ []) [] 0 0 → Adds s2 s3 (read_stack (t + 1) ∷ []) [] 0 0 → Adds s3 s4 (constant (t + 2) from ∷ []) [] 0 0
    → Adds s4 s5 (add t (t + 2) ∷ []) [] 0 0 → Adds s5 s6 (constant (t + 3) to ∷ []) [] 0 0 → Adds s6 s7 (add (t + 1) (t + 3) ∷ []) [] 0 0
    → Adds s7 s8 (constant (t + 4) 0 ∷ []) [] 0 0 → Adds s8 s9 (constant (t + 5) step ∷ []) [] 0 0 → Adds s9 s10 (turn_ops of t l) [] 0 0
    → Adds s s10 (cleared_ops of step from to s.next_temp s.next_label) (0 ∷ 1 ∷ 2 ∷ 2 ∷ 3 ∷ 4 ∷ []) 6 2
cleared_adds s s0 s1 s2 s3 s4 s5 s6 s7 s8 s9 s10 of step from to t l hf is hl first h1 h2 h3 h4 h5 h6 h7 h8 h9 =
    let label : l ≡ s.next_label = omega (arith, first, hf.label) in
    adds_as (ap (λ k. cleared_ops of step from to k l) is ∙ ap (cleared_ops of step from to s.next_temp) label) refl refl refl
    (adds_then hf (adds_then hl (adds_then h1 (adds_then h2 (adds_then h3 (adds_then h4 (adds_then h5 (adds_then h6 (adds_then h7 (adds_then h8 h9))))))))))
