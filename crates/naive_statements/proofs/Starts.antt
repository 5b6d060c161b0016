-- What stands before a loop: declarations in order, or an expression (C11 6.8.5.3).
use Rattle.std.proofs.Common.{◌≡◌, ℕ, ◌+◌, List, [], ◌∷◌, Option, Some, None, refl, sym, subst, arith}
use Rattle.md_shapes.specs.Shapes.{Frame as Fixed}
use Rattle.c_tree.specs.declared.typed.Object.{Object as Thing}
use Rattle.c_tree.specs.declared.typed.TypedExpr.{TypedExpr}
use Rattle.c_tree.specs.declared.typed.Local.{Local}
use Rattle.c_tree.specs.declared.typed.Function.{Function}
use Rattle.c_tree.specs.declared.typed.Typed.{Typed}
use Rattle.c_meaning.specs.Parts.{then_do, give}
use Rattle.c_meaning.specs.Expressions.{World, meaning}
use Rattle.c_meaning.specs.Statements.{next, Does as SourceDoes, all_unset, initialise, declare, evaluated}
use Rattle.temp_machine.specs.Routines.{Image, Target}
use Rattle.temp_machine.specs.Live.{Place}
use Rattle.naive_code.specs.Operations.{Op}
use Rattle.naive_code.specs.Expressions.{Site, naive}
use Rattle.naive_code.specs.Statements.{Steps, no_steps, joined, init_steps, locals_steps, evaluated as evaluated_steps}
use Rattle.naive_step.proofs.Doing.{does_then, does_on, there}
use Rattle.naive_step.proofs.Making.{Call, At}
use Rattle.naive_assigned.proofs.Ready.{Ready}
use Rattle.naive_values.proofs.Getting.{Ops, stands_split}
use Rattle.naive_values.proofs.Asked.{ValueDoes}
use Rattle.naive_statements.proofs.Asked.{Past, past_since}
use Rattle.naive_statements.proofs.For.{PastDo, dropped_past}
use Rattle.naive_statements.proofs.Blocks.{rep_all_unset}

module _ (t : Target) (u : Image) (m : Fixed) (source : Typed) (f : Function) (k : Call) (ready : Ready t u m source f k) (n : ℕ) where
  abbrev Code : List Op → Place → Place → Type 0
  Code = Ops t u m source f k ready

  abbrev Past_do : SourceDoes → Steps → Type 0
  Past_do = PastDo t u m source f k ready n

  -- one and then another, which are both run to their ends
  past_joined : (e es : SourceDoes) (p ps : Steps) → Past_do e p → Past_do es ps → Past_do (λ s. then_do (e s) (λ fl. es)) (joined p ps)
  past_joined e es p ps does_first does_rest a first label b q c s fresh ops i at rep =
      let parts = stands_split t u m k (p.ops a first label) (ps.ops a (first + p.temps) (label + p.labels)) b q ops in
      does_then t u n c (λ fl s d. Past t u m source f k ready parts.0 c s d) (λ fl s d. Past t u m source f k ready q c s d) (e s) (λ fl. es) (does_first a first label b parts.0 c s fresh parts.1 i at rep)
      (λ fl s1 d h.
      does_on t u n d (λ fl s e. Past t u m source f k ready q d s e) (λ fl s e. Past t u m source f k ready q c s e) (es s1)
      (does_rest a (first + p.temps) (label + p.labels) parts.0 q d s1 (omega (arith, fresh)) parts.2 h.inside h.at h.rep)
      (λ fl2 s2 e g. past_since t u m source f k ready q c d s2 e h.above g))

  nothing_past : Past_do (λ s. give next s) no_steps
  nothing_past a first label b q c s fresh last i at rep =
      there t u n c (λ fl s d. Past t u m source f k ready q c s d) next s (record { inside = i; at = subst (λ z. At t u z c) (sym last) at; rep = rep; above = λ x from. refl })

  module _ (w : World) (site : Site) (locals : List Thing) where
    -- each initialiser does what its code does
    abbrev pub All_initialise : List Local → Type 0
    All_initialise [] = Unit {0}
    All_initialise (l ∷ ls) = Past_do (initialise w l.number l.init) (init_steps site locals l.number l.init) × All_initialise ls

    pub declare_does : (ls : List Local) → All_initialise ls → Past_do (declare w ls) (locals_steps site locals ls)
    declare_does [] all = nothing_past
    declare_does (l ∷ ls) all =
        past_joined (initialise w l.number l.init) (declare w ls) (init_steps site locals l.number l.init) (locals_steps site locals ls) all.0 (declare_does ls all.1)

    -- the objects are unset at entry to the loop
    pub begins_unset : (xs : List ℕ) (e : SourceDoes) (p : Steps) → Past_do e p → Past_do (λ s. e (all_unset xs s)) p
    begins_unset xs e p does a first label b q c s fresh ops i at rep =
        does a first label b q c (all_unset xs s) fresh ops i at (rep_all_unset t u m source f k ready xs s c rep)

    pub evaluated_does : (o : Option TypedExpr) → ((e : TypedExpr) → o ≡ Some e → ValueDoes t u m source f k ready n (meaning w e).of (meaning w e).value (naive site e).value)
        → Past_do (evaluated w o) (evaluated_steps site locals o)
    evaluated_does None each = nothing_past
    evaluated_does (Some e) each = dropped_past t u m source f k ready n (meaning w e).of (meaning w e).value (naive site e).value (each e refl)
