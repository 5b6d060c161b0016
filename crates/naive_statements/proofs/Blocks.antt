-- Blocks, and declarations without a list (C11 6.8.2, 6.7.9): objects become unset, or are set to a value.
use Rattle.std.proofs.Common.{◌≡◌, ℕ, ◌+◌, ◌⊎◌, inl, inr, List, [], ◌∷◌, map, Some, None, refl, sym, ap, ◌∙◌, subst, arith, true, false}
use Rattle.std.specs.Prelude.{Bool, ◌==◌, ◌&&◌, nat_le, if◌then◌else◌}
use Rattle.md_shapes.specs.Shapes.{Frame as Fixed}
use Rattle.c_tree.specs.declared.types.CType.{CType}
use Rattle.c_tree.specs.declared.typed.Variable.{Variable}
use Rattle.c_tree.specs.declared.typed.Variable.TheVariants as variable
use Rattle.c_tree.specs.declared.typed.Function.{Function}
use Rattle.c_tree.specs.declared.typed.Typed.{Typed}
use Rattle.c_meaning.specs.Operators.{as_type}
use Rattle.c_meaning.specs.Parts.{State, Part, then_do, give, demand, load, store as stored, unset, Value as Result}
use Rattle.c_meaning.specs.Expressions.{Kind, missing, scalar, array, type_in, World, Lvalue, as_object}
use Rattle.c_meaning.specs.Run.{kind_in}
use Rattle.c_meaning.specs.Statements.{next, Does as SourceDoes, Execution, sequence, all_unset, initialised}
use Rattle.temp_machine.specs.Routines.{Image, Target}
use Rattle.temp_machine.specs.Live.{Place}
use Rattle.temp_machine.specs.Small.{Point}
use Rattle.naive_code.specs.Operations.{Op}
use Rattle.naive_code.specs.Storage.{Storage, Temporary, Word, Elements, Missing, storage_of}
use Rattle.naive_code.specs.Expressions.{Value, object, put_into}
use Rattle.naive_code.specs.Statements.{Steps, no_steps, enclosed, all_joined, used}
use Rattle.naive_run.specs.Sound.{alike}
use Rattle.naive_step.proofs.Doing.{there, came}
use Rattle.naive_step.proofs.Making.{Call, At}
use Rattle.naive_rep.proofs.Rep.{Holds}
use Rattle.naive_assigned.proofs.Ready.{Ready}
use Rattle.naive_assigned.proofs.Storages.{scalar_storage}
use Rattle.naive_values.proofs.Typed.{as_alike}
use Rattle.naive_values.proofs.Getting.{Ops}
use Rattle.naive_values.proofs.Asked.{IsFresh, Stands_for, Kept, in_temporary, in_word, ValueDoes}
use Rattle.naive_values.proofs.Places.{puts}
use Rattle.naive_values.proofs.Composing.{value_then}
use Rattle.naive_statements.proofs.Asked.{Past, After, StepsDo, joined_does}
use Rattle.naive_statements.proofs.For.{PastDo}

module _ (t : Target) (u : Image) (m : Fixed) (source : Typed) (f : Function) (k : Call) (ready : Ready t u m source f k) where
  abbrev Code : List Op → Place → Place → Type 0
  Code = Ops t u m source f k ready

  -- of what is unset nothing is asked
  pub holds_unset : (g : Kind) (p : Storage) (j : ℕ) (c : Point) → Holds t u k g p j None c
  holds_unset (scalar of) (Temporary n) j c = λ z. tt
  holds_unset (scalar of) (Word y) j c = λ z. tt
  holds_unset (scalar of) (Elements b by) j c = tt
  holds_unset (scalar of) Missing j c = tt
  holds_unset (array of n) (Temporary i) j c = tt
  holds_unset (array of n) (Word y) j c = tt
  holds_unset (array of n) (Elements b by) j c = λ lt. tt
  holds_unset (array of n) Missing j c = tt
  holds_unset missing p j c = tt

  rep_unset : (x : ℕ) (s : State) (c : Point) → Stands_for t u m source f k ready s c → Stands_for t u m source f k ready (unset x s) c
  rep_unset x s c r = record { stack = r.stack; input = r.input; bytes = r.bytes; held = held; typed = typed }
    where
      held_by : (b : Bool) (y j : ℕ) → Holds t u k (kind_in source f (variable.Local y)) (storage_of t.kept t.word source f (variable.Local y)) j (if b then None else s.locals y j) c
      held_by true y j = holds_unset (kind_in source f (variable.Local y)) (storage_of t.kept t.word source f (variable.Local y)) j c
      held_by false y j = r.held (variable.Local y) j

      held : (y : Variable) (j : ℕ) → Holds t u k (kind_in source f y) (storage_of t.kept t.word source f y) j (load (unset x s) y j) c
      held (variable.Static y) j = r.held (variable.Static y) j
      held (variable.Parameter y) j = r.held (variable.Parameter y) j
      held (variable.Local y) j = held_by ((y == x) && nat_le 0 j) y j

      typed_by : (b : Bool) (y j v : ℕ) → (if b then None else s.locals y j) ≡ Some v → as_type t.word (type_in (kind_in source f (variable.Local y))) v ≡ v
      typed_by true y j v e = absurd (grind (arith, e))
      typed_by false y j v e = r.typed (variable.Local y) j v e

      typed : (y : Variable) (j v : ℕ) → load (unset x s) y j ≡ Some v → as_type t.word (type_in (kind_in source f y)) v ≡ v
      typed (variable.Static y) j v e = r.typed (variable.Static y) j v e
      typed (variable.Parameter y) j v e = r.typed (variable.Parameter y) j v e
      typed (variable.Local y) j v e = typed_by ((y == x) && nat_le 0 j) y j v e

  pub rep_all_unset : (xs : List ℕ) (s : State) (c : Point) → Stands_for t u m source f k ready s c → Stands_for t u m source f k ready (all_unset xs s) c
  rep_all_unset [] s c r = r
  rep_all_unset (x ∷ xs) s c r = rep_all_unset xs (unset x s) c (rep_unset x s c r)

  module _ (n : ℕ) where
    abbrev Steps_do : SourceDoes → Steps → Type 0
    Steps_do = StepsDo t u m source f k ready n

    pub nothing_does : Steps_do (λ s. give next s) no_steps
    nothing_does a first label b q c s fresh last i at rep =
        there t u n c (After t u m source f k ready a q c) next s (record { inside = i; at = subst (λ z. At t u z c) (sym last) at; rep = rep; above = λ x from. refl })

    -- ---- statements one after the other

    module _ (X : Type 0) (ex : X → Execution) (st : X → Steps) where
      abbrev pub All_steps : List X → Type 0
      All_steps [] = Unit {0}
      All_steps (x ∷ xs) = Steps_do (ex x).does (st x) × All_steps xs

      pub sequence_does : (xs : List X) → All_steps xs → Steps_do (sequence (map ex xs)) (all_joined (map st xs))
      sequence_does [] all = nothing_does
      sequence_does (x ∷ xs) all = joined_does t u m source f k ready n (ex x).does (sequence (map ex xs)) (st x) (all_joined (map st xs)) all.0 (sequence_does xs all.1)

    -- at entry to a block its objects are unset
    pub block_does : (xs : List ℕ) (e : SourceDoes) (p : Steps) → Steps_do e p → Steps_do (λ s. e (all_unset xs s)) (enclosed p)
    block_does xs e p does a first label b q c s fresh ops i at rep = does a first label b q c (all_unset xs s) fresh ops i at (rep_all_unset xs s c rep)

    -- ---- declarations

    -- without an initialiser the object is unset
    pub unset_does : (x : ℕ) → PastDo t u m source f k ready n (λ s. give next (unset x s)) no_steps
    unset_does x a first label b q c s fresh last i at rep =
        there t u n c (λ fl s d. Past t u m source f k ready q c s d) next (unset x s)
        (record { inside = i; at = subst (λ z. At t u z c) (sym last) at; rep = rep_unset x s c rep; above = λ y from. refl })

    -- a scalar is set to a value of its type
    pub set_does : (w : World) (x : ℕ) (of by : CType) (e : State → Part Result) (v : Value) (depths : List ℕ) → w.bits ≡ t.word → w.kind (variable.Local x) ≡ kind_in source f (variable.Local x)
        → kind_in source f (variable.Local x) ≡ scalar of → alike by of ≡ true → IsFresh v → ValueDoes t u m source f k ready n by e v
        → PastDo t u m source f k ready n (λ s. then_do (then_do (e s) demand) (λ y s1. give next (initialised w x 0 y s1)))
        (used v depths (λ r a. put_into (storage_of t.kept t.word source f (variable.Local x)) 0 r a))
    set_does w x of by e v depths bits same_kind kind same fresh_v does a first label b q c s fresh ops i at rep =
        let spare = first + v.temps in
        let place = storage_of t.kept t.word source f (variable.Local x) in
        value_then t u m source f k ready n by v e does (put_into place 0 (v.result first) spare) (λ fl s d. Past t u m source f k ready q c s d) (λ y s1. give next (initialised w x 0 y s1))
        first label b q c s fresh ops i at rep
        (λ r d y s1 rest h.
        let value = h.value in
        let below = fresh_v.to first in
        let of_object : as_type t.word (type_in (kind_in source f (variable.Local x))) y ≡ y =
        ap (λ g. as_type t.word (type_in g) y) kind ∙ (sym (as_alike t.word by of y same) ∙ value.1) in
        let is : as_object w (variable.Local x) y ≡ y = ap (λ b. as_type b (type_in (w.kind (variable.Local x))) y) bits ∙ (ap (λ g. as_type t.word (type_in g) y) same_kind ∙ of_object) in
        let to = puts t u m source f k ready r q d h.inside h.at s1 h.rep it (object place) 0 (v.result first) spare y (kept d) value.0 of_object value.2 (omega (arith, fresh)) (λ z. omega (arith, z, below)) rest in
        came t u n d to.point (λ fl s e. Past t u m source f k ready q c s e) next (initialised w x 0 y s1) to.comes to.fact.printed (record {
          inside = to.inside;
          at = to.at;
          rep = subst (λ z. Stands_for t u m source f k ready (stored s1 (variable.Local x) 0 (Some z)) to.point) (sym is) to.fact.rep;
          above = λ z from. to.fact.above z from ∙ h.since.above z from;
        }))
      where
        it : Lvalue
        it = record { variable = variable.Local x; index = 0; at = record { line = 1; column = 1 } }

        kept : (d : Point) → Kept t u m source f k ready (object (storage_of t.kept t.word source f (variable.Local x))) it 0 d
        kept d = by_storage (scalar_storage t.kept t.word source f (variable.Local x) of kind)
          where
            by_storage : ((j : ℕ) × (storage_of t.kept t.word source f (variable.Local x) ≡ Temporary j)) ⊎ ((y : ℕ) × (storage_of t.kept t.word source f (variable.Local x) ≡ Word y))
                → Kept t u m source f k ready (object (storage_of t.kept t.word source f (variable.Local x))) it 0 d
            by_storage (inl (j, place)) = in_temporary j of (ap object place) place kind refl
            by_storage (inr (y, place)) = in_word y of (ap object place) place kind refl
