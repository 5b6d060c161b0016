-- The parameters of a function that is entered are loaded into their temporaries.
use Rattle.std.proofs.Common.{◌≡◌, ℕ, zero, suc, ◌+◌, ◌*◌, ◌%◌, ◌/◌, ◌^◌, ◌≤◌, ◌<◌, inl, inr, List, [], ◌∷◌, Option, Some, None, Ok, refl, sym, ap, ◌∙◌, arith, true, false}
use Rattle.std.specs.Prelude.{if◌then◌else◌, slice_get, length, get_or}
use Rattle.std.proofs.lemmas.Bool.{cases_lt}
use Rattle.std.proofs.lemmas.Option.{slice_get_within, slice_get-get_or}
use Rattle.std.proofs.Math.Nat.{mod-eq_of_lt, mul-le-mul_left, mul-suc}
use Rattle.behaviour.specs.Run.{AreBytes}
use Rattle.rtl_tree.specs.declared.cells.Cell.TheVariants.{Hard, Temp}
use Rattle.rtl_tree.specs.declared.expressions.Width.TheVariants.{Full}
use Rattle.rtl_tree.specs.declared.expressions.BinOp.TheVariants as op
use Rattle.rtl_tree.specs.Trees.{Number, Read, Load, Binary}
use Rattle.rtl_effect.specs.Views.{View, touched, word_at}
use Rattle.md_shapes.specs.declared.patterns.Pattern.TheVariants as shape
use Rattle.md_shapes.specs.Shapes.{Frame as Fixed}
use Rattle.c_tree.specs.declared.types.CType.{CType}
use Rattle.c_tree.specs.declared.typed.Variable.{Variable}
use Rattle.c_tree.specs.declared.typed.Variable.TheVariants as variable
use Rattle.c_tree.specs.declared.typed.Object.{Object}
use Rattle.c_tree.specs.declared.typed.Function.{Function}
use Rattle.c_tree.specs.declared.typed.Typed.{Typed}
use Rattle.c_limits.specs.Frames.{word_bytes, frame_bytes}
use Rattle.c_meaning.specs.Operators.{as_type}
use Rattle.c_meaning.specs.Parts.{State, Store, load}
use Rattle.c_meaning.specs.Expressions.{Kind, missing, scalar, array, type_in}
use Rattle.c_meaning.specs.Run.{kind_in, kind_of, kind_by, blank, given}
use Rattle.temp_machine.specs.Routines.{Image, Target, pushed}
use Rattle.temp_machine.specs.Machine.{is_between, is_in_data, is_in_arrays, is_in_some_arrays, may_touch, outgoing_to, params_from, params_to, homes_from, homes_to}
use Rattle.temp_machine.specs.Cells.{has_temporaries}
use Rattle.temp_machine.specs.Live.{Place}
use Rattle.temp_machine.specs.Small.{Point}
use Rattle.naive_code.specs.Operations as code
use Rattle.naive_code.specs.Operations.{with_number}
use Rattle.naive_code.specs.Storage.{Temporary, storage_of}
use Rattle.naive_code.specs.Functions.{entry_from}
use Rattle.naive_run.specs.Standing.{One}
use Rattle.naive_step.proofs.Making.{Call, Shows, Inside, At, active, routine_in}
use Rattle.naive_step.proofs.Memory.{may_be_touched, word_same}
use Rattle.naive_step.proofs.Acts.{SetsTemp}
use Rattle.naive_rep.proofs.Rep.{Told, Holds, Rep}
use Rattle.naive_assigned.proofs.Areas.{bytes_are}
use Rattle.naive_assigned.proofs.Ready.{Ready, word_behind, or_left, or_right, between_true}
use Rattle.naive_statements.proofs.Blocks.{holds_unset}
use Rattle.naive_values.proofs.Getting.{To, Ops, to_here, to_as, to_then, sets}
use Rattle.naive_function.proofs.Statics.{Statics_in, statics_held}

nothing_there : {A : Type 0} (xs : List A) (i : ℕ) → slice_get xs i ≡ None → length xs ≤ i
nothing_there [] i e = omega arith
nothing_there (x ∷ xs) zero e = absurd (grind (arith, e))
nothing_there (x ∷ xs) (suc i) e = let h = nothing_there xs i e in omega (arith, h)

type_of_kind : (of : CType) (l : Option ℕ) → type_in (kind_by of l) ≡ of
type_of_kind of None = refl
type_of_kind of (Some n) = refl

word_inside : (bytes i n : ℕ) → i < n → bytes * i + bytes ≤ bytes * n
word_inside bytes i n lt = let h : bytes * suc i ≤ bytes * n = mul-le-mul_left bytes (let le : suc i ≤ n = omega (arith, lt) in le) in let e : bytes * suc i ≡ bytes * i + bytes = mul-suc bytes i in omega (arith, h, e)

module _ (t : Target) (u : Image) (m : Fixed) (source : Typed) (f : Function) (k : Call) (ready : Ready t u m source f k) where
  abbrev pushed_from : ℕ
  pushed_from = frame_bytes t.kept t.word f + pushed t

  -- the parameters stand in memory from an address on, behind the frame and what a call pushed
  module _ (from : ℕ) (end : k.base + frame_bytes t.kept t.word f + pushed t ≡ from) (aligned : from % (t.word / 8) ≡ 0) (room : from + word_bytes t.word * length f.params ≤ t.memory) where
    abbrev parameter_at : ℕ → ℕ
    parameter_at i = k.base + (pushed_from + word_bytes t.word * i)

    is_behind : (i : ℕ) → parameter_at i ≡ from + word_bytes t.word * i
    is_behind i = omega (arith, end)

    parameter_end : (i : ℕ) → i < length f.params → parameter_at i + t.word / 8 ≤ from + word_bytes t.word * length f.params
    parameter_end i lt = let h = word_inside (word_bytes t.word) i (length f.params) lt in let bytes = bytes_are t.word ready.target.size in let e = is_behind i in omega (arith, h, bytes, e)

    reach_parameter : (a : ℕ) → from ≤ a → a < from + word_bytes t.word * length f.params → may_touch t u (active t u k) k.callers a ≡ true
    reach_parameter a low high =
        let c = active t u k in
        let frame = ready.expands.frame in
        let count : word_bytes t.word * length f.params ≡ t.word / 8 * (routine_in t u k).params =
        ap (λ n. word_bytes t.word * n) (sym ready.expands.params) ∙ ap (λ b. b * (routine_in t u k).params) (sym (bytes_are t.word ready.target.size)) in
        or_right (is_in_data t u a) _ (or_right (is_in_arrays t u c a) _ (or_right (is_in_some_arrays t u k.callers a) _ (or_right (is_between k.base (outgoing_to t u c) a) _
        (or_left (is_between (params_from t u c) (params_to t u c) a) (if has_temporaries (routine_in t u k) then false else is_between (homes_from t u c) (homes_to t u c) a)
        (between_true (k.base + (routine_in t u k).frame + pushed t) (k.base + (routine_in t u k).frame + pushed t + t.word / 8 * (routine_in t u k).params) a (omega (arith, low, end, frame)) (omega (arith, high, end, frame, count)))))))

    touches_parameter : (v : View) (i : ℕ) → Shows t u k v → i < length f.params → touched (t.word / 8) v (Some (parameter_at i)) ≡ Ok (parameter_at i)
    touches_parameter v i s lt =
        let last = parameter_end i lt in let size = s.size in let behind = is_behind i in
        may_be_touched (t.word / 8) (parameter_at i) v (omega (arith, last, room, size)) (ap (λ a. a % (t.word / 8)) behind ∙ word_behind t.word from i ready.target.size aligned)
        (λ b low high. s.reach b ∙ reach_parameter b (omega (arith, low, behind)) (omega (arith, high, last)))

    -- one parameter
    loads_one : (i v : ℕ) (p q : Place) (c : Point) → i < length f.params → Inside t u k c → At t u p c → c.view.cells (Hard t.sp) ≡ Some k.base → word_at c.view.bytes (from + word_bytes t.word * i) (t.word / 8) ≡ Some v
        → One t.word m (routine_in t u k) (code.load_home i (pushed_from + word_bytes t.word * i)) p q → To t u m source f k ready q (SetsTemp i (Some v) c) c
    loads_one i v p q c lt inside at sp word one =
        let sp' : c.view.cells (Hard m.stack) ≡ Some k.base = ap (λ n. c.view.cells (Hard n)) ready.fixed.stack ∙ sp in
        let last = parameter_end i lt in
        let memory = ready.target.memory in
        let small : parameter_at i < 2 ^ t.word = omega (arith, last, room, memory, lt) in
        let sum : parameter_at i % 2 ^ t.word ≡ parameter_at i = mod-eq_of_lt small in
        let touches = touches_parameter c.view i inside.shows lt in
        let is : word_at c.view.bytes (parameter_at i) (t.word / 8) ≡ Some v = ap (λ a. word_at c.view.bytes a (t.word / 8)) (is_behind i) ∙ word in
        sets t u m source f k ready p q c inside at shape.LoadHome (with_number i (pushed_from + word_bytes t.word * i)) i (Load Full (Binary op.Add (Read (Hard m.stack)) (Number (pushed_from + word_bytes t.word * i)))) (Some v)
        one refl refl (rw (sp', sum, touches, is) refl)

    -- each parameter's word is in its temporary, and all else as it was
    pub record Loaded (vs : List ℕ) (c d : Point) : Type 0 where
      pub set : (x v : ℕ) → slice_get vs x ≡ Some v → d.view.cells (Temp x) ≡ Some v
      pub stack : d.view.cells (Hard t.sp) ≡ c.view.cells (Hard t.sp)
      pub bytes : (b : ℕ) → d.view.bytes b ≡ c.view.bytes b
      pub input : d.view.input ≡ c.view.input
      pub printed : d.printed ≡ c.printed

    pub loads : (vs : List ℕ) (n i : ℕ) (p q : Place) (c : Point) → length vs ≡ length f.params → i + n ≡ length f.params → Inside t u k c → At t u p c → c.view.cells (Hard t.sp) ≡ Some k.base
        → ((x v : ℕ) → slice_get vs x ≡ Some v → word_at c.view.bytes (from + word_bytes t.word * x) (t.word / 8) ≡ Some v) → ((x v : ℕ) → x < i → slice_get vs x ≡ Some v → c.view.cells (Temp x) ≡ Some v)
        → Ops t u m source f k ready (entry_from (word_bytes t.word) pushed_from i n) p q → To t u m source f k ready q (Loaded vs c) c
    loads vs zero i p q c count all inside at sp words done last =
        to_here t u m source f k ready p q (Loaded vs c) c last inside at (record {
          set = λ x v is. done x v (let lt = slice_get_within vs x v is in omega (arith, lt, count, all)) is;
          stack = refl;
          bytes = λ b. refl;
          input = refl;
          printed = refl;
        })
    loads vs (suc n) i p q c count all inside at sp words done (r, one, rest) =
        let v = get_or vs i 0 in
        let lt : i < length f.params = omega (arith, all) in
        let is : slice_get vs i ≡ Some v = slice_get-get_or vs i 0 (omega (arith, lt, count)) in
        to_then t u m source f k ready r q (SetsTemp i (Some v) c) (Loaded vs c) c (loads_one i v p r c lt inside at sp (words i v is) one)
        (λ d j at' g.
        to_as t u m source f k ready q (Loaded vs d) (Loaded vs c) d
        (loads vs n (suc i) r q d count (omega (arith, all)) j at' (g.regs t.sp ∙ sp) (λ x w e. word_same c.view.bytes d.view.bytes _ _ (λ b low high. g.bytes b) ∙ words x w e)
        (λ x w less e. loaded x w v d is g less e) rest)
        (λ e h. record { set = h.set; stack = h.stack ∙ g.regs t.sp; bytes = λ b. h.bytes b ∙ g.bytes b; input = h.input ∙ g.input; printed = h.printed ∙ g.printed }))
      where
        loaded : (x w v : ℕ) (d : Point) → slice_get vs i ≡ Some v → SetsTemp i (Some v) c d → x < suc i → slice_get vs x ≡ Some w → d.view.cells (Temp x) ≡ Some w
        loaded x w v d is g less e = elim (cases_lt x i) as (λ _. d.view.cells (Temp x) ≡ Some w) [
          | inl lt ↦ g.others x (λ z. omega (arith, z, lt)) ∙ done x w lt e
          | inr ge ↦ (let same : x ≡ i = omega (arith, ge, less) in ap (λ n. d.view.cells (Temp n)) same ∙ (g.temp ∙ (sym is ∙ (sym (ap (slice_get vs) same) ∙ e))))
        ]

  -- ---- the point at which the body begins

  module _ (vs : List ℕ) (statics : Store) (input : List ℕ) (count : length vs ≡ length f.params) (typed : (i v : ℕ) (o : Object) → slice_get f.params i ≡ Some o → slice_get vs i ≡ Some v → as_type t.word o.element v ≡ v) where
    -- what the function has at its begin
    abbrev pub given_state : State
    given_state = record { statics = statics; params = given vs; locals = blank; input = input }

    told_if : (x : ℕ) (d : Point) (o : Option ℕ) → slice_get vs x ≡ o → ((v : ℕ) → slice_get vs x ≡ Some v → d.view.cells (Temp x) ≡ Some v) → Told o (d.view.cells (Temp x))
    told_if x d None is set = tt
    told_if x d (Some v) is set = set v is

    parameter_held : (g : Kind) (x i : ℕ) (d : Point) → ((v : ℕ) → slice_get vs x ≡ Some v → d.view.cells (Temp x) ≡ Some v) → Holds t u k g (Temporary x) i (given vs x i) d
    parameter_held (scalar of) x zero d set = λ z. told_if x d (slice_get vs x) refl set
    parameter_held (scalar of) x (suc i) d set = λ z. tt
    parameter_held (array of n) x i d set = tt
    parameter_held missing x i d set = tt

    parameter_typed : (x v : ℕ) (o : Option Object) → slice_get f.params x ≡ o → slice_get vs x ≡ Some v → as_type t.word (type_in (kind_of o)) v ≡ v
    parameter_typed x v None is e = let past = nothing_there f.params x is in let lt = slice_get_within vs x v e in absurd (omega (arith, past, lt, count))
    parameter_typed x v (Some o) is e = ap (λ of. as_type t.word of v) (type_of_kind o.element o.length) ∙ typed x v o is e

    pub given_rep : (d : Point) → d.view.cells (Hard t.sp) ≡ Some k.base → d.view.input ≡ input → AreBytes input → Statics_in t u source d.view.bytes statics → ((x v : ℕ) → slice_get vs x ≡ Some v → d.view.cells (Temp x) ≡ Some v)
        → Rep t u k source f given_state d
    given_rep d stack input_is bytes held set = record { stack = stack; input = input_is; bytes = bytes; held = all_held; typed = all_typed }
      where
        all_held : (x : Variable) (i : ℕ) → Holds t u k (kind_in source f x) (storage_of t.kept t.word source f x) i (load given_state x i) d
        all_held (variable.Static x) i = statics_held t u source k d statics held x i
        all_held (variable.Parameter x) i = parameter_held (kind_of (slice_get f.params x)) x i d (set x)
        all_held (variable.Local x) i = holds_unset t u m source f k ready (kind_in source f (variable.Local x)) (storage_of t.kept t.word source f (variable.Local x)) i d

        all_typed : (x : Variable) (i v : ℕ) → load given_state x i ≡ Some v → as_type t.word (type_in (kind_in source f x)) v ≡ v
        all_typed (variable.Static x) i v e = held.typed x i v e
        all_typed (variable.Parameter x) zero v e = parameter_typed x v (slice_get f.params x) refl e
        all_typed (variable.Parameter x) (suc i) v e = absurd (grind (arith, e))
        all_typed (variable.Local x) i v e = absurd (grind (arith, e))
