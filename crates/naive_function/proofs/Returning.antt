-- A function returns: its caller goes on behind the call, with its own objects.
use Rattle.std.proofs.Common.{◌≡◌, ◌≢◌, ℕ, suc, ◌+◌, ◌*◌, ◌^◌, ◌≤◌, ◌<◌, List, [], ◌∷◌, Option, Some, None, refl, sym, ap, ◌∙◌, subst, arith, true, false}
use Rattle.std.specs.Prelude.{Bool, if◌then◌else◌, ◌==◌, slice_get, length, take, unwrap_or, All}
use Rattle.std.specs.List.{list_any}
use Rattle.std.proofs.lemmas.Bool.Decides.{nat_tests}
use Rattle.std.proofs.lemmas.List.Elements.{All-head, All-tail}
use Rattle.behaviour.specs.Steps.{Goes, Comes}
use Rattle.behaviour.proofs.Stepping.{comes_one}
use Rattle.rtl_tree.specs.declared.cells.Cell.TheVariants.{Hard, Temp}
use Rattle.md_shapes.specs.Shapes.{Frame as Fixed}
use Rattle.c_tree.specs.declared.typed.Variable.{Variable}
use Rattle.c_tree.specs.declared.typed.Variable.TheVariants as variable
use Rattle.c_tree.specs.declared.typed.Object.{Object}
use Rattle.c_tree.specs.declared.typed.Function.{Function}
use Rattle.c_tree.specs.declared.typed.Typed.{Typed}
use Rattle.c_limits.specs.Frames.{element_bytes, frame_bytes, arrays, scalars}
use Rattle.c_meaning.specs.Operators.{as_type}
use Rattle.c_meaning.specs.Parts.{State, load, Value as Result, word, absent}
use Rattle.c_meaning.specs.Expressions.{Kind, missing, scalar, array, type_in}
use Rattle.c_meaning.specs.Run.{kind_in, kind_of, kind_by}
use Rattle.temp_machine.specs.Routines.{Image, Target, Returns}
use Rattle.temp_machine.specs.Machine.{Waiting, is_kept, register_after, returned, waiting}
use Rattle.rtl_effect.specs.Views.{Gone}
use Rattle.temp_machine.specs.Live.{Place, End}
use Rattle.temp_machine.specs.Small.{Point, first_point, entering, small_step}
use Rattle.naive_code.specs.Storage.{Temporary, storage_of, local_in, local_storage, arrays_from}
use Rattle.naive_step.proofs.Doing.{M}
use Rattle.naive_step.proofs.Words.{HoldsWords}
use Rattle.naive_step.proofs.Making.{Call, step_is}
use Rattle.naive_step.proofs.Memory.{word_same}
use Rattle.naive_rep.proofs.Rep.{Holds, cut_to, told_same}
use Rattle.naive_assigned.proofs.Ready.{Ready}
use Rattle.naive_calls.proofs.Calling.{Returned, Made_call, Called}
use Rattle.naive_statements.proofs.Asked.{Back}
use Rattle.naive_function.proofs.Statics.{statics_of, statics_held}
use Rattle.naive_function.proofs.Entering.{first_inside}
use Rattle.naive_function.proofs.Running.{is_itself}

other_number : (n m : ℕ) → n ≢ m → (n == m) ≡ false
other_number n m ne = grind (arith, nat_tests, ne)

same_test : (n m : ℕ) → (n == m) ≡ true → n ≡ m
same_test n m e = grind (arith, nat_tests, e)

-- a register that isn't general isn't kept
not_kept : (general : ℕ → Bool) (kept : List ℕ) (n : ℕ) → All (λ k. general k ≡ true) kept → general n ≡ false → list_any (λ k. k == n) kept ≡ false
not_kept general [] n all off = refl
not_kept general (k ∷ ks) n all off = by_test (k == n) refl (not_kept general ks n (All-tail (λ k. general k ≡ true) k ks all) off)
  where
    by_test : (b : Bool) → (k == n) ≡ b → list_any (λ k. k == n) ks ≡ false → list_any (λ k. k == n) (k ∷ ks) ≡ false
    by_test true e rest =
        let is : general n ≡ true = subst (λ z. general z ≡ true) (same_test k n e) (All-head (λ k. general k ≡ true) k ks all) in
        absurd (let z : true ≡ false = sym is ∙ off in grind (arith, z))
    by_test false e rest = rw e rest

module _ (t : Target) (u : Image) (m : Fixed) (source : Typed) (f : Function) (k : Call) (ready : Ready t u m source f k) (g : ℕ) (h : Function) (vs : List ℕ) (p : Place) (c : Point) (s : State)
    (made : Made_call t u m source f k ready g h vs p c s) (symbols : All (λ a. a < 2 ^ t.word) u.symbols) where
  -- the call as it waits
  abbrev pub waiter : Waiting
  waiter = waiting t u c.state c.view c.printed

  -- where it goes on
  abbrev pub behind_call : Point → Point
  behind_call e = first_point t u (record {
    top = waiter.active;
    callers = c.state.callers;
    regs = register_after t u waiter e.view;
    flags = λ n. Gone;
    bytes = e.view.bytes;
    input = e.view.input;
    printed = e.printed;
  })

  -- its own objects again, and those of the file as they are
  abbrev pub own_again : State → State
  own_again s1 = record { statics = s1.statics; params = s.params; locals = s.locals; input = s1.input }

  module _ (k' : Call) (f' : Function) (ready' : Ready t u m source f' k') (waits : k'.callers ≡ waiter ∷ c.state.callers) (b : Point) (below : k'.base + frame_bytes t.kept t.word f' ≤ k.base)
      (kept : (y : ℕ) → k.base ≤ y → b.view.bytes y ≡ c.view.bytes y) (v : Result) (s1 : State) (e : Point) (back : Back t u m source f' k' ready' b v s1 e) where
    abbrev after : Point
    after = behind_call e

    returns_step : small_step t u e ≡ Goes after
    returns_step =
        step_is t u k' ready'.fits e back.place (End Returns) back.inside back.at back.at_return
        ∙ ap (λ cs. entering t u (returned t u cs e.view e.printed)) (back.inside.callers ∙ waits)

    same_bytes : (y : ℕ) → k.base ≤ y → after.view.bytes y ≡ c.view.bytes y
    same_bytes y le = back.above y (omega (arith, below, le)) ∙ kept y le

    stack_is : after.view.cells (Hard t.sp) ≡ Some k.base
    stack_is = rw (is_itself t.sp) (ap Some made.inside.base)

    result_is : after.view.cells (Hard t.result) ≡ e.view.cells (Hard t.result)
    result_is =
        let other = other_number t.result t.sp (λ z. ready.target.stack_is_no_result (sym z)) in
        let lost : is_kept t t.result ≡ false = not_kept t.general t.kept t.result ready.target.kept ready.target.result in
        rw (other, lost, is_itself t.result) refl

    returned_so : (r : Result) → Returned t u m source f' k' ready' f'.result r e → Returned t u m source f k ready f'.result r after
    returned_so (word x) z = (result_is ∙ z.0, z.1, z.2)
    returned_so (absent at) z = tt

    parameter_held : (x i : ℕ) (o : Option ℕ) (z : Kind) → Holds t u k z (Temporary x) i o c → Holds t u k z (Temporary x) i o after
    parameter_held x i o (scalar of) z = z
    parameter_held x i o (array of n) z = tt
    parameter_held x i o missing z = tt

    local_held : (temp offset i : ℕ) (o : Option Object) (w : Option ℕ) → Holds t u k (kind_of o) (local_in temp offset o) i w c → Holds t u k (kind_of o) (local_in temp offset o) i w after
    local_held temp offset i None w z = tt
    local_held temp offset i (Some o) w z = by_length o.length z
      where
        by_length : (l : Option ℕ) → Holds t u k (kind_by o.element l) (local_storage temp offset o.element l) i w c → Holds t u k (kind_by o.element l) (local_storage temp offset o.element l) i w after
        by_length None z = z
        by_length (Some n) z =
            λ lt. told_same (cut_to (element_bytes t.word o.element) w) _ _
            (word_same c.view.bytes after.view.bytes (k.base + offset + element_bytes t.word o.element * i) (element_bytes t.word o.element) (λ y low high. same_bytes y (omega (arith, low)))) (z lt)

    held_again : (x : Variable) (i : ℕ) → Holds t u k (kind_in source f x) (storage_of t.kept t.word source f x) i (load (own_again s1) x i) after
    held_again (variable.Static x) i = statics_held t u source k after s1.statics (statics_of t u source k' e f' s1 back.rep) x i
    held_again (variable.Parameter x) i = parameter_held x i (s.params x i) (kind_of (slice_get f.params x)) (made.rep.held (variable.Parameter x) i)
    held_again (variable.Local x) i =
        local_held (length f.params + scalars (take x f.locals)) (arrays_from t.kept t.word f + arrays t.word (take x f.locals)) i (slice_get f.locals x) (s.locals x i) (made.rep.held (variable.Local x) i)

    typed_again : (x : Variable) (i z : ℕ) → load (own_again s1) x i ≡ Some z → as_type t.word (type_in (kind_in source f x)) z ≡ z
    typed_again (variable.Static x) i z is = back.rep.typed (variable.Static x) i z is
    typed_again (variable.Parameter x) i z is = made.rep.typed (variable.Parameter x) i z is
    typed_again (variable.Local x) i z is = made.rep.typed (variable.Local x) i z is

    base_small : (n : ℕ) → Some waiter.active.base ≡ Some n → n < 2 ^ t.word
    base_small n is =
        let same : waiter.active.base ≡ n = ap (λ o. unwrap_or o n) is in
        let base = made.inside.base in let high = ready.high in let memory = ready.target.memory in
        omega (arith, same, base, high, memory)

    register_small : (sp kept result : Bool) (j n : ℕ) → (if sp then Some waiter.active.base else (if kept then waiter.regs j else (if result then e.view.cells (Hard j) else None))) ≡ Some n → n < 2 ^ t.word
    register_small true kept result j n is = base_small n is
    register_small false true result j n is = made.inside.shows.words.cells (Hard j) n is
    register_small false false true j n is = back.inside.shows.words.cells (Hard j) n is
    register_small false false false j n is = absurd (grind (arith, is))

    has_words : HoldsWords t u after.state
    has_words = record {
      registers = λ j n is. register_small (j == t.sp) (is_kept t j) (j == t.result) j n is;
      temps = λ j n is. made.inside.shows.words.cells (Temp j) n is;
      bytes = λ a n is. back.inside.shows.words.bytes a n is;
      fed = back.inside.shows.fed;
    }

    pub comes_behind : Comes (M t u) e after
    comes_behind = comes_one (M t u) e after returns_step

    pub called_so : Called t u m source f k ready f'.result p c v (own_again s1) after
    called_so = record {
      inside = first_inside t u k after.state ready.target.size symbols made.inside.function made.inside.base made.inside.callers has_words;
      at = record { block = ap suc made.at.block; at = refl };
      rep = record { stack = stack_is; input = back.rep.input; bytes = back.rep.bytes; held = held_again; typed = typed_again };
      temps = λ j. refl;
      above = λ y from. same_bytes y (omega (arith, from));
      result = returned_so v back.result;
    }
