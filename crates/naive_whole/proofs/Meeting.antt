-- The example meets all premises of the law.
use Rattle.std.proofs.Common.{◌≡◌, ℕ, zero, suc, ◌+◌, ◌*◌, ◌%◌, ◌<◌, ◌^◌, ◌≤◌, List, [], ◌∷◌, ◌++◌, Some, None, refl, sym, ap, ◌∙◌, subst, arith, true, inl}
use Rattle.std.specs.Prelude.{slice_get, slice_index, length, unwrap_or}
use Rattle.std.proofs.lemmas.List.Elements.{All-cons, All-nil}
use Rattle.behaviour.specs.Behaviour.{Ended}
use Rattle.rtl_tree.specs.Moves.{Move}
use Rattle.md_shapes.specs.declared.patterns.Pattern.{Pattern}
use Rattle.md_shapes.specs.Shapes.{Open, shape_moves}
use Rattle.md_filled.specs.Doing.{DoesAs}
use Rattle.c_tree.specs.declared.typed.TypedExpr.TheFolds.{fold-roll-TypedExpr}
use Rattle.c_tree.specs.declared.typed.Stat.TheFolds.{fold-roll-Stat}
use Rattle.c_tree.specs.declared.typed.Function.{Function}
use Rattle.c_tree.specs.declared.typed.Static.{Static as Value}
use Rattle.c_tree.specs.declared.typed.Object.{Object as Thing}
use Rattle.c_tree.specs.declared.typed.TypedExpr.{TypedExpr}
use Rattle.c_tree.specs.declared.typed.TypedExpr.TheOpen.{Constant, Object, Binary, Call}
use Rattle.c_tree.specs.declared.typed.Stat.TheOpen.{Block, Return}
use Rattle.c_tree.specs.declared.typed.Variable.TheVariants.{Parameter, Static}
use Rattle.c_tree.specs.declared.typed.Callee.TheVariants.{Defined}
use Rattle.c_tree.specs.declared.syntax.BinaryOperator.TheVariants.{Add}
use Rattle.c_limits.specs.Frames.{frame_bytes, object_bytes}
use Rattle.c_meaning.specs.Sketches.{of_int, somewhere, number, two, call, return, block, object}
use Rattle.c_tree.specs.declared.types.CType.TheVariants as type
use Rattle.c_meaning.specs.Settings.{setting_of}
use Rattle.c_meaning.specs.Run.{IsClean, is_main, listed, source_run}
use Rattle.c_meaning.proofs.Runs.{ended_is_clean}
use Rattle.temp_machine.specs.Routines.{Returns, Routine}
use Rattle.temp_machine.specs.Machine.{position, first_byte}
use Rattle.rtl_effect.specs.Views.{word_at}
use Rattle.temp_machine.specs.Units.{IsTarget}
use Rattle.temp_machine.specs.Live.{Place, Transfer, End, item_at}
use Rattle.naive_code.specs.Operations.{Op, Make, Close, on_two, with_number, with_symbol, copy, constant, address, load, add, load_home, store_top, read_result, set_result}
use Rattle.naive_code.specs.Operations as code
use Rattle.naive_code.specs.Storage.{Missing, scalar_count}
use Rattle.naive_code.specs.Expressions.{Naive, Site, naive, naive_node}
use Rattle.naive_code.specs.Statements.{Steps, no_steps, joined, used, enclosed, leaving, node_steps, steps_of}
use Rattle.naive_code.specs.Functions.{site_of, entry_from, body_steps, ending, nowhere, function_ops}
use Rattle.naive_run.proofs.Fitting.{shape_fits}
use Rattle.naive_run.specs.Standing.{shaped, One, Stands}
use Rattle.naive_run.specs.Sound.{is_sound}
use Rattle.naive_run.specs.Law.{IsFixedBy, IsSoundTarget, IsUnitOf, Expands, HoldsStatic}
use Rattle.naive_whole.specs.Example.{parameter, static, adding, starting, source, target, fixed, image, routine, adding_code, starting_code, calling, PremisesAreMet, EndsAsItsSource}
use Rattle.naive_whole.proofs.Whole.{naive_is_same}

-- a transfer does as itself
does_itself : (w : ℕ) (ms : List Move) → DoesAs w ms ms
does_itself w ms = record {
  does = λ v d words e. (d, e, record { temps = λ n. refl; registers = λ n. refl; flags = λ n t is. refl; bytes = λ a. refl; input = refl; place = refl; output = refl; halt = refl });
}

module _ (r : Routine) where
  -- where a shape's own transfer stands
  makes : (pattern : Pattern) (o : Open) (p : Place) → item_at r p ≡ Some (Transfer (shape_moves fixed pattern o)) → o.number < 2 ^ 16
      → One 16 fixed r (Make pattern o) p (record { block = p.block; at = suc p.at })
  makes pattern o p at small = (
    shaped pattern o ∷ [],
    (0, omega arith, refl),
    (
      record { block = p.block; at = suc p.at },
      record {
        transfer = shape_moves fixed pattern o;
        at = at;
        numbers = shape_fits 16 fixed (inl refl) refl (omega arith) pattern o small;
        does = does_itself 16 (shape_moves fixed pattern o);
        behind = refl;
      },
      refl,
    ),
  )

  -- where a block returns
  returns_to : (l : ℕ) (p : Place) → item_at r p ≡ Some (End Returns) → position r.blocks l 0 ≡ suc p.block → One 16 fixed r (Close code.Returns l) p (record { block = suc p.block; at = 0 })
  returns_to l p at found = (p, (at, refl), found, refl)

-- ---- the operations of a function that returns a value

abbrev ops_by : Function → (label frame : ℕ) → Steps → List Op
ops_by f l frame s = entry_from 2 (frame + 2) 0 (length f.params) ++ (s.ops nowhere (scalar_count f) (l + 1) ++ ending (is_main f) (scalar_count f + s.temps))

ops_are : (f : Function) (l frame : ℕ) (s : Steps) → frame_bytes [] 16 f ≡ frame → body_steps [] 16 source f ≡ s → function_ops [] 16 2 source f l ≡ ops_by f l frame s
ops_are f l frame s e g = ap (λ n. ops_by f l n (body_steps [] 16 source f)) e ∙ ap (ops_by f l frame) g

abbrev returning : Naive → Steps
returning n = enclosed (joined (joined (used n.value [] (λ r t. set_result r ∷ [])) (leaving (record { bits = 16; storage = λ x. Missing }) [] (λ a. code.Returns))) no_steps)

body_is : (c : Site) (locals : List Thing) (e : TypedExpr) (n : Naive) → naive c e ≡ n → steps_of c locals (block (return e ∷ [])) ≡ returning n
body_is c locals e n is =
    fold-roll-Stat Steps (node_steps c locals) (Block somewhere (return e ∷ []))
    ∙ (ap (λ p. enclosed (joined p no_steps)) (fold-roll-Stat Steps (node_steps c locals) (Return somewhere (Some e))) ∙ ap returning is)

abbrev place : ℕ → ℕ → Place
place block at = record { block = block; at = at }

-- ---- the code of `f`

abbrev adding_ops : List Op
adding_ops = load_home 0 60 ∷ copy 1 0 ∷ address 2 0 ∷ load 2 2 ∷ add 1 2 ∷ set_result 1 ∷ Close code.Returns 11 ∷ []

abbrev adding_routine : Routine
adding_routine = routine 1 adding adding_code

abbrev adding_site : Site
adding_site = site_of [] 16 source adding

abbrev sum_code : Naive
sum_code = naive_node adding_site (Binary (of_int 1) (naive_node adding_site (Object (of_int 1) (Parameter 0))) Add (naive_node adding_site (Object (of_int 1) (Static 0))))

sum_is : naive adding_site (two 1 (parameter 0) Add (static 0)) ≡ sum_code
sum_is =
    fold-roll-TypedExpr Naive (naive_node adding_site) (Binary (of_int 1) (parameter 0) Add (static 0))
    ∙ (ap (λ a. naive_node adding_site (Binary (of_int 1) a Add (naive adding_site (static 0)))) (fold-roll-TypedExpr Naive (naive_node adding_site) (Object (of_int 1) (Parameter 0)))
    ∙ ap (λ b. naive_node adding_site (Binary (of_int 1) (naive_node adding_site (Object (of_int 1) (Parameter 0))) Add b))
    (fold-roll-TypedExpr Naive (naive_node adding_site) (Object (of_int 1) (Static 0))))

adding_body : body_steps [] 16 source adding ≡ returning sum_code
adding_body = body_is adding_site [] (two 1 (parameter 0) Add (static 0)) sum_code sum_is

adding_frame : frame_bytes [] 16 adding ≡ 58
adding_frame = simp (fold-roll-Stat, fold-roll-TypedExpr) refl

adding_is : function_ops [] 16 2 source adding 10 ≡ adding_ops
adding_is = ops_are adding 10 58 (returning sum_code) adding_frame adding_body

adding_stands : Stands 16 fixed adding_routine adding_ops (place 0 0) (place 1 0)
adding_stands = (
  place 0 1,
  makes adding_routine _ _ (place 0 0) refl (omega arith),
  (
    place 0 2,
    makes adding_routine _ _ (place 0 1) refl (omega arith),
    (
      place 0 3,
      makes adding_routine _ _ (place 0 2) refl (omega arith),
      (
        place 0 4,
        makes adding_routine _ _ (place 0 3) refl (omega arith),
        (
          place 0 5,
          makes adding_routine _ _ (place 0 4) refl (omega arith),
          (
            place 0 6,
            makes adding_routine _ _ (place 0 5) refl (omega arith),
            (
              place 1 0,
              returns_to adding_routine 11 (place 0 6) refl refl,
              refl,
            ),
          ),
        ),
      ),
    ),
  ),
)

adding_expands : Expands target fixed source adding 10 adding_routine
adding_expands = record {
  params = refl;
  frame = refl;
  first_home = refl;
  slots = refl;
  homes = refl;
  last = place 1 0;
  stands = subst (λ os. Stands 16 fixed adding_routine os (place 0 0) (place 1 0)) (sym adding_is) adding_stands;
  returns = refl;
}

-- ---- the code of `main`

abbrev starting_ops : List Op
starting_ops = constant 0 5 ∷ store_top 0 ∷ Close (code.Calls 0) 21 ∷ read_result 1 ∷ set_result 1 ∷ Close code.Returns 22 ∷ constant 2 0 ∷ set_result 2 ∷ []

abbrev starting_routine : Routine
starting_routine = routine 0 starting starting_code

abbrev starting_site : Site
starting_site = site_of [] 16 source starting

abbrev call_code : Naive
call_code = naive_node starting_site (Call (of_int 1) (Defined 0) (naive_node starting_site (Constant (of_int 1) 5) ∷ []))

call_is : naive starting_site (call 1 (Defined 0) (number 1 5 ∷ [])) ≡ call_code
call_is = simp fold-roll-TypedExpr refl

starting_body : body_steps [] 16 source starting ≡ returning call_code
starting_body = body_is starting_site [] (call 1 (Defined 0) (number 1 5 ∷ [])) call_code call_is

starting_frame : frame_bytes [] 16 starting ≡ 54
starting_frame = simp (fold-roll-Stat, fold-roll-TypedExpr) refl

starting_is : function_ops [] 16 2 source starting 20 ≡ starting_ops
starting_is = ops_are starting 20 54 (returning call_code) starting_frame starting_body

starting_stands : Stands 16 fixed starting_routine starting_ops (place 0 0) (place 2 2)
starting_stands = (
  place 0 1,
  makes starting_routine _ _ (place 0 0) refl (omega arith),
  (
    place 0 2,
    makes starting_routine _ _ (place 0 1) refl (omega arith),
    (
      place 1 0,
      (place 0 2, ((calling, refl, refl), refl), refl, refl),
      (
        place 1 1,
        makes starting_routine _ _ (place 1 0) refl (omega arith),
        (
          place 1 2,
          makes starting_routine _ _ (place 1 1) refl (omega arith),
          (
            place 2 0,
            returns_to starting_routine 22 (place 1 2) refl refl,
            (
              place 2 1,
              makes starting_routine _ _ (place 2 0) refl (omega arith),
              (
                place 2 2,
                makes starting_routine _ _ (place 2 1) refl (omega arith),
                refl,
              ),
            ),
          ),
        ),
      ),
    ),
  ),
)

starting_expands : Expands target fixed source starting 20 starting_routine
starting_expands = record {
  params = refl;
  frame = refl;
  first_home = refl;
  slots = refl;
  homes = refl;
  last = place 2 2;
  stands = subst (λ os. Stands 16 fixed starting_routine os (place 0 0) (place 2 2)) (sym starting_is) starting_stands;
  returns = refl;
}

-- ---- the premises

fixed_by : IsFixedBy target fixed
fixed_by = record { bits = refl; stack = refl; result = refl; link = refl; memory = refl }

no_link : {A : Type 0} (z : ℕ) → None ≡ Some z → A
no_link z e = absurd (grind (arith, e))

is_target : IsTarget target
is_target = record {
  size = inl refl;
  memory = omega arith;
  words = refl;
  stack = refl;
  result = refl;
  link = λ z e. no_link z e;
  stack_is_no_result = λ e. omega (arith, e);
  stack_is_no_link = λ z e. no_link z e;
  result_is_no_link = λ z e. no_link z e;
  kept = All-nil _;
  kept_differ = λ i j d lt less. absurd (omega (arith, less));
}

machine : IsSoundTarget target image
machine = record {
  target = is_target;
  bytes = All-cons (λ b. b < 256) 7 (0 ∷ []) (omega arith) (All-cons (λ b. b < 256) 0 [] (omega arith) (All-nil (λ b. b < 256)));
  symbols = All-cons (λ a. a < 65536) 1000 [] (omega arith) (All-nil (λ a. a < 65536));
  room = omega arith;
}

abbrev the_static : Value
the_static = record { object = object type.Int None; init = 7 ∷ [] }

holds_static : HoldsStatic target image 0 the_static
holds_static = record { from = omega arith; to = omega arith; aligned = refl; values = values }
  where
    values : (i v : ℕ) → i < 1 → listed 16 (Some the_static) i ≡ Some v → word_at (first_byte target image) (1000 + 2 * i) 2 ≡ Some (v % 65536)
    values zero v lt e = ap (λ o. Some (unwrap_or o 7 % 65536)) e
    values (suc i) v lt e = absurd (omega (arith, lt))

none_there : {A B : Type 0} (x : B) → None ≡ Some x → A
none_there x e = absurd (grind (arith, e))

unit : IsUnitOf target fixed source image
unit = record { main = refl; functions = functions; statics = statics; apart = apart }
  where
    functions : (g : ℕ) (f : Function) → slice_get source.functions g ≡ Some f → (label : ℕ) × Expands target fixed source f label (image.routines g)
    functions zero f e = (10, subst (λ h. Expands target fixed source h 10 adding_routine) (ap (λ o. unwrap_or o adding) e) adding_expands)
    functions (suc zero) f e = (20, subst (λ h. Expands target fixed source h 20 starting_routine) (ap (λ o. unwrap_or o starting) e) starting_expands)
    functions (suc (suc g)) f e = none_there f e

    statics : (x : ℕ) (s : Value) → slice_get source.statics x ≡ Some s → HoldsStatic target image x s
    statics zero s e = subst (HoldsStatic target image 0) (ap (λ o. unwrap_or o the_static) e) holds_static
    statics (suc x) s e = none_there s e

    apart : (x y : ℕ) (s r : Value) → x < y → slice_get source.statics x ≡ Some s → slice_get source.statics y ≡ Some r
        → slice_index image.symbols x + object_bytes 16 s.object ≤ slice_index image.symbols y
    apart x zero s r lt e f = absurd (omega (arith, lt))
    apart x (suc y) s r lt e f = none_there r f

runs : source_run (setting_of [] 16 4000) source [] 2 ≡ Ended [] 12
runs = simp (fold-roll-Stat, fold-roll-TypedExpr) refl

clean : IsClean (setting_of [] 16 4000) source []
clean = ended_is_clean (setting_of [] 16 4000) source [] 2 [] 12 runs

sound : is_sound [] 16 source ≡ true
sound = simp (fold-roll-Stat, fold-roll-TypedExpr) refl

pub premises_are_met : PremisesAreMet
premises_are_met = record { fixed_by = fixed_by; machine = machine; sound = sound; unit = unit; clean = clean }

-- by the law the code ends as its source does
pub ends_as_its_source : EndsAsItsSource
ends_as_its_source =
    let same = naive_is_same target fixed source image fixed_by machine sound unit [] (All-nil (λ byte. byte < 256)) clean in
    (runs, same.ends 2 [] 12 runs)
